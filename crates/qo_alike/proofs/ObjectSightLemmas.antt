-- How users' objects show.
use Rattle.std.proofs.Common.{◌≡◌, ◌⊎◌, inl, inr, refl, ap, sym, ◌∙◌, ℕ, true, false, List, [], ◌∷◌, ◌++◌, Option, Some, unwrap_or, codes, arith}
use Rattle.qo_model.proofs.Common.{AllByRecursion, option_map_or, type_name, OBJECTS_BIRTH, PERIPHERAL_BIRTH, TypeId, MemoryBackendRam, Object, Tag, Given, Board, plain, kind_of, path_down_to, property_named, slots_of, types}
use Rattle.qo_values.specs.declared.properties.Val.TheVariants as val
use Rattle.qo_model.specs.Properties.{path_text}
use Rattle.qo_model.specs.Types.{property, TypeInfo, type_named}
use Rattle.qo_model.specs.declared.properties.Access.TheVariants.{Both}
use Rattle.qo_model.specs.declared.properties.Property.{Property}
use Rattle.qo_model.specs.declared.properties.PropertyName.{PropertyName}
use Rattle.qo_model.specs.declared.properties.PropertyName.TheVariants as prop
use Rattle.qo_model.specs.declared.properties.PropertyRole.TheVariants as row
use Rattle.qo_save.specs.Described.{description, is_describable}
use Rattle.qo_save.specs.Description.{Description, ObjectItem}
use Rattle.qo_save.specs.Like.{Shown, Sight, value}
use Rattle.qo_sound_devices.specs.SoundPlaces.{child_entries}
use Rattle.qo_good.specs.Good.{object_path, OneOf}
use Rattle.qo_good.specs.GoodBoards.{IsWhole}
use Rattle.qo_good.proofs.ItemLemmas.{one-append, one-imply}
use Rattle.qo_good.proofs.ObjectLemmas.{creatable-two, memory-props, MemoryProps, tag-props, TagProps}
use Rattle.qo_good.proofs.PartLemmas.{Here, object_as}
use Rattle.qo_good.proofs.PlaceLemmas.{apart, object-way, one-entry, told}
use Rattle.qo_good.proofs.ValueLemmas.{named}
use Rattle.qo_alike.specs.AlikeBoards.{TellsTypes}
use Rattle.qo_alike.specs.Seen.{object_seen, object_shows, seen_as, value_said}
use Rattle.qo_alike.proofs.DeviceSightLemmas.{leaf-types}
use Rattle.qo_alike.proofs.OwnerLemmas.{link-seen}
use Rattle.qo_alike.proofs.PreorderLemmas.{look, look-leaf}
use Rattle.qo_alike.proofs.RowsLemmas.{RowAt, RowSeen}
use Rattle.qo_alike.proofs.SightLemmas.{sight-bare, type-slot}

abbrev next_row : Property
next_row = property prop.Next (row.Link Object true) Both

abbrev seen_row : Property
seen_row = property prop.Seen (row.Link Object false) Both

next-named : property_named Tag (codes "next") ≡ Some next_row
unfolding types
next-named = refl

seen-named : property_named Tag (codes "seen") ≡ Some seen_row
unfolding types
seen-named = refl

-- by the name of its type
abbrev by_name : Description → ObjectItem → List ℕ → List Sight
by_name d o name = option_map_or (λ (r : TypeInfo). seen_as (object_path o.id) r.id (object_shows d o) [] ∷ []) (type_named name) []

memory-named : (d : Description) (o : ObjectItem) → by_name d o (type_name MemoryBackendRam) ≡ seen_as (object_path o.id) MemoryBackendRam (object_shows d o) [] ∷ []
unfolding types
memory-named d o = refl

tag-named : (d : Description) (o : ObjectItem) → by_name d o (type_name Tag) ≡ seen_as (object_path o.id) Tag (object_shows d o) [] ∷ []
unfolding types
tag-named d o = refl

module _ (b : Board) (h : IsWhole b) (tells : TellsTypes b) (says : is_describable b ≡ true) (e : List ℕ × ℕ)
    (k : Here b OBJECTS_BIRTH (codes "user-creatable") e) where
  abbrev shows : PropertyName → Shown
  shows = object_shows (description b) (object_as b e)

  way : path_down_to b e.1 ≡ Some (object_path e.0)
  way = object-way b h.order e.1 e.0 k.there

  path : path_text b e.1 ≡ object_path e.0
  path = told b h.order e.1 (object_path e.0) (apart b h.order OBJECTS_BIRTH e (omega arith) k.there) way

  kind-said : (t : TypeId) → kind_of b e.1 ≡ Some t → (object_as b e).kind ≡ type_name t
  kind-said t kind = ap (λ (o : Option TypeId). type_name (unwrap_or o Object)) kind

  abbrev type_at : (t : TypeId) → kind_of b e.1 ≡ Some t → RowAt b e.1 shows prop.Type
  type_at t kind =
      record {
        slot = plain (val.Text (type_name t));
        found = type-slot b h.order tells e.1 t kind;
        so = ap (λ (n : List ℕ). value (val.Text n)) (sym (kind-said t kind));
      }

  one : OneOf (λ (x : List ℕ × ℕ). x.1 ≡ e.1) (child_entries b OBJECTS_BIRTH ++ child_entries b PERIPHERAL_BIRTH)
  one =
      one-append (λ (x : List ℕ × ℕ). x.1 ≡ e.1) (child_entries b OBJECTS_BIRTH) (child_entries b PERIPHERAL_BIRTH)
      (inl (one-imply (λ (x : List ℕ × ℕ). (x.0 ≡ e.0) × (x.1 ≡ e.1)) (λ (x : List ℕ × ℕ). x.1 ≡ e.1) (λ x q. q.1) (child_entries b OBJECTS_BIRTH)
      (one-entry e (child_entries b OBJECTS_BIRTH) k.there)))

  memory-rows : kind_of b e.1 ≡ Some MemoryBackendRam → MemoryProps b e.1 → AllByRecursion (RowSeen b e.1 shows) (slots_of MemoryBackendRam)
  unfolding types
  memory-rows kind p = (
    type_at MemoryBackendRam kind,
    (
      record {
        slot = plain (val.Uint p.size);
        found = p.at;
        so = ap (λ (ps : List Given). value (value_said ps (codes "size"))) (sym p.props);
      },
      tt,
    ),
  )

  tag-rows : kind_of b e.1 ≡ Some Tag → TagProps b e.1 → AllByRecursion (RowSeen b e.1 shows) (slots_of Tag)
  unfolding types
  tag-rows kind p =
      let (s, (next_at, next_fits)) = named b h.order.shape e.1 Tag kind (codes "next") next_row next-named refl in
      let (w, (seen_at, seen_fits)) = named b h.order.shape e.1 Tag kind (codes "seen") seen_row seen-named refl in (
        type_at Tag kind,
        (
          record {
            slot = plain p.text;
            found = p.text_at;
            so = ap (λ (ps : List Given). value (value_said ps (codes "text"))) (sym p.props);
          },
          (
            record {
              slot = plain p.number;
              found = p.number_at;
              so = ap (λ (ps : List Given). value (value_said ps (codes "number"))) (sym p.props);
            },
            (
              record {
                slot = plain p.flag;
                found = p.flag_at;
                so = ap (λ (ps : List Given). value (value_said ps (codes "flag"))) (sym p.props);
              },
              (
                record {
                  slot = s;
                  found = next_at;
                  so = link-seen b h.order e.1 (object_path e.0) way path Tag kind (codes "next") next_row Object true next-named refl refl s next_at next_fits one;
                },
                (
                  record {
                    slot = w;
                    found = seen_at;
                    so = link-seen b h.order e.1 (object_path e.0) way path Tag kind (codes "seen") seen_row Object false seen-named refl refl w seen_at seen_fits one;
                  },
                  tt,
                ),
              ),
            ),
          ),
        ),
      )

  memory-look : kind_of b e.1 ≡ Some MemoryBackendRam → look b h.order e.1 ≡ object_seen (description b) (object_as b e)
  memory-look kind =
      let p : MemoryProps b e.1 = memory-props b h.order.shape e.1 kind in
      look-leaf b h.order e.1 MemoryBackendRam kind leaf-types.1.1.1.1.0.0 leaf-types.1.1.1.1.0.1
      ∙ ap (λ (s : Sight). s ∷ []) (sight-bare b h.order e.1 MemoryBackendRam kind (object_path e.0) path (λ s y. y) shows (memory-rows kind p))
      ∙ sym (memory-named (description b) (object_as b e))
      ∙ sym (ap (by_name (description b) (object_as b e)) (kind-said MemoryBackendRam kind))

  tag-look : kind_of b e.1 ≡ Some Tag → look b h.order e.1 ≡ object_seen (description b) (object_as b e)
  tag-look kind =
      look-leaf b h.order e.1 Tag kind leaf-types.1.1.1.1.1.0.0 leaf-types.1.1.1.1.1.0.1
      ∙ ap (λ (s : Sight). s ∷ [])
      (sight-bare b h.order e.1 Tag kind (object_path e.0) path (λ s y. y) shows (tag-rows kind (tag-props b h.order.shape e.1 kind)))
      ∙ sym (tag-named (description b) (object_as b e))
      ∙ sym (ap (by_name (description b) (object_as b e)) (kind-said Tag kind))

  pub object-look : look b h.order e.1 ≡ object_seen (description b) (object_as b e)
  object-look = by (creatable-two k.kind k.concrete k.wants)
    where
      by : (k.kind ≡ MemoryBackendRam) ⊎ (k.kind ≡ Tag) → look b h.order e.1 ≡ object_seen (description b) (object_as b e)
      by (inl is) = memory-look (k.its ∙ ap Some is)
      by (inr is) = tag-look (k.its ∙ ap Some is)
