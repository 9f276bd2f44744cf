-- Commands that rebuild a board of a description keep each of its objects telling the name of its type.
use Rattle.std.proofs.Common.{◌≡◌, refl, ap, subst, ℕ, Bool, true, false, List, [], ◌∷◌, ◌++◌, Option, Some, None, is_some, Result, Ok, Err, arith}
use Rattle.qo_model.proofs.Common.{drop, if◌then◌else◌, admits, PropType, Val, Code, E18, E19, Board, after_write, changed, added, wrote, clock_property_written, div_of, led_to, mul_of, number_written, object_add, object_at, opening_board, plug, role_written, set_property, set_row, typed_written, write, write_at}
use Rattle.qo_values.specs.declared.properties.Val.TheVariants as val
use Rattle.qo_model.specs.declared.properties.Property.{Property}
use Rattle.qo_model.specs.declared.properties.PropertyName.{PropertyName}
use Rattle.qo_model.specs.declared.properties.PropertyName.TheVariants as prop
use Rattle.qo_model.specs.declared.properties.PropertyRole.{PropertyRole}
use Rattle.qo_model.specs.declared.properties.PropertyRole.TheVariants as row
use Rattle.qo_save.specs.Description.{Description, DeviceItem, ObjectItem, RingItem}
use Rattle.qo_save.specs.Rebuilding.{add_device, add_object, add_ring, rebuilt, ring_barred, wanted_by}
use Rattle.qo_sound_clocks.proofs.StepsLemmas.{same_ok}
use Rattle.qo_sound_clocks.proofs.WriteLawLemmas.{writes_keep_lem}
use Rattle.qo_sound_devices.specs.SoundDevices.{SoundDevices}
use Rattle.qo_sound_devices.proofs.DevicesLawLemmas.{devices_kept_lem}
use Rattle.qo_sound_order.proofs.ObjectLemmas.{fact-clock_scaled, fact-clock_set}
use Rattle.qo_sound_shapes.proofs.BoardLemmas.{AllOf, all-same}
use Rattle.qo_alike.specs.AlikeBoards.{TellsTypes}
use Rattle.qo_good.specs.GoodBoards.{IsWhole}
use Rattle.qo_rebuilt.proofs.StepsLemmas.{KeepsStep, rebuilt-kept}
use Rattle.qo_rebuilt.proofs.TypeSlotLemmas.{NoText}
use Rattle.qo_rebuilt.proofs.TypesLemmas.{Plain, changed-plain, from-plain, from-sound, opening-sound, plain-keeps, plugged-right, to-plain}
use Rattle.qo_rebuilt.proofs.WholeLemmas.{read-devices}

-- a board is sound as far as devices go, and its objects are right under `type`
pub record Fine (b : Board) : Type 0 where
  pub devices : SoundDevices b
  pub plain : AllOf Plain b

-- ---- `qom-set`

fine-number : (b c : Board) (n : ℕ) (name : PropertyName) (v : ℕ) → Fine b → number_written b n name v ≡ Ok c → Fine c
fine-number b c n prop.Period v h e =
    record { devices = writes_keep_lem.set_devices b c n v e h.devices; plain = fact-clock_set NoText Plain plain-keeps b c n v tt e h.plain }
fine-number b c n prop.Mul v h e =
    record {
      devices = writes_keep_lem.scaled_devices b c n v (div_of b n) e h.devices;
      plain = fact-clock_scaled NoText Plain plain-keeps b c n v (div_of b n) tt tt e h.plain;
    }
fine-number b c n prop.Div v h e =
    record {
      devices = writes_keep_lem.scaled_devices b c n (mul_of b n) v e h.devices;
      plain = fact-clock_scaled NoText Plain plain-keeps b c n (mul_of b n) v tt tt e h.plain;
    }
fine-number b c n name v h e = absurd (let clash : Err E18 ≡ Ok c = e in cc)

fine-typed : (b c : Board) (n : ℕ) (name : PropertyName) (type : PropType) (v : Val) → Fine b → typed_written b n name type v ≡ Ok c → Fine c
fine-typed b c n name type (val.Uint v) h e = go (admits type (val.Uint v)) e
  where
    go : (t : Bool) → (if t then number_written b n name v else Err E19) ≡ Ok c → Fine c
    go true f = fine-number b c n name v h f
    go false f = absurd (let clash : Err E19 ≡ Ok c = f in cc)
fine-typed b c n name type (val.Bool v) h e = absurd (let clash : Err E19 ≡ Ok c = e in cc)
fine-typed b c n name type (val.Int v) h e = absurd (let clash : Err E19 ≡ Ok c = e in cc)
fine-typed b c n name type (val.Text v) h e = absurd (let clash : Err E19 ≡ Ok c = e in cc)
fine-typed b c n name type val.Nothing h e = absurd (let clash : Err E19 ≡ Ok c = e in cc)

fine-role : (b c : Board) (n : ℕ) (name : PropertyName) (role : PropertyRole) (v : Val) → Fine b → role_written b n name role v ≡ Ok c → Fine c
fine-role b c n name (row.Plain type first) v h e = fine-typed b c n name type v h e
fine-role b c n name (row.Link t holds) v h e = absurd (let clash : Err E18 ≡ Ok c = e in cc)
fine-role b c n name (row.Child t) v h e = absurd (let clash : Err E18 ≡ Ok c = e in cc)
fine-role b c n name (row.Alias owner of) v h e = absurd (let clash : Err E18 ≡ Ok c = e in cc)

fine-clock : (b c : Board) (v : Val) (r : Result (ℕ × Property) Code) → Fine b → clock_property_written b v r ≡ Ok c → Fine c
fine-clock b c v (Ok p) h e = fine-role b c p.0 p.1.name p.1.role v h e
fine-clock b c v (Err code) h e = absurd (let clash : Err code ≡ Ok c = e in cc)

fine-write : (b c : Board) (n : ℕ) (name : List ℕ) (v : Val) → Fine b → write b n name v ≡ Ok c → Fine c
fine-write b c n name v h e =
    let all : Fine (changed b (wrote n name v)) =
    record { devices = devices_kept_lem.change b (wrote n name v) h.devices; plain = changed-plain b (wrote n name v) h.plain } in
    subst Fine (ap (after_write b) e) all

fine-set : (b c : Board) (n : ℕ) (name : List ℕ) (v : Val) → Fine b → set_property b n name v ≡ Ok c → Fine c
fine-set b c n name v h e = go (is_some (set_row b n name)) e
  where
    go : (t : Bool) → (if t then clock_property_written b v (led_to b n name) else write b n name v) ≡ Ok c → Fine c
    go true f = fine-clock b c v (led_to b n name) h f
    go false f = fine-write b c n name v h f

fine-at : (path name : List ℕ) (v : Val) → KeepsStep Fine (λ b. write_at b path name v)
fine-at path name v b c h e = go (object_at b path) e
  where
    go : (r : Result ℕ Code) → (elim r as (λ _. Result Board Code) [ Ok n ↦ set_property b n name v | Err code ↦ Err code ]) ≡ Ok c → Fine c
    go (Ok n) f = fine-set b c n name v h f
    go (Err code) f = absurd (let clash : Err code ≡ Ok c = f in cc)

-- ---- rings, objects and devices that are added

fine-beside : (b c : Board) → c.records ≡ b.records → SoundDevices c → Fine b → Fine c
fine-beside b c same devices h = record { devices = devices; plain = all-same Plain b c same h.plain }

fine-ring : (r : RingItem) → KeepsStep Fine (add_ring r)
fine-ring r b c h e = go (ring_barred b r) e
  where
    d : Board
    d = record b { rings = b.rings ++ record { id = r.id; size = r.size; bytes = [] } ∷ [] }

    go : (o : Option Code) → (elim o as (λ _. Result Board Code) [ Some code ↦ Err code | None ↦ Ok d ]) ≡ Ok c → Fine c
    go None f =
        subst Fine (same_ok d c f)
        (fine-beside b d refl (devices_kept_lem.beside b d refl refl refl refl refl refl (omega arith) h.devices) h)
    go (Some code) f = absurd (let clash : Err code ≡ Ok c = f in cc)

fine-object : (o : ObjectItem) → KeepsStep Fine (add_object o)
fine-object o b c h e = go (object_add b o.kind o.id o.props).refusal e
  where
    d : Board
    d = (object_add b o.kind o.id o.props).board

    go : (r : Option Code) → (elim r as (λ _. Result Board Code) [ Some code ↦ Err code | None ↦ Ok d ]) ≡ Ok c → Fine c
    go None f =
        subst Fine (same_ok d c f)
        (record { devices = devices_kept_lem.change b (added o.kind o.id o.props) h.devices; plain = changed-plain b (added o.kind o.id o.props) h.plain })
    go (Some code) f = absurd (let clash : Err code ≡ Ok c = f in cc)

fine-device : (x : DeviceItem) → KeepsStep Fine (add_device x)
fine-device x b c h e = go (plug b (wanted_by x)).refusal e
  where
    d : Board
    d = (plug b (wanted_by x)).board

    last : Board
    last = record d { notices = drop 1 d.notices }

    all : Fine d
    all =
        record {
          devices = devices_kept_lem.plugged b (wanted_by x) h.devices;
          plain = to-plain d (plugged-right b (wanted_by x) h.devices (from-plain b h.plain));
        }

    go : (r : Option (ℕ × Code)) → (elim r as (λ _. Result Board Code) [ Some refusal ↦ Err refusal.1 | None ↦ Ok last ]) ≡ Ok c → Fine c
    go None f = subst Fine (same_ok last c f) (fine-beside d last refl (read-devices d all.devices) all)
    go (Some refusal) f = absurd (let clash : Err refusal.1 ≡ Ok c = f in cc)

-- ---- all of them

-- the objects of a board that is rebuilt, and whole, tell their types
pub rebuilt-tells : (d : Description) (c : Board) → rebuilt d ≡ Ok c → IsWhole c → TellsTypes c
rebuilt-tells d c e h =
    let fine : Fine c =
    rebuilt-kept Fine (record { wrote = fine-at; ring_added = fine-ring; object_added = fine-object; device_added = fine-device })
    (record { devices = devices_kept_lem.opening; plain = to-plain opening_board opening-sound }) d c e in
    from-sound c h.order.shape (from-plain c fine.plain)
