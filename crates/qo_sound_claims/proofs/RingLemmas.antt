-- Rings that are added, removed and filled.
use Rattle.std.proofs.Common.{◌≡◌, ◌≢◌, refl, ap, sym, subst, ◌∙◌, ℕ, ◌≤◌, Bool, true, false, not, ◌&&◌, ◌||◌, ◌==◌, List, [], ◌∷◌, ◌++◌, filter, length, map, Option, Some, None, codes}
use Rattle.qo_model.proofs.Common.{AllByRecursion, IsDistinct, list_any, option_map_or, bytes_eq, is_ring_size, Board, Record, Ring, record_of, is_realized, text_at, is_of, claims_ring, has_ring, is_a}
use Rattle.std.proofs.lemmas.Bool.{and_parts}
use Rattle.std.proofs.lemmas.Option.{same_Some}
use Rattle.std.proofs.lemmas.Slice.Eq.{bytes_eq-Decides}
use Rattle.qo_model.proofs.StepLemmas.{found_at, found-birth}
use Rattle.qo_sound.proofs.RecordLemmas.{all-append, all-filter}
use Rattle.qo_sound_claims.specs.ClaimsKept.{ring_frame}
use Rattle.qo_sound_claims.specs.SoundBackends.{SoundBackends}
use Rattle.qo_sound_claims.specs.SoundClaims.{is_uart_on, SoundClaims}
use Rattle.qo_sound_claims.specs.SoundRings.{IsGoodRing, ring_ids}
use Rattle.qo_sound_claims.proofs.DependenceLemmas.{moved-claims}
use Rattle.qo_sound_claims.proofs.ReadLemmas.{kind-at}

-- claims with other rings, where those that are named are still there
pub other-rings : (b : Board) (rings : List Ring) → ((n : ℕ) (id : List ℕ) → is_uart_on b n ≡ true → text_at b n (codes "chardev") ≡ Some id → id ≢ []
    → has_ring b id ≡ true → list_any (λ (r : Ring). bytes_eq r.id id) rings ≡ true) → SoundClaims b → SoundClaims (record b { rings = rings })
other-rings b rings still h = moved-claims b b rings still h

-- a ring more

any-append : {A : Type 0} (p : A → Bool) (xs ys : List A) → list_any p xs ≡ true → list_any p (xs ++ ys) ≡ true
any-append p [] ys e = cc
any-append p (x ∷ xs) ys e = go (p x) refl (any-append p xs ys)
  where
    go : (t : Bool) → p x ≡ t → (list_any p xs ≡ true → list_any p (xs ++ ys) ≡ true) → list_any p ((x ∷ xs) ++ ys) ≡ true
    go true q rest = rw q refl
    go false q rest = rw q (rest (rw q at e))

ids-append : (rings : List Ring) (r : Ring) → IsDistinct bytes_eq (ring_ids rings) → list_any (λ (x : Ring). bytes_eq x.id r.id) rings ≡ false
    → IsDistinct bytes_eq (ring_ids (rings ++ r ∷ []))
unfolding IsDistinct
ids-append [] r h e = (tt, tt)
ids-append (x ∷ rings) r h e = go (bytes_eq x.id r.id) refl (ids-append rings r h.1)
  where
    other : (id : List ℕ) → bytes_eq id r.id ≡ false → (xs : List Ring) → AllByRecursion (λ m. bytes_eq id m ≡ false) (ring_ids xs)
        → AllByRecursion (λ m. bytes_eq id m ≡ false) (ring_ids (xs ++ r ∷ []))
    other id apart [] k = (apart, tt)
    other id apart (y ∷ xs) k = (k.0, other id apart xs k.1)

    go : (t : Bool) → bytes_eq x.id r.id ≡ t → (list_any (λ (y : Ring). bytes_eq y.id r.id) rings ≡ false → IsDistinct bytes_eq (ring_ids (rings ++ r ∷ [])))
        → IsDistinct bytes_eq (ring_ids ((x ∷ rings) ++ r ∷ []))
    go true p rest = absurd (let clash : true ≡ false = rw p at e in cc)
    go false p rest = (other x.id p rings h.0, rest (rw p at e))

pub ring-added : (b : Board) (r : Ring) → has_ring b r.id ≡ false → IsGoodRing r → SoundBackends b → SoundBackends (record b { rings = b.rings ++ r ∷ [] })
ring-added b r new good h =
    record {
      rings =
          record { once = ids-append b.rings r h.rings.once new; each = all-append IsGoodRing b.rings (r ∷ []) h.rings.each (good, tt) };
      claims = other-rings b (b.rings ++ r ∷ []) (λ n id on is some there. any-append (λ (x : Ring). bytes_eq x.id id) b.rings (r ∷ []) there) h.claims;
    }

-- a ring less

kept-others : (id : List ℕ) (p : Ring → Bool) (rings : List Ring) → AllByRecursion (λ m. bytes_eq id m ≡ false) (ring_ids rings)
    → AllByRecursion (λ m. bytes_eq id m ≡ false) (ring_ids (filter p rings))
kept-others id p [] h = tt
kept-others id p (x ∷ rings) h = go (p x) refl (kept-others id p rings h.1)
  where
    go : (t : Bool) → p x ≡ t → AllByRecursion (λ m. bytes_eq id m ≡ false) (ring_ids (filter p rings))
        → AllByRecursion (λ m. bytes_eq id m ≡ false) (ring_ids (filter p (x ∷ rings)))
    go true q rest = rw q (h.0, rest)
    go false q rest = rw q rest

ids-filter : (p : Ring → Bool) (rings : List Ring) → IsDistinct bytes_eq (ring_ids rings) → IsDistinct bytes_eq (ring_ids (filter p rings))
unfolding IsDistinct
ids-filter p [] h = tt
ids-filter p (x ∷ rings) h = go (p x) refl (ids-filter p rings h.1)
  where
    go : (t : Bool) → p x ≡ t → IsDistinct bytes_eq (ring_ids (filter p rings)) → IsDistinct bytes_eq (ring_ids (filter p (x ∷ rings)))
    go true q rest = rw q (kept-others x.id p rings h.0, rest)
    go false q rest = rw q rest

-- a ring of another id stays
stays : (id own : List ℕ) → own ≢ id → (rings : List Ring) → list_any (λ (r : Ring). bytes_eq r.id own) rings ≡ true
    → list_any (λ (r : Ring). bytes_eq r.id own) (filter (λ (r : Ring). not (bytes_eq r.id id)) rings) ≡ true
stays id own apart [] e = e
stays id own apart (x ∷ rings) e = go (bytes_eq x.id id) refl (bytes_eq x.id own) refl (stays id own apart rings)
  where
    go : (t : Bool) → bytes_eq x.id id ≡ t → (u : Bool) → bytes_eq x.id own ≡ u
        → (list_any (λ (r : Ring). bytes_eq r.id own) rings ≡ true
        → list_any (λ (r : Ring). bytes_eq r.id own) (filter (λ (r : Ring). not (bytes_eq r.id id)) rings) ≡ true)
        → list_any (λ (r : Ring). bytes_eq r.id own) (filter (λ (r : Ring). not (bytes_eq r.id id)) (x ∷ rings)) ≡ true
    go true p true q rest = absurd (apart (sym ((bytes_eq-Decides x.id own).0 q) ∙ (bytes_eq-Decides x.id id).0 p))
    go true p false q rest = rw p (rest (rw q at e))
    go false p true q rest = rw (p, q) refl
    go false p false q rest = rw (p, q) (rest (rw q at e))

-- what no record passes, the one of a birth does not
pub none-found : (p : Record → Bool) (n : ℕ) (rs : List Record) → list_any p rs ≡ false → (r : Record) → found_at n rs ≡ Some r → p r ≡ false
none-found p n [] e r k = cc
none-found p n (x ∷ rs) e r k = go (p x) refl (x.birth == n) refl (none-found p n rs)
  where
    go : (t : Bool) → p x ≡ t → (u : Bool) → (x.birth == n) ≡ u → (list_any p rs ≡ false → (y : Record) → found_at n rs ≡ Some y → p y ≡ false) → p r ≡ false
    go true q u l rest = absurd (let clash : true ≡ false = rw q at e in cc)
    go false q true l rest = ap p (sym (same_Some x r (rw l at k))) ∙ q
    go false q false l rest = rest (rw q at e) r (rw l at k)

and-true : (t u v : Bool) → t ≡ true → u ≡ true → v ≡ true → (t && u && v) ≡ true
and-true true true v e f g = g
and-true true false v e f g = absurd (let clash : false ≡ true = f in cc)
and-true false u v e f g = absurd (let clash : false ≡ true = e in cc)

-- a realized UART that names a ring claims it
pub claims-it : (b : Board) (id : List ℕ) → list_any (claims_ring b id) b.records ≡ false → (n : ℕ) → is_uart_on b n ≡ true
    → text_at b n (codes "chardev") ≡ Some id → ⊥
claims-it b id none n on text = go (record_of b n) refl
  where
    parts : (is_of b (codes "slot-uart") n ≡ true) × (is_realized b n ≡ true)
    parts = and_parts (is_of b (codes "slot-uart") n) (is_realized b n) on

    go : (o : Option Record) → record_of b n ≡ o → ⊥
    go None q = absurd (let clash : false ≡ true = rw q at parts.0 in cc)
    go (Some r) q =
        let is : r.birth ≡ n = found-birth n b.records r q in
        let kind : is_a r.kind (codes "slot-uart") ≡ true = sym (kind-at b n r q (codes "slot-uart")) ∙ parts.0 in
        let named : option_map_or (bytes_eq id) (text_at b r.birth (codes "chardev")) false ≡ true =
        ap (λ (m : ℕ). option_map_or (bytes_eq id) (text_at b m (codes "chardev")) false) is
        ∙ ap (λ (o : Option (List ℕ)). option_map_or (bytes_eq id) o false) text
        ∙ (bytes_eq-Decides id id).1 refl in
        let claims : claims_ring b id r ≡ true =
        and-true (is_a r.kind (codes "slot-uart")) (is_realized b r.birth) (option_map_or (bytes_eq id) (text_at b r.birth (codes "chardev")) false) kind
        (ap (is_realized b) is ∙ parts.1) named in
        let clash : true ≡ false = sym claims ∙ none-found (claims_ring b id) n b.records none r q in
        absurd cc

pub ring-removed : (b : Board) (id : List ℕ) → list_any (claims_ring b id) b.records ≡ false → SoundBackends b
    → SoundBackends (record b { rings = filter (λ (r : Ring). not (bytes_eq r.id id)) b.rings })
ring-removed b id none h =
    record {
      rings =
          record {
            once = ids-filter (λ (r : Ring). not (bytes_eq r.id id)) b.rings h.rings.once;
            each = all-filter IsGoodRing (λ (r : Ring). not (bytes_eq r.id id)) b.rings h.rings.each;
          };
      claims =
          other-rings b (filter (λ (r : Ring). not (bytes_eq r.id id)) b.rings)
          (λ n own on text some there.
          stays id own (λ same. claims-it b id none n on (subst (λ (x : List ℕ). text_at b n (codes "chardev") ≡ Some x) same text)) b.rings there)
          h.claims;
    }

-- rings with other bytes

frame-ids : (rings : List Ring) → map (λ (f : List ℕ × ℕ). f.0) (map ring_frame rings) ≡ ring_ids rings
frame-ids [] = refl
frame-ids (r ∷ rings) = ap (λ (ids : List (List ℕ)). r.id ∷ ids) (frame-ids rings)

any-frames : (id : List ℕ) (rings : List Ring)
    → list_any (λ (f : List ℕ × ℕ). bytes_eq f.0 id) (map ring_frame rings) ≡ list_any (λ (r : Ring). bytes_eq r.id id) rings
any-frames id [] = refl
any-frames id (r ∷ rings) = ap (λ (t : Bool). bytes_eq r.id id || t) (any-frames id rings)

abbrev GoodFrames : List (List ℕ × ℕ) → Type 0
GoodFrames fs = AllByRecursion (λ (f : List ℕ × ℕ). is_ring_size f.1 ≡ true) fs

frames-good : (rings : List Ring) → AllByRecursion IsGoodRing rings → GoodFrames (map ring_frame rings)
frames-good [] h = tt
frames-good (r ∷ rings) h = (h.0.size, frames-good rings h.1)

good-frames : (rings : List Ring) → GoodFrames (map ring_frame rings) → AllByRecursion (λ (r : Ring). length r.bytes ≤ r.size) rings
    → AllByRecursion IsGoodRing rings
good-frames [] h room = tt
good-frames (r ∷ rings) h room = (record { size = h.0; room = room.0 }, good-frames rings h.1 room.1)

pub ring-filled : (b : Board) (rings : List Ring) → map ring_frame rings ≡ map ring_frame b.rings
    → AllByRecursion (λ (r : Ring). length r.bytes ≤ r.size) rings → SoundBackends b → SoundBackends (record b { rings = rings })
ring-filled b rings same room h =
    record {
      rings =
          record {
            once = subst (IsDistinct bytes_eq) (sym ids) h.rings.once;
            each = good-frames rings (subst GoodFrames (sym same) (frames-good b.rings h.rings.each)) room;
          };
      claims =
          other-rings b rings
          (λ n id on text some there.
          sym (any-frames id rings) ∙ ap (list_any (λ (f : List ℕ × ℕ). bytes_eq f.0 id)) same ∙ any-frames id b.rings ∙ there) h.claims;
    }
  where
    ids : ring_ids rings ≡ ring_ids b.rings
    ids = sym (frame-ids rings) ∙ ap (map (λ (f : List ℕ × ℕ). f.0)) same ∙ frame-ids b.rings
