-- What stands where the whole board is reset.
use Rattle.std.proofs.Common.{◌≡◌, refl, ap, sym, subst, ◌∙◌, ℕ, zero, suc, ◌+◌, true, false, List, [], ◌∷◌, Option, Some, None, IfSome, IfNone, is_some, add-one}
use Rattle.std.specs.Prelude.{◌==◌, slice_get}
use Rattle.std.specs.List.{AllByRecursion}
use Rattle.std.proofs.lemmas.Bool.{eq-eqb}
use Rattle.std.proofs.lemmas.Option.{same_Some}
use Rattle.qo_values.specs.declared.births.TheConstants.{MACHINE_BIRTH, ROOT_BIRTH}
use Rattle.qo_slots.specs.declared.keys.Key.{Key}
use Rattle.qo_object.specs.Content.{Content}
use Rattle.qo_object.specs.BoardObject.{birth_of}
use Rattle.qo_model.specs.Board.{Board, Removal, is_live}
use Rattle.qo_model.specs.Hotplug.{all_completed, completed}
use Rattle.qo_heap.specs.Objects.{content_of}
use Rattle.qo_heap.proofs.BoardReads.{shows-live}
use Rattle.qo_sound.proofs.ViewLemmas.{rest-from_sound}
use Rattle.qo_sound_devices.specs.SoundLists.{IsOn}
use Rattle.qo_sound_devices.proofs.PlacesLemmas.{child-live, stands-live}
use Rattle.qo_realize.specs.Parts.{Parts}
use Rattle.qo_realize.specs.Removals.{first_device, is_listed}
use Rattle.qo_realize.specs.Representation.{Stands, StandsForGood}

-- what is said where there is none
pub none-said : {T : Type 0} (o : Option T) (P : Type 0) → ((x : T) → o ≡ Some x → ⊥) → IfNone o P → P
none-said None P not h = h
none-said (Some x) P not h = absurd (not x refl)

pub none-told : (o : Option Key) → ((x : Key) → o ≡ Some x → ⊥) → None ≡ birth_of o
none-told None not = refl
none-told (Some x) not = absurd (not x refl)

-- what is there on the board is there on the heap
not-gone : (b : Board) (p : Parts) → Stands b p → (n : ℕ) → is_live b n ≡ true → content_of p.objects n ≡ None → ⊥
not-gone b p s n live gone =
    let clash : false ≡ true = sym (ap (λ (o : Option Content). is_some o) gone) ∙ sym (shows-live b p.objects s.shows n) ∙ live in cc

pub machine-there : (p : Parts) → StandsForGood p → content_of p.objects MACHINE_BIRTH ≡ None → ⊥
machine-there p (b, s, good) =
    not-gone b p s MACHINE_BIRTH (child-live b (rest-from_sound b good.run.devices.tree).used.firm ROOT_BIRTH MACHINE_BIRTH good.run.devices.places.1.machine)

-- the first device whose removal is pending
pub first_listed : (removals : List Removal) (d : ℕ) → Some d ≡ first_device removals → is_listed d removals ≡ true
first_listed [] d e = absurd (let clash : Some d ≡ None = e in cc)
first_listed (r ∷ removals) d e = let same : (r.birth == d) ≡ true = eq-eqb r.birth d (sym (same_Some d r.birth e)) in rw same refl

first-device : (P : ℕ → Type 0) (removals : List Removal) → AllByRecursion (λ (r : Removal). P r.birth) removals → (d : ℕ)
    → first_device removals ≡ Some d → P d
first-device P [] h d e = absurd (let clash : None ≡ Some d = e in cc)
first-device P (r ∷ removals) h d e = subst P (same_Some r.birth d e) h.0

pending-there : (p : Parts) → StandsForGood p → (d : ℕ) → first_device p.pending ≡ Some d → content_of p.objects d ≡ None → ⊥
pending-there p (b, s, good) d is =
    let on : IsOn b d = first-device (IsOn b) b.pending good.run.devices.lists.pending d (ap first_device s.pending ∙ is) in
    not-gone b p s d (stands-live b (rest-from_sound b good.run.devices.tree).used.firm d on.0)

pub first-told : (p : Parts) (d : ℕ) (o : Option Key) → StandsForGood p → first_device p.pending ≡ Some d → IfSome o (λ k. k.birth ≡ d)
    → IfNone o (content_of p.objects d ≡ None) → birth_of o ≡ first_device p.pending
first-told p d (Some k) good is born none = ap (λ (n : ℕ). Some n) born ∙ sym is
first-told p d None good is born none = absurd (pending-there p good d is none)

-- one removal more that comes to its end
abbrev one_more : Board → Option ℕ → Board
one_more b None = b
one_more b (Some d) = completed b d

completed-more : (k : ℕ) (b : Board) → all_completed (suc k) b ≡ one_more (all_completed k b) (first_device (all_completed k b).pending)
completed-more zero b = go (slice_get b.pending 0) refl
  where
    go : (o : Option Removal) → slice_get b.pending 0 ≡ o → all_completed 1 b ≡ one_more b (first_device b.pending)
    go None e = rw (all_completed, first_device, e) refl
    go (Some r) e = rw (all_completed, first_device, e) refl
completed-more (suc k) b = go (slice_get b.pending 0) refl (completed-more k)
  where
    go : (o : Option Removal) → slice_get b.pending 0 ≡ o
        → ((c : Board) → all_completed (suc k) c ≡ one_more (all_completed k c) (first_device (all_completed k c).pending))
        → all_completed (suc (suc k)) b ≡ one_more (all_completed (suc k) b) (first_device (all_completed (suc k) b).pending)
    go None e rest = rw (all_completed, e) (rw (first_device, e) refl)
    go (Some r) e rest = rw (all_completed, e) (rest (completed b r.birth))

pub more-none : (k : ℕ) (b : Board) (p : Parts) → Stands (all_completed k b) p → None ≡ first_device p.pending → Stands (all_completed (k + 1) b) p
more-none k b p s none =
    let same : all_completed (suc k) b ≡ all_completed k b =
    completed-more k b ∙ ap (one_more (all_completed k b)) (ap first_device s.pending ∙ sym none) in
    rw add-one (subst (λ (c : Board). Stands c p) (sym same) s)

pub more-some : (k d : ℕ) (b : Board) (p q : Parts) → Stands (all_completed k b) p → Some d ≡ first_device p.pending
    → ((c : Board) → Stands c p → Stands (completed c d) q) → Stands (all_completed (k + 1) b) q
more-some k d b p q s some comes =
    let same : all_completed (suc k) b ≡ completed (all_completed k b) d =
    completed-more k b ∙ ap (one_more (all_completed k b)) (ap first_device s.pending ∙ sym some) in
    rw add-one (subst (λ (c : Board). Stands c q) (sym same) (comes (all_completed k b) s))
