-- Lists of devices that are kept, where fewer are in them and those that stay in them stay in their places.
use Rattle.std.proofs.Common.{nat_eq, ◌≡◌, refl, ℕ, ◌≤◌, Bool, true, false, ◌||◌, ◌==◌, eqb, List, [], ◌∷◌, filter, length, None, arith}
use Rattle.qo_model.proofs.Common.{AllByRecursion, IsDistinct, list_any, NOTICES_MAX, Board, Notice, among}
use Rattle.std.proofs.lemmas.Bool.{eq-eqb, or_left}
use Rattle.std.proofs.Math.Bool.{or-true}
use Rattle.qo_model.specs.Board.{Removal, is_of_device, is_pending}
use Rattle.qo_sound.proofs.RecordLemmas.{all-both}
use Rattle.qo_values.proofs.ListLemmas.{all-imply}
use Rattle.qo_sound_devices.specs.SoundLists.{IsOn, SoundLists, births_of}
use Rattle.qo_sound_devices.specs.SoundPlaces.{PlacesBut, stands}
use Rattle.qo_sound_devices.proofs.DetachmentLemmas.{within-short}
use Rattle.qo_sound_devices.proofs.PlacesLemmas.{all-within, more, nothing, same, within-same, Within}

-- whether the guest has a notice of a device; whether a list of the board names it
abbrev pub told : List Notice → ℕ → Bool
told notices d = list_any (λ (x : Notice). x.birth == d) notices

abbrev pub named : Board → ℕ → Bool
named b d = is_pending b d || told b.notices d

-- each member is among all
pub members : (xs : List ℕ) → AllByRecursion (λ x. among xs x ≡ true) xs
members [] = tt
members (x ∷ xs) =
    (rw (eq-eqb x x refl) refl, all-imply (λ y. among xs y ≡ true) (λ y. among (x ∷ xs) y ≡ true) (λ y k. rw k (or-true (eqb y x))) xs (members xs))

pub removals-told : (xs : List Removal) → AllByRecursion (λ (x : Removal). list_any (is_of_device x.birth) xs ≡ true) xs
removals-told [] = tt
removals-told (x ∷ xs) = (
  rw (eq-eqb x.birth x.birth refl) refl,
  all-imply (λ (y : Removal). list_any (is_of_device y.birth) xs ≡ true) (λ (y : Removal). list_any (is_of_device y.birth) (x ∷ xs) ≡ true)
      (λ y k. rw k (or-true (x.birth == y.birth))) xs (removals-told xs),
)

notices-told : (xs : List Notice) → AllByRecursion (λ (x : Notice). told xs x.birth ≡ true) xs
notices-told [] = tt
notices-told (x ∷ xs) = (
  rw (eq-eqb x.birth x.birth refl) refl,
  all-imply (λ (y : Notice). told xs y.birth ≡ true) (λ (y : Notice). told (x ∷ xs) y.birth ≡ true) (λ y k. rw k (or-true (x.birth == y.birth))) xs
      (notices-told xs),
)

-- fewer, and none twice
within-distinct : {xs ys : List ℕ} → Within xs ys → IsDistinct nat_eq ys → IsDistinct nat_eq xs
unfolding IsDistinct
within-distinct (nothing ys) h = tt
within-distinct (same x w) h = (all-within (λ y. nat_eq x y ≡ false) w h.0, within-distinct w h.1)
within-distinct (more y w) h = within-distinct w h.1

within-births : {xs ys : List Removal} → Within xs ys → Within (births_of xs) (births_of ys)
within-births (nothing ys) = nothing (births_of ys)
within-births (same x w) = same x.birth (within-births w)
within-births (more y w) = more y.birth (within-births w)

pub within-filter : {A : Type 0} (p : A → Bool) (xs : List A) → Within (filter p xs) xs
within-filter p [] = nothing []
within-filter p (x ∷ xs) = go (p x) refl (within-filter p xs)
  where
    go : (t : Bool) → p x ≡ t → Within (filter p xs) xs → Within (filter p (x ∷ xs)) (x ∷ xs)
    go true e w = rw e (same x w)
    go false e w = rw e (more x w)

-- fewer are in the lists, and who stays in them is as before
pub record Fewer (b c : Board) : Type 0 where
  pub pending : Within c.pending b.pending
  pub notices : Within c.notices b.notices
  pub later : b.now ≤ c.now

pub lists-fewer : (b c : Board) → Fewer b c → ((x : ℕ) → named c x ≡ true → IsOn b x → IsOn c x) → SoundLists b → SoundLists c
lists-fewer b c f stay h =
    record {
      pending =
          all-imply (λ (x : Removal). (is_pending c x.birth ≡ true) × IsOn b x.birth) (λ (x : Removal). IsOn c x.birth)
          (λ x k. stay x.birth (or_left (is_pending c x.birth) (told c.notices x.birth) k.0) k.1) c.pending
          (all-both (λ (x : Removal). is_pending c x.birth ≡ true) (λ (x : Removal). IsOn b x.birth) c.pending (removals-told c.pending)
          (all-within (λ (x : Removal). IsOn b x.birth) f.pending h.pending));
      once = within-distinct (within-births f.pending) h.once;
      asked =
          all-imply (λ (x : Removal). x.asked ≤ b.now) (λ (x : Removal). x.asked ≤ c.now) (λ x k. omega (arith, k, f.later)) c.pending
          (all-within (λ (x : Removal). x.asked ≤ b.now) f.pending h.asked);
      notices =
          all-imply (λ (x : Notice). (told c.notices x.birth ≡ true) × IsOn b x.birth) (λ (x : Notice). IsOn c x.birth)
          (λ x k. stay x.birth (rw k.0 (or-true (is_pending c x.birth))) k.1) c.notices
          (all-both (λ (x : Notice). told c.notices x.birth ≡ true) (λ (x : Notice). IsOn b x.birth) c.notices (notices-told c.notices)
          (all-within (λ (x : Notice). IsOn b x.birth) f.notices h.notices));
      few = let most : length b.notices ≤ NOTICES_MAX = h.few in omega (arith, most, within-short f.notices);
    }

-- the same lists
pub fewer-same : (b c : Board) → c.pending ≡ b.pending → c.notices ≡ b.notices → b.now ≤ c.now → Fewer b c
fewer-same b c pending notices later = record { pending = within-same pending; notices = within-same notices; later = later }

-- where places are sound, it is enough that who stood stands
pub on-stands : (depth : ℕ → ℕ) (c : Board) → PlacesBut depth None (λ x. false) c → (x : ℕ) → stands c x ≡ true → IsOn c x
on-stands depth c h x e = (e, h.each x e refl)

-- the lists of another board with the same devices in their places
pub lists-same : (b c : Board) → c.pending ≡ b.pending → c.notices ≡ b.notices → b.now ≤ c.now → ((x : ℕ) → IsOn b x → IsOn c x) → SoundLists b → SoundLists c
lists-same b c pending notices later stay h = lists-fewer b c (fewer-same b c pending notices later) (λ x e. stay x) h
