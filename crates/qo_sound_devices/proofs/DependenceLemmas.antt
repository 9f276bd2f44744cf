-- Places speak of objects and of the number of accepted adds alone; so what changes other things keeps them.
use Rattle.std.proofs.Common.{◌≡◌, refl, ap, sym, subst, ◌∙◌, ℕ, ◌≤◌, Bool, true, false, ◌==◌, List, [], find, map, sum_by, option_map, Option, Some, None, is_some, arith}
use Rattle.qo_model.proofs.Common.{AllByRecursion, option_map_or, MACHINE_BIRTH, TypeId, Board, Record, Leads, asked, asked_of, device_at, refused, with_asked, attached, births, children_in, notice_barred, Rises}
use Rattle.qo_model.specs.Hotplug.{is_early}
use Rattle.qo_model.proofs.StepLemmas.{found_at}
use Rattle.qo_sound.proofs.FirmBoardLemmas.{AllLinked, HasNames, WellFormed, parents_in}
use Rattle.qo_values.proofs.ListLemmas.{all-imply}
use Rattle.qo_sound_devices.specs.SoundPlaces.{PlacesBut}
use Rattle.qo_sound_devices.proofs.LikenessLemmas.{alike-record}
use Rattle.qo_sound_devices.proofs.PlacesLemmas.{kept-alike, owner-live, places-kept}

-- what is read of objects alone
abbrev kind_in : List Record → ℕ → Option TypeId
kind_in rs n = option_map (λ (r : Record). r.kind) (found_at n rs)

abbrev children_at : List Record → ℕ → List ℕ
children_at rs n = children_in (option_map_or (λ (r : Record). r.slots) (found_at n rs) [])

-- the same objects, and no fewer births
firm-same : (b c : Board) → c.records ≡ b.records → b.born ≤ c.born → WellFormed b → WellFormed c
firm-same b c same grows f =
    record {
      rising = subst Rises (sym same_births) f.rising;
      within =
          subst (AllByRecursion (λ n. n ≤ c.born)) (sym same_births)
          (all-imply (λ n. n ≤ b.born) (λ n. n ≤ c.born) (λ n k. omega (arith, k, grows)) (births b) f.within);
      begun = let low : 8 ≤ b.born = f.begun in omega (arith, low, grows);
      named = subst (AllByRecursion HasNames) (sym same) f.named;
      linked = subst (λ (rs : List Record). AllLinked (kind_in rs) rs) (sym same) f.linked;
      one_parent = λ x. subst (λ (rs : List Record). sum_by (parents_in x) rs ≤ 1) (sym same) (f.one_parent x);
      none_round = λ n. subst (λ (rs : List Record). ¬ (Leads (children_at rs) n n)) (sym same) (f.none_round n);
    }
  where
    same_births : births c ≡ births b
    same_births = ap (map (λ (r : Record). r.birth)) same

pub beside-places : (depth : ℕ → ℕ) (left : Option ℕ) (out : ℕ → Bool) (b c : Board) → WellFormed b → c.records ≡ b.records → b.born ≤ c.born
    → c.anonymous ≡ b.anonymous → PlacesBut depth left out b → PlacesBut depth left out c
beside-places depth left out b c firm same grows anonymous h =
    places-kept b c
    (kept-alike b c (firm-same b c same grows firm) (ap is_some (found 1) ∙ owner-live b 1 MACHINE_BIRTH h.machine) anonymous
    (λ x there. alike-record b c x (found x)))
    depth left out h
  where
    found : (x : ℕ) → find (λ (r : Record). r.birth == x) c.records ≡ find (λ (r : Record). r.birth == x) b.records
    found x = ap (find (λ (r : Record). r.birth == x)) same

-- a removal that is asked for, and one that is refused
module _ (depth : ℕ → ℕ) (b : Board) (firm : WellFormed b) (h : PlacesBut depth None (λ x. false) b) where
  asked_of-places : (d : ℕ) → PlacesBut depth None (λ x. false) (asked_of b d).board
  asked_of-places d = go (attached b d) refl (is_early b d) refl (is_some (notice_barred b)) refl
    where
      go : (home : Bool) → attached b d ≡ home → (pending : Bool) → is_early b d ≡ pending → (full : Bool) → is_some (notice_barred b) ≡ full
          → PlacesBut depth None (λ x. false) (asked_of b d).board
      go false p pending q full r = rw (asked_of, p) h
      go true p true q full r = rw (asked_of, p, q) h
      go true p false q true r = rw (asked_of, p, q, r) h
      go true p false q false r = rw (asked_of, p, q, r) (beside-places depth None (λ x. false) b (with_asked b d) firm refl (omega arith) refl h)

  pub asked-places : (id : List ℕ) → PlacesBut depth None (λ x. false) (asked b id).board
  asked-places id = go (device_at b id) refl
    where
      go : (o : Option ℕ) → device_at b id ≡ o → PlacesBut depth None (λ x. false) (asked b id).board
      go None e = rw (asked, e) h
      go (Some d) e = rw (asked, e) (asked_of-places d)

  pub refused-places : (d : ℕ) → PlacesBut depth None (λ x. false) (refused b d)
  refused-places d = beside-places depth None (λ x. false) b (refused b d) firm refl (omega arith) refl h
