-- What stands where an object is held in reset, or released.
use Rattle.std.proofs.Common.{◌≡◌, refl, ap, sym, subst, ◌∙◌, ap₂, ℕ, Bool, true, false, not, if◌then◌else◌, List, [], codes, Some, None, Result, Ok, Err, OnErr}
use Rattle.qo_values.specs.declared.codes.Code.{Code}
use Rattle.qo_values.specs.declared.codes.Code.TheVariants.{E15, E48, E49}
use Rattle.qo_values.specs.declared.kinds.ResetKind.{ResetKind}
use Rattle.qo_model.specs.Board.{Board, Ring}
use Rattle.qo_model.specs.Depth.{among}
use Rattle.qo_model.specs.Objects.{Changed}
use Rattle.qo_model.specs.Paths.{Resolution, attached, found, is_of, missing, resolve, several}
use Rattle.qo_model.specs.Reset.{after_hold, exceeds_depth, pulse, released}
use Rattle.qo_heap.specs.Acts.{Acts}
use Rattle.qo_heap.specs.Objects.{Objects}
use Rattle.qo_heap.proofs.ActsLemmas.{acts-book}
use Rattle.qo_hotplug.specs.Hotplug.{Asked}
use Rattle.qo_properties.specs.Claims.{KeepsBook}
use Rattle.qo_properties.specs.Pins.{OnlyRootPinned}
use Rattle.qo_properties.specs.declared.refusals.Refusal.{Refusal}
use Rattle.qo_properties.specs.declared.refusals.Refusal.TheVariants.{Refused, Memory}
use Rattle.qo_reset.specs.HoldList.{HoldList}
use Rattle.qo_reset.specs.Phases.{Holds}
use Rattle.qo_sound.specs.DeviceScope.{ResetLeaves}
use Rattle.qo_sound.proofs.DeviceScopeLemmas.{devices_stay_lem}
use Rattle.qo_sound.proofs.TargetLemmas.{resolved-of}
use Rattle.qo_realize.specs.Answers.{Changes, IsAnswered}
use Rattle.qo_realize.specs.SoundBoard.{SoundBoard}
use Rattle.qo_sound_claims.specs.ClaimsStay.{ClaimsKeep}
use Rattle.qo_sound_claims.proofs.StayLawLemmas.{claims_stay_lem}
use Rattle.qo_properties.proofs.ActsKept.{acts-claims}
use Rattle.qo_realize.specs.BoardClaims.{KeepsClaims}
use Rattle.qo_realize.proofs.ClaimsLemmas.{same-claims, step-claims}
use Rattle.qo_realize.specs.Parts.{Parts, parts_of}
use Rattle.qo_realize.specs.Resets.{Releases, Resets, at_path, held_at, held_of, released_at, released_of, resettable_at}
use Rattle.qo_realize.specs.Representation.{Stands, StandsForGood}
use Rattle.qo_realize.proofs.GoodBoardLemmas.{held-good, pulsed-good, released-good, good-pinned}

-- what is so of the board and of the board with the hold, or without it, is so after the change

pub at_path-all : (P : Board → Type 0) (b : Board) (path : List ℕ) (change : ℕ → Changed) → P b
    → ((n : ℕ) → is_of b (codes "resettable") n ≡ true → P (change n).board) → P (at_path b change (resettable_at b path)).board
at_path-all P b path change p q = by (resolve b path (codes "resettable")) refl
  where
    by : (o : Resolution) → resolve b path (codes "resettable") ≡ o → P (at_path b change (resettable_at b path)).board
    by (found n) e = rw (resettable_at, e) (q n (resolved-of b path (codes "resettable") n e))
    by missing e = rw (resettable_at, e) p
    by several e = rw (resettable_at, e) p

pub held_of-all : (P : Board → Type 0) (b : Board) (n : ℕ) (kind : ResetKind) → P b
    → (attached b n ≡ true → exceeds_depth b n ≡ false → P (after_hold b n kind)) → P (held_of b n kind).board
held_of-all P b n kind p q = by (attached b n) refl (exceeds_depth b n) refl
  where
    come : Bool → Bool → Changed
    come home deep =
        if not home then record { refusal = Some E15; board = b }
        else if deep then record { refusal = Some E48; board = b }
        else record { refusal = None; board = after_hold b n kind }

    by : (home : Bool) → attached b n ≡ home → (deep : Bool) → exceeds_depth b n ≡ deep → P (come home deep).board
    by false e deep d = p
    by true e true d = p
    by true e false d = q e d

pub released_of-all : (P : Board → Type 0) (b : Board) (n : ℕ) → P b → (among b.holds n ≡ true → P (released b n)) → P (released_of b n).board
released_of-all P b n p q = by (among b.holds n) refl
  where
    come : Bool → Changed
    come there = if there then record { refusal = None; board = released b n } else record { refusal = Some E49; board = b }

    by : (there : Bool) → among b.holds n ≡ there → P (come there).board
    by true e = q e
    by false e = p

held_at-all : (P : Board → Type 0) (b : Board) (path : List ℕ) (kind : ResetKind) → P b
    → ((n : ℕ) → is_of b (codes "resettable") n ≡ true → attached b n ≡ true → exceeds_depth b n ≡ false → P (after_hold b n kind))
    → P (held_at b path kind).board
held_at-all P b path kind p q = at_path-all P b path (λ n. held_of b n kind) p (λ n is. held_of-all P b n kind p (λ home deep. q n is home deep))

released_at-all : (P : Board → Type 0) (b : Board) (path : List ℕ) → P b → ((n : ℕ) → P (released b n)) → P (released_at b path).board
released_at-all P b path p q = at_path-all P b path (released_of b) p (λ n is. released_of-all P b n p (λ there. q n))

none-leaves : (b : Board) → ResetLeaves b b
none-leaves b = record { anonymous = refl; now = refl; running = refl; pending = refl; notices = refl; rings = refl; events = refl }

held_at-leaves : (b : Board) (path : List ℕ) (kind : ResetKind) → ResetLeaves b (held_at b path kind).board
held_at-leaves b path kind = held_at-all (ResetLeaves b) b path kind (none-leaves b) (λ n is home deep. devices_stay_lem.held_so b n kind)

released_at-leaves : (b : Board) (path : List ℕ) → ResetLeaves b (released_at b path).board
released_at-leaves b path = released_at-all (ResetLeaves b) b path (none-leaves b) (λ n. devices_stay_lem.released_so b n)

held_at-good : (b : Board) (path : List ℕ) (kind : ResetKind) → SoundBoard b → SoundBoard (held_at b path kind).board
held_at-good b path kind good = held_at-all SoundBoard b path kind good (λ n is home deep. held-good b n kind is home deep good)

released_at-good : (b : Board) (path : List ℕ) → SoundBoard b → SoundBoard (released_at b path).board
released_at-good b path good = released_at-all SoundBoard b path good (λ n. released-good b n good)

-- with other holds, after acts

-- acts keep the book right
pub acts-keep : (v w : Objects) → Acts v w → KeepsBook v w
acts-keep v w acts out = acts-book out v w acts

module _ (rings : List Ring) (anonymous : ℕ) (running : Bool) (old new : HoldList) (asked : Asked) (v w : Objects) (book : KeepsBook v w) where
  abbrev before : Parts
  before = parts_of rings anonymous running old asked v

  abbrev after : Parts
  after = parts_of rings anonymous running new asked w

  pub reset-stands : (b c : Board) → Stands b before → ResetLeaves b c → Holds c new.births w → Stands c after
  reset-stands b c s l h =
      record {
        shows = h.0;
        anonymous = l.anonymous ∙ s.anonymous;
        running = l.running ∙ s.running;
        holds = h.1;
        pending = l.pending ∙ s.pending;
        notices = l.notices ∙ s.notices;
        rings = l.rings ∙ s.rings;
        book = book [] s.book;
      }

  same-parts : (w ≡ v) × (new.births ≡ old.births) → after ≡ before
  same-parts h = ap₂ (λ (x : Objects) (holds : List ℕ). parts_of rings anonymous running (record { births = holds; spare = 0 }) asked x) h.0 h.1

  pub left-stands : (b : Board) → Stands b before → (w ≡ v) × (new.births ≡ old.births) → Stands b after
  left-stands b s h = subst (λ (p : Parts). Stands b p) (sym (same-parts h)) s

  changes : (b : Board) (change : Changed) (result : Result Unit Refusal) → Stands b before → ResetLeaves b change.board → Resets b change result new.births w
      → OnErr result ((w ≡ v) × (new.births ≡ old.births)) → Changes change b result after
  changes b change (Ok u) s l (none, h) same = (none, reset-stands b change.board s l h)
  changes b change (Err (Refused code)) s l is same = (is, left-stands b s same)
  changes b change (Err Memory) s l is same = left-stands b s same

  answers : (b : Board) (change : Changed) (result : Result Unit Code) → Stands b before → ResetLeaves b change.board → Releases b change result new.births w
      → OnErr result ((w ≡ v) × (new.births ≡ old.births)) → IsAnswered change result after
  answers b change (Ok u) s l (none, h) same = record { refusal = none; board = reset-stands b change.board s l h }
  answers b change (Err code) s l is same =
      record { refusal = ap (λ (x : Changed). x.refusal) is; board = subst (λ (x : Changed). Stands x.board after) (sym is) (left-stands b s same) }

  pub hold-changes : (b : Board) (path : List ℕ) (kind : ResetKind) (result : Result Unit Refusal) → Stands b before
      → Resets b (held_at b path kind) result new.births w → OnErr result ((w ≡ v) × (new.births ≡ old.births))
      → Changes (held_at b path kind) b result after
  hold-changes b path kind result s h same = changes b (held_at b path kind) result s (held_at-leaves b path kind) h same

  pub release-answers : (b : Board) (path : List ℕ) (result : Result Unit Code) → Stands b before → Releases b (released_at b path) result new.births w
      → OnErr result ((w ≡ v) × (new.births ≡ old.births)) → IsAnswered (released_at b path) result after
  release-answers b path result s h same = answers b (released_at b path) result s (released_at-leaves b path) h same

  -- the board that stands is good

  hold-good : (b : Board) (path : List ℕ) (kind : ResetKind) (result : Result Unit Refusal) → SoundBoard b → Changes (held_at b path kind) b result after
      → OnlyRootPinned w × StandsForGood after
  hold-good b path kind (Ok u) good h = good-pinned (held_at b path kind).board after h.1 (held_at-good b path kind good)
  hold-good b path kind (Err (Refused code)) good h = good-pinned b after h.1 good
  hold-good b path kind (Err Memory) good h = good-pinned b after h good

  pub hold-keeps : (path : List ℕ) (kind : ResetKind) (result : Result Unit Refusal) → StandsForGood before → ((b : Board) → Holds b old.births v
      → Resets b (held_at b path kind) result new.births w)
      → OnErr result ((w ≡ v) × (new.births ≡ old.births)) → OnlyRootPinned w × StandsForGood after
  hold-keeps path kind result (b, s, good) h same =
      hold-good b path kind result good (hold-changes b path kind result s (h b (s.shows, s.holds)) same)

  pub hold-claims : (path : List ℕ) (kind : ResetKind) (result : Result Unit Refusal) → StandsForGood before → Acts v w → ((b : Board) → Holds b old.births v
      → Resets b (held_at b path kind) result new.births w)
      → OnErr result ((w ≡ v) × (new.births ≡ old.births)) → KeepsClaims v → KeepsClaims w
  hold-claims path kind (Ok u) (b, s, good) acts h same =
      step-claims b (held_at b path kind).board v w s.shows (h b (s.shows, s.holds)).1.0
      (held_at-all (ClaimsKeep b) b path kind (claims_stay_lem.beside b b refl) (λ n is home deep. claims_stay_lem.held_so b n kind good.run.devices))
      (λ n k e. sym (acts-claims v w acts n) ∙ e)
  hold-claims path kind (Err (Refused code)) (b, s, good) acts h same = same-claims v w same.0
  hold-claims path kind (Err Memory) (b, s, good) acts h same = same-claims v w same.0

  pub release-claims : (path : List ℕ) (result : Result Unit Code) → StandsForGood before → Acts v w → ((b : Board) → Holds b old.births v
      → Releases b (released_at b path) result new.births w)
      → OnErr result ((w ≡ v) × (new.births ≡ old.births)) → KeepsClaims v → KeepsClaims w
  release-claims path (Ok u) (b, s, good) acts h same =
      step-claims b (released_at b path).board v w s.shows (h b (s.shows, s.holds)).1.0
      (released_at-all (ClaimsKeep b) b path (claims_stay_lem.beside b b refl) (λ n. claims_stay_lem.released_so b n good.run.devices))
      (λ n k e. sym (acts-claims v w acts n) ∙ e)
  release-claims path (Err code) (b, s, good) acts h same = same-claims v w same.0

  pub release-keeps : (path : List ℕ) (result : Result Unit Code) → StandsForGood before → ((b : Board) → Holds b old.births v
      → Releases b (released_at b path) result new.births w)
      → OnErr result ((w ≡ v) × (new.births ≡ old.births)) → OnlyRootPinned w × StandsForGood after
  release-keeps path result (b, s, good) h same =
      good-pinned (released_at b path).board after (release-answers b path result s (h b (s.shows, s.holds)) same).board (released_at-good b path good)

  pub pulse-stands : (b : Board) (n : ℕ) (kind : ResetKind) → Stands b before → Holds (pulse b n kind) new.births w → Stands (pulse b n kind) after
  pulse-stands b n kind s h = reset-stands b (pulse b n kind) s (devices_stay_lem.pulsed b n kind) h

  pub pulse-keeps : (n : ℕ) (kind : ResetKind) → StandsForGood before → ((b : Board) → Holds b old.births v → Holds (pulse b n kind) new.births w)
      → OnlyRootPinned w × StandsForGood after
  pulse-keeps n kind (b, s, good) h =
      good-pinned (pulse b n kind) after (pulse-stands b n kind s (h b (s.shows, s.holds))) (pulsed-good b n kind good)
