-- What stands where rings are added and removed, and where they are read and written to.
use Rattle.std.proofs.Common.{◌≡◌, ◌≢◌, refl, ap, ap₂, sym, subst, ◌∙◌, ℕ, Bool, List, [], ◌∷◌, ◌++◌, Option, None, Some, Result, Ok, Err, OnErr, option_map, is_some, true, false, not}
use Rattle.std.specs.Prelude.{if◌then◌else◌}
use Rattle.std.specs.List.{list_any}
use Rattle.std.proofs.lemmas.Option.{same_Some}
use Rattle.std.proofs.lemmas.Slice.Eq.{bytes_eq-Decides}
use Rattle.qo_values.proofs.ListLemmas.{found-passes}
use Rattle.qo_values.specs.Ids.{is_id}
use Rattle.qo_values.specs.Rings.{ring_add, ring_drop, ring_oldest}
use Rattle.qo_values.specs.declared.codes.Code.{Code}
use Rattle.qo_values.specs.declared.codes.Code.TheVariants.{E36, E37}
use Rattle.qo_values.specs.declared.forms.Form.{Form}
use Rattle.qo_chardev.specs.Texts.{encoded}
use Rattle.qo_buses.specs.Recount.{IsRecounted}
use Rattle.qo_claims.specs.Book.{ClaimsTaken, is_taken}
use Rattle.qo_claims.specs.declared.claims.Claimed.TheVariants as on
use Rattle.qo_hotplug.specs.Hotplug.{Asked}
use Rattle.qo_model.specs.Board.{Board, Ring}
use Rattle.qo_model.specs.Objects.{Changed}
use Rattle.qo_model.specs.Plug.{claims_ring, has_ring}
use Rattle.qo_heap.specs.Objects.{Objects}
use Rattle.qo_heap.proofs.HeapLemmas.{is_some-find}
use Rattle.qo_properties.specs.declared.refusals.Refusal.{Refusal}
use Rattle.qo_properties.specs.declared.refusals.Refusal.TheVariants.{Refused, Memory}
use Rattle.qo_reset.specs.HoldList.{HoldList}
use Rattle.qo_realize.specs.Answers.{Changes, IsAnswered}
use Rattle.qo_realize.specs.BoardClaims.{KeepsClaims}
use Rattle.qo_chardev.specs.Rings.{bytes_in, given_bytes, is_ring, new_ring, ring_changed, ring_named, without_ring}
use Rattle.qo_realize.specs.Chardevs.{AnswersRings, ChangesRings, Reading, ReadsRing, TakesRing, by_code, chardev_barred, chardev_removed, removal_barred, ring_added, ring_read, ring_written, taken_as, with_rings, written_as}
use Rattle.qo_realize.specs.Parts.{Parts, parts_of}
use Rattle.qo_realize.specs.Representation.{Stands, StandsForGood}
use Rattle.qo_realize.specs.SoundBoard.{SoundBoard}
use Rattle.qo_realize.proofs.GoodBoardLemmas.{ringed-good}
use Rattle.qo_realize.proofs.RecountLemmas.{is-recounted}
use Rattle.qo_realize.proofs.RingLemmas.{added_backends, gained_backends, read_backends, removed_backends}

-- what is so of the board, and of the board with the rings, is so after the change

pub by_code-all : (P : Board → Type 0) (b c : Board) (bar : Option Code) → P b → (bar ≡ None → P c) → P (by_code b c bar).board
by_code-all P b c None p q = q refl
by_code-all P b c (Some code) p q = p

pub taken-all : (P : Board → Type 0) (b : Board) (id : List ℕ) (most : ℕ) (form : Form) → P b
    → P (with_rings (ring_changed (λ m. ring_drop m most) id b.rings) b) → P (ring_read b id most form).board
taken-all P b id most form p q = go (ring_named id b.rings)
  where
    by : (text : Option (List ℕ)) → P (taken_as b id most text).board
    by None = p
    by (Some text) = q

    go : (o : Option Ring)
        → P (elim o as (λ o. Reading) [ None ↦ record { text = Err E36; board = b } | Some r ↦ taken_as b id most (encoded form (ring_oldest (bytes_in r) most)) ]).board
    go None = p
    go (Some r) = by (encoded form (ring_oldest (bytes_in r) most))

pub gained-all : (P : Board → Type 0) (b : Board) (id text : List ℕ) (form : Form) → P b
    → ((bytes : List ℕ) → P (with_rings (ring_changed (λ m. ring_add m bytes) id b.rings) b)) → P (ring_written b id text form).board
gained-all P b id text form p q = go (ring_named id b.rings)
  where
    by : (bytes : Option (List ℕ)) → P (written_as b id bytes).board
    by None = p
    by (Some bytes) = q bytes

    go : (o : Option Ring) → P (elim o as (λ o. Changed) [ None ↦ record { refusal = Some E36; board = b } | Some r ↦ written_as b id (given_bytes form text) ]).board
    go None = p
    go (Some r) = by (given_bytes form text)

-- why a ring is not removed

abbrev removed_as : Board → List ℕ → Bool → Bool → Changed
removed_as b id there claimed =
    by_code b (with_rings (without_ring id b.rings) b) (if not there then Some E36 else if claimed then Some E37 else None)

ring-there : (b : Board) (id : List ℕ) → has_ring b id ≡ is_some (ring_named id b.rings)
ring-there b id = sym (is_some-find (is_ring id) b.rings)

abbrev pub kept_id : List ℕ → List Ring → Option (List ℕ)
kept_id id rings = option_map (λ (r : Ring). r.id) (ring_named id rings)

pub removal-none : (b : Board) (id : List ℕ) → None ≡ kept_id id b.rings → chardev_removed b id ≡ by_code b b (Some E36)
removal-none b id e =
    ap (λ (t : Bool). removed_as b id t (list_any (claims_ring b id) b.records)) (ring-there b id ∙ go (ring_named id b.rings) e)
  where
    go : (o : Option Ring) → None ≡ option_map (λ (r : Ring). r.id) o → is_some o ≡ false
    go None e = refl
    go (Some r) e = absurd (cc e)

record IsKept (b : Board) (id kept : List ℕ) : Type 0 where
  there : has_ring b id ≡ true
  same : kept ≡ id

kept-ring : (b : Board) (id kept : List ℕ) → Some kept ≡ kept_id id b.rings → IsKept b id kept
kept-ring b id kept e = go (ring_named id b.rings) refl e
  where
    go : (o : Option Ring) → ring_named id b.rings ≡ o → Some kept ≡ option_map (λ (r : Ring). r.id) o → IsKept b id kept
    go None q k = absurd (cc k)
    go (Some r) q k =
        record {
          there = ring-there b id ∙ ap is_some q;
          same = same_Some kept r.id k ∙ (bytes_eq-Decides r.id id).0 (found-passes (is_ring id) b.rings r q);
        }

module _ (b : Board) (id kept : List ℕ) (is : Some kept ≡ kept_id id b.rings) (named : is_id kept ≡ true) (h : ClaimsTaken) (recounted : IsRecounted b h) where
  removal-as : chardev_removed b id ≡ removed_as b id true (is_taken (on.Ring kept) h)
  removal-as =
      let k = kept-ring b id kept is in
      let some : kept ≢ [] = λ none. absurd (let clash : false ≡ true = subst (λ (own : List ℕ). is_id own ≡ true) none named in cc) in
      let claimed : is_taken (on.Ring kept) h ≡ list_any (claims_ring b id) b.records =
      recounted.rings kept some ∙ ap (λ (own : List ℕ). list_any (claims_ring b own) b.records) k.same in
      ap₂ (removed_as b id) k.there (sym claimed)

  pub removal-claimed : true ≡ is_taken (on.Ring kept) h → chardev_removed b id ≡ by_code b b (Some E37)
  removal-claimed e = removal-as ∙ ap (removed_as b id true) (sym e)

  pub removal-free : (left : List Ring) → left ≡ without_ring id b.rings → false ≡ is_taken (on.Ring kept) h
      → chardev_removed b id ≡ by_code b (with_rings left b) None
  removal-free left is_left e =
      removal-as ∙ ap (removed_as b id true) (sym e) ∙ ap (λ (rs : List Ring). by_code b (with_rings rs b) None) (sym is_left)

-- so a sound board stays sound

pub ring_added-good : (b : Board) (id kind : List ℕ) (size : ℕ) → SoundBoard b → SoundBoard (ring_added b id kind size).board
ring_added-good b id kind size h =
    by_code-all SoundBoard b (with_rings (b.rings ++ new_ring id size ∷ []) b) (chardev_barred b id kind size) h
    (λ free. ringed-good b (b.rings ++ new_ring id size ∷ []) (added_backends b id kind size free h.backends) h)

pub ring_removed-good : (b : Board) (id : List ℕ) → SoundBoard b → SoundBoard (chardev_removed b id).board
ring_removed-good b id h =
    by_code-all SoundBoard b (with_rings (without_ring id b.rings) b) (removal_barred b id) h
    (λ free. ringed-good b (without_ring id b.rings) (removed_backends b id free h.backends) h)

pub ring_read-good : (b : Board) (id : List ℕ) (most : ℕ) (form : Form) → SoundBoard b → SoundBoard (ring_read b id most form).board
ring_read-good b id most form h =
    taken-all SoundBoard b id most form h (ringed-good b (ring_changed (λ m. ring_drop m most) id b.rings) (read_backends b id most h.backends) h)

pub ring_written-good : (b : Board) (id text : List ℕ) (form : Form) → SoundBoard b → SoundBoard (ring_written b id text form).board
ring_written-good b id text form h =
    gained-all SoundBoard b id text form h
    (λ bytes. ringed-good b (ring_changed (λ m. ring_add m bytes) id b.rings) (gained_backends b id bytes h.backends) h)

-- the board with other rings

module _ (old new : List Ring) (anonymous : ℕ) (running : Bool) (holds : HoldList) (asked : Asked) (v : Objects) where
  abbrev before : Parts
  before = parts_of old anonymous running holds asked v

  abbrev after : Parts
  after = parts_of new anonymous running holds asked v

  rings-stand : (b : Board) → Stands b before → Stands (with_rings new b) after
  rings-stand b s =
      record {
        shows = record {
          records = s.shows.records;
          born = s.shows.born;
          pins = s.shows.pins;
          notes = s.shows.notes;
          events = s.shows.events;
          now =
              s.shows.now;
        };
        anonymous = s.anonymous;
        running = s.running;
        holds = s.holds;
        pending = s.pending;
        notices = s.notices;
        rings = refl;
        book = s.book;
      }

  left-stands : (b : Board) → Stands b before → new ≡ old → Stands b after
  left-stands b s same = subst (λ (r : List Ring). Stands b (parts_of r anonymous running holds asked v)) (sym same) s

  -- where the board with the rings is sound, or they are as they were
  rings-sound : (b : Board) → Stands b before → SoundBoard (with_rings new b) → StandsForGood after
  rings-sound b s good = (with_rings new b, rings-stand b s, good)

  pub change-sound : (change : Board → Changed) (result : Result (Unit {0}) Refusal) → ((b : Board) → SoundBoard b → SoundBoard (change b).board)
      → ((b : Board) → b.rings ≡ old → ChangesRings b (change b) result new) → OnErr result (new ≡ old) → StandsForGood before → StandsForGood after
  change-sound change (Ok u) keeps is same (b, s, good) =
      rings-sound b s (subst (λ (c : Changed). SoundBoard c.board) (is b s.rings) (keeps b good))
  change-sound change (Err e) keeps is same (b, s, good) = (b, left-stands b s same, good)

  pub answer-sound : (change : Board → Changed) (result : Result (Unit {0}) Code) → ((b : Board) → SoundBoard b → SoundBoard (change b).board)
      → ((b : Board) → IsRecounted b v.claims → b.rings ≡ old → AnswersRings b (change b) result new) → OnErr result (new ≡ old)
      → StandsForGood before → KeepsClaims v → StandsForGood after
  answer-sound change (Ok u) keeps is same (b, s, good) kept =
      rings-sound b s (subst (λ (c : Changed). SoundBoard c.board) (is b (is-recounted b v s.shows s.book kept good) s.rings) (keeps b good))
  answer-sound change (Err e) keeps is same (b, s, good) kept = (b, left-stands b s same, good)

  pub reading-sound : (reading : Board → Reading) (result : Result (List ℕ) Refusal) → ((b : Board) → SoundBoard b → SoundBoard (reading b).board)
      → ((b : Board) → b.rings ≡ old → TakesRing b (reading b) result new) → OnErr result (new ≡ old) → StandsForGood before → StandsForGood after
  reading-sound reading (Ok text) keeps is same (b, s, good) =
      rings-sound b s (subst (λ (r : Reading). SoundBoard r.board) (is b s.rings) (keeps b good))
  reading-sound reading (Err e) keeps is same (b, s, good) = (b, left-stands b s same, good)

  pub rings-err : {T E : Type 0} (r : Result T E) (p : Parts) → before ≡ p → OnErr r (new ≡ old) → OnErr r (after ≡ p)
  rings-err (Ok t) p is same = tt
  rings-err (Err e) p is same = ap (λ (r : List Ring). parts_of r anonymous running holds asked v) same ∙ is

  pub rings-change : (b : Board) (change : Changed) (result : Result (Unit {0}) Refusal) → Stands b before → ChangesRings b change result new
      → OnErr result (new ≡ old)
      → Changes change b result after
  rings-change b change (Ok u) s is same = (
    ap (λ (c : Changed). c.refusal) is,
    subst (λ (c : Changed). Stands c.board after) (sym is) (rings-stand b s),
  )
  rings-change b change (Err (Refused code)) s is same = (is, left-stands b s same)
  rings-change b change (Err Memory) s is same = left-stands b s same

  pub rings-answer : (b : Board) (change : Changed) (result : Result (Unit {0}) Code) → Stands b before → AnswersRings b change result new
      → OnErr result (new ≡ old)
      → IsAnswered change result after
  rings-answer b change (Ok u) s is same =
      record { refusal = ap (λ (c : Changed). c.refusal) is; board = subst (λ (c : Changed). Stands c.board after) (sym is) (rings-stand b s) }
  rings-answer b change (Err code) s is same =
      record { refusal = ap (λ (c : Changed). c.refusal) is; board = subst (λ (c : Changed). Stands c.board after) (sym is) (left-stands b s same) }

  pub rings-read : (b : Board) (reading : Reading) (result : Result (List ℕ) Refusal) → Stands b before → TakesRing b reading result new
      → OnErr result (new ≡ old)
      → ReadsRing reading result after
  rings-read b reading (Ok text) s is same =
      (ap (λ (r : Reading). r.text) is, subst (λ (r : Reading). Stands r.board after) (sym is) (rings-stand b s))
  rings-read b reading (Err (Refused code)) s is same =
      (ap (λ (r : Reading). r.text) is, subst (λ (r : Reading). Stands r.board after) (sym is) (left-stands b s same))
  rings-read b reading (Err Memory) s is same = tt
