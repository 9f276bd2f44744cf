-- For a law alone. The laws of the definitions, each the contract of a function of `laws`.
use Rattle.std.specs.Prelude.{◌≡◌, ℕ, true, false, List, [], ◌∷◌, map, filter, codes, Some, is_some, None}
use Rattle.qo_model.specs.declared.notes.Deed.TheVariants.{Final}
use Rattle.qo_model.specs.declared.notes.Note.{Note}
use Rattle.qo_model.specs.Board.{Board, Record, is_live}
use Rattle.qo_model.specs.Clocks.{child_period, own_period, period, source_of}
use Rattle.qo_model.specs.Holders.{HeldFrom}
use Rattle.qo_model.specs.Opening.{opening_board}
use Rattle.qo_model.specs.Paths.{attached, attached_turn, path_down_to, path_turn, canonical, resolve_absolute}
use Rattle.qo_model.specs.Release.{finalize, finalize_by, final_notes, let_go, unpin}
use Rattle.qo_model.specs.ReleaseInduction.{Leaves, WeakLinksLive}
use Rattle.qo_model.specs.ReleaseNotes.{NotesEnds}
use Rattle.qo_model.specs.ReleaseRules.{Finalizes}
use Rattle.qo_model.specs.ReleaseWork.{IsLinked, IsWork, StackTurn, thinned}
use Rattle.qo_model.specs.Soundness.{IsSound}
use Rattle.qo_model.specs.SoundAliases.{SoundAliases}
use Rattle.qo_model.specs.SoundEvents.{SoundEvents}
use Rattle.qo_model.specs.SoundGraph.{SoundGraph, graph_of}
use Rattle.qo_model.specs.Types.{chain, has_finalizer}

-- the board that a machine begins with is sound
abbrev pub OpeningLaw : Type 0
OpeningLaw = IsSound opening_board

-- the births of the opening board
abbrev pub opening_births : List ℕ
opening_births = 1 ∷ 2 ∷ 3 ∷ 4 ∷ 5 ∷ 6 ∷ 7 ∷ 8 ∷ []

-- their canonical paths
abbrev pub opening_paths : List (List ℕ)
opening_paths =
    codes "/"
    ∷ codes "/machine"
    ∷ codes "/machine/peripheral"
    ∷ codes "/machine/peripheral-anon"
    ∷ codes "/machine/sysclk"
    ∷ codes "/machine/root.0"
    ∷ codes "/machine/mem.0"
    ∷ codes "/objects"
    ∷ []

-- what paths give
pub record PathsLaw : Type 0 where
  -- on the opening board the eight objects have these canonical paths, and each of these leads back to its object
  pub opening : map (canonical opening_board) opening_births ≡ map Some opening_paths
  pub back : map (λ path. resolve_absolute opening_board path (codes "object")) opening_paths ≡ map Some opening_births
  -- an object has a canonical path exactly where it is attached
  pub attached_only : (b : Board) (n : ℕ) → is_some (canonical b n) ≡ attached b n
  -- on a sound board, at any depth, an object is attached where its parent is, and its steps are those of its parent and its name
  pub attached_by_parent : (b : Board) → SoundGraph b → (n : ℕ) → attached b n ≡ attached_turn b (attached b) n
  pub steps_by_parent : (b : Board) → SoundGraph b → (n : ℕ) → path_down_to b n ≡ path_turn b (path_down_to b) n

-- two boards that agree in all that a group of facts speaks of agree in that group
pub record FrameLaw : Type 0 where
  pub graph : (b c : Board) → graph_of b ≡ graph_of c → SoundGraph b → SoundGraph c
  pub aliases : (b c : Board) → b.records ≡ c.records → SoundAliases b → SoundAliases c
  pub events : (b c : Board) → b.events ≡ c.events → SoundEvents b → SoundEvents c

-- what a release is, on every board
pub record ReleaseLaw : Type 0 where
  -- a finalization is one finalization by the same rule: no depth bounds it
  pub one_rule : (b : Board) (n : ℕ) → finalize b n ≡ finalize_by finalize b n
  -- the rules of release lead from each board to what `finalize` gives, and to nothing else
  pub reached : (b : Board) (n : ℕ) → Finalizes b n (finalize b n)
  pub only : (b c : Board) (n : ℕ) → Finalizes b n c → finalize b n ≡ c

-- what a release leaves as it was: a finalization; a slot that is let go; a pin that ends, but for the pins
pub record LeavesLaw : Type 0 where
  pub finalized : (b : Board) (n : ℕ) → Leaves b (finalize b n)
  pub slot_let_go : (b : Board) (owner i : ℕ) → Leaves b (let_go b owner i)
  pub unpinned : (b : Board) (n : ℕ) → Leaves (record b { pins = (unpin b n).pins }) (unpin b n)

-- the work of a release, one object and place at a time, comes to the same by each turn, and what is so of the board and of the work is so again
abbrev pub StackLaw : Type 0
StackLaw = (b : Board) (n i : ℕ) (work : List (ℕ × ℕ)) → IsLinked b → IsWork b ((n, i) ∷ work) → StackTurn b n i work

-- where no weak link sees an object that is gone, a release leaves the objects that are still there, in order, with their slots, but for the weak links to those
-- that went, which are emptied
abbrev pub SparesLaw : Type 0
SparesLaw = (b : Board) (n : ℕ) → WeakLinksLive b
    → (finalize b n).records ≡ map (thinned (is_live (finalize b n))) (filter (λ (r : Record). is_live (finalize b n) r.birth) b.records)

-- where no weak link sees an object that is gone, none does after any of these
pub record WeakLinksLaw : Type 0 where
  pub finalized : (b : Board) (n : ℕ) → WeakLinksLive b → WeakLinksLive (finalize b n)
  pub slot_let_go : (b : Board) (owner i : ℕ) → WeakLinksLive b → WeakLinksLive (let_go b owner i)
  pub unpinned : (b : Board) (n : ℕ) → WeakLinksLive b → WeakLinksLive (unpin b n)

-- each of these notes the ends of objects, and nothing else
pub record FinalNotesLaw : Type 0 where
  pub finalized : (b : Board) (n : ℕ) → NotesEnds b (finalize b n)
  pub slot_let_go : (b : Board) (owner i : ℕ) → NotesEnds b (let_go b owner i)
  pub unpinned : (b : Board) (n : ℕ) → NotesEnds b (unpin b n)
  -- the final notes of an object say the finalizers of its type, then of its parent's, and so on to `object`
  pub derived_first : (r : Record) → map (λ (x : Note). x.deed) (final_notes r) ≡ map Final (filter has_finalizer (chain r.kind))

-- on a sound board an object that is there and not attached is held from a cycle or from an attached object
abbrev pub CycleLaw : Type 0
CycleLaw = (b : Board) → SoundGraph b → (n : ℕ) → is_live b n ≡ true → attached b n ≡ false → HeldFrom b n

-- a clock without a source has its own period, and any other its source's, as that one's mul and div make it, on every board
abbrev pub PeriodsLaw : Type 0
PeriodsLaw = (b : Board) (c : ℕ) → period b c ≡ elim (source_of b c) [ None ↦ own_period b c | Some s ↦ child_period b s ]
