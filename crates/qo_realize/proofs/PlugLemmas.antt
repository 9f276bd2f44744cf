-- What stands where a device is added, or refused, or an attempt at it was cut.
use Rattle.std.proofs.Common.{◌≡◌, refl, ap, sym, subst, ◌∙◌, ℕ, Bool, true, false, List, [], Option, None, Some, Result, Ok, Err, if◌then◌else◌, inl, inr, nat_le, ◌≤◌, ◌&&◌, arith, option_map}
use Rattle.std.specs.Option.{option_map_or}
use Rattle.std.proofs.lemmas.Bool.{le-leb}
use Rattle.std.proofs.lemmas.Option.{same_Some}
use Rattle.qo_hotplug.specs.Hotplug.{Asked}
use Rattle.qo_model.specs.Board.{Board, Ring}
use Rattle.qo_model.specs.Plug.{Wanted, barred_early, cut_attempt, objects_in, plug, type_barred}
use Rattle.qo_model.specs.ChangeScope.{Stays}
use Rattle.qo_model.specs.Types.{TypeInfo, type_named}
use Rattle.qo_model.specs.Types as rows
use Rattle.qo_heap.specs.Board.{Shows}
use Rattle.qo_heap.specs.Objects.{Objects}
use Rattle.qo_plug.proofs.AddLemmas.{shows-path}
use Rattle.qo_plug.specs.Admission.{IfRefused}
use Rattle.qo_plug.specs.Answers.{IsAdded, IsCut, IsRefused, IsShown}
use Rattle.qo_plug.specs.Drafts.{CutShort}
use Rattle.qo_plug.specs.Cuts.{cut_as, cut_of, cut_open}
use Rattle.qo_plug.specs.declared.adding.Added as device
use Rattle.qo_plug.specs.declared.refusals.AddRefusal.{AddRefusal}
use Rattle.qo_plug.specs.declared.refusals.AddRefusal.TheVariants.{Refused, Memory}
use Rattle.qo_properties.specs.Claims.{KeepsBook}
use Rattle.qo_properties.specs.Pins.{OnlyRootPinned}
use Rattle.qo_reset.specs.HoldList.{HoldList}
use Rattle.qo_sound.specs.DeviceScope.{AddLeaves, anonymous_after}
use Rattle.qo_sound.specs.PlugOutcomes as comes
use Rattle.qo_sound.proofs.DeviceScopeLemmas.{devices_stay_lem}
use Rattle.qo_sound.proofs.PlugOutcomesLemmas.{plug_comes_to_lem}
use Rattle.qo_values.specs.declared.codes.Code.{Code}
use Rattle.qo_values.specs.declared.kinds.TypeId.{TypeId}
use Rattle.qo_realize.specs.Answers.{IsTold, Plugs}
use Rattle.qo_realize.specs.BoardClaims.{KeepsClaims}
use Rattle.qo_realize.specs.SoundBoard.{SoundBoard}
use Rattle.qo_realize.specs.Parts.{Parts, counts, parts_of}
use Rattle.qo_realize.specs.Representation.{Stands, StandsForGood}
use Rattle.qo_realize.proofs.RecountLemmas.{is-recounted}
use Rattle.qo_realize.proofs.RepresentationLemmas.{stands-by}
use Rattle.qo_realize.proofs.GoodBoardLemmas.{added-good, cut_as-good, root-pinned}

abbrev pub the : (T : Type 0) → T → T
the T x = x

-- what is beside the heap is the board's
pub is_shown : (b : Board) (rings : List Ring) (anonymous : ℕ) (running : Bool) (holds : HoldList) (asked : Asked) (v : Objects)
    → Stands b (parts_of rings anonymous running holds asked v) → SoundBoard b → KeepsClaims v → IsShown b anonymous holds.births rings asked v
is_shown b rings anonymous running holds asked v s good kept =
    record {
      shown = s.shows;
      recounted = is-recounted b v s.shows s.book kept good;
      anonymous_is = s.anonymous;
      holds_are = s.holds;
      rings_are = s.rings;
      pending = s.pending;
      notices = s.notices;
      sound = good.run.devices.tree;
    }

-- of an add all stays but objects, births, notes, notices and the number of accepted adds; of one that is refused the last two stay too
pub record Leaves (b c : Board) : Type 0 where
  pub running : c.running ≡ b.running
  pub holds : c.holds ≡ b.holds
  pub rings : c.rings ≡ b.rings

leaves-add : (b c : Board) → AddLeaves b c → Leaves b c
leaves-add b c l = record { running = l.running; holds = l.holds; rings = l.rings }

added-leaves : (b : Board) (a : Wanted) → Leaves b (plug b a).board
added-leaves b a = leaves-add b (plug b a).board (devices_stay_lem.plugged b a)

-- accepted adds
refused-stays : (b : Board) (a : Wanted) (refusal : ℕ × Code) → (plug b a).refusal ≡ Some refusal → Stays b (plug b a).board
refused-stays b a refusal is = (devices_stay_lem.refused b a refusal is).stays

taken-anonymous : (b : Board) (a : Wanted) → (plug b a).refusal ≡ None → (plug b a).board.anonymous ≡ counts b.anonymous a.id
taken-anonymous b a is =
    let came : comes.Added b a (plug b a).board = plug_comes_to_lem.added b a is in
    ap (λ (c : Board). c.anonymous) came.board ∙ devices_stay_lem.counted b came.row.id a _ ∙ same a.id
  where
    same : (id : Option (List ℕ)) → anonymous_after b id ≡ counts b.anonymous id
    same None = omega arith
    same (Some id) = refl

-- an attempt that was cut leaves all beside the objects
cut-leaves : (b : Board) (a : Wanted) (i : ℕ) (joined : Bool) → Stays b (cut_as b a i joined)
unfolding cut_as
cut-leaves b a i joined = by (type_barred a.driver) (type_named a.driver)
  where
    none : Stays b b
    none = record { anonymous = refl; now = refl; running = refl; holds = refl; pending = refl; notices = refl; rings = refl }

    some : (t : TypeId) (u : Bool) → Stays b (if u then cut_attempt b t i joined else b)
    some t true = (devices_stay_lem.cut b t i joined).stays
    some t false = none

    free : (row : TypeInfo) (bar : Option (ℕ × Code)) → Stays b (elim bar as (λ o. Board) [ None ↦ cut_of b row.id i joined | Some found ↦ b ])
    free row None = some row.id (nat_le 1 i && nat_le i (objects_in row.id))
    free row (Some found) = none

    by : (bar : Option Code) (row : Option TypeInfo)
        → Stays b (elim bar as (λ o. Board) [ Some code ↦ b | None ↦ option_map_or (λ (row : TypeInfo). cut_open b a row i joined) row b ])
    by (Some code) row = none
    by None None = none
    by None (Some row) = free row (barred_early b row.id a)

-- the board after an add stands
came-stands : (b : Board) (a : Wanted) (rings : List Ring) (anonymous next : ℕ) (running : Bool) (holds : HoldList) (old new : Asked)
    (v w : Objects) (d : device.Added)
    → Stands b (parts_of rings anonymous running holds old v) → IsAdded b a d new w → (plug b a).board.anonymous ≡ next → KeepsBook v w
    → Stands (plug b a).board (parts_of rings next running holds new w)
came-stands b a rings anonymous next running holds old new v w d s came count keeps =
    let l : Leaves b (plug b a).board = added-leaves b a in
    record {
      shows = came.shown;
      anonymous = count;
      running = l.running ∙ s.running;
      holds = l.holds ∙ s.holds;
      pending = came.pending;
      notices = came.notices;
      rings = l.rings ∙ s.rings;
      book = keeps [] s.book;
    }

pub cut-stands : (b c : Board) (rings : List Ring) (anonymous : ℕ) (running : Bool) (holds : HoldList) (asked : Asked) (v w : Objects)
    → Stands b (parts_of rings anonymous running holds asked v) → Stays b c → Shows c w → KeepsBook v w
    → Stands c (parts_of rings anonymous running holds asked w)
cut-stands b c rings anonymous running holds asked v w s l shows keeps = stands-by b c (parts_of rings anonymous running holds asked v) w s l shows keeps

same-stays : (b : Board) → Stays b b
same-stays b = record { anonymous = refl; now = refl; running = refl; holds = refl; pending = refl; notices = refl; rings = refl }

-- a device was added
pub added-stands : (b : Board) (a : Wanted) (rings : List Ring) (anonymous next : ℕ) (running : Bool) (holds : HoldList) (old new : Asked)
    (v w : Objects) (d : device.Added)
    → Stands b (parts_of rings anonymous running holds old v) → IsAdded b a d new w → next ≡ counts anonymous a.id → KeepsBook v w
    → Plugs b a (Ok d) (parts_of rings next running holds new w)
added-stands b a rings anonymous next running holds old new v w d s came is keeps =
    let count = taken-anonymous b a came.refusal ∙ ap (λ (n : ℕ). counts n a.id) s.anonymous ∙ sym is in
    let told : IsTold b a d w = record { birth = came.birth; slot = came.slot; path = shows-path (plug b a).board w came.shown d.birth ∙ came.path; kept = came.kept } in
    (came.refusal, came-stands b a rings anonymous next running holds old new v w d s came count keeps, told)

-- an attempt that was cut is that of these words
cut_as-is : (b : Board) (a : Wanted) (t : TypeId) (i : ℕ) (joined : Bool) → option_map (λ (row : TypeInfo). row.id) (type_named a.driver) ≡ Some t
    → type_barred a.driver ≡ None → barred_early b t a ≡ None
    → 1 ≤ i → i ≤ objects_in t → cut_as b a i joined ≡ cut_attempt b t i joined
unfolding cut_as rows.types
cut_as-is b a t i joined named unbarred early low high = rw unbarred (by (type_named a.driver) refl)
  where
    within : (nat_le 1 i && nat_le i (objects_in t)) ≡ true
    within = rw (le-leb 1 i low, le-leb i (objects_in t) high) refl

    by : (row : Option TypeInfo) → type_named a.driver ≡ row → option_map_or (λ (row : TypeInfo). cut_open b a row i joined) row b ≡ cut_attempt b t i joined
    by None is = absurd (let clash : None ≡ Some t = rw is at named in cc)
    by (Some row) is =
        let same : row.id ≡ t = same_Some row.id t (rw is at named) in
        ap (λ (o : Option (ℕ × Code)). elim o as (λ x. Board) [ None ↦ cut_of b row.id i joined | Some bar ↦ b ])
        (ap (λ (k : TypeId). barred_early b k a) same ∙ early)
        ∙ ap (λ (k : TypeId). cut_of b k i joined) same
        ∙ ap (λ (u : Bool). if u then cut_attempt b t i joined else b) within

-- it was refused, or an attempt was cut
pub barred-stands : (b : Board) (a : Wanted) (rings : List Ring) (anonymous : ℕ) (running : Bool) (holds : HoldList) (old new : Asked)
    (v w : Objects) (e : AddRefusal)
    → Stands b (parts_of rings anonymous running holds old v)
    → IfRefused (the (Result device.Added AddRefusal) (Err e)) (λ stage code. IsRefused b a stage code w)
    → (the (Result device.Added AddRefusal) (Err e) ≡ Err Memory → IsCut b a w) → new ≡ old → KeepsBook v w
    → Plugs b a (Err e) (parts_of rings anonymous running holds new w)
barred-stands b a rings anonymous running holds old new v w (Refused stage code) s refused memory same keeps = (
  refused.refusal,
  subst (λ (h : Asked). Stands (plug b a).board (parts_of rings anonymous running holds h w)) (sym same)
      (cut-stands b (plug b a).board rings anonymous running holds old v w s (refused-stays b a (stage, code) refused.refusal) refused.shown keeps),
)
barred-stands b a rings anonymous running holds old new v w Memory s refused memory same keeps = by (memory refl)
  where
    stands : (c : Board) → Stays b c → Shows c w → Stands c (parts_of rings anonymous running holds new w)
    stands c stays shows =
        subst (λ (h : Asked). Stands c (parts_of rings anonymous running holds h w)) (sym same)
        (cut-stands b c rings anonymous running holds old v w s stays shows keeps)

    short : (t : TypeId) → option_map (λ (row : TypeInfo). row.id) (type_named a.driver) ≡ Some t → type_barred a.driver ≡ None
        → barred_early b t a ≡ None → CutShort b t w → Plugs b a (Err Memory) (parts_of rings anonymous running holds new w)
    short t named unbarred early (inl shows) = inl (stands b (same-stays b) shows)
    short t named unbarred early (inr (i, joined, low, high, shows)) =
        inr (
          i,
          joined,
          stands (cut_as b a i joined) (cut-leaves b a i joined)
              (subst (λ (c : Board). Shows c w) (sym (cut_as-is b a t i joined named unbarred early low high)) shows),
        )

    by : IsCut b a w → Plugs b a (Err Memory) (parts_of rings anonymous running holds new w)
    by (inl shows) = inl (stands b (same-stays b) shows)
    by (inr (t, named, unbarred, early, cut)) = short t named unbarred early cut

-- so a good board stands
pub plugs-good : (b : Board) (a : Wanted) (r : Result device.Added AddRefusal) (p : Parts) → SoundBoard b → Plugs b a r p → StandsForGood p
plugs-good b a (Ok d) p good h = ((plug b a).board, h.1, added-good b a good)
plugs-good b a (Err (Refused stage code)) p good h = ((plug b a).board, h.1, added-good b a good)
plugs-good b a (Err Memory) p good (inl s) = (b, s, good)
plugs-good b a (Err Memory) p good (inr (i, joined, s)) = (cut_as b a i joined, s, cut_as-good b a i joined good)

pub stands-pinned : (p : Parts) → StandsForGood p → OnlyRootPinned p.objects
stands-pinned p (b, s, good) = root-pinned b p s good
