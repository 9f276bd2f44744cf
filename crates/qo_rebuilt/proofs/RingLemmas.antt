-- The law: rings that are added are told.
use Rattle.std.proofs.Common.{◌≡◌, refl, ap, sym, subst, ◌∙◌, ℕ, Bool, true, false, not, List, [], ◌∷◌, ◌++◌, map, Option, Some, None, Ok, Err, append_assoc, append-nil, arith}
use Rattle.std.specs.Prelude.{Result}
use Rattle.std.proofs.lemmas.List.{map-append}
use Rattle.std.proofs.lemmas.Option.{same_Some}
use Rattle.qo_model.proofs.Common.{AllByRecursion, if◌then◌else◌, IsDistinct, list_any, bytes_eq, Board, Ring, has_ring, opening_board, path_down_to}
use Rattle.qo_values.specs.Rings.{is_ring_size}
use Rattle.qo_values.specs.declared.codes.Code.{Code}
use Rattle.qo_values.specs.declared.codes.Code.TheVariants.{E23, E24, E51}
use Rattle.qo_save.specs.Described.{described, description, is_describable, ring_item}
use Rattle.qo_save.specs.Description.{Description, RingItem}
use Rattle.qo_save.specs.Rebuilding.{add_ring, all_done, ring_barred, Step}
use Rattle.qo_save.specs.Rows.{opening_row}
use Rattle.qo_save.proofs.RowsLemmas.{rows_lem}
use Rattle.qo_good.specs.Good.{IsGoodRing}
use Rattle.qo_good.proofs.ItemLemmas.{all-append}
use Rattle.qo_rebuilt.specs.Made.{IsFree, Makes, RingsMadeLaw, Tells}
use Rattle.qo_rebuilt.proofs.WholeLemmas.{whole_kept_lem}

-- a ring without bytes
abbrev made : RingItem → Ring
made r = record { id = r.id; size = r.size; bytes = [] }

-- rings are told by themselves
with-rings : (b : Board) (rings : List Ring) → description (record b { rings = rings }) ≡ record (description b) { rings = map ring_item rings }
unfolding path_down_to
with-rings b rings = refl

describable-rings : (b : Board) (rings : List Ring) → is_describable (record b { rings = rings }) ≡ is_describable b
describable-rings b rings = refl

-- the description that a board has
pub record Has (b : Board) (d : Description) : Type 0 where
  pub says : is_describable b ≡ true
  pub is : description b ≡ d

pub has : (b : Board) (d : Description) → described b ≡ Some d → Has b d
unfolding described
has b d e = go (is_describable b) refl
  where
    go : (t : Bool) → is_describable b ≡ t → Has b d
    go true q = record { says = q; is = same_Some (description b) d (rw q at e) }
    go false q = absurd (let clash : None ≡ Some d = rw q at e in cc)

pub says-so : (b : Board) (d : Description) → is_describable b ≡ true → description b ≡ d → described b ≡ Some d
unfolding described
says-so b d e is = rw e (ap Some is)

-- an id is free
none-named : (id : List ℕ) (rings : List Ring) → AllByRecursion (λ (x : RingItem). bytes_eq x.id id ≡ false) (map ring_item rings)
    → list_any (λ (r : Ring). bytes_eq r.id id) rings ≡ false
none-named id [] h = refl
none-named id (r ∷ rings) h = rw (h.0, none-named id rings h.1) refl

ring-made : (b : Board) (d : Description) (r : RingItem) → Tells b d → IsGoodRing r → IsFree d r
    → Tells (record b { rings = b.rings ++ made r ∷ [] }) (record d { rings = d.rings ++ r ∷ [] })
ring-made b d r h good free =
    let k : Has b d = has b d h.says in
    let absent : has_ring b r.id ≡ false =
    none-named r.id b.rings (subst (λ (x : Description). AllByRecursion (λ (y : RingItem). bytes_eq y.id r.id ≡ false) x.rings) (sym k.is) free) in
    let more : map ring_item (b.rings ++ made r ∷ []) ≡ d.rings ++ r ∷ [] =
    map-append ring_item b.rings (made r ∷ []) ∙ ap (λ (x : Description). x.rings ++ r ∷ []) k.is in
    record {
      whole = whole_kept_lem.ring_added b (made r) good.id absent (record { size = good.size; room = omega arith }) h.whole;
      says = says-so (record b { rings = b.rings ++ made r ∷ [] }) (record d { rings = d.rings ++ r ∷ [] })
          (describable-rings b (b.rings ++ made r ∷ []) ∙ k.says)
          (with-rings b (b.rings ++ made r ∷ []) ∙ ap (λ (rings : List RingItem). record (description b) { rings = rings }) more
          ∙ ap (λ (x : Description). record x { rings = d.rings ++ r ∷ [] }) k.is);
      quiet = h.quiet;
    }

abbrev ring_by : Board → RingItem → Option Code → Result Board Code
ring_by b r None = Ok (record b { rings = b.rings ++ made r ∷ [] })
ring_by b r (Some code) = Err code

ring-taken : (b : Board) (d : Description) (r : RingItem) → Tells b d → IsGoodRing r → IsFree d r
    → add_ring r b ≡ Ok (record b { rings = b.rings ++ made r ∷ [] })
ring-taken b d r h good free =
    let k : Has b d = has b d h.says in
    let absent : has_ring b r.id ≡ false =
    none-named r.id b.rings (subst (λ (x : Description). AllByRecursion (λ (y : RingItem). bytes_eq y.id r.id ≡ false) x.rings) (sym k.is) free) in
    let barred : ring_barred b r ≡ None =
    ap (λ (t : Bool). if not t then Some E23 else if has_ring b r.id then Some E24 else if not (is_ring_size r.size) then Some E51 else None) good.id
    ∙ ap (λ (t : Bool). if t then Some E24 else if not (is_ring_size r.size) then Some E51 else None) absent
    ∙ ap (λ (t : Bool). if not t then Some E51 else None) good.size in
    ap (ring_by b r) barred

free-more : (d : Description) (r : RingItem) (rs : List RingItem) → AllByRecursion (IsFree d) rs
    → AllByRecursion (λ (y : List ℕ). bytes_eq r.id y ≡ false) (map (λ (x : RingItem). x.id) rs)
    → AllByRecursion (IsFree (record d { rings = d.rings ++ r ∷ [] })) rs
free-more d r [] free differ = tt
free-more d r (x ∷ rs) free differ =
    (all-append (λ (y : RingItem). bytes_eq y.id x.id ≡ false) d.rings (r ∷ []) free.0 (differ.0, tt), free-more d r rs free.1 differ.1)

-- further commands, if those before were taken
abbrev pub then_all : List Step → Result Board Code → Result Board Code
then_all steps (Ok b) = all_done steps b
then_all steps (Err code) = Err code

rings-made : (b : Board) (d : Description) (rs : List RingItem) → Tells b d → AllByRecursion IsGoodRing rs → AllByRecursion (IsFree d) rs
    → IsDistinct bytes_eq (map (λ (r : RingItem). r.id) rs) → Makes (map add_ring rs) b (record d { rings = d.rings ++ rs })
unfolding IsDistinct
rings-made b d [] h good free once =
    record { board = b; taken = refl; tells = subst (λ (rings : List RingItem). Tells b (record d { rings = rings })) (sym (append-nil d.rings)) h }
rings-made b d (r ∷ rs) h good free once =
    let c : Board = record b { rings = b.rings ++ made r ∷ [] } in
    let more : Makes (map add_ring rs) c (record d { rings = (d.rings ++ r ∷ []) ++ rs }) =
    rings-made c (record d { rings = d.rings ++ r ∷ [] }) rs (ring-made b d r h good.0 free.0) good.1 (free-more d r rs free.1 once.0) once.1 in
    let first : add_ring r b ≡ Ok c = ring-taken b d r h good.0 free.0 in
    record {
      board = more.board;
      taken = ap (then_all (map add_ring rs)) first ∙ more.taken;
      tells = subst (λ (rings : List RingItem). Tells more.board (record d { rings = rings })) (append_assoc d.rings (r ∷ []) rs) more.tells;
    }

abbrev board_of : Result Board Code → Board
board_of (Ok b) = b
board_of (Err code) = opening_board

opening-says : described opening_board ≡ Some opening_row
opening-says =
    let same : opening_board ≡ rows_lem.opening.board = ap board_of rows_lem.opening.made in
    subst (λ (x : Board). described x ≡ Some opening_row) (sym same) rows_lem.opening.says

opening-tells : Tells opening_board opening_row
unfolding opening_board
opening-tells = record { whole = whole_kept_lem.opening; says = opening-says; quiet = refl }

pub rings_made_lem : RingsMadeLaw
rings_made_lem = record { opening = opening-tells; rings = rings-made }
