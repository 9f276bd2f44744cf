-- The law: how a device that has no buses is taken out.
use Rattle.std.proofs.Common.{◌≡◌, refl, ap, sym, ◌∙◌, ℕ, zero, suc, Bool, true, false, List, [], ◌∷◌, filter_map, length, Option, Some, None, codes}
use Rattle.qo_model.proofs.Common.{list_any, ANONYMOUS_BIRTH, PERIPHERAL_BIRTH, Board, Slot, plain, child, strong, weak, alias, slots_at, among, by_depth, bus_of, buses_of, kids_of, index_from, births, is_of, pin, unpin, apart_within, detach, each, is_child_slot, is_named, left_bus, left_parent, let_go_where, lost_buses, names_kid, take_where, unrealize, unrealize_turn, unrealized_bus, unrealized_device}
use Rattle.std.proofs.lemmas.Option.{same_Some}
use Rattle.qo_model.specs.Paths.{parent_of}
use Rattle.qo_model.specs.Unplug.{first_of}
use Rattle.qo_sound.proofs.FirmBoardLemmas.{WellFormed}
use Rattle.qo_sound.proofs.TestLemmas.{clash, decide}
use Rattle.qo_sound.proofs.ViewLemmas.{rest-from_sound}
use Rattle.qo_sound_devices.specs.SoundPlaces.{child_entries, child_entry, listed, names_it, owns, owns_it, stands}
use Rattle.qo_sound_devices.proofs.AttachmentLemmas.{parent-is}
use Rattle.qo_sound_devices.proofs.DepthLemmas.{is-bus_of, IsBusOf}
use Rattle.qo_sound_devices.proofs.DetachmentLemmas.{dims, first-among, owned-bus}
use Rattle.qo_sound_devices.proofs.PinLemmas.{pin-children}
use Rattle.qo_sound_devices.proofs.PlacesLemmas.{of-alike, or-cases, Within, within-any, within-same}
use Rattle.qo_sound_devices.proofs.StepsLemmas.{within-then}
use Rattle.qo_sound_phases.proofs.UnparentingLemmas.{Walked, walked-none, walked-take, walked-where}
use Rattle.qo_plain.specs.Detached.{DetachedLaw}

-- a child slot of a name is found where it is listed
child-found : (d k i : ℕ) (slots : List (List ℕ × Slot)) → index_from (is_child_slot d) k slots ≡ Some i → listed d (filter_map child_entry slots) ≡ true
child-found d k i [] e = cc
child-found d k i ((name, plain v) ∷ slots) e = child-found d (suc k) i slots e
child-found d k i ((name, strong t target) ∷ slots) e = child-found d (suc k) i slots e
child-found d k i ((name, weak t target) ∷ slots) e = child-found d (suc k) i slots e
child-found d k i ((name, alias m property) ∷ slots) e = child-found d (suc k) i slots e
child-found d k i ((name, child m) ∷ slots) e = go (is_child_slot d (name, child m)) refl (child-found d (suc k) i slots)
  where
    go : (t : Bool) → is_child_slot d (name, child m) ≡ t
        → (index_from (is_child_slot d) (suc k) slots ≡ Some i → listed d (filter_map child_entry slots) ≡ true)
        → listed d ((name, m) ∷ filter_map child_entry slots) ≡ true
    go true p rest = rw p refl
    go false p rest = rw p (rest (rw p at e))

-- what is no child stays
unlisted-stays : (d n : ℕ) (c : Board) → listed d (child_entries c n) ≡ false → let_go_where (is_child_slot d) n c ≡ c
unlisted-stays d n c none = go (index_from (is_child_slot d) 0 (slots_at c n)) refl
  where
    go : (o : Option ℕ) → index_from (is_child_slot d) 0 (slots_at c n) ≡ o → let_go_where (is_child_slot d) n c ≡ c
    go None e = rw (let_go_where, e) refl
    go (Some i) e = clash (sym (child-found d 0 i (slots_at c n) e) ∙ none)

-- so one of the containers lets go, which is the parent
module _ (b : Board) (firm : WellFormed b) (d p : ℕ) (above : parent_of b d ≡ Some p) where
  none-else : (n : ℕ) → (n ≡ p → ⊥) → listed d (child_entries b n) ≡ false
  none-else n apart = decide (listed d (child_entries b n)) (λ l. absurd (apart (same_Some n p (sym (parent-is b firm n d l) ∙ above)))) (λ l. l)

  none-within : (c : Board) (n : ℕ) → Within (child_entries c n) (child_entries b n) → (n ≡ p → ⊥) → listed d (child_entries c n) ≡ false
  none-within c n less apart =
      decide (listed d (child_entries c n)) (λ l. clash (sym (within-any (names_it d) less l) ∙ none-else n apart)) (λ l. l)

  pub let-go-parent : (c : Board) → ((n : ℕ) → Within (child_entries c n) (child_entries b n)) → stands b d ≡ true
      → left_parent d c ≡ let_go_where (is_child_slot d) p c
  let-go-parent c less e =
      or-cases (listed d (child_entries b PERIPHERAL_BIRTH)) (listed d (child_entries b ANONYMOUS_BIRTH)) e
      (λ l.
      let at : PERIPHERAL_BIRTH ≡ p = same_Some PERIPHERAL_BIRTH p (sym (parent-is b firm PERIPHERAL_BIRTH d l) ∙ above) in
      unlisted-stays d ANONYMOUS_BIRTH (let_go_where (is_child_slot d) PERIPHERAL_BIRTH c)
      (none-within (let_go_where (is_child_slot d) PERIPHERAL_BIRTH c) ANONYMOUS_BIRTH
      (within-then
      ((walked-where c (λ x. ⊥) (is_child_slot d) PERIPHERAL_BIRTH (λ x. x) c (walked-none c (λ x. ⊥))).children ANONYMOUS_BIRTH) (less ANONYMOUS_BIRTH))
      (λ is. apart (at ∙ sym is)))
      ∙ ap (λ (n : ℕ). let_go_where (is_child_slot d) n c) at)
      (λ l.
      let at : ANONYMOUS_BIRTH ≡ p = same_Some ANONYMOUS_BIRTH p (sym (parent-is b firm ANONYMOUS_BIRTH d l) ∙ above) in
      ap (let_go_where (is_child_slot d) ANONYMOUS_BIRTH)
      (unlisted-stays d PERIPHERAL_BIRTH c (none-within c PERIPHERAL_BIRTH (less PERIPHERAL_BIRTH) (λ is. apart (is ∙ sym at))))
      ∙ ap (λ (n : ℕ). let_go_where (is_child_slot d) n c) at)
    where
      apart : PERIPHERAL_BIRTH ≡ ANONYMOUS_BIRTH → ⊥
      apart is = cc

-- a device that leaves its bus
left_bus-walked : (d : ℕ) (c : Board) → Walked c (λ x. ⊥) (left_bus d c)
left_bus-walked d c = go (bus_of c d) refl
  where
    go : (o : Option ℕ) → bus_of c d ≡ o → Walked c (λ x. ⊥) (left_bus d c)
    go None e = rw (left_bus, e) (walked-none c (λ x. ⊥))
    go (Some m) e =
        rw (left_bus, e)
        (walked-where c (λ x. ⊥) (is_named (codes "parent_bus")) d (λ x. x) (take_where (names_kid d) m c)
        (walked-take c (λ x. ⊥) d m c (walked-none c (λ x. ⊥))))

-- one without buses
pin-buses : (b : Board) (d : ℕ) → buses_of (pin b d) d ≡ buses_of b d
unfolding pin
pin-buses b d = refl

unrealize-single : (b : Board) (d : ℕ) → buses_of b d ≡ [] → unrealize b d ≡ unrealized_device d b
unfolding unrealize
unrealize-single b d none =
    ap (λ (ms : List ℕ). unrealized_device d (each (λ m. λ e. unrealized_bus m (each (by_depth (unrealize_turn b) (λ x c. c) (length (births b))) (kids_of b m) e)) ms b)) none

no-buses : (b : Board) (d : ℕ) → buses_of b d ≡ [] → first_of (buses_of (unrealize (pin b d) d) d) ≡ None
no-buses b d none = go (first_of (buses_of (unrealize (pin b d) d) d)) refl
  where
    u : Board
    u = unrealize (pin b d) d

    go : (o : Option ℕ) → first_of (buses_of (unrealize (pin b d) d) d) ≡ o → first_of (buses_of (unrealize (pin b d) d) d) ≡ None
    go None e = e
    go (Some m) e =
        let its : IsBusOf (unrealize (pin b d) d) d m = is-bus_of (unrealize (pin b d) d) d m (first-among (buses_of (unrealize (pin b d) d) d) m e) in
        let own : owns (pin b d) d m ≡ true = sym (ap (list_any (owns_it m)) ((dims b d).children d)) ∙ its.owned in
        let is : is_of (pin b d) (codes "bus") m ≡ true =
        sym (of-alike (pin b d) (unrealize (pin b d) d) m (codes "bus") ((dims b d).body m)) ∙ its.bus in
        let had : among (buses_of (pin b d) d) m ≡ true = owned-bus (pin b d) m is (slots_at (pin b d) d) own in
        clash (sym had ∙ ap (λ (ms : List ℕ). among ms m) (pin-buses b d ∙ none))

pub lost-none : (f : ℕ → Board → Board) (times d : ℕ) (c : Board) → first_of (buses_of c d) ≡ None → lost_buses f times d c ≡ c
lost-none f zero d c e = refl
lost-none f (suc times) d c e = rw (lost_buses, e) refl

pub detached_lem : DetachedLaw
unfolding detach
detached_lem b h d p e none above =
    ap (λ (c : Board). unpin (left_parent d (left_bus d c)) d) (lost-none (apart_within (length (births b))) (length (slots_at u d)) d u (no-buses b d none))
    ∙ ap (λ (c : Board). unpin c d) (let-go-parent b firm d p above (left_bus d u) less e)
    ∙ ap (λ (c : Board). unpin (let_go_where (is_child_slot d) p (left_bus d c)) d) (unrealize-single (pin b d) d (pin-buses b d ∙ none))
  where
    u : Board
    u = unrealize (pin b d) d

    firm : WellFormed b
    firm = (rest-from_sound b h.tree).used.firm

    less : (n : ℕ) → Within (child_entries (left_bus d (unrealize (pin b d) d)) n) (child_entries b n)
    less n =
        within-then ((left_bus-walked d (unrealize (pin b d) d)).children n)
        (within-same ((dims b d).children n ∙ pin-children b d n))
