-- Those before the slot, the slot, and those behind it.
use Rattle.std.proofs.Common.{◌≡◌, ◌++◌, ◌∙◌, List, [], ◌∷◌, ap, codes, drop, sym, subst, take, true, arith}
use Rattle.qo_values.specs.PropertyLists.{NamesRise, is_above, names_of}
use Rattle.qo_model.specs.Objects.{Given}
use Rattle.qo_rebuild.specs.Slots.{behind_slot, is_from_slot}
use Rattle.qo_rebuild.proofs.SlotLemmas.{all-are, all-rise, back, before-rise, front, its_slot, place-le, slot-above}
use Rattle.qo_rebuild.proofs.props.with_slot.Goals as goal

pub split_at-requires : goal.split_at-requires
split_at-requires c =
    let le = place-le is_from_slot c.as_slice-given.result.now in
    omega (arith, le, c.slot_place-place.ensures)

pub put_copies-requires : goal.put_copies-requires
put_copies-requires c =
    let given = c.args.props.now in
    let before : c.split_at.result.0.now ≡ front given =
    c.split_at.ensures.front ∙ ap (λ n. take n c.as_slice-given.result.now) c.slot_place-place.ensures ∙ ap front c.as_slice-given.ensures.value in
    subst (λ (l : List Given). NamesRise (names_of l)) (sym (ap (λ (l : List Given). l ++ c.split_at.result.0.now) c.new-all.ensures ∙ before))
    (before-rise given c.as_slice-given.ensures.rise)

pub put_slot-requires : goal.put_slot-requires
put_slot-requires c =
    let given = c.args.props.now in
    let before : c.split_at.result.0.now ≡ front given =
    c.split_at.ensures.front ∙ ap (λ n. take n c.as_slice-given.result.now) c.slot_place-place.ensures ∙ ap front c.as_slice-given.ensures.value in
    let put : c.put_copies.new.props ≡ front given = c.in_ok-put_copies.ensures ∙ ap (λ (l : List Given). l ++ c.split_at.result.0.now) c.new-all.ensures ∙ before in
    subst (λ (l : List Given). is_above (names_of l) (codes "slot") ≡ true) (sym put) (slot-above c.args.slot given c.as_slice-given.ensures.rise)

pub put_copies-requires-2 : goal.put_copies-requires-2
put_copies-requires-2 c =
    let given = c.args.props.now in
    let before : c.split_at.result.0.now ≡ front given =
    c.split_at.ensures.front ∙ ap (λ n. take n c.as_slice-given.result.now) c.slot_place-place.ensures ∙ ap front c.as_slice-given.ensures.value in
    let behind : c.behind_slot-behind.result.now ≡ back given =
    c.behind_slot-behind.ensures ∙ ap behind_slot (c.split_at.ensures.back ∙ ap (λ n. drop n c.as_slice-given.result.now) c.slot_place-place.ensures)
    ∙ ap back c.as_slice-given.ensures.value in
    let put : c.put_copies.new.props ≡ front given = c.in_ok-put_copies.ensures ∙ ap (λ (l : List Given). l ++ c.split_at.result.0.now) c.new-all.ensures ∙ before in
    let with : c.put_slot.new.props ≡ front given ++ its_slot c.args.slot ∷ [] =
    c.in_ok-put_slot.ensures ∙ ap (λ (l : List Given). l ++ its_slot c.args.slot ∷ []) put in
    subst (λ (l : List Given). NamesRise (names_of l))
    (sym (ap (λ (l : List Given). l ++ c.behind_slot-behind.result.now) with ∙ ap (λ (l : List Given). (front given ++ its_slot c.args.slot ∷ []) ++ l) behind))
    (all-rise c.args.slot given c.as_slice-given.ensures.rise)

pub returns : goal.returns
returns c =
    let given = c.args.props.now in
    let before : c.split_at.result.0.now ≡ front given =
    c.split_at.ensures.front ∙ ap (λ n. take n c.as_slice-given.result.now) c.slot_place-place.ensures ∙ ap front c.as_slice-given.ensures.value in
    let behind : c.behind_slot-behind.result.now ≡ back given =
    c.behind_slot-behind.ensures ∙ ap behind_slot (c.split_at.ensures.back ∙ ap (λ n. drop n c.as_slice-given.result.now) c.slot_place-place.ensures)
    ∙ ap back c.as_slice-given.ensures.value in
    let put : c.put_copies.new.props ≡ front given = c.in_ok-put_copies.ensures ∙ ap (λ (l : List Given). l ++ c.split_at.result.0.now) c.new-all.ensures ∙ before in
    let with : c.put_slot.new.props ≡ front given ++ its_slot c.args.slot ∷ [] =
    c.in_ok-put_slot.ensures ∙ ap (λ (l : List Given). l ++ its_slot c.args.slot ∷ []) put in
    c.in_ok-put_copies-2.ensures ∙ ap (λ (l : List Given). l ++ c.behind_slot-behind.result.now) with
    ∙ ap (λ (l : List Given). (front given ++ its_slot c.args.slot ∷ []) ++ l) behind ∙ all-are c.args.slot given
