-- The law: what is rebuilt of a description, good or not, is in order and has a description.
use Rattle.std.proofs.Common.{◌≡◌, refl, ap, subst, ℕ, true, false, not, List, [], ◌∷◌, ◌++◌, Option, Some, None, Result, Ok, Err, arith}
use Rattle.std.proofs.lemmas.Bool.{not-false}
use Rattle.qo_model.proofs.Common.{drop, if◌then◌else◌, is_id, Code, Val, Board, Ring, added, wrote, after_write, div_of, mul_of, has_ring, object_add, opening_board, plug, write_at}
use Rattle.qo_values.specs.Rings.{is_ring_size}
use Rattle.qo_values.specs.declared.codes.Code.TheVariants.{E23, E24, E51}
use Rattle.qo_model.proofs.ClockPropertyLemmas.{write_at-cases}
use Rattle.qo_save.specs.Described.{description, is_describable}
use Rattle.qo_save.specs.Description.{Description, DeviceItem, ObjectItem, RingItem}
use Rattle.qo_save.specs.Rebuilding.{add_device, add_object, add_ring, rebuilt, ring_barred, wanted_by}
use Rattle.qo_sound.proofs.AddLemmas.{unbarred}
use Rattle.qo_sound_clocks.proofs.StepsLemmas.{same_ok}
use Rattle.qo_good.specs.GoodBoards.{IsWhole}
use Rattle.qo_rebuilt.specs.DescribableKept.{DescribableKeptLaw}
use Rattle.qo_rebuilt.proofs.KinAdditionLemmas.{describable-object, describable-ring}
use Rattle.qo_rebuilt.proofs.KinDeviceLemmas.{describable-device}
use Rattle.qo_rebuilt.proofs.KinKeptLemmas.{describable-wrote}
use Rattle.qo_rebuilt.proofs.RingLemmas.{has, rings_made_lem, says-so}
use Rattle.qo_rebuilt.proofs.StepsLemmas.{KeepsStep, KeepsSteps, rebuilt-kept}
use Rattle.qo_rebuilt.proofs.WholeLemmas.{whole_kept_lem}

-- ---- commands that are taken keep a board in order

whole-at : (path name : List ℕ) (v : Val) → KeepsStep IsWhole (λ b. write_at b path name v)
whole-at path name v b c h e =
    write_at-cases (IsWhole c) b c
    (λ n own w q. subst IsWhole (ap (after_write b) q) (whole_kept_lem.change b (wrote n own w) h))
    (λ k period fits q. whole_kept_lem.set b c k period fits q h)
    (λ k mul fits q. whole_kept_lem.scaled b c k mul (div_of b k) fits (h.numbers k).div q h)
    (λ k div fits q. whole_kept_lem.scaled b c k (mul_of b k) div (h.numbers k).mul fits q h)
    path name v e

whole-ring : (r : RingItem) → KeepsStep IsWhole (add_ring r)
whole-ring r b c h e = go (ring_barred b r) refl e
  where
    ring : Ring
    ring = record { id = r.id; size = r.size; bytes = [] }

    d : Board
    d = record b { rings = b.rings ++ ring ∷ [] }

    kept : ring_barred b r ≡ None → IsWhole d
    kept free =
        let sized : Option Code = if not (is_ring_size r.size) then Some E51 else None in
        let first : (not (is_id r.id) ≡ false) × ((if has_ring b r.id then Some E24 else sized) ≡ None) =
        unbarred (not (is_id r.id)) E23 (if has_ring b r.id then Some E24 else sized) free in
        let second : (has_ring b r.id ≡ false) × (sized ≡ None) = unbarred (has_ring b r.id) E24 sized first.1 in
        let third : (not (is_ring_size r.size) ≡ false) × (None ≡ None) = unbarred (not (is_ring_size r.size)) E51 None second.1 in
        whole_kept_lem.ring_added b ring (not-false (is_id r.id) first.0) second.0
        (record { size = not-false (is_ring_size r.size) third.0; room = omega arith }) h

    go : (o : Option Code) → ring_barred b r ≡ o → (elim o as (λ _. Result Board Code) [ Some code ↦ Err code | None ↦ Ok d ]) ≡ Ok c → IsWhole c
    go None q f = subst IsWhole (same_ok d c f) (kept q)
    go (Some code) q f = absurd (let clash : Err code ≡ Ok c = f in cc)

whole-object : (o : ObjectItem) → KeepsStep IsWhole (add_object o)
whole-object o b c h e = go (object_add b o.kind o.id o.props).refusal e
  where
    d : Board
    d = (object_add b o.kind o.id o.props).board

    go : (r : Option Code) → (elim r as (λ _. Result Board Code) [ Some code ↦ Err code | None ↦ Ok d ]) ≡ Ok c → IsWhole c
    go None f = subst IsWhole (same_ok d c f) (whole_kept_lem.change b (added o.kind o.id o.props) h)
    go (Some code) f = absurd (let clash : Err code ≡ Ok c = f in cc)

whole-device : (x : DeviceItem) → KeepsStep IsWhole (add_device x)
whole-device x b c h e = go (plug b (wanted_by x)).refusal e
  where
    d : Board
    d = (plug b (wanted_by x)).board

    last : Board
    last = record d { notices = drop 1 d.notices }

    go : (r : Option (ℕ × Code)) → (elim r as (λ _. Result Board Code) [ Some refusal ↦ Err refusal.1 | None ↦ Ok last ]) ≡ Ok c → IsWhole c
    go None f = subst IsWhole (same_ok last c f) (whole_kept_lem.read d (whole_kept_lem.plugged b (wanted_by x) h))
    go (Some refusal) f = absurd (let clash : Err refusal.1 ≡ Ok c = f in cc)

-- ---- and a board in order that has a description keeps both

record IsTold (b : Board) : Type 0 where
  whole : IsWhole b
  says : is_describable b ≡ true

told-steps : KeepsSteps IsTold
told-steps =
    record {
      wrote = λ path name v b c h e. record { whole = whole-at path name v b c h.whole e; says = describable-wrote b c path name v h.whole e h.says };
      ring_added = λ r b c h e. record { whole = whole-ring r b c h.whole e; says = describable-ring r b c e h.says };
      object_added = λ o b c h e. record { whole = whole-object o b c h.whole e; says = describable-object o b c h.whole e h.says };
      device_added = λ x b c h e. record { whole = whole-device x b c h.whole e; says = describable-device x b c h.whole e h.says };
    }

opening-says : is_describable opening_board ≡ true
opening-says = (has opening_board _ rings_made_lem.opening.says).says

rebuilt-told : (d : Description) (c : Board) → rebuilt d ≡ Ok c → IsTold c
rebuilt-told d c e = rebuilt-kept IsTold told-steps (record { whole = whole_kept_lem.opening; says = opening-says }) d c e

pub describable_kept_lem : DescribableKeptLaw
describable_kept_lem =
    record {
      opening = opening-says;
      wrote = describable-wrote;
      ring_added = describable-ring;
      object_added = describable-object;
      device_added = describable-device;
      whole = λ d c e. (rebuilt-told d c e).whole;
      rebuilt_so = λ d c e. says-so c (description c) (rebuilt-told d c e).says refl;
    }
