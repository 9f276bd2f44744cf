-- What taking apart leaves on each board: pins, who is held from outside the tree, and what stands beside the tree.
use Rattle.std.proofs.Common.{◌≡◌, refl, ap, sym, subst, ◌∙◌, ℕ, zero, suc, ◌+◌, ◌<◌, ◌≤◌, ◌==◌, eqb, nat_eq, leb, cond, codes, Bool, true, false}
use Rattle.std.proofs.Common.{List, [], ◌∷◌, length, slice_get, Option, None, Some, is_some, option_map, arith}
use Rattle.std.specs.List.{list_any}
use Rattle.std.proofs.lemmas.Bool.{eqb-true, eq-eqb}
use Rattle.std.proofs.lemmas.List.Sums.{sum_by-cons}
use Rattle.qo_values.specs.declared.births.TheConstants.{ANONYMOUS_BIRTH, PERIPHERAL_BIRTH}
use Rattle.qo_values.specs.declared.kinds.TypeId.{TypeId}
use Rattle.qo_model.specs.Board.{Board, Record, Slot, plain, child, strong, weak, alias, referent, is_live, record_of, slot_at, slots_at}
use Rattle.qo_model.specs.Changes.{cut, with_cut}
use Rattle.qo_model.specs.Devices.{bus_of, buses_of, kids_of, plain_in}
use Rattle.qo_model.specs.Objects.{index_from}
use Rattle.qo_model.specs.References.{refs}
use Rattle.qo_model.specs.Release.{after, drop_slot, edited, finalize, let_go, pin, put_in_order, unpin, with_dropped, without_first, without_pin}
use Rattle.qo_model.specs.Unplug.{apart_within, drained, first_of, is_bus_child, is_child_slot, is_named, left_bus, left_parent, let_go_where}
use Rattle.qo_model.specs.Unplug.{lost_bus, lost_buses, names_kid, take_slot, take_where, taken_by}
use Rattle.qo_model.proofs.FirstSlotLemmas.{Found, found-at, slots_in}
use Rattle.qo_model.proofs.PinLemmas.{IsUp, put-back, put-up, release-pins}
use Rattle.qo_model.proofs.ReleaseScopeLemmas.{release_leaves}
use Rattle.qo_model.proofs.StepLemmas.{drop-live, drop-record, found-birth, found-edited, is_some-map}
use Rattle.qo_heap.proofs.BoardReads.{times}
use Rattle.qo_life.proofs.HeldLemmas.{held-after}
use Rattle.qo_unplug.specs.Unparenting.{bus_lost, buses_lost, drained_within, first_apart, first_lost, taken_within}
use Rattle.qo_unplug.specs.Unrealizing.{on_one}
use Rattle.qo_sound.proofs.SlotLemmas.{kept-slot}
use Rattle.qo_sound_clocks.specs.SoundTimes.{SoundTimes}
use Rattle.qo_sound_clocks.proofs.TimesLemmas.{drop-times, times-edits, times-ends}
use Rattle.qo_unplug.proofs.RealizedLemmas.{SameLit, same_lit-after, same_lit-cut, same_lit-drop, same_lit-none, same_lit-then}

-- how often a number stands in a list

abbrev one_of : ℕ → ℕ → ℕ
one_of x m = cond {A = ℕ} (m == x) 1 0

times-first : (x m : ℕ) (ms : List ℕ) → times x (m ∷ ms) ≡ one_of x m + times x ms
times-first x m ms = sum_by-cons (one_of x) m ms

one-own : (n : ℕ) → one_of n n ≡ 1
one-own n = let own : (n == n) ≡ true = eq-eqb n n refl in rw own refl

pub times-put : (x n : ℕ) (ms : List ℕ) → times x (put_in_order n ms) ≡ one_of x n + times x ms
times-put x n [] = times-first x n []
times-put x n (m ∷ ms) = go (leb m n) refl (times-put x n ms)
  where
    go : (t : Bool) → leb m n ≡ t → times x (put_in_order n ms) ≡ one_of x n + times x ms
        → times x (put_in_order n (m ∷ ms)) ≡ one_of x n + times x (m ∷ ms)
    go true p rest = rw (put_in_order, p) (omega (arith, rest, times-first x m (put_in_order n ms), times-first x m ms))
    go false p rest = rw (put_in_order, p) (times-first x n (m ∷ ms))

pub times-own : (n : ℕ) (ms : List ℕ) → times n (put_in_order n ms) ≡ 1 + times n ms
times-own n ms = omega (arith, times-put n n ms, one-own n)

pub put-most : (x n : ℕ) (ms : List ℕ) → times x (put_in_order n ms) ≤ 1 + times x ms
put-most x n ms = go (n == x) (times-put x n ms)
  where
    go : (t : Bool) → times x (put_in_order n ms) ≡ cond {A = ℕ} t 1 0 + times x ms → times x (put_in_order n ms) ≤ 1 + times x ms
    go true e = omega arith
    go false e = omega arith

times-without : (x n : ℕ) (ms : List ℕ) → 0 < times n ms → times x (without_first n ms) + one_of x n ≡ times x ms
times-without x n [] some = absurd (omega (arith, some))
times-without x n (m ∷ ms) some = go (m == n) refl (times-without x n ms)
  where
    go : (t : Bool) → (m == n) ≡ t → (0 < times n ms → times x (without_first n ms) + one_of x n ≡ times x ms)
        → times x (without_first n (m ∷ ms)) + one_of x n ≡ times x (m ∷ ms)
    go true p rest =
        let same : one_of x m ≡ one_of x n = ap (one_of x) (eqb-true m n p) in
        rw (without_first, p) (omega (arith, same, times-first x m ms))
    go false p rest =
        let other : one_of n m ≡ 0 = rw p refl in
        let later : times x (without_first n ms) + one_of x n ≡ times x ms = rest (omega (arith, some, other, times-first n m ms)) in
        rw (without_first, p) (omega (arith, later, times-first x m (without_first n ms), times-first x m ms))

among-some : (n : ℕ) (ms : List ℕ) → 0 < times n ms → list_any (nat_eq n) ms ≡ true
among-some n [] some = absurd (omega (arith, some))
among-some n (m ∷ ms) some = go (eqb n m) refl (among-some n ms)
  where
    go : (t : Bool) → eqb n m ≡ t → (0 < times n ms → list_any (nat_eq n) ms ≡ true) → list_any (nat_eq n) (m ∷ ms) ≡ true
    go true p rest = rw p refl
    go false p rest =
        let turned : (m == n) ≡ false = grind (arith, p) in
        let other : one_of n m ≡ 0 = rw turned refl in
        rw p (rest (omega (arith, some, other, times-first n m ms)))

-- what is left

pub record Takes (b c : Board) : Type 0 where
  pub pins : (x : ℕ) → times x c.pins ≡ times x b.pins
  pub same : IsUp b.pins → c.pins ≡ b.pins
  pub live : (x : ℕ) → is_live b x ≡ true → 0 < times x b.pins → is_live c x ≡ true
  pub moments : SoundTimes b → SoundTimes c
  pub lit : SameLit b c
  pub holds : c.holds ≡ b.holds
  pub pending : c.pending ≡ b.pending
  pub notices : c.notices ≡ b.notices

pub takes-none : (b : Board) → Takes b b
takes-none b = record { pins = λ x. refl; same = λ up. refl; live = λ x live some. live; moments = λ h. h; lit = same_lit-none b; holds = refl; pending = refl; notices = refl }

pub takes-then : (b c d : Board) → Takes b c → Takes c d → Takes b d
takes-then b c d p q =
    record {
      pins = λ x. q.pins x ∙ p.pins x;
      same = λ up. let first : c.pins ≡ b.pins = p.same up in q.same (subst (λ (l : List ℕ). IsUp l) (sym first) up) ∙ first;
      live = λ x live some. q.live x (p.live x live some) (omega (arith, some, p.pins x));
      moments = λ h. q.moments (p.moments h);
      lit = same_lit-then b c d p.lit q.lit;
      holds = q.holds ∙ p.holds;
      pending = q.pending ∙ p.pending;
      notices = q.notices ∙ p.notices;
    }

-- releases

record IsBeside (b c : Board) : Type 0 where
  pub holds : c.holds ≡ b.holds
  pub pending : c.pending ≡ b.pending
  pub notices : c.notices ≡ b.notices

beside-after : (b : Board) (o : Option ℕ) → IsBeside b (after finalize b o)
beside-after b None = record { holds = refl; pending = refl; notices = refl }
beside-after b (Some m) = go (refs b m == 0)
  where
    go : (t : Bool) → IsBeside b (elim t as (λ _. Board) [ true ↦ finalize b m | false ↦ b ])
    go true = let l = release_leaves b m in record { holds = l.holds; pending = l.pending; notices = l.notices }
    go false = record { holds = refl; pending = refl; notices = refl }

takes-after : (b : Board) (o : Option ℕ) → Takes b (after finalize b o)
takes-after b o =
    let beside = beside-after b o in
    record {
      pins = λ x. ap (times x) (release-pins b o);
      same = λ up. release-pins b o;
      live = λ x live some. (held-after x b o (record { live = live; pinned = among-some x b.pins some })).live;
      moments = times-ends o b;
      lit = same_lit-after b o;
      holds = beside.holds;
      pending = beside.pending;
      notices = beside.notices;
    }

takes-drop : (b : Board) (n i : ℕ) → Takes b (drop_slot b n i)
unfolding drop_slot
takes-drop b n i =
    record {
      pins = λ x. refl;
      same = λ up. refl;
      live = λ x live some. drop-live b n i x ∙ live;
      moments = drop-times b n i;
      lit = same_lit-drop b n i;
      holds = refl;
      pending = refl;
      notices = refl;
    }

takes-cut : (b : Board) (n i : ℕ) (s : List ℕ × Slot) → slice_get (slots_at b n) i ≡ Some s → plain_in s.1 ≡ None → Takes b (cut n i b)
unfolding cut
takes-cut b n i s at none =
    record {
      pins = λ x. refl;
      same = λ up. refl;
      moments = times-edits n (with_cut i) (λ r. refl) b;
      lit = same_lit-cut b n i s at none;
      live = λ x live some. ap is_some (found-edited n (with_cut i) (λ r. refl) x b.records) ∙ is_some-map (edited n (with_cut i)) (record_of b x) ∙ live;
      holds = refl;
      pending = refl;
      notices = refl;
    }

takes-let_go : (b : Board) (n i : ℕ) → Takes b (let_go b n i)
unfolding let_go
takes-let_go b n i = go (slot_at b n i)
  where
    go : (o : Option Slot) → Takes b (elim o as (λ _. Board) [ None ↦ b | Some s ↦ after finalize (drop_slot b n i) (referent s) ])
    go None = takes-none b
    go (Some s) = takes-then b (drop_slot b n i) (after finalize (drop_slot b n i) (referent s)) (takes-drop b n i) (takes-after (drop_slot b n i) (referent s))

takes-taken_link : (b : Board) (n i : ℕ) (own : List ℕ) (t : TypeId) (target : Option ℕ) → slice_get (slots_at b n) i ≡ Some (own, strong t target)
    → Takes b (take_slot b n i)
takes-taken_link b n i own t target at =
    let there : slot_at b n i ≡ Some (strong t target) = ap (option_map (λ (s : List ℕ × Slot). s.1)) at in
    let c : Board = drop_slot b n i in
    rw (take_slot, there)
    (takes-then b (cut n i c) (after finalize (cut n i c) target)
    (takes-then b c (cut n i c) (takes-drop b n i) (takes-cut c n i (own, strong t None) (left (record_of b n) refl) refl))
    (takes-after (cut n i c) target))
  where
    left : (o : Option Record) → record_of b n ≡ o → slice_get (slots_at (drop_slot b n i) n) i ≡ Some (own, strong t None)
    left None q =
        absurd (let clash : None ≡ Some (own, strong t target) = sym (ap (λ (o : Option Record). slice_get (slots_in o) i) q) ∙ at in cc)
    left (Some r) q =
        let birth : (r.birth == n) ≡ true = eq-eqb r.birth n (found-birth n b.records r q) in
        let now : record_of (drop_slot b n i) n ≡ Some (with_dropped i r) =
        drop-record b n i n ∙ ap (option_map (edited n (with_dropped i))) q ∙ rw (edited, birth) refl in
        ap (λ (o : Option Record). slice_get (slots_in o) i) now
        ∙ kept-slot i r.slots own (strong t target) (strong t None)
        (sym (ap (λ (o : Option Record). slice_get (slots_in o) i) q) ∙ at) refl

takes-go_where : (p : List ℕ × Slot → Bool) (n : ℕ) (b : Board) → Takes b (let_go_where p n b)
takes-go_where p n b = go (index_from p 0 (slots_at b n))
  where
    go : (o : Option ℕ) → Takes b (elim o as (λ _. Board) [ None ↦ b | Some i ↦ let_go b n i ])
    go None = takes-none b
    go (Some i) = takes-let_go b n i

takes-take_where : (d n : ℕ) (b : Board) → Takes b (take_where (names_kid d) n b)
takes-take_where d n b = go (index_from (names_kid d) 0 (slots_at b n)) refl
  where
    of : (i : ℕ) (x : List ℕ × Slot) → slice_get (slots_at b n) i ≡ Some x → names_kid d x ≡ true → Takes b (take_slot b n i)
    of i (own, plain v) at passes = absurd (let clash : false ≡ true = passes in cc)
    of i (own, child m) at passes = absurd (let clash : false ≡ true = passes in cc)
    of i (own, strong t None) at passes = absurd (let clash : false ≡ true = passes in cc)
    of i (own, strong t (Some m)) at passes = takes-taken_link b n i own t (Some m) at
    of i (own, weak t target) at passes = absurd (let clash : false ≡ true = passes in cc)
    of i (own, alias m property) at passes = absurd (let clash : false ≡ true = passes in cc)

    go : (o : Option ℕ) → index_from (names_kid d) 0 (slots_at b n) ≡ o → Takes b (take_where (names_kid d) n b)
    go None e = rw (take_where, e) (takes-none b)
    go (Some i) e = let f : Found (names_kid d) (slots_at b n) i = found-at (names_kid d) i (slots_at b n) e in rw (take_where, e) (of i f.entry f.at f.passes)

pub takes-left_bus : (d : ℕ) (b : Board) → Takes b (left_bus d b)
takes-left_bus d b = go (bus_of b d)
  where
    go : (o : Option ℕ)
        → Takes b (elim o as (λ _. Board) [ None ↦ b | Some m ↦ let_go_where (is_named (codes "parent_bus")) d (take_where (names_kid d) m b) ])
    go None = takes-none b
    go (Some m) =
        let c : Board = take_where (names_kid d) m b in
        takes-then b c (let_go_where (is_named (codes "parent_bus")) d c) (takes-take_where d m b)
        (takes-go_where (is_named (codes "parent_bus")) d c)

takes-left_parent : (d : ℕ) (b : Board) → Takes b (left_parent d b)
takes-left_parent d b =
    let c : Board = let_go_where (is_child_slot d) PERIPHERAL_BIRTH b in
    takes-then b c (left_parent d b) (takes-go_where (is_child_slot d) PERIPHERAL_BIRTH b) (takes-go_where (is_child_slot d) ANONYMOUS_BIRTH c)

-- what is held meanwhile

takes-unpinned : (b c : Board) (d : ℕ) → Takes (pin b d) c → Takes b (unpin c d)
unfolding pin unpin
takes-unpinned b c d t =
    let some : 0 < times d c.pins = omega (arith, t.pins d, times-own d b.pins) in
    let there : list_any (nat_eq d) c.pins ≡ true = among-some d c.pins some in
    let w : Board = without_pin c d in
    let pins : (x : ℕ) → times x w.pins ≡ times x b.pins = (λ x. omega (arith, times-without x d c.pins some, t.pins x, times-put x d b.pins)) in
    let following : Takes w (after finalize w (Some d)) = takes-after w (Some d) in
    let all : Takes b (after finalize w (Some d)) = record {
      pins = λ x. following.pins x ∙ pins x;
      same = λ up.
          release-pins w (Some d)
          ∙ ap (without_first d) (t.same (put-up d b.pins up))
          ∙ put-back d b.pins up;
      moments = λ h. following.moments (t.moments h);
      lit = same_lit-then b w (after finalize w (Some d)) (same_lit-then b c w t.lit (same_lit-none c)) following.lit;
      live = λ x live pinned. following.live x (t.live x live (omega (arith, pinned, times-put x d b.pins))) (omega (arith, pinned, pins x));
      holds = following.holds ∙ t.holds;
      pending = following.pending ∙ t.pending;
      notices = following.notices ∙ t.notices;
    } in
    rw (unpin, there) all

-- the walks

module _ (f : ℕ → Board → Board) (takes : (k : ℕ) (b : Board) → Takes b (f k b)) where
  pub takes-one : (o : Option ℕ) (b : Board) → Takes b (on_one f o b)
  takes-one None b = takes-none b
  takes-one (Some k) b = takes k b

  takes-drained : (most m : ℕ) (b : Board) → Takes b (drained f most m b)
  takes-drained zero m b = takes-none b
  takes-drained (suc most) m b = go (first_of (kids_of b m)) (takes-drained most m)
    where
      go : (o : Option ℕ) → ((c : Board) → Takes c (drained f most m c))
          → Takes b (elim o as (λ _. Board) [ None ↦ b | Some k ↦ drained f most m (f k b) ])
      go None rest = takes-none b
      go (Some k) rest = takes-then b (f k b) (drained f most m (f k b)) (takes k b) (rest (f k b))

  takes-lost_bus : (d m : ℕ) (b : Board) → Takes b (lost_bus f d m b)
  takes-lost_bus d m b =
      let c : Board = drained f (length (slots_at b m)) m b in
      takes-then b c (lost_bus f d m b) (takes-drained (length (slots_at b m)) m b) (takes-go_where (is_bus_child m) d c)

  takes-lost_buses : (most d : ℕ) (b : Board) → Takes b (lost_buses f most d b)
  takes-lost_buses zero d b = takes-none b
  takes-lost_buses (suc most) d b = go (first_of (buses_of b d)) (takes-lost_buses most d)
    where
      go : (o : Option ℕ) → ((c : Board) → Takes c (lost_buses f most d c))
          → Takes b (elim o as (λ _. Board) [ None ↦ b | Some m ↦ lost_buses f most d (lost_bus f d m b) ])
      go None rest = takes-none b
      go (Some m) rest =
          takes-then b (lost_bus f d m b) (lost_buses f most d (lost_bus f d m b)) (takes-lost_bus d m b) (rest (lost_bus f d m b))

  takes-taken : (d : ℕ) (b : Board) → Takes b (taken_by f d b)
  takes-taken d b =
      let c : Board = lost_buses f (length (slots_at b d)) d b in
      takes-then b (left_bus d c) (taken_by f d b) (takes-then b c (left_bus d c) (takes-lost_buses (length (slots_at b d)) d b) (takes-left_bus d c))
      (takes-left_parent d (left_bus d c))

pub takes-apart : (levels d : ℕ) (b : Board) → Takes b (apart_within levels d b)
unfolding apart_within
takes-apart zero d b = takes-none b
takes-apart (suc levels) d b =
    takes-unpinned b (taken_by (apart_within levels) d (pin b d)) d (takes-taken (apart_within levels) (takes-apart levels) d (pin b d))

pub takes-first_apart : (levels m : ℕ) (b : Board) → Takes b (first_apart levels m b)
unfolding first_apart
takes-first_apart levels m b = takes-one (apart_within levels) (takes-apart levels) (first_of (kids_of b m)) b

pub takes-drained_within : (levels m : ℕ) (b : Board) → Takes b (drained_within levels m b)
unfolding drained_within
takes-drained_within levels m b = takes-drained (apart_within levels) (takes-apart levels) (length (slots_at b m)) m b

pub takes-bus_lost : (levels d m : ℕ) (b : Board) → Takes b (bus_lost levels d m b)
unfolding bus_lost
takes-bus_lost levels d m b = takes-lost_bus (apart_within levels) (takes-apart levels) d m b

pub takes-buses_lost : (levels d : ℕ) (b : Board) → Takes b (buses_lost levels d b)
unfolding buses_lost
takes-buses_lost levels d b = takes-lost_buses (apart_within levels) (takes-apart levels) (length (slots_at b d)) d b

pub takes-first_lost : (levels d : ℕ) (b : Board) → Takes b (first_lost levels d b)
unfolding first_lost
takes-first_lost levels d b = takes-one (bus_lost levels d) (takes-bus_lost levels d) (first_of (buses_of b d)) b

pub takes-taken_within : (levels d : ℕ) (b : Board) → Takes b (taken_within levels d b)
unfolding taken_within
takes-taken_within levels d b = takes-taken (apart_within levels) (takes-apart levels) d b
