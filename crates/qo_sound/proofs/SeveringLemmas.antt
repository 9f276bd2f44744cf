-- An object that is held from outside while its strong links are let go, and then no longer.
use Rattle.std.proofs.Common.{nat_eq, ◌≡◌, refl, ap, sym, ◌∙◌, ℕ, ◌≤◌, leb, Bool, true, false, ◌==◌, List, [], ◌∷◌, length, Some, None, arith}
use Rattle.qo_model.proofs.Common.{list_any, Board, is_live, slots_at, sever, severed_from, refs, pin, put_in_order, unpin, without_first, without_pin}
use Rattle.std.proofs.lemmas.Bool.{eqb-true}
use Rattle.std.proofs.lemmas.List.Sums.{sum_by-cons}
use Rattle.qo_model.proofs.ComesToLemmas.{sever-comes, severed-comes}
use Rattle.qo_model.proofs.PinLemmas.{put-among, put-back, severed-pins, unpin-pins}
use Rattle.qo_sound.proofs.CountLemmas.{one_at, times}
use Rattle.qo_sound.proofs.FirmBoardLemmas.{firm-beside}
use Rattle.qo_sound.proofs.WorkLemmas.{InvariantBut, after-firm}
use Rattle.qo_sound.proofs.ViewLemmas.{PinsRootAlone}
use Rattle.qo_sound.proofs.ChangeLemmas.{near-unlinked}

-- a pin more counts once, and one less counts for no other object
put-times : (n x : ℕ) (ns : List ℕ) → times x ns ≤ times x (put_in_order n ns)
put-times n x [] = omega arith
put-times n x (m ∷ ns) = go (leb m n) refl (put-times n x ns)
  where
    go : (t : Bool) → leb m n ≡ t → times x ns ≤ times x (put_in_order n ns) → times x (m ∷ ns) ≤ times x (put_in_order n (m ∷ ns))
    go true p rest = rw (put_in_order, p) (omega (arith, rest, sum_by-cons (one_at x) m ns, sum_by-cons (one_at x) m (put_in_order n ns)))
    go false p rest = rw (put_in_order, p) (omega (arith, sum_by-cons (one_at x) n (m ∷ ns)))

first-times : (n x : ℕ) → (x == n) ≡ false → (ns : List ℕ) → times x (without_first n ns) ≡ times x ns
first-times n x apart [] = refl
first-times n x apart (m ∷ ns) = go (m == n) refl (first-times n x apart ns)
  where
    go : (t : Bool) → (m == n) ≡ t → times x (without_first n ns) ≡ times x ns → times x (without_first n (m ∷ ns)) ≡ times x (m ∷ ns)
    go true p rest =
        let differs : (m == x) ≡ false = grind (arith, p, apart) in
        let none : one_at x m ≡ 0 = rw differs refl in
        rw (without_first, p) (omega (arith, none, sum_by-cons (one_at x) m ns))
    go false p rest = rw (without_first, p) (omega (arith, rest, sum_by-cons (one_at x) m ns, sum_by-cons (one_at x) m (without_first n ns)))

pub near-pin : (b : Board) (n : ℕ) → InvariantBut None b → InvariantBut None (pin b n)
unfolding pin
near-pin b n h =
    record {
      firm = firm-beside b (pin b n) h.firm;
      aliases = h.aliases;
      used = λ m there none. h.used m there (omega (arith, none, put-times n m b.pins));
    }

pub pin-pins : (b : Board) (n : ℕ) → (pin b n).pins ≡ put_in_order n b.pins
unfolding pin
pin-pins b n = refl

pub near-unpin : (b : Board) (n : ℕ) → list_any (nat_eq n) b.pins ≡ true → InvariantBut None b → InvariantBut None (unpin b n)
unfolding unpin
near-unpin b n e h = rw (unpin, e) (after-firm (without_pin b n) (Some n) free)
  where
    used : (m : ℕ) → is_live b m ≡ true → refs (without_pin b n) m ≡ 0 → Some n ≡ Some m
    used m there none = go (m == n) refl
      where
        go : (t : Bool) → (m == n) ≡ t → Some n ≡ Some m
        go true p = ap Some (sym (eqb-true m n p))
        go false p =
            let nothing : refs b m ≡ 0 = omega (arith, none, first-times n m p b.pins) in
            absurd (let clash : None ≡ Some m = h.used m there nothing in cc)

    free : InvariantBut (Some n) (without_pin b n)
    free =
        record {
          firm = firm-beside b (without_pin b n) h.firm;
          aliases = h.aliases;
          used = used;
        }

near-severed : (places i n : ℕ) (b : Board) → InvariantBut None b → InvariantBut None (severed_from places i n b)
near-severed places i n b h = severed-comes (InvariantBut None) n (λ c j t target e k. near-unlinked c n j t target e k) places i b h

-- the strong links of n are let go while it is pinned
severed-rest : (b : Board) (n places : ℕ) → PinsRootAlone b → PinsRootAlone (unpin (severed_from places 0 n (pin b n)) n)
severed-rest b n places h =
    let c : Board = severed_from places 0 n (pin b n) in
    let pins : c.pins ≡ put_in_order n (1 ∷ []) = severed-pins places 0 n (pin b n) ∙ pinned in
    let there : list_any (nat_eq n) c.pins ≡ true = ap (list_any (nat_eq n)) pins ∙ put-among n (1 ∷ []) in
    record {
      used = near-unpin c n there (near-severed places 0 n (pin b n) (near-pin b n h.used));
      pinned = unpin-pins c n there ∙ ap (without_first n) pins ∙ put-back n (1 ∷ []) (tt, tt);
    }
  where
    pinned : (pin b n).pins ≡ put_in_order n (1 ∷ [])
    pinned = pin-pins b n ∙ ap (put_in_order n) h.pinned

pub sever-rest : (b : Board) (n : ℕ) → PinsRootAlone b → PinsRootAlone (sever b n).board
sever-rest b n h = sever-comes PinsRootAlone b n h (λ there away. severed-rest b n (length (slots_at b n)) h)
