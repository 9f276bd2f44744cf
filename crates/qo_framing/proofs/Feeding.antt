-- What a framer's parts make of the cut.
use Rattle.std.proofs.Common.{◌≡◌, ℕ, ◌+◌, ◌-◌, ◌<◌, List, [], ◌∷◌, ◌++◌, length, reverse, take, drop, Option, Some, None, sym, ◌∙◌, ap, subst, arith, append_assoc}
use Rattle.std.specs.Prelude.{option_to_list}
use Rattle.std.proofs.Math.Seq.{take-append-add, drop-append-add}
use Rattle.std.proofs.lemmas.List.{append-nil}
use Rattle.qo_framing.specs.Cut.{Cut, Framing, Part, inside, stops, goes_on, cut, cut_of_part, first_part, followed, item_of, left_after, object_part, framing_after}
use Rattle.qo_framing.specs.Fronts.{End, end_after, later}
use Rattle.qo_framing.specs.Framers.{IsFramer}
use Rattle.qo_framing.specs.Parts.{IsUnfinished}
use Rattle.qo_framing.specs.declared.framer.Mode.{Mode}
use Rattle.qo_framing.specs.declared.framer.Mode.TheVariants.{Inside}
use Rattle.qo_framing.specs.declared.items.Item.{Item}
use Rattle.qo_framing.specs.declared.scanner.Ending.{Ending}
use Rattle.qo_framing.specs.declared.scanner.Ending.TheVariants.{Whole, Broken, TooLong, TooDeep}
use Rattle.qo_framing.specs.declared.scanner.Scanner.{Scanner}
use Rattle.qo_framing.proofs.Cuts.{Shrinks, cuts_by_parts, first_shrinks, weight}
use Rattle.qo_framing.proofs.UnfinishedObjects.{part_inside}

-- a first part that is the last
pub cut_stops : (state : Framing) (bytes : List ℕ) (t : Framing) → stops t ≡ first_part state bytes → cut state bytes ≡ record { items = []; state = t }
cut_stops state bytes t is = cuts_by_parts state bytes ∙ ap (λ (p : Part). cut_of_part p cut) (sym is)

-- and one that is not
pub cut_goes_on : (state : Framing) (bytes : List ℕ) (i : Option Item) (t : Framing) (rest : List ℕ) → goes_on i t rest ≡ first_part state bytes
    → cut state bytes ≡ followed (option_to_list i) (cut t rest)
cut_goes_on state bytes i t rest is = cuts_by_parts state bytes ∙ ap (λ (p : Part). cut_of_part p cut) (sym is)

pub goes_on_shrinks : (state : Framing) (bytes : List ℕ) (i : Option Item) (t : Framing) (rest : List ℕ) → goes_on i t rest ≡ first_part state bytes
    → weight t rest < weight state bytes
goes_on_shrinks state bytes i t rest is = subst (Shrinks (weight state bytes)) (sym is) (first_shrinks state bytes)

-- items before a cut that has none
pub followed_by_none : (items : List Item) (c : Cut) (t : Framing) → c ≡ record { items = []; state = t }
    → followed items c ≡ record { items = items; state = t }
followed_by_none items c t is =
    ap (followed items) is ∙ ap (λ (l : List Item). record { items = l; state = t }) (append-nil items)

-- items before items before a cut
pub followed_further : (xs ys zs : List Item) (a b : Cut) → a ≡ followed ys b → zs ≡ xs ++ ys → followed zs b ≡ followed xs a
followed_further xs ys zs a b is same =
    ap (λ (l : List Item). followed l b) same
    ∙ (ap (λ (l : List Item). record { items = l; state = b.state }) (append_assoc xs ys b.items) ∙ ap (followed xs) (sym is))

-- the unfinished object of a framer
pub unfinished_of : (mode : Mode) (bytes : List ℕ) (s : Scanner) → mode ≡ Inside s → IsFramer mode bytes → IsUnfinished bytes s
unfinished_of mode bytes s is h = subst (λ (m : Mode). IsFramer m bytes) is h

-- it stays unfinished
pub cut_open : (bytes more : List ℕ) (s : Scanner) → IsUnfinished bytes s → end_after (reverse bytes) more ≡ None
    → cut (inside bytes) more ≡ record { items = []; state = inside (bytes ++ more) }
cut_open bytes more s h none =
    cut_stops (inside bytes) more (inside (bytes ++ more))
    (sym (part_inside bytes more s h ∙ ap (λ (f : Option End). object_part (bytes ++ more) (later (length bytes) f)) none))

left_more : (bytes more : List ℕ) (how : Ending) (n : ℕ) → 0 < n → left_after how (length bytes + n) (bytes ++ more) ≡ left_after how n more
left_more bytes more Whole n some = drop-append-add bytes more n
left_more bytes more Broken n some = drop-append-add bytes more n
left_more bytes more TooLong n some =
    ap (λ (k : ℕ). drop k (bytes ++ more)) (omega arith) ∙ drop-append-add bytes more (n - 1)
left_more bytes more TooDeep n some =
    ap (λ (k : ℕ). drop k (bytes ++ more)) (omega arith) ∙ drop-append-add bytes more (n - 1)

-- it ends
pub cut_ended : (bytes more : List ℕ) (s : Scanner) (how : Ending) (n : ℕ) → IsUnfinished bytes s → 0 < n
    → end_after (reverse bytes) more ≡ Some (record { how = how; count = n })
    → cut (inside bytes) more ≡ followed (item_of how (bytes ++ take n more) ∷ []) (cut (framing_after how) (left_after how n more))
cut_ended bytes more s how n h some found =
    cut_goes_on (inside bytes) more (Some (item_of how (take (length bytes + n) (bytes ++ more)))) (framing_after how)
    (left_after how (length bytes + n) (bytes ++ more))
    (sym (part_inside bytes more s h ∙ ap (λ (f : Option End). object_part (bytes ++ more) (later (length bytes) f)) found))
    ∙ (ap (λ (l : List ℕ). followed (item_of how l ∷ []) (cut (framing_after how) (left_after how (length bytes + n) (bytes ++ more))))
    (take-append-add bytes more n)
    ∙ ap (λ (l : List ℕ). followed (item_of how (bytes ++ take n more) ∷ []) (cut (framing_after how) l)) (left_more bytes more how n some))

-- what a framer makes of it
pub fed : (old : Framing) (bytes more front : List ℕ) (s : Scanner) (how : Ending) (n : ℕ) (i : Item) (items : List Item) (t : Framing) (rest : List ℕ)
    (all : Cut) → old ≡ inside bytes → IsUnfinished bytes s → 0 < n → end_after (reverse bytes) more ≡ Some (record { how = how; count = n }) → front ≡ bytes
    → i ≡ item_of how (front ++ take n more) → items ≡ i ∷ [] → t ≡ framing_after how → rest ≡ left_after how n more → followed items (cut t rest) ≡ all
    → cut old more ≡ all
fed old bytes more front s how n i items t rest all is h some found same item_is items_are state_is rest_is goes_on_so =
    ap (λ (x : Framing). cut x more) is
    ∙ (cut_ended bytes more s how n h some found
    ∙ (ap (λ (l : List ℕ). followed (item_of how (l ++ take n more) ∷ []) (cut (framing_after how) (left_after how n more))) (sym same)
    ∙ (ap (λ (x : Item). followed (x ∷ []) (cut (framing_after how) (left_after how n more))) (sym item_is)
    ∙ (ap (λ (l : List Item). followed l (cut (framing_after how) (left_after how n more))) (sym items_are)
    ∙ (ap (λ (x : Framing). followed items (cut x (left_after how n more))) (sym state_is)
    ∙ (ap (λ (l : List ℕ). followed items (cut t l)) (sym rest_is) ∙ goes_on_so))))))

-- where it stays unfinished, all is kept
pub fed_open : (old : Framing) (bytes more kept : List ℕ) (s : Scanner) (items : List Item) → old ≡ inside bytes → IsUnfinished bytes s
    → end_after (reverse bytes) more ≡ None → items ≡ [] → kept ≡ bytes ++ more → cut old more ≡ record { items = items; state = inside kept }
fed_open old bytes more kept s items is h none items_are kept_is =
    ap (λ (x : Framing). cut x more) is
    ∙ (cut_open bytes more s h none
    ∙ (ap (λ (l : List Item). record { items = l; state = inside (bytes ++ more) }) (sym items_are)
    ∙ ap (λ (l : List ℕ). record { items = items; state = inside l }) (sym kept_is)))
