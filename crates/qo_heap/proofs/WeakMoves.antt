-- Rows in which a weak link was taken out of its list, and in which one was put into a list.
use Rattle.std.proofs.Common.{◌≡◌, refl, ap, sym, subst, ◌∙◌, ℕ, ◌+◌, ◌<◌, Bool, true, false, cond, eqb, List, [], ◌∷◌, Option, Some, None, option_map, is_some, IfSome, arith}
use Rattle.std.specs.List.{AllByRecursion}
use Rattle.std.specs.Option.{option_map_or}
use Rattle.std.proofs.lemmas.Bool.{eqb-true}
use Rattle.qo_slots.specs.declared.keys.Key.{Key}
use Rattle.qo_heap.specs.Rows.{edit, edited, object_at}
use Rattle.qo_heap.specs.WeakLinks.{one_end, one_exact, same_end, with_both, with_next, with_prev}
use Rattle.qo_heap.specs.WeakLists.{IsListed, IsNumbered, bag_in, cell_in, head_in, led_in, linked_in, turned_in, unlinked_in, with_first, with_node}
use Rattle.qo_heap.specs.declared.entries.Entry.{Entry}
use Rattle.qo_heap.specs.declared.weak_links.End.{End}
use Rattle.qo_heap.specs.declared.weak_links.Node.{Node}
use Rattle.qo_heap.proofs.KeepingLemmas.{all-edit}
use Rattle.qo_heap.proofs.WeakChains.{Apart, IsApart, Not, all-listed, all-unlisted, apart-none, chain-first, first, flip_same, same-self}
use Rattle.qo_heap.proofs.WeakNodes.{length-changed, rise-changed}
use Rattle.qo_heap.proofs.WeakRows.{bag-stays, cell-far, cell-here, head-stays, headed-bag, headed-cell, headed-far, headed-here, object-here, object-other}

-- who is there is there after an edit
module _ {T : Type 0} (n : ℕ) (f : T → T) (rows : List (Key × T)) where
  there-edit : (m : ℕ) → is_some (object_at (edit n f rows) m) ≡ is_some (object_at rows m)
  there-edit m = go (eqb m n) refl
    where
      two : (o : Option T) → is_some (option_map f o) ≡ is_some o
      two None = refl
      two (Some x) = refl

      go : (b : Bool) → eqb m n ≡ b → is_some (object_at (edit n f rows) m) ≡ is_some (object_at rows m)
      go true p =
          let is : m ≡ n = eqb-true m n p in
          subst (λ (k : ℕ). is_some (object_at (edit n f rows) k) ≡ is_some (object_at rows k)) (sym is)
          (ap is_some (object-here n f rows) ∙ two (object_at rows n))
      go false p = ap is_some (object-other n f m p rows)

-- the first link of who is there was put
put-here : (m : ℕ) (h : Option End) (rows : List (Key × Entry)) → is_some (object_at rows m) ≡ true → head_in (edit m (with_first h) rows) m ≡ h
put-here m h rows there = go (object_at rows m) refl there
  where
    go : (o : Option Entry) → object_at rows m ≡ o → is_some o ≡ true → head_in (edit m (with_first h) rows) m ≡ h
    go None at some = cc
    go (Some x) at some = headed-here m h rows x at

-- nodes are as many, and their numbers rise
numbered-node : (m id : ℕ) (f : Node → Node) → ((x : Node) → (f x).id ≡ x.id) → (rows : List (Key × Entry)) → AllByRecursion IsNumbered rows
    → AllByRecursion IsNumbered (edit m (with_node id f) rows)
numbered-node m id f keeps rows all = all-edit IsNumbered IsNumbered m (with_node id f) step rows all
  where
    step : (row : Key × Entry) → IsNumbered row → IsNumbered (edited m (with_node id f) row)
    step row good = go (eqb row.0.birth m) refl
      where
        go : (b : Bool) → eqb row.0.birth m ≡ b → IsNumbered (edited m (with_node id f) row)
        go true is = rw is (length-changed id f keeps row.1.links.nodes ∙ good.0, rise-changed id f keeps row.1.links.nodes good.1)
        go false is = rw is good

numbered-first : (m : ℕ) (h : Option End) (rows : List (Key × Entry)) → AllByRecursion IsNumbered rows → AllByRecursion IsNumbered (edit m (with_first h) rows)
numbered-first m h rows all = all-edit IsNumbered IsNumbered m (with_first h) step rows all
  where
    step : (row : Key × Entry) → IsNumbered row → IsNumbered (edited m (with_first h) row)
    step row good = go (eqb row.0.birth m) refl
      where
        go : (b : Bool) → eqb row.0.birth m ≡ b → IsNumbered (edited m (with_first h) row)
        go true is = rw is good
        go false is = rw is good

turned-numbered : (o p : Option End) (rows : List (Key × Entry)) → AllByRecursion IsNumbered rows → AllByRecursion IsNumbered (turned_in o p rows)
turned-numbered None p rows all = all
turned-numbered (Some x) p rows all = numbered-node x.owner.birth x.id (with_prev p) (λ y. refl) rows all

led-numbered : (m : ℕ) (o nx : Option End) (rows : List (Key × Entry)) → AllByRecursion IsNumbered rows → AllByRecursion IsNumbered (led_in m o nx rows)
led-numbered m None nx rows all = numbered-first m nx rows all
led-numbered m (Some x) nx rows all = numbered-node x.owner.birth x.id (with_next nx) (λ y. refl) rows all

pub unlinked-numbered : (m : ℕ) (l : Node) (rows : List (Key × Entry)) → AllByRecursion IsNumbered rows → AllByRecursion IsNumbered (unlinked_in m l rows)
unlinked-numbered m l rows all = led-numbered m l.prev l.next (turned_in l.next l.prev rows) (turned-numbered l.next l.prev rows all)

pub linked-numbered : (m : ℕ) (s : End) (old : Option End) (rows : List (Key × Entry)) → AllByRecursion IsNumbered rows
    → AllByRecursion IsNumbered (linked_in m s old rows)
linked-numbered m s old rows all =
    turned-numbered old (Some s) (edit s.owner.birth (with_node s.id (with_both None old)) (edit m (with_first (Some s)) rows))
    (numbered-node s.owner.birth s.id (with_both None old) (λ y. refl) (edit m (with_first (Some s)) rows) (numbered-first m (Some s) rows all))

-- what is before a link
turned-cell : (o p : Option End) (rows : List (Key × Entry)) (e : End) → Not o e
    → cell_in (turned_in o p rows) e ≡ cell_in rows e
turned-cell None p rows e far = refl
turned-cell (Some x) p rows e far = cell-far x (with_prev p) (λ y. refl) rows e far

turned-head : (o p : Option End) (rows : List (Key × Entry)) (n : ℕ)
    → head_in (turned_in o p rows) n ≡ head_in rows n
turned-head None p rows n = refl
turned-head (Some x) p rows n = head-stays x (with_prev p) (λ y. refl) rows n

turned-bag : (o p : Option End) (rows : List (Key × Entry)) (n : ℕ) (w : End → ℕ)
    → bag_in (turned_in o p rows) n w ≡ bag_in rows n w
turned-bag None p rows n w = refl
turned-bag (Some x) p rows n w = bag-stays x (with_prev p) (λ y. refl) rows n w

turned-there : (o p : Option End) (rows : List (Key × Entry)) (m : ℕ)
    → is_some (object_at (turned_in o p rows) m) ≡ is_some (object_at rows m)
turned-there None p rows m = refl
turned-there (Some x) p rows m = there-edit x.owner.birth (with_node x.id (with_prev p)) rows m

-- what leads to it
led-cell : (m : ℕ) (o nx : Option End) (rows : List (Key × Entry)) (e : End) → Not o e
    → cell_in (led_in m o nx rows) e ≡ cell_in rows e
led-cell m None nx rows e far = headed-cell m nx rows e
led-cell m (Some x) nx rows e far = cell-far x (with_next nx) (λ y. refl) rows e far

led-bag : (m : ℕ) (o nx : Option End) (rows : List (Key × Entry)) (n : ℕ) (w : End → ℕ)
    → bag_in (led_in m o nx rows) n w ≡ bag_in rows n w
led-bag m None nx rows n w = headed-bag m nx rows n w
led-bag m (Some x) nx rows n w = bag-stays x (with_next nx) (λ y. refl) rows n w

led-head : (m : ℕ) (o nx : Option End) (rows : List (Key × Entry)) → is_some (object_at rows m) ≡ true
    → head_in (led_in m o nx rows) m ≡ option_map_or (λ (_ : End). head_in rows m) o nx
led-head m None nx rows there = put-here m nx rows there
led-head m (Some x) nx rows there = head-stays x (with_next nx) (λ y. refl) rows m

led-heads : (m : ℕ) (o nx : Option End) (rows : List (Key × Entry)) (n : ℕ) → eqb n m ≡ false
    → head_in (led_in m o nx rows) n ≡ head_in rows n
led-heads m None nx rows n differ = headed-far m nx rows n differ
led-heads m (Some x) nx rows n differ = head-stays x (with_next nx) (λ y. refl) rows n

-- a link that names the object m no more is taken out of the list
module _ (rows : List (Key × Entry)) (bag : ℕ → (End → ℕ) → ℕ) (good : Apart bag)
    (lists : (n : ℕ) → IsListed (cell_in rows) (head_in rows n) (bag n)) (s : End) (l : Node) (m : ℕ)
    (at : cell_in rows s ≡ Some l) (there : 0 < bag m (one_exact s)) (known : is_some (object_at rows m) ≡ true)
    (less : (w : End → ℕ) → bag_in rows m w + w s ≡ bag m w)
    (same : (n : ℕ) → eqb n m ≡ false → (w : End → ℕ) → bag_in rows n w ≡ bag n w) where
  abbrev out : List (Key × Entry)
  out = unlinked_in m l rows

  pub out-bag : (n : ℕ) (w : End → ℕ) → bag_in out n w ≡ bag_in rows n w
  out-bag n w = led-bag m l.prev l.next (turned_in l.next l.prev rows) n w ∙ turned-bag l.next l.prev rows n w

  pub out-listed : (n : ℕ) → IsListed (cell_in out) (head_in out n) (bag_in out n)
  out-listed =
      all-unlisted (cell_in rows) (cell_in out) (head_in rows) (head_in out)
      bag (bag_in out) s l m good lists at there
      (λ e far_s far_n far_q. led-cell m l.prev l.next (turned_in l.next l.prev rows) e far_q ∙ turned-cell l.next l.prev rows e far_n)
      (λ p is far_s far_n x had.
      ap (λ (o : Option End). cell_in (led_in m o l.next (turned_in l.next l.prev rows)) p) is
      ∙ cell-here p (with_next l.next) (λ y. refl) (turned_in l.next l.prev rows)
      ∙ ap (option_map (with_next l.next)) (turned-cell l.next l.prev rows p far_n ∙ had))
      (λ n is far_s far_q x had.
      led-cell m l.prev l.next (turned_in l.next l.prev rows) n far_q
      ∙ ap (λ (o : Option End). cell_in (turned_in o l.prev rows) n) is
      ∙ cell-here n (with_prev l.prev) (λ y. refl) rows ∙ ap (option_map (with_prev l.prev)) had)
      (led-head m l.prev l.next (turned_in l.next l.prev rows) (turned-there l.next l.prev rows m ∙ known)
      ∙ ap (λ (h : Option End). option_map_or (λ (_ : End). h) l.prev l.next) (turned-head l.next l.prev rows m))
      (λ n differ. led-heads m l.prev l.next (turned_in l.next l.prev rows) n differ ∙ turned-head l.next l.prev rows n)
      (λ w. ap (λ (k : ℕ). k + w s) (out-bag m w) ∙ less w)
      (λ n differ w. out-bag n w ∙ same n differ w)

-- a link that names the object m is put at the front of its list
module _ (rows : List (Key × Entry)) (bag : ℕ → (End → ℕ) → ℕ) (good : Apart bag) (all : Apart (bag_in rows))
    (lists : (n : ℕ) → IsListed (cell_in rows) (head_in rows n) (bag n)) (s : End) (l : Node) (m : ℕ)
    (at : cell_in rows s ≡ Some l) (known : is_some (object_at rows m) ≡ true)
    (more : (w : End → ℕ) → bag_in rows m w ≡ bag m w + w s)
    (same : (n : ℕ) → eqb n m ≡ false → (w : End → ℕ) → bag_in rows n w ≡ bag n w) where
  abbrev old : Option End
  old = head_in rows m

  abbrev headed : List (Key × Entry)
  headed = edit m (with_first (Some s)) rows

  abbrev placed : List (Key × Entry)
  placed = edit s.owner.birth (with_node s.id (with_both None old)) headed

  abbrev into : List (Key × Entry)
  into = linked_in m s old rows

  one : one_end s s ≡ 1
  one = ap (λ (b : Bool). cond {A = ℕ} b 1 0) (same-self s)

  free : (n : ℕ) → bag n (one_end s) ≡ 0
  free n = go (eqb n m) refl
    where
      go : (t : Bool) → eqb n m ≡ t → bag n (one_end s) ≡ 0
      go true is =
          let here : n ≡ m = eqb-true n m is in
          ap (λ (k : ℕ). bag k (one_end s)) here
          ∙ (let none : bag m (one_end s) ≡ 0 = omega (arith, one, all.once m s, more (one_end s)) in none)
      go false differ = omega (arith, one, all.apart n m s differ, more (one_end s), same n differ (one_end s))

  -- the head of the list is another link
  old-far : Not old s
  old-far = go (lists m).0 old (chain-first (cell_in rows) None old (lists m).0 (lists m).1.0)
      (apart-none s (lists m).0 ((lists m).1.1 (one_end s) ∙ free m))
    where
      go : (es : List End) (o : Option End) → o ≡ first es → IsApart s es → Not o s
      go es None is far = tt
      go [] (Some x) is far = cc
      go (e ∷ es) (Some x) is far = flip_same s x (subst (λ (o : Option End). IfSome o (λ y. same_end s y ≡ false)) (sym is) far.0)

  placed-cell : (e : End) → same_end s e ≡ false → cell_in placed e ≡ cell_in rows e
  placed-cell e far = cell-far s (with_both None old) (λ y. refl) headed e far ∙ headed-cell m (Some s) rows e

  pub into-bag : (n : ℕ) (w : End → ℕ) → bag_in into n w ≡ bag_in rows n w
  into-bag n w =
      turned-bag old (Some s) placed n w ∙ bag-stays s (with_both None old) (λ y. refl) headed n w ∙ headed-bag m (Some s) rows n w

  pub into-listed : (n : ℕ) → IsListed (cell_in into) (head_in into n) (bag_in into n)
  into-listed =
      all-listed (cell_in rows) (cell_in into) (head_in rows) (head_in into)
      bag (bag_in into) s (with_both None old l) m good lists
      (turned-cell old (Some s) placed s old-far
      ∙ cell-here s (with_both None old) (λ y. refl) headed ∙ ap (option_map (with_both None old)) (headed-cell m (Some s) rows s ∙ at))
      refl refl
      (λ e far_s far_h. turned-cell old (Some s) placed e far_h ∙ placed-cell e far_s)
      (λ e is far_s x had.
      ap (λ (o : Option End). cell_in (turned_in o (Some s) placed) e) is
      ∙ cell-here e (with_prev (Some s)) (λ y. refl) placed ∙ ap (option_map (with_prev (Some s))) (placed-cell e far_s ∙ had))
      (turned-head old (Some s) placed m ∙ head-stays s (with_both None old) (λ y. refl) headed m ∙ put-here m (Some s) rows known)
      (λ n differ. turned-head old (Some s) placed n ∙ head-stays s (with_both None old) (λ y. refl) headed n ∙ headed-far m (Some s) rows n differ)
      free (λ w. into-bag m w ∙ more w) (λ n differ w. into-bag n w ∙ same n differ w)
