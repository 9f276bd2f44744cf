-- A weak link is put at the front of the list of those that name an object, and taken out of it; the lists of other objects stay.
use Rattle.std.proofs.Common.{◌≡◌, refl, ap, ap₂, sym, subst, ◌∙◌, ℕ, ◌+◌, ◌<◌, ◌≤◌, Bool, true, false, ◌&&◌, ◌==◌, cond, eqb, List, [], ◌∷◌, ◌++◌, sum_by, Option, Some, None, IfSome, arith}
use Rattle.std.specs.Prelude.{⊤}
use Rattle.std.specs.List.{AllByRecursion}
use Rattle.std.specs.Option.{option_map_or}
use Rattle.std.proofs.lemmas.Bool.{and_parts, eqb-true, eq-eqb}
use Rattle.std.proofs.lemmas.Option.{same_Some}
use Rattle.std.proofs.lemmas.List.Sums.{sum_by-append, sum_by-cons}
use Rattle.qo_slots.specs.declared.keys.Key.{Key}
use Rattle.qo_heap.specs.declared.weak_links.End.{End}
use Rattle.qo_heap.specs.declared.weak_links.Node.{Node}
use Rattle.qo_heap.specs.WeakLinks.{exact_end, one_end, one_exact, same_end}
use Rattle.qo_heap.specs.WeakLists.{IsChain, IsListed}

-- links that are apart

abbrev pub IsApart : End → List End → Type 0
IsApart s es = AllByRecursion (λ (e : End). same_end s e ≡ false) es

abbrev pub AllApart : List End → Type 0
AllApart [] = ⊤
AllApart (e ∷ es) = IsApart e es × AllApart es

-- a link, if it is one, is another
abbrev pub Not : Option End → End → Type 0
Not o e = IfSome o (λ x. same_end x e ≡ false)

parts-apart : (a b : Bool) → (a && b) ≡ false → a ≡ true → b ≡ false
parts-apart true false e p = refl
parts-apart true true e p = cc
parts-apart false b e p = cc

pub flip_same : (a b : End) → same_end a b ≡ false → same_end b a ≡ false
flip_same a b e = go (eqb a.owner.birth b.owner.birth) refl
  where
    go : (t : Bool) → eqb a.owner.birth b.owner.birth ≡ t → same_end b a ≡ false
    go true p =
        let q : eqb b.owner.birth a.owner.birth ≡ true = grind (arith, p) in
        let other : eqb a.id b.id ≡ false = parts-apart (a.owner.birth == b.owner.birth) (a.id == b.id) e p in
        let other' : eqb b.id a.id ≡ false = grind (arith, other) in
        rw (q, other') refl
    go false p = let q : eqb b.owner.birth a.owner.birth ≡ false = grind (arith, p) in rw q refl

pub same-self : (e : End) → same_end e e ≡ true
same-self e =
    let a : eqb e.owner.birth e.owner.birth ≡ true = eq-eqb e.owner.birth e.owner.birth refl in
    let b : eqb e.id e.id ≡ true = eq-eqb e.id e.id refl in
    rw (a, b) refl

pub exact-is : (a b : End) → exact_end a b ≡ true → b ≡ a
exact-is a b e =
    let both = and_parts (a.owner.index == b.owner.index) (same_end a b) e in
    let rest = and_parts (a.owner.birth == b.owner.birth) (a.id == b.id) both.1 in
    let i : a.owner.index ≡ b.owner.index = eqb-true a.owner.index b.owner.index both.0 in
    let n : a.owner.birth ≡ b.owner.birth = eqb-true a.owner.birth b.owner.birth rest.0 in
    let k : a.id ≡ b.id = eqb-true a.id b.id rest.1 in
    sym (ap₂ (λ (o : Key) (x : ℕ). record { owner = o; id = x }) (ap₂ (λ (x y : ℕ). record { index = x; birth = y }) i n) k)

-- what sums say of the members of a list

pub apart-none : (s : End) (es : List End) → sum_by (one_end s) es ≡ 0 → IsApart s es
apart-none s [] none = tt
apart-none s (e ∷ es) none = (go (same_end s e) refl, apart-none s es (omega (arith, none, sum_by-cons (one_end s) e es)))
  where
    go : (t : Bool) → same_end s e ≡ t → same_end s e ≡ false
    go true is =
        let one : one_end s e ≡ 1 = ap (λ (b : Bool). cond {A = ℕ} b 1 0) is in
        absurd (omega (arith, one, none, sum_by-cons (one_end s) e es))
    go false is = is

pub all-apart : (es : List End) → ((e : End) → sum_by (one_end e) es ≤ 1) → AllApart es
all-apart [] once = tt
all-apart (e ∷ es) once =
    let one : one_end e e ≡ 1 = ap (λ (b : Bool). cond {A = ℕ} b 1 0) (same-self e) in (
      apart-none e es (omega (arith, one, once e, sum_by-cons (one_end e) e es)),
      all-apart es (λ x. omega (arith, once x, sum_by-cons (one_end x) e es)),
    )

pub record Split (s : End) (es : List End) : Type 0 where
  pub before : List End
  pub behind : List End
  pub is : es ≡ before ++ s ∷ behind

pub split-at : (s : End) (es : List End) → 0 < sum_by (one_exact s) es → Split s es
split-at s [] there = absurd (omega (arith, there))
split-at s (e ∷ es) there = go (exact_end s e) refl (split-at s es)
  where
    more : Split s es → Split s (e ∷ es)
    more p = record { before = e ∷ p.before; behind = p.behind; is = ap (λ (l : List End). e ∷ l) p.is }

    go : (t : Bool) → exact_end s e ≡ t → (0 < sum_by (one_exact s) es → Split s es) → Split s (e ∷ es)
    go true is rest = record { before = []; behind = es; is = ap (λ (x : End). x ∷ es) (exact-is s e is) }
    go false is rest =
        let none : one_exact s e ≡ 0 = ap (λ (b : Bool). cond {A = ℕ} b 1 0) is in
        more (rest (omega (arith, none, there, sum_by-cons (one_exact s) e es)))

pub counted-split : (s : End) (xs ys : List End) → 0 < sum_by (one_end s) (xs ++ s ∷ ys)
counted-split s xs ys =
    let one : one_end s s ≡ 1 = ap (λ (b : Bool). cond {A = ℕ} b 1 0) (same-self s) in
    omega (arith, one, sum_by-append (one_end s) xs (s ∷ ys), sum_by-cons (one_end s) s ys)

-- chains

pub chain-same : (c d : End → Option Node) (prev cur : Option End) (es : List End) → AllByRecursion (λ (e : End). d e ≡ c e) es → IsChain c prev cur es
    → IsChain d prev cur es
chain-same c d prev cur [] same h = h
chain-same c d prev cur (e ∷ es) same h =
    let l : Node = h.1.0 in
    (h.0, (l, (same.0 ∙ h.1.1.0, (h.1.1.1.0, chain-same c d (Some e) l.next es same.1 h.1.1.1.1))))

abbrev pub FirstTurned : (c d : End → Option Node) → Option End → List End → Type 0
FirstTurned c d now [] = ⊤
FirstTurned c d now (e ∷ es) = ((l : Node) → c e ≡ Some l → d e ≡ Some (record l { prev = now })) × AllByRecursion (λ (x : End). d x ≡ c x) es

pub chain-turned : (c d : End → Option Node) (prev now cur : Option End) (es : List End) → FirstTurned c d now es → IsChain c prev cur es → IsChain d now cur es
chain-turned c d prev now cur [] turned h = h
chain-turned c d prev now cur (e ∷ es) turned h =
    let l : Node = h.1.0 in
    (h.0, (record l { prev = now }, (turned.0 l h.1.1.0, (refl, chain-same c d (Some e) l.next es turned.1 h.1.1.1.1))))

abbrev start : Option End → List End → Option End → Option End
start cur [] next = next
start cur (x ∷ xs) next = cur

abbrev before : Option End → List End → Option End
before prev [] = prev
before prev (x ∷ xs) = before (Some x) xs

abbrev pub first : List End → Option End
first [] = None
first (y ∷ ys) = Some y

abbrev LastLed : (c d : End → Option Node) → Option End → List End → Type 0
LastLed c d next [] = ⊤
LastLed c d next (x ∷ []) = (l : Node) → c x ≡ Some l → d x ≡ Some (record l { next = next })
LastLed c d next (x ∷ y ∷ xs) = (d x ≡ c x) × LastLed c d next (y ∷ xs)

-- what a link that is in a chain has
record Found (c : End → Option Node) (prev : Option End) (s : End) (xs ys : List End) : Type 0 where
  node : Node
  at : c s ≡ Some node
  back : node.prev ≡ before prev xs
  forth : node.next ≡ first ys

pub chain-first : (c : End → Option Node) (prev cur : Option End) (ys : List End) → IsChain c prev cur ys → cur ≡ first ys
chain-first c prev cur [] h = h
chain-first c prev cur (y ∷ ys) h = h.0

chain-found : (c : End → Option Node) (prev cur : Option End) (s : End) (xs ys : List End) → IsChain c prev cur (xs ++ s ∷ ys) → Found c prev s xs ys
chain-found c prev cur s [] ys h =
    record { node = h.1.0; at = h.1.1.0; back = h.1.1.1.0; forth = chain-first c (Some s) h.1.0.next ys h.1.1.1.1 }
chain-found c prev cur s (x ∷ xs) ys h =
    let f = chain-found c (Some x) h.1.0.next s xs ys h.1.1.1.1 in record { node = f.node; at = f.at; back = f.back; forth = f.forth }

-- what is before a member and behind it has what all have
split-all : (P : End → Type 0) (xs ys : List End) → AllByRecursion P (xs ++ ys) → AllByRecursion P ys
split-all P [] ys all = all
split-all P (x ∷ xs) ys all = split-all P xs ys all.1

last-has : (P : End → Type 0) (z : End) (xs ys : List End) → P z → AllByRecursion P (xs ++ ys) → IfSome (before (Some z) xs) P
last-has P z [] ys here all = here
last-has P z (x ∷ xs) ys here all = last-has P x xs ys all.0 all.1

before-has : (P : End → Type 0) (xs ys : List End) → AllByRecursion P (xs ++ ys) → IfSome (before None xs) P
before-has P [] ys all = tt
before-has P (x ∷ xs) ys all = last-has P x xs ys all.0 all.1

first-has : (P : End → Type 0) (ys : List End) → AllByRecursion P ys → IfSome (first ys) P
first-has P [] all = tt
first-has P (y ∷ ys) all = all.0

pub record Neighbours (P : End → Type 0) (l : Node) : Type 0 where
  pub next : IfSome l.next P
  pub prev : IfSome l.prev P

pub neighbours : (c : End → Option Node) (P : End → Type 0) (head : Option End) (s : End) (l : Node) (es : List End) → IsChain c None head es → c s ≡ Some l
    → 0 < sum_by (one_exact s) es → AllByRecursion P es → Neighbours P l
neighbours c P head s l es h at there all =
    let p : Split s es = split-at s es there in
    let chain : IsChain c None head (p.before ++ s ∷ p.behind) = subst (λ (x : List End). IsChain c None head x) p.is h in
    let f : Found c None s p.before p.behind = chain-found c None head s p.before p.behind chain in
    let same : f.node ≡ l = same_Some f.node l (sym f.at ∙ at) in
    let whole : AllByRecursion P (p.before ++ s ∷ p.behind) = subst (AllByRecursion P) p.is all in
    let rest : AllByRecursion P (s ∷ p.behind) = split-all P p.before (s ∷ p.behind) whole in
    let back : l.prev ≡ before None p.before = subst (λ (x : Node). x.prev ≡ before None p.before) same f.back in
    let forth : l.next ≡ first p.behind = subst (λ (x : Node). x.next ≡ first p.behind) same f.forth in
    record {
      next = subst (λ (o : Option End). IfSome o P) (sym forth) (first-has P p.behind rest.1);
      prev = subst (λ (o : Option End). IfSome o P) (sym back) (before-has P p.before (s ∷ p.behind) whole);
    }

pub head-has : (c : End → Option Node) (P : End → Type 0) (head : Option End) (es : List End) → IsChain c None head es → AllByRecursion P es → IfSome head P
head-has c P head es h all = subst (λ (o : Option End). IfSome o P) (sym (chain-first c None head es h)) (first-has P es all)

chain-removed : (c d : End → Option Node) (prev cur : Option End) (s : End) (xs ys : List End) (l : Node) → IsChain c prev cur (xs ++ s ∷ ys) → c s ≡ Some l
    → LastLed c d l.next xs → FirstTurned c d l.prev ys → IsChain d prev (start cur xs l.next) (xs ++ ys)
chain-removed c d prev cur s [] ys l h e led_on turned_on =
    let m : Node = h.1.0 in
    let same : m ≡ l = same_Some m l (sym h.1.1.0 ∙ e) in
    let rest : IsChain c (Some s) l.next ys = subst (λ (x : Node). IsChain c (Some s) x.next ys) same h.1.1.1.1 in
    let is : l.prev ≡ prev = subst (λ (x : Node). x.prev ≡ prev) same h.1.1.1.0 in
    subst (λ (p : Option End). IsChain d p l.next ys) is (chain-turned c d (Some s) l.prev l.next ys turned_on rest)
chain-removed c d prev cur s (x ∷ []) ys l h e led_on turned_on =
    let m : Node = h.1.0 in
    (h.0, (record m { next = l.next }, (led_on m h.1.1.0, (h.1.1.1.0, chain-removed c d (Some x) m.next s [] ys l h.1.1.1.1 e tt turned_on))))
chain-removed c d prev cur s (x ∷ y ∷ xs) ys l h e led_on turned_on =
    let m : Node = h.1.0 in
    (h.0, (m, (led_on.0 ∙ h.1.1.0, (h.1.1.1.0, chain-removed c d (Some x) m.next s (y ∷ xs) ys l h.1.1.1.1 e led_on.1 turned_on))))

-- who is apart from what is left of a list, and what is before and behind a member

all-behind : (s : End) (xs ys : List End) → AllApart (xs ++ s ∷ ys) → IsApart s ys × AllApart ys
all-behind s [] ys h = h
all-behind s (x ∷ xs) ys h = all-behind s xs ys h.1

apart-behind : (x s : End) (xs ys : List End) → IsApart x (xs ++ s ∷ ys) → IsApart x (s ∷ ys)
apart-behind x s [] ys h = h
apart-behind x s (z ∷ xs) ys h = apart-behind x s xs ys h.1

apart-last : (x s : End) (z : End) (xs ys : List End) (p : End) → IsApart x (z ∷ xs ++ s ∷ ys) → before (Some z) xs ≡ Some p → same_end x p ≡ false
apart-last x s z [] ys p h e = subst (λ (q : End). same_end x q ≡ false) (same_Some z p e) h.0
apart-last x s z (w ∷ xs) ys p h e = apart-last x s w xs ys p h.1 e

last-apart : (s : End) (z : End) (xs ys : List End) (p : End) → AllApart (z ∷ xs ++ s ∷ ys) → before (Some z) xs ≡ Some p → IsApart p (s ∷ ys)
last-apart s z [] ys p h e = subst (λ (q : End). IsApart q (s ∷ ys)) (same_Some z p e) h.0
last-apart s z (w ∷ xs) ys p h e = last-apart s w xs ys p h.1 e

not-first : (x : End) (ys : List End) → IsApart x ys → Not (first ys) x
not-first x [] h = tt
not-first x (y ∷ ys) h = flip_same x y h.0

counted-last : (s z : End) (xs ys : List End) (p : End) → before (Some z) xs ≡ Some p → 0 < sum_by (one_end p) (z ∷ xs ++ s ∷ ys)
counted-last s z [] ys p e =
    let one : one_end p z ≡ 1 = subst (λ (q : End). one_end p q ≡ 1) (sym (same_Some z p e)) (ap (λ (b : Bool). cond {A = ℕ} b 1 0) (same-self p)) in
    omega (arith, one, sum_by-cons (one_end p) z (s ∷ ys))
counted-last s z (w ∷ xs) ys p e = omega (arith, counted-last s w xs ys p e, sum_by-cons (one_end p) z (w ∷ xs ++ s ∷ ys))

counted-before : (s : End) (xs ys : List End) (o : Option End) → o ≡ before None xs → IfSome o (λ p. 0 < sum_by (one_end p) (xs ++ s ∷ ys))
counted-before s xs ys None e = tt
counted-before s [] ys (Some p) e = cc
counted-before s (x ∷ xs) ys (Some p) e = counted-last s x xs ys p (sym e)

counted-behind : (s : End) (xs ys : List End) (o : Option End) → o ≡ first ys → IfSome o (λ p. 0 < sum_by (one_end p) (xs ++ s ∷ ys))
counted-behind s xs ys None e = tt
counted-behind s xs [] (Some p) e = cc
counted-behind s xs (y ∷ ys) (Some p) e =
    let one : one_end p y ≡ 1 = subst (λ (q : End). one_end p q ≡ 1) (same_Some p y e) (ap (λ (b : Bool). cond {A = ℕ} b 1 0) (same-self p)) in
    omega (arith, one, sum_by-append (one_end p) xs (s ∷ y ∷ ys), sum_by-cons (one_end p) s (y ∷ ys), sum_by-cons (one_end p) y ys)

-- each cell of some links stays
all-stay : (c d : End → Option Node) (s : End) (q nx : Option End) → ((e : End) → same_end s e ≡ false → Not nx e → Not q e → d e ≡ c e) → (es : List End)
    → IsApart s es → IfSome nx (λ p. IsApart p es) → IfSome q (λ p. IsApart p es) → AllByRecursion (λ (e : End). d e ≡ c e) es
all-stay c d s q nx other [] far_s far_n far_q = tt
all-stay c d s q nx other (e ∷ es) far_s far_n far_q =
    (other e far_s.0 (one nx far_n) (one q far_q), all-stay c d s q nx other es far_s.1 (others nx far_n) (others q far_q))
  where
    one : (o : Option End) → IfSome o (λ p. IsApart p (e ∷ es)) → Not o e
    one None h = tt
    one (Some p) h = h.0

    others : (o : Option End) → IfSome o (λ p. IsApart p (e ∷ es)) → IfSome o (λ p. IsApart p es)
    others None h = tt
    others (Some p) h = h.1

-- a link is taken out: what is before it leads on, and what is behind it looks back
module _ (c d : End → Option Node) (s : End) (q nx : Option End) (other : (e : End) → same_end s e ≡ false → Not nx e → Not q e → d e ≡ c e)
    (leads : (p : End) → q ≡ Some p → same_end s p ≡ false → Not nx p → (l : Node) → c p ≡ Some l → d p ≡ Some (record l { next = nx }))
    (looks : (n : End) → nx ≡ Some n → same_end s n ≡ false → Not q n → (l : Node) → c n ≡ Some l → d n ≡ Some (record l { prev = q })) where
  not-next : (x : End) (ys : List End) → IsApart x ys → nx ≡ first ys → Not nx x
  not-next x ys far n = subst (λ (o : Option End). Not o x) (sym n) (not-first x ys far)

  led-all : (z : End) (xs ys : List End) → AllApart (z ∷ xs ++ s ∷ ys) → q ≡ before (Some z) xs → nx ≡ first ys → LastLed c d nx (z ∷ xs)
  led-all z [] ys h e n = λ l at. leads z e (flip_same z s h.0.0) (not-next z ys h.0.1 n) l at
  led-all z (w ∷ xs) ys h e n =
      let far : IsApart z (s ∷ ys) = apart-behind z s (w ∷ xs) ys h.0 in (
        other z (flip_same z s far.0) (not-next z ys far.1 n) (not-last q e),
        led-all w xs ys h.1 e n,
      )
    where
      not-last : (o : Option End) → o ≡ before (Some w) xs → Not o z
      not-last None e = tt
      not-last (Some p) e = flip_same z p (apart-last z s w xs ys p h.0 (sym e))

  led-any : (xs ys : List End) → AllApart (xs ++ s ∷ ys) → q ≡ before None xs → nx ≡ first ys → LastLed c d nx xs
  led-any [] ys h e n = tt
  led-any (x ∷ xs) ys h e n = led-all x xs ys h e n

  from-last : (o : Option End) (xs ys : List End) → AllApart (xs ++ s ∷ ys) → o ≡ before None xs → IfSome o (λ p. IsApart p (s ∷ ys))
  from-last None xs ys h e = tt
  from-last (Some p) [] ys h e = cc
  from-last (Some p) (x ∷ xs) ys h e = last-apart s x xs ys p h (sym e)

  turned-all : (ys : List End) → IsApart s ys → AllApart ys → nx ≡ first ys → IfSome q (λ p. IsApart p (s ∷ ys)) → FirstTurned c d q ys
  turned-all [] far_s apart n far_q = tt
  turned-all (y ∷ ys) far_s apart n far_q = (
    λ l at. looks y n far_s.0 (one q far_q) l at,
    all-stay c d s q nx other ys far_s.1 (subst (λ (o : Option End). IfSome o (λ p. IsApart p ys)) (sym n) apart.0) (others q far_q),
  )
    where
      one : (o : Option End) → IfSome o (λ p. IsApart p (s ∷ y ∷ ys)) → Not o y
      one None h = tt
      one (Some p) h = h.1.0

      others : (o : Option End) → IfSome o (λ p. IsApart p (s ∷ y ∷ ys)) → IfSome o (λ p. IsApart p ys)
      others None h = tt
      others (Some p) h = h.1.1

  pub chain-without : (cur : Option End) (l : Node) → c s ≡ Some l → l.prev ≡ q → l.next ≡ nx → (xs ys : List End) → AllApart (xs ++ s ∷ ys)
      → IsChain c None cur (xs ++ s ∷ ys) → IsChain d None (option_map_or (λ (_ : End). cur) q nx) (xs ++ ys)
  chain-without cur l at back forth xs ys apart h =
      let f : Found c None s xs ys = chain-found c None cur s xs ys h in
      let same : f.node ≡ l = same_Some f.node l (sym f.at ∙ at) in
      let e : q ≡ before None xs = sym back ∙ subst (λ (x : Node). x.prev ≡ before None xs) same f.back in
      let n : nx ≡ first ys = sym forth ∙ subst (λ (x : Node). x.next ≡ first ys) same f.forth in
      let behind = all-behind s xs ys apart in
      let led_on : LastLed c d l.next xs = subst (λ (o : Option End). LastLed c d o xs) (sym forth) (led-any xs ys apart e n) in
      let turned_on : FirstTurned c d l.prev ys =
      subst (λ (o : Option End). FirstTurned c d o ys) (sym back) (turned-all ys behind.0 behind.1 n (from-last q xs ys apart e)) in
      let out : IsChain d None (start cur xs l.next) (xs ++ ys) = chain-removed c d None cur s xs ys l h at led_on turned_on in
      subst (λ (o : Option End). IsChain d None o (xs ++ ys)) (ap (start cur xs) forth ∙ started xs q e) out
    where
      some : (z : End) (zs : List End) → (p : End) × (before (Some z) zs ≡ Some p)
      some z [] = (z, refl)
      some z (w ∷ zs) = some w zs

      started : (xs : List End) (o : Option End) → o ≡ before None xs → start cur xs nx ≡ option_map_or (λ (_ : End). cur) o nx
      started [] o e = ap (λ (x : Option End). option_map_or (λ (_ : End). cur) x nx) (sym e)
      started (x ∷ xs) o e =
          let (p, at) = some x xs in ap (λ (y : Option End). option_map_or (λ (_ : End). cur) y nx) (sym (e ∙ at))

-- the lists of all objects, by heads and by what weighs their links
abbrev pub Bag : Type 0
Bag = (End → ℕ) → ℕ

-- no link is in two lists, or in one of them twice
pub record Apart (bag : ℕ → Bag) : Type 0 where
  pub once : (n : ℕ) (e : End) → bag n (one_end e) ≤ 1
  pub apart : (n m : ℕ) (e : End) → eqb n m ≡ false → bag n (one_end e) + bag m (one_end e) ≤ 1

-- who is in the list of another object is apart from that of one
far-from : (bag : ℕ → Bag) → Apart bag → (n m : ℕ) → eqb n m ≡ false → (es fs : List End) → ((w : End → ℕ) → sum_by w es ≡ bag n w)
    → ((w : End → ℕ) → sum_by w fs ≡ bag m w) → (p : End) → 0 < sum_by (one_end p) fs → IsApart p es
far-from bag good n m differ es fs is_n is_m p there =
    apart-none p es (omega (arith, is_n (one_end p), is_m (one_end p), good.apart n m p differ, there))

some-far : (bag : ℕ → Bag) → Apart bag → (n m : ℕ) → eqb n m ≡ false → (es fs : List End) → ((w : End → ℕ) → sum_by w es ≡ bag n w)
    → ((w : End → ℕ) → sum_by w fs ≡ bag m w) → (o : Option End) → IfSome o (λ p. 0 < sum_by (one_end p) fs) → IfSome o (λ p. IsApart p es)
some-far bag good n m differ es fs is_n is_m None there = tt
some-far bag good n m differ es fs is_n is_m (Some p) there = far-from bag good n m differ es fs is_n is_m p there

-- a link names an object no more
module _ (c d : End → Option Node) (h k : ℕ → Option End) (bag new : ℕ → Bag) (s : End) (l : Node) (m : ℕ) (good : Apart bag)
    (lists : (n : ℕ) → IsListed c (h n) (bag n)) (at : c s ≡ Some l) (there : 0 < bag m (one_exact s))
    (other : (e : End) → same_end s e ≡ false → Not l.next e → Not l.prev e → d e ≡ c e)
    (leads : (p : End) → l.prev ≡ Some p → same_end s p ≡ false → Not l.next p → (x : Node) → c p ≡ Some x → d p ≡ Some (record x { next = l.next }))
    (looks : (n : End) → l.next ≡ Some n → same_end s n ≡ false → Not l.prev n → (x : Node) → c n ≡ Some x → d n ≡ Some (record x { prev = l.prev }))
    (head : k m ≡ option_map_or (λ (_ : End). h m) l.prev l.next) (heads : (n : ℕ) → eqb n m ≡ false → k n ≡ h n)
    (less : (w : End → ℕ) → new m w + w s ≡ bag m w) (same : (n : ℕ) → eqb n m ≡ false → (w : End → ℕ) → new n w ≡ bag n w) where
  abbrev old : List End
  old = (lists m).0

  old-is : (w : End → ℕ) → sum_by w old ≡ bag m w
  old-is = (lists m).1.1

  cut : Split s old
  cut = split-at s old (omega (arith, there, old-is (one_exact s)))

  chain : IsChain c None (h m) (cut.before ++ s ∷ cut.behind)
  chain = subst (λ (es : List End). IsChain c None (h m) es) cut.is (lists m).1.0

  apart-all : AllApart (cut.before ++ s ∷ cut.behind)
  apart-all = subst AllApart cut.is (all-apart old (λ e. omega (arith, old-is (one_end e), good.once m e)))

  unlisted : IsListed d (k m) (new m)
  unlisted = (
    cut.before ++ cut.behind,
    (
      subst (λ (o : Option End). IsChain d None o (cut.before ++ cut.behind)) (sym head)
          (chain-without c d s l.prev l.next other leads looks (h m) l at refl refl cut.before cut.behind apart-all chain),
      λ w. omega (
        arith,
        less w,
        old-is w,
        ap (sum_by w) cut.is,
        sum_by-append w cut.before (s ∷ cut.behind),
        sum_by-append w cut.before cut.behind,
        sum_by-cons w s cut.behind,
      ),
    ),
  )

  -- what is before it and behind it is in no other list, and neither is it
  others : (n : ℕ) → eqb n m ≡ false → IsListed d (k n) (new n)
  others n differ =
      let es : List End = (lists n).0 in
      let es-is : (w : End → ℕ) → sum_by w es ≡ bag n w = (lists n).1.1 in
      let f : Found c None s cut.before cut.behind = chain-found c None (h m) s cut.before cut.behind chain in
      let one : f.node ≡ l = same_Some f.node l (sym f.at ∙ at) in
      let back : l.prev ≡ before None cut.before = subst (λ (x : Node). x.prev ≡ before None cut.before) one f.back in
      let forth : l.next ≡ first cut.behind = subst (λ (x : Node). x.next ≡ first cut.behind) one f.forth in
      let whole : (w : End → ℕ) → sum_by w (cut.before ++ s ∷ cut.behind) ≡ bag m w = λ w. sym (ap (sum_by w) cut.is) ∙ old-is w in
      let far_s : IsApart s es =
      far-from bag good n m differ es (cut.before ++ s ∷ cut.behind) es-is whole s (counted-split s cut.before cut.behind) in
      let far_n : IfSome l.next (λ p. IsApart p es) =
      some-far bag good n m differ es (cut.before ++ s ∷ cut.behind) es-is whole l.next (counted-behind s cut.before cut.behind l.next forth) in
      let far_q : IfSome l.prev (λ p. IsApart p es) =
      some-far bag good n m differ es (cut.before ++ s ∷ cut.behind) es-is whole l.prev (counted-before s cut.before cut.behind l.prev back) in (
        es,
        (
          subst (λ (o : Option End). IsChain d None o es) (sym (heads n differ))
              (chain-same c d None (h n) es (all-stay c d s l.prev l.next other es far_s far_n far_q) (lists n).1.0),
          λ w. es-is w ∙ sym (same n differ w),
        ),
      )

  pub all-unlisted : (n : ℕ) → IsListed d (k n) (new n)
  all-unlisted n = go (eqb n m) refl
    where
      go : (t : Bool) → eqb n m ≡ t → IsListed d (k n) (new n)
      go true is = subst (λ (x : ℕ). IsListed d (k x) (new x)) (sym (eqb-true n m is)) unlisted
      go false differ = others n differ

-- a link that is in no list names an object: it is put at the front
module _ (c d : End → Option Node) (h k : ℕ → Option End) (bag new : ℕ → Bag) (s : End) (l : Node) (m : ℕ) (good : Apart bag)
    (lists : (n : ℕ) → IsListed c (h n) (bag n)) (here : d s ≡ Some l) (next : l.next ≡ h m) (prev : l.prev ≡ None)
    (other : (e : End) → same_end s e ≡ false → Not (h m) e → d e ≡ c e)
    (looks : (e : End) → h m ≡ Some e → same_end s e ≡ false → (x : Node) → c e ≡ Some x → d e ≡ Some (record x { prev = Some s }))
    (head : k m ≡ Some s) (heads : (n : ℕ) → eqb n m ≡ false → k n ≡ h n) (free : (n : ℕ) → bag n (one_end s) ≡ 0)
    (more : (w : End → ℕ) → new m w ≡ bag m w + w s) (same : (n : ℕ) → eqb n m ≡ false → (w : End → ℕ) → new n w ≡ bag n w) where
  abbrev had : List End
  had = (lists m).0

  had-is : (w : End → ℕ) → sum_by w had ≡ bag m w
  had-is = (lists m).1.1

  -- a list that starts at its head
  head-is : h m ≡ first had
  head-is = chain-first c None (h m) had (lists m).1.0

  all-behind-first : (es : List End) → h m ≡ first es → IsApart s es → AllApart es → FirstTurned c d (Some s) es
  all-behind-first [] is far apart = tt
  all-behind-first (e ∷ es) is far apart =
      (looks e is far.0, all-stay c d s (h m) None (λ x a _ b. other x a b) es far.1 tt (subst (λ (o : Option End). IfSome o (λ p. IsApart p es)) (sym is) apart.0))

  listed : IsListed d (k m) (new m)
  listed =
      let far : IsApart s had = apart-none s had (had-is (one_end s) ∙ free m) in
      let apart : AllApart had = all-apart had (λ e. omega (arith, had-is (one_end e), good.once m e)) in
      let on : IsChain d (Some s) (h m) had = chain-turned c d None (Some s) (h m) had (all-behind-first had head-is far apart) (lists m).1.0 in (
        s ∷ had,
        (
          (head, (l, (here, (prev, subst (λ (o : Option End). IsChain d (Some s) o had) (sym next) on)))),
          λ w. omega (arith, more w, had-is w, sum_by-cons w s had),
        ),
      )

  first-counted : (es : List End) (o : Option End) → o ≡ first es → IfSome o (λ p. 0 < sum_by (one_end p) es)
  first-counted es None is = tt
  first-counted [] (Some p) is = cc
  first-counted (e ∷ es) (Some p) is =
      let one : one_end p e ≡ 1 = subst (λ (q : End). one_end p q ≡ 1) (same_Some p e is) (ap (λ (b : Bool). cond {A = ℕ} b 1 0) (same-self p)) in
      omega (arith, one, sum_by-cons (one_end p) e es)

  others-listed : (n : ℕ) → eqb n m ≡ false → IsListed d (k n) (new n)
  others-listed n differ =
      let es : List End = (lists n).0 in
      let es-is : (w : End → ℕ) → sum_by w es ≡ bag n w = (lists n).1.1 in
      let far_s : IsApart s es = apart-none s es (es-is (one_end s) ∙ free n) in
      let far_h : IfSome (h m) (λ p. IsApart p es) = some-far bag good n m differ es had es-is had-is (h m) (first-counted had (h m) head-is) in (
        es,
        (
          subst (λ (o : Option End). IsChain d None o es) (sym (heads n differ))
              (chain-same c d None (h n) es (all-stay c d s (h m) None (λ x a _ b. other x a b) es far_s tt far_h) (lists n).1.0),
          λ w. es-is w ∙ sym (same n differ w),
        ),
      )

  pub all-listed : (n : ℕ) → IsListed d (k n) (new n)
  all-listed n = go (eqb n m) refl
    where
      go : (t : Bool) → eqb n m ≡ t → IsListed d (k n) (new n)
      go true is = subst (λ (x : ℕ). IsListed d (k x) (new x)) (sym (eqb-true n m is)) listed
      go false differ = others-listed n differ

-- lists over cells, heads and weights that are as before
pub listed-as : (c d : End → Option Node) (h k : Option End) (bag new : Bag) → k ≡ h → ((w : End → ℕ) → new w ≡ bag w)
    → ((es : List End) → ((w : End → ℕ) → sum_by w es ≡ bag w) → AllByRecursion (λ (e : End). d e ≡ c e) es) → IsListed c h bag → IsListed d k new
listed-as c d h k bag new head weights cells list =
    let es : List End = list.0 in (
      es,
      (
        subst (λ (o : Option End). IsChain d None o es) (sym head) (chain-same c d None h es (cells es list.1.1) list.1.0),
        λ w. list.1.1 w ∙ sym (weights w),
      ),
    )

-- what all links of a weighing have, where a test says it
pub all-of : (p : End → Bool) (es : List End) → sum_by (λ (e : End). cond {A = ℕ} (p e) 0 1) es ≡ 0 → AllByRecursion (λ (e : End). p e ≡ true) es
all-of p [] none = tt
all-of p (e ∷ es) none = (go (p e) refl, all-of p es (omega (arith, none, sum_by-cons (λ (x : End). cond {A = ℕ} (p x) 0 1) e es)))
  where
    go : (t : Bool) → p e ≡ t → p e ≡ true
    go true is = is
    go false is =
        let one : cond {A = ℕ} (p e) 0 1 ≡ 1 = ap (λ (b : Bool). cond {A = ℕ} b 0 1) is in
        absurd (omega (arith, one, none, sum_by-cons (λ (x : End). cond {A = ℕ} (p x) 0 1) e es))
