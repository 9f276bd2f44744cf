-- Where links lead, as a description says it.
use Rattle.std.proofs.Common.{◌≡◌, ◌≢◌, ◌⊎◌, inl, inr, refl, ap, sym, subst, ◌∙◌, ℕ, Bool, true, false, ◌&&◌, List, [], ◌∷◌, ◌++◌, filter_map, find, Option, Some, None, option_map}
use Rattle.qo_model.proofs.Common.{AllByRecursion, IsDistinct, option_map_or, option_or, bytes_eq, Board, Slot, slot_named, slots_at, target_of}
use Rattle.std.specs.List.{flat_map}
use Rattle.std.proofs.lemmas.Option.{same_Some}
use Rattle.std.proofs.lemmas.Slice.Eq.{bytes_eq-Decides}
use Rattle.qo_model.specs.Properties.{path_text, target_text}
use Rattle.qo_save.specs.Described.{is_link, is_set, link_item, link_items, link_to}
use Rattle.qo_save.specs.Description.{LinkItem}
use Rattle.qo_sound.proofs.SlotLemmas.{names_in}
use Rattle.qo_sound.proofs.TestLemmas.{clash, decide}
use Rattle.qo_good.specs.Good.{OneOf}

-- ---- finding

find-append : {X : Type 0} (test : X → Bool) (xs ys : List X) → find test (xs ++ ys) ≡ option_or (find test xs) (find test ys)
find-append test [] ys = refl
find-append test (x ∷ xs) ys = go (test x) refl (find-append test xs ys)
  where
    go : (t : Bool) → test x ≡ t → find test (xs ++ ys) ≡ option_or (find test xs) (find test ys)
        → find test ((x ∷ xs) ++ ys) ≡ option_or (find test (x ∷ xs)) (find test ys)
    go true q rest = rw q refl
    go false q rest = rw q rest

pub find-flat : {E X : Type 0} (test : X → Bool) (f : E → List X) (o : Option X) (es : List E)
    → AllByRecursion (λ (e : E). (find test (f e) ≡ None) ⊎ (find test (f e) ≡ o)) es → OneOf (λ (e : E). find test (f e) ≡ o) es
    → find test (flat_map f es) ≡ o
find-flat test f o [] all one = absurd one
find-flat {E = E} {X = X} test f o (e ∷ es) all one =
    find-append test (f e) (flat_map f es) ∙ by o all one (find-flat test f o es all.1)
  where
    none-found : (xs : List E) → AllByRecursion (λ (x : E). (find test (f x) ≡ None) ⊎ (find test (f x) ≡ None)) xs → find test (flat_map f xs) ≡ None
    none-found [] h = refl
    none-found (x ∷ xs) h = find-append test (f x) (flat_map f xs) ∙ ap (λ (k : Option X). option_or k (find test (flat_map f xs))) (either h.0) ∙ none-found xs h.1
      where
        either : (find test (f x) ≡ None) ⊎ (find test (f x) ≡ None) → find test (f x) ≡ None
        either (inl q) = q
        either (inr q) = q

    by : (k : Option X) → AllByRecursion (λ (x : E). (find test (f x) ≡ None) ⊎ (find test (f x) ≡ k)) (e ∷ es) → OneOf (λ (x : E). find test (f x) ≡ k) (e ∷ es)
        → (OneOf (λ (x : E). find test (f x) ≡ k) es → find test (flat_map f es) ≡ k) → option_or (find test (f e)) (find test (flat_map f es)) ≡ k
    by None all one rest =
        ap (λ (k : Option X). option_or k (find test (flat_map f es))) (either all.0) ∙ none-found es all.1
      where
        either : (find test (f e) ≡ None) ⊎ (find test (f e) ≡ None) → find test (f e) ≡ None
        either (inl q) = q
        either (inr q) = q
    by (Some x) all (inl here) rest = ap (λ (k : Option X). option_or k (find test (flat_map f es))) here
    by (Some x) (inl none, more) (inr one) rest = ap (λ (k : Option X). option_or k (find test (flat_map f es))) none ∙ rest one
    by (Some x) (inr some, more) (inr one) rest = ap (λ (k : Option X). option_or k (find test (flat_map f es))) some

-- ---- the links of one object

-- whether a link is the one of a name at a path
abbrev pub is_said : List ℕ → List ℕ → LinkItem → Bool
is_said path name l = bytes_eq l.path path && bytes_eq l.property name

same-text : (xs : List ℕ) → bytes_eq xs xs ≡ true
same-text xs = (bytes_eq-Decides xs xs).1 refl

module _ (b : Board) (n : ℕ) where
  -- a link that is listed is that of its slot
  record IsFrom (s : List ℕ × Slot) (l : LinkItem) : Type 0 where
    path : l.path ≡ path_text b n
    property : l.property ≡ s.0

  link-from : (s : List ℕ × Slot) (l : LinkItem) → link_item b n s ≡ Some l → IsFrom s l
  link-from s l e = go (is_link s.1 && is_set b n s.0) refl (target_of s.1) refl
    where
      go : (t : Bool) → (is_link s.1 && is_set b n s.0) ≡ t → (o : Option ℕ) → target_of s.1 ≡ o → IsFrom s l
      go false q o r = absurd (let clash : None ≡ Some l = rw q at e in cc)
      go true q None r = absurd (let clash : None ≡ Some l = rw (q, r) at e in cc)
      go true q (Some m) r =
          let is : link_to b n s.0 m ≡ l = same_Some (link_to b n s.0 m) l (rw (q, r) at e) in
          record { path = ap (λ (x : LinkItem). x.path) (sym is); property = ap (λ (x : LinkItem). x.property) (sym is) }

  skipped : (path name : List ℕ) (s : List ℕ × Slot) (slots : List (List ℕ × Slot)) → ((l : LinkItem) → link_item b n s ≡ Some l → is_said path name l ≡ false)
      → find (is_said path name) (filter_map (link_item b n) (s ∷ slots)) ≡ find (is_said path name) (filter_map (link_item b n) slots)
  skipped path name s slots other = go (link_item b n s) refl
    where
      go : (o : Option LinkItem) → link_item b n s ≡ o
          → find (is_said path name) (filter_map (link_item b n) (s ∷ slots)) ≡ find (is_said path name) (filter_map (link_item b n) slots)
      go None q = rw q refl
      go (Some l) q = let no_link : is_said path name l ≡ false = other l q in rw q (rw no_link refl)

  -- none is said at another path, nor of another name
  other-path : (path name : List ℕ) → path_text b n ≢ path → (slots : List (List ℕ × Slot)) → find (is_said path name) (filter_map (link_item b n) slots) ≡ None
  other-path path name differ [] = refl
  other-path path name differ (s ∷ slots) =
      skipped path name s slots (λ l e.
      let k : IsFrom s l = link-from s l e in
      decide (bytes_eq l.path path) (λ q. absurd (differ (sym k.path ∙ (bytes_eq-Decides l.path path).0 q))) (λ q. rw q refl))
      ∙ other-path path name differ slots

  and-false : (t u : Bool) → u ≡ false → (t && u) ≡ false
  and-false true u e = e
  and-false false u e = refl

  other-name : (path name : List ℕ) (s : List ℕ × Slot) (slots : List (List ℕ × Slot)) → bytes_eq s.0 name ≡ false
      → find (is_said path name) (filter_map (link_item b n) (s ∷ slots)) ≡ find (is_said path name) (filter_map (link_item b n) slots)
  other-name path name s slots differ =
      skipped path name s slots (λ l e.
      and-false (bytes_eq l.path path) (bytes_eq l.property name) (ap (λ (x : List ℕ). bytes_eq x name) (link-from s l e).property ∙ differ))

  other-names : (path name : List ℕ) (slots : List (List ℕ × Slot)) → AllByRecursion (λ (y : List ℕ). bytes_eq name y ≡ false) (names_in slots)
      → find (is_said path name) (filter_map (link_item b n) slots) ≡ None
  other-names path name [] h = refl
  other-names path name (s ∷ slots) h = other-name path name s slots (back (bytes_eq s.0 name) refl) ∙ other-names path name slots h.1
    where
      back : (t : Bool) → bytes_eq s.0 name ≡ t → bytes_eq s.0 name ≡ false
      back false q = q
      back true q = clash (sym ((bytes_eq-Decides name s.0).1 (sym ((bytes_eq-Decides s.0 name).0 q))) ∙ h.0)

  -- that of a slot is said
  own-name : (name : List ℕ) (target : Option ℕ) (s : Slot) → is_link s ≡ true → is_set b n name ≡ true → target_of s ≡ target → (slots : List (List ℕ × Slot))
      → IsDistinct bytes_eq (names_in slots)
      → option_map (λ (x : List ℕ × Slot). x.1) (find (λ (x : List ℕ × Slot). bytes_eq x.0 name) slots) ≡ Some s
      → find (is_said (path_text b n) name) (filter_map (link_item b n) slots) ≡ option_map (link_to b n name) target
  unfolding IsDistinct
  own-name name target s link set to [] h e = absurd (let clash : None ≡ Some s = e in cc)
  own-name name target s link set to (x ∷ slots) h e = go (bytes_eq x.0 name) refl (own-name name target s link set to slots h.1)
    where
      here : (own : List ℕ) (u : Slot) → own ≡ name → u ≡ s → AllByRecursion (λ (y : List ℕ). bytes_eq own y ≡ false) (names_in slots)
          → find (is_said (path_text b n) name) (filter_map (link_item b n) ((own, u) ∷ slots)) ≡ option_map (link_to b n name) target
      here own u is same apart = by target to
        where
          apart_on : AllByRecursion (λ (y : List ℕ). bytes_eq name y ≡ false) (names_in slots)
          apart_on = subst (λ (z : List ℕ). AllByRecursion (λ (y : List ℕ). bytes_eq z y ≡ false) (names_in slots)) is apart

          item : (o : Option ℕ) → target_of s ≡ o → link_item b n (own, u) ≡ option_map (link_to b n name) o
          item o r =
              ap (λ (y : Slot). link_item b n (own, y)) same ∙ ap (λ (z : List ℕ). link_item b n (z, s)) is ∙ rw (link, set) (ap (option_map (link_to b n name)) r)

          by : (o : Option ℕ) → target_of s ≡ o
              → find (is_said (path_text b n) name) (filter_map (link_item b n) ((own, u) ∷ slots)) ≡ option_map (link_to b n name) o
          by None r =
              let none : link_item b n (own, u) ≡ None = item None r in
              let is_left : filter_map (link_item b n) ((own, u) ∷ slots) ≡ filter_map (link_item b n) slots = rw none refl in
              ap (find (is_said (path_text b n) name)) is_left ∙ other-names (path_text b n) name slots apart_on
          by (Some m) r =
              let some : link_item b n (own, u) ≡ Some (link_to b n name m) = item (Some m) r in
              let is_first : filter_map (link_item b n) ((own, u) ∷ slots) ≡ link_to b n name m ∷ filter_map (link_item b n) slots = rw some refl in
              let says : is_said (path_text b n) name (link_to b n name m) ≡ true = rw (same-text (path_text b n), same-text name) refl in
              ap (find (is_said (path_text b n) name)) is_first ∙ rw says refl

      go : (t : Bool) → bytes_eq x.0 name ≡ t
          → (option_map (λ (y : List ℕ × Slot). y.1) (find (λ (y : List ℕ × Slot). bytes_eq y.0 name) slots) ≡ Some s
          → find (is_said (path_text b n) name) (filter_map (link_item b n) slots) ≡ option_map (link_to b n name) target)
          → find (is_said (path_text b n) name) (filter_map (link_item b n) (x ∷ slots)) ≡ option_map (link_to b n name) target
      go true q rest = here x.0 x.1 ((bytes_eq-Decides x.0 name).0 q) (same_Some x.1 s (rw q at e)) h.0
      go false q rest = other-name (path_text b n) name x slots q ∙ rest (rw q at e)

pub target-said : (b : Board) (n : ℕ) (name : List ℕ) (target : Option ℕ)
    → option_map_or (λ (l : LinkItem). l.value) (option_map (link_to b n name) target) [] ≡ target_text b target
target-said b n name None = refl
target-said b n name (Some m) = refl

-- over all objects that have links, each at a path of its own
pub link-leads : (b : Board) (es : List (List ℕ × ℕ)) (n : ℕ) (name : List ℕ) (s : Slot) → is_link s ≡ true → is_set b n name ≡ true
    → IsDistinct bytes_eq (names_in (slots_at b n)) → slot_named b n name ≡ Some s
    → AllByRecursion (λ (e : List ℕ × ℕ). (path_text b e.1 ≢ path_text b n) ⊎ (e.1 ≡ n)) es → OneOf (λ (e : List ℕ × ℕ). e.1 ≡ n) es
    → option_map_or (λ (l : LinkItem). l.value) (find (is_said (path_text b n) name) (flat_map (link_items b) es)) [] ≡ target_text b (target_of s)
link-leads b es n name s link set once found all one =
    ap (λ (o : Option LinkItem). option_map_or (λ (l : LinkItem). l.value) o [])
    (find-flat (is_said (path_text b n) name) (link_items b) (option_map (link_to b n name) (target_of s)) es (each es all) (only es one))
    ∙ target-said b n name (target_of s)
  where
    own : (m : ℕ) → m ≡ n → find (is_said (path_text b n) name) (filter_map (link_item b m) (slots_at b m)) ≡ option_map (link_to b n name) (target_of s)
    own m is =
        ap (λ (k : ℕ). find (is_said (path_text b n) name) (filter_map (link_item b k) (slots_at b k))) is
        ∙ own-name b n name (target_of s) s link set refl (slots_at b n) once found

    each : (xs : List (List ℕ × ℕ)) → AllByRecursion (λ (e : List ℕ × ℕ). (path_text b e.1 ≢ path_text b n) ⊎ (e.1 ≡ n)) xs
        → AllByRecursion (λ (e : List ℕ × ℕ). (find (is_said (path_text b n) name) (link_items b e) ≡ None)
        ⊎ (find (is_said (path_text b n) name) (link_items b e) ≡ option_map (link_to b n name) (target_of s))) xs
    each [] h = tt
    each (e ∷ xs) h = (either h.0, each xs h.1)
      where
        either : (path_text b e.1 ≢ path_text b n) ⊎ (e.1 ≡ n) → (find (is_said (path_text b n) name) (link_items b e) ≡ None)
            ⊎ (find (is_said (path_text b n) name) (link_items b e) ≡ option_map (link_to b n name) (target_of s))
        either (inl differ) = inl (other-path b e.1 (path_text b n) name differ (slots_at b e.1))
        either (inr is) = inr (own e.1 is)

    only : (xs : List (List ℕ × ℕ)) → OneOf (λ (e : List ℕ × ℕ). e.1 ≡ n) xs
        → OneOf (λ (e : List ℕ × ℕ). find (is_said (path_text b n) name) (link_items b e) ≡ option_map (link_to b n name) (target_of s)) xs
    only [] h = h
    only (e ∷ xs) (inl is) = inl (own e.1 is)
    only (e ∷ xs) (inr rest) = inr (only xs rest)
