-- The plan of a new object, one given value after another.
use Rattle.std.proofs.Common.{rules, ◌≡◌, refl, ap, sym, subst, ◌∙◌, ℕ, zero, suc, ◌+◌, ◌<◌, ◌≤◌, Bool, true, false, ◌&&◌, not, cond, List, [], ◌∷◌, ◌++◌, length, map, take, drop, set, get_or, slice_get, find, filter_map, Option, Some, None, IfSome, is_some, Result, Ok, Err, option_map, option_to_list, append-nil, length-append, arith}
use Rattle.std.specs.Cmp.Lexicographic.{slice_cmp}
use Rattle.std.specs.List.{AllByRecursion, AllZip, cons_option, list_all}
use Rattle.std.specs.Ordering.{is_eq, is_lt, nat_cmp}
use Rattle.std.specs.Str.{bytes_eq}
use Rattle.std.specs.declared.cmp.Ordering.{Ordering}
use Rattle.std.specs.declared.cmp.Ordering.TheVariants.{Less, Equal, Greater}
use Rattle.std.proofs.Math.ListN.{drop_of_length-le}
use Rattle.std.proofs.lemmas.Cmp.{nat_list_eq_equiv}
use Rattle.std.proofs.lemmas.List.{drop_more, length-take, map-append, take-append-drop}
use Rattle.std.proofs.lemmas.Map.Text.{is_eq-slice_cmp}
use Rattle.std.proofs.lemmas.Option.{same_Some, slice_get-get_or, slice_get_within}
use Rattle.std.proofs.lemmas.Slice.Eq.{bytes_eq-Decides}
use Rattle.qo_values.specs.PropertyLists.{NamesRise, is_above, names_of}
use Rattle.qo_values.specs.declared.codes.Code.{Code}
use Rattle.qo_values.specs.declared.kinds.TypeId.{TypeId}
use Rattle.qo_values.proofs.NameOrder.{above_those_before}
use Rattle.std.proofs.lemmas.Bool.{and_parts, not-true}
use Rattle.qo_model.specs.Board.{Board}
use Rattle.qo_model.specs.Board as board
use Rattle.qo_model.specs.Objects.{Given, given_to}
use Rattle.qo_model.specs.Properties.{property_named}
use Rattle.qo_model.specs.RowNames.{property_name}
use Rattle.qo_model.specs.Types.{slots_of, types}
use Rattle.qo_model.specs.declared.properties.Property.{Property}
use Rattle.qo_object.specs.declared.slots.Slot.{Slot}
use Rattle.qo_object.specs.BoardObject.{shown_slot}
use Rattle.qo_object.specs.Slots.{Named}
use Rattle.qo_values.proofs.ListLemmas.{found-passes}
use Rattle.qo_values.proofs.EachLemmas.{each}
use Rattle.qo_properties.specs.declared.adding.filling.InitialValue.{InitialValue}
use Rattle.qo_properties.specs.declared.adding.filling.InitialValue.TheVariants as fill
use Rattle.qo_properties.specs.declared.adding.planning.PlacedRow.{PlacedRow}
use Rattle.qo_properties.specs.declared.refusals.Refusal.{Refusal}
use Rattle.qo_properties.specs.declared.refusals.Refusal.TheVariants.{Refused}
use Rattle.qo_properties.specs.NewSlots.{begun, new_slots, slot_begun}
use Rattle.qo_properties.specs.Filling.{Fits, HasValue, IsGiven, fits}
use Rattle.qo_properties.specs.Planning.{StandsAt, TellsRefusal}
use Rattle.qo_properties.proofs.NewSlotLemmas.{few-slots, next-slot}
use Rattle.qo_properties.proofs.GivenPropertyLemmas.{drop-at, find-here, find-later}

-- the slots of a new object have different names

abbrev pub are_apart : List Named → Bool
are_apart [] = true
are_apart (s ∷ slots) = list_all (λ (t : Named). not (bytes_eq t.0 s.0)) slots && are_apart slots

pub new-apart : (t : TypeId) → are_apart (new_slots t) ≡ true
unfolding types
new-apart = each (λ (t : TypeId). are_apart (new_slots t) ≡ true) (search rules)

-- the place of a row's slot, by the slots of the rows before it

pub placed-at : {X Y : Type 0} (f : X → Option Y) (xs : List X) (i : ℕ) (x : X) → slice_get xs i ≡ Some x
    → IfSome (f x) (λ y. slice_get (filter_map f xs) (length (filter_map f (take i xs))) ≡ Some y)
placed-at f [] i x at = cc
placed-at {X = X} {Y = Y} f (z ∷ xs) zero x at = subst (λ (w : X). IfSome (f w) (λ (y : Y). slice_get (filter_map f (z ∷ xs)) 0
    ≡ Some y)) (same_Some z x at) (by (f z))
  where
    by : (o : Option Y) → IfSome o (λ (y : Y). slice_get (cons_option o (filter_map f xs)) 0 ≡ Some y)
    by None = tt
    by (Some y) = refl
placed-at {X = X} {Y = Y} f (z ∷ xs) (suc i) x at = by (f z) (placed-at f xs i x at)
  where
    by : (o : Option Y) → IfSome (f x) (λ (y : Y). slice_get (filter_map f xs) (length (filter_map f (take i xs))) ≡ Some y)
        → IfSome (f x) (λ (y : Y). slice_get (cons_option o (filter_map f xs)) (length (cons_option o (filter_map f (take i xs)))) ≡ Some y)
    by None rest = rest
    by (Some y) rest = rest

-- lists that go together, with one item of the first set

module _ {X Y : Type 0} (R : X → Y → Type 0) where
  pub zip-length : (xs : List X) (ys : List Y) → AllZip R xs ys → length xs ≡ length ys
  zip-length [] [] all = refl
  zip-length [] (y ∷ ys) all = absurd all
  zip-length (x ∷ xs) [] all = absurd all
  zip-length (x ∷ xs) (y ∷ ys) all = ap (λ (n : ℕ). suc n) (zip-length xs ys all.1)

  pub zip-set : (xs : List X) (ys : List Y) (i : ℕ) (x : X) (y : Y) → slice_get ys i ≡ Some y → R x y → AllZip R xs ys → AllZip R (set xs i x) ys
  zip-set [] [] i x y at is all = tt
  zip-set [] (z ∷ ys) i x y at is all = absurd all
  zip-set (w ∷ xs) [] i x y at is all = absurd all
  zip-set (w ∷ xs) (z ∷ ys) zero x y at is all = (subst (R x) (sym (same_Some z y at)) is, all.1)
  zip-set (w ∷ xs) (z ∷ ys) (suc i) x y at is all = (all.0, zip-set xs ys i x y at is all.1)

  pub zip-same : (x : X) → ((y : Y) → R x y) → (ys : List Y) → AllZip R (map (λ (y : Y). x) ys) ys
  zip-same x is [] = tt
  zip-same x is (y ∷ ys) = (is y, zip-same x is ys)

module _ {X : Type 0} (P : X → Type 0) where
  pub all-same : {Y : Type 0} (x : X) → P x → (ys : List Y) → AllByRecursion P (map (λ (y : Y). x) ys)
  all-same x is [] = tt
  all-same x is (y ∷ ys) = (is, all-same x is ys)

-- what is found, with one item more after the others

module _ {X : Type 0} (f : X → Bool) where
  find-other : (xs : List X) (x : X) → f x ≡ false → find f (xs ++ x ∷ []) ≡ find f xs
  find-other [] x is = rw is refl
  find-other (y ∷ xs) x is = ap (λ (o : Option X). cond (f y) (Some y) o) (find-other xs x is)

  find-last : (xs : List X) (x : X) → find f xs ≡ None → f x ≡ true → find f (xs ++ x ∷ []) ≡ Some x
  find-last [] x none is = rw is refl
  find-last (y ∷ xs) x none is = by (f y) refl (find-last xs x)
    where
      by : (t : Bool) → f y ≡ t → (find f xs ≡ None → f x ≡ true → find f (xs ++ x ∷ []) ≡ Some x) → find f ((y ∷ xs) ++ x ∷ []) ≡ Some x
      by true e rest = absurd (let clash : Some y ≡ None = rw e at none in cc)
      by false e rest = rw e (rest (rw e at none) is)

  all-at : (xs : List X) (i : ℕ) (x : X) → list_all f xs ≡ true → slice_get xs i ≡ Some x → f x ≡ true
  all-at [] i x all at = cc
  all-at (y ∷ xs) zero x all at = subst (λ (z : X). f z ≡ true) (same_Some y x at) (and_parts (f y) (list_all f xs) all).0
  all-at (y ∷ xs) (suc i) x all at = all-at xs i x (and_parts (f y) (list_all f xs) all).1 at

-- a value more is given, of a name for which none was

module _ (b : Board) (given : List Given) (p : Given) (none : find (λ (q : Given). bytes_eq q.0 p.0) given ≡ None) where
  abbrev found_as : Named → Option Given → board.Slot
  found_as s o = elim o [ None ↦ shown_slot s.1 | Some q ↦ given_to b (shown_slot s.1) q.1 ]

  given-other : (f : InitialValue) (s : Named) → not (bytes_eq s.0 p.0) ≡ true → IsGiven b given f s → IsGiven b (given ++ p ∷ []) f s
  given-other f s other is =
      let differ : bytes_eq p.0 s.0 ≡ false = nat_list_eq_equiv.symm p.0 s.0 ∙ not-true (bytes_eq s.0 p.0) other in
      is ∙ ap (found_as s) (sym (find-other (λ (q : Given). bytes_eq q.0 s.0) given p differ))

  given-here : (f : InitialValue) (s : Named) → s.0 ≡ p.0 → HasValue b p.1 f s.1 → IsGiven b (given ++ p ∷ []) f s
  given-here f s same is =
      let unfound : find (λ (q : Given). bytes_eq q.0 s.0) given ≡ None = subst (λ (name : List ℕ). find (λ (q : Given). bytes_eq q.0 name) given
      ≡ None) (sym same) none in
      let here : bytes_eq p.0 s.0 ≡ true = ap (bytes_eq p.0) same ∙ nat_list_eq_equiv.refl p.0 in
      is ∙ ap (found_as s) (sym (find-last (λ (q : Given). bytes_eq q.0 s.0) given p unfound here))

  zip-others : (fs : List InitialValue) (slots : List Named) → list_all (λ (s : Named). not (bytes_eq s.0 p.0)) slots ≡ true → AllZip (IsGiven b given) fs slots
      → AllZip (IsGiven b (given ++ p ∷ [])) fs slots
  zip-others [] [] others all = tt
  zip-others [] (s ∷ slots) others all = absurd all
  zip-others (f ∷ fs) [] others all = absurd all
  zip-others (f ∷ fs) (s ∷ slots) others all =
      let both = and_parts (not (bytes_eq s.0 p.0)) (list_all (λ (t : Named). not (bytes_eq t.0 p.0)) slots) others in
      (given-other f s both.0 all.0, zip-others fs slots both.1 all.1)

  pub told-set : (fs : List InitialValue) (slots : List Named) (i : ℕ) (f : InitialValue) (s : Named) → are_apart slots ≡ true → slice_get slots i ≡ Some s
      → s.0 ≡ p.0
      → HasValue b p.1 f s.1 → AllZip (IsGiven b given) fs slots → AllZip (IsGiven b (given ++ p ∷ [])) (set fs i f) slots
  told-set [] [] i f s apart at same is all = tt
  told-set [] (t ∷ slots) i f s apart at same is all = absurd all
  told-set (g ∷ fs) [] i f s apart at same is all = absurd all
  told-set (g ∷ fs) (t ∷ slots) zero f s apart at same is all =
      let both = and_parts (list_all (λ (u : Named). not (bytes_eq u.0 t.0)) slots) (are_apart slots) apart in
      let here : t ≡ s = same_Some t s at in
      let name : t.0 ≡ p.0 = ap (λ (u : Named). u.0) here ∙ same in (
        given-here f t name (subst (λ (u : Named). HasValue b p.1 f u.1) (sym here) is),
        zip-others fs slots (subst (λ (n : List ℕ). list_all (λ (u : Named). not (bytes_eq u.0 n)) slots ≡ true) name both.0) all.1,
      )
  told-set (g ∷ fs) (t ∷ slots) (suc i) f s apart at same is all =
      let both = and_parts (list_all (λ (u : Named). not (bytes_eq u.0 t.0)) slots) (are_apart slots) apart in
      let after : not (bytes_eq s.0 t.0) ≡ true = all-at (λ (u : Named). not (bytes_eq u.0 t.0)) slots i s both.0 at in
      let other : not (bytes_eq t.0 p.0) ≡ true = ap not (nat_list_eq_equiv.symm t.0 p.0 ∙ ap (λ (n : List ℕ). bytes_eq n t.0) (sym same)) ∙ after in
      (given-other g t other all.0, told-set fs slots i f s both.1 at same is all.1)

-- of names that rise, none of those before has the name

less-apart : (a k : List ℕ) → is_lt (slice_cmp nat_cmp a k) ≡ true → bytes_eq a k ≡ false
less-apart a k less = sym (is_eq-slice_cmp a k) ∙ by (slice_cmp nat_cmp a k) less
  where
    by : (o : Ordering) → is_lt o ≡ true → is_eq o ≡ false
    by Less e = refl
    by Equal e = cc
    by Greater e = refl

above-none : (given : List Given) (k : List ℕ) → is_above (names_of given) k ≡ true → find (λ (q : Given). bytes_eq q.0 k) given ≡ None
above-none [] k above = refl
above-none (q ∷ given) k above =
    let both = and_parts (is_lt (slice_cmp nat_cmp q.0 k)) (is_above (names_of given) k) above in
    rw (less-apart q.0 k both.0) (above-none given k both.1)

pub none-before : (given : List Given) (i : ℕ) (p : Given) → NamesRise (names_of given) → i < length given → p ≡ get_or given i p
    → find (λ (q : Given). bytes_eq q.0 p.0) (take i given) ≡ None
none-before given i p rise below at =
    let split : given ≡ take i given ++ p ∷ drop (i + 1) given = sym (take-append-drop i given)
    ∙ ap (λ (l : List Given). take i given ++ l) (drop-at given i p below at) in
    let names : names_of given ≡ names_of (take i given) ++ p.0 ∷ names_of (drop (i + 1) given) = ap names_of split
    ∙ map-append (λ (q : Given). q.0) (take i given) (p ∷ drop (i + 1) given) in
    above-none (take i given) p.0 (above_those_before (names_of (take i given)) (names_of (drop (i + 1) given)) p.0 (subst NamesRise names rise))

-- a row more

pub fewer : {X Y : Type 0} (f : X → Option Y) (xs : List X) → length (filter_map f xs) ≤ length xs
fewer f [] = omega arith
fewer {Y = Y} f (x ∷ xs) = by (f x) (fewer f xs)
  where
    by : (o : Option Y) → length (filter_map f xs) ≤ length xs → length (cons_option o (filter_map f xs)) ≤ length (x ∷ xs)
    by None few = omega arith
    by (Some y) few = omega arith

pub count-few : (t : TypeId) (rows : List Property) (i n : ℕ) → n ≡ length (filter_map (slot_begun t) (take i rows)) → rows ≡ slots_of t → n ≤ 9
count-few t rows i n is all =
    let short : length (take i rows) ≤ length rows = omega (arith, length-take i rows) in
    let many : length rows ≡ length (slots_of t) = ap (λ (l : List Property). length l) all in
    omega (arith, is, fewer (slot_begun t) (take i rows), short, many, few-slots t)

module _ (t : TypeId) (rows : List Property) (i : ℕ) (d : Property) (below : i < length rows) where
  abbrev more : List Named
  more = option_to_list (slot_begun t (get_or rows i d))

  abbrev before : List Named
  before = filter_map (slot_begun t) (take i rows)

  at-here : slice_get rows i ≡ Some (get_or rows i d)
  at-here = slice_get-get_or rows i d below

  next-here : filter_map (slot_begun t) (take (i + 1) rows) ≡ before ++ more
  next-here = next-slot (slot_begun t) i rows (get_or rows i d) at-here

  one-more : true ≡ is_some (begun t (get_or rows i d).role) → (s : Named) × (more ≡ s ∷ [])
  one-more own = by (begun t (get_or rows i d).role) own
    where
      by : (o : Option Slot) → true ≡ is_some o
          → (s : Named) × (option_to_list {X = Named} (option_map (λ (x : Slot). (property_name (get_or rows i d).name, x)) o) ≡ s ∷ [])
      by None own = cc
      by (Some x) own = ((property_name (get_or rows i d).name, x), refl)

  none-more : false ≡ is_some (begun t (get_or rows i d).role) → more ≡ []
  none-more own = by (begun t (get_or rows i d).role) own
    where
      by : (o : Option Slot) → false ≡ is_some o → option_to_list {X = Named} (option_map (λ (x : Slot). (property_name (get_or rows i d).name, x)) o) ≡ []
      by None own = refl
      by (Some x) own = cc

  pub blank-own : true ≡ is_some (begun t (get_or rows i d).role) → (fs : List InitialValue) → fs ≡ map (λ (s : Named). fill.Default) before
      → fs ++ fill.Default ∷ [] ≡ map (λ (s : Named). fill.Default) (filter_map (slot_begun t) (take (i + 1) rows))
  blank-own own fs is =
      let (s, one) = one-more own in
      ap (λ (l : List InitialValue). l ++ fill.Default ∷ []) is
      ∙ ap (λ (l : List Named). map (λ (x : Named). fill.Default) before ++ map (λ (x : Named). fill.Default) l) (sym one)
      ∙ sym (map-append (λ (x : Named). fill.Default) before more)
      ∙ ap (map (λ (x : Named). fill.Default)) (sym next-here)

  pub blank-other : false ≡ is_some (begun t (get_or rows i d).role) → (fs : List InitialValue) → fs ≡ map (λ (s : Named). fill.Default) before
      → fs ≡ map (λ (s : Named). fill.Default) (filter_map (slot_begun t) (take (i + 1) rows))
  blank-other own fs is = is ∙ ap (map (λ (x : Named). fill.Default)) (sym (next-here ∙ ap (λ (l : List Named). before ++ l) (none-more own)
      ∙ append-nil before))

  pub count-own : true ≡ is_some (begun t (get_or rows i d).role) → (n : ℕ) → n ≡ length before → n + 1 ≡ length (filter_map (slot_begun t) (take (i + 1) rows))
  count-own own n is =
      let (s, one) = one-more own in
      omega (arith, is, ap (λ (l : List Named). length l) next-here, length-append before more, ap (λ (l : List Named). length l) one)

  pub count-other : false ≡ is_some (begun t (get_or rows i d).role) → (n : ℕ) → n ≡ length before → n ≡ length (filter_map (slot_begun t) (take (i + 1) rows))
  count-other own n is = is ∙ ap (λ (l : List Named). length l) (sym (next-here ∙ ap (λ (l : List Named). before ++ l) (none-more own) ∙ append-nil before))

  pub stands-here : (n : ℕ) → n ≡ length before → rows ≡ slots_of t → StandsAt t (record { row = get_or rows i d; place = n })
  stands-here n is all =
      subst (λ (l : List Property). IfSome (slot_begun t (get_or rows i d)) (λ (s : Named). slice_get (filter_map (slot_begun t) l) n ≡ Some s)) all
      (subst (λ (m : ℕ). IfSome (slot_begun t (get_or rows i d)) (λ (s : Named). slice_get (filter_map (slot_begun t) rows) m ≡ Some s)) (sym is)
      (placed-at (slot_begun t) rows i (get_or rows i d) at-here))

-- the first of a name

module _ {X : Type 0} (p : X → Bool) (xs : List X) (i : ℕ) where
  pub found-here : (d : X) → i < length xs → find p xs ≡ find p (drop i xs) → p (get_or xs i d) ≡ true → find p xs ≡ Some (get_or xs i d)
  found-here d below found is = found ∙ ap (find p) (drop_more xs i d below) ∙ find-here p (get_or xs i d) (drop (i + 1) xs) is

  pub found-later : (d : X) → i < length xs → find p xs ≡ find p (drop i xs) → p (get_or xs i d) ≡ false → find p xs ≡ find p (drop (i + 1) xs)
  found-later d below found is = found ∙ ap (find p) (drop_more xs i d below) ∙ find-later p (get_or xs i d) (drop (i + 1) xs) is

  pub found-none : length xs ≤ i → find p xs ≡ find p (drop i xs) → find p xs ≡ None
  found-none over found = found ∙ ap (find p) (drop_of_length-le xs over)

-- the slot that a fill is for

record Seat (t : TypeId) (p : PlacedRow) : Type 0 where
  slot : Slot
  begins : begun t p.row.role ≡ Some slot
  stands : slice_get (new_slots t) p.place ≡ Some (property_name p.row.name, slot)

seat : (t : TypeId) (p : PlacedRow) → StandsAt t p → is_some (begun t p.row.role) ≡ true → Seat t p
seat t p stands own = go (begun t p.row.role) refl
  where
    go : (o : Option Slot) → begun t p.row.role ≡ o → Seat t p
    go None e = absurd (let clash : false ≡ true = rw e at own in cc)
    go (Some s) e = record { slot = s; begins = e; stands = rw e at stands }

row-name : (t : TypeId) (name : List ℕ) (r : Property) → Some r ≡ property_named t name → property_name r.name ≡ name
row-name t name r is =
    let same : bytes_eq (property_name r.name) name ≡ true = found-passes (λ (p : Property). bytes_eq (property_name p.name) name) (slots_of t) r (sym is) in
    (bytes_eq-Decides (property_name r.name) name).0 same

module _ (t : TypeId) (fs : List InitialValue) (p : PlacedRow) (stands : StandsAt t p) (own : is_some (begun t p.row.role) ≡ true) where
  pub put-within : (R : InitialValue → Named → Type 0) → AllZip R fs (new_slots t) → p.place < length fs
  put-within R all =
      let x : Seat t p = seat t p stands own in
      let low : p.place < length (new_slots t) = slice_get_within (new_slots t) p.place (property_name p.row.name, x.slot) x.stands in
      omega (arith, low, zip-length R fs (new_slots t) all)

  pub put-fits : (f : InitialValue) → IfSome (begun t p.row.role) (λ s. fits f s ≡ true) → AllZip Fits fs (new_slots t)
      → AllZip Fits (set fs p.place f) (new_slots t)
  put-fits f fit all =
      let x : Seat t p = seat t p stands own in
      zip-set Fits fs (new_slots t) p.place f (property_name p.row.name, x.slot) x.stands (rw x.begins at fit) all

  pub put-told : (b : Board) (given : List Given) (q : Given) → find (λ (g : Given). bytes_eq g.0 q.0) given ≡ None → Some p.row ≡ property_named t q.0
      → (f : InitialValue) → IfSome (begun t p.row.role) (HasValue b q.1 f) → AllZip (IsGiven b given) fs (new_slots t)
      → AllZip (IsGiven b (given ++ q ∷ [])) (set fs p.place f) (new_slots t)
  put-told b given q none is f told all =
      let x : Seat t p = seat t p stands own in
      told-set b given q none fs (new_slots t) p.place f (property_name p.row.name, x.slot) (new-apart t) x.stands (row-name t q.0 p.row is)
      (rw x.begins at told) all

-- what is told of a refusal

pub told-done : {T : Type 0} (r : Result T Refusal) (x : T) (o : Option Code) → r ≡ Ok x → TellsRefusal r o → None ≡ o
told-done {T = T} r x o is told = sym (subst (λ (y : Result T Refusal). TellsRefusal y o) is told)

pub told-refused : {T : Type 0} (r : Result T Refusal) (code : Code) (o : Option Code) → r ≡ Err (Refused code) → TellsRefusal r o → Some code ≡ o
told-refused {T = T} r code o is told = sym (subst (λ (y : Result T Refusal). TellsRefusal y o) is told)
