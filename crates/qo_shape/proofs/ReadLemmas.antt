-- What is read where a part is none, and the values of members in their order.
use Rattle.std.proofs.Common.{◌≡◌, ℕ, zero, suc, ◌+◌, ◌<◌, ◌≤◌, ◌==◌, Bool, true, false, cond, List, [], ◌∷◌, ◌++◌, get_or, length, map, refl, sym, ap, ◌∙◌, subst, append_assoc, append-nil, arith}
use Rattle.std.proofs.Math.Dec.{eqb-suc-zero}
use Rattle.std.proofs.lemmas.List.{map-append}
use Rattle.std.proofs.Common.{Option, None, Some, is_some, option_map, Result, Err}
use Rattle.std.specs.Prelude.{option_and_then, slice_get}
use Rattle.std.specs.Str.{bytes_eq}
use Rattle.serde_json.specs.Data.{Data, Items, Members, no_members, member, array, object}
use Rattle.serde_json.specs.Find.{as_array, as_object}
use Rattle.qo_json.proofs.MemberLemmas.{Member}
use Rattle.qo_json.specs.Order.{AreOrdered, HaveOrder, IsOrdered, NamesRise, names_of}
use Rattle.qo_json.specs.View.{items_view, members_view, view}
use Rattle.qo_json.specs.declared.values.Json.{Json}
use Rattle.qo_values.specs.declared.properties.Val.{Val}
use Rattle.qo_save.specs.Shape.{all_of, also, list_in, props_in, props_of, values_in, values_of}
use Rattle.qo_shape.specs.Reads.{Reads}
use Rattle.qo_shape.specs.declared.errors.ShapeError.{ShapeError}
use Rattle.qo_shape.specs.declared.errors.ShapeError.TheVariants.{Memory, Shape}

-- a property with its value
abbrev pub Given : Type 0
Given = List ℕ × Val

pub some-is : {A : Type 0} {x y : A} → Some x ≡ Some y → x ≡ y
some-is h = cc

-- where a part is none, so is the whole; and where memory ran out for it
pub reads-err : {X Y A B : Type 0} (said : X → Y) (own : A → B) (r : Result X ShapeError) (e : ShapeError) (o : Option B) (d : Option Y)
    → r ≡ Err e → Reads own (Err e) o → (o ≡ None → d ≡ None) → Reads said r d
reads-err {X} {Y} {A} {B} said own r e o d is fails then = subst (λ (x : Result X ShapeError). Reads said x d) (sym is) (go e fails)
  where
    go : (w : ShapeError) → Reads own (Err w) o → Reads said (Err w) d
    go Shape none = then none
    go Memory t = tt

-- where memory ran out nothing is said
pub reads-memory : {X Y : Type 0} (said : X → Y) (r : Result X ShapeError) (d : Option Y) → r ≡ Err Memory → Reads said r d
reads-memory {X} {Y} said r d is = subst (λ (x : Result X ShapeError). Reads said x d) (sym is) tt

-- what is defined may be said in other words
pub reads-as : {X Y : Type 0} (said : X → Y) (r : Result X ShapeError) (d e : Option Y) → d ≡ e → Reads said r e → Reads said r d
reads-as said r d e same is = rw same is

-- nothing is had of a part that is none
pub also-none : {A B : Type 0} (f : Option (A → B)) → also f None ≡ None
also-none None = refl
also-none (Some f) = refl

-- the values of members under names
abbrev pub values : List Member → List Data
values ms = map (λ (m : Member). view m.1) ms

some-map : {A B : Type 0} (f : A → B) (o : Option A) → is_some (option_map f o) ≡ is_some o
some-map f None = refl
some-map f (Some x) = refl

-- a member more, under its name and under another one
pub named-next : (name : List ℕ) (names : List (List ℕ)) (m : Member) (ms : List Member) → bytes_eq name m.0.now ≡ true
    → is_some (values_of (name ∷ names) (members_view (m ∷ ms))) ≡ is_some (values_of names (members_view ms))
named-next name names m ms same =
    ap (λ (t : Bool). is_some (cond t (option_map (λ (ds : List Data). view m.1 ∷ ds) (values_of names (members_view ms))) None)) same
    ∙ some-map (λ (ds : List Data). view m.1 ∷ ds) (values_of names (members_view ms))

pub named-other : (name : List ℕ) (names : List (List ℕ)) (m : Member) (ms : List Member) → bytes_eq name m.0.now ≡ false
    → is_some (values_of (name ∷ names) (members_view (m ∷ ms))) ≡ false
named-other name names m ms other =
    ap (λ (t : Bool). is_some (cond t (option_map (λ (ds : List Data). view m.1 ∷ ds) (values_of names (members_view ms))) None)) other

-- as many members as names
pub many-same : (names : List (List ℕ)) (ms : List Member) → is_some (values_of names (members_view ms)) ≡ true → length ms ≡ length names
many-same [] [] is = refl
many-same [] (m ∷ ms) is = absurd (let clash : false ≡ true = is in cc)
many-same (name ∷ names) [] is = absurd (let clash : false ≡ true = is in cc)
many-same (name ∷ names) (m ∷ ms) is = go (bytes_eq name m.0.now) (λ some. many-same names ms some) is
  where
    go : (t : Bool) → (is_some (values_of names (members_view ms)) ≡ true → length ms ≡ length names)
        → is_some (cond t (option_map (λ (ds : List Data). view m.1 ∷ ds) (values_of names (members_view ms))) None) ≡ true
        → suc (length ms) ≡ suc (length names)
    go true rest some = ap suc (rest (sym (some-map (λ (ds : List Data). view m.1 ∷ ds) (values_of names (members_view ms))) ∙ some))
    go false rest clash = absurd (let no : false ≡ true = clash in cc)

-- where there is no member, and where there is no name
pub no-members : (names : List (List ℕ)) (t : Bool) → t ≡ (length names == 0) → t ≡ is_some (values_of names (members_view []))
no-members [] t is = is
no-members (name ∷ names) t is = is ∙ eqb-suc-zero (length names)

pub none-left : (names : List (List ℕ)) (ms : List Member) (t : Bool) → length ms ≡ 0 → t ≡ (length names == 0) → t ≡ is_some (values_of names (members_view ms))
none-left names [] t none is = no-members names t is
none-left names (m ∷ ms) t none is = absurd (omega (arith, none))

pub no-names : (m : Member) (ms : List Member) → false ≡ is_some (values_of [] (members_view (m ∷ ms)))
no-names m ms = refl

-- those of such members are their values
pub values-are : (names : List (List ℕ)) (ms : List Member) → is_some (values_of names (members_view ms)) ≡ true
    → values_of names (members_view ms) ≡ Some (values ms)
values-are [] [] is = refl
values-are [] (m ∷ ms) is = absurd (let clash : false ≡ true = is in cc)
values-are (name ∷ names) [] is = absurd (let clash : false ≡ true = is in cc)
values-are (name ∷ names) (m ∷ ms) is = go (bytes_eq name m.0.now) (λ some. values-are names ms some) is
  where
    go : (t : Bool) → (is_some (values_of names (members_view ms)) ≡ true → values_of names (members_view ms) ≡ Some (values ms))
        → is_some (cond t (option_map (λ (ds : List Data). view m.1 ∷ ds) (values_of names (members_view ms))) None) ≡ true
        → cond t (option_map (λ (ds : List Data). view m.1 ∷ ds) (values_of names (members_view ms))) None ≡ Some (values (m ∷ ms))
    go true rest some =
        ap (option_map (λ (ds : List Data). view m.1 ∷ ds))
        (rest (sym (some-map (λ (ds : List Data). view m.1 ∷ ds) (values_of names (members_view ms))) ∙ some))
    go false rest clash = absurd (let no : false ≡ true = clash in cc)

none-of : {A : Type 0} (o : Option A) → is_some o ≡ false → o ≡ None
none-of None is = refl
none-of (Some x) is = absurd (let clash : true ≡ false = is in cc)

pub values-found : (names : List (List ℕ)) (d : Data) (ms : List Member) → Some (members_view ms) ≡ as_object d
    → is_some (values_of names (members_view ms)) ≡ true → values_in names d ≡ Some (values ms)
values-found names d ms is some = ap (option_and_then (values_of names)) (sym is) ∙ values-are names ms some

pub values-else : (names : List (List ℕ)) (d : Data) (ms : List Member) → Some (members_view ms) ≡ as_object d
    → is_some (values_of names (members_view ms)) ≡ false → values_in names d ≡ None
values-else names d ms is none = ap (option_and_then (values_of names)) (sym is) ∙ none-of (values_of names (members_view ms)) none

pub values-none : (names : List (List ℕ)) (d : Data) → None ≡ as_object d → values_in names d ≡ None
values-none names d is = ap (option_and_then (values_of names)) (sym is)

-- so many values, each at its place
pub two-are : (ds : List Data) (a b : Data) → length ds ≡ 2 → slice_get ds 0 ≡ Some a → slice_get ds 1 ≡ Some b → ds ≡ a ∷ b ∷ []
two-are [] a b len p q = absurd (omega (arith, len))
two-are (x ∷ []) a b len p q = absurd (omega (arith, len))
two-are (x ∷ y ∷ []) a b len p q = rw (some-is p, some-is q) refl
two-are (x ∷ y ∷ z ∷ ds) a b len p q = absurd (omega (arith, len))

pub three-are : (ds : List Data) (a b c : Data) → length ds ≡ 3 → slice_get ds 0 ≡ Some a → slice_get ds 1 ≡ Some b → slice_get ds 2 ≡ Some c
    → ds ≡ a ∷ b ∷ c ∷ []
three-are [] a b c len p q r = absurd (omega (arith, len))
three-are (x ∷ ds) a b c len p q r =
    let less : length ds ≡ 2 = omega (arith, len) in
    rw (some-is p) (ap (λ l. a ∷ l) (two-are ds b c less q r))

pub five-are : (ds : List Data) (a b c d e : Data) → length ds ≡ 5 → slice_get ds 0 ≡ Some a → slice_get ds 1 ≡ Some b → slice_get ds 2 ≡ Some c
    → slice_get ds 3 ≡ Some d → slice_get ds 4 ≡ Some e → ds ≡ a ∷ b ∷ c ∷ d ∷ e ∷ []
five-are [] a b c d e len p q r s t = absurd (omega (arith, len))
five-are (x ∷ []) a b c d e len p q r s t = absurd (omega (arith, len))
five-are (x ∷ y ∷ ds) a b c d e len p q r s t =
    let less : length ds ≡ 3 = omega (arith, len) in
    rw (some-is p, some-is q) (ap (λ l. a ∷ b ∷ l) (three-are ds c d e less r s t))

pub seven-are : (ds : List Data) (a b c d e f g : Data) → length ds ≡ 7 → slice_get ds 0 ≡ Some a → slice_get ds 1 ≡ Some b → slice_get ds 2 ≡ Some c
    → slice_get ds 3 ≡ Some d → slice_get ds 4 ≡ Some e → slice_get ds 5 ≡ Some f → slice_get ds 6 ≡ Some g → ds ≡ a ∷ b ∷ c ∷ d ∷ e ∷ f ∷ g ∷ []
seven-are [] a b c d e f g len p q r s t u v = absurd (omega (arith, len))
seven-are (x ∷ []) a b c d e f g len p q r s t u v = absurd (omega (arith, len))
seven-are (x ∷ y ∷ ds) a b c d e f g len p q r s t u v =
    let less : length ds ≡ 5 = omega (arith, len) in
    rw (some-is p, some-is q) (ap (λ l. a ∷ b ∷ l) (five-are ds c d e f g less r s t u v))

-- what stands in order has values in order
ordered-of : (names : List (List ℕ)) (ms : Members) (ds : List Data) (i : ℕ) (x : Data) → HaveOrder ms → values_of names ms ≡ Some ds → slice_get ds i ≡ Some x
    → IsOrdered x
ordered-of [] no_members ds i x order is at =
    absurd (let nothing : None ≡ Some x = subst (λ (l : List Data). slice_get l i ≡ Some x) (sym (some-is is)) at in cc)
ordered-of [] (member k d ms) ds i x order is at = absurd (let clash : None ≡ Some ds = is in cc)
ordered-of (name ∷ names) no_members ds i x order is at = absurd (let clash : None ≡ Some ds = is in cc)
ordered-of (name ∷ names) (member k d ms) ds i x order is at =
    go (bytes_eq name k) (values_of names ms) refl (λ rest j so later. ordered-of names ms rest j x order.1 so later) is
  where
    at-place : ((rest : List Data) (j : ℕ) → values_of names ms ≡ Some rest → slice_get rest j ≡ Some x → IsOrdered x) → (rest : List Data)
        → values_of names ms ≡ Some rest → (j : ℕ) → slice_get (d ∷ rest) j ≡ Some x → IsOrdered x
    at-place others rest so zero here = subst IsOrdered (some-is here) order.0
    at-place others rest so (suc j) later = others rest j so later

    go : (t : Bool) (o : Option (List Data)) → values_of names ms ≡ o
        → ((rest : List Data) (j : ℕ) → values_of names ms ≡ Some rest → slice_get rest j ≡ Some x → IsOrdered x)
        → cond t (option_map (λ (l : List Data). d ∷ l) o) None ≡ Some ds → IsOrdered x
    go true (Some rest) so others this = at-place others rest so i (subst (λ (l : List Data). slice_get l i ≡ Some x) (sym (some-is this)) at)
    go true None so others clash = absurd (let no : None ≡ Some ds = clash in cc)
    go false o so others clash = absurd (let no : None ≡ Some ds = clash in cc)

pub ordered-at : (names : List (List ℕ)) (d : Data) (ds : List Data) (i : ℕ) (x : Data) → IsOrdered d → values_in names d ≡ Some ds → slice_get ds i ≡ Some x
    → IsOrdered x
ordered-at names d ds i x order is at = go d order is
  where
    go : (e : Data) → IsOrdered e → values_in names e ≡ Some ds → IsOrdered x
    go (object ms) o so = ordered-of names ms ds i x o.1 so at
    go e o clash = absurd (let no : None ≡ Some ds = clash in cc)

-- lists, item by item
module _ {X Y : Type 0} (said : X → Y) (f : Data → Option Y) where
  -- those read, and after them those left
  abbrev pub Left : Items → List X → List Json → Type 0
  Left all found left = all_of f all ≡ option_map (λ (ys : List Y). map said found ++ ys) (all_of f (items_view left))

  pub left-first : (js : List Json) → Left (items_view js) [] js
  left-first js = go (all_of f (items_view js))
    where
      go : (o : Option (List Y)) → o ≡ option_map (λ (ys : List Y). ys) o
      go None = refl
      go (Some ys) = refl

  pub left-next : (all : Items) (found : List X) (j : Json) (js : List Json) (x : X) → Left all found (j ∷ js) → f (view j) ≡ Some (said x)
      → Left all (found ++ x ∷ []) js
  left-next all found j js x was is =
      was ∙ ap (λ (o : Option Y). option_map (λ (ys : List Y). map said found ++ ys) (also (option_map (λ y ys. y ∷ ys) o) (all_of f (items_view js)))) is
      ∙ go (all_of f (items_view js))
    where
      go : (o : Option (List Y)) → option_map (λ (ys : List Y). map said found ++ ys) (option_map (λ (ys : List Y). said x ∷ ys) o)
          ≡ option_map (λ (ys : List Y). map said (found ++ x ∷ []) ++ ys) o
      go None = refl
      go (Some ys) = ap Some (sym (append_assoc (map said found) (said x ∷ []) ys) ∙ ap (λ l. l ++ ys) (sym (map-append said found (x ∷ []))))

  pub left-none : (all : Items) (found : List X) (j : Json) (js : List Json) → Left all found (j ∷ js) → f (view j) ≡ None → all_of f all ≡ None
  left-none all found j js was none =
      was ∙ ap (λ (o : Option Y). option_map (λ (ys : List Y). map said found ++ ys) (also (option_map (λ y ys. y ∷ ys) o) (all_of f (items_view js)))) none

  pub left-last : (all : Items) (found : List X) → Left all found [] → all_of f all ≡ Some (map said found)
  left-last all found was = was ∙ ap Some (append-nil (map said found))

  pub listed : (d : Data) (all : Items) (o : Option (List Y)) → as_array d ≡ Some all → all_of f all ≡ o → list_in f d ≡ o
  listed d all o is so = ap (option_and_then (all_of f)) is ∙ so

  pub unlisted : (d : Data) → as_array d ≡ None → list_in f d ≡ None
  unlisted d is = ap (option_and_then (all_of f)) is

-- an item of what stands in order stands in order
pub item-ordered : (d : Data) (js : List Json) (i : ℕ) (j : Json) → IsOrdered d → as_array d ≡ Some (items_view js) → slice_get js i ≡ Some j
    → IsOrdered (view j)
item-ordered d js i j order is at = go d order is
  where
    each : (ks : List Json) (k : ℕ) → AreOrdered (items_view ks) → slice_get ks k ≡ Some j → IsOrdered (view j)
    each [] k o here = absurd (let clash : None ≡ Some j = here in cc)
    each (x ∷ ks) zero o here = subst (λ (y : Json). IsOrdered (view y)) (some-is here) o.0
    each (x ∷ ks) (suc k) o later = each ks k o.1 later

    go : (e : Data) → IsOrdered e → as_array e ≡ Some (items_view js) → IsOrdered (view j)
    go (array ds) o so = each js i (subst AreOrdered (some-is so) o) at
    go e o clash = absurd (let no : None ≡ Some (items_view js) = clash in cc)

-- the members of an object in order have names that rise
pub members-rise : (d : Data) (ms : List Member) → IsOrdered d → Some (members_view ms) ≡ as_object d → NamesRise (names_of (members_view ms))
members-rise d ms order is = go d order is
  where
    go : (e : Data) → IsOrdered e → Some (members_view ms) ≡ as_object e → NamesRise (names_of (members_view ms))
    go (object own) o so = subst (λ (x : Members). NamesRise (names_of x)) (sym (some-is so)) o.0
    go e o clash = absurd (let no : Some (members_view ms) ≡ None = clash in cc)

-- properties are those of its members
pub props-within : (d : Data) (ms : List Member) (r : Result (List Given) ShapeError) → Some (members_view ms) ≡ as_object d
    → Reads (λ (ps : List Given). ps) r (props_of (members_view ms)) → Reads (λ (ps : List Given). ps) r (props_in d)
props-within d ms r is reads =
    subst (λ (o : Option (List Given)). Reads (λ (ps : List Given). ps) r o) (ap (option_and_then props_of) is) reads

pub props-without : (d : Data) → None ≡ as_object d → props_in d ≡ None
props-without d is = sym (ap (option_and_then props_of) is)

-- an item at its place
pub item-at : {X : Type 0} (xs : List X) (i : ℕ) (x : X) → i < length xs → x ≡ get_or xs i x → slice_get xs i ≡ Some x
item-at [] i x within is = absurd (omega (arith, within))
item-at (y ∷ xs) zero x within is = ap Some (sym is)
item-at (y ∷ xs) (suc i) x within is = item-at xs i x (omega (arith, within)) is
