-- The properties of an object, put among members in byte order.
use Rattle.std.proofs.Common.{◌≡◌, ℕ, zero, suc, ◌+◌, ◌<◌, ◌≤◌, Bool, true, false, cond, List, [], ◌∷◌, ◌++◌, get_or, length, map, take, refl, sym, ap, ◌∙◌, append-nil, arith}
use Rattle.std.proofs.lemmas.List.{length-map, take_all}
use Rattle.std.proofs.Common.{Option, None, Some, option_map, subst}
use Rattle.std.specs.Prelude.{filter_map, find, option_and_then, slice_get}
use Rattle.std.specs.Cmp.Lexicographic.{slice_cmp}
use Rattle.std.specs.List.{AllByRecursion, cons_option}
use Rattle.std.specs.Option.{option_map_or}
use Rattle.std.specs.Ordering.{nat_cmp}
use Rattle.std.specs.Str.{bytes_eq}
use Rattle.std.proofs.Common.{Greater}
use Rattle.serde_json.specs.Data.{Data, Members, member, put}
use Rattle.qo_values.specs.PlainValues.{data_of}
use Rattle.qo_values.specs.declared.properties.Val.{Val}
use Rattle.qo_values.specs.declared.properties.Val.TheVariants as val
use Rattle.qo_object.specs.BoardObject.{shown_slot}
use Rattle.qo_object.specs.Slots.{Named}
use Rattle.qo_heap.specs.Board.{Shows}
use Rattle.qo_heap.specs.Objects.{Objects, slots_of}
use Rattle.qo_heap.proofs.BoardReads.{shows-slot_named}
use Rattle.qo_model.specs.Board.{Board, Slot, slot_named}
use Rattle.qo_model.specs.Objects.{Given}
use Rattle.qo_model.specs.RowNames.{property_name}
use Rattle.qo_model.specs.declared.properties.PropertyName.{PropertyName}
use Rattle.qo_save.specs.Described.{given_in, prop_under, props_under}
use Rattle.qo_save.specs.Description.{props_members}
use Rattle.qo_describe.specs.Given.{given_names, left_out, with_prop}
use Rattle.qo_describe.specs.declared.given.Owner.{Owner}
use Rattle.qo_describe.specs.declared.given.Owner.TheVariants.{Device, Object}

some-is : {A : Type 0} {x y : A} → Some x ≡ Some y → x ≡ y
some-is h = cc

none-some : {A : Type 0} {y : A} → None ≡ Some y → ⊥
none-some h = cc

-- what a property has of what was given; nothing where it is not there
abbrev pub given_at : Board → ℕ → List ℕ → Val
given_at b n name = option_map_or (given_in b) (slot_named b n name) val.Nothing

pub given-some : (b : Board) (v : Objects) → Shows b v → (n : ℕ) (name : List ℕ) (t : Named) (given : Val)
    → Some t ≡ find (λ (u : Named). bytes_eq name u.0) (slots_of v n) → given ≡ given_in b (shown_slot t.1) → given ≡ given_at b n name
given-some b v s n name t given found is =
    is ∙ sym (ap (λ (o : Option Slot). option_map_or (given_in b) o val.Nothing) (shows-slot_named b v s n name
    ∙ ap (λ (o : Option Named). option_map shown_slot (option_map (λ (u : Named). u.1) o)) (sym found)))

pub given-none : (b : Board) (v : Objects) → Shows b v → (n : ℕ) (name : List ℕ)
    → None ≡ find (λ (u : Named). bytes_eq name u.0) (slots_of v n) → val.Nothing ≡ given_at b n name
given-none b v s n name found =
    sym (ap (λ (o : Option Slot). option_map_or (given_in b) o val.Nothing) (shows-slot_named b v s n name
    ∙ ap (λ (o : Option Named). option_map shown_slot (option_map (λ (u : Named). u.1) o)) (sym found)))

-- no value says nothing
nothing-left : (o : Owner) → left_out o val.Nothing ≡ true
nothing-left Device = refl
nothing-left Object = refl

-- a property by its value
prop-by : (b : Board) (o : Owner) (n : ℕ) (name : List ℕ)
    → prop_under b (left_out o) n name ≡ cond (left_out o (given_at b n name)) None (Some (name, given_at b n name))
prop-by b o n name = go (slot_named b n name)
  where
    go : (found : Option Slot)
        → option_and_then {U = Given} (λ (s : Slot). cond (left_out o (given_in b s)) None (Some (name, given_in b s))) found
        ≡ cond (left_out o (option_map_or (given_in b) found val.Nothing)) None (Some (name, option_map_or (given_in b) found val.Nothing))
    go None = rw (nothing-left o) refl
    go (Some s) = refl

pub left-alone : (b : Board) (o : Owner) (n : ℕ) (name : List ℕ) (given : Val) (ms : Members) → given ≡ given_at b n name → left_out o given ≡ true
    → ms ≡ with_prop (prop_under b (left_out o) n name) ms
left-alone b o n name given ms is left =
    sym (ap (λ (p : Option Given). with_prop p ms) (prop-by b o n name ∙ ap (λ (t : Bool). cond t None (Some (name, given_at b n name)))
    (ap (left_out o) (sym is) ∙ left)))

pub put-given : (b : Board) (o : Owner) (n : ℕ) (name : List ℕ) (given : Val) (ms : Members) → given ≡ given_at b n name → left_out o given ≡ false
    → put name (data_of given) ms ≡ with_prop (prop_under b (left_out o) n name) ms
put-given b o n name given ms is stays =
    ap (λ (v : Val). put name (data_of v) ms) is
    ∙ sym (ap (λ (p : Option Given). with_prop p ms) (prop-by b o n name ∙ ap (λ (t : Bool). cond t None (Some (name, given_at b n name)))
    (ap (left_out o) (sym is) ∙ stays)))

-- a name that comes after those of properties
abbrev Below : List ℕ → List Given → Type 0
Below name props = AllByRecursion (λ (p : Given). slice_cmp nat_cmp name p.0 ≡ Greater) props

put-last : (p : Given) (props : List Given) → Below p.0 props → put p.0 (data_of p.1) (props_members props) ≡ props_members (props ++ p ∷ [])
put-last p [] below = refl
put-last p (q ∷ props) below = rw below.0 (ap (member q.0 (data_of q.1)) (put-last p props below.1))

-- so it is with names, of which some say nothing
abbrev After : List ℕ → List (List ℕ) → Type 0
After name names = AllByRecursion (λ (other : List ℕ). slice_cmp nat_cmp name other ≡ Greater) names

below-after : (b : Board) (o : Owner) (n : ℕ) (name : List ℕ) (names : List (List ℕ)) → After name names → Below name (props_under b (left_out o) names n)
below-after b o n name [] after = tt
below-after b o n name (other ∷ names) after =
    subst (λ (p : Option Given). Below name (cons_option p (props_under b (left_out o) names n))) (sym (prop-by b o n other))
    (go (left_out o (given_at b n other)) (below-after b o n name names after.1))
  where
    go : (t : Bool) → Below name (props_under b (left_out o) names n)
        → Below name (cons_option (cond t None (Some (other, given_at b n other))) (props_under b (left_out o) names n))
    go true rest = rest
    go false rest = (after.0, rest)

filtered : {X Y : Type 0} (f : X → Option Y) (xs : List X) (x : X) → filter_map f (xs ++ x ∷ []) ≡ filter_map f xs ++ filter_map f (x ∷ [])
filtered f [] x = refl
filtered {X} {Y} f (y ∷ xs) x = go (f y) (filtered f xs x)
  where
    go : (o : Option Y) → filter_map f (xs ++ x ∷ []) ≡ filter_map f xs ++ filter_map f (x ∷ [])
        → cons_option o (filter_map f (xs ++ x ∷ [])) ≡ cons_option o (filter_map f xs) ++ filter_map f (x ∷ [])
    go None rest = rest
    go (Some z) rest = ap (λ (l : List Y). z ∷ l) rest

-- a property more
with-more : (b : Board) (o : Owner) (n : ℕ) (name : List ℕ) (names : List (List ℕ)) → After name names
    → with_prop (prop_under b (left_out o) n name) (props_members (props_under b (left_out o) names n))
    ≡ props_members (props_under b (left_out o) (names ++ name ∷ []) n)
with-more b o n name names after =
    go (prop_under b (left_out o) n name) (prop-by b o n name)
    ∙ ap props_members (sym (filtered (prop_under b (left_out o) n) names name))
  where
    below : Below name (props_under b (left_out o) names n)
    below = below-after b o n name names after

    same : (t : Bool) (p : Option Given) → p ≡ cond t None (Some (name, given_at b n name))
        → with_prop p (props_members (props_under b (left_out o) names n)) ≡ props_members (props_under b (left_out o) names n ++ cons_option p [])
    same true p is =
        rw is (ap props_members (sym (append-nil (props_under b (left_out o) names n))))
    same false p is = rw is (put-last (name, given_at b n name) (props_under b (left_out o) names n) below)

    go : (p : Option Given) → p ≡ cond (left_out o (given_at b n name)) None (Some (name, given_at b n name))
        → with_prop p (props_members (props_under b (left_out o) names n)) ≡ props_members (props_under b (left_out o) names n ++ cons_option p [])
    go p is = same (left_out o (given_at b n name)) p is

-- each name comes after those before it
after-taken : (o : Owner) (i : ℕ) (name : List ℕ) → slice_get (given_names o) i ≡ Some name → After name (take i (given_names o))
after-taken Device zero name is = tt
after-taken Device (suc zero) name is = subst (λ (x : List ℕ). After x (take 1 (given_names Device))) (some-is is) (refl, tt)
after-taken Device (suc (suc zero)) name is = subst (λ (x : List ℕ). After x (take 2 (given_names Device))) (some-is is) (refl, (refl, tt))
after-taken Device (suc (suc (suc i))) name is = absurd (none-some is)
after-taken Object zero name is = tt
after-taken Object (suc zero) name is = subst (λ (x : List ℕ). After x (take 1 (given_names Object))) (some-is is) (refl, tt)
after-taken Object (suc (suc zero)) name is = subst (λ (x : List ℕ). After x (take 2 (given_names Object))) (some-is is) (refl, (refl, tt))
after-taken Object (suc (suc (suc zero))) name is = subst (λ (x : List ℕ). After x (take 3 (given_names Object))) (some-is is) (refl, (refl, (refl, tt)))
after-taken Object (suc (suc (suc (suc i)))) name is = absurd (none-some is)

take-more : {X : Type 0} (i : ℕ) (xs : List X) (x : X) → slice_get xs i ≡ Some x → take (i + 1) xs ≡ take i xs ++ x ∷ []
take-more i [] x is = absurd (none-some is)
take-more zero (y ∷ xs) x is = ap (λ z. z ∷ []) (some-is is)
take-more (suc i) (y ∷ xs) x is =
    let one : suc i + 1 ≡ suc (i + 1) = omega arith in
    ap (λ k. take k (y ∷ xs)) one ∙ ap (λ l. y ∷ l) (take-more i xs x is)

pub next-prop : (b : Board) (o : Owner) (n i : ℕ) (name : List ℕ) (before now : Members) → slice_get (given_names o) i ≡ Some name
    → before ≡ props_members (props_under b (left_out o) (take i (given_names o)) n) → now ≡ with_prop (prop_under b (left_out o) n name) before
    → now ≡ props_members (props_under b (left_out o) (take (i + 1) (given_names o)) n)
next-prop b o n i name before now is so more =
    more ∙ ap (with_prop (prop_under b (left_out o) n name)) so ∙ with-more b o n name (take i (given_names o)) (after-taken o i name is)
    ∙ ap (λ (names : List (List ℕ)). props_members (props_under b (left_out o) names n)) (sym (take-more i (given_names o) name is))

-- the name at a place, of the names in code
at-place : {X : Type 0} (xs : List X) (i : ℕ) (d : X) → i < length xs → slice_get xs i ≡ Some (get_or xs i d)
at-place [] i d within = absurd (omega (arith, within))
at-place (x ∷ xs) zero d within = refl
at-place (x ∷ xs) (suc i) d within = at-place xs i d (omega (arith, within))

mapped-at : {X Y : Type 0} (f : X → Y) (xs : List X) (i : ℕ) (x : X) → slice_get xs i ≡ Some x → slice_get (map f xs) i ≡ Some (f x)
mapped-at f [] i x is = absurd (none-some is)
mapped-at f (y ∷ xs) zero x is = ap (λ z. Some (f z)) (some-is is)
mapped-at f (y ∷ xs) (suc i) x is = mapped-at f xs i x is

pub name-at : (o : Owner) (names : List PropertyName) (i : ℕ) (d : PropertyName) → i < length names → map property_name names ≡ given_names o
    → slice_get (given_names o) i ≡ Some (property_name (get_or names i d))
name-at o names i d within same =
    ap (λ (l : List (List ℕ)). slice_get l i) (sym same) ∙ mapped-at property_name names i (get_or names i d) (at-place names i d within)

pub props-all : (b : Board) (o : Owner) (n : ℕ) (names : List PropertyName) (i : ℕ) → length names ≤ i → map property_name names ≡ given_names o
    → props_members (props_under b (left_out o) (take i (given_names o)) n) ≡ props_members (props_under b (left_out o) (given_names o) n)
props-all b o n names i last same =
    let many : length (given_names o) ≤ i = omega (arith, sym (ap (λ (l : List (List ℕ)). length l) same) ∙ length-map names property_name, last) in
    ap (λ (l : List (List ℕ)). props_members (props_under b (left_out o) l n)) (take_all i (given_names o) many)

-- a property that is put, as it is told
pub put-told : (b : Board) (o : Owner) (n : ℕ) (name : List ℕ) (given : Val) (ms next : Members) (key : List ℕ) (d : Data) → next ≡ put key d ms → key ≡ name
    → d ≡ data_of given → given ≡ given_at b n name → left_out o given ≡ false → next ≡ with_prop (prop_under b (left_out o) n name) ms
put-told b o n name given ms next key d is same told so stays =
    is ∙ ap (λ (k : List ℕ). put k d ms) same ∙ ap (λ (x : Data). put name x ms) told ∙ put-given b o n name given ms so stays
