-- Values that are put at the end of a list, and values by what they are told of.
use Rattle.std.proofs.Common.{◌≡◌, ℕ, Bool, true, false, cond, ◌&&◌, ◌==◌, List, [], ◌∷◌, ◌++◌, length, map, refl, sym, ap, ◌∙◌, subst}
use Rattle.std.proofs.Common.{Option, None, Some, is_some, option_map, IfSome}
use Rattle.std.proofs.lemmas.List.{length-map, map-append}
use Rattle.std.specs.Prelude.{option_and_then}
use Rattle.std.specs.Option.{option_map_or}
use Rattle.serde_json.specs.Data.{Data}
use Rattle.serde_json.specs.View.{view}
use Rattle.serde_json.specs.declared.value.Value.{Value}
use Rattle.qo_values.specs.declared.kinds.TypeId.{TypeId}
use Rattle.qo_values.specs.declared.properties.Val.TheVariants as val
use Rattle.qo_slots.specs.declared.keys.Key.{Key}
use Rattle.qo_object.specs.declared.slots.Slot.{Slot}
use Rattle.qo_object.specs.declared.slots.Slot.TheVariants.{Plain, Child, Link, Alias}
use Rattle.qo_object.specs.BoardObject.{birth_of, shown_slot}
use Rattle.qo_object.specs.Content.{Content}
use Rattle.qo_object.specs.Slots.{target_of}
use Rattle.qo_heap.specs.Board.{Shows}
use Rattle.qo_heap.specs.Objects.{Objects, content_of}
use Rattle.qo_heap.proofs.BoardReads.{shows-kind}
use Rattle.qo_model.specs.Board as board
use Rattle.qo_model.specs.Detachment.{detached_listed, detached_row}
use Rattle.qo_model.specs.Objects.{detached}
use Rattle.qo_model.specs.Properties.{may_set, property_named, target_text}
use Rattle.qo_model.specs.declared.properties.Property.{Property}
use Rattle.qo_model.specs.Paths.{children_of}
use Rattle.qo_values.specs.declared.births.TheConstants.{ANONYMOUS_BIRTH}
use Rattle.qo_save.specs.Described.{described, description, given_in, is_link, is_set}
use Rattle.qo_save.specs.Description.{description_data}
use Rattle.qo_describe.specs.Told.{link_entry}

-- a value at the end
pub pushed : (old new : List Value) (v : Value) (d : Data) → new ≡ old ++ v ∷ [] → view v ≡ d → map view new ≡ map view old ++ d ∷ []
pushed old new v d is told = ap (map view) is ∙ map-append view old (v ∷ []) ∙ ap (λ (x : Data). map view old ++ x ∷ []) told

-- whether something is there
pub is-there : {X Y : Type 0} (f : X → Y) (o : Option X) → is_some (option_map f o) ≡ is_some o
is-there f None = refl
is-there f (Some x) = refl

pub not-there : {X Y : Type 0} (f : X → Y) (o : Option X) (p : Option Y) → is_some o ≡ false → option_map f o ≡ p → None ≡ p
not-there f None p none is = is
not-there f (Some x) p none is = absurd (let clash : true ≡ false = none in cc)

-- what a link has of what was given
pub given-link : (b : board.Board) (what : Slot) (ty : TypeId) (strong : Bool) (target : Option Key) → what ≡ Link ty strong target
    → cond strong (val.Text (target_text b (birth_of target))) val.Nothing ≡ given_in b (shown_slot what)
given-link b what ty strong target is =
    subst (λ (w : Slot). cond strong (val.Text (target_text b (birth_of target))) val.Nothing ≡ given_in b (shown_slot w)) (sym is) (go strong)
  where
    go : (s : Bool) → cond s (val.Text (target_text b (birth_of target))) val.Nothing ≡ given_in b (shown_slot (Link ty s target))
    go true = refl
    go false = refl

-- the target of a link
abbrev pub target_if : board.Slot → Option ℕ
target_if s = cond (is_link s) (board.target_of s) None

pub linked-is : (what : Slot) (ty : TypeId) (strong : Bool) (target : Option Key) → what ≡ Link ty strong target → birth_of target ≡ target_if (shown_slot what)
linked-is what ty strong target is = subst (λ (w : Slot). birth_of target ≡ target_if (shown_slot w)) (sym is) (go strong)
  where
    go : (s : Bool) → birth_of target ≡ target_if (shown_slot (Link ty s target))
    go true = refl
    go false = refl

pub linked-not : (what : Slot) → ((ty : TypeId) (strong : Bool) (target : Option Key) → what ≡ Link ty strong target → ⊥) → None ≡ target_if (shown_slot what)
linked-not (Plain v) other = refl
linked-not (Child key) other = refl
linked-not (Link ty strong target) other = absurd (other ty strong target refl)
linked-not (Alias key name) other = refl

pub named-is : (what : Slot) (ty : TypeId) (strong : Bool) (target : Option Key) → what ≡ Link ty strong target
    → IfSome target (λ (key : Key). target_of what ≡ Some key)
named-is what ty strong None is = tt
named-is what ty strong (Some key) is = ap target_of is

-- a link in a slot, or none
pub no-target : (b : board.Board) (n : ℕ) (name : List ℕ) (s : board.Slot) → None ≡ target_if s → link_entry b n (name, s) ≡ None
no-target b n name s none = go (is_link s) (is_set b n name) (board.target_of s) none
  where
    go : (t set : Bool) (target : Option ℕ) → None ≡ cond t target None → cond (t && set) (option_map {U = List ℕ × ℕ} (λ (m : ℕ). (name, m)) target) None ≡ None
    go true true target is = ap (option_map {U = List ℕ × ℕ} (λ (m : ℕ). (name, m))) (sym is)
    go true false target is = refl
    go false set target is = refl

pub not-set : (b : board.Board) (n : ℕ) (name : List ℕ) (s : board.Slot) → is_set b n name ≡ false → link_entry b n (name, s) ≡ None
not-set b n name s unset = ap (λ (set : Bool). cond (is_link s && set) (option_map {U = List ℕ × ℕ} (λ (m : ℕ). (name, m)) (board.target_of s)) None) unset ∙ go (is_link s)
  where
    go : (t : Bool) → cond (t && false) (option_map {U = List ℕ × ℕ} (λ (m : ℕ). (name, m)) (board.target_of s)) None ≡ None
    go true = refl
    go false = refl

pub its-link : (b : board.Board) (n : ℕ) (name : List ℕ) (s : board.Slot) (m : ℕ) → Some m ≡ target_if s → is_set b n name ≡ true
    → link_entry b n (name, s) ≡ Some (name, m)
its-link b n name s m is set = ap (λ (t : Bool). cond (is_link s && t) (option_map {U = List ℕ × ℕ} (λ (k : ℕ). (name, k)) (board.target_of s)) None) set
    ∙ go (is_link s) (board.target_of s) is
  where
    go : (t : Bool) (target : Option ℕ) → Some m ≡ cond t target None → cond (t && true) (option_map {U = List ℕ × ℕ} (λ (k : ℕ). (name, k)) target) None ≡ Some (name, m)
    go true target so = ap (option_map {U = List ℕ × ℕ} (λ (k : ℕ). (name, k))) (sym so)
    go false target so = absurd (let clash : Some m ≡ None = so in cc)

-- whether it is written, by the type of the object
pub set-by : (b : board.Board) (v : Objects) → Shows b v → (n : ℕ) (name : List ℕ) (t : TypeId) → option_map (λ (c : Content). c.kind) (content_of v n) ≡ Some t
    → option_map_or (λ (p : Property). may_set p.access) (property_named t name) false ≡ is_set b n name
set-by b v s n name t kind =
    sym (ap (λ (o : Option TypeId). option_map_or (λ (p : Property). may_set p.access) (option_and_then (λ (k : TypeId). property_named k name) o) false)
    (shows-kind b v s n ∙ kind))

-- as many objects have no parent as are listed
pub as-many : (b : board.Board) → (length (detached_listed b) == 0) ≡ (length (detached b) == 0)
as-many b = ap (λ (k : ℕ). k == 0) (length-map (detached b) (detached_row b))

-- both, where the one is known
pub and-no : (x y : Bool) → y ≡ false → false ≡ (x && y)
and-no true y is = sym is
and-no false y is = refl

pub and-yes : (x y : Bool) → y ≡ true → x ≡ (x && y)
and-yes true y is = sym is
and-yes false y is = refl

-- a board without a description, and one with it
abbrev is_quiet : board.Board → Bool
is_quiet b = length b.pending == 0

abbrev is_whole : board.Board → Bool
is_whole b = (length (detached b) == 0) && (length (children_of b ANONYMOUS_BIRTH) == 0)

three : {A : Type 0} (x y z : Bool) (a : A) → cond (x && y && z) (Some a) None ≡ cond y (cond (x && z) (Some a) None) None
three true true z a = refl
three true false z a = refl
three false true z a = refl
three false false z a = refl

pub told-not : (b : board.Board) → is_quiet b ≡ false → None ≡ option_map description_data (described b)
unfolding described
told-not b busy =
    sym (ap (option_map description_data) (three (length (detached b) == 0) (is_quiet b) (length (children_of b ANONYMOUS_BIRTH) == 0) (description b)
    ∙ ap (λ (t : Bool). cond t (cond (is_whole b) (Some (description b)) None) None) busy))

pub told-odd : (b : board.Board) → is_quiet b ≡ true → is_whole b ≡ false → None ≡ option_map description_data (described b)
unfolding described
told-odd b quiet odd =
    sym (ap (option_map description_data) (three (length (detached b) == 0) (is_quiet b) (length (children_of b ANONYMOUS_BIRTH) == 0) (description b)
    ∙ ap (λ (t : Bool). cond t (cond (is_whole b) (Some (description b)) None) None) quiet ∙ ap (λ (t : Bool). cond t (Some (description b)) None) odd))

pub told-so : (b : board.Board) → is_quiet b ≡ true → is_whole b ≡ true → Some (description_data (description b)) ≡ option_map description_data (described b)
unfolding described
told-so b quiet whole =
    sym (ap (option_map description_data) (three (length (detached b) == 0) (is_quiet b) (length (children_of b ANONYMOUS_BIRTH) == 0) (description b)
    ∙ ap (λ (t : Bool). cond t (cond (is_whole b) (Some (description b)) None) None) quiet ∙ ap (λ (t : Bool). cond t (Some (description b)) None) whole))
