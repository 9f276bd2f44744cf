-- The members of a message that were read in one pass.
use Rattle.std.proofs.Common.{◌≡◌, ◌<◌, ◌≤◌, ◌+◌, length, drop, get_or, arith, ℕ, Bool, true, false, not, List, [], ◌∷◌, refl, sym, ◌∙◌, ap, Option, None, Some, is_some, unwrap_or, option_and_then, if◌then◌else◌}
use Rattle.std.specs.Prelude.{◌&&◌, ◌||◌, slice_get}
use Rattle.std.specs.Option.{option_map_or, option_or}
use Rattle.std.proofs.lemmas.List.{drop_more}
use Rattle.std.specs.Str.{bytes_eq}
use Rattle.qo_json.proofs.MemberLemmas.{Member, member_here, member_later}
use Rattle.serde_json.specs.Data.{Data, null}
use Rattle.serde_json.specs.Find.{as_object, as_str, get_member}
use Rattle.qo_json.specs.View.{members_view, view}
use Rattle.serde_json.specs.Written.{has_float}
use Rattle.qo_requests.specs.Arguments.{all_named, fits, has_only, is_named}
use Rattle.qo_requests.specs.declared.arguments.Argument.{Argument}
use Rattle.qo_requests.specs.declared.arguments.ArgumentType.TheVariants as kind
use Rattle.qo_requests.specs.declared.commands.Command.{Command}
use Rattle.qo_requests.specs.Commands.{command_of}
use Rattle.qo_requests.specs.Values.{text_at}
use Rattle.qo_requests.specs.Fields.{argument}
use Rattle.qo_requests.specs.ArgumentMembers.{names}
use Rattle.qo_requests.specs.Members.{is_whole}
use Rattle.qo_requests.specs.Messages.{call_of, is_message, message_members, request_in}
use Rattle.qo_requests.specs.declared.fields.Field.TheVariants.{Arguments, Execute, Id}

-- the first of a name is among those read, or else among those left
pub first_on : (key : List ℕ) (before : Option Data) (e : Member) (es : List Member)
    → option_or before (get_member key (members_view (e ∷ es)))
    ≡ option_or (if bytes_eq key e.0.now then option_or before (Some (view e.1)) else before) (get_member key (members_view es))
first_on key before e es = by (bytes_eq key e.0.now) refl before
  where
    by : (t : Bool) → bytes_eq key e.0.now ≡ t → (o : Option Data)
        → option_or o (get_member key (members_view (e ∷ es))) ≡ option_or (if t then option_or o (Some (view e.1)) else o) (get_member key (members_view es))
    by true is None = member_here key e es is
    by true is (Some d) = refl
    by false is None = member_later key e es is
    by false is (Some d) = refl

pub found_on : (key : List ℕ) (whole before now : Option Data) (name : List ℕ) (left : List Member) (e : Member) (es : List Member)
    → whole ≡ option_or before (get_member key (members_view left)) → left ≡ e ∷ es → name ≡ e.0.now
    → now ≡ (if bytes_eq key name then option_or before (Some (view e.1)) else before)
    → whole ≡ option_or now (get_member key (members_view es))
found_on key whole before now name left e es was steps same is =
    was ∙ ap (λ (l : List Member). option_or before (get_member key (members_view l))) steps ∙ first_on key before e es
    ∙ ap (λ (n : List ℕ). option_or (if bytes_eq key n then option_or before (Some (view e.1)) else before) (get_member key (members_view es))) (sym same)
    ∙ ap (λ (o : Option Data). option_or o (get_member key (members_view es))) (sym is)

-- what is left of the members begins with the next
pub next_left : (all : List Member) (i : ℕ) (e : Member) → i < length all → e ≡ get_or all i e → drop i all ≡ e ∷ drop (i + 1) all
next_left all i e below is = drop_more all i e below ∙ ap (λ (m : Member). m ∷ drop (i + 1) all) (sym is)

pub found_by : (key : List ℕ) (whole before now : Option Data) (is_it : Bool) (name : List ℕ) (left : List Member) (e : Member) (es : List Member)
    → whole ≡ option_or before (get_member key (members_view left)) → left ≡ e ∷ es → name ≡ e.0.now → is_it ≡ bytes_eq key name
    → now ≡ (if is_it then option_or before (Some (view e.1)) else before)
    → whole ≡ option_or now (get_member key (members_view es))
found_by key whole before now is_it name left e es was steps same it is =
    found_on key whole before now name left e es was steps same (is ∙ ap (λ (t : Bool). if t then option_or before (Some (view e.1)) else before) it)

-- at most three rows name what the first, the second or the third does
or_all : (t u w : Bool) → (t || (u || (w || false))) ≡ ((t || u) || w)
or_all true u w = refl
or_all false true w = refl
or_all false false true = refl
or_all false false false = refl

or_two : (t u : Bool) → (t || (u || false)) ≡ ((t || u) || false)
or_two true u = refl
or_two false true = refl
or_two false false = refl

or_one : (t : Bool) → (t || false) ≡ ((t || false) || false)
or_one true = refl
or_one false = refl

pub named_by_three : (rows : List Argument) (name : List ℕ) → length rows ≤ 3
    → is_named rows name ≡ ((names (slice_get rows 0) name || names (slice_get rows 1) name) || names (slice_get rows 2) name)
named_by_three [] name few = refl
named_by_three (r ∷ []) name few = or_one (names (Some r) name)
named_by_three (r ∷ s ∷ []) name few = or_two (names (Some r) name) (names (Some s) name)
named_by_three (r ∷ s ∷ t ∷ []) name few = or_all (names (Some r) name) (names (Some s) name) (names (Some t) name)
named_by_three (r ∷ s ∷ t ∷ u ∷ rows) name few = absurd (omega arith)

-- a member is beside the rows where none of three tests says its name
pub beside_three : (rows : List Argument) (name : List ℕ) (before now named first second third : Bool) → length rows ≤ 3
    → first ≡ names (slice_get rows 0) name → second ≡ names (slice_get rows 1) name → third ≡ names (slice_get rows 2) name
    → named ≡ ((first || second) || third) → now ≡ (before || not named) → now ≡ (before || not (is_named rows name))
beside_three rows name before now named first second third few f s t n is =
    is ∙ ap (λ (b : Bool). before || not b) (n ∙ rw (f, s, t, named_by_three rows name few) refl)

others_of : (others named left : Bool) → (not others && (named && left)) ≡ (not (others || not named) && left)
others_of true named left = refl
others_of false true left = refl
others_of false false left = refl

pub others_on : (rows : List Argument) (whole before now : Bool) (name : List ℕ) (left : List Member) (e : Member) (es : List Member)
    → whole ≡ (not before && all_named rows (members_view left)) → left ≡ e ∷ es → name ≡ e.0.now
    → now ≡ (before || not (is_named rows name))
    → whole ≡ (not now && all_named rows (members_view es))
others_on rows whole before now name left e es was steps same is =
    let rest : Bool = all_named rows (members_view es) in
    was ∙ ap (λ (l : List Member). not before && all_named rows (members_view l)) steps
    ∙ others_of before (is_named rows e.0.now) rest
    ∙ ap (λ (n : List ℕ). not (before || not (is_named rows n)) && rest) (sym same)
    ∙ ap (λ (t : Bool). not t && rest) (sym is)

-- What makes a message, by its members.

both : (t u : Bool) → ((true && t) && u) ≡ (t && (u && (true && true)))
both true true = refl
both true false = refl
both false u = refl

-- each row of a message's members, by what stands there
abbrev stood : Option Data → Bool
stood execute = is_some execute && (true && (true && true))

abbrev fitting : Option Data → Option Data → Option Data → Bool
fitting execute arguments id =
    option_map_or (fits kind.Text) execute true && (option_map_or (fits kind.Object) arguments true && (option_map_or (fits kind.Any) id true && true))

rows_are : (others : Bool) (execute arguments id : Option Data)
    → is_whole others execute arguments ≡ (not others && stood execute && fitting execute arguments id)
rows_are true x a i = refl
rows_are false None a i = refl
rows_are false (Some e) a None = both (is_some (as_str e)) (option_map_or (λ d. is_some (as_object d)) a true)
rows_are false (Some e) a (Some i) = both (is_some (as_str e)) (option_map_or (λ d. is_some (as_object d)) a true)

pub whole_is : (d : Data) (others : Bool) → not others ≡ has_only message_members d → is_whole others (argument Execute d) (argument Arguments d) ≡ is_message d
whole_is d others same =
    rows_are others (argument Execute d) (argument Arguments d) (argument Id d)
    ∙ ap (λ (t : Bool). t && stood (argument Execute d) && fitting (argument Execute d) (argument Arguments d) (argument Id d)) same

-- the request of a message, by its command and its arguments
pub request_by : (d : Data) → has_float d ≡ false → is_message d ≡ true → (command : Option Command) (args : Option Data)
    → command ≡ option_and_then command_of (text_at Execute d) → args ≡ argument Arguments d → call_of command (unwrap_or args null) ≡ request_in d
request_by d whole is command args named given = rw (whole, is, named, given) refl
