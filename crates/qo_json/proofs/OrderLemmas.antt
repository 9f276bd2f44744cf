-- What is read stands in order.
use Rattle.std.proofs.Common.{◌≡◌, ℕ, List, [], ◌∷◌, Option, Some, None, Ordering, Less, Equal, Greater, option_map, option_and_then, refl, ap, ◌∙◌, subst}
use Rattle.std.proofs.lemmas.Cmp.{nat_list_cmp_total}
use Rattle.std.specs.Cmp.Lexicographic.{slice_cmp}
use Rattle.std.specs.List.{AllByRecursion}
use Rattle.std.specs.List.Sorted.{IsStrictlySortedBy}
use Rattle.std.specs.Ordering.{match_ordering, nat_cmp, ordering_reverse}
use Rattle.std.specs.Prelude.{⊤}
use Rattle.json.specs.Json as json
use Rattle.json.specs.Json.{if_last}
use Rattle.json.specs.Lex.{tokens}
use Rattle.serde_json.specs.Data.{Data, number, array, object, Num, Items, item, Members, no_members, member, put}
use Rattle.serde_json.specs.Read.{of_json, of_items, of_members, number_of, max_depth, read}
use Rattle.qo_json.specs.Order.{names_of, NamesRise, IsOrdered, AreOrdered, HaveOrder}

-- how two names compare
abbrev order : List ℕ → List ℕ → Ordering
order = slice_cmp nat_cmp

-- the name comes before each of these
abbrev IsBefore : List ℕ → List (List ℕ) → Type 0
IsBefore name names = AllByRecursion (λ other. order name other ≡ Less) names

-- members in order, of values in order
abbrev Stand : Members → Type 0
Stand ms = NamesRise (names_of ms) × HaveOrder ms

-- ---- a member more

before_put_at : (o : Ordering) (l k n : List ℕ) (d e : Data) (ms : Members) → order l k ≡ Less → IsBefore l (n ∷ names_of ms)
    → IsBefore l (names_of (put k d ms))
    → IsBefore l (names_of (match_ordering o (member k d (member n e ms)) (member n d ms) (member n e (put k d ms))))
before_put_at Less l k n d e ms here all later = (here, all)
before_put_at Equal l k n d e ms here all later = all
before_put_at Greater l k n d e ms here all later = (all.0, later)

before_put : (l k : List ℕ) (d : Data) (ms : Members) → order l k ≡ Less → IsBefore l (names_of ms) → IsBefore l (names_of (put k d ms))
before_put l k d no_members here all = (here, tt)
before_put l k d (member n e ms) here all = before_put_at (order k n) l k n d e ms here all (before_put l k d ms here all.1)

before_through : (k l : List ℕ) (names : List (List ℕ)) → order k l ≡ Less → IsBefore l names → IsBefore k names
before_through k l [] first all = tt
before_through k l (n ∷ names) first all = (nat_list_cmp_total.trans k l n first all.0, before_through k l names first all.1)

turned : (k l : List ℕ) → order k l ≡ Greater → order l k ≡ Less
turned k l above = nat_list_cmp_total.antisymm l k ∙ ap ordering_reverse above

stands_at : (o : Ordering) (k : List ℕ) (d : Data) (n : List ℕ) (e : Data) (ms : Members) → order k n ≡ o → IsOrdered d
    → Stand (member n e ms) → Stand (put k d ms) → Stand (match_ordering o (member k d (member n e ms)) (member n d ms) (member n e (put k d ms)))
unfolding IsStrictlySortedBy
stands_at Less k d n e ms is here all later = (((is, before_through k n (names_of ms) is all.0.0), all.0), (here, all.1))
stands_at Equal k d n e ms is here all later = (all.0, (here, all.1.1))
stands_at Greater k d n e ms is here all later =
    ((before_put n k d ms (turned k n is) all.0.0, later.0), (all.1.0, later.1))

put_stands : (k : List ℕ) (d : Data) (ms : Members) → IsOrdered d → Stand ms → Stand (put k d ms)
unfolding IsStrictlySortedBy
put_stands k d no_members here all = ((tt, tt), (here, tt))
put_stands k d (member n e ms) here all = stands_at (order k n) k d n e ms refl here all (put_stands k d ms here (all.0.1, all.1.1))

-- ---- what the grammar gives

-- it is so of what was read, where something was
abbrev OnData : Option Data → Type 0
OnData None = ⊤
OnData (Some d) = IsOrdered d

abbrev OnItems : Option Items → Type 0
OnItems None = ⊤
OnItems (Some ds) = AreOrdered ds

abbrev OnMembers : Option Members → Type 0
OnMembers None = ⊤
OnMembers (Some ms) = Stand ms

of_number : (o : Option Num) → OnData (option_map number o)
of_number None = tt
of_number (Some n) = tt

of_array : (o : Option Items) → OnItems o → OnData (option_map array o)
of_array None all = tt
of_array (Some ds) all = all

of_object : (o : Option Members) → OnMembers o → OnData (option_map object o)
of_object None all = tt
of_object (Some ms) all = all

with_item : (o : Option Data) (later : Option Items) → OnData o → OnItems later → OnItems (option_and_then (λ d. option_map (item d) later) o)
with_item None later here all = tt
with_item (Some d) None here all = tt
with_item (Some d) (Some ds) here all = (here, all)

with_member : (more : Data → Option Members) (o : Option Data) → OnData o → ((d : Data) → IsOrdered d → OnMembers (more d)) → OnMembers (option_and_then more o)
with_member more None here all = tt
with_member more (Some d) here all = all d here

no_members_stand : Stand no_members
unfolding IsStrictlySortedBy
no_members_stand = (tt, tt)

mutual
  value_ordered : (j : json.Json) → OnData (of_json j)
  value_ordered json.null = tt
  value_ordered (json.boolean b) = tt
  value_ordered (json.number s) = of_number (number_of s)
  value_ordered (json.string s) = tt
  value_ordered (json.array js) = of_array (of_items js) (items_ordered js)
  value_ordered (json.object ms) = of_object (of_members ms no_members) (members_ordered ms no_members no_members_stand)

  items_ordered : (js : json.Items) → OnItems (of_items js)
  items_ordered json.no_items = tt
  items_ordered (json.item j js) = with_item (of_json j) (of_items js) (value_ordered j) (items_ordered js)

  members_ordered : (ms : json.Members) (found : Members) → Stand found → OnMembers (of_members ms found)
  members_ordered json.no_members found all = all
  members_ordered (json.member k j ms) found all =
      with_member (λ d. of_members ms (put k d found)) (of_json j) (value_ordered j)
      (λ d here. members_ordered ms (put k d found) (put_stands k d found here all))

whole_ordered : (o : Option json.Json) → OnData (option_and_then of_json o)
whole_ordered None = tt
whole_ordered (Some j) = value_ordered j

-- the value that a text is stands in order
pub read_ordered : (text : List ℕ) (d : Data) → read text ≡ Some d → IsOrdered d
read_ordered text d is = subst OnData is (whole_ordered (option_and_then (λ p. if_last p.0 p.1) (json.value max_depth (tokens text))))
