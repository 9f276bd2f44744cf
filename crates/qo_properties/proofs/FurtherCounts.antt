-- How many further objects the properties of a device are.
use Rattle.std.proofs.Common.{◌≡◌, refl, ap, ◌∙◌, ℕ, suc, ◌+◌, ◌≤◌, ◌<◌, Bool, is_some, if◌then◌else◌, option_to_list, List, [], ◌∷◌, ◌++◌, drop, filter_map, get_or, length, Option, Some, None, arith}
use Rattle.std.specs.List.{cons_option}
use Rattle.std.proofs.lemmas.List.{length-append}
use Rattle.qo_values.specs.declared.kinds.TypeId.{TypeId}
use Rattle.qo_model.specs.Plug.{further_in, objects_in}
use Rattle.qo_model.specs.Types.{slots_of}
use Rattle.qo_model.specs.declared.properties.Property.{Property}
use Rattle.qo_properties.proofs.NewSlotLemmas.{few-slots}
use Rattle.qo_properties.proofs.SlotsLemmas.{rows-next}

-- those of a property, and of those after it
further-next : (ps : List Property) (i : ℕ) (d : Property) (n m all : ℕ) → i < length ps → m ≡ n + length (option_to_list (further_in (get_or ps i d)))
    → n + length (filter_map further_in (drop i ps)) ≡ all → m + length (filter_map further_in (drop (i + 1) ps)) ≡ all
further-next ps i d n m all below one is =
    let split : length (filter_map further_in (drop i ps)) ≡ length (option_to_list (further_in (get_or ps i d)) ++ filter_map further_in (drop (i + 1) ps)) =
    ap length (rows-next further_in ps i d below) in
    omega (
      arith,
      one,
      is,
      split,
      length-append (option_to_list (further_in (get_or ps i d))) (filter_map further_in (drop (i + 1) ps)),
    )

-- counting them
pub counted : (ps : List Property) (i : ℕ) (d : Property) (count all : ℕ) (t : Bool) → i < length ps → t ≡ is_some (further_in (get_or ps i d))
    → count + length (filter_map further_in (drop i ps)) ≡ all → (if t then count + 1 else count) + length (filter_map further_in (drop (i + 1) ps)) ≡ all
counted ps i d count all t below is so = further-next ps i d count (if t then count + 1 else count) all below one so
  where
    of : (o : Option (List ℕ × TypeId)) → (if is_some o then count + 1 else count) ≡ count + length (option_to_list o)
    of None = omega arith
    of (Some x) = refl

    one : (if t then count + 1 else count) ≡ count + length (option_to_list (further_in (get_or ps i d)))
    one = ap (λ (b : Bool). if b then count + 1 else count) is ∙ of (further_in (get_or ps i d))

pub few-further : (t : TypeId) → objects_in t ≤ 10
few-further t = let few : length (slots_of t) ≤ 9 = few-slots t in omega (arith, few, fewer (slots_of t))
  where
    fewer : (ps : List Property) → length (filter_map further_in ps) ≤ length ps
    fewer [] = omega arith
    fewer (p ∷ ps) = go (further_in p) (fewer ps)
      where
        go : (o : Option (List ℕ × TypeId)) → length (filter_map further_in ps) ≤ length ps
            → length (cons_option o (filter_map further_in ps)) ≤ suc (length ps)
        go None le = omega (arith, le)
        go (Some x) le = omega (arith, le)
