-- On a board that is sound as far as devices go whoever acts in a change is there.
use Rattle.std.proofs.Common.{◌≡◌, refl, ap, sym, subst, ◌∙◌, ℕ, suc, ◌+◌, ◌<◌, ◌≤◌, Bool, true, false, ◌==◌, List, [], ◌∷◌, filter_map, find, length, Option, Some, None, is_some, slice_get, arith}
use Rattle.qo_model.proofs.Common.{AllByRecursion, option_or, MACHINE_BIRTH, ROOT_BIRTH, Realize, TypeId, Board, Record, Slot, alias, child, plain, strong, weak, kind_of, add, fresh, with_added, first_value, fresh_record, is_child, place_of, Wanted, acted_all, aliased, barred_late, bus_births, drafted, further_in, further_of, owned, properties_made, property_made, resources_of, type_barred, types_in, with_device, with_kid, with_new, property_name, TypeInfo, slots_of}
use Rattle.qo_model.specs.declared.properties.Property.{Property}
use Rattle.qo_model.specs.declared.properties.PropertyRole.{PropertyRole}
use Rattle.std.proofs.lemmas.Bool.{eq-eqb}
use Rattle.std.proofs.lemmas.List.{length-map}
use Rattle.std.proofs.lemmas.List.Folds.{find-append}
use Rattle.std.proofs.lemmas.Option.{same_Some}
use Rattle.qo_values.proofs.ListLemmas.{all-imply}
use Rattle.qo_model.specs.Paths.{parent_of, place_in}
use Rattle.qo_model.specs.Board.{Removal}
use Rattle.qo_model.specs.declared.properties.PropertyRole.TheVariants as row
use Rattle.qo_model.proofs.FinalNotesLemmas.{kind-live}
use Rattle.qo_model.proofs.StepLemmas.{found_at}
use Rattle.qo_sound.specs.PlugOutcomes.{IsAttempted}
use Rattle.qo_sound.proofs.AttemptNotesLemmas.{buses-within}
use Rattle.qo_sound.proofs.FirmBoardLemmas.{AllLinked}
use Rattle.qo_sound.proofs.KindsLemmas.{device-kinds}
use Rattle.qo_sound.proofs.PlugLemmas.{IsPlace, device-of, held-all, place-of, shut-above, sits-device}
use Rattle.qo_sound.proofs.PresenceLemmas.{buses-there, kids-there, post-there}
use Rattle.qo_sound.proofs.UnplugLemmas.{HasPins}
use Rattle.qo_sound.proofs.ViewLemmas.{PinsRootAlone, rest-from_sound}
use Rattle.qo_sound_devices.specs.SoundDevices.{SoundDevices}
use Rattle.qo_sound_devices.specs.SoundLists.{IsOn}
use Rattle.qo_sound_devices.proofs.DevicesLawLemmas.{devices_kept_lem}
use Rattle.qo_sound_devices.proofs.PlacesLemmas.{child-live, stands-live}
use Rattle.qo_steps.specs.Steps.{IsThere}
use Rattle.qo_steps.proofs.ActingLemmas.{acted_all-there, edit-there}
use Rattle.qo_steps.proofs.PlugStepsLemmas.{StartsOn}
use Rattle.qo_steps.proofs.ReachLemmas.{Reaches}

-- the parent of an object is there
found-some : (q : Record → Bool) (rs : List Record) (r : Record) → find q rs ≡ Some r → is_some (found_at r.birth rs) ≡ true
found-some q [] r e = absurd (let clash : None ≡ Some r = e in cc)
found-some q (x ∷ rs) r e = go (q x) refl (found-some q rs r)
  where
    or-later : (t : Bool) → (x.birth == r.birth) ≡ t → is_some (found_at r.birth rs) ≡ true → is_some (found_at r.birth (x ∷ rs)) ≡ true
    or-later true p h = rw p refl
    or-later false p h = rw p h

    go : (t : Bool) → q x ≡ t → (find q rs ≡ Some r → is_some (found_at r.birth rs) ≡ true) → is_some (found_at r.birth (x ∷ rs)) ≡ true
    go true p rest =
        let is : x ≡ r = same_Some x r (rw p at e) in
        let own : (x.birth == r.birth) ≡ true = eq-eqb x.birth r.birth (ap (λ (y : Record). y.birth) is) in
        rw own refl
    go false p rest = or-later (x.birth == r.birth) refl (rest (rw p at e))

parent-there : (b : Board) (n d : ℕ) → parent_of b n ≡ Some d → IsThere b d
parent-there b n d e = go (find (λ (r : Record). is_some (place_in n r)) b.records) refl
  where
    by : (r : Record) → find (λ (x : Record). is_some (place_in n x)) b.records ≡ Some r → (o : Option (List ℕ × Slot))
        → find (λ (s : List ℕ × Slot). is_child n s.1) r.slots ≡ o → IsThere b d
    by r p None q = absurd (let clash : None ≡ Some d = rw (parent_of, place_of, p, place_in, q) at e in cc)
    by r p (Some s) q =
        let is : Some r.birth ≡ Some d = rw (parent_of, place_of, p, place_in, q) at e in
        subst (IsThere b) (same_Some r.birth d is) (found-some (λ (x : Record). is_some (place_in n x)) b.records r p)

    go : (o : Option Record) → find (λ (r : Record). is_some (place_in n r)) b.records ≡ o → IsThere b d
    go None p = absurd (let clash : None ≡ Some d = rw (parent_of, place_of, p) at e in cc)
    go (Some r) p = by r p (find (λ (s : List ℕ × Slot). is_child n s.1) r.slots) refl

-- as a device is made each birth from its own on is there
abbrev AllThere : ℕ → Board → Type 0
AllThere n c = (x : ℕ) → n ≤ x → x ≤ c.born → IsThere c x

some-first : (o p : Option Record) → is_some o ≡ true → is_some (option_or o p) ≡ true
some-first None p e = absurd (let clash : false ≡ true = e in cc)
some-first (Some r) p e = refl

some-last : (o : Option Record) (r : Record) → is_some (option_or o (Some r)) ≡ true
some-last None r = refl
some-last (Some x) r = refl

new-there : (n : ℕ) (r : Record) (c : Board) → r.birth ≡ c.born + 1 → AllThere n c → AllThere n (with_new r c)
new-there n r c own h x low high = ap is_some (find-append (λ (y : Record). y.birth == x) c.records (r ∷ [])) ∙ go (r.birth == x) refl
  where
    go : (u : Bool) → (r.birth == x) ≡ u → is_some (option_or (found_at x c.records) (found_at x (r ∷ []))) ≡ true
    go true p = rw p (some-last (found_at x c.records) r)
    go false p =
        let apart : (c.born + 1 == x) ≡ false = ap (λ (k : ℕ). k == x) (sym own) ∙ p in
        let most : x ≤ c.born + 1 = high in
        let few : x ≤ c.born = grind (arith, most, apart) in
        some-first (found_at x c.records) (found_at x (r ∷ [])) (h x low few)

add-there : (n m : ℕ) (name : List ℕ) (s : Slot) (c : Board) → AllThere n c → AllThere n (add m name s c)
unfolding add
add-there n m name s c h x low high = edit-there m (with_added name s) (λ r. refl) c x ∙ h x low high

rows-there : (n : ℕ) (t : TypeId) (ps : List Property) (c : Board) → AllThere n c → AllThere n (properties_made n t ps c)
rows-there n t [] c h = h
rows-there n t (p ∷ ps) c h = rows-there n t ps (property_made n t (property_name p.name) p.role c) (go p.role)
  where
    name : List ℕ
    name = property_name p.name

    passed : (property : List ℕ) (o : Option ℕ) → AllThere n (aliased n name property o c)
    passed property None = h
    passed property (Some m) = add-there n n name (alias m property) c h

    go : (kind : PropertyRole) → AllThere n (property_made n t name kind c)
    go (row.Plain type first) = add-there n n name (plain (first_value t first)) c h
    go (row.Link target true) = add-there n n name (strong target None) c h
    go (row.Link target false) = add-there n n name (weak target None) c h
    go (row.Child k) = add-there n n name (child (c.born + 1)) _ (new-there n (fresh_record (c.born + 1) k) c refl h)
    go (row.Alias owner of) = passed (property_name of) (owned c n (property_name owner))

-- and so many births are given
add-born : (n : ℕ) (name : List ℕ) (s : Slot) (c : Board) → (add n name s c).born ≡ c.born
unfolding add
add-born n name s c = refl

abbrev BornBy : ℕ → TypeId → List Property → Type 0
BornBy n t ps = (d : Board) → (properties_made n t ps d).born ≡ d.born + length (filter_map further_in ps)

rows-born : (n : ℕ) (t : TypeId) (ps : List Property) (c : Board) → (properties_made n t ps c).born ≡ c.born + length (filter_map further_in ps)
rows-born n t [] c = omega arith
rows-born n t (p ∷ ps) c = go p.role refl (rows-born n t ps)
  where
    name : List ℕ
    name = property_name p.name

    one : (s : Slot) → BornBy n t ps → (properties_made n t ps (add n name s c)).born ≡ c.born + length (filter_map further_in ps)
    one s rest = rest (add n name s c) ∙ ap (λ (k : ℕ). k + length (filter_map further_in ps)) (add-born n name s c)

    passed : (property : List ℕ) (o : Option ℕ) → BornBy n t ps
        → (properties_made n t ps (aliased n name property o c)).born ≡ c.born + length (filter_map further_in ps)
    passed property None rest = rest c
    passed property (Some m) rest = one (alias m property) rest

    go : (kind : PropertyRole) → p.role ≡ kind → BornBy n t ps
        → (properties_made n t ps (property_made n t name p.role c)).born ≡ c.born + length (filter_map further_in (p ∷ ps))
    go (row.Plain type first) e rest = rw (further_in, e) (one (plain (first_value t first)) rest)
    go (row.Link target true) e rest = rw (further_in, e) (one (strong target None) rest)
    go (row.Link target false) e rest = rw (further_in, e) (one (weak target None) rest)
    go (row.Child k) e rest =
        let d : Board = with_new (fresh_record (c.born + 1) k) c in
        let born : (with_kid n name k c).born ≡ d.born = add-born n name (child (c.born + 1)) d in
        let all = rest (with_kid n name k c) in
        rw (further_in, e) (omega (arith, born, all))
    go (row.Alias owner of) e rest = rw (further_in, e) (passed (property_name of) (owned c n (property_name owner)) rest)

-- a device that is added, with its buses
module _ (b : Board) (a : Wanted) (t : TypeId) (bus : ℕ) (good : SoundDevices b) (place : IsPlace b t a (resources_of b t bus a.props)) where
  abbrev n : ℕ
  n = b.born + 1

  abbrev made : Board
  made = with_device b t a (resources_of b t bus a.props)

  rest : PinsRootAlone b
  rest = rest-from_sound b good.tree

  drafted-there : AllThere n (drafted b t)
  drafted-there =
      rows-there n t (slots_of t) (with_new (fresh n t) b)
      (new-there n (fresh n t) b refl (λ x low high. absurd (let from : b.born + 1 ≤ x = low in let to : x ≤ b.born = high in omega (arith, from, to))))

  drafted-born : (drafted b t).born ≡ b.born + length (types_in t)
  drafted-born =
      let rows = rows-born n t (slots_of t) (with_new (fresh n t) b) in
      let size : length (types_in t) ≡ suc (length (further_of t)) = ap suc (length-map (further_of t) (λ (f : List ℕ × TypeId). f.1)) in
      omega (arith, rows, size)

  made-there : (x : ℕ) → b.born < x → x ≤ b.born + length (types_in t) → IsThere made x
  made-there x low high =
      sym (kind-live made x)
      ∙ ap (λ (kinds : ℕ → Option TypeId). is_some (kinds x)) (device-kinds b t a (resources_of b t bus a.props))
      ∙ kind-live (drafted b t) x
      ∙ drafted-there x (omega (arith, low)) (omega (arith, high, drafted-born))

  own-there : AllByRecursion (IsThere made) (n ∷ bus_births n t)
  own-there = (
    made-there n (omega arith) (omega arith),
    all-imply (λ m. (b.born < m) × (m ≤ b.born + length (types_in t))) (IsThere made) (λ m h. made-there m h.0 h.1) (bus_births n t)
        (buses-within b.born n (types_in t) (b.born + length (types_in t)) (omega arith) (omega arith)),
  )

  device-starts : StartsOn IsThere n t made
  device-starts =
      let run : Board = acted_all Realize (n ∷ bus_births n t) made in
      let sits : HasPins (1 ∷ []) run =
      held-all (1 ∷ []) Realize (n ∷ bus_births n t) made
      (sits-device b t a (resources_of b t bus a.props) rest (shut-above b.born rest.used.firm.begun) place) in
      record {
        own = own-there;
        below = post-there run sits.near.firm.linked n (acted_all-there Realize (n ∷ bus_births n t) made n ∙ own-there.0);
      }

starts-there : (b : Board) (a : Wanted) (row : TypeInfo) (bus : ℕ) → SoundDevices b → IsAttempted b a row bus → barred_late b row.id bus a.props ≡ None
    → StartsOn IsThere (b.born + 1) row.id (with_device b row.id a (resources_of b row.id bus a.props))
starts-there b a row bus good tried late =
    device-starts b a row.id bus good (place-of b row.id bus a (device-of row (rw (type_barred, tried.named) at tried.fits)) tried.chosen tried.early late)

-- the first device whose removal is pending stands in its place
first-on : (b : Board) (rs : List Removal) (r : Removal) → AllByRecursion (λ (x : Removal). IsOn b x.birth) rs → slice_get rs 0 ≡ Some r → IsOn b r.birth
first-on b [] r on e = absurd (let clash : None ≡ Some r = e in cc)
first-on b (x ∷ rs) r on e = subst (λ (y : Removal). IsOn b y.birth) (same_Some x r e) on.0

linked : (b : Board) → SoundDevices b → AllLinked (kind_of b) b.records
linked b good = (rest-from_sound b good.tree).used.firm.linked

pub reach-sound : Reaches SoundDevices IsThere
reach-sound =
    record {
      steady = λ b c same n there. same n ∙ there;
      parents = parent-there;
      post = λ b n good there. post-there b (linked b good) n there;
      below = λ b good. record { buses = buses-there b; kids = kids-there b (linked b good) };
      held_so = λ b n kind good there. devices_kept_lem.held_so b n kind good;
      machine = λ b good. child-live b (rest-from_sound b good.tree).used.firm ROOT_BIRTH MACHINE_BIRTH good.places.1.machine;
      pending = λ b r good e.
          stands-live b (rest-from_sound b good.tree).used.firm r.birth (first-on b b.pending r good.lists.pending e).0;
      completed = λ b r good e. devices_kept_lem.detached b r.birth good (first-on b b.pending r good.lists.pending e).0;
      starts = starts-there;
    }
