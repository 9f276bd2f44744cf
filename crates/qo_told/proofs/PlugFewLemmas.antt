-- What is noted of objects that are made, of a device that is added, and of an attempt that was given up or cut.
use Rattle.std.proofs.Common.{◌≡◌, refl, ap, sym, subst, ◌∙◌, rules, ℕ, zero, suc, ◌+◌, ◌*◌, ◌≤◌, Bool, true, false, ◌==◌, if◌then◌else◌, List, [], ◌∷◌, ◌++◌, drop, filter_map, length, map, take, Option, Some, None, arith}
use Rattle.std.proofs.lemmas.List.{length-append, length-map}
use Rattle.qo_values.proofs.EachLemmas.{each}
use Rattle.qo_model.proofs.Common.{Realize, Unrealize, Enter, Hold, Exit, TypeId, Board, Record, Slot, plain, child, strong, weak, alias, add, with_added, first_value, fresh, fresh_record, ending, init_notes, with_attempt, Resources, Wanted, acted_all, aliased, begun_notes, born_from, bus_births, clocked, counted, cut_attempt, cut_order, device_last, did, drafted, ended_notes, further_in, owned, passed_notes, plug_attempt, properties_made, property_made, source_for, started, stood, types_in, with_body_of, with_device, with_ended, with_kid, with_new, with_plugged, final_notes, edit, edited, count, phased, plugged, post, property_name, finals, inits, slots_of, types}
use Rattle.qo_model.specs.declared.notes.Note.{Note}
use Rattle.qo_model.specs.declared.properties.Property.{Property}
use Rattle.qo_model.specs.declared.properties.PropertyRole.{PropertyRole}
use Rattle.qo_model.specs.declared.properties.PropertyRole.TheVariants as row
use Rattle.qo_sound.proofs.AdditionStepsLemmas.{KeepsEdits, step-stood}
use Rattle.qo_sound_devices.specs.SoundDevices.{SoundDevices}
use Rattle.qo_sound_phases.proofs.PlugLemmas.{StartedSo, same-acts, told-so}
use Rattle.qo_sound_phases.proofs.ResetTreeLemmas.{placed}
use Rattle.qo_sound_phases.proofs.ShapeLemmas.{shape-phased, shape-post}
use Rattle.qo_told.proofs.BelowFewLemmas.{phased-notes, plugged-notes, post-few, shape-size}
use Rattle.qo_told.proofs.EndsFewLemmas.{few-ends}

-- a type has no more than three initializers
few-inits : (t : TypeId) → length (inits t) ≤ 3
unfolding types
few-inits = each (λ (t : TypeId). length (inits t) ≤ 3) (search rules)

pub few-begins : (n : ℕ) (t : TypeId) → length (init_notes n t) ≤ 3
few-begins n t = subst (λ (k : ℕ). k ≤ 3) (sym (length-map (inits t) _)) (few-inits t)

-- attempts

pub attempt-few : (b : Board) (t : TypeId) → length (with_attempt b t).notes ≤ length b.notes + 6
attempt-few b t =
    omega (
      arith,
      length-append (b.notes ++ init_notes (b.born + 1) t) (final_notes (fresh (b.born + 1) t)),
      length-append b.notes (init_notes (b.born + 1) t),
      few-begins (b.born + 1) t,
      few-ends (fresh (b.born + 1) t),
    )

-- how many of some types the objects have, all in all
abbrev sizes : (TypeId → List TypeId) → List (ℕ × TypeId) → ℕ
sizes f [] = 0
sizes f (o ∷ os) = length (f o.1) + sizes f os

sizes-append : (f : TypeId → List TypeId) (os qs : List (ℕ × TypeId)) → sizes f (os ++ qs) ≡ sizes f os + sizes f qs
sizes-append f [] qs = omega arith
sizes-append f (o ∷ os) qs = omega (arith, sizes-append f os qs)

sizes-cut : (f : TypeId → List TypeId) (i : ℕ) (os : List (ℕ × TypeId)) → sizes f (take i os) + sizes f (drop i os) ≡ sizes f os
sizes-cut f zero os = omega arith
sizes-cut f (suc i) [] = omega arith
sizes-cut f (suc i) (o ∷ os) = omega (arith, sizes-cut f i os)

sizes-last : (f : TypeId → List TypeId) (os : List (ℕ × TypeId)) → sizes f (device_last os) ≡ sizes f os
sizes-last f [] = refl
sizes-last f (o ∷ os) = omega (arith, sizes-append f os (o ∷ []))

sizes-order : (f : TypeId → List TypeId) (joined : Bool) (i : ℕ) (os : List (ℕ × TypeId)) → sizes f (cut_order joined i os) ≤ sizes f os
sizes-order f true i os = omega (arith, sizes-last f os)
sizes-order f false zero os = omega arith
sizes-order f false (suc i) os =
    omega (arith, sizes-append f (drop i os) (device_last (take i os)), sizes-last f (take i os), sizes-cut f i os)

-- what is noted as they begin, and as they end
begun-size : (os : List (ℕ × TypeId)) → length (begun_notes os) ≡ sizes inits os
begun-size [] = refl
begun-size (o ∷ os) =
    let own : length (init_notes o.0 o.1) ≡ length (inits o.1) = length-map (inits o.1) _ in
    omega (arith, own, length-append (init_notes o.0 o.1) (begun_notes os), begun-size os)

ended-size : (os : List (ℕ × TypeId)) → length (ended_notes os) ≡ sizes finals os
ended-size [] = refl
ended-size (o ∷ os) =
    let own : length (ending o.0 o.1) ≡ length (finals o.1) = length-map (finals o.1) _ in
    omega (arith, own, length-append (ending o.0 o.1) (ended_notes os), ended-size os)

ended-notes : (b : Board) (made : List (ℕ × TypeId)) (passed : List Note) (ended : List (ℕ × TypeId))
    → length (with_ended b made passed ended).notes ≡ length b.notes + (sizes inits made + (length passed + sizes finals ended))
ended-notes b made passed ended =
    omega (
      arith,
      length-append (b.notes ++ begun_notes made ++ passed) (ended_notes ended),
      length-append (b.notes ++ begun_notes made) passed,
      length-append b.notes (begun_notes made),
      begun-size made,
      ended-size ended,
    )

-- the objects of a device: six initializers and finalizers, and one bus
device-inits : (n : ℕ) (t : TypeId) → sizes inits (born_from n (types_in t)) ≤ 6
unfolding types
device-inits n = each (λ (t : TypeId). sizes inits (born_from n (types_in t)) ≤ 6) (search rules)

device-finals : (n : ℕ) (t : TypeId) → sizes finals (born_from n (types_in t)) ≤ 6
unfolding types
device-finals n = each (λ (t : TypeId). sizes finals (born_from n (types_in t)) ≤ 6) (search rules)

few-buses : (n : ℕ) (t : TypeId) → length (bus_births n t) ≤ 1
unfolding types
few-buses n = each (λ (t : TypeId). length (bus_births n t) ≤ 1) (search rules)

-- it is realized, goes through the phases, and is unrealized
passed-few : (b : Board) (bus n : ℕ) (t : TypeId) → length (passed_notes b bus n t) ≤ 10
passed-few b bus n t =
    let buses : List ℕ = bus_births n t in
    let all : List ℕ = buses ++ n ∷ [] in
    let out : List ℕ = if count b bus == 0 then buses ++ n ∷ [] else [] in
    let one : List Note = map (did Realize) (n ∷ buses) in
    let two : List Note = one ++ map (did Enter) all in
    let three : List Note = two ++ map (did Hold) all in
    let four : List Note = three ++ map (did Exit) out in
    omega (
      arith,
      length-append four (map (did Unrealize) all),
      length-append three (map (did Exit) out),
      length-append two (map (did Hold) all),
      length-append one (map (did Enter) all),
      length-map (n ∷ buses) (did Realize),
      length-map all (did Enter),
      length-map all (did Hold),
      length-map out (did Exit),
      length-map all (did Unrealize),
      length-append buses (n ∷ []),
      few-out (count b bus == 0) buses,
      few-buses n t,
    )
  where
    few-out : (u : Bool) (ns : List ℕ) → length (if u then ns ++ n ∷ [] else []) ≤ length (ns ++ n ∷ [])
    few-out true ns = omega arith
    few-out false ns = omega arith

pub given_up-few : (b : Board) (t : TypeId) (bus stage : ℕ)
    → length (plug_attempt b t bus stage).notes ≤ length b.notes + (4 * length b.records + 22)
given_up-few b t bus stage =
    let os : List (ℕ × TypeId) = born_from (suc b.born) (types_in t) in
    let passed : List Note = if stage == 8 then passed_notes b bus (suc b.born) t else [] in
    omega (
      arith,
      ended-notes b os passed (device_last os),
      device-inits (suc b.born) t,
      device-finals (suc b.born) t,
      sizes-last finals os,
      few-passed (stage == 8),
    )
  where
    few-passed : (u : Bool) → length (if u then passed_notes b bus (suc b.born) t else []) ≤ 10
    few-passed true = passed-few b bus (suc b.born) t
    few-passed false = omega arith

pub cut-few : (b : Board) (t : TypeId) (i : ℕ) (joined : Bool) → length (cut_attempt b t i joined).notes ≤ length b.notes + 12
cut-few b t i joined =
    let all : List (ℕ × TypeId) = born_from (suc b.born) (types_in t) in
    let os : List (ℕ × TypeId) = take i all in
    omega (
      arith,
      ended-notes b os [] (cut_order joined i os),
      sizes-order finals joined i os,
      sizes-cut inits i all,
      sizes-cut finals i all,
      device-inits (suc b.born) t,
      device-finals (suc b.born) t,
    )

-- a device that is made, object by object: each notes no more than three

-- so many objects more
abbrev Grown : ℕ → Board → Board → Type 0
Grown k b c = (length c.records ≡ length b.records + k) × (length c.notes ≤ length b.notes + 3 * k)

add-size : (n : ℕ) (name : List ℕ) (s : Slot) (c : Board) → length (add n name s c).records ≡ length c.records
unfolding add
add-size n name s c = length-map c.records (edited n (with_added name s))

add-notes : (n : ℕ) (name : List ℕ) (s : Slot) (c : Board) → (add n name s c).notes ≡ c.notes
unfolding add
add-notes n name s c = refl

abbrev further : List Property → ℕ
further ps = length (filter_map further_in ps)

abbrev Grows : ℕ → TypeId → List Property → Type 0
Grows n t ps = (c : Board) → Grown (further ps) c (properties_made n t ps c)

rows-grow : (n : ℕ) (t : TypeId) (ps : List Property) → Grows n t ps
rows-grow n t [] c = (omega arith, omega arith)
rows-grow n t (p ∷ ps) c = go p.role refl (rows-grow n t ps)
  where
    name : List ℕ
    name = property_name p.name

    one : (s : Slot) → Grows n t ps → Grown (further ps) c (properties_made n t ps (add n name s c))
    one s rest =
        let after = rest (add n name s c) in
        let same : length (add n name s c).notes ≡ length c.notes = ap (λ (xs : List Note). length xs) (add-notes n name s c) in
        (omega (arith, after.0, add-size n name s c), omega (arith, after.1, same))

    passed : (property : List ℕ) (o : Option ℕ) → Grows n t ps → Grown (further ps) c (properties_made n t ps (aliased n name property o c))
    passed property None rest = rest c
    passed property (Some m) rest = one (alias m property) rest

    kid : (k : TypeId) → Grows n t ps → Grown (suc (further ps)) c (properties_made n t ps (with_kid n name k c))
    kid k rest =
        let d : Board = with_new (fresh_record (c.born + 1) k) c in
        let after = rest (with_kid n name k c) in
        let made : length d.records ≡ length c.records + 1 = length-append c.records (fresh_record (c.born + 1) k ∷ []) in
        let noted : length d.notes ≡ length c.notes + length (init_notes (c.born + 1) k) = length-append c.notes (init_notes (c.born + 1) k) in
        let same : length (with_kid n name k c).notes ≡ length d.notes =
        ap (λ (xs : List Note). length xs) (add-notes n name (child (c.born + 1)) d) in (
          omega (arith, after.0, add-size n name (child (c.born + 1)) d, made),
          omega (arith, after.1, same, noted, few-begins (c.born + 1) k),
        )

    go : (kind : PropertyRole) → p.role ≡ kind → Grows n t ps → Grown (further (p ∷ ps)) c (properties_made n t ps (property_made n t name p.role c))
    go (row.Plain type first) e rest = rw (further_in, e) (one (plain (first_value t first)) rest)
    go (row.Link target true) e rest = rw (further_in, e) (one (strong target None) rest)
    go (row.Link target false) e rest = rw (further_in, e) (one (weak target None) rest)
    go (row.Child k) e rest = rw (further_in, e) (kid k rest)
    go (row.Alias owner of) e rest = rw (further_in, e) (passed (property_name of) (owned c n (property_name owner)) rest)

few-further : (t : TypeId) → further (slots_of t) ≤ 2
unfolding types
few-further = each (λ (t : TypeId). further (slots_of t) ≤ 2) (search rules)

-- no more than three objects more
abbrev Small : Board → Board → Type 0
Small b c = (length c.records ≤ length b.records + 3) × (length c.notes ≤ length b.notes + 9)

drafted-few : (b : Board) (t : TypeId) → Small b (drafted b t)
drafted-few b t =
    let first : Board = with_new (fresh (b.born + 1) t) b in
    let rows = rows-grow (b.born + 1) t (slots_of t) first in
    let made : length first.records ≡ length b.records + 1 = length-append b.records (fresh (b.born + 1) t ∷ []) in
    let noted : length first.notes ≡ length b.notes + length (init_notes (b.born + 1) t) = length-append b.notes (init_notes (b.born + 1) t) in
    (omega (arith, rows.0, made, few-further t), omega (arith, rows.1, noted, few-begins (b.born + 1) t, few-further t))

small-edit : (b : Board) (n : ℕ) (change : Record → Record) (c : Board) → Small b c → Small b (edit n change c)
small-edit b n change c h = (omega (arith, length-map c.records (edited n change), h.0), h.1)

small-counted : (b : Board) (id : Option (List ℕ)) (c : Board) → Small b c → Small b (counted id c)
small-counted b None c h = h
small-counted b (Some id) c h = h

device-few : (b : Board) (t : TypeId) (a : Wanted) (resources : Resources) → Small b (with_device b t a resources)
device-few b t a resources =
    small-counted b a.id (clocked (source_for b resources.bus) (b.born + 1) (stood b (b.born + 1) a resources (drafted b t)))
    (step-stood (Small b) edits b (b.born + 1) a resources (λ c h. small-edit b (b.born + 1) (with_body_of a.id resources.range) c h) (drafted b t)
    (drafted-few b t))
  where
    edits : KeepsEdits (Small b)
    edits n change leaves c h = small-edit b n change c h

-- it starts: it and its bus are realized, and what is below it goes through three phases
started-few : (b : Board) (n : ℕ) (t : TypeId) (made : Board) → 1 ≤ length b.records → Small b made → SoundDevices (started n t made)
    → length (started n t made).notes ≤ length b.notes + (4 * length b.records + 22)
started-few b n t made some small good =
    let ns : List ℕ = n ∷ bus_births n t in
    let f : Board = acted_all Realize ns made in
    let c : Board = started n t made in
    let same : f ≡ phased Realize ns made = same-acts Realize ns made in
    let so : StartedSo f n c = told-so n f in
    let noted : length f.notes ≡ length made.notes + length ns = ap (λ (x : Board). length x.notes) same ∙ phased-notes Realize ns made in
    let size : length f.records ≡ length made.records =
    ap (λ (x : Board). length x.records) same ∙ shape-size made (phased Realize ns made) (shape-phased Realize ns made) in
    let all : length (post f n) ≡ length (post c n) = ap (λ (xs : List ℕ). length xs) (sym (shape-post f c so.shape n)) in
    let last : length c.notes ≡ length (plugged f n).notes = refl in
    whole (length c.notes) (length c.records) (length f.notes) (length f.records) (length (bus_births n t)) (length (post f n)) (length (plugged f n).notes)
    noted size last (shape-size f c so.shape) (few-buses n t) (plugged-notes f n)
    (subst (λ (k : ℕ). k ≤ length c.records + 1) (sym all) (post-few c (placed c good) n))
  where
    whole : (notes_after size_after notes_then size_then buses below passed : ℕ) → notes_then ≡ length made.notes + suc buses
        → size_then ≡ length made.records → notes_after ≡ passed → size_after ≡ size_then → buses ≤ 1 → passed ≤ notes_then + 3 * below
        → below ≤ size_after + 1 → notes_after ≤ length b.notes + (4 * length b.records + 22)
    whole notes_after size_after notes_then size_then buses below passed noted size same shape bus phases all =
        omega (arith, some, small.0, small.1, noted, size, same, shape, bus, phases, all)

-- a device that is added
pub plugged-few : (b : Board) (t : TypeId) (a : Wanted) (resources : Resources) → 1 ≤ length b.records → SoundDevices (with_plugged b t a resources)
    → length (with_plugged b t a resources).notes ≤ length b.notes + (4 * length b.records + 22)
plugged-few b t a resources some good =
    started-few b (b.born + 1) t (with_device b t a resources) some (device-few b t a resources) good
