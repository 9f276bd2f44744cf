-- The two buses of the machine: what is below both is below the machine, so there are no more objects with a region than live ones.
use Rattle.std.proofs.Common.{◌≡◌, refl, ap, sym, ◌∙◌, ℕ, ◌+◌, ◌≤◌, Bool, true, false, eqb, List, [], ◌∷◌, ◌++◌, filter_map, length, codes, arith}
use Rattle.std.specs.List.{flat_map, list_any}
use Rattle.std.proofs.Math.ListN.{length-append}
use Rattle.std.proofs.lemmas.Bool.{eqb-true, eq-eqb}
use Rattle.qo_values.specs.declared.births.TheConstants.{ANONYMOUS_BIRTH, MACHINE_BIRTH, MEMORY_BUS_BIRTH, PERIPHERAL_BIRTH, ROOT_BUS_BIRTH, SYSTEM_CLOCK_BIRTH}
use Rattle.qo_model.specs.Board.{Board, Slot, slots_at}
use Rattle.qo_model.specs.Depth.{among, leads}
use Rattle.qo_model.specs.Opening.{opening_board}
use Rattle.qo_model.specs.Reset.{below, post}
use Rattle.qo_model.specs.SoundGraph.{without_value}
use Rattle.qo_model.specs.Types.{types}
use Rattle.qo_sound_devices.specs.SoundDevices.{SoundDevices}
use Rattle.qo_sound_devices.specs.SoundPlaces.{child_entries, child_entry, owns, owns_it}
use Rattle.qo_sound_phases.proofs.ReachLemmas.{machine-no_bus}
use Rattle.qo_sound_phases.proofs.ResetTreeLemmas.{Placed, bus-leads, placed}
use Rattle.qo_sound_shapes.specs.SoundShape.{SoundShape, unvalued}
use Rattle.qo_sound_shapes.proofs.CompletenessLemmas.{entries-each}
use Rattle.qo_layout.proofs.LengthLemmas.{length-part, post-is}
use Rattle.qo_layout.proofs.MapLemmas.{memory-is, root-is}

-- what is gone over below two of some objects is part of what is gone over below all
length-parts : (f : ℕ → List ℕ) (x y : ℕ) (ms : List ℕ) → eqb x y ≡ false → among ms x ≡ true → among ms y ≡ true
    → length (f x) + length (f y) ≤ length (flat_map f ms)
length-parts f x y [] apart p q = absurd (let clash : false ≡ true = p in cc)
length-parts f x y (m ∷ ms) apart p q = go (eqb x m) refl (eqb y m) refl (length-parts f x y ms apart)
  where
    both : length (f m ++ flat_map f ms) ≡ length (f m) + length (flat_map f ms)
    both = length-append (f m) (flat_map f ms)

    go : (t : Bool) → eqb x m ≡ t → (u : Bool) → eqb y m ≡ u
        → (among ms x ≡ true → among ms y ≡ true → length (f x) + length (f y) ≤ length (flat_map f ms))
        → length (f x) + length (f y) ≤ length (f m ++ flat_map f ms)
    go true e true i rest =
        let same : x ≡ y = eqb-true x m e ∙ sym (eqb-true y m i) in absurd (let clash : false ≡ true = sym apart ∙ eq-eqb x y same in cc)
    go true e false i rest =
        let same : length (f x) ≡ length (f m) = ap (λ (z : ℕ). length (f z)) (eqb-true x m e) in
        let other : length (f y) ≤ length (flat_map f ms) = length-part f y ms (rw i at q) in
        omega (arith, same, other, both)
    go false e true i rest =
        let same : length (f y) ≡ length (f m) = ap (λ (z : ℕ). length (f z)) (eqb-true y m i) in
        let other : length (f x) ≤ length (flat_map f ms) = length-part f x ms (rw e at p) in
        omega (arith, same, other, both)
    go false e false i rest = omega (arith, both, rest (rw e at p) (rw i at q))

-- the entries of children are seen without plain values
entries-unvalued : (slots : List (List ℕ × Slot)) → filter_map child_entry (unvalued slots) ≡ filter_map child_entry slots
entries-unvalued slots = entries-each without_value unseen slots
  where
    unseen : (s : List ℕ × Slot) → child_entry (s.0, without_value s.1) ≡ child_entry s
    unseen (name, Slot.plain v) = refl
    unseen (name, Slot.child m) = refl
    unseen (name, Slot.strong t target) = refl
    unseen (name, Slot.weak t target) = refl
    unseen (name, Slot.alias m property) = refl

abbrev machine_entries : List (List ℕ × ℕ)
machine_entries =
    (codes "peripheral", PERIPHERAL_BIRTH) ∷ (codes "peripheral-anon", ANONYMOUS_BIRTH) ∷ (codes "sysclk", SYSTEM_CLOCK_BIRTH)
    ∷ (codes "root.0", ROOT_BUS_BIRTH) ∷ (codes "mem.0", MEMORY_BUS_BIRTH) ∷ []

module _ (b : Board) (h : SoundDevices b) (shape : SoundShape b) where
  k : Placed b
  k = placed b h

  machine-children : child_entries b MACHINE_BIRTH ≡ machine_entries
  unfolding opening_board types
  machine-children =
      sym (entries-unvalued (slots_at b MACHINE_BIRTH)) ∙ ap (filter_map child_entry) shape.fixed.1.0
      ∙ entries-unvalued (slots_at opening_board MACHINE_BIRTH)

  root-owned : owns b MACHINE_BIRTH ROOT_BUS_BIRTH ≡ true
  root-owned = ap (list_any (owns_it ROOT_BUS_BIRTH)) machine-children

  memory-owned : owns b MACHINE_BIRTH MEMORY_BUS_BIRTH ≡ true
  memory-owned = ap (list_any (owns_it MEMORY_BUS_BIRTH)) machine-children

  pub below-machine : length (post b ROOT_BUS_BIRTH) + length (post b MEMORY_BUS_BIRTH) ≤ length (post b MACHINE_BIRTH)
  below-machine =
      let root : leads (below b) MACHINE_BIRTH ROOT_BUS_BIRTH ≡ true =
      bus-leads b k MACHINE_BIRTH ROOT_BUS_BIRTH (machine-no_bus b k) (root-is b shape) root-owned in
      let memory : leads (below b) MACHINE_BIRTH MEMORY_BUS_BIRTH ≡ true =
      bus-leads b k MACHINE_BIRTH MEMORY_BUS_BIRTH (machine-no_bus b k) (memory-is b shape) memory-owned in
      let whole : length (post b MACHINE_BIRTH) ≡ length (flat_map (post b) (below b MACHINE_BIRTH) ++ MACHINE_BIRTH ∷ []) =
      ap (λ (xs : List ℕ). length xs) (post-is b h MACHINE_BIRTH) in
      omega (
        arith,
        whole,
        length-append (flat_map (post b) (below b MACHINE_BIRTH)) (MACHINE_BIRTH ∷ []),
        length-parts (post b) ROOT_BUS_BIRTH MEMORY_BUS_BIRTH (below b MACHINE_BIRTH) refl root memory,
      )
