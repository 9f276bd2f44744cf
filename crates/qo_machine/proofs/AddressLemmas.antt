-- The device at an address is there, on a board whose tree is sound; and what asking, refusing and taking notices leave of the tree.
use Rattle.std.proofs.Common.{◌≡◌, refl, ap, sym, ◌∙◌, ℕ, Bool, true, false, List, [], ◌∷◌, filter_map, Option, Some, None, if◌then◌else◌, ◌&&◌, codes, subst}
use Rattle.std.specs.Prelude.{find, not, option_and_then, option_map}
use Rattle.std.specs.List.{AllByRecursion, cons_option}
use Rattle.std.specs.Str.{bytes_eq}
use Rattle.std.proofs.lemmas.Option.{same_Some}
use Rattle.qo_guest.specs.declared.addresses.Addr.{Addr}
use Rattle.qo_guest.specs.declared.addresses.Addr.TheVariants.{Slots, Mem}
use Rattle.qo_buses.specs.Addresses.{addressed}
use Rattle.qo_model.specs.Board.{Board, Slot, plain, child, strong, weak, alias, is_live, slots_at}
use Rattle.qo_model.specs.Devices.{bus_in, clock_name, first_bus, found_at, kid_at, kid_name, strong_in}
use Rattle.qo_model.specs.Hotplug.{refused}
use Rattle.qo_model.specs.Paths.{is_of}
use Rattle.qo_model.specs.SoundGraph.{graph_of}
use Rattle.qo_model.proofs.TreeLemmas.{frame_lem}
use Rattle.qo_realize.specs.Guest.{polled}
use Rattle.qo_sound.proofs.PresenceLemmas.{IsThere, kids-there}
use Rattle.qo_sound.proofs.ViewLemmas.{rest-from_sound}
use Rattle.qo_sound_devices.proofs.PlacesLemmas.{of-live}
use Rattle.qo_sound.specs.TreeKept.{SoundTree}

-- what the first slot of a name comes to, where all that slots come to passes
first-came : (P : ℕ → Type 0) (f : Slot → Option ℕ) (p : List ℕ × Slot → Bool) (slots : List (List ℕ × Slot)) (m : ℕ)
    → AllByRecursion P (filter_map (λ (s : List ℕ × Slot). f s.1) slots)
    → option_and_then f (option_map (λ (s : List ℕ × Slot). s.1) (find p slots)) ≡ Some m → P m
first-came P f p [] m all e = absurd (let clash : None ≡ Some m = e in cc)
first-came P f p (s ∷ slots) m all e = go (λ rest found. first-came P f p slots m rest found) (f s.1) refl (p s) refl
  where
    later : (o : Option ℕ) → f s.1 ≡ o → AllByRecursion P (filter_map (λ (s : List ℕ × Slot). f s.1) slots)
    later None q = rw q at all
    later (Some k) q = let both : P k × AllByRecursion P (filter_map (λ (s : List ℕ × Slot). f s.1) slots) = rw q at all in both.1

    here : (o : Option ℕ) → f s.1 ≡ o → p s ≡ true → P m
    here None q is = absurd (let clash : None ≡ Some m = rw (is, q) at e in cc)
    here (Some k) q is =
        let both : P k × AllByRecursion P (filter_map (λ (s : List ℕ × Slot). f s.1) slots) = rw q at all in
        let same : k ≡ m = same_Some k m (rw (is, q) at e) in rw (sym same) both.0

    go : (AllByRecursion P (filter_map (λ (s : List ℕ × Slot). f s.1) slots)
        → option_and_then f (option_map (λ (s : List ℕ × Slot). s.1) (find p slots)) ≡ Some m → P m)
        → (o : Option ℕ) → f s.1 ≡ o → (u : Bool) → p s ≡ u → P m
    go again o q true is = here o q is
    go again o q false is = again (later o q) (rw is at e)

kid-there : (b : Board) → SoundTree b → (bus slot d : ℕ) → kid_at b bus slot ≡ Some d → IsThere b d
kid-there b sound bus slot d e =
    first-came (IsThere b) strong_in (λ (s : List ℕ × Slot). bytes_eq s.0 (kid_name slot)) (slots_at b bus) d
    (kids-there b (rest-from_sound b sound).used.firm.linked bus) e

found-there : (b : Board) → SoundTree b → (slots : List ℕ) (bus d : ℕ) → found_at b bus slots ≡ Some d → IsThere b d
found-there b sound [] bus d e = absurd (let clash : None ≡ Some d = e in cc)
found-there b sound (slot ∷ []) bus d e = kid-there b sound bus slot d e
found-there b sound (slot ∷ next ∷ slots) bus d e = kid (λ m is. found-there b sound (next ∷ slots) m d is) (kid_at b bus slot) refl
  where
    below : ((m : ℕ) → found_at b m (next ∷ slots) ≡ Some d → IsThere b d) → (k : ℕ) (o : Option ℕ) → first_bus b k ≡ o
        → option_and_then (λ m. found_at b m (next ∷ slots)) o ≡ Some d → IsThere b d
    below again k None is at_bus = absurd (let clash : None ≡ Some d = at_bus in cc)
    below again k (Some m) is at_bus = again m at_bus

    kid : ((m : ℕ) → found_at b m (next ∷ slots) ≡ Some d → IsThere b d) → (o : Option ℕ) → kid_at b bus slot ≡ o → IsThere b d
    kid again None is =
        absurd (let clash : None ≡ Some d = sym (ap (option_and_then (λ k. option_and_then (λ m. found_at b m (next ∷ slots)) (first_bus b k))) is) ∙ e in cc)
    kid again (Some k) is =
        below again k (first_bus b k) refl (sym (ap (option_and_then (λ k. option_and_then (λ m. found_at b m (next ∷ slots)) (first_bus b k))) is) ∙ e)

pub address-there : (b : Board) → SoundTree b → (at : Addr) (d : ℕ) → addressed b at ≡ Some d → IsThere b d
address-there b sound (Slots slots) d e = found-there b sound slots 6 d e
address-there b sound (Mem slot) d e = kid-there b sound 7 slot d e

-- a bus of an object is there

abbrev first_in : List ℕ → Option ℕ
first_in ms = elim ms [ [] ↦ None | m ∷ _ ↦ Some m ]

first-is : (b : Board) (m : ℕ) (slots : List (List ℕ × Slot)) → first_in (filter_map (bus_in b) slots) ≡ Some m → is_of b (codes "bus") m ≡ true
first-is b m [] e = absurd (let clash : None ≡ Some m = e in cc)
first-is b m ((name, plain v) ∷ slots) e = first-is b m slots e
first-is b m ((name, strong t o) ∷ slots) e = first-is b m slots e
first-is b m ((name, weak t o) ∷ slots) e = first-is b m slots e
first-is b m ((name, alias k p) ∷ slots) e = first-is b m slots e
first-is b m ((name, child k) ∷ slots) e = go (is_of b (codes "bus") k) refl (bytes_eq name clock_name) (first-is b m slots) e
  where
    found : Bool → Bool → Option ℕ
    found bus clock = if bus && not clock then Some k else None

    left : Option ℕ → Option ℕ
    left o = first_in (cons_option o (filter_map (bus_in b) slots))

    go : (bus : Bool) → is_of b (codes "bus") k ≡ bus → (clock : Bool) → (first_in (filter_map (bus_in b) slots) ≡ Some m → is_of b (codes "bus") m ≡ true)
        → left (found bus clock) ≡ Some m → is_of b (codes "bus") m ≡ true
    go true is false rest at = subst (λ (n : ℕ). is_of b (codes "bus") n ≡ true) (same_Some k m at) is
    go true is true rest at = rest at
    go false is clock rest at = rest at

pub bus-live : (b : Board) (d m : ℕ) → first_bus b d ≡ Some m → is_live b m ≡ true
bus-live b d m e = of-live b (codes "bus") m (first-is b m (slots_at b d) e)

-- the tree has no part in removals and notices
beside-tree : (b c : Board) → graph_of b ≡ graph_of c → c.records ≡ b.records → SoundTree b → SoundTree c
beside-tree b c graph records h = (frame_lem.graph b c graph h.0, frame_lem.aliases b c (sym records) h.1)

pub refused-tree : (b : Board) (d : ℕ) → SoundTree b → SoundTree (refused b d)
unfolding graph_of
refused-tree b d h = beside-tree b (refused b d) refl refl h

pub polled-tree : (b : Board) → SoundTree b → SoundTree (polled b)
unfolding graph_of
polled-tree b h = beside-tree b (polled b) refl refl h
