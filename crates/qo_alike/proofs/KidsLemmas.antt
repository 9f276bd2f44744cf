-- The kids on a bus, as a description says them.
use Rattle.std.proofs.Common.{◌≡◌, ◌⊎◌, inl, inr, refl, ap, ap₂, sym, subst, ◌∙◌, ℕ, ◌<◌, Bool, true, false, eqb, List, [], ◌∷◌, filter, filter_map, map, Option, Some, None, unwrap_or, codes, arith}
use Rattle.qo_model.proofs.Common.{AllByRecursion, bytes_eq, PERIPHERAL_BIRTH, Board, Slot, plain, child, strong, weak, alias, slots_at, among, bus_of, bus_slot_of, kid_name, kids_of, strong_in, is_of}
use Rattle.std.proofs.lemmas.Bool.{eqb-true, eq-eqb}
use Rattle.std.proofs.lemmas.Option.{same_Some}
use Rattle.std.proofs.lemmas.Slice.Eq.{bytes_eq-Decides}
use Rattle.std.proofs.Math.Bool.{or-true}
use Rattle.qo_model.proofs.AmongLemmas.{among-all}
use Rattle.qo_model.specs.Properties.{path_text}
use Rattle.qo_model.specs.SoundGraph.{Rises}
use Rattle.qo_save.specs.Described.{description, is_describable}
use Rattle.qo_save.specs.Like.{names, Shown}
use Rattle.qo_sound.proofs.TestLemmas.{clash, clash-back, decide}
use Rattle.qo_sound_devices.specs.SoundPlaces.{child_entries, IsKid, kid_entries, kid_entry, listed}
use Rattle.qo_sound_devices.proofs.DepthLemmas.{kid-of, kids-listed}
use Rattle.qo_sound_devices.proofs.DetachmentLemmas.{listed-kid}
use Rattle.qo_good.specs.Good.{device_path, OneOf}
use Rattle.qo_good.specs.GoodBoards.{IsWhole}
use Rattle.qo_good.proofs.BusLemmas.{bus-told, Stood, stood-all}
use Rattle.qo_good.proofs.ItemLemmas.{births_in, filter_map-map, one-both, one-of}
use Rattle.qo_good.proofs.LayoutLemmas.{bus-said}
use Rattle.qo_good.proofs.PartLemmas.{device_as, devices-said}
use Rattle.qo_good.proofs.PlaceLemmas.{apart, at, device-way, one-listed, rises, stands-named, told}
use Rattle.qo_alike.specs.Seen.{kid_said, kids_said}

-- ---- lists that rise

among-cons : (n x : ℕ) (xs : List ℕ) → among (x ∷ xs) n ≡ true → (n ≡ x) ⊎ (among xs n ≡ true)
among-cons n x xs e = decide (eqb n x) (λ q. inl (eqb-true n x q)) (λ q. inr (rw q at e))

among-first : (x : ℕ) (xs : List ℕ) → among (x ∷ xs) x ≡ true
among-first x xs = let own : eqb x x ≡ true = eq-eqb x x refl in rw own refl

among-more : (n x : ℕ) (xs : List ℕ) → among xs n ≡ true → among (x ∷ xs) n ≡ true
among-more n x xs e = rw e (or-true (eqb n x))

-- two that rise and have the same members are the same
rises-same : (xs ys : List ℕ) → Rises xs → Rises ys → ((n : ℕ) → among xs n ≡ true → among ys n ≡ true) → ((n : ℕ) → among ys n ≡ true → among xs n ≡ true) → xs ≡ ys
rises-same [] [] r s f g = refl
rises-same [] (y ∷ ys) r s f g = clash-back (g y (among-first y ys))
rises-same (x ∷ xs) [] r s f g = clash-back (f x (among-first x xs))
rises-same (x ∷ xs) (y ∷ ys) r s f g =
    ap₂ (λ (n : ℕ) (ns : List ℕ). n ∷ ns) first
    (rises-same xs ys r.1 s.1
    (λ n e. tail n x y ys (among-all (λ m. x < m) xs r.0 n e) first (f n (among-more n x xs e)))
    (λ n e. tail n y x xs (among-all (λ m. y < m) ys s.0 n e) (sym first) (g n (among-more n y ys e))))
  where
    tail : (n p q : ℕ) (qs : List ℕ) → p < n → p ≡ q → among (q ∷ qs) n ≡ true → among qs n ≡ true
    tail n p q qs high same e = by (among-cons n q qs e)
      where
        by : (n ≡ q) ⊎ (among qs n ≡ true) → among qs n ≡ true
        by (inl is) = absurd (omega arith)
        by (inr k) = k

    first : x ≡ y
    first = by (among-cons x y ys (f x (among-first x xs))) (among-cons y x xs (g y (among-first y ys)))
      where
        by : (x ≡ y) ⊎ (among ys x ≡ true) → (y ≡ x) ⊎ (among xs y ≡ true) → x ≡ y
        by (inl is) k = is
        by (inr e) (inl is) = sym is
        by (inr e) (inr k) =
            let high : y < x = among-all (λ m. y < m) ys s.0 x e in
            let low : x < y = among-all (λ m. x < m) xs r.0 y k in
            absurd (omega arith)

-- ---- some of the entries

module _ (test : List ℕ × ℕ → Bool) where
  abbrev kept : List (List ℕ × ℕ) → List ℕ
  kept es = births_in (filter test es)

  kept-all : (P : ℕ → Type 0) (es : List (List ℕ × ℕ)) → AllByRecursion P (births_in es) → AllByRecursion P (kept es)
  kept-all P [] h = tt
  kept-all P (e ∷ es) h = go (test e) refl (kept-all P es h.1)
    where
      go : (t : Bool) → test e ≡ t → AllByRecursion P (kept es) → AllByRecursion P (kept (e ∷ es))
      go true q rest = rw q (h.0, rest)
      go false q rest = rw q rest

  kept-rises : (es : List (List ℕ × ℕ)) → Rises (births_in es) → Rises (kept es)
  kept-rises [] h = tt
  kept-rises (e ∷ es) h = go (test e) refl (kept-rises es h.1)
    where
      go : (t : Bool) → test e ≡ t → Rises (kept es) → Rises (kept (e ∷ es))
      go true q rest = rw q (kept-all (λ m. e.1 < m) es h.0, rest)
      go false q rest = rw q rest

  kept-among : (n : ℕ) (es : List (List ℕ × ℕ)) → OneOf (λ (e : List ℕ × ℕ). (e.1 ≡ n) × (test e ≡ true)) es → among (kept es) n ≡ true
  kept-among n [] one = absurd one
  kept-among n (e ∷ es) one = go (test e) refl one (kept-among n es)
    where
      go : (t : Bool) → test e ≡ t → OneOf (λ (x : List ℕ × ℕ). (x.1 ≡ n) × (test x ≡ true)) (e ∷ es)
          → (OneOf (λ (x : List ℕ × ℕ). (x.1 ≡ n) × (test x ≡ true)) es → among (kept es) n ≡ true) → among (kept (e ∷ es)) n ≡ true
      go true q (inl k) rest = let own : eqb n e.1 ≡ true = eq-eqb n e.1 (sym k.0) in rw (q, own) refl
      go true q (inr k) rest = rw q (among-more n e.1 (kept es) (rest k))
      go false q (inl k) rest = clash (sym k.1 ∙ q)
      go false q (inr k) rest = rw q (rest k)

  among-kept : (n : ℕ) (es : List (List ℕ × ℕ)) → among (kept es) n ≡ true → OneOf (λ (e : List ℕ × ℕ). (e.1 ≡ n) × (test e ≡ true)) es
  among-kept n [] k = clash-back k
  among-kept n (e ∷ es) k = go (test e) refl (among-kept n es)
    where
      go : (t : Bool) → test e ≡ t → (among (kept es) n ≡ true → OneOf (λ (x : List ℕ × ℕ). (x.1 ≡ n) × (test x ≡ true)) es)
          → OneOf (λ (x : List ℕ × ℕ). (x.1 ≡ n) × (test x ≡ true)) (e ∷ es)
      go true q rest = by (among-cons n e.1 (kept es) (rw q at k))
        where
          by : (n ≡ e.1) ⊎ (among (kept es) n ≡ true) → OneOf (λ (x : List ℕ × ℕ). (x.1 ≡ n) × (test x ≡ true)) (e ∷ es)
          by (inl is) = inl (sym is, q)
          by (inr more) = inr (rest more)
      go false q rest = inr (rest (rw q at k))

kids-births : (slots : List (List ℕ × Slot)) → births_in (filter_map kid_entry slots) ≡ filter_map (λ (s : List ℕ × Slot). strong_in s.1) slots
kids-births [] = refl
kids-births ((name, plain v) ∷ slots) = kids-births slots
kids-births ((name, child m) ∷ slots) = kids-births slots
kids-births ((name, strong t None) ∷ slots) = kids-births slots
kids-births ((name, strong t (Some m)) ∷ slots) = ap (λ (ms : List ℕ). m ∷ ms) (kids-births slots)
kids-births ((name, weak t target) ∷ slots) = kids-births slots
kids-births ((name, alias m of) ∷ slots) = kids-births slots

-- ---- the kids of a bus

module _ (b : Board) (h : IsWhole b) (says : is_describable b ≡ true) where
  -- how a kid shows on its bus
  abbrev kid_shown : ℕ → List ℕ × Shown
  kid_shown m = (kid_name (unwrap_or (bus_slot_of b m) 0), names (path_text b m))

  module _ (q : ℕ) (is_bus : is_of b (codes "bus") q ≡ true) (path : List ℕ) (bus_told : path_text b q ≡ path) (leads_back : at b path ≡ Some q) where
    abbrev test : List ℕ × ℕ → Bool
    test e = bytes_eq (device_as b e).bus path

    abbrev es : List (List ℕ × ℕ)
    es = child_entries b PERIPHERAL_BIRTH

    entries-shown : (xs : List (List ℕ × ℕ)) → AllByRecursion (IsKid b q) xs → map (λ (e : List ℕ × ℕ). (e.0, names (path_text b e.1))) xs ≡ map kid_shown (births_in xs)
    entries-shown [] k = refl
    entries-shown (e ∷ xs) k =
        let (slot, (low, (at_slot, name))) = k.0.slot in
        ap₂ (λ (x : List ℕ) (rest : List (List ℕ × Shown)). (x, names (path_text b e.1)) ∷ rest)
        (name ∙ ap (λ (o : Option ℕ). kid_name (unwrap_or o 0)) (sym at_slot)) (entries-shown xs k.1)

    said-shown : (xs : List (List ℕ × ℕ)) → AllByRecursion (Stood b) xs → filter_map (λ (e : List ℕ × ℕ). kid_said path (device_as b e)) xs ≡ map kid_shown (kept test xs)
    said-shown [] k = refl
    said-shown (e ∷ xs) k = go (test e) refl (said-shown xs k.1)
      where
        way : path_text b e.1 ≡ device_path e.0
        way = told b h.order e.1 (device_path e.0) (apart b h.order PERIPHERAL_BIRTH e (omega arith) k.0.here.there) (device-way b h.order e.1 e.0 k.0.here.there)

        go : (t : Bool) → test e ≡ t → filter_map (λ (x : List ℕ × ℕ). kid_said path (device_as b x)) xs ≡ map kid_shown (kept test xs)
            → filter_map (λ (x : List ℕ × ℕ). kid_said path (device_as b x)) (e ∷ xs) ≡ map kid_shown (kept test (e ∷ xs))
        go true q rest =
            let on : kid_said path (device_as b e) ≡ Some (kid_shown e.1) =
            rw q (ap (λ (x : List ℕ). Some (kid_name (unwrap_or (bus_slot_of b e.1) 0), names x)) (sym way)) in
            let first : kept test (e ∷ xs) ≡ e.1 ∷ kept test xs = rw q refl in
            let left : filter_map (λ (x : List ℕ × ℕ). kid_said path (device_as b x)) (e ∷ xs) ≡ kid_shown e.1 ∷ map kid_shown (kept test xs) =
            rw on (ap (λ (ys : List (List ℕ × Shown)). kid_shown e.1 ∷ ys) rest) in
            left ∙ sym (ap (map kid_shown) first)
        go false q rest =
            let off : kid_said path (device_as b e) ≡ None = rw q refl in
            let first : kept test (e ∷ xs) ≡ kept test xs = rw q refl in
            let left : filter_map (λ (x : List ℕ × ℕ). kid_said path (device_as b x)) (e ∷ xs) ≡ map kid_shown (kept test xs) = rw off rest in
            left ∙ sym (ap (map kid_shown) first)

    on-bus : (e : List ℕ × ℕ) (k : Stood b e) → k.on.bus ≡ q → test e ≡ true
    on-bus e k is = (bytes_eq-Decides (device_as b e).bus path).1 (bus-said b h says e k ∙ ap (path_text b) is ∙ bus_told)

    bus-on : (e : List ℕ × ℕ) (k : Stood b e) → test e ≡ true → k.on.bus ≡ q
    bus-on e k is =
        same_Some k.on.bus q
        (sym (bus-told b h.order says e k) ∙ ap (at b) (sym (bus-said b h says e k) ∙ (bytes_eq-Decides (device_as b e).bus path).0 is) ∙ leads_back)

    kid-kept : (n : ℕ) → among (kids_of b q) n ≡ true → among (kept test es) n ≡ true
    kid-kept n e =
        let k = kid-of h.order.devices.places.0 None (λ x. false) b h.order.devices.places.1 q n is_bus (kids-listed n (slots_at b q) e) in
        let one : OneOf (λ (x : List ℕ × ℕ). Stood b x × (x.1 ≡ n)) es =
        one-both (Stood b) (λ (x : List ℕ × ℕ). x.1 ≡ n) es (stood-all b h.order says) (one-listed n es (stands-named b h.order says n k.0)) in
        kept-among test n es (tested es one k.1)
      where
        tested : (xs : List (List ℕ × ℕ)) → OneOf (λ (x : List ℕ × ℕ). Stood b x × (x.1 ≡ n)) xs → bus_of b n ≡ Some q
            → OneOf (λ (x : List ℕ × ℕ). (x.1 ≡ n) × (test x ≡ true)) xs
        tested [] one on = one
        tested (x ∷ xs) (inl k) on = inl (k.1, on-bus x k.0 (same_Some k.0.on.bus q (sym k.0.on.on ∙ ap (bus_of b) k.1 ∙ on)))
        tested (x ∷ xs) (inr one) on = inr (tested xs one on)

    kept-kid : (n : ℕ) → among (kept test es) n ≡ true → among (kids_of b q) n ≡ true
    kept-kid n e =
        let (x, (k, (is, on))) =
        one-of (λ (x : List ℕ × ℕ). Stood b x × ((x.1 ≡ n) × (test x ≡ true))) es
        (one-both (Stood b) (λ (x : List ℕ × ℕ). (x.1 ≡ n) × (test x ≡ true)) es (stood-all b h.order says) (among-kept test n es e)) in
        let kid : listed n (kid_entries b q) ≡ true =
        subst (λ (m : ℕ). listed m (kid_entries b q) ≡ true) is (subst (λ (p : ℕ). listed x.1 (kid_entries b p) ≡ true) (bus-on x k on) k.kid) in
        listed-kid n (slots_at b q) kid

    pub kids-shown : map (λ (e : List ℕ × ℕ). (e.0, names (path_text b e.1))) (kid_entries b q) ≡ kids_said (description b) path
    kids-shown =
        let same : kids_of b q ≡ kept test es =
        rises-same (kids_of b q) (kept test es) (h.order.order.kids q is_bus).1 (kept-rises test es (rises b h.order PERIPHERAL_BIRTH).1) kid-kept kept-kid in
        entries-shown (kid_entries b q) (h.order.devices.places.1.kids q is_bus)
        ∙ ap (map kid_shown) (kids-births (slots_at b q) ∙ same)
        ∙ sym (said-shown es (stood-all b h.order says))
        ∙ sym (filter_map-map (device_as b) (kid_said path) es)
        ∙ ap (filter_map (kid_said path)) (sym (devices-said b h.order))
