-- The law: what keeps the holds of a board sound.
use Rattle.std.proofs.Common.{◌≡◌, ◌⊎◌, inl, inr, refl, ap, sym, subst, ◌∙◌, ℕ, zero, suc, ◌+◌, ◌≤◌, Bool, true, false, ◌==◌, eqb, List, [], ◌∷◌, ◌++◌, length, Option, Some, None, is_some, Ok, arith, slice_get}
use Rattle.qo_model.proofs.Common.{count_by, nat_lt, AllByRecursion, list_any, Registers, MACHINE_BIRTH, Act, TypeId, Board, is_live, clock_scaled, clock_set, acted, among, Change, changed, all_completed, asked, asked_of, completed, device_at, refused, reset_whole, with_attempt, opening_board, attached, births, Wanted, cut_attempt, notice_barred, plug, plug_attempt, resources_of, with_plugged, without_first, below, count, exceeds_depth, post, pulse, released, detach}
use Rattle.std.proofs.lemmas.Bool.{eqb-true, eq-eqb}
use Rattle.std.proofs.lemmas.Bool.Decides.{nat_tests}
use Rattle.std.proofs.lemmas.List.Sums.{sum_by-cons}
use Rattle.qo_model.specs.Reset.{after_hold}
use Rattle.qo_model.specs.Board.{Removal}
use Rattle.qo_model.specs.Hotplug.{is_early}
use Rattle.qo_model.proofs.ChangeScopeLemmas.{changed-stays}
use Rattle.qo_sound.proofs.DeviceScopeLemmas.{devices_stay_lem}
use Rattle.qo_sound.proofs.RecordLemmas.{all-append}
use Rattle.qo_values.proofs.ListLemmas.{all-imply}
use Rattle.qo_sound.proofs.TestLemmas.{decide, clash, clash-back}
use Rattle.qo_sound.proofs.ViewLemmas.{rest-from_sound}
use Rattle.qo_sound_devices.specs.SoundDevices.{SoundDevices}
use Rattle.qo_sound_devices.specs.SoundLists.{IsOn}
use Rattle.qo_sound_devices.specs.SoundPlaces.{stands}
use Rattle.qo_sound_devices.proofs.DevicesLawLemmas.{devices_kept_lem}
use Rattle.qo_sound_devices.proofs.AdditionLemmas.{done, Joined}
use Rattle.qo_sound_devices.proofs.PlugLemmas.{Accepted, after-plug}
use Rattle.qo_sound_devices.proofs.PlugStageLemmas.{accepted-joined}
use Rattle.qo_sound_devices.proofs.ResetLemmas.{detached-below, first-on}
use Rattle.qo_sound_clocks.specs.RegisterWrites.{registers_set, with_registers}
use Rattle.qo_sound_clocks.proofs.WriteLawLemmas.{writes_keep_lem}
use Rattle.qo_sound_clocks.proofs.StepsLemmas.{kept-scaled, kept-set, calls-kept}
use Rattle.qo_sound_phases.specs.SoundPhases.{IsReached, bus}
use Rattle.qo_sound_phases.proofs.ResetTreeLemmas.{forest, kid-leads, Placed, placed, post-reach, reach-post}
use Rattle.qo_sound_phases.proofs.CommandLemmas.{frame, reached-on}
use Rattle.qo_sound_phases.proofs.DetachmentLemmas as detaching
use Rattle.qo_sound_phases.proofs.ForestLemmas.{above, before, Reach}
use Rattle.qo_sound_phases.proofs.FrameLemmas.{Frame, frame-count, dims-frame, dims-reached}
use Rattle.qo_sound_phases.proofs.HoldLemmas.{count-less, count-more, count-shape, held-so, HeldSo, one_if, released-so, ReleasedSo, still-all}
use Rattle.qo_sound_phases.proofs.LawLemmas.{may-reached}
use Rattle.qo_sound_phases.proofs.ListLemmas.{among-right, one-among}
use Rattle.qo_sound_phases.proofs.PlugLemmas.{back, below-new, new-there, reached-on as reached-on_new, reached-old}
use Rattle.qo_sound_phases.proofs.ReachLemmas.{post-reached, reached-live, shape-reached, StaysReached}
use Rattle.qo_sound_phases.proofs.ShapeLemmas.{counted-same, SameShape, shape-acted, shape-count, shape-edit, shape-post, shape-records, shape-then}
use Rattle.qo_sound_bounds.specs.HoldsKept.{HoldsKeptLaw}
use Rattle.qo_sound_bounds.specs.SoundHolds.{SoundHolds}
use Rattle.qo_sound_bounds.proofs.FeedLemmas.{added-placed}
use Rattle.qo_sound_bounds.proofs.ClockWriteLemmas.{Written, written-acts, written-none, written-numbers}
use Rattle.qo_values.specs.declared.kinds.ResetKind.{ResetKind}
use Rattle.qo_values.specs.declared.kinds.ResetKind.TheVariants.{Cold}

-- holds on what is still reached

on-still : (b c : Board) → StaysReached b c → c.holds ≡ b.holds → AllByRecursion (IsReached b) b.holds → AllByRecursion (IsReached c) c.holds
on-still b c stay holds h = subst (AllByRecursion (IsReached c)) (sym holds) (all-imply (IsReached b) (IsReached c) stay b.holds h)

-- what is below a hold is reached, so no other object has one above it

one-or-none : (P : ℕ → Type 0) (f : ℕ → Bool) (rs : List ℕ) → AllByRecursion P rs → (count_by f rs ≡ 0) ⊎ ((r : ℕ) × (P r × (f r ≡ true)))
one-or-none P f [] h = inl (omega arith)
one-or-none P f (r ∷ rs) h = decide (f r) (λ p. inr (r, (h.0, p))) (λ p. by p (one-or-none P f rs h.1))
  where
    by : f r ≡ false → (count_by f rs ≡ 0) ⊎ ((x : ℕ) × (P x × (f x ≡ true)))
        → (count_by f (r ∷ rs) ≡ 0) ⊎ ((x : ℕ) × (P x × (f x ≡ true)))
    by p (inl none) = let zero : one_if (f r) ≡ 0 = ap one_if p in inl (omega (arith, zero, none, sum_by-cons (λ y. one_if (f y)) r rs))
    by p (inr one) = inr one

all-few : (b : Board) → Placed b → AllByRecursion (IsReached b) b.holds → ((n : ℕ) → IsReached b n → count b n ≤ 49) → (n : ℕ) → count b n ≤ 49
all-few b k on few n = go (one-or-none (IsReached b) (λ r. among (post b r) n) b.holds on)
  where
    go : (count b n ≡ 0) ⊎ ((r : ℕ) × (IsReached b r × (among (post b r) n ≡ true))) → count b n ≤ 49
    go (inl none) = omega (arith, none)
    go (inr one) = few n (post-reached b k one.0 n one.1.0 one.1.1)

-- boards of one shape with the same holds

pub shape-holds : (b c : Board) → SameShape b c → c.holds ≡ b.holds → SoundHolds b → SoundHolds c
shape-holds b c shape holds h =
    record {
      on = on-still b c (shape-reached b c shape) holds h.on;
      few = λ n. subst (λ (k : ℕ). k ≤ 49) (sym (shape-count b c shape holds n)) (h.few n);
    }

beside-holds : (b c : Board) → c.records ≡ b.records → c.holds ≡ b.holds → SoundHolds b → SoundHolds c
beside-holds b c records holds h = shape-holds b c (shape-records b c records) holds h

acted-holds : (act : Act) (n period : ℕ) (b : Board) → SoundHolds b → SoundHolds (acted act n period b)
unfolding acted
acted-holds act n period b h = shape-holds b (acted act n period b) (shape-acted act n period b) refl h

-- a hold

deep-none : (b : Board) (n : ℕ) → exceeds_depth b n ≡ false → (o : ℕ) → among (post b n) o ≡ true → count b o ≤ 48
deep-none b n e o i = go (post b n) e i
  where
    go : (os : List ℕ) → list_any (λ x. nat_lt 48 (count b x)) os ≡ false → among os o ≡ true → count b o ≤ 48
    go [] f j = clash-back j
    go (x ∷ os) f j =
        decide (nat_lt 48 (count b x)) (λ p. clash (rw p at f))
        (λ p.
        decide (eqb o x)
        (λ q. subst (λ (y : ℕ). count b y ≤ 48) (sym (eqb-true o x q)) (grind (arith, nat_tests, p)))
        (λ q. go os (rw p at f) (rw q at j)))

held-holds : (b : Board) (n : ℕ) (kind : ResetKind) → IsReached b n → exceeds_depth b n ≡ false → SoundHolds b → SoundHolds (after_hold b n kind)
held-holds b n kind reached e h =
    record {
      on =
          subst (AllByRecursion (IsReached (after_hold b n kind))) (sym s.holds)
          (all-append (IsReached (after_hold b n kind)) b.holds (n ∷ []) (all-imply (IsReached b) (IsReached (after_hold b n kind)) still b.holds h.on)
          (still n reached, tt));
      few = few;
    }
  where
    s : HeldSo b n kind (after_hold b n kind)
    s = held-so b n kind

    still : StaysReached b (after_hold b n kind)
    still = shape-reached b (after_hold b n kind) s.shape

    counted : (o : ℕ) → count (after_hold b n kind) o ≡ count b o + one_if (among (post b n) o)
    counted o =
        count-shape b (after_hold b n kind) s.shape o
        ∙ ap (count_by (λ x. among (post b x) o)) s.holds
        ∙ count-more (λ x. among (post b x) o) n b.holds

    few : (o : ℕ) → count (after_hold b n kind) o ≤ 49
    few o =
        decide (among (post b n) o)
        (λ p.
        let one : one_if (among (post b n) o) ≡ 1 = ap one_if p in
        let low : count b o ≤ 48 = deep-none b n e o p in
        omega (arith, counted o, one, low))
        (λ p.
        let none : one_if (among (post b n) o) ≡ 0 = ap one_if p in
        let low : count b o ≤ 49 = h.few o in
        omega (arith, counted o, none, low))

-- a hold less

fewer-counted : (f : ℕ → Bool) (n : ℕ) (rs : List ℕ) → count_by f (without_first n rs) ≤ count_by f rs
fewer-counted f n [] = omega arith
fewer-counted f n (x ∷ rs) = go (x == n) refl (fewer-counted f n rs)
  where
    go : (t : Bool) → (x == n) ≡ t → count_by f (without_first n rs) ≤ count_by f rs → count_by f (without_first n (x ∷ rs)) ≤ count_by f (x ∷ rs)
    go true p rest = rw p (omega (arith, sum_by-cons (λ y. one_if (f y)) x rs))
    go false p rest =
        rw p (omega (arith, rest, sum_by-cons (λ y. one_if (f y)) x rs, sum_by-cons (λ y. one_if (f y)) x (without_first n rs)))

-- what is counted after it
released-count : (b : Board) (n o : ℕ) → count (released b n) o ≡ count_by (λ x. among (post b x) o) (without_first n b.holds)
released-count b n o =
    count-shape s.less (released b n) s.shape o
    ∙ counted-same (λ x. among (post s.less x) o) (λ x. among (post b x) o) (λ x. ap (λ (os : List ℕ). among os o) (shape-post b s.less s.same x))
    (released b n).holds
    ∙ ap (count_by (λ x. among (post b x) o)) (s.holds ∙ s.fewer)
  where
    s : ReleasedSo b n (released b n)
    s = released-so b n

released-shape : (b : Board) (n : ℕ) → SameShape b (released b n)
released-shape b n =
    let s : ReleasedSo b n (released b n) = released-so b n in
    shape-then b s.less (released b n) s.same s.shape

released-holds : (b : Board) (n : ℕ) → SoundHolds b → SoundHolds (released b n)
released-holds b n h =
    record {
      on =
          subst (AllByRecursion (IsReached (released b n))) (sym (s.holds ∙ s.fewer))
          (still-all (IsReached (released b n)) n b.holds
          (all-imply (IsReached b) (IsReached (released b n)) (shape-reached b (released b n) (released-shape b n)) b.holds h.on));
      few = λ o.
          let low : count b o ≤ 49 = h.few o in
          omega (arith, released-count b n o, fewer-counted (λ x. among (post b x) o) n b.holds, low);
    }
  where
    s : ReleasedSo b n (released b n)
    s = released-so b n

-- both: as many holds as before
pulse-count : (b : Board) (n : ℕ) (kind : ResetKind) (o : ℕ) → count (pulse b n kind) o ≡ count b o
unfolding pulse
pulse-count b n kind o =
    let s : HeldSo b n kind (after_hold b n kind) = held-so b n kind in
    let f : ℕ → Bool = λ x. among (post b x) o in
    released-count (after_hold b n kind) n o
    ∙ counted-same (λ x. among (post (after_hold b n kind) x) o) f (λ x. ap (λ (os : List ℕ). among os o) (shape-post b (after_hold b n kind) s.shape x))
    (without_first n (after_hold b n kind).holds)
    ∙ ap (λ (hs : List ℕ). count_by f (without_first n hs)) s.holds
    ∙ (let less : count_by f (without_first n (b.holds ++ n ∷ [])) + one_if (f n) ≡ count_by f (b.holds ++ n ∷ []) =
    count-less f n (b.holds ++ n ∷ []) (among-right n b.holds (n ∷ []) (one-among n)) in
    let more : count_by f (b.holds ++ n ∷ []) ≡ count_by f b.holds + one_if (f n) = count-more f n b.holds in
    omega (arith, less, more))

-- one more at the end, and then one less
back-all : (P : ℕ → Type 0) (n : ℕ) (rs : List ℕ) → AllByRecursion P rs → AllByRecursion P (without_first n (rs ++ n ∷ []))
back-all P n [] h = rw (eq-eqb n n refl) tt
back-all P n (r ∷ rs) h = go (r == n) refl (back-all P n rs h.1)
  where
    go : (t : Bool) → (r == n) ≡ t → AllByRecursion P (without_first n (rs ++ n ∷ [])) → AllByRecursion P (without_first n ((r ∷ rs) ++ n ∷ []))
    go true p rest = rw p (all-append P rs (n ∷ []) h.1 (subst P (eqb-true r n p) h.0, tt))
    go false p rest = rw p (h.0, rest)

pulse-holds : (b : Board) (n : ℕ) (kind : ResetKind) → SoundHolds b → SoundHolds (pulse b n kind)
unfolding pulse
pulse-holds b n kind h =
    record {
      on =
          subst (AllByRecursion (IsReached (released (after_hold b n kind) n)))
          (sym (s.holds ∙ s.fewer ∙ ap (without_first n) (held-so b n kind).holds))
          (back-all (IsReached (released (after_hold b n kind) n)) n b.holds
          (all-imply (IsReached b) (IsReached (released (after_hold b n kind) n)) (shape-reached b (released (after_hold b n kind) n) shape) b.holds h.on));
      few = λ o. subst (λ (k : ℕ). k ≤ 49) (sym (pulse-count b n kind o)) (h.few o);
    }
  where
    s : ReleasedSo (after_hold b n kind) n (released (after_hold b n kind) n)
    s = released-so (after_hold b n kind) n

    shape : SameShape b (released (after_hold b n kind) n)
    shape = shape-then b (after_hold b n kind) (released (after_hold b n kind) n) (held-so b n kind).shape (released-shape (after_hold b n kind) n)

-- removals that are asked for

asked_of-holds : (b : Board) (d : ℕ) → SoundHolds b → SoundHolds (asked_of b d).board
asked_of-holds b d h =
    decide (attached b d)
    (λ e. decide (is_early b d) (λ f. rw (asked_of, e, f) h)
    (λ f. decide (is_some (notice_barred b)) (λ g. rw (asked_of, e, f, g) h) (λ g. rw (asked_of, e, f, g) (beside-holds b _ refl refl h))))
    (λ e. rw (asked_of, e) h)

asked-holds : (b : Board) (id : List ℕ) → SoundHolds b → SoundHolds (asked b id).board
asked-holds b id h = go (device_at b id) refl
  where
    go : (o : Option ℕ) → device_at b id ≡ o → SoundHolds (asked b id).board
    go None e = rw (asked, e) h
    go (Some d) e = rw (asked, e) (asked_of-holds b d h)

-- where what a reset reaches is as before

frame-holds : (b c : Board) → Placed b → Placed c → Frame b c → StaysReached b c → c.holds ≡ b.holds → SoundHolds b → SoundHolds c
frame-holds b c kb kc f stay holds h = record { on = on; few = all-few c kc on few }
  where
    on : AllByRecursion (IsReached c) c.holds
    on = on-still b c stay holds h.on

    few : (o : ℕ) → IsReached c o → count c o ≤ 49
    few o i = subst (λ (k : ℕ). k ≤ 49) (sym (frame-count b c kb kc f o i holds)) (h.few o)

changed-holds : (b : Board) (change : Change) → SoundDevices b → SoundHolds b → SoundHolds (changed b change)
changed-holds b change d h =
    frame-holds b (changed b change) (placed b d) (placed (changed b change) (devices_kept_lem.change b change d)) (frame b change d) (reached-on b change d)
    (changed-stays b change).holds h

-- writes of clocks
written-holds : (b c : Board) → SoundDevices b → SoundDevices c → Written b c → SoundHolds b → SoundHolds c
written-holds b c d g w h =
    frame-holds b c (placed b d) (placed c g)
    (dims-frame b c w.dims) (dims-reached b c w.dims)
    w.holds h

set-holds : (b d : Board) (c period : ℕ) → clock_set b c period ≡ Ok d → SoundDevices b → SoundHolds b → SoundHolds d
set-holds b d c period e s h =
    written-holds b d s (writes_keep_lem.set_devices b d c period e s)
    (kept-set (Written b) (calls-kept (Written b) (written-acts b)) (written-numbers b) b d c period e (written-none b)) h

scaled-holds : (b d : Board) (c mul div : ℕ) → clock_scaled b c mul div ≡ Ok d → SoundDevices b → SoundHolds b → SoundHolds d
scaled-holds b d c mul div e s h =
    written-holds b d s (writes_keep_lem.scaled_devices b d c mul div e s)
    (kept-scaled (Written b) (calls-kept (Written b) (written-acts b)) (written-numbers b) b d c mul div e (written-none b)) h

-- a device that is added: what is below it has no more holds above it than its bus

more-counted : (f g : ℕ → Bool) (rs : List ℕ) → AllByRecursion (λ r. f r ≡ true → g r ≡ true) rs → count_by f rs ≤ count_by g rs
more-counted f g [] h = omega arith
more-counted f g (r ∷ rs) h =
    decide (f r)
    (λ p.
    let one : one_if (g r) ≡ 1 = ap one_if (h.0 p) in
    let also : one_if (f r) ≡ 1 = ap one_if p in
    omega (arith, one, also, more-counted f g rs h.1, sum_by-cons (λ y. one_if (f y)) r rs, sum_by-cons (λ y. one_if (g y)) r rs))
    (λ p.
    let none : one_if (f r) ≡ 0 = ap one_if p in
    omega (arith, none, more-counted f g rs h.1, sum_by-cons (λ y. one_if (f y)) r rs, sum_by-cons (λ y. one_if (g y)) r rs))

module _ (b : Board) (a : Wanted) (w : SoundDevices b) (h : SoundHolds b) (t : TypeId) (at : ℕ) (k : Accepted b t at a) where
  abbrev c : Board
  c = with_plugged b t a (resources_of b t at a.props)

  abbrev n : ℕ
  n = b.born + 1

  abbrev kb : Placed b
  kb = record { depth = w.places.0; places = w.places.1; firm = (rest-from_sound b w.tree).used.firm }

  j : Joined kb.depth b (b.born + 1) at (resources_of b t at a.props).slot a.id t (done b at (resources_of b t at a.props).slot a.id)
      (with_plugged b t a (resources_of b t at a.props))
  j = accepted-joined w.places.0 b a (rest-from_sound b w.tree) w.places.1 t at k

  kc : Placed (with_plugged b t a (resources_of b t at a.props))
  kc = added-placed b a w t at k

  holds : (with_plugged b t a (resources_of b t at a.props)).holds ≡ b.holds
  holds = (devices_stay_lem.added b t a (resources_of b t at a.props)).holds

  -- who was reached has as many
  old-count : (o : ℕ) → IsReached b o → count (with_plugged b t a (resources_of b t at a.props)) o ≡ count b o
  old-count o i =
      sym (frame-count c b kc kb (back b kb n at (resources_of b t at a.props).slot a.id t c kc j) o i (sym holds))

  stood : stands (with_plugged b t a (resources_of b t at a.props)) (b.born + 1) ≡ true
  stood = new-there b kb n at (resources_of b t at a.props).slot a.id t c kc j

  -- a hold above what is below the device is above its bus
  over-bus : (o : ℕ) → among (post (with_plugged b t a (resources_of b t at a.props)) (b.born + 1)) o ≡ true → (r : ℕ) → IsReached b r
      → among (post (with_plugged b t a (resources_of b t at a.props)) r) o ≡ true → among (post (with_plugged b t a (resources_of b t at a.props)) r) at ≡ true
  over-bus o e r i q =
      above (below c) (births c) (forest c kc) r n o (post-reach c kc r o q) (post-reach c kc n o e) high low
    where
      there : is_live b r ≡ true
      there = reached-live b kb r i

      low : Reach (below c) n r → among (post c r) at ≡ true
      low v = clash (sym there ∙ below-new b kb n at (resources_of b t at a.props).slot a.id t c kc j r v)

      apart : eqb r n ≡ false
      apart = decide (eqb r n) (λ p. clash (sym there ∙ ap (is_live b) (eqb-true r n p) ∙ j.absent)) (λ p. p)

      high : Reach (below c) r n → among (post c r) at ≡ true
      high v = reach-post c kc r at (before (below c) (births c) (forest c kc) r at n v (kid-leads c kc n at stood j.on) apart)

  on : AllByRecursion (IsReached (with_plugged b t a (resources_of b t at a.props))) (with_plugged b t a (resources_of b t at a.props)).holds
  on = on-still b c (reached-on_new b kb n at (resources_of b t at a.props).slot a.id t c kc j) holds h.on

  reached-few : (o : ℕ) → IsReached (with_plugged b t a (resources_of b t at a.props)) o → count (with_plugged b t a (resources_of b t at a.props)) o ≤ 49
  reached-few o i = decide (among (post c n) o) below-it other
    where
      other : among (post c n) o ≡ false → count c o ≤ 49
      other e =
          let was : IsReached b o = reached-old b kb n at (resources_of b t at a.props).slot a.id t c kc j o i e in
          let same : count c o ≡ count b o = old-count o was in
          let few : count b o ≤ 49 = h.few o in
          omega (arith, same, few)

      below-it : among (post c n) o ≡ true → count c o ≤ 49
      below-it e =
          let its : IsReached b at = bus j.goal.is_bus j.goal.owner in
          let same : count c at ≡ count b at = old-count at its in
          let few : count b at ≤ 49 = h.few at in
          let less : count c o ≤ count c at =
          more-counted (λ r. among (post c r) o) (λ r. among (post c r) at) c.holds
          (subst (AllByRecursion (λ r. among (post c r) o ≡ true → among (post c r) at ≡ true)) (sym holds)
          (all-imply (IsReached b) (λ r. among (post c r) o ≡ true → among (post c r) at ≡ true) (λ r v. over-bus o e r v) b.holds h.on)) in
          omega (arith, less, same, few)

  accepted-holds : SoundHolds (with_plugged b t a (resources_of b t at a.props))
  accepted-holds = record { on = on; few = all-few c kc on reached-few }

plug-holds : (b : Board) (a : Wanted) → SoundDevices b → SoundHolds b → SoundHolds (plug b a).board
plug-holds b a w h =
    after-plug SoundHolds b a h (λ t bus stage. beside-holds b (plug_attempt b t bus stage) refl refl h)
    (λ t bus k. accepted-holds b a w h t bus k)

-- a device that is detached, and the reset of the whole board

detach-holds : (b : Board) (d : ℕ) → SoundDevices b → stands b d ≡ true → SoundHolds b → SoundHolds (detach b d)
detach-holds b d s e h = record { on = on; few = all-few (detach b d) (placed (detach b d) (devices_kept_lem.detached b d s e)) on few }
  where
    on : AllByRecursion (IsReached (detach b d)) (detach b d).holds
    on = detaching.holds-left b d s e h.on

    few : (o : ℕ) → IsReached (detach b d) o → count (detach b d) o ≤ 49
    few o i =
        let same : count (detach b d) o ≡ count b o = detaching.counts b d s e o i in
        let low : count b o ≤ 49 = h.few o in
        omega (arith, same, low)

completed-holds : (times : ℕ) (b : Board) → SoundDevices b → SoundHolds b → SoundHolds (all_completed times b)
completed-holds zero b d h = h
completed-holds (suc times) b d h = go (slice_get b.pending 0) refl (completed-holds times)
  where
    go : (o : Option Removal) → slice_get b.pending 0 ≡ o → ((c : Board) → SoundDevices c → SoundHolds c → SoundHolds (all_completed times c))
        → SoundHolds (all_completed (suc times) b)
    go None e rest = rw (all_completed, e) h
    go (Some n) e rest =
        let on : IsOn b n.birth = first-on (IsOn b) b.pending d.lists.pending n e in
        rw (all_completed, e) (rest (completed b n.birth) (detached-below b n.birth d on.0) (detach-holds b n.birth d on.0 h))

reset-holds : (b : Board) → SoundDevices b → SoundHolds b → SoundHolds (reset_whole b)
unfolding reset_whole
reset-holds b d h = pulse-holds (all_completed (length b.pending) b) MACHINE_BIRTH Cold (completed-holds (length b.pending) b d h)

opening-holds : SoundHolds opening_board
unfolding opening_board
opening-holds = record { on = tt; few = λ n. omega arith }

registers-holds : (b : Board) (n : ℕ) (registers : Registers) → SoundHolds b → SoundHolds (registers_set b n registers)
registers-holds b n registers h =
    shape-holds b (registers_set b n registers) (shape-edit n (with_registers registers) (λ r. refl) (λ r. refl) (λ r. refl) b) refl h

pub holds_kept_lem : HoldsKeptLaw
holds_kept_lem =
    record {
      opening = opening-holds;
      beside = beside-holds;
      attempt = λ b t h. beside-holds b (with_attempt b t) refl refl h;
      given_up = λ b t bus stage h. beside-holds b (plug_attempt b t bus stage) refl refl h;
      cut = λ b t i joined h. beside-holds b (cut_attempt b t i joined) refl refl h;
      asked_for = asked-holds;
      refused_by = λ b d h. beside-holds b (refused b d) refl refl h;
      acts = acted-holds;
      held_so = held-holds;
      released_so = released-holds;
      pulsed = pulse-holds;
      set = set-holds;
      scaled = scaled-holds;
      registers = registers-holds;
      change = changed-holds;
      plugged = plug-holds;
      detached = detach-holds;
      reset = reset-holds;
      reached = may-reached;
    }
