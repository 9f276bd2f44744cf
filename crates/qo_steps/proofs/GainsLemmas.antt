-- What a board keeps through every change, and gains: shown of each step.
use Rattle.std.proofs.Common.{◌≡◌, refl, ap, sym, ◌∙◌, append_assoc, append-nil, ℕ, ◌+◌, ◌≤◌, Bool, true, false, not, ◌&&◌, ◌==◌, List, [], ◌++◌, Option, Some, None, is_some, option_map, arith}
use Rattle.qo_model.proofs.Common.{⊤, Act, Pre, Update, TypeId, Board, DeviceEvent, Record, Slot, is_live, kind_of, record_of, acted, with_act_on, with_new, edit, finish, forgotten}
use Rattle.qo_model.specs.declared.notes.Note.{Note}
use Rattle.qo_model.proofs.FinalNotesGrowthLemmas.{last-other}
use Rattle.qo_model.proofs.FinalNotesLemmas.{edit-kind, kind-live}
use Rattle.qo_model.proofs.StepLemmas.{finish-live, finish-record, found_at}
use Rattle.qo_steps.specs.Gains.{Gains, GainsLaw}
use Rattle.qo_steps.specs.Steps.{new_with}
use Rattle.qo_steps.proofs.KeepsLemmas.{StaysBeside, StepsKeep, beside-by, slots-by}
use Rattle.qo_steps.proofs.StepsLawLemmas.{any-relate}

-- a step that a gain goes on by
gains-by : (b c d : Board) → Gains c d → Gains b c → Gains b d
gains-by b c d step h =
    record {
      born = let one : b.born ≤ c.born = h.born in let two : c.born ≤ d.born = step.born in omega (arith, one, two);
      anonymous = let one : b.anonymous ≤ c.anonymous = h.anonymous in let two : c.anonymous ≤ d.anonymous = step.anonymous in omega (arith, one, two);
      notes = (
        h.notes.0 ++ step.notes.0,
        step.notes.1 ∙ ap (λ (xs : List Note). xs ++ step.notes.0) h.notes.1 ∙ append_assoc b.notes h.notes.0 step.notes.0,
      );
      events = (
        h.events.0 ++ step.events.0,
        step.events.1 ∙ ap (λ (xs : List DeviceEvent). xs ++ step.events.0) h.events.1 ∙ append_assoc b.events h.events.0 step.events.0,
      );
      old = λ n young there.
          let same : kind_of d n ≡ kind_of c n =
          step.old n (let low : b.born ≤ c.born = h.born in omega (arith, young, low)) there in
          same ∙ h.old n young (sym (kind-live c n) ∙ ap is_some (sym same) ∙ kind-live d n ∙ there);
      now = step.now ∙ h.now;
      running = step.running ∙ h.running;
      rings = step.rings ∙ h.rings;
    }

-- one that leaves all but the objects, the births and the notes
gains-objects : (c d : Board) → c.born ≤ d.born → d.anonymous ≡ c.anonymous → d.now ≡ c.now → d.running ≡ c.running → d.rings ≡ c.rings
    → (more : List Note) × (d.notes ≡ c.notes ++ more) → (more : List DeviceEvent) × (d.events ≡ c.events ++ more)
    → ((n : ℕ) → n ≤ c.born → is_live d n ≡ true → kind_of d n ≡ kind_of c n) → Gains c d
gains-objects c d born anonymous now running rings notes events old =
    record {
      born = born;
      anonymous = omega (arith, anonymous);
      notes = notes;
      events = events;
      old = old;
      now = now;
      running = running;
      rings = rings;
    }

none-more : {A : Type 0} (xs : List A) → (more : List A) × (xs ≡ xs ++ more)
none-more xs = ([], sym (append-nil xs))

-- an edit that leaves births and types; with a note of an act
gains-edit : (n : ℕ) (change : Record → Record) → ((r : Record) → (change r).birth ≡ r.birth) → ((r : Record) → (change r).kind ≡ r.kind) → (c : Board)
    → Gains c (edit n change c)
gains-edit n change birth kind c =
    gains-objects c (edit n change c) (omega arith) refl refl refl refl (none-more c.notes) (none-more c.events)
    (λ x young there. edit-kind n change birth kind c x)

gains-act : (act : Act) (n period : ℕ) (c : Board) → Gains c (acted act n period c)
unfolding acted
gains-act act n period c =
    gains-objects c (acted act n period c) (omega arith) refl refl refl refl (_, refl) (none-more c.events)
    (λ x young there. edit-kind n (with_act_on act c.now period) (λ r. refl) (λ r. refl) c x)

-- an object more
gains-new : (k : TypeId) (slots : List (List ℕ × Slot)) (c : Board) → Gains c (with_new (new_with c k slots) c)
gains-new k slots c =
    gains-objects c (with_new (new_with c k slots) c) (omega arith) refl refl refl refl (_, refl) (none-more c.events)
    (λ x young there.
    ap (option_map (λ (r : Record). r.kind)) (last-other c.records (new_with c k slots) x (let low : x ≤ c.born = young in grind (arith, low))))

-- the end of an object
gains-end : (n : ℕ) (c : Board) → Gains c (finish c n)
unfolding finish
gains-end n c =
    gains-objects c (finish c n) (omega arith) refl refl refl refl (_, refl) (_, refl)
    (λ x young there. ap (option_map (λ (r : Record). r.kind)) (finish-record c n x (other x there)) ∙ same (record_of c x))
  where
    same : (o : Option Record) → option_map (λ (r : Record). r.kind) (option_map (forgotten n) o) ≡ option_map (λ (r : Record). r.kind) o
    same None = refl
    same (Some r) = refl

    first : (t u : Bool) → (not t && u) ≡ true → t ≡ false
    first true u e = absurd (let clash : false ≡ true = e in cc)
    first false u e = refl

    other : (x : ℕ) → is_live (finish c n) x ≡ true → (x == n) ≡ false
    other x there = first (x == n) (is_live c x) (sym (finish-live c n x) ∙ there)

-- what stands beside the objects
gains-beside : (c d : Board) → StaysBeside c d → Gains c d
gains-beside c d k =
    record {
      born = let same : d.born ≡ c.born = k.born in omega (arith, same);
      anonymous = k.anonymous;
      notes = ([], k.notes ∙ sym (append-nil c.notes));
      events = k.events;
      old = λ n young there. ap (λ (rs : List Record). option_map (λ (r : Record). r.kind) (found_at n rs)) k.records;
      now = k.now;
      running = k.running;
      rings = k.rings;
    }

-- births that were given to objects that are gone, with their notes
gains-attempt : (count : ℕ) (more : List Note) (c : Board) → Gains c (record c { born = c.born + count; notes = c.notes ++ more })
gains-attempt count more c =
    gains-objects c (record c { born = c.born + count; notes = c.notes ++ more }) (omega arith) refl refl refl refl (more, refl) (none-more c.events)
    (λ n young there. refl)

gains-steps : (b : Board) → StepsKeep (λ t. ⊤) (λ c n. ⊤) (Gains b)
gains-steps b =
    record {
      slots =
          slots-by (Gains b)
          (λ n change same c h.
          gains-by b c (edit n change c) (gains-edit n change (λ r. ap (λ (x : Record). x.birth) (same r)) (λ r. ap (λ (x : Record). x.kind) (same r)) c) h);
      objects = record {
        made = λ t slots c passes room h. gains-by b c _ (gains-new t slots c) h;
        attempted = λ count more c own h. gains-by b c _ (gains-attempt count more c) h;
        acts = λ act n period c calm on h. gains-by b c _ (gains-act act n period c) h;
        calls = λ n old new c on h.
            gains-by b (acted Pre n old c) _ (gains-act Update n new (acted Pre n old c)) (gains-by b c _ (gains-act Pre n old c) h);
        bodies = λ n id range c h. gains-by b c _ (gains-edit n _ (λ r. refl) (λ r. refl) c) h;
        keeps_path = λ n path c h. gains-by b c _ (gains-edit n _ (λ r. refl) (λ r. refl) c) h;
      };
      beside = beside-by (λ c n. ⊤) (Gains b) (λ c d k h. gains-by b c d (gains-beside c d k) h);
      ends = λ n c free h. gains-by b c _ (gains-end n c) h;
    }

gains-none : (b : Board) → Gains b b
gains-none b = gains-objects b b (omega arith) refl refl refl refl (none-more b.notes) (none-more b.events) (λ n young there. refl)

pub gains_lem : GainsLaw
gains_lem = any-relate Gains gains-none gains-steps
