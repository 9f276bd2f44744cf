-- What is shown of a law for a theorem to give it: each step keeps it.
use Rattle.std.proofs.Common.{nat_eq, ◌≡◌, refl, sym, append-nil, ℕ, suc, ◌+◌, ◌≤◌, true, List, [], ◌∷◌, ◌++◌, Option, arith}
use Rattle.qo_model.proofs.Common.{⊤, AllByRecursion, list_any, Act, Pre, Update, TypeId, Val, Range, Board, DeviceEvent, Notice, Record, Slot, add, cut, point, set, with_changed, acted, with_asked, Given, fitted, with_body_of, with_given, with_new, with_path, drop_slot, edit, pin, put_in_order, without_first, without_pin, without_slots, unheld, unnoticed, unseen, without_all}
use Rattle.qo_model.specs.Board.{Removal}
use Rattle.qo_model.specs.declared.notes.Note.{Note}
use Rattle.qo_steps.specs.Steps.{announced, declined, new_with, is_calm, with_hold, with_release, HasEmpty, HasNamed, HasNoticeRoom, HasRoom, HasSlot, IsOfNext, MayAsk, TakesTarget}
use Rattle.qo_steps.proofs.ReleasesLemmas.{KeepsFinish, KeepsReleases, release-each}

-- the steps on slots keep P
pub record SlotSteps (P : Board → Type 0) : Type 0 where
  pub adds : (n : ℕ) (name : List ℕ) (slot : Slot) (c : Board) → P c → P (add n name slot c)
  pub sets : (n i : ℕ) (v : Val) (c : Board) → HasNamed c n i → P c → P (set n i v c)
  pub points : (n i m : ℕ) (c : Board) → TakesTarget c n i m → P c → P (point n i m c)
  pub links : (n i m : ℕ) (c : Board) → HasNamed c n i → P c → P (edit n (with_changed (fitted c m) i) c)
  pub unsees : (n i : ℕ) (c : Board) → HasNamed c n i → P c → P (edit n (with_changed unseen i) c)
  pub gives : (n : ℕ) (b : Board) (props : List Given) (c : Board) → P c → P (edit n (with_given b props) c)
  pub empties : (n i : ℕ) (c : Board) → HasSlot c n i → P c → P (drop_slot c n i)
  pub cuts : (n i : ℕ) (c : Board) → HasEmpty c n i → P c → P (cut n i c)

-- those on objects, where objects are made of types that pass alone, and all that act pass
pub record ObjectSteps (Made : TypeId → Type 0) (On : Board → ℕ → Type 0) (P : Board → Type 0) : Type 0 where
  pub made : (k : TypeId) (slots : List (List ℕ × Slot)) (c : Board) → Made k → HasRoom c → P c → P (with_new (new_with c k slots) c)
  pub attempted : (count : ℕ) (more : List Note) (c : Board) → AllByRecursion (IsOfNext c count) more → P c
      → P (record c { born = c.born + count; notes = c.notes ++ more })
  pub acts : (act : Act) (n period : ℕ) (c : Board) → is_calm act ≡ true → On c n → P c → P (acted act n period c)
  pub calls : (n old new : ℕ) (c : Board) → On c n → P c → P (acted Update n new (acted Pre n old c))
  pub bodies : (n : ℕ) (id : Option (List ℕ)) (range : Option Range) (c : Board) → P c → P (edit n (with_body_of id range) c)
  pub keeps_path : (n : ℕ) (path : Option (List ℕ)) (c : Board) → P c → P (edit n (with_path path) c)

-- and those beside the objects: on pins, on holds, on the lists of devices, and on what is counted and told
pub record BesideSteps (On : Board → ℕ → Type 0) (P : Board → Type 0) : Type 0 where
  pub pins : (n : ℕ) (c : Board) → P c → P (pin c n)
  pub unpins : (n : ℕ) (c : Board) → list_any (nat_eq n) c.pins ≡ true → P c → P (without_pin c n)
  pub holds : (n : ℕ) (c : Board) → On c n → P c → P (with_hold n c)
  pub releases : (n : ℕ) (c : Board) → On c n → P c → P (with_release n c)
  pub clears : (n : ℕ) (c : Board) → On c n → P c → P (unheld n c)
  pub asks : (d : ℕ) (c : Board) → MayAsk c d → P c → P (with_asked c d)
  pub declines : (d : ℕ) (c : Board) → P c → P (declined d c)
  pub forgets : (d : ℕ) (c : Board) → On c d → P c → P (unnoticed d c)
  pub announces : (n : ℕ) (c : Board) → On c n → HasNoticeRoom c → P c → P (announced n c)
  pub counts : (c : Board) → P c → P (record c { anonymous = suc c.anonymous })
  pub tells : (more : List DeviceEvent) (c : Board) → P c → P (record c { events = c.events ++ more })

-- each step keeps P
pub record StepsKeep (Made : TypeId → Type 0) (On : Board → ℕ → Type 0) (P : Board → Type 0) : Type 0 where
  pub slots : SlotSteps P
  pub objects : ObjectSteps Made On P
  pub beside : BesideSteps On P
  pub ends : KeepsFinish P

-- each step outside a release keeps P, and so does a release as a whole
pub record PartsKeep (Made : TypeId → Type 0) (On : Board → ℕ → Type 0) (P : Board → Type 0) : Type 0 where
  pub slots : SlotSteps P
  pub objects : ObjectSteps Made On P
  pub beside : BesideSteps On P
  pub finalizes : KeepsReleases P

-- of P that no change of slots touches
pub slots-by : (P : Board → Type 0)
    → ((n : ℕ) (change : Record → Record) → ((r : Record) → without_slots (change r) ≡ without_slots r) → (c : Board) → P c → P (edit n change c)) → SlotSteps P
unfolding add set point drop_slot cut
slots-by P edits =
    record {
      adds = λ n name slot c h. edits n _ (λ r. refl) c h;
      sets = λ n i v c at h. edits n _ (λ r. refl) c h;
      points = λ n i m c at h. edits n _ (λ r. refl) c h;
      links = λ n i m c at h. edits n _ (λ r. refl) c h;
      unsees = λ n i c at h. edits n _ (λ r. refl) c h;
      gives = λ n b props c h. edits n _ (λ r. refl) c h;
      empties = λ n i c at h. edits n _ (λ r. refl) c h;
      cuts = λ n i c at h. edits n _ (λ r. refl) c h;
    }

-- what each step beside the objects leaves
pub record StaysBeside (c d : Board) : Type 0 where
  pub records : d.records ≡ c.records
  pub born : d.born ≡ c.born
  pub anonymous : c.anonymous ≤ d.anonymous
  pub now : d.now ≡ c.now
  pub running : d.running ≡ c.running
  pub rings : d.rings ≡ c.rings
  pub notes : d.notes ≡ c.notes
  pub events : (more : List DeviceEvent) × (d.events ≡ c.events ++ more)

lists-stay : (pins holds : List ℕ) (pending : List Removal) (notices : List Notice) (c : Board)
    → StaysBeside c (record c { pins = pins; holds = holds; pending = pending; notices = notices })
lists-stay pins holds pending notices c =
    record {
      records = refl;
      born = refl;
      anonymous = omega arith;
      now = refl;
      running = refl;
      rings = refl;
      notes = refl;
      events = ([], sym (append-nil c.events));
    }

-- of P that reads nothing else
pub beside-by : (On : Board → ℕ → Type 0) (P : Board → Type 0) → ((c d : Board) → StaysBeside c d → P c → P d) → BesideSteps On P
unfolding pin
beside-by On P keeps =
    record {
      pins = λ n c h. keeps c (pin c n) (lists-stay (put_in_order n c.pins) c.holds c.pending c.notices c) h;
      unpins = λ n c e h. keeps c (without_pin c n) (lists-stay (without_first n c.pins) c.holds c.pending c.notices c) h;
      holds = λ n c on h. keeps c (with_hold n c) (lists-stay c.pins (c.holds ++ n ∷ []) c.pending c.notices c) h;
      releases = λ n c on h. keeps c (with_release n c) (lists-stay c.pins (without_first n c.holds) c.pending c.notices c) h;
      clears = λ n c on h. keeps c (unheld n c) (lists-stay c.pins (without_all n c.holds) c.pending c.notices c) h;
      asks = λ d c may h. keeps c (with_asked c d) (lists-stay c.pins c.holds (with_asked c d).pending (with_asked c d).notices c) h;
      declines = λ d c h. keeps c (declined d c) (lists-stay c.pins c.holds (declined d c).pending (declined d c).notices c) h;
      forgets = λ d c on h. keeps c (unnoticed d c) (lists-stay c.pins c.holds (unnoticed d c).pending (unnoticed d c).notices c) h;
      announces = λ n c on room h. keeps c (announced n c) (lists-stay c.pins c.holds c.pending (announced n c).notices c) h;
      counts = λ c h.
          keeps c (record c { anonymous = suc c.anonymous })
          (record {
            records = refl;
            born = refl;
            anonymous = omega arith;
            now = refl;
            running = refl;
            rings = refl;
            notes = refl;
            events = ([], sym (append-nil c.events));
          }) h;
      tells = λ more c h.
          keeps c (record c { events = c.events ++ more })
          (record {
            records = refl;
            born = refl;
            anonymous = omega arith;
            now = refl;
            running = refl;
            rings = refl;
            notes = refl;
            events = (more, refl);
          }) h;
    }

-- a release is of such steps
pub parts-by : (Made : TypeId → Type 0) (On : Board → ℕ → Type 0) (P : Board → Type 0) → StepsKeep Made On P → PartsKeep Made On P
parts-by Made On P k =
    record { slots = k.slots; objects = k.objects; beside = k.beside; finalizes = release-each P k.slots.empties k.ends }

-- what new objects of every type keep, those of some types keep
pub typed-by : (Made : TypeId → Type 0) (On : Board → ℕ → Type 0) (P : Board → Type 0) → StepsKeep (λ t. ⊤) On P → StepsKeep Made On P
typed-by Made On P k =
    record {
      slots = k.slots;
      objects = record {
        made = λ t slots c passes room h. k.objects.made t slots c tt room h;
        attempted = k.objects.attempted;
        acts = k.objects.acts;
        calls = k.objects.calls;
        bodies = k.objects.bodies;
        keeps_path = k.objects.keeps_path;
      };
      beside = k.beside;
      ends = k.ends;
    }
