-- The law: what keeps a board within the profile's limits. Each step does, and there is room for an object that is made.
use Rattle.std.proofs.Common.{◌≡◌, refl, sym, subst, rules, ℕ, ◌+◌, ◌≤◌, ◌<◌, not, ◌==◌, List, [], ◌∷◌, filter, length, ◌++◌, arith}
use Rattle.qo_model.proofs.Common.{⊤, Act, Pre, Update, LIVE_OBJECTS_MAX, TIME_MAX, Board, Record, acted, opening_board, with_body_of, with_path, edit, edited, finish, forgotten, types}
use Rattle.std.proofs.lemmas.List.{length-append, length-map}
use Rattle.std.proofs.lemmas.List.Filters.{length-filter_both}
use Rattle.qo_steps.specs.Changes.{Changes}
use Rattle.qo_steps.specs.Steps.{new_with}
use Rattle.qo_steps.proofs.KeepsLemmas.{StepsKeep, beside-by, slots-by}
use Rattle.qo_steps.proofs.StepsLawLemmas.{any-keep}
use Rattle.qo_sound_clocks.specs.RegisterWrites.{with_registers}
use Rattle.qo_sound_bounds.specs.BoundsKept.{BoundsKeptLaw}
use Rattle.qo_sound_bounds.specs.SoundBounds.{SoundBounds}

-- an edit changes no number of objects, and neither does an act

pub edit-bounds : (n : ℕ) (change : Record → Record) (c : Board) → SoundBounds c → SoundBounds (edit n change c)
edit-bounds n change c h =
    record { room = subst (λ (k : ℕ). k ≤ LIVE_OBJECTS_MAX) (sym (length-map c.records (edited n change))) h.room; time = h.time }

acted-bounds : (act : Act) (n period : ℕ) (c : Board) → SoundBounds c → SoundBounds (acted act n period c)
unfolding acted
acted-bounds act n period c h = let k : SoundBounds _ = edit-bounds n _ c h in record { room = k.room; time = k.time }

beside-bounds : (b c : Board) → c.records ≡ b.records → c.now ≤ TIME_MAX → SoundBounds b → SoundBounds c
beside-bounds b c e le h = record { room = subst (λ (rs : List Record). length rs ≤ LIVE_OBJECTS_MAX) (sym e) h.room; time = le }

-- an object less, and an object more where there is room

finish-bounds : (n : ℕ) (c : Board) → SoundBounds c → SoundBounds (finish c n)
unfolding finish
finish-bounds n c h =
    let parts = length-filter_both (λ (r : Record). not (r.birth == n)) (λ (r : Record). not (not (r.birth == n))) (λ r. refl) c.records in
    let mapped = length-map (filter (λ (r : Record). not (r.birth == n)) c.records) (forgotten n) in
    let before : length c.records ≤ LIVE_OBJECTS_MAX = h.room in
    record { room = omega (arith, parts, mapped, before); time = h.time }

made-room : (c : Board) (r : Record) → length c.records < LIVE_OBJECTS_MAX → length (c.records ++ r ∷ []) ≤ LIVE_OBJECTS_MAX
made-room c r room = let more = length-append c.records (r ∷ []) in omega (arith, more, room)

bounds-steps : StepsKeep (λ t. ⊤) (λ c n. ⊤) SoundBounds
bounds-steps =
    record {
      slots = slots-by SoundBounds (λ n change same c h. edit-bounds n change c h);
      objects = record {
        made = λ t slots c passes room h. record { room = made-room c (new_with c t slots) room; time = h.time };
        attempted = λ count more c own h. record { room = h.room; time = h.time };
        acts = λ act n period c calm on h. acted-bounds act n period c h;
        calls = λ n old new c on h. acted-bounds Update n new (acted Pre n old c) (acted-bounds Pre n old c h);
        bodies = λ n id range c h. edit-bounds n (with_body_of id range) c h;
        keeps_path = λ n path c h. edit-bounds n (with_path path) c h;
      };
      beside = beside-by (λ c n. ⊤) SoundBounds (λ c d k h. beside-bounds c d k.records (subst (λ (now : ℕ). now ≤ TIME_MAX) (sym k.now) h.time) h);
      ends = λ n c free h. finish-bounds n c h;
    }

opening-bounds : SoundBounds opening_board
unfolding opening_board types
opening-bounds = record { room = search rules; time = omega arith }

pub bounds_kept_lem : BoundsKeptLaw
bounds_kept_lem =
    let kept : Changes (λ types b c. SoundBounds b → SoundBounds c) = any-keep SoundBounds bounds-steps in
    record {
      opening = opening-bounds;
      beside = beside-bounds;
      attempt = kept.attempt;
      given_up = kept.given_up;
      cut = kept.cut;
      asked_for = kept.asked_for;
      refused_by = kept.refused_by;
      acts = acted-bounds;
      held_so = λ b n kind. kept.held_so b n kind tt tt;
      released_so = λ b n. kept.released_so b n tt tt;
      pulsed = λ b n kind. kept.pulsed b n kind tt tt;
      set = kept.set;
      scaled = kept.scaled;
      registers = λ b n registers h. edit-bounds n (with_registers registers) b h;
      change = kept.change;
      plugged = λ b a. kept.plugged b a tt;
      detached = λ b d. kept.detached b d tt tt;
      reset = λ b. kept.reset b tt;
    }
