-- What every change of a board keeps of the registers of its objects, where acts, calls back and what is made keep it.
use Rattle.std.proofs.Common.{◌≡◌, ◌≢◌, refl, ap, sym, subst, ◌∙◌, ℕ, Bool, true, false, not, ◌==◌, List, [], ◌∷◌, Option, Some, None}
use Rattle.qo_model.proofs.Common.{⊤, AllByRecursion, body_act, DimmRegisters, Registers, dimm, fresh_registers, Act, Pre, Update, TypeId, Range, Board, Record, acted, with_act_on, with_body_of, with_path, edit, edited, finish, forgotten}
use Rattle.qo_sound.proofs.AdditionStepsLemmas.{KeepsEdits}
use Rattle.qo_sound.proofs.RecordLemmas.{all-append, all-filter, all-map}
use Rattle.qo_steps.specs.Changes.{Changes}
use Rattle.qo_steps.specs.Steps.{is_calm, new_with}
use Rattle.qo_steps.proofs.KeepsLemmas.{StaysBeside, StepsKeep, beside-by, slots-by}
use Rattle.qo_steps.proofs.StepsLawLemmas.{any-keep}

-- what each act but these, Pre with the Update that follows it, what is made, and memory keep at a moment; Q is so between the two
pub record KeepsRegisters (P Q : ℕ → Registers → Type 0) : Type 0 where
  pub fresh : (now : ℕ) (t : TypeId) → P now (fresh_registers t)
  pub act : (act : Act) (now period : ℕ) (r : Registers) → act ≢ Pre → act ≢ Update → P now r → P now (body_act act now period r)
  pub pre : (now old : ℕ) (r : Registers) → P now r → Q now (body_act Pre now old r)
  pub update : (now new : ℕ) (r : Registers) → Q now r → P now (body_act Update now new r)
  pub memory : (now : ℕ) (d : DimmRegisters) → P now (dimm d)

calm-other : (act : Act) → is_calm act ≡ true → act ≢ Pre
calm-other act calm e = absurd (let clash : false ≡ true = sym (ap is_calm e) ∙ calm in cc)

calm-apart : (act : Act) → is_calm act ≡ true → act ≢ Update
calm-apart act calm e = absurd (let clash : false ≡ true = sym (ap is_calm e) ∙ calm in cc)

module _ (P : ℕ → Registers → Type 0) where
  -- the registers of each object of a board
  abbrev On : ℕ → Record → Type 0
  On now r = P now r.registers

  abbrev pub Each : Board → Type 0
  Each b = AllByRecursion (On b.now) b.records

  edited-kept : (now n : ℕ) (change : Record → Record) → ((r : Record) → On now r → On now (change r)) → (r : Record) → On now r
      → On now (edited n change r)
  edited-kept now n change keeps r h = go (r.birth == n) refl
    where
      go : (u : Bool) → (r.birth == n) ≡ u → On now (edited n change r)
      go true e = rw (edited, e) (keeps r h)
      go false e = rw (edited, e) h

  pub edit-kept : (n : ℕ) (change : Record → Record) (c : Board) → ((r : Record) → On c.now r → On c.now (change r)) → Each c
      → Each (edit n change c)
  edit-kept n change c keeps h = all-map (On c.now) (On c.now) (edited n change) (edited-kept c.now n change keeps) c.records h

  pub acted-kept : (act : Act) (n period : ℕ) (c : Board) → ((r : Registers) → P c.now r → P c.now (body_act act c.now period r)) → Each c
      → Each (acted act n period c)
  unfolding acted
  acted-kept act n period c one h = edit-kept n (with_act_on act c.now period) c (λ r k. one r.registers k) h

  -- no change of slots touches them, and no end of an object
  pub slots-kept : KeepsEdits Each
  slots-kept n change same c h = edit-kept n change c (λ r k. subst (On c.now) (sym (same r)) k) h

  pub finish-kept : (n : ℕ) (c : Board) → Each c → Each (finish c n)
  unfolding finish
  finish-kept n c h =
      all-map (On c.now) (On c.now) (forgotten n) (λ r k. k) _ (all-filter (On c.now) (λ (r : Record). not (r.birth == n)) c.records h)

  beside-kept : (c d : Board) → StaysBeside c d → Each c → Each d
  beside-kept c d k h =
      subst (λ (now : ℕ). AllByRecursion (On now) d.records) (sym k.now) (subst (AllByRecursion (On c.now)) (sym k.records) h)

module _ (P Q : ℕ → Registers → Type 0) (keeps : KeepsRegisters P Q) where
  -- Pre and Update of one object
  record BetweenCalls (now n : ℕ) (r : Record) : Type 0 where
    here : (r.birth == n) ≡ true → Q now r.registers
    elsewhere : (r.birth == n) ≡ false → On P now r

  pub kept-calls : (n old new : ℕ) (c : Board) → Each P c → Each P (acted Update n new (acted Pre n old c))
  unfolding acted
  kept-calls n old new c h =
      all-map (BetweenCalls c.now n) (On P c.now) (edited n (with_act_on Update c.now new)) second _
      (all-map (On P c.now) (BetweenCalls c.now n) (edited n (with_act_on Pre c.now old)) first c.records h)
    where
      first : (r : Record) → On P c.now r → BetweenCalls c.now n (edited n (with_act_on Pre c.now old) r)
      first r k = go (r.birth == n) refl
        where
          go : (u : Bool) → (r.birth == n) ≡ u → BetweenCalls c.now n (edited n (with_act_on Pre c.now old) r)
          go true e =
              let none : (r.birth == n) ≡ false → On P c.now (with_act_on Pre c.now old r) =
              λ q. absurd (let clash : true ≡ false = sym e ∙ q in cc) in
              rw (edited, e) (record { here = λ q. keeps.pre c.now old r.registers k; elsewhere = none })
          go false e = rw (edited, e) (record { here = λ q. absurd (let clash : false ≡ true = sym e ∙ q in cc); elsewhere = λ q. k })

      second : (r : Record) → BetweenCalls c.now n r → On P c.now (edited n (with_act_on Update c.now new) r)
      second r k = go (r.birth == n) refl
        where
          go : (u : Bool) → (r.birth == n) ≡ u → On P c.now (edited n (with_act_on Update c.now new) r)
          go true e = rw (edited, e) (keeps.update c.now new r.registers (k.here e))
          go false e = rw (edited, e) (k.elsewhere e)

  body-kept : (now : ℕ) (id : Option (List ℕ)) (range : Option Range) (r : Record) → On P now r → On P now (with_body_of id range r)
  body-kept now id None r h = h
  body-kept now id (Some range) r h = keeps.memory now _

  registers-steps : StepsKeep (λ t. ⊤) (λ c n. ⊤) (Each P)
  registers-steps =
      record {
        slots = slots-by (Each P) (slots-kept P);
        objects = record {
          made = λ t slots c passes room h. all-append (On P c.now) c.records (new_with c t slots ∷ []) h (keeps.fresh c.now t, tt);
          attempted = λ count more c own h. h;
          acts = λ act n period c calm on h.
              acted-kept P act n period c (λ r k. keeps.act act c.now period r (calm-other act calm) (calm-apart act calm) k) h;
          calls = λ n old new c on h. kept-calls n old new c h;
          bodies = λ n id range c h. edit-kept P n (with_body_of id range) c (body-kept c.now id range) h;
          keeps_path = λ n path c h. edit-kept P n (with_path path) c (λ r k. k) h;
        };
        beside = beside-by (λ c n. ⊤) (Each P) (beside-kept P);
        ends = λ n c free h. finish-kept P n c h;
      }

  -- every change keeps them
  pub registers-kept : Changes (λ types b c. Each P b → Each P c)
  registers-kept = any-keep (Each P) registers-steps
