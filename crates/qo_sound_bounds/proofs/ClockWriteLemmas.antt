-- What a write of a clock leaves of devices, of their holds, and of what clocks go by.
use Rattle.std.proofs.Common.{◌≡◌, refl, ap, ◌∙◌, ℕ, List, Option, Some, None, option_and_then, codes}
use Rattle.qo_model.proofs.Common.{Act, Val, Board, Slot, slots_at, set, with_val, acted, source_of, index_from, is_named, set_named}
use Rattle.qo_values.specs.declared.properties.Val.TheVariants as val
use Rattle.qo_model.specs.Clocks.{weak_in}
use Rattle.qo_model.proofs.FirstSlotLemmas.{named_in, named-changed}
use Rattle.qo_sound.proofs.ReadLemmas.{weak-val}
use Rattle.qo_sound_devices.proofs.UnrealizingLemmas.{Dims, dims-acted, dims-none, dims-set, dims-then, reads}
use Rattle.qo_sound_clocks.proofs.DependenceLemmas.{acted-slots}
use Rattle.qo_sound_clocks.proofs.StepsLemmas.{KeepsNumbers}

pub set-source : (n : ℕ) (name : List ℕ) (v : Val) (b : Board) (k : ℕ) → source_of (set_named n name v b) k ≡ source_of b k
unfolding set
set-source n name v b k = go (index_from (is_named name) 0 (slots_at b n)) refl
  where
    go : (o : Option ℕ) → index_from (is_named name) 0 (slots_at b n) ≡ o → source_of (set_named n name v b) k ≡ source_of b k
    go None e = rw (set_named, e) refl
    go (Some i) e =
        rw (set_named, e)
        (reads (with_val v) n i b (λ slots. option_and_then weak_in (named_in (codes "source") slots))
        (λ slots q. named-changed weak_in (with_val v) (weak-val v) (codes "source") i slots) k)

pub record Written (b c : Board) : Type 0 where
  pub dims : Dims b c
  pub holds : c.holds ≡ b.holds
  pub source : (k : ℕ) → source_of c k ≡ source_of b k

pub written-none : (b : Board) → Written b b
written-none b = record { dims = dims-none b; holds = refl; source = λ k. refl }

pub written-acts : (b : Board) (act : Act) (n period : ℕ) (c : Board) → Written b c → Written b (acted act n period c)
unfolding acted
written-acts b act n period c h =
    record {
      dims = dims-then b c (acted act n period c) h.dims (dims-acted act n period c);
      holds = h.holds;
      source = λ k.
          ap (λ (ss : List (List ℕ × Slot)). option_and_then weak_in (named_in (codes "source") ss)) (acted-slots act n period c k) ∙ h.source k;
    }

pub written-numbers : (b : Board) → KeepsNumbers (Written b)
unfolding set
written-numbers b name no_slot no_mark n v c h =
    record {
      dims = dims-then b c (set_named n name (val.Uint v) c) h.dims (dims-set n name (val.Uint v) no_slot no_mark c);
      holds = go (index_from (is_named name) 0 (slots_at c n)) refl;
      source = λ k. set-source n name (val.Uint v) c k ∙ h.source k;
    }
  where
    go : (o : Option ℕ) → index_from (is_named name) 0 (slots_at c n) ≡ o → (set_named n name (val.Uint v) c).holds ≡ b.holds
    go None e = rw (set_named, e) h.holds
    go (Some i) e = rw (set_named, e) h.holds
