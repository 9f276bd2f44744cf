-- No timer of a heap is ahead of its time, where the moments of its board are sound.
use Rattle.std.proofs.Common.{◌≡◌, refl, ap, subst, ◌∙◌, ℕ, ◌==◌, Option, Some, None, option_map}
use Rattle.std.specs.Prelude.{IfSome}
use Rattle.qo_values.specs.Registers.{Registers, bare, bridge, dimm, timer, uart}
use Rattle.qo_values.proofs.ListLemmas.{found-has}
use Rattle.qo_kinds.specs.Bodies.{IsInTime, IsTimely, registers_of}
use Rattle.qo_model.specs.Board.{Record}
use Rattle.qo_object.specs.BoardObject.{shown}
use Rattle.qo_object.specs.Content.{Content}
use Rattle.qo_heap.specs.Objects.{content_of}
use Rattle.qo_heap.proofs.BoardReads.{shows-record}
use Rattle.qo_sound_clocks.specs.SoundTimes as times
use Rattle.qo_layout.specs.LineLaws.{TimelyLaw}

in-time : (now : ℕ) (r : Registers) → times.IsTimely now r → IsInTime now r
in-time now (uart u) h = tt
in-time now (timer t) h = h
in-time now (dimm d) h = tt
in-time now (bridge b) h = tt
in-time now bare h = tt

pub timely_lem : TimelyLaw
timely_lem b v s sound n = go (content_of v n) refl
  where
    go : (o : Option Content) → content_of v n ≡ o → IfSome o (λ c. IsTimely v.time c.body)
    go None e = tt
    go (Some c) e =
        in-time v.time (registers_of c.body)
        (subst (λ (now : ℕ). times.IsTimely now (registers_of c.body)) s.now
        (found-has (λ (r : Record). times.IsTimely b.now r.registers) (λ (r : Record). r.birth == n) b.records (shown n c) sound
        (shows-record b v s n ∙ ap (option_map (shown n)) e)))
