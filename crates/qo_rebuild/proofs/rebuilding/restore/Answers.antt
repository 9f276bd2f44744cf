-- The lists of calls, one after another.
use Rattle.std.proofs.Common.{◌≡◌, Err, rules, List, ◌++◌, map}
use Rattle.std.specs.Prelude.{flat_map}
use Rattle.qo_save.specs.Description.{Description}
use Rattle.qo_save.specs.Rebuilding.{Step, add_device, add_object, add_ring, clock_steps, factor_steps, set_link}
use Rattle.qo_shape.specs.Said.{said}
use Rattle.qo_rebuild.proofs.StepLemmas.{by-error, stays-refused, went-ends, went-first, went-on, went-refused}
use Rattle.qo_rebuild.proofs.rebuilding.restore.Goals as goal

abbrev clock : Description → List Step
clock d = clock_steps d.clock

abbrev rings : Description → List Step
rings d = map add_ring d.rings

abbrev objects : Description → List Step
objects d = map add_object d.objects

abbrev devices : Description → List Step
devices d = map add_device d.devices

abbrev clocks : Description → List Step
clocks d = flat_map factor_steps d.clocks

abbrev links : Description → List Step
links d = map set_link d.links

pub returns-in_err-set_clock : goal.returns-in_err-set_clock
returns-in_err-set_clock g c = λ b s.
    let d : Description = said c.args.description.now in
    let is : c.from_residual.result ≡ Err c.in_err-set_clock.field-0.0 = search rules in
    by-error c.set_clock.new.board c.from_residual.result c.in_err-set_clock.field-0.0 _ is
    (stays-refused (((((clock d ++ rings d) ++ objects d) ++ devices d) ++ clocks d)) (links d) b c.set_clock.new.board c.in_err-set_clock.field-0.0
    (stays-refused ((((clock d ++ rings d) ++ objects d) ++ devices d)) (clocks d) b c.set_clock.new.board c.in_err-set_clock.field-0.0
    (stays-refused (((clock d ++ rings d) ++ objects d)) (devices d) b c.set_clock.new.board c.in_err-set_clock.field-0.0
    (stays-refused ((clock d ++ rings d)) (objects d) b c.set_clock.new.board c.in_err-set_clock.field-0.0
    (stays-refused (clock d) (rings d) b c.set_clock.new.board c.in_err-set_clock.field-0.0
    (c.in_err-set_clock.ensures b s))))))

pub returns-in_err-add_rings : goal.returns-in_err-add_rings
returns-in_err-add_rings g c = λ b s.
    let d : Description = said c.args.description.now in
    let w0 = went-first (clock d) b c.set_clock.new.board (c.in_ok-set_clock.ensures b s) in
    let is : c.from_residual-in_err-add_rings.result ≡ Err c.in_err-add_rings.field-0.0 = search rules in
    by-error c.add_rings.new.board c.from_residual-in_err-add_rings.result c.in_err-add_rings.field-0.0 _ is
    (stays-refused (((((clock d ++ rings d) ++ objects d) ++ devices d) ++ clocks d)) (links d) b c.add_rings.new.board c.in_err-add_rings.field-0.0
    (stays-refused ((((clock d ++ rings d) ++ objects d) ++ devices d)) (clocks d) b c.add_rings.new.board c.in_err-add_rings.field-0.0
    (stays-refused (((clock d ++ rings d) ++ objects d)) (devices d) b c.add_rings.new.board c.in_err-add_rings.field-0.0
    (stays-refused ((clock d ++ rings d)) (objects d) b c.add_rings.new.board c.in_err-add_rings.field-0.0
    (went-refused (clock d) (rings d) b c.set_clock.new.board c.add_rings.new.board c.in_err-add_rings.field-0.0 w0
    (λ e t. rw c.as_slice.ensures.value at (c.in_err-add_rings.ensures e t)))))))

pub returns-in_err-add_objects : goal.returns-in_err-add_objects
returns-in_err-add_objects g c = λ b s.
    let d : Description = said c.args.description.now in
    let w0 = went-first (clock d) b c.set_clock.new.board (c.in_ok-set_clock.ensures b s) in
    let w1 =
    went-on (clock d) (rings d) b c.set_clock.new.board c.add_rings.new.board w0 (λ e t. rw c.as_slice.ensures.value at (c.in_ok-add_rings.ensures e t)) in
    let is : c.from_residual-in_err-add_objects.result ≡ Err c.in_err-add_objects.field-0.0 = search rules in
    by-error c.add_objects.new.board c.from_residual-in_err-add_objects.result c.in_err-add_objects.field-0.0 _ is
    (stays-refused (((((clock d ++ rings d) ++ objects d) ++ devices d) ++ clocks d)) (links d) b c.add_objects.new.board c.in_err-add_objects.field-0.0
    (stays-refused ((((clock d ++ rings d) ++ objects d) ++ devices d)) (clocks d) b c.add_objects.new.board c.in_err-add_objects.field-0.0
    (stays-refused (((clock d ++ rings d) ++ objects d)) (devices d) b c.add_objects.new.board c.in_err-add_objects.field-0.0
    (went-refused ((clock d ++ rings d)) (objects d) b c.add_rings.new.board c.add_objects.new.board c.in_err-add_objects.field-0.0 w1
    (λ e t. rw c.as_slice-2.ensures.value at (c.in_err-add_objects.ensures e t))))))

pub returns-in_err-add_devices : goal.returns-in_err-add_devices
returns-in_err-add_devices g c = λ b s.
    let d : Description = said c.args.description.now in
    let w0 = went-first (clock d) b c.set_clock.new.board (c.in_ok-set_clock.ensures b s) in
    let w1 =
    went-on (clock d) (rings d) b c.set_clock.new.board c.add_rings.new.board w0 (λ e t. rw c.as_slice.ensures.value at (c.in_ok-add_rings.ensures e t)) in
    let w2 = went-on ((clock d ++ rings d)) (objects d) b c.add_rings.new.board c.add_objects.new.board w1
    (λ e t. rw c.as_slice-2.ensures.value at (c.in_ok-add_objects.ensures e t)) in
    let is : c.from_residual-in_err-add_devices.result ≡ Err c.in_err-add_devices.field-0.0 = search rules in
    by-error c.add_devices.new.board c.from_residual-in_err-add_devices.result c.in_err-add_devices.field-0.0 _ is
    (stays-refused (((((clock d ++ rings d) ++ objects d) ++ devices d) ++ clocks d)) (links d) b c.add_devices.new.board c.in_err-add_devices.field-0.0
    (stays-refused ((((clock d ++ rings d) ++ objects d) ++ devices d)) (clocks d) b c.add_devices.new.board c.in_err-add_devices.field-0.0
    (went-refused (((clock d ++ rings d) ++ objects d)) (devices d) b c.add_objects.new.board c.add_devices.new.board c.in_err-add_devices.field-0.0 w2
    (λ e t. rw c.as_slice-3.ensures.value at (c.in_err-add_devices.ensures e t)))))

pub returns-in_err-scale_clocks : goal.returns-in_err-scale_clocks
returns-in_err-scale_clocks g c = λ b s.
    let d : Description = said c.args.description.now in
    let w0 = went-first (clock d) b c.set_clock.new.board (c.in_ok-set_clock.ensures b s) in
    let w1 =
    went-on (clock d) (rings d) b c.set_clock.new.board c.add_rings.new.board w0 (λ e t. rw c.as_slice.ensures.value at (c.in_ok-add_rings.ensures e t)) in
    let w2 = went-on ((clock d ++ rings d)) (objects d) b c.add_rings.new.board c.add_objects.new.board w1
    (λ e t. rw c.as_slice-2.ensures.value at (c.in_ok-add_objects.ensures e t)) in
    let w3 = went-on (((clock d ++ rings d) ++ objects d)) (devices d) b c.add_objects.new.board c.add_devices.new.board w2
    (λ e t. rw c.as_slice-3.ensures.value at (c.in_ok-add_devices.ensures e t)) in
    let is : c.from_residual-in_err-scale_clocks.result ≡ Err c.in_err-scale_clocks.field-0.0 = search rules in
    by-error c.scale_clocks.new.board c.from_residual-in_err-scale_clocks.result c.in_err-scale_clocks.field-0.0 _ is
    (stays-refused (((((clock d ++ rings d) ++ objects d) ++ devices d) ++ clocks d)) (links d) b c.scale_clocks.new.board c.in_err-scale_clocks.field-0.0
    (went-refused ((((clock d ++ rings d) ++ objects d) ++ devices d)) (clocks d) b c.add_devices.new.board c.scale_clocks.new.board
    c.in_err-scale_clocks.field-0.0 w3 (λ e t. rw c.as_slice-4.ensures.value at (c.in_err-scale_clocks.ensures e t))))

pub returns : goal.returns
returns g c = λ b s.
    let d : Description = said c.args.description.now in
    let w0 = went-first (clock d) b c.set_clock.new.board (c.in_ok-set_clock.ensures b s) in
    let w1 =
    went-on (clock d) (rings d) b c.set_clock.new.board c.add_rings.new.board w0 (λ e t. rw c.as_slice.ensures.value at (c.in_ok-add_rings.ensures e t)) in
    let w2 = went-on ((clock d ++ rings d)) (objects d) b c.add_rings.new.board c.add_objects.new.board w1
    (λ e t. rw c.as_slice-2.ensures.value at (c.in_ok-add_objects.ensures e t)) in
    let w3 = went-on (((clock d ++ rings d) ++ objects d)) (devices d) b c.add_objects.new.board c.add_devices.new.board w2
    (λ e t. rw c.as_slice-3.ensures.value at (c.in_ok-add_devices.ensures e t)) in
    let w4 = went-on ((((clock d ++ rings d) ++ objects d) ++ devices d)) (clocks d) b c.add_devices.new.board c.scale_clocks.new.board w3
    (λ e t. rw c.as_slice-4.ensures.value at (c.in_ok-scale_clocks.ensures e t)) in
    went-ends (((((clock d ++ rings d) ++ objects d) ++ devices d) ++ clocks d)) (links d) b c.scale_clocks.new.board c.set_links.new.board c.set_links.result
    w4 (λ e t. rw c.as_slice-5.ensures.value at (c.set_links.ensures e t))
