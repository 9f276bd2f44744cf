-- After its pin nothing refers to the object.
use Rattle.std.proofs.Common.{◌≡◌, arith}
use Rattle.qo_object.specs.Content.{without_pin}
use Rattle.qo_heap.proofs.HeapLemmas.{live-edit}
use Rattle.qo_heap.specs.Objects.{pins_of}
use Rattle.qo_properties.proofs.AddLemmas.{unpinned-bare, unpinned-free, unpinned-kind}
use Rattle.qo_properties.proofs.adding.objects.give_up.Goals as goal

pub unpin-requires-clause-pinned : goal.unpin-requires-clause-pinned
unpin-requires-clause-pinned g c = let one : pins_of c.args.heap.now c.args.o.birth ≡ 1 = c.requires.pinned in omega arith

pub finish-requires-clause-live : goal.finish-requires-clause-live
finish-requires-clause-live g c = rw c.unpin.ensures.now (live-edit c.args.o.birth without_pin c.args.heap.now.rows c.args.o c.requires.live)

pub finish-requires-clause-free : goal.finish-requires-clause-free
finish-requires-clause-free g c = unpinned-free c.args.heap.now c.unpin.new.self c.args.o.birth c.unpin.ensures.now c.requires.pinned c.requires.alone

pub finish-requires-clause-bare : goal.finish-requires-clause-bare
finish-requires-clause-bare g c = unpinned-bare c.args.heap.now c.unpin.new.self c.args.o.birth c.unpin.ensures.now c.requires.bare

pub returns : goal.returns
returns g c = unpinned-kind c.args.heap.now c.unpin.new.self c.finish.new.self c.args.o.birth c.unpin.ensures.now c.finish.ensures.now
