use Rattle.qo_memmap.specs.declared.region.TheConstants.{ADDRESS_LIMIT}
use Rattle.qo_memmap.proofs.JoinLemmas.{join-front}
use Rattle.qo_memmap.proofs.join.joined.Goals as goal

pub push_joined-requires : goal.push_joined-requires
push_joined-requires c =
    join-front ADDRESS_LIMIT c.loop-layer.spans.items c.args.layers.now c.loop-layer.layer-index _ c.loop-layer-test.true (c.loop-layer.invariant.are ADDRESS_LIMIT c.requires)
