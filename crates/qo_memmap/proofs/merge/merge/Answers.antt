use Rattle.qo_memmap.proofs.merge.merge.Goals as goal

pub returns : goal.returns
returns c = rw (c.deref.ensures.value, c.deref-2.ensures.value) at c.merge_both.ensures
