use Rattle.qo_machine.proofs.ChunkLemmas.{chunks_are_free}
use Rattle.qo_machine.proofs.laws.law_chunks.Goals as goal

pub returns : goal.returns
returns c = chunks_are_free
