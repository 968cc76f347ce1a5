use Rattle.reading.proofs.Decided.{closed_reads, one_or_none}
use Rattle.reading.proofs.one_or_none.Goals as goal

pub returns : goal.returns
returns c = record { closed = closed_reads; one = one_or_none }
