use Rattle.std.proofs.Common.{◌-◌, length}
use Rattle.archive.proofs.WholeReads.{ReadSoFar}
use Rattle.archive.proofs.decoding.read.Given as goal

abbrev pub invariant-loop : goal.invariant-loop
invariant-loop l = ReadSoFar l.bytes l.date l.reader

abbrev pub decreases-loop : goal.decreases-loop
decreases-loop l = length l.bytes - l.reader.span.at
