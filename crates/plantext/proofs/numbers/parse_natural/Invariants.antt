use Rattle.plantext.proofs.Naturals.{Read}
use Rattle.plantext.proofs.numbers.parse_natural.Given as goal

abbrev pub invariant-loop-byte : goal.invariant-loop-byte
invariant-loop-byte l = Read l.most l.digits l.byte-index l.value
