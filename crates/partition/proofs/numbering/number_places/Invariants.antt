-- the places before i are numbered, and counted
use Rattle.partition.proofs.Turns.{NumberedBefore}
use Rattle.partition.proofs.numbering.number_places.Given as goal

abbrev pub invariant-loop-i : goal.invariant-loop-i
invariant-loop-i g l = NumberedBefore g.T.Coded.code g.T.Coded.recode l.initial.labels l.labels l.i l.count
