use Rattle.std.proofs.Common.{length}
use Rattle.archivetext.proofs.Chain.{Going}
use Rattle.archivetext.proofs.packing.pack.Given as goal

abbrev pub invariant-loop-plan : goal.invariant-loop-plan
invariant-loop-plan l = Going l.fn.text l.lines l.archive

abbrev pub decreases-loop-plan : goal.decreases-loop-plan
decreases-loop-plan l = length l.lines.rest.now
