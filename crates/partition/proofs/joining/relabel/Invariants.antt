-- the places before this one are done
use Rattle.std.proofs.Common.{◌≡◌, ◌++◌, take, drop}
use Rattle.partition.specs.Codes.{in_codes, recoded}
use Rattle.partition.proofs.joining.relabel.Given as goal

abbrev pub invariant-loop-label : goal.invariant-loop-label
invariant-loop-label g l = l.labels ≡ in_codes g.T.Coded.code g.T.Coded.recode (recoded l.from l.to) (take l.label-index l.initial.labels) ++ drop l.label-index l.initial.labels
