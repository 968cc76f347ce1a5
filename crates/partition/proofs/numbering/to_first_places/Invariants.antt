-- the places from i on are done
use Rattle.std.proofs.Common.{◌≡◌, ◌++◌, map, take, drop}
use Rattle.partition.specs.Codes.{in_codes}
use Rattle.partition.specs.Numbers.{place_of}
use Rattle.partition.proofs.numbering.to_first_places.Given as goal

abbrev pub invariant-loop-i : goal.invariant-loop-i
invariant-loop-i g l = l.labels ≡ take l.i l.initial.labels ++ in_codes g.T.Coded.code g.T.Coded.recode (place_of (map g.T.Coded.code l.initial.labels)) (drop l.i l.initial.labels)
