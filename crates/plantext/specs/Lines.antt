-- The line that tells what check found.
use Rattle.std.specs.Prelude.{ℕ, List, ◌++◌, Ok, Err, codes, decimal, Result}
use Rattle.std.specs.Fmt.{signed_decimal}
use Rattle.region.specs.declared.refusals.CheckRefusal.{CheckRefusal}
use Rattle.region.specs.declared.refusals.CheckRefusal.TheVariants.{BadRow, Unsorted, NoTwin, Improper, Unclosed}
use Rattle.region.specs.Check.{check_number}

-- what a refusal names: a row's place, or a corner
abbrev pub named : CheckRefusal → List ℕ
named (BadRow i fault) = codes " row " ++ decimal i
named (Unsorted i) = codes " row " ++ decimal i
named (NoTwin i) = codes " row " ++ decimal i
named (Improper i) = codes " row " ++ decimal i
named (Unclosed v) = codes " at " ++ (signed_decimal v.x ++ (codes " " ++ signed_decimal v.y))

-- `closed N` with the number of rows; else `refused N` with the refusal's number, and what it names
abbrev pub told : ℕ → Result Unit CheckRefusal → List ℕ
told count (Ok _) = codes "closed " ++ decimal count
told count (Err refusal) = codes "refused " ++ (decimal (check_number refusal) ++ named refusal)
