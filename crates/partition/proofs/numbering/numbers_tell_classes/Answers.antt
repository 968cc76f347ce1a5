-- The theorems on numbers.
use Rattle.partition.proofs.Meaning.{numbers_codes, counts_earlier, each_code_once, joins_numbered}
use Rattle.partition.proofs.Only.{one_numbering}
use Rattle.partition.proofs.numbering.numbers_tell_classes.Goals as goal

pub returns : goal.returns
returns c = record { numbered = numbers_codes; only = one_numbering; earlier = counts_earlier; once = each_code_once; joined = joins_numbered }
