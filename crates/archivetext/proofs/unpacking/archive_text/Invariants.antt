use Rattle.std.proofs.Common.{◌-◌, length}
use Rattle.encoding.specs.declared.dates.Date.{Date}
use Rattle.archivetext.proofs.Unpacks.{WrittenSoFar}
use Rattle.archivetext.proofs.unpacking.archive_text.Given as goal

abbrev pub invariant-loop-text : goal.invariant-loop-text
invariant-loop-text l = (date : Date) × WrittenSoFar l.bytes date l.reader l.text.items

abbrev pub decreases-loop-text : goal.decreases-loop-text
decreases-loop-text l = length l.bytes - l.reader.span.at
