use Rattle.std.proofs.Common.{rules}
use Rattle.plantext.proofs.Fields.{fifth_none}
use Rattle.plantext.proofs.lines.parse_row.Goals as goal

pub returns-then-is_some : goal.returns-then-is_some
returns-then-is_some c = search (rules, fifth_none)
