use Rattle.std.proofs.Common.{sym, ◌∙◌, arith}
use Rattle.std.proofs.lemmas.Grind.{common_steps}
use Rattle.archivetext.proofs.Misses.{no_date}
use Rattle.archivetext.proofs.heads.parse_date.Goals as goal
use Rattle.archivetext.proofs.heads.parse_date.Goals.{then-line-ne15-via-then-line-ne15, then-line-ne15-via-else-line-ne15+then-not-starts_with, then-line-ne15-via-else-line-ne15+else-not-starts_with+then-line-ne45, then-line-ne15-via-else-line-ne15+else-not-starts_with+else-line-ne45+then-line-ne45-2}

pub returns-then-line-ne15 : goal.returns-then-line-ne15
returns-then-line-ne15 c =
    elim c.then-line-ne15.branch [
      | then-line-ne15-via-then-line-ne15 w ↦ grind (arith, common_steps)
      | then-line-ne15-via-else-line-ne15+then-not-starts_with w ↦ no_date c.args.line.now (sym w.starts_with.ensures.value ∙ w.if-not-starts_with.true)
      | then-line-ne15-via-else-line-ne15+else-not-starts_with+then-line-ne45 w ↦ grind (arith, common_steps)
      | then-line-ne15-via-else-line-ne15+else-not-starts_with+else-line-ne45+then-line-ne45-2 w ↦ grind (arith, common_steps)
    ]
