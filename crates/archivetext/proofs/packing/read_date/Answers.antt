use Rattle.std.proofs.Common.{sym, ◌∙◌}
use Rattle.archivetext.specs.Packing.{left}
use Rattle.archivetext.proofs.Steps.{some_pieces, lines_dated}
use Rattle.archivetext.proofs.Chain.{split_some}
use Rattle.archivetext.proofs.packing.read_date.Goals as goal

pub returns : goal.returns
returns c =
    let s = c.args.lines in
    let t = c.in_ok-line.behind in
    let cut = split_some s c.first.result c.in_ok-line.line t c.first.ensures c.in_ok-line.ensures.ok_part in
    (lines_dated c.in_ok-line.line.now (left s) (left t) cut.0 (some_pieces t.rest.now) c.in_ok-date.date (sym c.parse_date.ensures ∙ c.in_ok-date.ensures.ok_part), cut.1)
