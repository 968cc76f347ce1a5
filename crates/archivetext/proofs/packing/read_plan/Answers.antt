use Rattle.std.proofs.Common.{Err, sym, ap, ◌∙◌, subst, arith}
use Rattle.archivetext.specs.Packing.{left, number, PlanRead}
use Rattle.archivetext.proofs.Steps.{some_pieces, plans_bad}
use Rattle.archivetext.proofs.Chain.{handed, plans_refused, plan_refused, plan_read}
use Rattle.archivetext.proofs.packing.read_plan.Goals as goal

pub returns-in_default-parse_title : goal.returns-in_default-parse_title
returns-in_default-parse_title c =
    let s = c.args.lines in
    let t = c.in-Some.behind in
    let cut = c.in-Some.ensures in
    plans_refused s c.fault.result c.into.result c.into.ensures (λ done. plans_bad c.in-Some.line.now (left s) (left t) cut.0 (some_pieces t.rest.now) (number s) done c.in_default-parse_title.ensures ∙ ap Err (sym c.fault.ensures))

pub returns-in_err-rows : goal.returns-in_err-rows
returns-in_err-rows c =
    let s = c.args.lines in
    let t = c.in-Some.behind in
    let cut = c.in-Some.ensures in
    let error = c.in_err-rows.field-0.0 in
    subst (PlanRead s) (sym (handed _ error c.from_residual-in_err-rows.ensures.1)) (plan_refused s t c.in-Some.line.now c.in-Some-parse_title.title.now cut.0 cut.1 c.in-Some-parse_title.ensures error c.in_err-rows.ensures)

pub returns : goal.returns
returns c =
    let s = c.args.lines in
    let t = c.in-Some.behind in
    let cut = c.in-Some.ensures in
    let read = c.in_ok-rows.ensures in
    (read.0, omega (arith, read.1, cut.2), plan_read s t c.in-Some.line.now c.in-Some-parse_title.title.now cut.0 cut.1 c.in-Some-parse_title.ensures c.in_ok-rows.rows c.in_ok-rows.behind read c.number.result c.number.ensures)
