use Rattle.std.proofs.Common.{Err, ap, ◌∙◌}
use Rattle.std.proofs.lemmas.Result.{err_from_is_err_and}
use Rattle.archive.proofs.WholeReads.{opened, ended_at, finished, goes_on, judged}
use Rattle.archive.proofs.decoding.read.Goals as goal
use Rattle.archive.proofs.decoding.read.Goals.{Else-is_some, After-from_residual-in_err-next_plan}

pub loop-init : goal.loop-init
loop-init c = opened c.args.bytes c.in_ok-date.date c.in_ok-date.reader c.in_ok-date.ensures

pub loop-preserved : goal.loop-preserved
loop-preserved c =
    goes_on c.args.bytes.now c.in_ok-date.date c.loop.reader c.loop.invariant c.in_ok-next_plan.field-0 c.next_plan.new.self c.if-is_some.ensures c.in_ok-next_plan.ensures.value c.in_ok-next_plan.ensures.after

pub returns-in_err-next_plan-clause-answer : goal.returns-in_err-next_plan-clause-answer
returns-in_err-next_plan-clause-answer c =
    let p = err_from_is_err_and c.from_residual-in_err-next_plan.result c.from_residual-in_err-next_plan.ensures.1 in
    p.1 ∙ ap Err p.2 ∙ ended_at c.args.bytes.now c.in_ok-date.date c.loop.reader c.loop.invariant c.in_err-next_plan.field-0.0 c.in_err-next_plan.ensures.value

pub returns-in_err-next_plan-clause-verdict : goal.returns-in_err-next_plan-clause-verdict
returns-in_err-next_plan-clause-verdict c = judged c.args.bytes.now c.from_residual-in_err-next_plan.result c.type_inv.bytes (returns-in_err-next_plan-clause-answer c)

pub returns-clause-answer : goal.returns-clause-answer
returns-clause-answer c =
    finished c.args.bytes.now c.in_ok-date.date c.loop.reader c.loop.invariant c.in_ok-next_plan.field-0 c.next_plan.new.self c.if-is_some.ensures c.in_ok-next_plan.ensures.value c.in_ok-next_plan.ensures.after

pub returns-clause-verdict : goal.returns-clause-verdict
returns-clause-verdict c = judged c.args.bytes.now _ c.type_inv.bytes (returns-clause-answer c)
