use Rattle.archivetext.proofs.Unpacks.{opened_date, begun, goes_by, ended_at, finished, refused}
use Rattle.archivetext.proofs.unpacking.archive_text.Goals as goal

pub date_line-requires : goal.date_line-requires
date_line-requires c = opened_date c.args.bytes.now c.in_ok-date.date c.in_ok-date.ensures.0

pub loop-text-init : goal.loop-text-init
loop-text-init c = (c.in_ok-date.date, begun c.args.bytes c.in_ok-date.date c.in_ok-date.reader c.in_ok-text.text.items c.in_ok-date.ensures c.in_ok-text.ensures)

pub returns-in_err-plan : goal.returns-in_err-plan
returns-in_err-plan c =
    let so = c.loop-text.invariant in
    refused _ c.from_residual-in_err-plan.result c.args.bytes.now c.in_err-plan.field-0.0 c.from_residual-in_err-plan.ensures.1 (ended_at c.args.bytes.now so.0 c.loop-text.reader c.loop-text.text.items so.1 c.in_err-plan.field-0.0 c.in_err-plan.ensures.value)

pub loop-text-preserved : goal.loop-text-preserved
loop-text-preserved c =
    let so = c.loop-text.invariant in
    (so.0, goes_by c.args.bytes.now so.0 c.loop-text.reader c.loop-text.text.items so.1 c.in_ok-plan.field-0 c.in-Some.plan c.next_plan.new.self c.push_plan.new.text.items c.in-Some.is c.in_ok-plan.ensures.value c.in_ok-plan.ensures.after c.in_ok-push_plan.ensures)

pub returns : goal.returns
returns c =
    let so = c.loop-text.invariant in
    finished c.args.bytes.now so.0 c.loop-text.reader c.loop-text.text.items so.1 c.in_ok-plan.field-0 c.in_default.is c.in_ok-plan.ensures.value
