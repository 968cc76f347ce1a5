-- Plan by plan, up to the end or the first fault.
use Rattle.std.proofs.Common.{Some, None, sym, subst}
use Rattle.archivetext.specs.Packing.{Packed}
use Rattle.archivetext.proofs.Chain.{handed, read_as, refused, goes_on, finished}
use Rattle.archivetext.proofs.packing.pack.Goals as goal

pub returns-in_err-archive-in-Ok-Some : goal.returns-in_err-archive-in-Ok-Some
returns-in_err-archive-in-Ok-Some c =
    let text = c.args.text.now in
    let error = c.in_err-archive-in-Ok-Some.field-0.0 in
    let read = read_as c.loop-plan.lines c.in-Ok-Some.field-0 (Some (c.in-Ok-Some.plan, c.in-Ok-Some.behind)) c.in-Ok-Some.ensures c.in-Ok-Some.field-0-is in
    subst (Packed text) (sym (handed _ error c.from_residual-in_err-archive-in-Ok-Some.ensures.1)) (refused text c.loop-plan.lines c.loop-plan.archive c.loop-plan.invariant c.in-Ok-Some.plan c.in-Ok-Some.behind read error c.in_err-archive-in-Ok-Some.ensures)

pub loop-plan-preserved : goal.loop-plan-preserved
loop-plan-preserved c =
    let read = read_as c.loop-plan.lines c.in-Ok-Some.field-0 (Some (c.in-Ok-Some.plan, c.in-Ok-Some.behind)) c.in-Ok-Some.ensures c.in-Ok-Some.field-0-is in
    goes_on c.args.text.now c.loop-plan.lines c.loop-plan.archive c.loop-plan.invariant c.in-Ok-Some.plan c.in-Ok-Some.behind read c.in_ok-archive-in-Ok-Some.archive c.in_ok-archive-in-Ok-Some.ensures

pub returns-in-Ok-None : goal.returns-in-Ok-None
returns-in-Ok-None c =
    let read = read_as c.loop-plan.lines c.in-Ok-None.field-0 None c.in-Ok-None.ensures c.in-Ok-None.field-0-is in
    finished c.args.text.now c.loop-plan.lines c.loop-plan.archive c.loop-plan.invariant read c.in_ok-close-in-Ok-None.field-0 c.in_ok-close-in-Ok-None.ensures
