use Rattle.std.proofs.Common.{◌∙◌}
use Rattle.plane.proofs.Steps.{and_then, point_before}
use Rattle.plane.proofs.meeting.DrawableSegment.spans.Goals as goal

pub returns-then-lt : goal.returns-then-lt
returns-then-lt c =
    let l = c.args.self.segment in
    let p = c.args.p in
    and_then (c.lt.ensures ∙ point_before l.low p) (c.lt-then-lt.ensures ∙ point_before p l.high) c.if-lt.true
