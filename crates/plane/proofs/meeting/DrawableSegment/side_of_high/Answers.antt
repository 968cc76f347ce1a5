use Rattle.std.proofs.Common.{rules}
use Rattle.plane.proofs.Steps.{drawable_parts, back}
use Rattle.plane.proofs.meeting.DrawableSegment.side_of_high.Goals as goal

pub returns : goal.returns
returns c =
    let l = drawable_parts c.args.self.segment c.args.self.is_drawable in
    back _ _ (search rules) (c.orientation.ensures.exact l.low l.high (drawable_parts c.args.other.segment c.args.other.is_drawable).high)
