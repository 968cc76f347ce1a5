use Rattle.std.proofs.Common.{◌∙◌, ap₂, rules}
use Rattle.plane.specs.Meeting.{opposite}
use Rattle.plane.proofs.Steps.{back}
use Rattle.plane.proofs.meeting.DrawableSegment.parts.Goals as goal

pub returns : goal.returns
returns c =
    c.are_opposite.ensures ∙ ap₂ opposite (back _ _ (search rules) c.side_of_low.ensures) (back _ _ (search rules) c.side_of_high.ensures)
