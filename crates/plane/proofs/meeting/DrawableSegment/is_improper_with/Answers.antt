use Rattle.std.proofs.Common.{◌≡◌, ◌||◌, ◌∙◌}
use Rattle.plane.specs.Meeting.{crossing, inside}
use Rattle.plane.proofs.Steps.{or_then, or_else, or_turned}
use Rattle.plane.proofs.meeting.DrawableSegment.is_improper_with.Goals as goal
use Rattle.plane.proofs.meeting.DrawableSegment.is_improper_with.Goals.{then-has_inside, else-has_inside}

pub returns-then-has_inside-2 : goal.returns-then-has_inside-2
returns-then-has_inside-2 c =
    let l = c.args.self.segment in
    let m = c.args.other.segment in
    let ends : c.if-has_inside.value ≡ ((inside l m.low || inside l m.high) || (inside m l.low || inside m l.high)) =
    elim c.if-has_inside.branch [
      | then-has_inside w ↦ w.value-is ∙ or_then (inside m l.low || inside m l.high) c.has_inside.ensures w.if-has_inside.true
      | else-has_inside w ↦ w.value-is ∙ or_else c.has_inside.ensures w.has_inside-else-has_inside.ensures w.if-has_inside.false
    ] in
    or_then (crossing l m) ends c.if-has_inside-2.true ∙ or_turned (inside l m.low) (inside l m.high) (inside m l.low) (inside m l.high) (crossing l m)

pub returns-else-has_inside-2 : goal.returns-else-has_inside-2
returns-else-has_inside-2 c =
    let l = c.args.self.segment in
    let m = c.args.other.segment in
    let ends : c.if-has_inside.value ≡ ((inside l m.low || inside l m.high) || (inside m l.low || inside m l.high)) =
    elim c.if-has_inside.branch [
      | then-has_inside w ↦ w.value-is ∙ or_then (inside m l.low || inside m l.high) c.has_inside.ensures w.if-has_inside.true
      | else-has_inside w ↦ w.value-is ∙ or_else c.has_inside.ensures w.has_inside-else-has_inside.ensures w.if-has_inside.false
    ] in
    or_else ends c.crosses.ensures c.if-has_inside-2.false ∙ or_turned (inside l m.low) (inside l m.high) (inside m l.low) (inside m l.high) (crossing l m)
