use Rattle.std.proofs.Common.{◌≡◌, Bool, true, false, nat_eq, ◌&&◌, ℤ, pos, ap, ◌∙◌, rules, w64, SFits, of_z}
use Rattle.std.proofs.Math.Bool.{and_assoc}
use Rattle.plane.specs.declared.point.Point.{Point}
use Rattle.plane.specs.declared.segment.Segment.{Segment}
use Rattle.plane.specs.Points.{eq_int, orientation, precedes}
use Rattle.plane.specs.Meeting.{inside}
use Rattle.plane.proofs.Steps.{zero_bits, and_then, and_else, or_then, or_else}
use Rattle.plane.proofs.meeting.DrawableSegment.has_inside.Goals as goal
use Rattle.plane.proofs.meeting.DrawableSegment.has_inside.Goals.{then-spans, else-spans}

-- of a point between the ends the side tells, and one that is not between them is not inside
module _ (l : Segment) (p : Point) {x : Bool} (spans : x ≡ (precedes l.low p && precedes p l.high)) where
  by_side : (t : ℤ) → SFits w64 t → t ≡ orientation l.low l.high p → x ≡ true → nat_eq (of_z w64 t) 0 ≡ inside l p
  by_side t f e h =
      and_then spans (zero_bits t f ∙ ap (λ z. eq_int z (pos 0)) e) h ∙ and_assoc (precedes l.low p) (precedes p l.high) (eq_int (orientation l.low l.high p) (pos 0))

  beside : x ≡ false → x ≡ inside l p
  beside h =
      and_else (eq_int (orientation l.low l.high p) (pos 0)) spans h ∙ and_assoc (precedes l.low p) (precedes p l.high) (eq_int (orientation l.low l.high p) (pos 0))

pub returns-then-side_of_low-eq0 : goal.returns-then-side_of_low-eq0
returns-then-side_of_low-eq0 c =
    let l = c.args.self.segment in
    let m = c.args.other.segment in
    let low : c.if-spans.value ≡ inside l m.low =
    elim c.if-spans.branch [
      | then-spans w ↦ w.value-is ∙ by_side l m.low c.spans.ensures _ (search rules) w.side_of_low.ensures w.if-spans.true
      | else-spans w ↦ w.value-is ∙ beside l m.low c.spans.ensures w.if-spans.false
    ] in
    or_then (inside l m.high) low c.if-side_of_low-eq0.true

pub returns-then-spans-2 : goal.returns-then-spans-2
returns-then-spans-2 c =
    let l = c.args.self.segment in
    let m = c.args.other.segment in
    let low : c.if-spans.value ≡ inside l m.low =
    elim c.if-spans.branch [
      | then-spans w ↦ w.value-is ∙ by_side l m.low c.spans.ensures _ (search rules) w.side_of_low.ensures w.if-spans.true
      | else-spans w ↦ w.value-is ∙ beside l m.low c.spans.ensures w.if-spans.false
    ] in
    or_else low (by_side l m.high c.spans-else-side_of_low-eq0.ensures _ (search rules) c.side_of_high.ensures c.if-spans-2.true) c.if-side_of_low-eq0.false

pub returns-else-spans-2 : goal.returns-else-spans-2
returns-else-spans-2 c =
    let l = c.args.self.segment in
    let m = c.args.other.segment in
    let low : c.if-spans.value ≡ inside l m.low =
    elim c.if-spans.branch [
      | then-spans w ↦ w.value-is ∙ by_side l m.low c.spans.ensures _ (search rules) w.side_of_low.ensures w.if-spans.true
      | else-spans w ↦ w.value-is ∙ beside l m.low c.spans.ensures w.if-spans.false
    ] in
    or_else low (beside l m.high c.spans-else-side_of_low-eq0.ensures c.if-spans-2.false) c.if-side_of_low-eq0.false
