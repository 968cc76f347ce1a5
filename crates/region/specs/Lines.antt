-- The lines of a plan's rows, and what check's answer says of their readings.
use Rattle.std.specs.Prelude.{◌≡◌, ◌↔◌, List, map, Ok, Err, filter}
use Rattle.plane.specs.declared.point.Point.{Point}
use Rattle.plane.specs.declared.segment.Segment.{Segment}
use Rattle.plane.specs.declared.halfsegment.Halfsegment.{Halfsegment}
use Rattle.plane.specs.Rows.{left, segment_of}
use Rattle.reading.specs.Reading.{Planar, HasReading, OneReading}
use Rattle.reading.specs.Counting.{degree_at, ClosedLines}
use Rattle.region.specs.declared.refusals.CheckRefusal.TheVariants.{Unclosed}
use Rattle.region.specs.Plans.{WellFormed, Closed, degree}
use Rattle.region.specs.Check.{check_of}

-- the segments of the left rows, in their order
abbrev pub lines : List Halfsegment → List Segment
lines rows = map segment_of (filter left rows)

-- of well-formed rows: the lines are planar, as many end at a point as rows have it as their corner, and so the two senses
-- of closed are one
pub record Lined (rows : List Halfsegment) : Type 0 where
  pub planar : Planar (lines rows)
  pub degrees : (v : Point) → degree_at (lines rows) v ≡ degree rows v
  pub closed : Closed rows ↔ ClosedLines (lines rows)

abbrev pub RowsHaveLines : Type 0
RowsHaveLines = (rows : List Halfsegment) → WellFormed rows → Lined rows

-- on well-formed rows check finds nothing wrong exactly where there is one reading, and says unclosed exactly where there is none
pub record Read (rows : List Halfsegment) : Type 0 where
  pub accepted : (check_of rows ≡ Ok tt) ↔ OneReading (lines rows)
  pub unclosed : ((v : Point) × (check_of rows ≡ Err (Unclosed v))) ↔ (¬ HasReading (lines rows))

abbrev pub CheckReads : Type 0
CheckReads = (rows : List Halfsegment) → WellFormed rows → Read rows
