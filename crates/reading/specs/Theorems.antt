-- What is proved of readings.
use Rattle.std.specs.Prelude.{◌≡◌, Bool, true, false, not, ◌⊎◌, ◌↔◌, List}
use Rattle.algebra.specs.Parity.{differ, odd, times}
use Rattle.plane.specs.declared.point.Point.{Point}
use Rattle.plane.specs.declared.segment.Segment.{Segment}
use Rattle.plane.specs.Meeting.{ordered}
use Rattle.plane.specs.Spots.{Spot, Touches, Crosses}
use Rattle.reading.specs.Reading.{Planar, Off, Reading, HasReading, OneReading}
use Rattle.reading.specs.Counting.{ends, degree_at, ClosedLines, passes_under, leg_over, parity, Met}

-- one leg and one line: where they share no point, the line passes under one end of the leg alone exactly where the leg
-- passes over one end of the line alone; where they cross, exactly where it does not
pub record LegAndLine (s t : Spot) (l : Segment) : Type 0 where
  pub apart : ¬ Touches s t l → differ (passes_under s l) (passes_under t l) ≡ differ (leg_over s t l.low) (leg_over s t l.high)
  pub crossed : Crosses s t l → differ (passes_under s l) (passes_under t l) ≡ not (differ (leg_over s t l.low) (leg_over s t l.high))

abbrev pub LegTells : Type 0
LegTells = (s t : Spot) (l : Segment) → ordered l ≡ true → LegAndLine s t l

-- the sum over all lines, modulo 2: the parity at the two ends of a leg, the lines that it crosses, the corners that it passes over
abbrev pub ParitySums : Type 0
ParitySums =
    (ls : List Segment) → Planar ls → (s t : Spot) (meets : Segment → Bool) → Met ls s t meets → differ (parity ls s) (parity ls t) ≡ differ (odd (times meets ls)) (odd (times (leg_over s t) (ends ls)))

-- closed lines have the parity as a reading
abbrev pub ParityReads : Type 0
ParityReads = (ls : List Segment) → Planar ls → ClosedLines ls → Reading ls (parity ls)

-- any two readings agree at each spot on no line, closed or not
abbrev pub ReadingsAgree : Type 0
ReadingsAgree = (ls : List Segment) → Planar ls → (f g : Spot → Bool) → Reading ls f → Reading ls g → (s : Spot) → Off ls s → f s ≡ g s

-- lines with an odd corner have no reading
abbrev pub OddCornerHasNone : Type 0
OddCornerHasNone = (ls : List Segment) → Planar ls → (v : Point) → odd (degree_at ls v) ≡ true → ¬ HasReading ls

-- one reading, or none; and which of the two is told by the corners
abbrev pub OneOrNone : Type 0
OneOrNone = (ls : List Segment) → Planar ls → (ClosedLines ls × OneReading ls) ⊎ ((v : Point) × (odd (degree_at ls v) ≡ true) × ¬ HasReading ls)

-- closed exactly where there is a reading
abbrev pub ClosedReads : Type 0
ClosedReads = (ls : List Segment) → Planar ls → ClosedLines ls ↔ HasReading ls

-- any reading says the ends of a leg that meets each line cleanly, or not at all, alike exactly where it meets an even number
abbrev pub CrossingsCount : Type 0
CrossingsCount =
    (ls : List Segment) → Planar ls → (says : Spot → Bool) → Reading ls says → (s t : Spot) (meets : Segment → Bool) → Met ls s t meets → (says s ≡ says t) ↔ (odd (times meets ls) ≡ false)
