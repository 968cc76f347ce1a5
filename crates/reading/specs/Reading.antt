-- What a list of segments (lines) says of the ground: a reading.
use Rattle.std.specs.Prelude.{◌≡◌, Bool, true, false, not, List}
use Rattle.algebra.specs.Members.{◌∈◌, Once}
use Rattle.plane.specs.declared.segment.Segment.{Segment}
use Rattle.plane.specs.Meeting.{ordered}
use Rattle.plane.specs.Spots.{Spot, whole, LeftOf, OnSegment, Touches, Crosses, MeetImproperly}

-- no line twice, each from its lesser to its greater end, no two of which meet improperly
pub record Planar (ls : List Segment) : Type 0 where
  pub once : Once ls
  pub ordered : (l : Segment) → l ∈ ls → ordered l ≡ true
  pub proper : (l m : Segment) → l ∈ ls → m ∈ ls → ¬ MeetImproperly l m

-- a spot on no line
abbrev pub Off : List Segment → Spot → Type 0
Off ls s = (l : Segment) → l ∈ ls → ¬ OnSegment l s

-- a leg that touches no line
abbrev pub Clear : List Segment → Spot → Spot → Type 0
Clear ls s t = (l : Segment) → l ∈ ls → ¬ Touches s t l

-- true says covered, false says bare; what is said of a spot on a line does not count
pub record Reading (ls : List Segment) (says : Spot → Bool) : Type 0 where
  pub outside : (s : Spot) → ((l : Segment) → l ∈ ls → LeftOf s (whole l.low) × LeftOf s (whole l.high)) → says s ≡ false
  pub alike : (s t : Spot) → Clear ls s t → says s ≡ says t
  pub changes : (s t : Spot) (l : Segment) → l ∈ ls → Crosses s t l → ((m : Segment) → m ∈ ls → ¬ (m ≡ l) → ¬ Touches s t m) → says s ≡ not (says t)

abbrev pub HasReading : List Segment → Type 0
HasReading ls = (says : Spot → Bool) × Reading ls says

-- there is a reading, and any other says the same of every spot on no line
pub record OneReading (ls : List Segment) : Type 0 where
  pub says : Spot → Bool
  pub is : Reading ls says
  pub only : (other : Spot → Bool) → Reading ls other → (s : Spot) → Off ls s → other s ≡ says s

-- a chain of legs none of which touches a line
pub data Walk (ls : List Segment) : Spot → Spot → Type 0 where
  stay : {s : Spot} → Walk ls s s
  go : {s t u : Spot} → Clear ls s t → Walk ls t u → Walk ls s u
