-- What check's answer means, in the words of the plane: the least place, or corner, that is wrong.
use Rattle.std.specs.Prelude.{◌≡◌, ℕ, zero, suc, ◌<◌, true, false, ◌↔◌, List, length, Ok, Err, Result}
use Rattle.algebra.specs.Members.{◌∈◌}
use Rattle.algebra.specs.Parity.{odd}
use Rattle.plane.specs.declared.point.Point.{Point}
use Rattle.plane.specs.declared.halfsegment.Halfsegment.{Halfsegment}
use Rattle.plane.specs.Points.{precedes}
use Rattle.plane.specs.Rows.{fit, twin, segment_of, comes_before}
use Rattle.plane.specs.Spots.{MeetImproperly}
use Rattle.region.specs.declared.refusals.CheckRefusal.{CheckRefusal}
use Rattle.region.specs.declared.refusals.CheckRefusal.TheVariants.{BadRow, Unsorted, NoTwin, Improper, Unclosed}
use Rattle.region.specs.Plans.{Rising, WellFormed, Closed, degree}
use Rattle.region.specs.Check.{row, row_fault, check_of}

-- the least place of a list of n things at which P holds
pub record Least (n : ℕ) (P : ℕ → Type 0) (i : ℕ) : Type 0 where
  pub within : i < n
  pub holds : P i
  pub none_before : (k : ℕ) → k < i → ¬ P k

abbrev pub Nowhere : ℕ → (ℕ → Type 0) → Type 0
Nowhere n P = (k : ℕ) → k < n → ¬ P k

-- the row at the place has an end out of range, or no length
abbrev pub Misfit : List Halfsegment → ℕ → Type 0
Misfit rows i = fit (row rows i) ≡ false

-- it does not come after the row before it
abbrev pub Misplaced : List Halfsegment → ℕ → Type 0
Misplaced rows zero = ⊥
Misplaced rows (suc i) = comes_before (row rows i) (row rows (suc i)) ≡ false

-- its twin is not in the list
abbrev pub Twinless : List Halfsegment → ℕ → Type 0
Twinless rows i = ¬ (twin (row rows i) ∈ rows)

-- its segment shares with another of the list a point that is not an end of both
abbrev pub Crowded : List Halfsegment → ℕ → Type 0
Crowded rows i = (h : Halfsegment) × (h ∈ rows) × MeetImproperly (segment_of (row rows i)) (segment_of h)

-- an odd number of rows at v, and an even number at each point before it
pub record LeastOdd (rows : List Halfsegment) (v : Point) : Type 0 where
  pub uneven : odd (degree rows v) ≡ true
  pub even_before : (w : Point) → precedes w v ≡ true → odd (degree rows w) ≡ false

abbrev pub Verdict : List Halfsegment → Result Unit CheckRefusal → Type 0
Verdict rows (Ok _) = WellFormed rows × Closed rows
Verdict rows (Err (BadRow i fault)) = Least (length rows) (Misfit rows) i × (row_fault (row rows i) ≡ Err fault)
Verdict rows (Err (Unsorted i)) = Nowhere (length rows) (Misfit rows) × Least (length rows) (Misplaced rows) i
Verdict rows (Err (NoTwin i)) = Nowhere (length rows) (Misfit rows) × Rising rows × Least (length rows) (Twinless rows) i
Verdict rows (Err (Improper i)) = Nowhere (length rows) (Misfit rows) × Rising rows × Nowhere (length rows) (Twinless rows) × Least (length rows) (Crowded rows) i
Verdict rows (Err (Unclosed v)) = WellFormed rows × LeastOdd rows v

-- nothing is wrong exactly where the rows are well formed and closed
abbrev pub Accepts : Type 0
Accepts = (rows : List Halfsegment) → (check_of rows ≡ Ok tt) ↔ (WellFormed rows × Closed rows)
