-- What the rows of a plan are: well formed, and closed.
use Rattle.std.specs.Prelude.{◌≡◌, ℕ, true, false, List, [], ◌∷◌}
use Rattle.algebra.specs.Members.{◌∈◌}
use Rattle.algebra.specs.Parity.{odd, times}
use Rattle.plane.specs.declared.point.Point.{Point}
use Rattle.plane.specs.declared.halfsegment.Halfsegment.{Halfsegment}
use Rattle.plane.specs.Points.{same_point}
use Rattle.plane.specs.Rows.{fit, twin, segment_of, comes_before}
use Rattle.plane.specs.Spots.{MeetImproperly}

-- each row comes before all later ones
abbrev pub Rising : List Halfsegment → Type 0
Rising [] = Unit {0}
Rising (h ∷ rows) = ((g : Halfsegment) → g ∈ rows → comes_before h g ≡ true) × Rising rows

pub record WellFormed (rows : List Halfsegment) : Type 0 where
  pub fits : (h : Halfsegment) → h ∈ rows → fit h ≡ true
  pub rising : Rising rows
  pub paired : (h : Halfsegment) → h ∈ rows → twin h ∈ rows
  pub proper : (g h : Halfsegment) → g ∈ rows → h ∈ rows → ¬ MeetImproperly (segment_of g) (segment_of h)

-- how many rows have the dominating point v
abbrev pub degree : List Halfsegment → Point → ℕ
degree rows v = times (λ h. same_point h.dominating v) rows

-- every corner has an even number of rows
abbrev pub Closed : List Halfsegment → Type 0
Closed rows = (v : Point) → odd (degree rows v) ≡ false
