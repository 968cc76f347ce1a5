-- Heights and slopes of segments, as fractions.
use Rattle.std.specs.Prelude.{Bool, ◌&&◌, ◌||◌, ℤ, ◌+ℤ◌, ◌-ℤ◌, ◌*ℤ◌, int_le, int_lt}
use Rattle.plane.specs.declared.segment.Segment.{Segment}
use Rattle.plane.specs.Points.{eq_int}
use Rattle.plane.specs.Spots.{Spot}

-- a fraction; all denominators below are positive
pub record Ratio : Type 0 where
  pub over : ℤ
  pub under : ℤ

abbrev pub ratio_lt : Ratio → Ratio → Bool
ratio_lt p q = int_lt (p.over *ℤ q.under) (q.over *ℤ p.under)

abbrev pub ratio_le : Ratio → Ratio → Bool
ratio_le p q = int_le (p.over *ℤ q.under) (q.over *ℤ p.under)

abbrev pub ratio_eq : Ratio → Ratio → Bool
ratio_eq p q = eq_int (p.over *ℤ q.under) (q.over *ℤ p.under)

abbrev pub vertical : Segment → Bool
vertical l = eq_int l.low.x l.high.x

abbrev pub across : Segment → ℤ
across l = l.high.x -ℤ l.low.x

abbrev pub up : Segment → ℤ
up l = l.high.y -ℤ l.low.y

-- of a segment that is not vertical: its slope, and its height straight above or below the spot
abbrev pub slope : Segment → Ratio
slope l = record { over = up l; under = across l }

abbrev pub height : Segment → Spot → Ratio
height l s = record { over = s.k *ℤ (l.low.y *ℤ across l) +ℤ up l *ℤ (s.x -ℤ s.k *ℤ l.low.x); under = s.k *ℤ across l }

-- the height of the spot itself
abbrev pub level : Spot → Ratio
level s = record { over = s.y; under = s.k }

-- l is higher than m just right (left) of the spot: by height, then by slope
abbrev pub higher_right : Spot → Segment → Segment → Bool
higher_right s l m = ratio_lt (height m s) (height l s) || (ratio_eq (height m s) (height l s) && ratio_lt (slope m) (slope l))

abbrev pub higher_left : Spot → Segment → Segment → Bool
higher_left s l m = ratio_lt (height m s) (height l s) || (ratio_eq (height m s) (height l s) && ratio_lt (slope l) (slope m))
