-- Points with whole coordinates: their range, their order, and the orientation of three.
use Rattle.std.specs.Prelude.{Bool, ◌&&◌, ◌||◌, ℤ, pos, negsuc, ◌-ℤ◌, ◌*ℤ◌, int_le, int_lt}
use Rattle.plane.specs.declared.point.Point.{Point}

abbrev pub eq_int : ℤ → ℤ → Bool
eq_int a b = int_le a b && int_le b a

abbrev pub same_point : Point → Point → Bool
same_point p q = eq_int p.x q.x && eq_int p.y q.y

-- a coordinate is in range from −10,000,000 to 10,000,000
abbrev pub coordinate : ℤ → Bool
coordinate z = int_le (negsuc 9999999) z && int_le z (pos 10000000)

abbrev pub in_range : Point → Bool
in_range p = coordinate p.x && coordinate p.y

-- points are ordered by x, then by y
abbrev pub precedes : Point → Point → Bool
precedes p q = int_lt p.x q.x || (eq_int p.x q.x && int_lt p.y q.y)

-- twice the signed area of the triangle c, a, b: positive where b lies anticlockwise of a, seen from c
abbrev pub orientation : Point → Point → Point → ℤ
orientation a b c = (a.x -ℤ c.x) *ℤ (b.y -ℤ c.y) -ℤ (b.x -ℤ c.x) *ℤ (a.y -ℤ c.y)

-- the point k times as far from the origin
abbrev pub scaled : ℤ → Point → Point
scaled k p = record { x = k *ℤ p.x; y = k *ℤ p.y }
