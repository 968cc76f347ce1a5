-- The triangle and two of its sides are planar, by the tests (`planar_by`), and so `triangle_reads`.
use Rattle.std.proofs.Common.{◌≡◌, Bool, true, false, not, List, [], ◌∷◌, pos, sym, refl, ◌∙◌, arith}
use Rattle.algebra.specs.Members.{◌∈◌, any, Once}
use Rattle.algebra.specs.Parity.{differ}
use Rattle.algebra.proofs.Members.{none, apart, none_in, any_in}
use Rattle.algebra.proofs.Parity.{odd_counts}
use Rattle.plane.specs.declared.point.Point.{Point}
use Rattle.plane.specs.declared.segment.Segment.{Segment}
use Rattle.plane.specs.Points.{same_point}
use Rattle.plane.specs.Meeting.{ordered, improper}
use Rattle.plane.proofs.Meetings.{signs_tell}
use Rattle.reading.specs.Reading.{Planar}
use Rattle.reading.specs.Counting.{ends, ClosedLines}
use Rattle.reading.specs.Example.{at, level, upright, slanted, two_sides, triangle, Triangle}
use Rattle.reading.proofs.Lists.{same_line, same_line_holds}
use Rattle.reading.proofs.Parities.{parity_reads}
use Rattle.reading.proofs.Unclosed.{odd_corner_has_none}

pub new_in : (l : Segment) (ls : List Segment) → any (same_line l) ls ≡ false → ¬ (l ∈ ls)
new_in l ls e i = apart (any_in (same_line l) ls l i (same_line_holds l l refl)) e

pub planar_by : (ls : List Segment) → Once ls → any (λ l. not (ordered l)) ls ≡ false → any (λ l. any (improper l) ls) ls ≡ false → Planar ls
planar_by ls once low_first apart_all =
    record {
      once = once;
      ordered = in_order;
      proper = λ l m i j h. apart ((signs_tell l m (in_order l i) (in_order m j)).1 h) (none_in (improper l) ls (none_in (λ l. any (improper l) ls) ls apart_all l i) m j);
    }
  where
    in_order : (l : Segment) → l ∈ ls → ordered l ≡ true
    in_order l i = told (ordered l) (none_in (λ l. not (ordered l)) ls low_first l i)
      where
        told : (t : Bool) → not t ≡ false → t ≡ true
        told t e = grind arith

two_once : Once two_sides
two_once = (new_in upright (slanted ∷ []) refl, (none slanted, tt))

two_planar : Planar two_sides
two_planar = planar_by two_sides two_once refl refl

triangle_planar : Planar triangle
triangle_planar = planar_by triangle (new_in level two_sides refl, two_once) refl refl

triangle_closed : ClosedLines triangle
triangle_closed v = sym (odd_counts Point (λ w. same_point w v) (ends triangle)) ∙ even (same_point (at (pos 0) (pos 0)) v) (same_point (at (pos 4) (pos 0)) v) (same_point (at (pos 0) (pos 4)) v)
  where
    even : (a b c : Bool) → differ a (differ b (differ a (differ c (differ c (differ b false))))) ≡ false
    even a b c = grind arith

pub triangle_reads : Triangle
triangle_reads =
    record {
      planar = triangle_planar;
      closed = triangle_closed;
      reads = parity_reads triangle triangle_planar triangle_closed;
      inside = refl;
      outside = refl;
      open_planar = two_planar;
      open_none = odd_corner_has_none two_sides two_planar (at (pos 0) (pos 0)) refl;
    }
