-- The two triangles are planar and closed, and no component has segments of both (`one_side`): so `apart_stays_apart`.
use Rattle.std.proofs.Common.{◌≡◌, Bool, false, [], ◌∷◌, pos, Some, None, Option, sym, refl, ap, ◌∙◌, ap₂, arith}
use lib.Signed.{lt_z}
use Rattle.algebra.specs.Members.{any}
use Rattle.algebra.specs.Parity.{differ}
use Rattle.algebra.proofs.Members.{none, apart, none_in}
use Rattle.algebra.proofs.Parity.{differ_false, odd_counts}
use Rattle.plane.specs.declared.point.Point.{Point}
use Rattle.plane.specs.declared.segment.Segment.{Segment}
use Rattle.plane.specs.Points.{same_point}
use Rattle.plane.specs.Spots.{whole}
use Rattle.reading.specs.Reading.{Planar}
use Rattle.reading.specs.Counting.{ends, ClosedLines}
use Rattle.reading.specs.Example.{at, level, upright, slanted}
use Rattle.reading.proofs.Example.{new_in, planar_by}
use Rattle.faces.specs.Below.{below_right, below_left}
use Rattle.faces.specs.Components.{SameComponent, self, joint, back, chain, OneComponent}
use Rattle.faces.specs.Example.{floor, ascent, descent, two_triangles, in_first, in_second, ApartStaysApart}
use Rattle.faces.proofs.Walks.{walk_keeps}

planar : Planar two_triangles
planar =
    planar_by two_triangles
    (new_in level (upright ∷ slanted ∷ floor ∷ ascent ∷ descent ∷ []) refl, (new_in upright (slanted ∷ floor ∷ ascent ∷ descent ∷ []) refl, (new_in slanted (floor ∷ ascent ∷ descent ∷ []) refl, (new_in floor (ascent ∷ descent ∷ []) refl, (new_in ascent (descent ∷ []) refl, (none descent, tt))))))
    refl refl

closed : ClosedLines two_triangles
closed v =
    sym (odd_counts Point (λ w. same_point w v) (ends two_triangles))
    ∙ even (same_point (at (pos 0) (pos 0)) v) (same_point (at (pos 4) (pos 0)) v) (same_point (at (pos 0) (pos 4)) v) (same_point (at (pos 10) (pos 0)) v) (same_point (at (pos 14) (pos 0)) v) (same_point (at (pos 12) (pos 4)) v)
  where
    even : (a b c d e f : Bool) → differ a (differ b (differ a (differ c (differ c (differ b (differ d (differ e (differ d (differ f (differ f (differ e false))))))))))) ≡ false
    even a b c d e f = grind arith

-- which triangle a segment is of
of_first : Segment → Bool
of_first l = lt_z l.low.x (pos 7)

parted : Option Segment → Option Segment → Bool
parted (Some l) (Some m) = differ (of_first l) (of_first m)
parted (Some l) None = false
parted None m = false

parted_at : Point → Bool
parted_at v = parted (below_left two_triangles (whole v)) (below_right two_triangles (whole v))

none_parted : any parted_at (ends two_triangles) ≡ false
unfolding of_first parted parted_at
none_parted = refl

one_side : (l m : Segment) → SameComponent two_triangles l m → of_first l ≡ of_first m
unfolding parted parted_at
one_side l m (self i) = refl
one_side l m (joint v i j p q) = differ_false (of_first l) (of_first m) (ap₂ parted (sym p) (sym q) ∙ none_in parted_at (ends two_triangles) none_parted v i)
one_side l m (back h) = sym (one_side m l h)
one_side l m (chain {l = k} g h) = one_side l k g ∙ one_side k m h

two_components : ¬ OneComponent two_triangles (below_right two_triangles in_first) (below_right two_triangles in_second)
unfolding of_first
two_components c = apart refl (ap side c.is_one ∙ one_side c.one c.other c.joined ∙ sym (ap side c.is_other))
  where
    side : Option Segment → Bool
    side (Some l) = of_first l
    side None = false

pub apart_stays_apart : ApartStaysApart
apart_stays_apart =
    record {
      planar = planar;
      closed = closed;
      first_covered = refl;
      second_covered = refl;
      bare_between = refl;
      below_first = refl;
      below_second = refl;
      two_components = two_components;
      no_walk = λ w. two_components (walk_keeps two_triangles planar closed in_first in_second w refl);
    }
