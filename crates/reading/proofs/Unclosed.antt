-- Lines with an odd corner have no reading, `odd_corner_has_none`: two legs from left to right, one on each side of the corner, would cross numbers of lines that differ by the degree of the corner.
use Rattle.std.proofs.Common.{◌≡◌, Bool, true, false, not, ◌&&◌, ◌||◌, List, [], ◌∷◌, ℤ, pos, negsuc, ◌+ℤ◌, ◌-ℤ◌, ◌*ℤ◌, ◌≤ℤ◌, ◌<ℤ◌, sym, refl, ap, ◌∙◌, arith}
use lib.Signed.{lt_z, le_z}
use Rattle.algebra.specs.Members.{◌∈◌}
use Rattle.algebra.specs.Polynomial.{Ex, con, var, ◌⊕◌, ◌⊖◌, ◌⊗◌}
use Rattle.algebra.specs.Parity.{differ, odd, odd_times}
use Rattle.algebra.proofs.Ring.{ring, mul_comm, mul_zero, mul_one}
use Rattle.algebra.proofs.Signs.{lin, Tri, below, zeroed, above, tri}
use Rattle.algebra.proofs.Members.{apart, Case, holds, fails, case}
use Rattle.algebra.proofs.Parity.{differ_self, odd_same, odd_differ, odd_none, odd_counts}
use Rattle.plane.specs.declared.point.Point.{Point}
use Rattle.plane.specs.declared.segment.Segment.{Segment}
use Rattle.plane.specs.Points.{same_point, orientation, scaled}
use Rattle.plane.specs.Spots.{Spot, whole, LeftOf}
use Rattle.plane.specs.PointLaws.{points_equal, xs_of, ys_of, same_point_is, same_point_holds}
use Rattle.plane.proofs.Pairs.{straddles, clear_of, ranges_meet, touches, turn_x}
use Rattle.plane.proofs.Bridge.{crosses_at, Fair, spot, touches_tell}
use Rattle.reading.specs.Reading.{Planar, Reading}
use Rattle.reading.specs.Counting.{ends, degree_at, passes_under}
use Rattle.reading.specs.Theorems.{OddCornerHasNone}
use Rattle.reading.proofs.Lists.{lower_first, ends_in, bound, bound_some, bounded}
use Rattle.reading.proofs.Leg.{over_at}
use Rattle.reading.proofs.Parities.{parity_sum, left_of_all}
use Rattle.reading.proofs.General.{left_off, right_off, fair_general}
use Rattle.reading.proofs.Crossings.{count_all}
use Rattle.reading.proofs.Agree.{small_multiple}

-- half a step to the right, or to the left, at fineness 2
abbrev step : Bool → ℤ
step true = pos 1
step false = negsuc 0

step_small : (b : Bool) → (step b ≤ℤ pos 1) × (negsuc 0 ≤ℤ step b)
step_small true = (omega (arith, lin), omega (arith, lin))
step_small false = (omega (arith, lin), omega (arith, lin))

-- twice an odd number
odd_height : ℤ → Bool → ℤ
odd_height f b = (f +ℤ f +ℤ step b) +ℤ (f +ℤ f +ℤ step b)

not_level : (f : ℤ) (b : Bool) → ¬ (odd_height f b ≡ pos 0)
unfolding odd_height
not_level f true z = go (tri f)
  where
    go : Tri f → ⊥
    go (below j) = omega (arith, lin)
    go (zeroed j) = omega (arith, lin)
    go (above j) = omega (arith, lin)
not_level f false z = go (tri f)
  where
    go : Tri f → ⊥
    go (below j) = omega (arith, lin)
    go (zeroed j) = omega (arith, lin)
    go (above j) = omega (arith, lin)

-- just one of the two steps turns the sign where f is 0, and else none
alone : (f : ℤ) → f ≡ pos 0 → differ (lt_z (odd_height f true) (pos 0)) (lt_z (odd_height f false) (pos 0)) ≡ true
unfolding odd_height
alone f e = grind (arith, lin)

others : (f : ℤ) → ¬ (f ≡ pos 0) → differ (lt_z (odd_height f true) (pos 0)) (lt_z (odd_height f false) (pos 0)) ≡ false
unfolding odd_height
others f n = go (tri f)
  where
    go : Tri f → differ (lt_z (odd_height f true) (pos 0)) (lt_z (odd_height f false) (pos 0)) ≡ false
    go (below j) = grind (arith, lin)
    go (zeroed j) = absurd (n j)
    go (above j) = grind (arith, lin)

double : (z : ℤ) → pos 2 *ℤ z ≡ z +ℤ z
double z = ring (z ∷ []) (con (pos 2) ⊗ var 0) (var 0 ⊕ var 0) refl

-- a leg right of a line does not touch it
not_reached : (a b p q : Point) → a.x <ℤ p.x → a.x <ℤ q.x → b.x <ℤ p.x → b.x <ℤ q.x → touches a b p q ≡ false
not_reached a b p q h i j k =
    by (straddles (orientation p q a) (orientation p q b) && straddles (orientation a b p) (orientation a b q)) (clear_of a.x b.x p.x q.x) (not (clear_of p.x q.x a.x b.x)) (ranges_meet a.y b.y p.y q.y) (apart_x a.x b.x p.x q.x h i j k)
  where
    by : (s c d r : Bool) → c ≡ true → (s && ((not c && d) && r)) ≡ false
    by s c d r e = grind arith

    apart_x : (u v w z : ℤ) → u <ℤ w → u <ℤ z → v <ℤ w → v <ℤ z → clear_of u v w z ≡ true
    apart_x u v w z h i j k = grind (arith, lin)

module _ (ls : List Segment) (o : Planar ls) (v₀ : Point) where
  offset : Point → ℤ
  offset v = pos 2 *ℤ v.x -ℤ pos 2 *ℤ v₀.x

  n : ℤ
  n = pos 2 +ℤ bound offset (ends ls)

  two : pos 0 <ℤ pos 2
  two = omega (arith, lin)

  Near : Point → Type 0
  Near v = ((pos 2 *ℤ v.x -ℤ pos 2 *ℤ v₀.x) <ℤ (n -ℤ pos 1)) × ((pos 1 -ℤ n) <ℤ (pos 2 *ℤ v.x -ℤ pos 2 *ℤ v₀.x))

  near : (v : Point) → v ∈ ends ls → Near v
  unfolding offset n Near
  near v i = omega (arith, lin, bounded offset (ends ls) v i)

  -- how far v₀ lies from v, across legs of slope 1 to n
  across : Point → ℤ
  across v = (v₀.x -ℤ v.x) -ℤ n *ℤ (v₀.y -ℤ v.y)

  across_self : (v : Point) → v₀ ≡ v → across v ≡ pos 0
  unfolding across
  across_self v e = omega (arith, lin, xs_of e, ap (λ z. n *ℤ z) (nothing v₀.y v.y (ys_of e)), mul_zero n)
    where
      nothing : (a b : ℤ) → a ≡ b → a -ℤ b ≡ pos 0
      nothing a b h = omega (arith, lin)

  across_other : (v : Point) → v ∈ ends ls → across v ≡ pos 0 → v₀ ≡ v
  unfolding across Near n
  across_other v i e =
      let c = near v i in
      let f = small_multiple n (v₀.x -ℤ v.x) (v₀.y -ℤ v.y) (omega (arith, lin, c, double v.x, double v₀.x, bound_some offset (ends ls))) (omega (arith, lin, c, double v.x, double v₀.x, bound_some offset (ends ls))) (omega (arith, lin, e)) in
      points_equal v₀ v (omega (arith, lin, f.1)) (omega (arith, lin, f.0))

  -- the leg that passes right of v₀, or left of it
  module _ (b : Bool) where
    p : Point
    p = record { x = pos 2 *ℤ v₀.x -ℤ n +ℤ step b; y = pos 2 *ℤ v₀.y -ℤ pos 1 }

    q : Point
    q = record { x = pos 2 *ℤ v₀.x +ℤ n +ℤ step b; y = pos 2 *ℤ v₀.y +ℤ pos 1 }

    s : Spot
    s = spot p (pos 2) two

    t : Spot
    t = spot q (pos 2) two

    within : (v : Point) → v ∈ ends ls → (p.x <ℤ (pos 2 *ℤ v.x)) × ((pos 2 *ℤ v.x) <ℤ q.x)
    unfolding p q Near
    within v i = omega (arith, lin, near v i, step_small b)

    height : (v : Point) → orientation p q (scaled (pos 2) v) ≡ odd_height (across v) b
    unfolding p q across odd_height
    height v =
        ring (v₀.x ∷ v₀.y ∷ n ∷ step b ∷ v.x ∷ v.y ∷ [])
        (turn_x (con (pos 2) ⊗ var 0 ⊖ var 2 ⊕ var 3) (con (pos 2) ⊗ var 1 ⊖ con (pos 1)) (con (pos 2) ⊗ var 0 ⊕ var 2 ⊕ var 3) (con (pos 2) ⊗ var 1 ⊕ con (pos 1)) (con (pos 2) ⊗ var 4) (con (pos 2) ⊗ var 5))
        ((f ⊕ f ⊕ var 3) ⊕ (f ⊕ f ⊕ var 3)) refl
      where
        f : Ex
        f = (var 0 ⊖ var 4) ⊖ var 2 ⊗ (var 1 ⊖ var 5)

    lower : Point → Bool
    lower v = lt_z (odd_height (across v) b) (pos 0)

    passed : (v : Point) → v ∈ ends ls → over_at (pos 2) p q v ≡ lower v
    unfolding lower
    passed v i =
        let c = within v i in
        by p.x q.x (pos 2 *ℤ v.x) (orientation p q (scaled (pos 2) v)) (orientation q p (scaled (pos 2) v)) c.0 (omega (arith, lin, c.1)) ∙ ap (λ z. lt_z z (pos 0)) (height v)
      where
        by : (px qx wx h g : ℤ) → px <ℤ wx → wx ≤ℤ qx → ((lt_z px wx && (le_z wx qx && lt_z h (pos 0))) || (lt_z qx wx && (le_z wx px && lt_z g (pos 0)))) ≡ lt_z h (pos 0)
        by px qx wx h g j k = grind (arith, lin)

    left : (l : Segment) → l ∈ ls → LeftOf s (whole l.low) × LeftOf s (whole l.high)
    unfolding s
    left l i = let e = ends_in ls l i in (by l.low (within l.low e.0).0, by l.high (within l.high e.1).0)
      where
        by : (v : Point) → p.x <ℤ (pos 2 *ℤ v.x) → LeftOf s (whole v)
        by v h = omega (arith, lin, mul_one p.x, mul_comm v.x (pos 2))

    right : (l : Segment) → l ∈ ls → LeftOf (whole l.low) t × LeftOf (whole l.high) t
    unfolding t
    right l i = let e = ends_in ls l i in (by l.low (within l.low e.0).1, by l.high (within l.high e.1).1)
      where
        by : (v : Point) → (pos 2 *ℤ v.x) <ℤ q.x → LeftOf (whole v) t
        by v h = omega (arith, lin, mul_one q.x, mul_comm v.x (pos 2))

    -- right of all lines none passes under
    bare : odd_times (passes_under t) ls ≡ false
    unfolding t
    bare = odd_none (passes_under t) ls (λ l i. by l.low.x l.high.x q.x (lt_z (pos 0) (orientation (scaled (pos 2) l.low) (scaled (pos 2) l.high) q)) (within l.high (ends_in ls l i).1).1)
      where
        by : (a b x : ℤ) (t : Bool) → (pos 2 *ℤ b) <ℤ x → (le_z (pos 2 *ℤ a) x && (lt_z x (pos 2 *ℤ b) && t)) ≡ false
        by a b x t h = grind (arith, lin)

    missed : (v : Point) → ¬ (orientation p q (scaled (pos 2) v) ≡ pos 0)
    missed v e = not_level (across v) b (sym (height v) ∙ e)

    fair : Fair ls (pos 2) p q
    unfolding s t
    fair =
        fair_general (pos 2) p q s t two refl refl ls (λ l i. left_off l s (left l i).0 (left l i).1) (λ l i. right_off l t (right l i).0 (right l i).1) (λ l i. (missed l.low, missed l.high))

    -- what any reading says at the right end
    says_right : (says : Spot → Bool) → Reading ls says → says t ≡ odd_times lower (ends ls)
    unfolding s t
    says_right says r =
        ap (λ b. differ b (says t)) (sym (r.outside s left))
        ∙ count_all ls o says r (pos 2) p q s t two refl refl fair
        ∙ by (odd_times (passes_under s) ls) (odd_times (passes_under t) ls) (odd_times (crosses_at (pos 2) p q) ls) (odd_times (over_at (pos 2) p q) (ends ls)) (left_of_all ls s left) bare (parity_sum (pos 2) p q s t two refl refl ls (lower_first ls o) fair)
        ∙ odd_same (over_at (pos 2) p q) lower (ends ls) passed
      where
        by : (a b x y : Bool) → a ≡ false → b ≡ false → differ a b ≡ differ x y → x ≡ y
        by a b x y e f g = grind arith

  -- the two right ends are joined by a leg that reaches no line
  meet_right : (says : Spot → Bool) → Reading ls says → says (t true) ≡ says (t false)
  unfolding t
  meet_right says r =
      r.alike (t true) (t false)
      (λ l i h. let e = ends_in ls l i in apart ((touches_tell (pos 2) (q true) (q false) (t true) (t false) two refl refl l).1 h) (not_reached (scaled (pos 2) l.low) (scaled (pos 2) l.high) (q true) (q false) (within true l.low e.0).1 (within false l.low e.0).1 (within true l.high e.1).1 (within false l.high e.1).1))

  only_v₀ : (v : Point) → v ∈ ends ls → same_point v v₀ ≡ differ (lower true v) (lower false v)
  unfolding lower
  only_v₀ v i = go (case (same_point v v₀))
    where
      go : Case (same_point v v₀) → same_point v v₀ ≡ differ (lower true v) (lower false v)
      go (holds e) = e ∙ sym (alone (across v) (across_self v (sym (same_point_is v v₀ e))))
      go (fails e) = e ∙ sym (others (across v) (λ h. apart (same_point_holds v v₀ (sym (across_other v i h))) e))

  even_at : (says : Spot → Bool) → Reading ls says → odd (degree_at ls v₀) ≡ false
  even_at says r =
      let e : odd_times (lower true) (ends ls) ≡ odd_times (lower false) (ends ls) = sym (says_right true says r) ∙ meet_right says r ∙ says_right false says r in
      sym (odd_counts Point (λ v. same_point v v₀) (ends ls)) ∙ odd_same (λ v. same_point v v₀) (λ v. differ (lower true v) (lower false v)) (ends ls) only_v₀ ∙ odd_differ (lower true) (lower false) (ends ls) ∙ ap (λ b. differ b (odd_times (lower false) (ends ls))) e ∙ differ_self (odd_times (lower false) (ends ls))

pub odd_corner_has_none : OddCornerHasNone
odd_corner_has_none ls o v₀ odd has = apart odd (even_at ls o v₀ has.0 has.1)
