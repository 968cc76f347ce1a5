-- Two readings agree at every spot on no line, `readings_agree`: along a leg from the left of all lines each says how many lines the leg crosses.
use Rattle.std.proofs.Common.{◌≡◌, Bool, List, [], ◌∷◌, ℤ, pos, negsuc, ◌+ℤ◌, ◌-ℤ◌, ◌*ℤ◌, neg_ℤ, ◌<ℤ◌, sym, refl, ap, ◌∙◌, arith}
use Rattle.algebra.specs.Members.{◌∈◌}
use Rattle.algebra.specs.Polynomial.{con, var, ◌⊖◌, ◌⊗◌, nought}
use Rattle.algebra.specs.Parity.{differ, odd_times}
use Rattle.algebra.proofs.Ring.{ring, mul_comm, mul_zero, mul_one}
use Rattle.algebra.proofs.Signs.{lin, Tri, below, zeroed, above, tri, mul_le}
use Rattle.plane.specs.declared.point.Point.{Point}
use Rattle.plane.specs.declared.segment.Segment.{Segment}
use Rattle.plane.specs.Points.{orientation, scaled}
use Rattle.plane.specs.Spots.{Spot, whole, LeftOf}
use Rattle.plane.specs.PointLaws.{points_equal}
use Rattle.plane.proofs.Pairs.{turn_x}
use Rattle.plane.proofs.Bridge.{place, crosses_at, Fair, spot}
use Rattle.reading.specs.Reading.{Planar, Off, Reading}
use Rattle.reading.specs.Counting.{ends}
use Rattle.reading.specs.Theorems.{ReadingsAgree}
use Rattle.reading.proofs.Lists.{ends_in, bound, bounded}
use Rattle.reading.proofs.General.{at_low, at_high, left_off, fair_general}
use Rattle.reading.proofs.Crossings.{count_all}

-- a multiple of n that is smaller than n is 0
pub small_multiple : (n d e : ℤ) → d <ℤ n → neg_ℤ n <ℤ d → d ≡ n *ℤ e → (e ≡ pos 0) × (d ≡ pos 0)
small_multiple n d e h j q = go (tri e)
  where
    go : Tri e → (e ≡ pos 0) × (d ≡ pos 0)
    go (below k) = absurd (omega (arith, lin, mul_le n e (negsuc 0) (omega (arith, lin)) (omega (arith, lin)), ring (n ∷ []) (var 0 ⊗ con (negsuc 0)) (nought ⊖ var 0) refl))
    go (above k) = absurd (omega (arith, lin, mul_le n (pos 1) e (omega (arith, lin)) (omega (arith, lin)), mul_one n))
    go (zeroed k) = (k, q ∙ (ap (λ z. n *ℤ z) k ∙ mul_zero n))

-- the leg to s from n to the left and 1 below
module _ (ls : List Segment) (s : Spot) (off : Off ls s) where
  offset : Point → ℤ
  offset v = s.k *ℤ v.x -ℤ s.x

  n : ℤ
  n = pos 1 +ℤ bound offset (ends ls)

  near : (v : Point) → v ∈ ends ls → ((s.k *ℤ v.x -ℤ s.x) <ℤ n) × (neg_ℤ n <ℤ (s.k *ℤ v.x -ℤ s.x))
  unfolding offset n
  near v i = omega (arith, lin, bounded offset (ends ls) v i)

  start : Point
  start = record { x = s.x -ℤ n; y = s.y -ℤ pos 1 }

  far : Spot
  far = spot start s.k s.fine

  far_left : (l : Segment) → l ∈ ls → LeftOf far (whole l.low) × LeftOf far (whole l.high)
  unfolding far start
  far_left l i = let e = ends_in ls l i in (by l.low (near l.low e.0), by l.high (near l.high e.1))
    where
      by : (v : Point) → ((s.k *ℤ v.x -ℤ s.x) <ℤ n) × (neg_ℤ n <ℤ (s.k *ℤ v.x -ℤ s.x)) → LeftOf far (whole v)
      by v h = omega (arith, lin, mul_one (s.x -ℤ n), mul_comm v.x s.k)

  -- a corner straight on the leg is s
  at_end : (v : Point) → v ∈ ends ls → orientation start (place s) (scaled s.k v) ≡ pos 0 → scaled s.k v ≡ place s
  unfolding start
  at_end v i e =
      let c = near v i in
      let f = small_multiple n (s.k *ℤ v.x -ℤ s.x) (s.k *ℤ v.y -ℤ s.y) c.0 c.1 (omega (arith, lin, e, slope s.x s.y n (s.k *ℤ v.x) (s.k *ℤ v.y))) in
      points_equal (scaled s.k v) (place s) (omega (arith, lin, f.1)) (omega (arith, lin, f.0))
    where
      slope : (x y n a b : ℤ) → orientation (record { x = x -ℤ n; y = y -ℤ pos 1 }) (record { x = x; y = y }) (record { x = a; y = b }) ≡ n *ℤ (b -ℤ y) -ℤ (a -ℤ x)
      slope x y n a b =
          ring (x ∷ y ∷ n ∷ a ∷ b ∷ []) (turn_x (var 0 ⊖ var 2) (var 1 ⊖ con (pos 1)) (var 0) (var 1) (var 3) (var 4)) (var 2 ⊗ (var 4 ⊖ var 1) ⊖ (var 3 ⊖ var 0)) refl

  fair : Fair ls s.k start (place s)
  unfolding far
  fair =
      fair_general s.k start (place s) far s s.fine refl refl ls (λ l i. left_off l far (far_left l i).0 (far_left l i).1) off
      (λ l i. (λ e. off l i (at_low s.k (place s) s l s.fine refl (at_end l.low (ends_in ls l i).0 e)), λ e. off l i (at_high s.k (place s) s l s.fine refl (at_end l.high (ends_in ls l i).1 e))))

  says_at : Planar ls → (f : Spot → Bool) → Reading ls f → f s ≡ odd_times (crosses_at s.k start (place s)) ls
  unfolding far
  says_at o f r = ap (λ b. differ b (f s)) (sym (r.outside far far_left)) ∙ count_all ls o f r s.k start (place s) far s s.fine refl refl fair

pub readings_agree : ReadingsAgree
readings_agree ls o f g r t s off = says_at ls s off o f r ∙ sym (says_at ls s off o g t)
