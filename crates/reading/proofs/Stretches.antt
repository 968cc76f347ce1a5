-- A stretch of a leg: what is on it is on the leg (`stretch_in`), and what it does to a line is told by the heights of its ends (`stretch_fair`, `stretch_crosses`).
use Rattle.std.proofs.Common.{◌≡◌, Bool, true, false, ◌&&◌, [], ◌∷◌, ℤ, pos, ◌+ℤ◌, ◌-ℤ◌, ◌*ℤ◌, ◌≤ℤ◌, ◌<ℤ◌, sym, refl, ◌∙◌, subst, ap₂, arith}
use Rattle.algebra.specs.Polynomial.{Ex, var, ◌⊕◌, ◌⊖◌, ◌⊗◌, by, minus_unit, nought}
use Rattle.algebra.proofs.Ring.{ring_from}
use Rattle.algebra.proofs.Signs.{lin, mul_pos, mul_nonneg, cancel_zero}
use Rattle.algebra.proofs.Members.{apart, Case, holds, fails, case}
use Rattle.plane.specs.declared.point.Point.{Point}
use Rattle.plane.specs.Points.{orientation, scaled}
use Rattle.plane.specs.Meeting.{opposite}
use Rattle.plane.proofs.Pairs.{Between, Hits, Shared, straddles, ranges_meet, touches, crosses, turn_e, turn_x, x_e, y_e}
use Rattle.plane.proofs.Sharing.{mean_between, cancel_between}
use Rattle.plane.proofs.Weights.{Weighed, weights, level_e}
use Rattle.plane.proofs.Any.{any_touch_test, touches_scaled}
use Rattle.plane.proofs.Bridge.{cross_touch}
use Rattle.reading.proofs.Opposites.{opposite_by, astride}

-- a leg with both ends on one side of the line
one_side : (a b p q : Point) → ¬ (orientation a b p ≡ pos 0) → ¬ (orientation a b q ≡ pos 0) → opposite (orientation a b p) (orientation a b q) ≡ false → touches a b p q ≡ false
one_side a b p q h k e =
    gone (straddles (orientation p q a) (orientation p q b)) (straddles (orientation a b p) (orientation a b q)) (ranges_meet a.x b.x p.x q.x && ranges_meet a.y b.y p.y q.y) (astride (orientation a b p) (orientation a b q) h k ∙ e)
  where
    gone : (s t r : Bool) → t ≡ false → ((s && t) && r) ≡ false
    gone s t r e = grind arith

-- a line with its ends on the two sides of the leg, straight on which no end of the leg lies
fair_by : (a b p q : Point) → opposite (orientation p q a) (orientation p q b) ≡ true → ¬ (orientation a b p ≡ pos 0) → ¬ (orientation a b q ≡ pos 0) → touches a b p q ≡ crosses a b p q
fair_by a b p q o h k = go (case (opposite (orientation a b p) (orientation a b q)))
  where
    go : Case (opposite (orientation a b p) (orientation a b q)) → touches a b p q ≡ crosses a b p q
    go (holds e) = let c : crosses a b p q ≡ true = ap₂ ◌&&◌ o e in cross_touch a b p q c ∙ sym c
    go (fails e) = one_side a b p q h k e ∙ sym (ap₂ ◌&&◌ o e)

-- what has weights on u and v lies between them
pub hits_weighed : (e : ℤ) (w u v : Point) → Weighed e w.x w.y u.x u.y v.x v.y → Hits e w u v
hits_weighed e w u v W =
    record {
      straight = cancel_zero (W.m +ℤ W.n) (orientation (scaled e u) (scaled e v) w) W.some (ring_from (e ∷ w.x ∷ w.y ∷ u.x ∷ u.y ∷ v.x ∷ v.y ∷ W.m ∷ W.n ∷ []) (by (var 0 ⊗ (var 4 ⊖ var 6)) ((var 7 ⊕ var 8) ⊗ var 1) (var 0 ⊗ (var 7 ⊗ var 3 ⊕ var 8 ⊗ var 5)) ∷ by (var 0 ⊗ (var 5 ⊖ var 3)) ((var 7 ⊕ var 8) ⊗ var 2) (var 0 ⊗ (var 7 ⊗ var 4 ⊕ var 8 ⊗ var 6)) ∷ []) (W.for_x, (W.for_y, tt)) ((var 7 ⊕ var 8) ⊗ level_e) nought refl);
      across = among w.x u.x v.x W.for_x;
      along = among w.y u.y v.y W.for_y;
    }
  where
    among : (s u v : ℤ) → (W.m +ℤ W.n) *ℤ s ≡ e *ℤ (W.m *ℤ u +ℤ W.n *ℤ v) → Between (e *ℤ u) (e *ℤ v) s
    among s u v h =
        cancel_between (W.m +ℤ W.n) (e *ℤ u) (e *ℤ v) s W.some
        (subst (Between ((W.m +ℤ W.n) *ℤ (e *ℤ u)) ((W.m +ℤ W.n) *ℤ (e *ℤ v)))
        (ring_from (e ∷ s ∷ u ∷ v ∷ W.m ∷ W.n ∷ []) (by minus_unit ((var 4 ⊕ var 5) ⊗ var 1) (var 0 ⊗ (var 4 ⊗ var 2 ⊕ var 5 ⊗ var 3)) ∷ []) (h, tt) (var 4 ⊗ (var 0 ⊗ var 2) ⊕ var 5 ⊗ (var 0 ⊗ var 3)) ((var 4 ⊕ var 5) ⊗ var 1) refl)
        (mean_between W.m W.n (e *ℤ u) (e *ℤ v) W.m_some W.n_some))

-- u / N stands on the leg from p to q, with weights m and n
pub record Along (N : ℤ) (p q u : Point) : Type 0 where
  pub m : ℤ
  pub n : ℤ
  pub m_some : pos 0 ≤ℤ m
  pub n_some : pos 0 ≤ℤ n
  pub total : m +ℤ n ≡ N
  pub for_x : u.x ≡ m *ℤ p.x +ℤ n *ℤ q.x
  pub for_y : u.y ≡ m *ℤ p.y +ℤ n *ℤ q.y

-- how high u stands over the line from a to b
abbrev pub height : (N : ℤ) (a b p q u : Point) → Along N p q u → ℤ
height N a b p q u U = U.m *ℤ orientation a b p +ℤ U.n *ℤ orientation a b q

height_is : (N : ℤ) (a b p q u : Point) (U : Along N p q u) → orientation (scaled N a) (scaled N b) u ≡ N *ℤ height N a b p q u U
height_is N a b p q u U =
    ring_from (a.x ∷ a.y ∷ b.x ∷ b.y ∷ p.x ∷ p.y ∷ q.x ∷ q.y ∷ u.x ∷ u.y ∷ U.m ∷ U.n ∷ N ∷ [])
    (by (var 12 ⊗ (y_e 0 ⊖ y_e 1)) (x_e 4) (var 10 ⊗ x_e 2 ⊕ var 11 ⊗ x_e 3)
    ∷ by (var 12 ⊗ (x_e 1 ⊖ x_e 0)) (y_e 4) (var 10 ⊗ y_e 2 ⊕ var 11 ⊗ y_e 3)
    ∷ by (var 12 ⊗ (x_e 1 ⊗ y_e 0 ⊖ x_e 0 ⊗ y_e 1)) (var 10 ⊕ var 11) (var 12) ∷ [])
    (U.for_x, (U.for_y, (U.total, tt)))
    (turn_x (var 12 ⊗ x_e 0) (var 12 ⊗ y_e 0) (var 12 ⊗ x_e 1) (var 12 ⊗ y_e 1) (x_e 4) (y_e 4)) (var 12 ⊗ (var 10 ⊗ turn_e 0 1 2 ⊕ var 11 ⊗ turn_e 0 1 3)) refl

-- the stretch from u to v
module _ (N : ℤ) (p q u v : Point) (some : pos 0 <ℤ N) (U : Along N p q u) (V : Along N p q v) where
  -- what is on the stretch is on the leg
  stretch_in : (e : ℤ) (w : Point) → Hits e w u v → Hits e w (scaled N p) (scaled N q)
  stretch_in e w o = hits_weighed e w (scaled N p) (scaled N q) (carried (weights e w u v o))
    where
      number : (e w u v p q i j m n m' n' : ℤ) → (i +ℤ j) *ℤ w ≡ e *ℤ (i *ℤ u +ℤ j *ℤ v) → u ≡ m *ℤ p +ℤ n *ℤ q → v ≡ m' *ℤ p +ℤ n' *ℤ q → m +ℤ n ≡ N → m' +ℤ n' ≡ N → ((i *ℤ m +ℤ j *ℤ m') +ℤ (i *ℤ n +ℤ j *ℤ n')) *ℤ w ≡ e *ℤ ((i *ℤ m +ℤ j *ℤ m') *ℤ (N *ℤ p) +ℤ (i *ℤ n +ℤ j *ℤ n') *ℤ (N *ℤ q))
      number e w u v p q i j m n m' n' hw hu hv t t' =
          ring_from (e ∷ w ∷ u ∷ v ∷ p ∷ q ∷ i ∷ j ∷ m ∷ n ∷ m' ∷ n' ∷ N ∷ [])
          (by (var 12) ((var 6 ⊕ var 7) ⊗ var 1) (var 0 ⊗ (var 6 ⊗ var 2 ⊕ var 7 ⊗ var 3))
          ∷ by (var 12 ⊗ var 0 ⊗ var 6) (var 2) (var 8 ⊗ var 4 ⊕ var 9 ⊗ var 5)
          ∷ by (var 12 ⊗ var 0 ⊗ var 7) (var 3) (var 10 ⊗ var 4 ⊕ var 11 ⊗ var 5)
          ∷ by (var 6 ⊗ var 1) (var 8 ⊕ var 9) (var 12)
          ∷ by (var 7 ⊗ var 1) (var 10 ⊕ var 11) (var 12) ∷ [])
          (hw, (hu, (hv, (t, (t', tt)))))
          ((M ⊕ M') ⊗ var 1) (var 0 ⊗ (M ⊗ (var 12 ⊗ var 4) ⊕ M' ⊗ (var 12 ⊗ var 5))) refl
        where
          M : Ex
          M = var 6 ⊗ var 8 ⊕ var 7 ⊗ var 10

          M' : Ex
          M' = var 6 ⊗ var 9 ⊕ var 7 ⊗ var 11

      carried : Weighed e w.x w.y u.x u.y v.x v.y → Weighed e w.x w.y (N *ℤ p.x) (N *ℤ p.y) (N *ℤ q.x) (N *ℤ q.y)
      carried W =
          record {
            m = W.m *ℤ U.m +ℤ W.n *ℤ V.m;
            n = W.m *ℤ U.n +ℤ W.n *ℤ V.n;
            m_some = omega (arith, lin, mul_nonneg W.m U.m W.m_some U.m_some, mul_nonneg W.n V.m W.n_some V.m_some);
            n_some = omega (arith, lin, mul_nonneg W.m U.n W.m_some U.n_some, mul_nonneg W.n V.n W.n_some V.n_some);
            some = omega (arith, lin, mul_pos (W.m +ℤ W.n) N W.some some, ring_from (W.m ∷ W.n ∷ U.m ∷ U.n ∷ V.m ∷ V.n ∷ N ∷ []) (by (var 0) (var 2 ⊕ var 3) (var 6) ∷ by (var 1) (var 4 ⊕ var 5) (var 6) ∷ []) (U.total, (V.total, tt)) ((var 0 ⊗ var 2 ⊕ var 1 ⊗ var 4) ⊕ (var 0 ⊗ var 3 ⊕ var 1 ⊗ var 5)) ((var 0 ⊕ var 1) ⊗ var 6) refl);
            for_x = number e w.x u.x v.x p.x q.x W.m W.n U.m U.n V.m V.n W.for_x U.for_x V.for_x U.total V.total;
            for_y = number e w.y u.y v.y p.y q.y W.m W.n U.m U.n V.m V.n W.for_y U.for_y V.for_y U.total V.total;
          }

  -- so a line that the leg does not touch, no stretch of it touches
  pub stretch_apart : (a b : Point) → touches a b p q ≡ false → touches (scaled N a) (scaled N b) u v ≡ false
  stretch_apart a b e = go (case (touches (scaled N a) (scaled N b) u v))
    where
      go : Case (touches (scaled N a) (scaled N b) u v) → touches (scaled N a) (scaled N b) u v ≡ false
      go (fails h) = h
      go (holds h) =
          let z = (any_touch_test (scaled N a) (scaled N b) u v).0 h in
          let y : Shared (scaled N a) (scaled N b) (scaled N p) (scaled N q) = record { scale = z.scale; at = z.at; some_scale = z.some_scale; on_segment = z.on_segment; on_leg = stretch_in z.scale z.at z.on_leg } in
          absurd (apart ((any_touch_test (scaled N a) (scaled N b) (scaled N p) (scaled N q)).1 y) (touches_scaled N some a b p q ∙ e))

  -- above 0 where the stretch goes the way of the leg
  abbrev pub turning : ℤ
  turning = U.m *ℤ V.n -ℤ U.n *ℤ V.m

  -- a corner c lies on that side of the stretch on which it lies of the leg
  stretch_side : (c : Point) → orientation u v (scaled N c) ≡ turning *ℤ orientation p q c
  stretch_side c =
      ring_from (u.x ∷ u.y ∷ v.x ∷ v.y ∷ p.x ∷ p.y ∷ q.x ∷ q.y ∷ c.x ∷ c.y ∷ U.m ∷ U.n ∷ V.m ∷ V.n ∷ N ∷ [])
      (by (y_e 1 ⊖ K ⊗ y_e 4) (x_e 0) (of (x_e 2) (x_e 3) (var 10) (var 11))
      ∷ by (K ⊗ x_e 4 ⊖ of (x_e 2) (x_e 3) (var 12) (var 13)) (y_e 0) (of (y_e 2) (y_e 3) (var 10) (var 11))
      ∷ by (K ⊗ y_e 4 ⊖ y_e 0) (x_e 1) (of (x_e 2) (x_e 3) (var 12) (var 13))
      ∷ by (of (x_e 2) (x_e 3) (var 10) (var 11) ⊖ K ⊗ x_e 4) (y_e 1) (of (y_e 2) (y_e 3) (var 12) (var 13))
      ∷ by (x_e 4 ⊗ of (y_e 2 ⊖ y_e 4) (y_e 3 ⊖ y_e 4) (var 12) (var 13) ⊖ y_e 4 ⊗ of (x_e 2 ⊖ x_e 4) (x_e 3 ⊖ x_e 4) (var 12) (var 13)) (var 10 ⊕ var 11) K
      ∷ by (y_e 4 ⊗ of (x_e 2 ⊖ x_e 4) (x_e 3 ⊖ x_e 4) (var 10) (var 11) ⊖ x_e 4 ⊗ of (y_e 2 ⊖ y_e 4) (y_e 3 ⊖ y_e 4) (var 10) (var 11)) (var 12 ⊕ var 13) K ∷ [])
      (U.for_x, (U.for_y, (V.for_x, (V.for_y, (U.total, (V.total, tt))))))
      (turn_x (x_e 0) (y_e 0) (x_e 1) (y_e 1) (K ⊗ x_e 4) (K ⊗ y_e 4)) ((var 10 ⊗ var 13 ⊖ var 11 ⊗ var 12) ⊗ turn_e 2 3 4) refl
    where
      K : Ex
      K = var 14

      of : Ex → Ex → Ex → Ex → Ex
      of s t m n = m ⊗ s ⊕ n ⊗ t

  -- a line from a to b with its ends on the two sides of the leg: the heights of u and v tell whether the stretch crosses it
  module _ (a b : Point) (sides : opposite (orientation p q a) (orientation p q b) ≡ true) (ahead : pos 0 <ℤ turning) where
    abbrev hu : ℤ
    hu = height N a b p q u U

    abbrev hv : ℤ
    hv = height N a b p q v V

    stretch_sides : opposite (orientation u v (scaled N a)) (orientation u v (scaled N b)) ≡ true
    stretch_sides = ap₂ opposite (stretch_side a) (stretch_side b) ∙ opposite_by turning turning (orientation p q a) (orientation p q b) ahead ahead ∙ sides

    stretch_ends : opposite (orientation (scaled N a) (scaled N b) u) (orientation (scaled N a) (scaled N b) v) ≡ opposite hu hv
    stretch_ends = ap₂ opposite (height_is N a b p q u U) (height_is N a b p q v V) ∙ opposite_by N N hu hv some some

    pub stretch_crosses : crosses (scaled N a) (scaled N b) u v ≡ opposite hu hv
    stretch_crosses = ap₂ ◌&&◌ stretch_sides stretch_ends

    module _ (no_u : ¬ (hu ≡ pos 0)) (no_v : ¬ (hv ≡ pos 0)) where
      not_level : (h z : ℤ) → z ≡ N *ℤ h → ¬ (h ≡ pos 0) → ¬ (z ≡ pos 0)
      not_level h z e n f = n (cancel_zero N h some (sym e ∙ f))

      level_u : ¬ (orientation (scaled N a) (scaled N b) u ≡ pos 0)
      level_u = not_level hu (orientation (scaled N a) (scaled N b) u) (height_is N a b p q u U) no_u

      level_v : ¬ (orientation (scaled N a) (scaled N b) v ≡ pos 0)
      level_v = not_level hv (orientation (scaled N a) (scaled N b) v) (height_is N a b p q v V) no_v

      pub stretch_fair : touches (scaled N a) (scaled N b) u v ≡ crosses (scaled N a) (scaled N b) u v
      stretch_fair = fair_by (scaled N a) (scaled N b) u v stretch_sides level_u level_v

      pub stretch_misses : opposite hu hv ≡ false → touches (scaled N a) (scaled N b) u v ≡ false
      stretch_misses e = stretch_fair ∙ stretch_crosses ∙ e
