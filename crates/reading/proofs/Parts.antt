-- A leg cut in three, just short of one place and just past it: the parts against a line that the leg crosses there (`crossed_there`), and against any other (`crossed_elsewhere`).
use Rattle.std.proofs.Common.{◌≡◌, Bool, true, false, ◌⊎◌, [], ◌∷◌, ℤ, pos, negsuc, ◌+ℤ◌, ◌-ℤ◌, ◌*ℤ◌, neg_ℤ, ◌≤ℤ◌, ◌<ℤ◌, sym, refl, ap, ◌∙◌, ap₂, inl, inr, arith}
use Rattle.std.proofs.lemmas.Bool.{and_parts}
use Rattle.algebra.specs.Polynomial.{var, ◌⊕◌, ◌⊖◌, ◌⊗◌, unit, minus_unit, nought}
use Rattle.algebra.specs.Parity.{differ}
use Rattle.algebra.proofs.Ring.{ring, add_zero, zero_add, mul_zero, mul_one}
use Rattle.algebra.proofs.Signs.{lin, Tri, below, zeroed, above, tri, mul_pos, mul_le}
use Rattle.algebra.proofs.Members.{apart, Case, holds, fails, case}
use Rattle.plane.specs.declared.point.Point.{Point}
use Rattle.plane.specs.Points.{orientation, scaled}
use Rattle.plane.specs.Meeting.{opposite}
use Rattle.plane.proofs.Pairs.{touches, crosses}
use Rattle.plane.proofs.Sharing.{mean}
use Rattle.reading.proofs.Scales.{untouched}
use Rattle.reading.proofs.Opposites.{opposite_by, NoneLevel, heights_far, heights_near}
use Rattle.reading.proofs.Stretches.{Along, height, turning, stretch_apart, stretch_crosses, stretch_fair, stretch_misses}

-- a line from a to b that is not at the place, against the parts from p to u, from u to v, and from v to q; w says whether the leg crosses it
pub record Elsewhere (w : Bool) (a b p u v q : Point) : Type 0 where
  pub fair_first : touches a b p u ≡ crosses a b p u
  pub fair_last : touches a b v q ≡ crosses a b v q
  pub clear : touches a b u v ≡ false
  pub one : w ≡ differ (crosses a b p u) (crosses a b v q)
  pub first_in : crosses a b p u ≡ true → w ≡ true
  pub last_in : crosses a b v q ≡ true → w ≡ true

-- and one that the leg crosses at the place
pub record There (a b p u v q : Point) : Type 0 where
  pub fair_first : touches a b p u ≡ crosses a b p u
  pub fair_last : touches a b v q ≡ crosses a b v q
  pub crossed : crosses a b u v ≡ true
  pub first : crosses a b p u ≡ false
  pub last : crosses a b v q ≡ false

-- the place has weights g and h; the cuts are at a fineness of M (g + h)
abbrev pub grain : ℤ → ℤ → ℤ → ℤ
grain g h M = M *ℤ (g +ℤ h)

abbrev pub short_of : Point → Point → ℤ → ℤ → ℤ → Point
short_of p q g h M = mean (M *ℤ g +ℤ pos 1) p (M *ℤ h -ℤ pos 1) q

abbrev pub past : Point → Point → ℤ → ℤ → ℤ → Point
past p q g h M = mean (M *ℤ g -ℤ pos 1) p (M *ℤ h +ℤ pos 1) q

module _ (p q : Point) (g h M : ℤ) (hg : pos 0 <ℤ g) (hh : pos 0 <ℤ h) (h_m : pos 2 ≤ℤ M) where
  abbrev N : ℤ
  N = grain g h M

  pub some_grain : pos 0 <ℤ N
  some_grain = mul_pos M (g +ℤ h) (omega (arith, lin)) (omega (arith, lin))

  still_some : (z : ℤ) → pos 0 <ℤ z → pos 0 <ℤ (M *ℤ z -ℤ pos 1)
  still_some z k = omega (arith, lin, mul_le M (pos 1) z (omega (arith, lin)) (omega (arith, lin)), mul_one M)

  abbrev u : Point
  u = short_of p q g h M

  abbrev v : Point
  v = past p q g h M

  no_share : (x : ℤ) → pos 0 *ℤ x ≡ pos 0
  no_share x = ring (x ∷ []) (nought ⊗ var 0) nought refl

  abbrev at_p : Along N p q (scaled N p)
  at_p = record { m = N; n = pos 0; m_some = omega (arith, lin, some_grain); n_some = omega (arith, lin); total = add_zero N; for_x = all_of p.x q.x; for_y = all_of p.y q.y }
    where
      all_of : (x y : ℤ) → N *ℤ x ≡ N *ℤ x +ℤ pos 0 *ℤ y
      all_of x y = ring (N ∷ x ∷ y ∷ []) (var 0 ⊗ var 1) (var 0 ⊗ var 1 ⊕ nought ⊗ var 2) refl

  abbrev at_u : Along N p q u
  at_u = record { m = M *ℤ g +ℤ pos 1; n = M *ℤ h -ℤ pos 1; m_some = omega (arith, lin, still_some g hg); n_some = omega (arith, lin, still_some h hh); total = ring (g ∷ h ∷ M ∷ []) ((var 2 ⊗ var 0 ⊕ unit) ⊕ (var 2 ⊗ var 1 ⊖ unit)) (var 2 ⊗ (var 0 ⊕ var 1)) refl; for_x = refl; for_y = refl }

  abbrev at_v : Along N p q v
  at_v = record { m = M *ℤ g -ℤ pos 1; n = M *ℤ h +ℤ pos 1; m_some = omega (arith, lin, still_some g hg); n_some = omega (arith, lin, still_some h hh); total = ring (g ∷ h ∷ M ∷ []) ((var 2 ⊗ var 0 ⊖ unit) ⊕ (var 2 ⊗ var 1 ⊕ unit)) (var 2 ⊗ (var 0 ⊕ var 1)) refl; for_x = refl; for_y = refl }

  abbrev at_q : Along N p q (scaled N q)
  at_q = record { m = pos 0; n = N; m_some = omega (arith, lin); n_some = omega (arith, lin, some_grain); total = zero_add N; for_x = all_of p.x q.x; for_y = all_of p.y q.y }
    where
      all_of : (x y : ℤ) → N *ℤ y ≡ pos 0 *ℤ x +ℤ N *ℤ y
      all_of x y = ring (N ∷ x ∷ y ∷ []) (var 0 ⊗ var 2) (nought ⊗ var 1 ⊕ var 0 ⊗ var 2) refl

  -- a line that the leg does not touch
  apart_parts : (a b : Point) → touches a b p q ≡ false → crosses a b p q ≡ false → Elsewhere (crosses a b p q) (scaled N a) (scaled N b) (scaled N p) u v (scaled N q)
  apart_parts a b e f =
      let d = stretch_apart N p q (scaled N p) u some_grain at_p at_u a b e in
      let l = stretch_apart N p q v (scaled N q) some_grain at_v at_q a b e in
      let d' = untouched (scaled N a) (scaled N b) (scaled N p) u d in
      let l' = untouched (scaled N a) (scaled N b) v (scaled N q) l in
      record {
        fair_first = d ∙ sym d';
        fair_last = l ∙ sym l';
        clear = stretch_apart N p q u v some_grain at_u at_v a b e;
        one = f ∙ sym (ap₂ differ d' l');
        first_in = λ t. absurd (apart t d');
        last_in = λ t. absurd (apart t l');
      }

  -- each part goes the way of the leg
  ahead_first : pos 0 <ℤ turning N p q (scaled N p) u some_grain at_p at_u
  ahead_first = omega (arith, lin, mul_pos N (M *ℤ h -ℤ pos 1) some_grain (still_some h hh), no_share (M *ℤ g +ℤ pos 1))

  ahead_mid : pos 0 <ℤ turning N p q u v some_grain at_u at_v
  ahead_mid =
      omega (arith, lin, some_grain, ring (g ∷ h ∷ M ∷ []) ((var 2 ⊗ var 0 ⊕ unit) ⊗ (var 2 ⊗ var 1 ⊕ unit) ⊖ (var 2 ⊗ var 1 ⊖ unit) ⊗ (var 2 ⊗ var 0 ⊖ unit)) (var 2 ⊗ (var 0 ⊕ var 1) ⊕ var 2 ⊗ (var 0 ⊕ var 1)) refl)

  ahead_last : pos 0 <ℤ turning N p q v (scaled N q) some_grain at_v at_q
  ahead_last = omega (arith, lin, mul_pos (M *ℤ g -ℤ pos 1) N (still_some g hg) some_grain, mul_zero (M *ℤ h +ℤ pos 1))

  -- a line that the leg crosses
  module _ (a b : Point) (c : crosses a b p q ≡ true) where
    abbrev P : ℤ
    P = orientation a b p

    abbrev Q : ℤ
    Q = orientation a b q

    abbrev X : ℤ
    X = g *ℤ P +ℤ h *ℤ Q

    sides : opposite (orientation p q a) (orientation p q b) ≡ true
    sides = (and_parts (opposite (orientation p q a) (orientation p q b)) (opposite P Q) c).0

    ends : opposite P Q ≡ true
    ends = (and_parts (opposite (orientation p q a) (orientation p q b)) (opposite P Q) c).1

    -- the heights of p, u, v and q
    abbrev E : ℤ
    E = height N a b p q (scaled N p) at_p

    abbrev U : ℤ
    U = height N a b p q u at_u

    abbrev V : ℤ
    V = height N a b p q v at_v

    abbrev F : ℤ
    F = height N a b p q (scaled N q) at_q

    E_is : E ≡ N *ℤ P
    E_is = ring (N ∷ P ∷ Q ∷ []) (var 0 ⊗ var 1 ⊕ nought ⊗ var 2) (var 0 ⊗ var 1) refl

    F_is : F ≡ N *ℤ Q
    F_is = ring (N ∷ P ∷ Q ∷ []) (nought ⊗ var 1 ⊕ var 0 ⊗ var 2) (var 0 ⊗ var 2) refl

    U_is : U ≡ M *ℤ X +ℤ (P -ℤ Q)
    U_is = ring (g ∷ h ∷ M ∷ P ∷ Q ∷ []) ((var 2 ⊗ var 0 ⊕ unit) ⊗ var 3 ⊕ (var 2 ⊗ var 1 ⊖ unit) ⊗ var 4) (var 2 ⊗ (var 0 ⊗ var 3 ⊕ var 1 ⊗ var 4) ⊕ (var 3 ⊖ var 4)) refl

    V_is : V ≡ M *ℤ X -ℤ (P -ℤ Q)
    V_is = ring (g ∷ h ∷ M ∷ P ∷ Q ∷ []) ((var 2 ⊗ var 0 ⊖ unit) ⊗ var 3 ⊕ (var 2 ⊗ var 1 ⊕ unit) ⊗ var 4) (var 2 ⊗ (var 0 ⊗ var 3 ⊕ var 1 ⊗ var 4) ⊖ (var 3 ⊖ var 4)) refl

    module _ (f : NoneLevel E U V F) where
      fair_first : touches (scaled N a) (scaled N b) (scaled N p) u ≡ crosses (scaled N a) (scaled N b) (scaled N p) u
      fair_first = stretch_fair N p q (scaled N p) u some_grain at_p at_u a b sides ahead_first f.0 f.1

      fair_last : touches (scaled N a) (scaled N b) v (scaled N q) ≡ crosses (scaled N a) (scaled N b) v (scaled N q)
      fair_last = stretch_fair N p q v (scaled N q) some_grain at_v at_q a b sides ahead_last f.2 f.3

    crosses_first : crosses (scaled N a) (scaled N b) (scaled N p) u ≡ opposite E U
    crosses_first = stretch_crosses N p q (scaled N p) u some_grain at_p at_u a b sides ahead_first

    crosses_mid : crosses (scaled N a) (scaled N b) u v ≡ opposite U V
    crosses_mid = stretch_crosses N p q u v some_grain at_u at_v a b sides ahead_mid

    crosses_last : crosses (scaled N a) (scaled N b) v (scaled N q) ≡ opposite V F
    crosses_last = stretch_crosses N p q v (scaled N q) some_grain at_v at_q a b sides ahead_last

    far_parts : (P -ℤ Q) <ℤ M → neg_ℤ M <ℤ (P -ℤ Q) → ¬ (X ≡ pos 0) → Elsewhere (crosses a b p q) (scaled N a) (scaled N b) (scaled N p) u v (scaled N q)
    far_parts less greater x =
        let f = heights_far E U V F (M *ℤ X) (P -ℤ Q) M (ap₂ opposite E_is F_is ∙ (opposite_by N N P Q some_grain some_grain ∙ ends)) U_is V_is less greater (away (tri X)) in
        record {
          fair_first = fair_first f.0;
          fair_last = fair_last f.0;
          clear = stretch_misses N p q u v some_grain at_u at_v a b sides ahead_mid f.0.1 f.0.2 f.1;
          one = c ∙ sym (ap₂ differ crosses_first crosses_last ∙ f.2);
          first_in = λ t. c;
          last_in = λ t. c;
        }
      where
        away : Tri X → (M ≤ℤ (M *ℤ X)) ⊎ ((M *ℤ X) ≤ℤ neg_ℤ M)
        away (zeroed k) = absurd (x k)
        away (above k) = inl (omega (arith, lin, mul_le M (pos 1) X (omega (arith, lin)) (omega (arith, lin)), mul_one M))
        away (below k) = inr (omega (arith, lin, mul_le M X (negsuc 0) (omega (arith, lin)) (omega (arith, lin)), ring (M ∷ []) (var 0 ⊗ minus_unit) (nought ⊖ var 0) refl))

    pub crossed_there : X ≡ pos 0 → There (scaled N a) (scaled N b) (scaled N p) u v (scaled N q)
    crossed_there x =
        let y : M *ℤ X ≡ pos 0 = ap (λ z. M *ℤ z) x ∙ mul_zero M in
        let f = heights_near N P Q E U V F some_grain ends E_is F_is (omega (arith, lin, U_is)) (omega (arith, lin, V_is)) in
        record {
          fair_first = fair_first f.0;
          fair_last = fair_last f.0;
          crossed = crosses_mid ∙ f.1;
          first = crosses_first ∙ f.2;
          last = crosses_last ∙ f.3;
        }

  pub crossed_elsewhere : (a b : Point) → touches a b p q ≡ crosses a b p q → (orientation a b p -ℤ orientation a b q) <ℤ M → neg_ℤ M <ℤ (orientation a b p -ℤ orientation a b q) → (crosses a b p q ≡ true → ¬ (g *ℤ orientation a b p +ℤ h *ℤ orientation a b q ≡ pos 0)) → Elsewhere (crosses a b p q) (scaled N a) (scaled N b) (scaled N p) u v (scaled N q)
  crossed_elsewhere a b fair less greater x = go (case (crosses a b p q))
    where
      go : Case (crosses a b p q) → Elsewhere (crosses a b p q) (scaled N a) (scaled N b) (scaled N p) u v (scaled N q)
      go (fails e) = apart_parts a b (fair ∙ e) e
      go (holds e) = far_parts a b e less greater (x e)
