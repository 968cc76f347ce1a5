-- A line from a to b and a leg to the right from p to q, by numbers: on which side each end lies where they share no point (`same_sides`), and where they cross (`through`, `through'`).
use Rattle.std.proofs.Common.{◌≡◌, Bool, true, false, ◌&&◌, ◌⊎◌, ℤ, pos, ◌-ℤ◌, ◌≤ℤ◌, ◌<ℤ◌, inl, inr, arith}
use lib.Signed.{lt_z, le_z}
use Rattle.algebra.specs.Parity.{differ}
use Rattle.algebra.proofs.Signs.{lin, split}
use Rattle.algebra.proofs.Members.{agree}
use Rattle.plane.proofs.Cuts.{Quad, Cut, cut_leg, cut_segment, cut_pb, cut_aq, flipped, flip_back}

-- x is where an end stands, A and B are the heights of a and b over the leg, P and Q those of p and q over the line.
-- That the line passes under just one end of the leg is, but for r, that the leg passes over just one end of the line
abbrev pub Sides : (xa xb xp xq A B P Q : ℤ) → Bool → Type 0
Sides xa xb xp xq A B P Q r =
    differ (le_z xa xp && (lt_z xp xb && lt_z (pos 0) P)) (le_z xa xq && (lt_z xq xb && lt_z (pos 0) Q)) ≡ differ r (differ (lt_z xp xa && (le_z xa xq && lt_z A (pos 0))) (lt_z xp xb && (le_z xb xq && lt_z B (pos 0))))

far_right : (xa xb xp xq A B P Q : ℤ) → xa ≤ℤ xb → xp ≤ℤ xq → xq <ℤ xa → Sides xa xb xp xq A B P Q false
far_right xa xb xp xq A B P Q h k l = grind (arith, lin)

far_left : (xa xb xp xq A B P Q : ℤ) → xa ≤ℤ xb → xp ≤ℤ xq → xb ≤ℤ xp → Sides xa xb xp xq A B P Q false
far_left xa xb xp xq A B P Q h k l = grind (arith, lin)

near_leg : (xa xb xp xq A B P Q : ℤ) → xp ≤ℤ xq → xa ≤ℤ xp → xq <ℤ xb → lt_z (pos 0) P ≡ lt_z (pos 0) Q → Sides xa xb xp xq A B P Q false
near_leg xa xb xp xq A B P Q h k l e = grind (arith, lin)

near_segment : (xa xb xp xq A B P Q : ℤ) → xa ≤ℤ xb → xp <ℤ xa → xb ≤ℤ xq → lt_z A (pos 0) ≡ lt_z B (pos 0) → Sides xa xb xp xq A B P Q false
near_segment xa xb xp xq A B P Q h k l e = grind (arith, lin)

near_pb : (xa xb xp xq A B P Q : ℤ) → xp <ℤ xb → xa ≤ℤ xp → xb ≤ℤ xq → lt_z (pos 0) P ≡ lt_z B (pos 0) → Sides xa xb xp xq A B P Q false
near_pb xa xb xp xq A B P Q h k l e = grind (arith, lin)

near_aq : (xa xb xp xq A B P Q : ℤ) → xa ≤ℤ xq → xp <ℤ xa → xq <ℤ xb → lt_z A (pos 0) ≡ lt_z (pos 0) Q → Sides xa xb xp xq A B P Q false
near_aq xa xb xp xq A B P Q h k l e = grind (arith, lin)

pub through : (xa xb xp xq A B P Q : ℤ) → xa ≤ℤ xq → xp <ℤ xb → xa ≤ℤ xb → xp ≤ℤ xq → A <ℤ pos 0 → pos 0 <ℤ B → pos 0 <ℤ P → Q <ℤ pos 0 → Sides xa xb xp xq A B P Q true
through xa xb xp xq A B P Q h k l m a b p q = grind (arith, lin)

pub through' : (xa xb xp xq A B P Q : ℤ) → xa ≤ℤ xq → xp <ℤ xb → xa ≤ℤ xb → xp ≤ℤ xq → pos 0 <ℤ A → B <ℤ pos 0 → P <ℤ pos 0 → pos 0 <ℤ Q → Sides xa xb xp xq A B P Q true
through' xa xb xp xq A B P Q h k l m a b p q = grind (arith, lin)

-- neither cuts the other
module _ (xa xb xp xq A B P Q D : ℤ) (k : Quad A B P Q D (xb -ℤ xa) (xq -ℤ xp) (xa -ℤ xp) (xb -ℤ xp) (xa -ℤ xq) (xb -ℤ xq)) (no_cut : ¬ Cut A B P Q) (no_rise : ¬ Cut B A Q P) where
  same_at : (xa ≤ℤ xq) ⊎ (xq <ℤ xa) → (xb ≤ℤ xp) ⊎ (xp <ℤ xb) → (xa ≤ℤ xp) ⊎ (xp <ℤ xa) → (xb ≤ℤ xq) ⊎ (xq <ℤ xb) → Sides xa xb xp xq A B P Q false
  same_at (inr h) y z w = far_right xa xb xp xq A B P Q (omega (arith, lin)) (omega (arith, lin)) h
  same_at (inl h) (inl i) z w = far_left xa xb xp xq A B P Q (omega (arith, lin)) (omega (arith, lin)) i
  same_at (inl h) (inr i) (inl j) (inr m) =
      near_leg xa xb xp xq A B P Q (omega (arith, lin)) j m
      (agree (lt_z (pos 0) P) (lt_z (pos 0) Q)
      (λ e f. no_cut (cut_leg k (omega (arith, lin)) (omega (arith, lin)) (omega (arith, lin)) (omega (arith, lin)) (omega (arith, lin))))
      (λ e f. no_rise (flip_back A B P Q (cut_leg (flipped k) (omega (arith, lin)) (omega (arith, lin)) (omega (arith, lin)) (omega (arith, lin)) (omega (arith, lin))))))
  same_at (inl h) (inr i) (inr j) (inl m) =
      near_segment xa xb xp xq A B P Q (omega (arith, lin)) j m
      (agree (lt_z A (pos 0)) (lt_z B (pos 0))
      (λ e f. no_cut (cut_segment k (omega (arith, lin)) (omega (arith, lin)) (omega (arith, lin)) (omega (arith, lin)) (omega (arith, lin))))
      (λ e f. no_rise (flip_back A B P Q (cut_segment (flipped k) (omega (arith, lin)) (omega (arith, lin)) (omega (arith, lin)) (omega (arith, lin)) (omega (arith, lin))))))
  same_at (inl h) (inr i) (inl j) (inl m) =
      near_pb xa xb xp xq A B P Q i j m
      (agree (lt_z (pos 0) P) (lt_z B (pos 0))
      (λ e f. no_cut (cut_pb k (omega (arith, lin)) (omega (arith, lin)) (omega (arith, lin)) (omega (arith, lin)) (omega (arith, lin)) (omega (arith, lin))))
      (λ e f. no_rise (flip_back A B P Q (cut_pb (flipped k) (omega (arith, lin)) (omega (arith, lin)) (omega (arith, lin)) (omega (arith, lin)) (omega (arith, lin)) (omega (arith, lin))))))
  same_at (inl h) (inr i) (inr j) (inr m) =
      near_aq xa xb xp xq A B P Q h j m
      (agree (lt_z A (pos 0)) (lt_z (pos 0) Q)
      (λ e f. no_cut (cut_aq k (omega (arith, lin)) (omega (arith, lin)) (omega (arith, lin)) (omega (arith, lin)) (omega (arith, lin)) (omega (arith, lin))))
      (λ e f. no_rise (flip_back A B P Q (cut_aq (flipped k) (omega (arith, lin)) (omega (arith, lin)) (omega (arith, lin)) (omega (arith, lin)) (omega (arith, lin)) (omega (arith, lin))))))

  pub same_sides : Sides xa xb xp xq A B P Q false
  same_sides = same_at (split xa xq) (split xb xp) (split xa xp) (split xb xq)
