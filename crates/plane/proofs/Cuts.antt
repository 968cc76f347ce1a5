-- A segment and a leg by numbers: where they run side by side, the heights of one over the other tell a `Cut`, by `cut_leg`, `cut_segment`, `cut_pb` and `cut_aq`.
use Rattle.std.proofs.Common.{◌≡◌, [], ◌∷◌, ℤ, pos, ◌+ℤ◌, ◌*ℤ◌, neg_ℤ, ◌≤ℤ◌, ◌<ℤ◌, refl, arith}
use Rattle.algebra.specs.Polynomial.{con, var, neg, ◌⊗◌}
use Rattle.algebra.proofs.Ring.{ring}
use Rattle.algebra.proofs.Signs.{lin, nonpos_mul, mul_nonneg, mul_nonpos, mul_negated, cancel_pos, cancel_nonneg, cancel_nonpos, mul_le}

-- A and B say how far a and b are above the leg, P and Q how far p and q are above the segment, each times the other's width, dp or dl.
-- D is how much the leg falls towards the segment, and w the way from p or q to a or b
pub record Quad (A B P Q D dl dp wap wbp waq wbq : ℤ) : Type 0 where
  pub fall_leg : P ≡ Q +ℤ D
  pub fall_segment : B ≡ A +ℤ D
  pub at_ap : dp *ℤ P +ℤ dl *ℤ A ≡ wap *ℤ D
  pub at_bp : dp *ℤ P +ℤ dl *ℤ B ≡ wbp *ℤ D
  pub at_aq : dp *ℤ Q +ℤ dl *ℤ A ≡ waq *ℤ D
  pub at_bq : dp *ℤ Q +ℤ dl *ℤ B ≡ wbq *ℤ D
  pub width_segment : wbp ≡ wap +ℤ dl
  pub width_leg : wap ≡ waq +ℤ dp
  pub width_leg' : wbp ≡ wbq +ℤ dp
  pub right_segment : pos 0 ≤ℤ dl
  pub right_leg : pos 0 ≤ℤ dp

-- the leg comes from above the segment, or starts on it, and goes below it, or ends on it
pub record Cut (A B P Q : ℤ) : Type 0 where
  pub a_under : A ≤ℤ pos 0
  pub b_over : pos 0 ≤ℤ B
  pub p_over : pos 0 ≤ℤ P
  pub q_under : Q ≤ℤ pos 0
  pub falls : A <ℤ B

pub low : (d e x y w D : ℤ) → d *ℤ x +ℤ e *ℤ y ≡ w *ℤ D → pos 0 <ℤ d → pos 0 ≤ℤ e → pos 0 <ℤ D → w ≤ℤ pos 0 → pos 0 ≤ℤ y → x ≤ℤ pos 0
low d e x y w D q hd he hD hw hy = cancel_nonpos d x hd (omega (arith, lin, mul_nonneg e y he hy, nonpos_mul w D hw (omega (arith, lin))))

pub high : (d e x y w D : ℤ) → d *ℤ x +ℤ e *ℤ y ≡ w *ℤ D → pos 0 <ℤ d → pos 0 ≤ℤ e → pos 0 <ℤ D → pos 0 ≤ℤ w → y ≤ℤ pos 0 → pos 0 ≤ℤ x
high d e x y w D q hd he hD hw hy = cancel_nonneg d x hd (omega (arith, lin, mul_nonpos e y he hy, mul_nonneg w D hw (omega (arith, lin))))

pub fall : (d e x y w D : ℤ) → d *ℤ x +ℤ e *ℤ y ≡ w *ℤ D → pos 0 <ℤ d → pos 0 <ℤ e → pos 0 ≤ℤ w → pos 0 ≤ℤ x → pos 0 ≤ℤ y → pos 0 <ℤ (x +ℤ y) → pos 0 <ℤ D
fall d e x y w D q hd he hw hx hy s =
    cancel_pos w D hw (omega (arith, lin, mul_le x (pos 1) d hx (omega (arith, lin)), mul_le y (pos 1) e hy (omega (arith, lin)), ring (x ∷ d ∷ []) (var 0 ⊗ con (pos 1)) (var 0) refl, ring (y ∷ d ∷ []) (var 0 ⊗ con (pos 1)) (var 0) refl, ring (x ∷ d ∷ []) (var 0 ⊗ var 1) (var 1 ⊗ var 0) refl, ring (y ∷ e ∷ []) (var 0 ⊗ var 1) (var 1 ⊗ var 0) refl))

pub fall' : (d e x y w D : ℤ) → d *ℤ x +ℤ e *ℤ y ≡ w *ℤ D → pos 0 <ℤ d → pos 0 <ℤ e → w ≤ℤ pos 0 → x ≤ℤ pos 0 → y ≤ℤ pos 0 → (x +ℤ y) <ℤ pos 0 → pos 0 <ℤ D
fall' d e x y w D q hd he hw hx hy s =
    fall d e (neg_ℤ x) (neg_ℤ y) (neg_ℤ w) D (omega (arith, lin, mul_negated d x, mul_negated e y, ring (w ∷ D ∷ []) (neg (var 0) ⊗ var 1) (neg (var 0 ⊗ var 1)) refl)) hd he (omega (arith, lin)) (omega (arith, lin)) (omega (arith, lin)) (omega (arith, lin))

module _ {A B P Q D dl dp wap wbp waq wbq : ℤ} (k : Quad A B P Q D dl dp wap wbp waq wbq) where
  -- the leg stands over the segment, the segment over the leg, or one begins before the other
  pub cut_leg : wap ≤ℤ pos 0 → pos 0 <ℤ wbq → pos 0 ≤ℤ P → Q ≤ℤ pos 0 → Q <ℤ P → Cut A B P Q
  cut_leg h₁ h₂ hP hQ s =
      let d : pos 0 <ℤ dl = omega (arith, lin) in
      let f : pos 0 <ℤ D = omega (arith, lin) in
      record { a_under = low dl dp A P wap D (omega (arith, lin)) d k.right_leg f h₁ hP; b_over = high dl dp B Q wbq D (omega (arith, lin)) d k.right_leg f (omega (arith, lin)) hQ; p_over = hP; q_under = hQ; falls = omega (arith, lin) }

  pub cut_segment : pos 0 <ℤ wap → wbq ≤ℤ pos 0 → A ≤ℤ pos 0 → pos 0 ≤ℤ B → A <ℤ B → Cut A B P Q
  cut_segment h₁ h₂ hA hB s =
      let d : pos 0 <ℤ dp = omega (arith, lin) in
      let f : pos 0 <ℤ D = omega (arith, lin) in
      record { a_under = hA; b_over = hB; p_over = high dp dl P A wap D k.at_ap d k.right_segment f (omega (arith, lin)) hA; q_under = low dp dl Q B wbq D k.at_bq d k.right_segment f h₂ hB; falls = s }

  pub cut_pb : wap ≤ℤ pos 0 → wbq ≤ℤ pos 0 → pos 0 <ℤ wbp → pos 0 ≤ℤ P → pos 0 ≤ℤ B → pos 0 <ℤ (P +ℤ B) → Cut A B P Q
  cut_pb h₁ h₂ h₃ hP hB s =
      let d : pos 0 <ℤ dl = omega (arith, lin) in
      let e : pos 0 <ℤ dp = omega (arith, lin) in
      let f : pos 0 <ℤ D = fall dp dl P B wbp D k.at_bp e d (omega (arith, lin)) hP hB s in
      record { a_under = low dl dp A P wap D (omega (arith, lin)) d k.right_leg f h₁ hP; b_over = hB; p_over = hP; q_under = low dp dl Q B wbq D k.at_bq e k.right_segment f h₂ hB; falls = omega (arith, lin) }

  pub cut_aq : pos 0 <ℤ wap → pos 0 <ℤ wbq → waq ≤ℤ pos 0 → A ≤ℤ pos 0 → Q ≤ℤ pos 0 → (Q +ℤ A) <ℤ pos 0 → Cut A B P Q
  cut_aq h₁ h₂ h₃ hA hQ s =
      let d : pos 0 <ℤ dl = omega (arith, lin) in
      let e : pos 0 <ℤ dp = omega (arith, lin) in
      let f : pos 0 <ℤ D = fall' dp dl Q A waq D k.at_aq e d h₃ hQ hA s in
      record { a_under = hA; b_over = high dl dp B Q wbq D (omega (arith, lin)) d k.right_leg f (omega (arith, lin)) hQ; p_over = high dp dl P A wap D k.at_ap e k.right_segment f (omega (arith, lin)) hA; q_under = hQ; falls = omega (arith, lin) }

-- upside down
pub flipped : {A B P Q D dl dp wap wbp waq wbq : ℤ} → Quad A B P Q D dl dp wap wbp waq wbq → Quad (neg_ℤ A) (neg_ℤ B) (neg_ℤ P) (neg_ℤ Q) (neg_ℤ D) dl dp wap wbp waq wbq
flipped {A} {B} {P} {Q} {D} {dl} {dp} {wap} {wbp} {waq} {wbq} k =
    record { fall_leg = omega (arith, lin); fall_segment = omega (arith, lin); at_ap = omega (arith, lin, mul_negated dp P, mul_negated dl A, mul_negated wap D); at_bp = omega (arith, lin, mul_negated dp P, mul_negated dl B, mul_negated wbp D); at_aq = omega (arith, lin, mul_negated dp Q, mul_negated dl A, mul_negated waq D); at_bq = omega (arith, lin, mul_negated dp Q, mul_negated dl B, mul_negated wbq D); width_segment = k.width_segment; width_leg = k.width_leg; width_leg' = k.width_leg'; right_segment = k.right_segment; right_leg = k.right_leg }

pub flip_back : (A B P Q : ℤ) → Cut (neg_ℤ A) (neg_ℤ B) (neg_ℤ P) (neg_ℤ Q) → Cut B A Q P
flip_back A B P Q c =
    record { a_under = omega (arith, lin); b_over = omega (arith, lin); p_over = omega (arith, lin); q_under = omega (arith, lin); falls = omega (arith, lin) }
