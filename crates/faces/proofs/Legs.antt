-- Legs that touch no line: either way round (`clear_back`), their ends on no line (`off_start`), and cut in the column of a corner (`cut_at`).
use Rattle.std.proofs.Common.{◌≡◌, false, List, [], ◌∷◌, ℤ, pos, ◌+ℤ◌, ◌-ℤ◌, ◌*ℤ◌, ◌<ℤ◌, sym, refl, ap, ◌∙◌, subst, subst₂, inl, inr, arith}
use Rattle.algebra.specs.Polynomial.{con, var, ◌⊕◌, ◌⊖◌, ◌⊗◌, nought}
use Rattle.algebra.proofs.Ring.{ring, mul_comm, add_zero, zero_add}
use Rattle.algebra.proofs.Signs.{lin, mul_pos, mul_lt}
use Rattle.algebra.proofs.Members.{apart}
use Rattle.plane.specs.declared.point.Point.{Point}
use Rattle.plane.specs.declared.segment.Segment.{Segment}
use Rattle.plane.specs.Points.{scaled}
use Rattle.plane.specs.Spots.{Spot, whole, right_of, above_of, LeftOf, Around, On}
use Rattle.plane.proofs.Pairs.{touches}
use Rattle.plane.proofs.Sharing.{mean, hits_start}
use Rattle.plane.proofs.Bridge.{spot, Stands, on_of, scaled_twice, touches_at, touches_tell}
use Rattle.reading.specs.Reading.{Off, Clear}
use Rattle.reading.proofs.Scales.{both, first, second, both_fine, first_stands, second_stands, finer}
use Rattle.reading.proofs.Stretches.{Along, stretch_apart}
use Rattle.faces.proofs.Best.{refuted}
use Rattle.faces.proofs.Moves.{SameX}

around_back : (v w : ℤ) → Around v w → Around w v
around_back v w (inl h) = inr (h.1, h.0)
around_back v w (inr h) = inl (h.1, h.0)

on_start : (s t : Spot) → On s t s
on_start s t =
    on_of (both s t) (pos 1) (first s t) (second s t) (scaled (pos 1) (first s t)) s t s (both_fine s t) (omega (arith, lin)) (first_stands s t) (second_stands s t)
    (subst (λ c. Stands s c (scaled (pos 1) (first s t))) (mul_comm (both s t) (pos 1)) (finer (both s t) (pos 1) (first s t) s (first_stands s t))) (hits_start (first s t) (second s t))

on_back : (s t u : Spot) → On s t u → On t s u
on_back s t u o = record { straight = sym o.straight; in_x = around_back (right_of s u) (right_of t u) o.in_x; in_y = around_back (above_of s u) (above_of t u) o.in_y }

pub clear_back : (ls : List Segment) (p q : Spot) → Clear ls p q → Clear ls q p
clear_back ls p q c l i t = c l i (t.0, on_back q p t.0 t.1, t.2)

pub off_start : (ls : List Segment) (p q : Spot) → Clear ls p q → Off ls p
off_start ls p q c l i h = c l i (p, on_start p q, h)

-- a spot of the leg in the column of v
pub record CutAt (ls : List Segment) (p q : Spot) (v : Point) : Type 0 where
  pub at : Spot
  pub in_column : SameX at (whole v)
  pub clear_first : Clear ls p at
  pub clear_last : Clear ls at q

module _ (ls : List Segment) (p q : Spot) (v : Point) (after : LeftOf p (whole v)) (before : LeftOf (whole v) q) (clear : Clear ls p q) where
  abbrev K : ℤ
  K = both p q

  abbrev P : Point
  P = first p q

  abbrev Q : Point
  Q = second p q

  -- its weights on p and on q
  m : ℤ
  m = Q.x -ℤ K *ℤ v.x

  n : ℤ
  n = K *ℤ v.x -ℤ P.x

  n_some : pos 0 <ℤ n
  unfolding n
  n_some = by_scale p.k q.k v.x p.x q.fine after
    where
      by_scale : (pk qk v px : ℤ) → pos 0 <ℤ qk → (px *ℤ pos 1) <ℤ (v *ℤ pk) → pos 0 <ℤ ((pk *ℤ qk) *ℤ v -ℤ qk *ℤ px)
      by_scale pk qk v px h j = omega (arith, lin, mul_lt qk (px *ℤ pos 1) (v *ℤ pk) h j, ring (pk ∷ qk ∷ v ∷ []) (var 0 ⊗ var 1 ⊗ var 2) (var 1 ⊗ (var 2 ⊗ var 0)) refl, ring (qk ∷ px ∷ []) (var 0 ⊗ (var 1 ⊗ con (pos 1))) (var 0 ⊗ var 1) refl)

  m_some : pos 0 <ℤ m
  unfolding m
  m_some = by_scale p.k q.k v.x q.x p.fine before
    where
      by_scale : (pk qk v qx : ℤ) → pos 0 <ℤ pk → (v *ℤ qk) <ℤ (qx *ℤ pos 1) → pos 0 <ℤ (pk *ℤ qx -ℤ (pk *ℤ qk) *ℤ v)
      by_scale pk qk v qx h j = omega (arith, lin, mul_lt pk (v *ℤ qk) (qx *ℤ pos 1) h j, ring (pk ∷ qk ∷ v ∷ []) (var 0 ⊗ var 1 ⊗ var 2) (var 0 ⊗ (var 2 ⊗ var 1)) refl, ring (pk ∷ qx ∷ []) (var 0 ⊗ (var 1 ⊗ con (pos 1))) (var 0 ⊗ var 1) refl)

  abbrev N : ℤ
  N = m +ℤ n

  N_some : pos 0 <ℤ N
  N_some = omega (arith, lin, m_some, n_some)

  abbrev U : Point
  U = mean m P n Q

  K_some : pos 0 <ℤ (K *ℤ N)
  K_some = mul_pos K N (both_fine p q) N_some

  abbrev cut : Spot
  cut = spot U (K *ℤ N) K_some

  at_p : Along N P Q (scaled N P)
  at_p = record { m = N; n = pos 0; m_some = omega (arith, lin, N_some); n_some = omega (arith, lin); total = add_zero N; for_x = all_of P.x Q.x; for_y = all_of P.y Q.y }
    where
      all_of : (x y : ℤ) → N *ℤ x ≡ N *ℤ x +ℤ pos 0 *ℤ y
      all_of x y = ring (N ∷ x ∷ y ∷ []) (var 0 ⊗ var 1) (var 0 ⊗ var 1 ⊕ nought ⊗ var 2) refl

  at_cut : Along N P Q U
  at_cut = record { m = m; n = n; m_some = omega (arith, lin, m_some); n_some = omega (arith, lin, n_some); total = refl; for_x = refl; for_y = refl }

  at_q : Along N P Q (scaled N Q)
  at_q = record { m = pos 0; n = N; m_some = omega (arith, lin); n_some = omega (arith, lin, N_some); total = zero_add N; for_x = all_of P.x Q.x; for_y = all_of P.y Q.y }
    where
      all_of : (x y : ℤ) → N *ℤ y ≡ pos 0 *ℤ x +ℤ N *ℤ y
      all_of x y = ring (N ∷ x ∷ y ∷ []) (var 0 ⊗ var 2) (nought ⊗ var 1 ⊕ var 0 ⊗ var 2) refl

  -- a stretch of the leg from S to T touches no line
  stretch_clear : (s t : Spot) (S T : Point) → Stands s (K *ℤ N) S → Stands t (K *ℤ N) T → Along N P Q S → Along N P Q T → Clear ls s t
  stretch_clear s t S T hs ht aS aT l i h =
      apart ((touches_tell (K *ℤ N) S T s t K_some hs ht l).1 h)
      (subst₂ (λ a b. touches a b S T ≡ false) (finer_point l.low) (finer_point l.high) (stretch_apart N P Q S T N_some aS aT (scaled K l.low) (scaled K l.high) whole_leg))
    where
      finer_point : (w : Point) → scaled N (scaled K w) ≡ scaled (K *ℤ N) w
      finer_point w = scaled_twice N K w ∙ ap (λ c. scaled c w) (mul_comm N K)

      whole_leg : touches_at K P Q l ≡ false
      whole_leg = refuted (touches_at K P Q l) (λ e. clear l i ((touches_tell K P Q p q (both_fine p q) (first_stands p q) (second_stands p q) l).0 e))

  pub cut_at : CutAt ls p q v
  unfolding m n
  cut_at =
      record {
        at = cut;
        in_column = column P.x Q.x K v.x;
        clear_first = stretch_clear p cut (scaled N P) U (finer K N P p (first_stands p q)) refl at_p at_cut;
        clear_last = stretch_clear cut q U (scaled N Q) refl (finer K N Q q (second_stands p q)) at_cut at_q;
      }
    where
      column : (P Q K v : ℤ) → ((Q -ℤ K *ℤ v) *ℤ P +ℤ (K *ℤ v -ℤ P) *ℤ Q) *ℤ pos 1 ≡ v *ℤ (K *ℤ ((Q -ℤ K *ℤ v) +ℤ (K *ℤ v -ℤ P)))
      column P Q K v = ring (P ∷ Q ∷ K ∷ v ∷ []) (((var 1 ⊖ var 2 ⊗ var 3) ⊗ var 0 ⊕ (var 2 ⊗ var 3 ⊖ var 0) ⊗ var 1) ⊗ con (pos 1)) (var 3 ⊗ (var 2 ⊗ (var 1 ⊖ var 2 ⊗ var 3 ⊕ (var 2 ⊗ var 3 ⊖ var 0)))) refl
