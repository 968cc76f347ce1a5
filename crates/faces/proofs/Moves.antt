-- From spot to spot: how the gap of two segments changes (`gap_move`), and what stays the same in one column (`higher_right_same`, `higher_left_same`, `right_moved`, `left_moved`).
use Rattle.std.proofs.Common.{◌≡◌, [], ◌∷◌, ℤ, pos, ◌+ℤ◌, ◌-ℤ◌, ◌*ℤ◌, ◌≤ℤ◌, ◌<ℤ◌, sym, refl, arith}
use Rattle.std.proofs.lemmas.Bool.Decides.{Decides-like, same_from_decides}
use Rattle.algebra.specs.Polynomial.{var, ◌⊕◌, ◌⊖◌, ◌⊗◌, by, minus_unit}
use Rattle.algebra.proofs.Ring.{ring, ring_from, mul_comm}
use Rattle.algebra.proofs.Signs.{lin, mul_pos, mul_neg, mul_nonneg, mul_nonpos, cancel_pos, cancel_neg, cancel_nonneg, cancel_nonpos, cancel_lt, mul_le, mul_lt}
use Rattle.plane.specs.declared.segment.Segment.{Segment}
use Rattle.plane.specs.Spots.{Spot, right_of, above_of, LeftOf}
use Rattle.faces.specs.Heights.{across, higher_right, higher_left}
use Rattle.faces.proofs.Leads.{times_zero, leads_same}
use Rattle.faces.proofs.Gaps.{tall, rest, gap, lean, tall_e, gap_e, Wide, Spans, BelowRight, BelowLeft, higher_right_tells, higher_left_tells}

pub gap_move : (s t : Spot) (l m : Segment) → s.k *ℤ gap t l m ≡ t.k *ℤ gap s l m +ℤ right_of t s *ℤ lean l m
gap_move s t l m =
    ring (l.low.x ∷ l.low.y ∷ l.high.x ∷ l.high.y ∷ m.low.x ∷ m.low.y ∷ m.high.x ∷ m.high.y ∷ s.x ∷ s.k ∷ t.x ∷ t.k ∷ [])
    (var 9 ⊗ gap_e (var 0) (var 1) (var 2) (var 3) (var 4) (var 5) (var 6) (var 7) (var 10) (var 11))
    (var 11 ⊗ gap_e (var 0) (var 1) (var 2) (var 3) (var 4) (var 5) (var 6) (var 7) (var 8) (var 9) ⊕ (var 10 ⊗ var 9 ⊖ var 8 ⊗ var 11) ⊗ ((var 3 ⊖ var 1) ⊗ (var 6 ⊖ var 4) ⊖ (var 7 ⊖ var 5) ⊗ (var 2 ⊖ var 0))) refl

-- from left to right
chained : (pk qk rk px qx rx : ℤ) → pos 0 <ℤ qk → (rk *ℤ (px *ℤ qk) +ℤ pk *ℤ (qx *ℤ rk)) <ℤ (rk *ℤ (qx *ℤ pk) +ℤ pk *ℤ (rx *ℤ qk)) → (px *ℤ rk) <ℤ (rx *ℤ pk)
chained pk qk rk px qx rx hq h =
    cancel_lt qk (px *ℤ rk) (rx *ℤ pk) (omega (arith, lin)) (omega (arith, lin, turned px qk rk, turned rx qk pk, turned qx pk rk))
  where
    turned : (x k l : ℤ) → l *ℤ (x *ℤ k) ≡ k *ℤ (x *ℤ l)
    turned x k l = ring (x ∷ k ∷ l ∷ []) (var 2 ⊗ (var 0 ⊗ var 1)) (var 1 ⊗ (var 0 ⊗ var 2)) refl

pub further : (p q r : Spot) → LeftOf p q → (q.x *ℤ r.k) ≤ℤ (r.x *ℤ q.k) → LeftOf p r
further p q r h j =
    chained p.k q.k r.k p.x q.x r.x q.fine
    (omega (arith, lin, mul_lt r.k (p.x *ℤ q.k) (q.x *ℤ p.k) r.fine h, mul_le p.k (q.x *ℤ r.k) (r.x *ℤ q.k) (omega (arith, lin, p.fine)) j))

pub nearer : (p q r : Spot) → (p.x *ℤ q.k) ≤ℤ (q.x *ℤ p.k) → LeftOf q r → LeftOf p r
nearer p q r h j =
    chained p.k q.k r.k p.x q.x r.x q.fine
    (omega (arith, lin, mul_le r.k (p.x *ℤ q.k) (q.x *ℤ p.k) (omega (arith, lin, r.fine)) h, mul_lt p.k (q.x *ℤ r.k) (r.x *ℤ q.k) p.fine j))

abbrev pub SameX : Spot → Spot → Type 0
SameX s t = s.x *ℤ t.k ≡ t.x *ℤ s.k

module _ (s t : Spot) (e : SameX s t) where
  pub gap_same : (l m : Segment) → t.k *ℤ gap s l m ≡ s.k *ℤ gap t l m
  gap_same l m = omega (arith, lin, gap_move t s l m, mul_comm (right_of s t) (lean l m), times_zero (lean l m) (right_of s t) (omega (arith, lin)))

  pub higher_right_same : (l m : Segment) → higher_right s l m ≡ higher_right t l m
  higher_right_same l m =
      same_from_decides (higher_right s l m) (higher_right t l m) (higher_right_tells s l m)
      (Decides-like (higher_right t l m) (leads_same s.k t.k (gap t l m) (gap s l m) (lean l m) s.fine t.fine (sym (gap_same l m))) (leads_same t.k s.k (gap s l m) (gap t l m) (lean l m) t.fine s.fine (gap_same l m)) (higher_right_tells t l m))

  pub higher_left_same : (l m : Segment) → higher_left s l m ≡ higher_left t l m
  higher_left_same l m =
      same_from_decides (higher_left s l m) (higher_left t l m) (higher_left_tells s l m)
      (Decides-like (higher_left t l m) (leads_same s.k t.k (gap t l m) (gap s l m) (lean m l) s.fine t.fine (sym (gap_same l m))) (leads_same t.k s.k (gap s l m) (gap t l m) (lean m l) t.fine s.fine (gap_same l m)) (higher_left_tells t l m))

  -- on which side of x = a the column is
  away : (a : ℤ) → s.k *ℤ (t.x -ℤ t.k *ℤ a) ≡ t.k *ℤ (s.x -ℤ s.k *ℤ a)
  away a = ring_from (s.x ∷ s.k ∷ t.x ∷ t.k ∷ a ∷ []) (by minus_unit (var 0 ⊗ var 3) (var 2 ⊗ var 1) ∷ []) (e, tt) (var 1 ⊗ (var 2 ⊖ var 3 ⊗ var 4)) (var 3 ⊗ (var 0 ⊖ var 1 ⊗ var 4)) refl

  from_moved : (a : ℤ) → (s.k *ℤ a) ≤ℤ s.x → (t.k *ℤ a) ≤ℤ t.x
  from_moved a h = omega (arith, lin, cancel_nonneg s.k (t.x -ℤ t.k *ℤ a) s.fine (omega (arith, lin, away a, mul_nonneg t.k (s.x -ℤ s.k *ℤ a) (omega (arith, lin, t.fine)) (omega (arith, lin)))))

  upto_moved : (a : ℤ) → s.x ≤ℤ (s.k *ℤ a) → t.x ≤ℤ (t.k *ℤ a)
  upto_moved a h = omega (arith, lin, cancel_nonpos s.k (t.x -ℤ t.k *ℤ a) s.fine (omega (arith, lin, away a, mul_nonpos t.k (s.x -ℤ s.k *ℤ a) (omega (arith, lin, t.fine)) (omega (arith, lin)))))

  after_moved : (a : ℤ) → (s.k *ℤ a) <ℤ s.x → (t.k *ℤ a) <ℤ t.x
  after_moved a h = omega (arith, lin, cancel_pos s.k (t.x -ℤ t.k *ℤ a) (omega (arith, lin, s.fine)) (omega (arith, lin, away a, mul_pos t.k (s.x -ℤ s.k *ℤ a) t.fine (omega (arith, lin)))))

  before_moved : (a : ℤ) → s.x <ℤ (s.k *ℤ a) → t.x <ℤ (t.k *ℤ a)
  before_moved a h = omega (arith, lin, cancel_neg s.k (t.x -ℤ t.k *ℤ a) (omega (arith, lin, s.fine)) (omega (arith, lin, away a, mul_neg t.k (s.x -ℤ s.k *ℤ a) t.fine (omega (arith, lin)))))

  pub spans_moved : (m : Segment) → Spans s m → Spans t m
  spans_moved m h = record { after_low = from_moved m.low.x h.after_low; before_high = upto_moved m.high.x h.before_high; wide = h.wide }

  -- what is below s is below t, which is on or above it
  pub right_moved : (m : Segment) → BelowRight s m → pos 0 ≤ℤ rest t m → BelowRight t m
  right_moved m f r = record { spans = spans_moved m f.spans; strict = before_moved m.high.x f.strict; over = r }

  pub left_moved : (m : Segment) → BelowLeft s m → pos 0 ≤ℤ rest t m → BelowLeft t m
  left_moved m f r = record { spans = spans_moved m f.spans; strict = after_moved m.low.x f.strict; over = r }

  -- t is on or above what s is, if it is not below s
  pub rest_up : (m : Segment) → pos 0 ≤ℤ above_of t s → Wide m → pos 0 ≤ℤ rest s m → pos 0 ≤ℤ rest t m
  rest_up m h w r =
      cancel_nonneg s.k (rest t m) s.fine
      (omega (arith, lin, lift, mul_nonneg t.k (rest s m) (omega (arith, lin, t.fine)) r, mul_nonneg (across m) (above_of t s) (omega (arith, lin)) h))
    where
      lift : s.k *ℤ rest t m ≡ t.k *ℤ rest s m +ℤ across m *ℤ above_of t s
      lift =
          ring_from (m.low.x ∷ m.low.y ∷ m.high.x ∷ m.high.y ∷ s.x ∷ s.y ∷ s.k ∷ t.x ∷ t.y ∷ t.k ∷ [])
          (by (var 3 ⊖ var 1) (var 4 ⊗ var 9) (var 7 ⊗ var 6) ∷ []) (e, tt)
          (var 6 ⊗ (var 8 ⊗ (var 2 ⊖ var 0) ⊖ tall_e (var 0) (var 1) (var 2) (var 3) (var 7) (var 9)))
          (var 9 ⊗ (var 5 ⊗ (var 2 ⊖ var 0) ⊖ tall_e (var 0) (var 1) (var 2) (var 3) (var 4) (var 6)) ⊕ (var 2 ⊖ var 0) ⊗ (var 8 ⊗ var 6 ⊖ var 5 ⊗ var 9)) refl

-- m not above n, and n not above s: m not above s
pub not_over : (s : Spot) (m n : Segment) → Wide m → Wide n → gap s m n ≤ℤ pos 0 → pos 0 ≤ℤ rest s n → pos 0 ≤ℤ rest s m
not_over s m n hm hn g h = by_numbers s.y (tall m s) (tall n s) (across m) (across n) hm hn g h
  where
    by_numbers : (y a b d e : ℤ) → pos 0 <ℤ d → pos 0 <ℤ e → (a *ℤ e -ℤ b *ℤ d) ≤ℤ pos 0 → pos 0 ≤ℤ (y *ℤ e -ℤ b) → pos 0 ≤ℤ (y *ℤ d -ℤ a)
    by_numbers y a b d e hd he g h =
        cancel_nonneg e (y *ℤ d -ℤ a) he
        (omega (arith, lin, mul_nonneg d (y *ℤ e -ℤ b) (omega (arith, lin)) h, ring (y ∷ a ∷ b ∷ d ∷ e ∷ []) (var 4 ⊗ (var 0 ⊗ var 3 ⊖ var 1)) (var 3 ⊗ (var 0 ⊗ var 4 ⊖ var 2) ⊖ (var 1 ⊗ var 4 ⊖ var 2 ⊗ var 3)) refl))
