-- The points of a segment in the order of points: each is an end or lies strictly between the ends (`standing`), and what the test `inside` says (`inside_tells`).
use Rattle.std.proofs.Common.{◌≡◌, Bool, true, ◌&&◌, [], ◌∷◌, ℤ, pos, ◌-ℤ◌, ◌*ℤ◌, ◌<ℤ◌, Decides, sym, refl, ap, inl, inr, arith}
use Rattle.std.proofs.lemmas.Bool.{and_parts, and_from}
use Rattle.algebra.specs.Polynomial.{var, neg, ◌⊖◌, ◌⊗◌, by, nought, minus_unit}
use Rattle.algebra.proofs.Ring.{ring_from}
use Rattle.algebra.proofs.Signs.{lin, mul_lt, cancel, cancel_lt, cancel_nonzero}
use Rattle.plane.specs.declared.point.Point.{Point}
use Rattle.plane.specs.declared.segment.Segment.{Segment}
use Rattle.plane.specs.Points.{eq_int, precedes, orientation, scaled}
use Rattle.plane.specs.Meeting.{inside}
use Rattle.plane.specs.PointLaws.{Before, before_of, of_before, rightward, Lex, first, last, one, lex}
use Rattle.plane.proofs.Pairs.{Between, Hits, turn_x}
use Rattle.plane.proofs.Sharing.{hits_whole, hits_back, along_by}

-- the order of points in another scale
pub before_scaled : (k : ℤ) (a b : Point) → pos 0 <ℤ k → Before a b → Before (scaled k a) (scaled k b)
before_scaled k a b h (inl i) = inl (mul_lt k a.x b.x h i)
before_scaled k a b h (inr i) = inr (ap (λ t. k *ℤ t) i.0, mul_lt k a.y b.y h i.1)

pub before_shrunk : (k : ℤ) (a b : Point) → pos 0 <ℤ k → Before (scaled k a) (scaled k b) → Before a b
before_shrunk k a b h (inl i) = inl (cancel_lt k a.x b.x (omega (arith, lin)) i)
before_shrunk k a b h (inr i) = inr (cancel k a.x b.x h i.0, cancel_lt k a.y b.y (omega (arith, lin)) i.1)

-- a point of the segment at the x of one end is that end, if the other end has another x
beside : (k : ℤ) (s a b : Point) → Hits k s a b → s.x ≡ k *ℤ a.x → ¬ (k *ℤ a.x ≡ k *ℤ b.x) → s.y ≡ k *ℤ a.y
beside k s a b o e n = by_numbers (k *ℤ a.x) (k *ℤ a.y) (k *ℤ b.x) (k *ℤ b.y) s.x s.y o.straight e n
  where
    by_numbers : (ux uy vx vy sx sy : ℤ) → (ux -ℤ sx) *ℤ (vy -ℤ sy) -ℤ (vx -ℤ sx) *ℤ (uy -ℤ sy) ≡ pos 0 → sx ≡ ux → ¬ (ux ≡ vx) → sy ≡ uy
    by_numbers ux uy vx vy sx sy z e n =
        let d : uy -ℤ sy ≡ pos 0 = cancel_nonzero (vx -ℤ sx) (uy -ℤ sy) (λ f. n (omega (arith, lin))) (ring_from (ux ∷ uy ∷ vx ∷ vy ∷ sx ∷ sy ∷ []) (by minus_unit (turn_x (var 0) (var 1) (var 2) (var 3) (var 4) (var 5)) nought ∷ by (neg (var 3 ⊖ var 5)) (var 4) (var 0) ∷ []) (z, (e, tt)) ((var 2 ⊖ var 4) ⊗ (var 1 ⊖ var 5)) nought refl) in
        omega (arith, lin)

-- no point of a segment lies before its lesser end, and none behind its greater
not_before : (k : ℤ) (s a b : Point) → Before (scaled k a) (scaled k b) → Hits k s a b → Before s (scaled k a) → ⊥
not_before k s a b (inl h) o (inl i) = let x = o.across in omega (arith, lin)
not_before k s a b (inl h) o (inr i) = let y = beside k s a b o i.0 (λ e. omega (arith, lin)) in omega (arith, lin)
not_before k s a b (inr h) o (inl i) = let x = o.across in omega (arith, lin)
not_before k s a b (inr h) o (inr i) = let y = o.along in omega (arith, lin)

not_behind : (k : ℤ) (s a b : Point) → Before (scaled k a) (scaled k b) → Hits k s a b → Before (scaled k b) s → ⊥
not_behind k s a b (inl h) o (inl i) = let x = o.across in omega (arith, lin)
not_behind k s a b (inl h) o (inr i) = let y = beside k s b a (hits_back k s a b o) (sym i.0) (λ e. omega (arith, lin)) in omega (arith, lin)
not_behind k s a b (inr h) o (inl i) = let x = o.across in omega (arith, lin)
not_behind k s a b (inr h) o (inr i) = let y = o.along in omega (arith, lin)

-- a point of the segment is one of its ends, or strictly between them in the order of points
pub data Standing (k : ℤ) (s a b : Point) : Type 0 where
  at_low : s ≡ scaled k a → Standing k s a b
  at_high : s ≡ scaled k b → Standing k s a b
  strictly : Before (scaled k a) s → Before s (scaled k b) → Standing k s a b

pub standing : (k : ℤ) (s a b : Point) → pos 0 <ℤ k → Before a b → Hits k s a b → Standing k s a b
standing k s a b hk l o = go (lex (scaled k a) s) (lex s (scaled k b))
  where
    go : Lex (scaled k a) s → Lex s (scaled k b) → Standing k s a b
    go (one e) j = at_low (sym e)
    go (last h) j = absurd (not_before k s a b (before_scaled k a b hk l) o h)
    go (first h) (one e) = at_high e
    go (first h) (last i) = absurd (not_behind k s a b (before_scaled k a b hk l) o i)
    go (first h) (first i) = strictly h i

-- strictly between two points in their order, and straight: between them in y
along_order : (a b c : Point) → Before a c → Before c b → orientation a b c ≡ pos 0 → Between a.y b.y c.y
along_order a b c (inl h) (inl i) z = along_by c a b (omega (arith, lin)) (omega (arith, lin)) (omega (arith, lin)) z
along_order a b c (inl h) (inr i) z = along_by c a b (omega (arith, lin)) (omega (arith, lin)) (omega (arith, lin)) z
along_order a b c (inr h) (inl i) z = along_by c a b (omega (arith, lin)) (omega (arith, lin)) (omega (arith, lin)) z
along_order a b c (inr h) (inr i) z = inl (omega (arith, lin), omega (arith, lin))

-- what the test `inside` says
pub record Inside (l : Segment) (c : Point) : Type 0 where
  pub after_low : Before l.low c
  pub before_high : Before c l.high
  pub level : orientation l.low l.high c ≡ pos 0

zero_out : (z : ℤ) → eq_int z (pos 0) ≡ true → z ≡ pos 0
zero_out z e = grind (arith, lin)

zero_in : (z : ℤ) → z ≡ pos 0 → eq_int z (pos 0) ≡ true
zero_in z e = grind (arith, lin)

pub inside_tells : (l : Segment) (c : Point) → Decides (inside l c) (Inside l c)
inside_tells l c = (out, into)
  where
    lower : Bool
    lower = precedes l.low c

    higher : Bool
    higher = precedes c l.high

    straight : Bool
    straight = eq_int (orientation l.low l.high c) (pos 0)

    out : inside l c ≡ true → Inside l c
    out e =
        let g = and_parts lower (higher && straight) e in
        let h = and_parts higher straight g.1 in
        record { after_low = before_of l.low c g.0; before_high = before_of c l.high h.0; level = zero_out (orientation l.low l.high c) h.1 }

    into : Inside l c → inside l c ≡ true
    into i =
        and_from lower (higher && straight) (of_before l.low c i.after_low)
        (and_from higher straight (of_before c l.high i.before_high) (zero_in (orientation l.low l.high c) i.level))

pub inside_hits : (l : Segment) (c : Point) → Inside l c → Hits (pos 1) (scaled (pos 1) c) l.low l.high
inside_hits l c i =
    hits_whole c l.low l.high i.level
    (inl (rightward l.low c i.after_low, rightward c l.high i.before_high))
    (along_order l.low l.high c i.after_low i.before_high i.level)
