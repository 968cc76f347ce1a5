-- Segments over a spot: which are below it (`right_tells`, `left_tells`), which is higher (`higher_right_tells`, `higher_left_tells`), and so the one just below (`just_right`, `just_left`).
use Rattle.std.proofs.Common.{◌≡◌, Bool, true, false, not, ◌&&◌, List, [], ◌∷◌, length, ℤ, pos, ◌+ℤ◌, ◌-ℤ◌, ◌*ℤ◌, neg_ℤ, ◌≤ℤ◌, ◌<ℤ◌, Some, Decides, refl, ap, inl, arith}
use lib.Signed.{lt_z, le_z}
use Rattle.algebra.specs.Members.{◌∈◌}
use Rattle.algebra.specs.Polynomial.{Ex, var, ◌⊕◌, ◌⊖◌, ◌⊗◌, by}
use Rattle.algebra.specs.Parity.{odd}
use Rattle.algebra.proofs.Ring.{ring, ring_from}
use Rattle.algebra.proofs.Signs.{lin, mul_nonneg, cancel_nonneg, cancel_lt}
use Rattle.algebra.proofs.Members.{apart}
use Rattle.plane.specs.declared.segment.Segment.{Segment}
use Rattle.plane.specs.Points.{eq_int}
use Rattle.plane.specs.Spots.{Spot}
use Rattle.faces.specs.Heights.{across, up, height, higher_right, higher_left}
use Rattle.faces.specs.Below.{is_below_right, is_below_left, all_below_right, all_below_left, odd_below_right, below_right, below_left}
use Rattle.faces.proofs.Best.{refuted, best, highest_is}
use Rattle.faces.proofs.Leads.{not_less, Leads, leads_tells, leads_self, leads_trans}

-- the height of l over s, times s .k and the width of l
abbrev pub tall : Segment → Spot → ℤ
tall l s = (height l s).over

-- how far the spot is above the segment, and how far l is above m over the spot; how much steeper l is; all times widths
abbrev pub rest : Spot → Segment → ℤ
rest s l = s.y *ℤ across l -ℤ tall l s

abbrev pub gap : Spot → Segment → Segment → ℤ
gap s l m = tall l s *ℤ across m -ℤ tall m s *ℤ across l

abbrev pub lean : Segment → Segment → ℤ
lean l m = up l *ℤ across m -ℤ up m *ℤ across l

negated : (e e' d d' : ℤ) → e' *ℤ d -ℤ e *ℤ d' ≡ neg_ℤ (e *ℤ d' -ℤ e' *ℤ d)
negated e e' d d' = omega (arith, lin)

pub gap_back : (s : Spot) (l m : Segment) → gap s m l ≡ neg_ℤ (gap s l m)
gap_back s l m = negated (tall l s) (tall m s) (across l) (across m)

pub lean_back : (l m : Segment) → lean m l ≡ neg_ℤ (lean l m)
lean_back l m = negated (up l) (up m) (across l) (across m)

-- for `ring`: of a segment from (ax, ay) to (bx, by), a second from (cx, cy) to (dx, dy), and a spot with x and k
abbrev pub tall_e : (ax ay bx by x k : Ex) → Ex
tall_e ax ay bx by x k = k ⊗ (ay ⊗ (bx ⊖ ax)) ⊕ (by ⊖ ay) ⊗ (x ⊖ k ⊗ ax)

abbrev pub gap_e : (ax ay bx by cx cy dx dy x k : Ex) → Ex
gap_e ax ay bx by cx cy dx dy x k = tall_e ax ay bx by x k ⊗ (dx ⊖ cx) ⊖ tall_e cx cy dx dy x k ⊗ (bx ⊖ ax)

abbrev pub Wide : Segment → Type 0
Wide l = pos 0 <ℤ across l

-- the spot stands over or under the segment, its ends included
pub record Spans (s : Spot) (l : Segment) : Type 0 where
  pub after_low : (s.k *ℤ l.low.x) ≤ℤ s.x
  pub before_high : s.x ≤ℤ (s.k *ℤ l.high.x)
  pub wide : Wide l

pub record BelowRight (s : Spot) (l : Segment) : Type 0 where
  pub spans : Spans s l
  pub strict : s.x <ℤ (s.k *ℤ l.high.x)
  pub over : pos 0 ≤ℤ rest s l

pub record BelowLeft (s : Spot) (l : Segment) : Type 0 where
  pub spans : Spans s l
  pub strict : (s.k *ℤ l.low.x) <ℤ s.x
  pub over : pos 0 ≤ℤ rest s l

-- where the spot is in the column of an end
module _ (s : Spot) (l : Segment) where
  abbrev numbers : List ℤ
  numbers = l.low.x ∷ l.low.y ∷ l.high.x ∷ l.high.y ∷ s.x ∷ s.y ∷ s.k ∷ []

  abbrev rest_e : Ex
  rest_e = var 5 ⊗ (var 2 ⊖ var 0) ⊖ tall_e (var 0) (var 1) (var 2) (var 3) (var 4) (var 6)

  pub rest_low : s.k *ℤ l.low.x ≡ s.x → rest s l ≡ across l *ℤ (s.y -ℤ s.k *ℤ l.low.y)
  rest_low e = ring_from numbers (by (var 3 ⊖ var 1) (var 6 ⊗ var 0) (var 4) ∷ []) (e, tt) rest_e ((var 2 ⊖ var 0) ⊗ (var 5 ⊖ var 6 ⊗ var 1)) refl

  pub rest_high : s.k *ℤ l.high.x ≡ s.x → rest s l ≡ across l *ℤ (s.y -ℤ s.k *ℤ l.high.y)
  rest_high e = ring_from numbers (by (var 3 ⊖ var 1) (var 6 ⊗ var 2) (var 4) ∷ []) (e, tt) rest_e ((var 2 ⊖ var 0) ⊗ (var 5 ⊖ var 6 ⊗ var 3)) refl

pub wide_by : (k a b : ℤ) → pos 0 <ℤ k → (k *ℤ a) <ℤ (k *ℤ b) → pos 0 <ℤ (b -ℤ a)
wide_by k a b hk h = omega (arith, lin, cancel_lt k a b (omega (arith, lin)) h)

-- n k ≤ y (k d) says 0 ≤ y d − n
rest_tells : (n k y d : ℤ) → k *ℤ (y *ℤ d -ℤ n) ≡ y *ℤ (k *ℤ d) -ℤ n *ℤ k
rest_tells n k y d = ring (n ∷ k ∷ y ∷ d ∷ []) (var 1 ⊗ (var 2 ⊗ var 3 ⊖ var 0)) (var 2 ⊗ (var 1 ⊗ var 3) ⊖ var 0 ⊗ var 1) refl

rest_out : (n k y d : ℤ) → pos 0 <ℤ k → (n *ℤ k) ≤ℤ (y *ℤ (k *ℤ d)) → pos 0 ≤ℤ (y *ℤ d -ℤ n)
rest_out n k y d hk h = cancel_nonneg k (y *ℤ d -ℤ n) hk (omega (arith, lin, rest_tells n k y d))

rest_in : (n k y d : ℤ) → pos 0 <ℤ k → pos 0 ≤ℤ (y *ℤ d -ℤ n) → (n *ℤ k) ≤ℤ (y *ℤ (k *ℤ d))
rest_in n k y d hk h = omega (arith, lin, mul_nonneg k (y *ℤ d -ℤ n) (omega (arith, lin)) h, rest_tells n k y d)

module _ (s : Spot) (l : Segment) where
  abbrev a : ℤ
  a = s.k *ℤ l.low.x

  abbrev b : ℤ
  b = s.k *ℤ l.high.x

  abbrev T : ℤ
  T = tall l s *ℤ s.k

  abbrev Y : ℤ
  Y = s.y *ℤ (s.k *ℤ across l)

  pub right_tells : Decides (is_below_right s l) (BelowRight s l)
  right_tells = (λ e. out (parts l.low.x l.high.x a b s.x T Y e), λ f. whole_of l.low.x l.high.x a b s.x T Y f.spans.wide f.spans.after_low f.strict (rest_in (tall l s) s.k s.y (across l) s.fine f.over))
    where
      parts : (la lb a b x t y : ℤ) → (not (eq_int la lb) && (le_z a x && (lt_z x b && le_z t y))) ≡ true → (a ≤ℤ x) × (x <ℤ b) × (t ≤ℤ y)
      parts la lb a b x t y e = (grind (arith, lin), grind (arith, lin), grind (arith, lin))

      whole_of : (la lb a b x t y : ℤ) → pos 0 <ℤ (lb -ℤ la) → a ≤ℤ x → x <ℤ b → t ≤ℤ y → (not (eq_int la lb) && (le_z a x && (lt_z x b && le_z t y))) ≡ true
      whole_of la lb a b x t y w p q r = grind (arith, lin)

      out : (a ≤ℤ s.x) × (s.x <ℤ b) × (T ≤ℤ Y) → BelowRight s l
      out h =
          record {
            spans = record { after_low = h.0; before_high = omega (arith, lin, h.1); wide = wide_by s.k l.low.x l.high.x s.fine (omega (arith, lin, h.0, h.1)) };
            strict = h.1;
            over = rest_out (tall l s) s.k s.y (across l) s.fine h.2;
          }

  pub left_tells : Decides (is_below_left s l) (BelowLeft s l)
  left_tells = (λ e. out (parts l.low.x l.high.x a b s.x T Y e), λ f. whole_of l.low.x l.high.x a b s.x T Y f.spans.wide f.strict f.spans.before_high (rest_in (tall l s) s.k s.y (across l) s.fine f.over))
    where
      parts : (la lb a b x t y : ℤ) → (not (eq_int la lb) && (lt_z a x && (le_z x b && le_z t y))) ≡ true → (a <ℤ x) × (x ≤ℤ b) × (t ≤ℤ y)
      parts la lb a b x t y e = (grind (arith, lin), grind (arith, lin), grind (arith, lin))

      whole_of : (la lb a b x t y : ℤ) → pos 0 <ℤ (lb -ℤ la) → a <ℤ x → x ≤ℤ b → t ≤ℤ y → (not (eq_int la lb) && (lt_z a x && (le_z x b && le_z t y))) ≡ true
      whole_of la lb a b x t y w p q r = grind (arith, lin)

      out : (a <ℤ s.x) × (s.x ≤ℤ b) × (T ≤ℤ Y) → BelowLeft s l
      out h =
          record {
            spans = record { after_low = omega (arith, lin, h.0); before_high = h.1; wide = wide_by s.k l.low.x l.high.x s.fine (omega (arith, lin, h.0, h.1)) };
            strict = h.0;
            over = rest_out (tall l s) s.k s.y (across l) s.fine h.2;
          }

-- the order over a spot
gap_scaled : (n n' d d' k : ℤ) → n *ℤ (k *ℤ d') -ℤ n' *ℤ (k *ℤ d) ≡ k *ℤ (n *ℤ d' -ℤ n' *ℤ d)
gap_scaled n n' d d' k = ring (n ∷ n' ∷ d ∷ d' ∷ k ∷ []) (var 0 ⊗ (var 4 ⊗ var 3) ⊖ var 1 ⊗ (var 4 ⊗ var 2)) (var 4 ⊗ (var 0 ⊗ var 3 ⊖ var 1 ⊗ var 2)) refl

pub higher_right_tells : (s : Spot) (l m : Segment) → Decides (higher_right s l m) (Leads (gap s l m) (lean l m))
higher_right_tells s l m =
    leads_tells s.k (gap s l m) (tall m s *ℤ (s.k *ℤ across l)) (tall l s *ℤ (s.k *ℤ across m)) (up m *ℤ across l) (up l *ℤ across m) s.fine
    (gap_scaled (tall l s) (tall m s) (across l) (across m) s.k)

pub higher_left_tells : (s : Spot) (l m : Segment) → Decides (higher_left s l m) (Leads (gap s l m) (lean m l))
higher_left_tells s l m =
    leads_tells s.k (gap s l m) (tall m s *ℤ (s.k *ℤ across l)) (tall l s *ℤ (s.k *ℤ across m)) (up l *ℤ across m) (up m *ℤ across l) s.fine
    (gap_scaled (tall l s) (tall m s) (across l) (across m) s.k)

no_gap : (n d : ℤ) → n *ℤ d -ℤ n *ℤ d ≡ pos 0
no_gap n d = omega (arith, lin)

pub higher_right_self : (s : Spot) (l : Segment) → higher_right s l l ≡ false
higher_right_self s l = refuted (higher_right s l l) (λ e. leads_self (gap s l l) (lean l l) (no_gap (tall l s) (across l)) (no_gap (up l) (across l)) ((higher_right_tells s l l).0 e))

pub higher_left_self : (s : Spot) (l : Segment) → higher_left s l l ≡ false
higher_left_self s l = refuted (higher_left s l l) (λ e. leads_self (gap s l l) (lean l l) (no_gap (tall l s) (across l)) (no_gap (up l) (across l)) ((higher_left_tells s l l).0 e))

-- of three fractions n / d, the first over the third, by the first over the second and the second over the third
chained : (n₁ n₂ n₃ d₁ d₂ d₃ : ℤ) → d₂ *ℤ (n₁ *ℤ d₃ -ℤ n₃ *ℤ d₁) ≡ d₃ *ℤ (n₁ *ℤ d₂ -ℤ n₂ *ℤ d₁) +ℤ d₁ *ℤ (n₂ *ℤ d₃ -ℤ n₃ *ℤ d₂)
chained n₁ n₂ n₃ d₁ d₂ d₃ =
    ring (n₁ ∷ n₂ ∷ n₃ ∷ d₁ ∷ d₂ ∷ d₃ ∷ []) (var 4 ⊗ (var 0 ⊗ var 5 ⊖ var 2 ⊗ var 3)) (var 5 ⊗ (var 0 ⊗ var 4 ⊖ var 1 ⊗ var 3) ⊕ var 3 ⊗ (var 1 ⊗ var 5 ⊖ var 2 ⊗ var 4)) refl

chained_back : (n₁ n₂ n₃ d₁ d₂ d₃ : ℤ) → d₂ *ℤ (n₃ *ℤ d₁ -ℤ n₁ *ℤ d₃) ≡ d₃ *ℤ (n₂ *ℤ d₁ -ℤ n₁ *ℤ d₂) +ℤ d₁ *ℤ (n₃ *ℤ d₂ -ℤ n₂ *ℤ d₃)
chained_back n₁ n₂ n₃ d₁ d₂ d₃ =
    ring (n₁ ∷ n₂ ∷ n₃ ∷ d₁ ∷ d₂ ∷ d₃ ∷ []) (var 4 ⊗ (var 2 ⊗ var 3 ⊖ var 0 ⊗ var 5)) (var 5 ⊗ (var 1 ⊗ var 3 ⊖ var 0 ⊗ var 4) ⊕ var 3 ⊗ (var 2 ⊗ var 4 ⊖ var 1 ⊗ var 5)) refl

module _ (s : Spot) (l m n : Segment) (hl : Wide l) (hm : Wide m) (hn : Wide n) where
  pub higher_right_trans : higher_right s l m ≡ true → higher_right s m n ≡ true → higher_right s l n ≡ true
  higher_right_trans e f =
      (higher_right_tells s l n).1
      (leads_trans (across l) (across m) (across n) (gap s l m) (gap s m n) (gap s l n) (lean l m) (lean m n) (lean l n) hl hm hn
      (chained (tall l s) (tall m s) (tall n s) (across l) (across m) (across n)) (chained (up l) (up m) (up n) (across l) (across m) (across n)) ((higher_right_tells s l m).0 e) ((higher_right_tells s m n).0 f))

  pub higher_left_trans : higher_left s l m ≡ true → higher_left s m n ≡ true → higher_left s l n ≡ true
  higher_left_trans e f =
      (higher_left_tells s l n).1
      (leads_trans (across l) (across m) (across n) (gap s l m) (gap s m n) (gap s l n) (lean m l) (lean n m) (lean n l) hl hm hn
      (chained (tall l s) (tall m s) (tall n s) (across l) (across m) (across n)) (chained_back (up l) (up m) (up n) (across l) (across m) (across n)) ((higher_left_tells s l m).0 e) ((higher_left_tells s m n).0 f))

-- an odd number of segments below the spot on its left
abbrev pub odd_below_left : List Segment → Spot → Bool
odd_below_left ls s = odd (length (all_below_left ls s))

odd_some : {A : Type 0} (zs : List A) → odd (length zs) ≡ true → ¬ (zs ≡ [])
odd_some zs e q = apart e (ap (λ ks. odd (length ks)) q)

-- the segment just below on the right, which none below on the right is above
pub record JustRight (ls : List Segment) (s : Spot) : Type 0 where
  pub one : Segment
  pub is : below_right ls s ≡ Some one
  pub member : one ∈ ls
  pub below : BelowRight s one
  pub highest : (m : Segment) → m ∈ ls → BelowRight s m → gap s m one ≤ℤ pos 0

-- and on the left
pub record JustLeft (ls : List Segment) (s : Spot) : Type 0 where
  pub one : Segment
  pub is : below_left ls s ≡ Some one
  pub member : one ∈ ls
  pub below : BelowLeft s one
  pub highest : (m : Segment) → m ∈ ls → BelowLeft s m → gap s m one ≤ℤ pos 0

no_lead : (t : Bool) (g u : ℤ) → Decides t (Leads g u) → t ≡ false → g ≤ℤ pos 0
no_lead t g u d e = not_less (pos 0) g (λ h. apart (d.1 (inl h)) e)

pub just_right : (ls : List Segment) (s : Spot) → odd_below_right ls s ≡ true → JustRight ls s
just_right ls s e =
    let b = best (is_below_right s) (higher_right s) ls Wide (higher_right_self s) (higher_right_trans s) (λ l i h. ((right_tells s l).0 h).spans.wide) (odd_some (all_below_right ls s) e) in
    record {
      one = b.one;
      is = highest_is (is_below_right s) (higher_right s) ls b;
      member = b.member;
      below = (right_tells s b.one).0 b.passes;
      highest = λ m i f. no_lead (higher_right s m b.one) (gap s m b.one) (lean m b.one) (higher_right_tells s m b.one) (b.unbeaten m i ((right_tells s m).1 f));
    }

pub just_left : (ls : List Segment) (s : Spot) → odd_below_left ls s ≡ true → JustLeft ls s
just_left ls s e =
    let b = best (is_below_left s) (higher_left s) ls Wide (higher_left_self s) (higher_left_trans s) (λ l i h. ((left_tells s l).0 h).spans.wide) (odd_some (all_below_left ls s) e) in
    record {
      one = b.one;
      is = highest_is (is_below_left s) (higher_left s) ls b;
      member = b.member;
      below = (left_tells s b.one).0 b.passes;
      highest = λ m i f. no_lead (higher_left s m b.one) (gap s m b.one) (lean b.one m) (higher_left_tells s m b.one) (b.unbeaten m i ((left_tells s m).1 f));
    }
