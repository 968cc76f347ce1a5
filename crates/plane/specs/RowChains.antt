-- The order of halfsegments that have a length is strict: `comes_before_self`, `comes_before_transitive`.
use Rattle.std.proofs.Common.{◌≡◌, Bool, true, false, ◌&&◌, ◌||◌, ◌⊎◌, [], ◌∷◌, ℤ, pos, negsuc, ◌+ℤ◌, ◌-ℤ◌, ◌*ℤ◌, neg_ℤ, nat_abs, ◌<ℤ◌, sym, refl, ap, ◌∙◌, subst, inl, inr, arith}
use borrow.Author.Differences.{ints}
use lib.Signed.{lt_z}
use Rattle.std.proofs.lemmas.Bool.{and_parts, or_cases}
use Rattle.algebra.specs.Polynomial.{Ex, var, neg, ◌⊕◌, ◌⊖◌, ◌⊗◌, unit, nought, minus_unit}
use Rattle.algebra.proofs.Ring.{ring, mul_assoc, mul_one, mul_zero}
use Rattle.algebra.proofs.Signs.{lin, Tri, below, zeroed, above, tri, mul_pos, mul_le, cancel_pos, cancel_zero}
use Rattle.algebra.proofs.Members.{Case, case, holds, fails, apart}
use Rattle.plane.specs.declared.halfsegment.Halfsegment.{Halfsegment}
use Rattle.plane.specs.Points.{eq_int, same_point, precedes, orientation}
use Rattle.plane.specs.Rows.{left, reach, swept_first, by_side, earlier, comes_before, Long}
use Rattle.plane.specs.PointLaws.{Before, Lex, first, last, one, lex, same_point_is, same_point_holds, before_of, of_before, precedes_self, precedes_transitive}

-- vectors (x, y): the cross product, the square of the length, and a linear function; each as an expression too
abbrev pub cross : ℤ → ℤ → ℤ → ℤ → ℤ
cross px py qx qy = px *ℤ qy -ℤ qx *ℤ py

abbrev pub cross_e : Ex → Ex → Ex → Ex → Ex
cross_e px py qx qy = px ⊗ qy ⊖ qx ⊗ py

abbrev pub size : ℤ → ℤ → ℤ
size x y = x *ℤ x +ℤ y *ℤ y

abbrev pub size_e : Ex → Ex → Ex
size_e x y = x ⊗ x ⊕ y ⊗ y

abbrev pub along : ℤ → ℤ → ℤ → ℤ → ℤ
along m k x y = m *ℤ x +ℤ k *ℤ y

abbrev pub along_e : Ex → Ex → Ex → Ex → Ex
along_e m k x y = m ⊗ x ⊕ k ⊗ y

-- a vector is ahead if it leads to a later point; then N x + y is positive for N greater than −y
abbrev Ahead : ℤ → ℤ → Type 0
Ahead x y = (pos 0 <ℤ x) ⊎ ((x ≡ pos 0) × (pos 0 <ℤ y))

ahead_pos : (N x y : ℤ) → pos 0 <ℤ N → neg_ℤ N <ℤ y → Ahead x y → pos 0 <ℤ (N *ℤ x +ℤ y)
ahead_pos N x y n h (inl p) = omega (arith, lin, mul_le N (pos 1) x (omega (arith, lin)) (omega (arith, lin)), mul_one N)
ahead_pos N x y n h (inr (e, p)) = omega (arith, lin, ap (λ z. N *ℤ z) e ∙ mul_zero N)

-- three vectors on one side of a line through the origin: m x + k y is positive at each
pub record OneSide (px py qx qy rx ry : ℤ) : Type 0 where
  pub m : ℤ
  pub k : ℤ
  pub at_p : pos 0 <ℤ along m k px py
  pub at_q : pos 0 <ℤ along m k qx qy
  pub at_r : pos 0 <ℤ along m k rx ry

-- greater than each without its sign
abbrev bound : ℤ → ℤ → ℤ → ℤ
bound a b c = pos 1 +ℤ (pos (nat_abs a) +ℤ (pos (nat_abs b) +ℤ pos (nat_abs c)))

bounds : (a b c : ℤ) → (pos 0 <ℤ bound a b c) × (neg_ℤ (bound a b c) <ℤ a) × (neg_ℤ (bound a b c) <ℤ b) × (neg_ℤ (bound a b c) <ℤ c)
bounds a b c = (omega (arith, ints), omega (arith, ints), omega (arith, ints), omega (arith, ints))

-- so they are if all are ahead (s = 1), or all the other way (s = −1)
one_side : (s px py qx qy rx ry : ℤ) → Ahead (s *ℤ px) (s *ℤ py) → Ahead (s *ℤ qx) (s *ℤ qy) → Ahead (s *ℤ rx) (s *ℤ ry) → OneSide px py qx qy rx ry
one_side s px py qx qy rx ry p q r = record { m = N *ℤ s; k = s; at_p = at px py low.1 p; at_q = at qx qy low.2 q; at_r = at rx ry low.3 r }
  where
    N : ℤ
    N = bound (s *ℤ py) (s *ℤ qy) (s *ℤ ry)

    low : (pos 0 <ℤ N) × (neg_ℤ N <ℤ (s *ℤ py)) × (neg_ℤ N <ℤ (s *ℤ qy)) × (neg_ℤ N <ℤ (s *ℤ ry))
    low = bounds (s *ℤ py) (s *ℤ qy) (s *ℤ ry)

    at : (x y : ℤ) → neg_ℤ N <ℤ (s *ℤ y) → Ahead (s *ℤ x) (s *ℤ y) → pos 0 <ℤ along (N *ℤ s) s x y
    at x y h a = omega (arith, lin, ahead_pos N (s *ℤ x) (s *ℤ y) low.0 h a, mul_assoc N s x)

-- the first of two vectors is swept first: its cross product c with the other is positive, or 0 and it is the shorter
abbrev pub Swept : ℤ → ℤ → ℤ → Type 0
Swept c a b = (pos 0 <ℤ c) ⊎ ((c ≡ pos 0) × (a <ℤ b))

swept_is : (c a b : ℤ) → (lt_z (pos 0) c || (eq_int c (pos 0) && lt_z a b)) ≡ true → Swept c a b
swept_is c a b e = go (tri c)
  where
    go : Tri c → Swept c a b
    go (below h) = absurd (grind (arith, lin))
    go (zeroed h) = inr (h, grind (arith, lin))
    go (above h) = inl h

swept_holds : (c a b : ℤ) → Swept c a b → (lt_z (pos 0) c || (eq_int c (pos 0) && lt_z a b)) ≡ true
swept_holds c a b (inl h) = grind (arith, lin)
swept_holds c a b (inr (e, h)) = grind (arith, lin)

-- transitive, where the cross products go together by positive weights u, v, w
swept_chain : (u v w pq qr pr a b c : ℤ) → pos 0 <ℤ u → pos 0 <ℤ v → pos 0 <ℤ w → v *ℤ pr ≡ w *ℤ pq +ℤ u *ℤ qr → Swept pq a b → Swept qr b c → Swept pr a c
swept_chain u v w pq qr pr a b c hu hv hw e = go
  where
    some : pos 0 <ℤ (v *ℤ pr) → Swept pr a c
    some h = inl (cancel_pos v pr (omega (arith, lin)) h)

    none : (t z : ℤ) → z ≡ pos 0 → t *ℤ z ≡ pos 0
    none t z h = ap (λ y. t *ℤ y) h ∙ mul_zero t

    go : Swept pq a b → Swept qr b c → Swept pr a c
    go (inl h) (inl k) = some (omega (arith, lin, mul_pos w pq hw h, mul_pos u qr hu k))
    go (inl h) (inr (f, k)) = some (omega (arith, lin, mul_pos w pq hw h, none u qr f))
    go (inr (f, h)) (inl k) = some (omega (arith, lin, none w pq f, mul_pos u qr hu k))
    go (inr (f, h)) (inr (g, k)) = inr (cancel_zero v pr hv (omega (arith, lin, none w pq f, none u qr g)), omega (arith, lin))

swept_transitive : (px py qx qy rx ry : ℤ) → OneSide px py qx qy rx ry → Swept (cross px py qx qy) (size px py) (size qx qy) → Swept (cross qx qy rx ry) (size qx qy) (size rx ry) → Swept (cross px py rx ry) (size px py) (size rx ry)
swept_transitive px py qx qy rx ry o =
    swept_chain (along o.m o.k px py) (along o.m o.k qx qy) (along o.m o.k rx ry) (cross px py qx qy) (cross qx qy rx ry) (cross px py rx ry)
    (size px py) (size qx qy) (size rx ry) o.at_p o.at_q o.at_r
    (ring (px ∷ py ∷ qx ∷ qy ∷ rx ∷ ry ∷ o.m ∷ o.k ∷ []) (along_e (var 6) (var 7) (var 2) (var 3) ⊗ cross_e (var 0) (var 1) (var 4) (var 5))
    (along_e (var 6) (var 7) (var 4) (var 5) ⊗ cross_e (var 0) (var 1) (var 2) (var 3) ⊕ along_e (var 6) (var 7) (var 0) (var 1) ⊗ cross_e (var 2) (var 3) (var 4) (var 5)) refl)

-- the vector of a halfsegment, from its dominating point to its far one
abbrev pub across : Halfsegment → ℤ
across h = h.far.x -ℤ h.dominating.x

abbrev pub rise : Halfsegment → ℤ
rise h = h.far.y -ℤ h.dominating.y

abbrev way : Bool → ℤ
way true = pos 1
way false = negsuc 0

abbrev Aimed : Bool → Halfsegment → Type 0
Aimed t h = Ahead (way t *ℤ across h) (way t *ℤ rise h)

-- the vector is ahead if the halfsegment is left, else it is the other way
aimed : (h : Halfsegment) → Long h → Aimed (left h) h
aimed h n = go (case (left h)) (lex h.dominating h.far)
  where
    once : (z : ℤ) → pos 1 *ℤ z ≡ z
    once z = ring (z ∷ []) (unit ⊗ var 0) (var 0) refl

    minus_once : (z : ℤ) → negsuc 0 *ℤ z ≡ neg_ℤ z
    minus_once z = ring (z ∷ []) (minus_unit ⊗ var 0) (neg (var 0)) refl

    on : Before h.dominating h.far → Aimed true h
    on (inl p) = inl (omega (arith, lin, once (across h)))
    on (inr (e, p)) = inr (omega (arith, lin, once (across h)), omega (arith, lin, once (rise h)))

    off : Before h.far h.dominating → Aimed false h
    off (inl p) = inl (omega (arith, lin, minus_once (across h)))
    off (inr (e, p)) = inr (omega (arith, lin, minus_once (across h)), omega (arith, lin, minus_once (rise h)))

    go : Case (left h) → Lex h.dominating h.far → Aimed (left h) h
    go (holds e) p = subst (λ t. Aimed t h) (sym e) (on (before_of h.dominating h.far e))
    go (fails e) (first p) = absurd (apart (of_before h.dominating h.far p) e)
    go (fails e) (one p) = absurd (n p)
    go (fails e) (last p) = subst (λ t. Aimed t h) (sym e) (off p)

-- all left or all right: on one side
pub alike : (g h k : Halfsegment) → Long g → Long h → Long k → left g ≡ left h → left h ≡ left k → OneSide (across g) (rise g) (across h) (rise h) (across k) (rise k)
alike g h k lg lh lk e f =
    one_side (way (left g)) (across g) (rise g) (across h) (rise h) (across k) (rise k)
    (aimed g lg) (subst (λ t. Aimed t h) (sym e) (aimed h lh)) (subst (λ t. Aimed t k) (sym (e ∙ f)) (aimed k lk))

-- `swept_first` by the vectors
abbrev pub Sweeps : Halfsegment → Halfsegment → Type 0
Sweeps g h = Swept (cross (across g) (rise g) (across h) (rise h)) (reach g) (reach h)

pub orientation_is : (g h : Halfsegment) → g.dominating ≡ h.dominating → orientation g.far h.far g.dominating ≡ cross (across g) (rise g) (across h) (rise h)
orientation_is g h e = ap (λ v. across g *ℤ (h.far.y -ℤ v.y) -ℤ (h.far.x -ℤ v.x) *ℤ rise g) e

sweeps : (g h : Halfsegment) → g.dominating ≡ h.dominating → swept_first g h ≡ true → Sweeps g h
sweeps g h e s = subst (λ c. Swept c (reach g) (reach h)) (orientation_is g h e) (swept_is (orientation g.far h.far g.dominating) (reach g) (reach h) s)

pub sweeps_back : (g h : Halfsegment) → g.dominating ≡ h.dominating → Sweeps g h → swept_first g h ≡ true
sweeps_back g h e s = swept_holds (orientation g.far h.far g.dominating) (reach g) (reach h) (subst (λ c. Swept c (reach g) (reach h)) (sym (orientation_is g h e)) s)

-- at one dominating point: right before left, and alike ones as they are swept
earlier_chain : (g h k gh hk gk : Bool) → (g ≡ h → h ≡ k → gh ≡ true → hk ≡ true → gk ≡ true) → by_side g h gh ≡ true → by_side h k hk ≡ true → by_side g k gk ≡ true
earlier_chain true true true gh hk gk f p q = f refl refl p q
earlier_chain true true false gh hk gk f p q = absurd (apart q refl)
earlier_chain true false k gh hk gk f p q = absurd (apart p refl)
earlier_chain false true true gh hk gk f p q = p
earlier_chain false true false gh hk gk f p q = absurd (apart q refl)
earlier_chain false false true gh hk gk f p q = q
earlier_chain false false false gh hk gk f p q = f refl refl p q

earlier_transitive : (g h k : Halfsegment) → Long g → Long h → Long k → g.dominating ≡ h.dominating → h.dominating ≡ k.dominating → earlier g h ≡ true → earlier h k ≡ true → earlier g k ≡ true
earlier_transitive g h k lg lh lk u v =
    earlier_chain (left g) (left h) (left k) (swept_first g h) (swept_first h k) (swept_first g k)
    (λ e f s t. sweeps_back g k (u ∙ v) (swept_transitive (across g) (rise g) (across h) (rise h) (across k) (rise k) (alike g h k lg lh lk e f) (sweeps g h u s) (sweeps h k v t)))

pub no_turn : (h : Halfsegment) → orientation h.far h.far h.dominating ≡ pos 0
no_turn h = ring (across h ∷ rise h ∷ []) (cross_e (var 0) (var 1) (var 0) (var 1)) nought refl

earlier_self : (h : Halfsegment) → earlier h h ≡ false
earlier_self h = go (left h) (swept_first h h) (still (orientation h.far h.far h.dominating) (reach h) (no_turn h))
  where
    still : (c a : ℤ) → c ≡ pos 0 → (lt_z (pos 0) c || (eq_int c (pos 0) && lt_z a a)) ≡ false
    still c a e = grind (arith, lin)

    go : (l s : Bool) → s ≡ false → by_side l l s ≡ false
    go true s e = e
    go false s e = e

-- `comes_before` as a proposition: by dominating point, or at one
abbrev pub First : Halfsegment → Halfsegment → Type 0
First g h = (precedes g.dominating h.dominating ≡ true) ⊎ ((g.dominating ≡ h.dominating) × (earlier g h ≡ true))

first_of : (g h : Halfsegment) → comes_before g h ≡ true → First g h
first_of g h e = go (or_cases (precedes g.dominating h.dominating) (same_point g.dominating h.dominating && earlier g h) e)
  where
    go : (precedes g.dominating h.dominating ≡ true) ⊎ ((same_point g.dominating h.dominating && earlier g h) ≡ true) → First g h
    go (inl p) = inl p
    go (inr p) = let b = and_parts (same_point g.dominating h.dominating) (earlier g h) p in inr (same_point_is g.dominating h.dominating b.0, b.1)

pub first_back : (g h : Halfsegment) → First g h → comes_before g h ≡ true
first_back g h (inl p) = rw p
first_back g h (inr (e, p)) = go (precedes g.dominating h.dominating) (same_point g.dominating h.dominating) (earlier g h) (same_point_holds g.dominating h.dominating e) p
  where
    go : (a b c : Bool) → b ≡ true → c ≡ true → (a || (b && c)) ≡ true
    go a b c d e = grind arith

first_transitive : (g h k : Halfsegment) → Long g → Long h → Long k → First g h → First h k → First g k
first_transitive g h k lg lh lk (inl p) (inl q) = inl (precedes_transitive g.dominating h.dominating k.dominating p q)
first_transitive g h k lg lh lk (inl p) (inr (v, q)) = inl (subst (λ z. precedes g.dominating z ≡ true) v p)
first_transitive g h k lg lh lk (inr (u, p)) (inl q) = inl (subst (λ z. precedes z k.dominating ≡ true) (sym u) q)
first_transitive g h k lg lh lk (inr (u, p)) (inr (v, q)) = inr (u ∙ v, earlier_transitive g h k lg lh lk u v p q)

pub comes_before_self : (h : Halfsegment) → comes_before h h ≡ false
comes_before_self h = go (precedes h.dominating h.dominating) (same_point h.dominating h.dominating) (earlier h h) (precedes_self h.dominating) (earlier_self h)
  where
    go : (a b c : Bool) → a ≡ false → c ≡ false → (a || (b && c)) ≡ false
    go a b c d e = grind arith

pub comes_before_transitive : (g h k : Halfsegment) → Long g → Long h → Long k → comes_before g h ≡ true → comes_before h k ≡ true → comes_before g k ≡ true
comes_before_transitive g h k lg lh lk e f = first_back g k (first_transitive g h k lg lh lk (first_of g h e) (first_of h k f))
