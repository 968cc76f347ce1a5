-- The segment of a halfsegment, and improper meetings: `improper_back`, `improper_self`, `improper_apart`.
use Rattle.std.proofs.Common.{◌≡◌, Bool, true, false, cond, not, ◌&&◌, ◌||◌, ◌⊎◌, [], ◌∷◌, ℤ, pos, ◌-ℤ◌, ◌*ℤ◌, ◌≤ℤ◌, ◌<ℤ◌, sym, refl, ap, ◌∙◌, inl, inr, arith}
use Rattle.std.proofs.lemmas.Bool.{and_parts, and_from}
use Rattle.algebra.specs.Polynomial.{con, var, ◌⊗◌}
use Rattle.algebra.proofs.Ring.{ring}
use Rattle.algebra.proofs.Signs.{lin, mul_le, mul_lt}
use Rattle.algebra.proofs.Members.{Case, holds, fails, case}
use Rattle.plane.specs.declared.segment.Segment.{Segment}
use Rattle.plane.specs.declared.halfsegment.Halfsegment.{Halfsegment}
use Rattle.plane.specs.Points.{in_range, same_point, orientation}
use Rattle.plane.specs.Spots.{Around, MeetImproperly}
use Rattle.plane.specs.Rows.{left, twin, segment_of, fit, Long}
use Rattle.plane.specs.Meeting.{opposite, inside, improper, ordered, drawable}
use Rattle.plane.specs.PointLaws.{before_of, rightward, precedes_back, precedes_comparable}
use Rattle.plane.specs.RowLaws.{fit_long}
use Rattle.plane.proofs.Meetings.{signs_tell}

-- a left halfsegment is its segment from the lesser end
pub segment_left : (h : Halfsegment) → left h ≡ true → segment_of h ≡ record { low = h.dominating; high = h.far }
segment_left h e = ap (λ t. cond t (record { low = h.far; high = h.dominating }) (record { low = h.dominating; high = h.far })) (precedes_back h.dominating h.far e)

pub left_or_twin : (h : Halfsegment) → Long h → (left h ≡ true) ⊎ (left (twin h) ≡ true)
left_or_twin h n = precedes_comparable h.dominating h.far n

-- both halfsegments of a segment
pub segment_twin : (h : Halfsegment) → Long h → segment_of (twin h) ≡ segment_of h
segment_twin h n = go (left_or_twin h n)
  where
    low_first : Bool → Segment
    low_first t = cond t (record { low = h.dominating; high = h.far }) (record { low = h.far; high = h.dominating })

    go : (left h ≡ true) ⊎ (left (twin h) ≡ true) → segment_of (twin h) ≡ segment_of h
    go (inl e) = ap low_first e ∙ sym (segment_left h e)
    go (inr e) = segment_left (twin h) e ∙ sym (ap (λ t. cond t (record { low = h.far; high = h.dominating }) (record { low = h.dominating; high = h.far })) e)

pub segment_ordered : (h : Halfsegment) → Long h → ordered (segment_of h) ≡ true
segment_ordered h n = go (left_or_twin h n)
  where
    go : (left h ≡ true) ⊎ (left (twin h) ≡ true) → ordered (segment_of h) ≡ true
    go (inl e) = ap ordered (segment_left h e) ∙ e
    go (inr e) = ap ordered (sym (segment_twin h n) ∙ segment_left (twin h) e) ∙ e

pub segment_drawable : (h : Halfsegment) → fit h ≡ true → drawable (segment_of h) ≡ true
segment_drawable h e =
    let p = and_parts (in_range h.dominating && in_range h.far) (not (same_point h.dominating h.far)) e in
    let q = and_parts (in_range h.dominating) (in_range h.far) p.0 in
    let n = fit_long h e in
    go q.0 q.1 n (left_or_twin h n)
  where
    go : in_range h.dominating ≡ true → in_range h.far ≡ true → Long h → (left h ≡ true) ⊎ (left (twin h) ≡ true) → drawable (segment_of h) ≡ true
    go a b n (inl l) = ap drawable (segment_left h l) ∙ and_from (in_range h.dominating && in_range h.far) (left h) (and_from (in_range h.dominating) (in_range h.far) a b) l
    go a b n (inr l) = ap drawable (sym (segment_twin h n) ∙ segment_left (twin h) l) ∙ and_from (in_range h.far && in_range h.dominating) (left (twin h)) (and_from (in_range h.far) (in_range h.dominating) b a) l

-- meeting improperly does not ask which is named first
pub improper_back : (l m : Segment) → improper l m ≡ improper m l
improper_back l m =
    by (opposite (orientation m.low m.high l.low) (orientation m.low m.high l.high)) (opposite (orientation l.low l.high m.low) (orientation l.low l.high m.high)) (inside l m.low) (inside l m.high) (inside m l.low) (inside m l.high)
  where
    by : (o p i j k n : Bool) → ((o && p) || (i || (j || (k || n)))) ≡ ((p && o) || (k || (n || (i || j))))
    by o p i j k n = grind arith

-- a segment does not meet itself improperly
pub improper_self : (l : Segment) → ordered l ≡ true → improper l l ≡ false
improper_self l o = go (case (improper l l))
  where
    go : Case (improper l l) → improper l l ≡ false
    go (holds e) = absurd (((signs_tell l l o o).0 e).different refl)
    go (fails e) = e

-- a spot on a segment is not left of its lesser end, nor right of its greater end
not_right : (a b k u : ℤ) → pos 0 <ℤ k → a ≤ℤ b → Around (a *ℤ k -ℤ u *ℤ pos 1) (b *ℤ k -ℤ u *ℤ pos 1) → u ≤ℤ (k *ℤ b)
not_right a b k u h l r = go r
  where
    one : u *ℤ pos 1 ≡ u
    one = ring (u ∷ []) (var 0 ⊗ con (pos 1)) (var 0) refl

    flip : (z : ℤ) → z *ℤ k ≡ k *ℤ z
    flip z = ring (z ∷ k ∷ []) (var 0 ⊗ var 1) (var 1 ⊗ var 0) refl

    go : Around (a *ℤ k -ℤ u *ℤ pos 1) (b *ℤ k -ℤ u *ℤ pos 1) → u ≤ℤ (k *ℤ b)
    go (inl s) = omega (arith, lin, one, flip b)
    go (inr s) = omega (arith, lin, one, flip a, mul_le k a b (omega (arith, lin)) l)

not_left : (a b k u : ℤ) → pos 0 <ℤ k → a ≤ℤ b → Around (a *ℤ k -ℤ u *ℤ pos 1) (b *ℤ k -ℤ u *ℤ pos 1) → (k *ℤ a) ≤ℤ u
not_left a b k u h l r = go r
  where
    one : u *ℤ pos 1 ≡ u
    one = ring (u ∷ []) (var 0 ⊗ con (pos 1)) (var 0) refl

    flip : (z : ℤ) → z *ℤ k ≡ k *ℤ z
    flip z = ring (z ∷ k ∷ []) (var 0 ⊗ var 1) (var 1 ⊗ var 0) refl

    go : Around (a *ℤ k -ℤ u *ℤ pos 1) (b *ℤ k -ℤ u *ℤ pos 1) → (k *ℤ a) ≤ℤ u
    go (inl s) = omega (arith, lin, one, flip a)
    go (inr s) = omega (arith, lin, one, flip b, mul_le k a b (omega (arith, lin)) l)

-- segments of which one ends left of where the other begins do not meet
pub improper_apart : (l m : Segment) → ordered l ≡ true → ordered m ≡ true → l.high.x <ℤ m.low.x → improper l m ≡ false
improper_apart l m o p far = go (case (improper l m))
  where
    none : MeetImproperly l m → ⊥
    none w =
        let u = w.at in
        let f = u.fine in
        let r = not_right l.low.x l.high.x u.k u.x f (rightward l.low l.high (before_of l.low l.high o)) w.on_one.in_x in
        let s = not_left m.low.x m.high.x u.k u.x f (rightward m.low m.high (before_of m.low m.high p)) w.on_other.in_x in
        omega (arith, lin, mul_lt u.k l.high.x m.low.x f far)

    go : Case (improper l m) → improper l m ≡ false
    go (holds e) = absurd (none ((signs_tell l m o p).0 e))
    go (fails e) = e
