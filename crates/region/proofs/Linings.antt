-- The lines of well-formed rows: `rows_have_lines`, and what check's answer says of their readings: `check_reads`.
use Rattle.std.proofs.Common.{◌≡◌, ℕ, suc, ◌+◌, Bool, true, false, cond, not, ◌⊎◌, List, [], ◌∷◌, map, Ok, Err, filter, Result, sym, refl, ap, ◌∙◌, subst, inl, inr, arith}
use Rattle.algebra.specs.Members.{◌∈◌, here, there, Once}
use Rattle.algebra.specs.Parity.{odd, times}
use Rattle.algebra.proofs.Members.{apart}
use Rattle.algebra.proofs.Counts.{same_members, times_parts, times_map, kept_in, kept_out, once_kept, in_map, map_in, once_map}
use Rattle.plane.specs.declared.point.Point.{Point}
use Rattle.plane.specs.declared.halfsegment.Halfsegment.{Halfsegment}
use Rattle.plane.specs.Points.{same_point}
use Rattle.plane.specs.Rows.{left, twin, segment_of, Long}
use Rattle.plane.specs.Spots.{MeetImproperly}
use Rattle.plane.specs.Meeting.{ordered}
use Rattle.plane.proofs.RowOrder.{row_order}
use Rattle.plane.specs.PointLaws.{precedes_back}
use Rattle.plane.specs.RowLaws.{fit_long}
use Rattle.plane.proofs.Segments.{left_or_twin, segment_left, segment_ordered}
use Rattle.reading.specs.Reading.{Planar, HasReading, OneReading}
use Rattle.reading.specs.Counting.{ends, degree_at, ClosedLines}
use Rattle.reading.proofs.Decided.{one_or_none, closed_reads}
use Rattle.region.specs.declared.refusals.CheckRefusal.{CheckRefusal}
use Rattle.region.specs.declared.refusals.CheckRefusal.TheVariants.{Unclosed}
use Rattle.region.specs.Plans.{Rising, WellFormed, Closed, degree}
use Rattle.region.specs.Check.{check_of}
use Rattle.region.specs.Verdict.{Verdict}
use Rattle.region.specs.Lines.{lines, Lined, RowsHaveLines, Read, CheckReads}
use Rattle.region.proofs.Verdicts.{verdict, accepts, only_unclosed}

-- rows that rise stand once
once_rising : (rows : List Halfsegment) → Rising rows → Once rows
once_rising [] r = tt
once_rising (h ∷ rows) r = (λ m. apart (r.0 h m) (row_order.irreflexive h), once_rising rows r.1)

-- a right row is not left, and its twin is
twin_left : (h : Halfsegment) → Long h → left h ≡ false → left (twin h) ≡ true
twin_left h n e = go (left_or_twin h n)
  where
    go : (left h ≡ true) ⊎ (left (twin h) ≡ true) → left (twin h) ≡ true
    go (inl q) = absurd (apart q e)
    go (inr q) = q

twin_right : (h : Halfsegment) → left h ≡ true → left (twin h) ≡ false
twin_right h e = precedes_back h.dominating h.far e

not_not : (t : Bool) → not t ≡ true → t ≡ false
not_not true e = absurd (apart e refl)
not_not false e = refl

-- how many of the lines' ends are at v: as many left rows have it at one end or the other
ends_count : (v : Point) (hs : List Halfsegment) → ((h : Halfsegment) → h ∈ hs → left h ≡ true) → times (λ w. same_point w v) (ends (map segment_of hs)) ≡ times (λ h. same_point h.dominating v) hs + times (λ h. same_point h.far v) hs
ends_count v [] all = refl
ends_count v (h ∷ hs) all =
    let e : segment_of h ≡ record { low = h.dominating; high = h.far } = segment_left h (all h here) in
    let r = ends_count v hs (λ g m. all g (there m)) in
    (λ i. cond (same_point (e i).low v) (suc (cond (same_point (e i).high v) (suc (r i)) (r i))) (cond (same_point (e i).high v) (suc (r i)) (r i)))
    ∙ spread (same_point h.dominating v) (same_point h.far v) (times (λ h. same_point h.dominating v) hs) (times (λ h. same_point h.far v) hs)
  where
    spread : (s t : Bool) (m n : ℕ) → cond s (suc (cond t (suc (m + n)) (m + n))) (cond t (suc (m + n)) (m + n)) ≡ cond s (suc m) m + cond t (suc n) n
    spread true true m n = omega arith
    spread true false m n = omega arith
    spread false true m n = omega arith
    spread false false m n = refl

module _ (rows : List Halfsegment) (wf : WellFormed rows) where
  abbrev lefts : List Halfsegment
  lefts = filter left rows

  abbrev rights : List Halfsegment
  rights = filter (λ h. not (left h)) rows

  long : (h : Halfsegment) → h ∈ rows → Long h
  long h m = fit_long h (wf.fits h m)

  once : Once rows
  once = once_rising rows wf.rising

  -- left rows with one segment are one row
  apart_lefts : (g h : Halfsegment) → g ∈ lefts → h ∈ lefts → segment_of g ≡ segment_of h → g ≡ h
  apart_lefts g h i j e =
      let s = sym (segment_left g (kept_out left rows g i).passes) ∙ e ∙ segment_left h (kept_out left rows h j).passes in
      λ k. record { dominating = (s k).low; far = (s k).high }

  planar : Planar (lines rows)
  planar =
      record {
        once = once_map segment_of lefts apart_lefts (once_kept left rows once);
        ordered = λ l m. let r = map_in segment_of lefts l m in subst (λ x. ordered x ≡ true) (sym r.is) (segment_ordered r.of (long r.of (kept_out left rows r.of r.member).member));
        proper = λ l m i j w. let p = map_in segment_of lefts l i in let q = map_in segment_of lefts m j in wf.proper p.of q.of (kept_out left rows p.of p.member).member (kept_out left rows q.of q.member).member (subst (λ x. MeetImproperly x (segment_of q.of)) p.is (subst (λ x. MeetImproperly l x) q.is w));
      }

  -- the twins of the right rows are the left rows
  twins_once : Once (map twin rights)
  twins_once = once_map twin rights (λ a b i j e. λ k. twin (e k)) (once_kept (λ h. not (left h)) rows once)

  twin_to : (h : Halfsegment) → h ∈ lefts → h ∈ map twin rights
  twin_to h m =
      let k = kept_out left rows h m in
      in_map twin rights (twin h) (kept_in (λ g. not (left g)) rows (twin h) (wf.paired h k.member) (ap not (twin_right h k.passes)))

  twin_from : (h : Halfsegment) → h ∈ map twin rights → h ∈ lefts
  twin_from h m =
      let r = map_in twin rights h m in
      let k = kept_out (λ g. not (left g)) rows r.of r.member in
      subst (λ x. x ∈ lefts) (sym r.is) (kept_in left rows (twin r.of) (wf.paired r.of k.member) (twin_left r.of (long r.of k.member) (not_not (left r.of) k.passes)))

  degrees : (v : Point) → degree_at (lines rows) v ≡ degree rows v
  degrees v =
      ends_count v lefts (λ h m. (kept_out left rows h m).passes)
      ∙ ap (λ n. times (λ h. same_point h.dominating v) lefts + n) (same_members (λ h. same_point h.far v) lefts (map twin rights) (once_kept left rows once) twins_once twin_to twin_from ∙ times_map (λ h. same_point h.far v) twin rights)
      ∙ sym (times_parts (λ h. same_point h.dominating v) left rows)

  lined : Lined rows
  lined = record { planar = planar; degrees = degrees; closed = (λ c v. ap odd (degrees v) ∙ c v, λ c v. ap odd (sym (degrees v)) ∙ c v) }

pub rows_have_lines : RowsHaveLines
rows_have_lines rows wf = lined rows wf

-- closed lines have one reading, and only they have any
module _ (rows : List Halfsegment) (wf : WellFormed rows) where
  abbrev of : Lined rows
  of = lined rows wf

  one : Closed rows → OneReading (lines rows)
  one c = go (one_or_none (lines rows) of.planar)
    where
      go : (ClosedLines (lines rows) × OneReading (lines rows)) ⊎ ((v : Point) × (odd (degree_at (lines rows) v) ≡ true) × ¬ HasReading (lines rows)) → OneReading (lines rows)
      go (inl p) = p.1
      go (inr p) = absurd (apart p.1 (of.closed.0 c p.0))

  closed_of : HasReading (lines rows) → Closed rows
  closed_of r = of.closed.1 ((closed_reads (lines rows) of.planar).1 r)

  -- well-formed rows are accepted, or unclosed
  either : (check_of rows ≡ Ok tt) ⊎ ((v : Point) × (check_of rows ≡ Err (Unclosed v)))
  either = go (check_of rows) refl
    where
      go : (r : Result Unit CheckRefusal) → check_of rows ≡ r → (check_of rows ≡ Ok tt) ⊎ ((v : Point) × (check_of rows ≡ Err (Unclosed v)))
      go (Ok _) e = inl e
      go (Err x) e =
          let u = only_unclosed rows x (subst (Verdict rows) e (verdict rows)) wf in
          inr (u.0, e ∙ ap Err u.1)

  read : Read rows
  read =
      record {
        accepted = (λ e. one ((accepts rows).0 e).1, λ r. (accepts rows).1 (wf, closed_of (r.says, r.is)));
        unclosed = ((λ u r. clash u.0 (sym ((accepts rows).1 (wf, closed_of r)) ∙ u.1)), λ n. by n either);
      }
    where
      clash : (v : Point) → ◌≡◌ {A = Result Unit CheckRefusal} (Ok tt) (Err (Unclosed v)) → ⊥
      clash v e = grind arith

      by : ¬ HasReading (lines rows) → (check_of rows ≡ Ok tt) ⊎ ((v : Point) × (check_of rows ≡ Err (Unclosed v))) → (v : Point) × (check_of rows ≡ Err (Unclosed v))
      by n (inl e) = let r = one ((accepts rows).0 e).1 in absurd (n (r.says, r.is))
      by n (inr u) = u

pub check_reads : CheckReads
check_reads rows wf = read rows wf
