-- What check's answer means: `verdict`, and that it accepts exactly the well-formed and closed rows (`accepts`).
use Rattle.std.proofs.Common.{◌≡◌, ℕ, zero, suc, ◌<◌, Bool, true, false, cond, not, ◌&&◌, ◌⊎◌, List, [], ◌∷◌, length, Some, None, Ok, Err, Option, Result, sym, refl, ap, ◌∙◌, subst, inl, inr, arith}
use Rattle.std.proofs.lemmas.Bool.{cases_order, and_parts, or_cases}
use Rattle.algebra.specs.Members.{◌∈◌, here, there, any}
use Rattle.algebra.specs.Parity.{odd}
use Rattle.algebra.proofs.Members.{Case, holds, fails, case, apart, out, none, member_at, place_of, any_in, none_in, any_passes}
use Rattle.algebra.proofs.Parity.{times_none}
use Rattle.plane.specs.declared.point.Point.{Point}
use Rattle.plane.specs.declared.halfsegment.Halfsegment.{Halfsegment}
use Rattle.plane.specs.Points.{in_range, same_point, precedes}
use Rattle.plane.specs.Rows.{fit, twin, same_row, segment_of, earlier, comes_before, Long}
use Rattle.plane.specs.Spots.{MeetImproperly}
use Rattle.plane.specs.Meeting.{improper}
use Rattle.plane.specs.PointLaws.{same_point_is, precedes_self, precedes_back}
use Rattle.plane.specs.RowLaws.{same_row_is, same_row_holds, fit_long}
use Rattle.plane.proofs.Segments.{segment_ordered}
use Rattle.plane.proofs.RowOrder.{row_order}
use Rattle.plane.proofs.Meetings.{signs_tell}
use Rattle.region.specs.declared.refusals.RowFault.{RowFault}
use Rattle.region.specs.declared.refusals.RowFault.TheVariants.{OutOfRange, NoLength}
use Rattle.region.specs.declared.refusals.CheckRefusal.{CheckRefusal}
use Rattle.region.specs.declared.refusals.CheckRefusal.TheVariants.{BadRow, Unsorted, NoTwin, Improper, Unclosed}
use Rattle.region.specs.Plans.{Rising, WellFormed, Closed, degree}
use Rattle.region.specs.Check.{no_row, row, row_fault, faulty, misplaced, stands, twinless, crowded, uneven, refused_at, placed, each_answer, order_answer, twins_answer, meetings_answer, corners_answer, and_then, check_of}
use Rattle.region.specs.Verdict.{Nowhere, Misfit, Misplaced, Twinless, Crowded, LeastOdd, Verdict, Accepts}
use Rattle.region.proofs.Firsts.{Sought, nowhere, somewhere, sought}
use Rattle.region.proofs.Passes.{fits_at}
use Rattle.region.proofs.Meetings.{rising_at}

-- a row is faulty exactly where it does not fit
fault_is : (h : Halfsegment) → faulty (row_fault h) ≡ not (fit h)
fault_is h = by (in_range h.dominating && in_range h.far) (same_point h.dominating h.far)
  where
    by : (s t : Bool) → faulty (cond s (cond t (Err NoLength) (Ok tt)) (Err OutOfRange)) ≡ not (s && not t)
    by true true = refl
    by true false = refl
    by false true = refl
    by false false = refl

not_true : (t : Bool) → not t ≡ true → t ≡ false
not_true true e = absurd (apart e refl)
not_true false e = refl

not_of_false : (t : Bool) → not t ≡ false → t ≡ true
not_of_false true e = refl
not_of_false false e = sym e

fault_of : (t : Result Unit RowFault) → faulty t ≡ true → (f : RowFault) × (t ≡ Err f)
fault_of (Ok _) e = absurd (apart e refl)
fault_of (Err f) e = (f, refl)

module _ (rows : List Halfsegment) where
  -- the passes, by what they found
  misfit_none : ((k : ℕ) → k < length rows → faulty (row_fault (row rows k)) ≡ false) → Nowhere (length rows) (Misfit rows)
  misfit_none h k l e = apart (fault_is (row rows k) ∙ ap not e) (h k l)

  fits_in : Nowhere (length rows) (Misfit rows) → (h : Halfsegment) → h ∈ rows → fit h ≡ true
  fits_in none h m = let p = place_of h no_row rows m in ap fit (sym p.is) ∙ fits_at rows none p.at p.within

  in_fits : ((h : Halfsegment) → h ∈ rows → fit h ≡ true) → Nowhere (length rows) (Misfit rows)
  in_fits fits k l e = apart (fits (row rows k) (member_at rows k no_row l)) e

  -- neighbours in order, where nothing is misplaced
  in_order : ((k : ℕ) → k < length rows → misplaced rows k ≡ false) → (k : ℕ) → suc k < length rows → comes_before (row rows k) (row rows (suc k)) ≡ true
  in_order h k l = not_of_false (comes_before (row rows k) (row rows (suc k))) (h (suc k) l)

-- rows whose neighbours are in order rise, since the order is transitive
step : (rows : List Halfsegment) → ((h : Halfsegment) → h ∈ rows → Long h) → (g : Halfsegment) → Long g → ((k : ℕ) → suc k < length (g ∷ rows) → comes_before (row (g ∷ rows) k) (row (g ∷ rows) (suc k)) ≡ true) → (h : Halfsegment) → h ∈ rows → comes_before g h ≡ true
step [] long g n order h m = absurd (none h m)
step (f ∷ rows) long g n order h m = go (out h f rows m) (step rows (λ x i. long x (there i)) f (long f here) (λ k l. order (suc k) (omega arith)))
  where
    go : (h ≡ f) ⊎ (h ∈ rows) → ((x : Halfsegment) → x ∈ rows → comes_before f x ≡ true) → comes_before g h ≡ true
    go (inl q) r = ap (comes_before g) q ∙ order 0 (omega arith)
    go (inr i) r = row_order.transitive g f h n (long f here) (long h m) (order 0 (omega arith)) (r h i)

rises : (rows : List Halfsegment) → ((h : Halfsegment) → h ∈ rows → Long h) → ((k : ℕ) → suc k < length rows → comes_before (row rows k) (row rows (suc k)) ≡ true) → Rising rows
rises [] long order = tt
rises (g ∷ rows) long order =
    (step rows (λ h m. long h (there m)) g (long g here) order, rises rows (λ h m. long h (there m)) (λ k l. order (suc k) (omega arith)))

module _ (rows : List Halfsegment) where
  rising_of : Nowhere (length rows) (Misfit rows) → ((k : ℕ) → k < length rows → misplaced rows k ≡ false) → Rising rows
  rising_of fits order = rises rows (λ h m. fit_long h (fits_in rows fits h m)) (in_order rows order)

  -- twins by the test and by membership
  twin_there : (i : ℕ) → twinless rows i ≡ false → twin (row rows i) ∈ rows
  twin_there i e =
      let p = any_passes (λ g. same_row g (twin (row rows i))) rows (not_of_false (stands rows (twin (row rows i))) e) in
      subst (λ x. x ∈ rows) (same_row_is p.one (twin (row rows i)) p.passes) p.member

  twin_test : (i : ℕ) → twin (row rows i) ∈ rows → twinless rows i ≡ false
  twin_test i m = ap not (any_in (λ g. same_row g (twin (row rows i))) rows (twin (row rows i)) m (same_row_holds (twin (row rows i)) (twin (row rows i)) refl))

  -- meetings by the test and by a shared point
  crowded_is : Nowhere (length rows) (Misfit rows) → (i : ℕ) → i < length rows → crowded rows i ≡ true → Crowded rows i
  crowded_is fits i l e =
      let p = any_passes (λ g. improper (segment_of (row rows i)) (segment_of g)) rows e in
      (p.one, p.member, (signs_tell (segment_of (row rows i)) (segment_of p.one) (segment_ordered (row rows i) (fit_long (row rows i) (fits_at rows fits i l))) (segment_ordered p.one (fit_long p.one (fits_in rows fits p.one p.member)))).0 p.passes)

  uncrowded_is : Nowhere (length rows) (Misfit rows) → (i : ℕ) → i < length rows → crowded rows i ≡ false → ¬ Crowded rows i
  uncrowded_is fits i l e c =
      apart (any_in (λ g. improper (segment_of (row rows i)) (segment_of g)) rows c.0 c.1 ((signs_tell (segment_of (row rows i)) (segment_of c.0) (segment_ordered (row rows i) (fit_long (row rows i) (fits_at rows fits i l))) (segment_ordered c.0 (fit_long c.0 (fits_in rows fits c.0 c.1)))).1 c.2)) e

  -- a corner with an odd number of rows has one
  has_row : (v : Point) → odd (degree rows v) ≡ true → (h : Halfsegment) × (h ∈ rows) × (h.dominating ≡ v)
  has_row v e = go (case (any (λ h. same_point h.dominating v) rows))
    where
      go : Case (any (λ h. same_point h.dominating v) rows) → (h : Halfsegment) × (h ∈ rows) × (h.dominating ≡ v)
      go (holds t) = let p = any_passes (λ h. same_point h.dominating v) rows t in (p.one, p.member, same_point_is p.one.dominating v p.passes)
      go (fails t) = absurd (apart e (ap odd (times_none (λ h. same_point h.dominating v) rows (none_in (λ h. same_point h.dominating v) rows t))))

  closed_of : ((k : ℕ) → k < length rows → uneven rows k ≡ false) → Closed rows
  closed_of even v = go (case (odd (degree rows v)))
    where
      go : Case (odd (degree rows v)) → odd (degree rows v) ≡ false
      go (fails e) = e
      go (holds e) =
          let h = has_row v e in
          let p = place_of h.0 no_row rows h.1 in
          sym (ap (λ x. odd (degree rows x)) (ap (λ r. r.dominating) p.is ∙ h.2)) ∙ even p.at p.within

  -- the first uneven row is at the least uneven corner
  least_odd : Nowhere (length rows) (Misfit rows) → Rising rows → (i : ℕ) → i < length rows → uneven rows i ≡ true → ((k : ℕ) → k < i → uneven rows k ≡ false) → LeastOdd rows (row rows i).dominating
  least_odd fits r i l e before = record { uneven = e; even_before = λ w p. go w p (case (odd (degree rows w))) }
    where
      v : Point
      v = (row rows i).dominating

      later : (j : ℕ) → i < j → j < length rows → precedes (row rows j).dominating (row rows i).dominating ≡ true → ⊥
      later j m lj p = by (or_cases (precedes (row rows i).dominating (row rows j).dominating) (same_point (row rows i).dominating (row rows j).dominating && earlier (row rows i) (row rows j)) (rising_at rows r i j m lj))
        where
          by : (precedes (row rows i).dominating (row rows j).dominating ≡ true) ⊎ ((same_point (row rows i).dominating (row rows j).dominating && earlier (row rows i) (row rows j)) ≡ true) → ⊥
          by (inl q) = apart q (precedes_back (row rows j).dominating (row rows i).dominating p)
          by (inr q) =
              let s = same_point_is (row rows i).dominating (row rows j).dominating (and_parts (same_point (row rows i).dominating (row rows j).dominating) (earlier (row rows i) (row rows j)) q).0 in
              apart (ap (precedes (row rows j).dominating) (sym s) ∙ p) (precedes_self (row rows j).dominating)

      go : (w : Point) → precedes w (row rows i).dominating ≡ true → Case (odd (degree rows w)) → odd (degree rows w) ≡ false
      go w p (fails t) = t
      go w p (holds t) =
          let h = has_row w t in
          let q = place_of h.0 no_row rows h.1 in
          let is : (row rows q.at).dominating ≡ w = ap (λ x. x.dominating) q.is ∙ h.2 in
          at q.at q.within is (cases_order q.at i)
        where
          at : (j : ℕ) → j < length rows → (row rows j).dominating ≡ w → (j ≡ i) ⊎ ((j < i) ⊎ (i < j)) → odd (degree rows w) ≡ false
          at j lj is (inl z) = absurd (apart (ap (λ x. precedes x (row rows i).dominating) (ap (λ n. (row rows n).dominating) (sym z) ∙ is) ∙ p) (precedes_self (row rows i).dominating))
          at j lj is (inr (inl z)) = ap (λ x. odd (degree rows x)) (sym is) ∙ before j z
          at j lj is (inr (inr z)) = absurd (later j z lj (ap (λ x. precedes x (row rows i).dominating) is ∙ p))

-- the answers of the passes, by what was sought
module _ (rows : List Halfsegment) where
  abbrev n : ℕ
  n = length rows

  -- what the passes so far have shown, and the verdict if the pass refuses
  data Passed (r : Result Unit CheckRefusal) (Fine : Type 0) : Type 0 where
    passed : r ≡ Ok tt → Fine → Passed r Fine
    failed : (e : CheckRefusal) → r ≡ Err e → Verdict rows (Err e) → Passed r Fine

  each_test : ℕ → Bool
  each_test i = faulty (row_fault (row rows i))

  each_passed : Passed (each_answer rows) (Nowhere n (Misfit rows))
  unfolding each_test
  each_passed = go (sought each_test n)
    where
      of : Option ℕ → Result Unit CheckRefusal
      of o = elim o [ None ↦ Ok tt | Some i ↦ placed i (row_fault (row rows i)) ]

      go : Sought each_test n → Passed (each_answer rows) (Nowhere n (Misfit rows))
      go (nowhere q h) = passed (ap of q) (misfit_none rows h)
      go (somewhere i q l e h) =
          let f = fault_of (row_fault (row rows i)) e in
          failed (BadRow i f.0) (ap of q ∙ ap (placed i) f.1)
          (record { within = l; holds = not_true (fit (row rows i)) (sym (fault_is (row rows i)) ∙ e); none_before = λ k m w. apart (fault_is (row rows k) ∙ ap not w) (h k m) }, f.1)

  misplaced_is_not : (k : ℕ) → misplaced rows k ≡ false → ¬ Misplaced rows k
  misplaced_is_not zero e m = m
  misplaced_is_not (suc k) e m = apart (ap not m) e

  misplaced_holds : (k : ℕ) → misplaced rows k ≡ true → Misplaced rows k
  misplaced_holds zero e = absurd (apart e refl)
  misplaced_holds (suc k) e = not_true (comes_before (row rows k) (row rows (suc k))) e

  order_passed : Nowhere n (Misfit rows) → Passed (order_answer rows) (Rising rows)
  order_passed fits = go (sought (misplaced rows) n)
    where
      go : Sought (misplaced rows) n → Passed (order_answer rows) (Rising rows)
      go (nowhere q h) = passed (ap (λ o. refused_at o Unsorted) q) (rising_of rows fits h)
      go (somewhere i q l e h) = failed (Unsorted i) (ap (λ o. refused_at o Unsorted) q) (fits, record { within = l; holds = misplaced_holds i e; none_before = λ k m. misplaced_is_not k (h k m) })

  twins_passed : Nowhere n (Misfit rows) → Rising rows → Passed (twins_answer rows) ((i : ℕ) → i < n → twin (row rows i) ∈ rows)
  twins_passed fits rising = go (sought (twinless rows) n)
    where
      go : Sought (twinless rows) n → Passed (twins_answer rows) ((i : ℕ) → i < n → twin (row rows i) ∈ rows)
      go (nowhere q h) = passed (ap (λ o. refused_at o NoTwin) q) (λ i l. twin_there rows i (h i l))
      go (somewhere i q l e h) = failed (NoTwin i) (ap (λ o. refused_at o NoTwin) q) (fits, rising, record { within = l; holds = λ m. apart e (twin_test rows i m); none_before = λ k m w. w (twin_there rows k (h k m)) })

  abbrev Twins : Type 0
  Twins = (i : ℕ) → i < n → twin (row rows i) ∈ rows

  well_formed : Nowhere n (Misfit rows) → Rising rows → Twins → Nowhere n (Crowded rows) → WellFormed rows
  well_formed fits rising twins clear =
      record {
        fits = fits_in rows fits;
        rising = rising;
        paired = λ h m. let p = place_of h no_row rows m in subst (λ x. twin x ∈ rows) p.is (twins p.at p.within);
        proper = λ g h mg mh w. let p = place_of g no_row rows mg in clear p.at p.within (h, mh, subst (λ x. MeetImproperly (segment_of x) (segment_of h)) (sym p.is) w);
      }

  meetings_passed : Nowhere n (Misfit rows) → Rising rows → Twins → Passed (meetings_answer rows) (Nowhere n (Crowded rows))
  meetings_passed fits rising twins = go (sought (crowded rows) n)
    where
      go : Sought (crowded rows) n → Passed (meetings_answer rows) (Nowhere n (Crowded rows))
      go (nowhere q h) = passed (ap (λ o. refused_at o Improper) q) (λ k l. uncrowded_is rows fits k l (h k l))
      go (somewhere i q l e h) =
          failed (Improper i) (ap (λ o. refused_at o Improper) q)
          (fits, rising, (λ k m w. w (twins k m)), record { within = l; holds = crowded_is rows fits i l e; none_before = λ k m. uncrowded_is rows fits k (omega arith) (h k m) })

  corners_passed : Nowhere n (Misfit rows) → Rising rows → WellFormed rows → Passed (corners_answer rows) (Closed rows)
  corners_passed fits rising wf = go (sought (uneven rows) n)
    where
      of : Option ℕ → Result Unit CheckRefusal
      of o = refused_at o (λ i. Unclosed (row rows i).dominating)

      go : Sought (uneven rows) n → Passed (corners_answer rows) (Closed rows)
      go (nowhere q h) = passed (ap of q) (closed_of rows h)
      go (somewhere i q l e h) = failed (Unclosed (row rows i).dominating) (ap of q) (wf, least_odd rows fits rising i l e h)

  -- the five passes in turn
  checked : Passed (check_of rows) (WellFormed rows × Closed rows)
  checked = one each_passed
    where
      abbreviate : (a b : Result Unit CheckRefusal) → a ≡ Ok tt → and_then a b ≡ b
      abbreviate a b e = ap (λ x. and_then x b) e

      stop : (a b : Result Unit CheckRefusal) (e : CheckRefusal) → a ≡ Err e → and_then a b ≡ Err e
      stop a b e q = ap (λ x. and_then x b) q

      r4 : Result Unit CheckRefusal
      r4 = and_then (meetings_answer rows) (corners_answer rows)

      r3 : Result Unit CheckRefusal
      r3 = and_then (twins_answer rows) r4

      r2 : Result Unit CheckRefusal
      r2 = and_then (order_answer rows) r3

      five : (p : WellFormed rows) → Passed (corners_answer rows) (Closed rows) → Passed (corners_answer rows) (WellFormed rows × Closed rows)
      five p (passed q f) = passed q (p, f)
      five p (failed e q v) = failed e q v

      next : (a b : Result Unit CheckRefusal) → a ≡ Ok tt → Passed b (WellFormed rows × Closed rows) → Passed (and_then a b) (WellFormed rows × Closed rows)
      next a b e (passed q f) = passed (abbreviate a b e ∙ q) f
      next a b e (failed x q v) = failed x (abbreviate a b e ∙ q) v

      four : Nowhere n (Misfit rows) → Rising rows → Twins → Passed (meetings_answer rows) (Nowhere n (Crowded rows)) → Passed r4 (WellFormed rows × Closed rows)
      four fits rising twins (passed q f) =
          let w = well_formed fits rising twins f in
          next (meetings_answer rows) (corners_answer rows) q (five w (corners_passed fits rising w))
      four fits rising twins (failed e q v) = failed e (stop (meetings_answer rows) (corners_answer rows) e q) v

      three : Nowhere n (Misfit rows) → Rising rows → Passed (twins_answer rows) Twins → Passed r3 (WellFormed rows × Closed rows)
      three fits rising (passed q f) = next (twins_answer rows) r4 q (four fits rising f (meetings_passed fits rising f))
      three fits rising (failed e q v) = failed e (stop (twins_answer rows) r4 e q) v

      two : Nowhere n (Misfit rows) → Passed (order_answer rows) (Rising rows) → Passed r2 (WellFormed rows × Closed rows)
      two fits (passed q f) = next (order_answer rows) r3 q (three fits f (twins_passed fits f))
      two fits (failed e q v) = failed e (stop (order_answer rows) r3 e q) v

      one : Passed (each_answer rows) (Nowhere n (Misfit rows)) → Passed (check_of rows) (WellFormed rows × Closed rows)
      one (passed q f) = next (each_answer rows) r2 q (two f (order_passed f))
      one (failed e q v) = failed e (stop (each_answer rows) r2 e q) v

  pub verdict : Verdict rows (check_of rows)
  verdict = go checked
    where
      go : Passed (check_of rows) (WellFormed rows × Closed rows) → Verdict rows (check_of rows)
      go (passed q f) = subst (Verdict rows) (sym q) f
      go (failed e q v) = subst (Verdict rows) (sym q) v

  -- well-formed rows are refused as unclosed or not at all
  pub only_unclosed : (e : CheckRefusal) → Verdict rows (Err e) → WellFormed rows → (v : Point) × (e ≡ Unclosed v)
  only_unclosed (BadRow i f) v w = absurd (in_fits rows w.fits i v.0.within v.0.holds)
  only_unclosed (Unsorted i) v w = absurd (go i v.1.within v.1.holds)
    where
      go : (i : ℕ) → i < n → Misplaced rows i → ⊥
      go zero l m = m
      go (suc i) l m = apart (rising_at rows w.rising i (suc i) (omega arith) l) m
  only_unclosed (NoTwin i) v w = absurd (v.2.holds (w.paired (row rows i) (member_at rows i no_row v.2.within)))
  only_unclosed (Improper i) v w =
      let h = v.3.holds in
      absurd (w.proper (row rows i) h.0 (member_at rows i no_row v.3.within) h.1 h.2)
  only_unclosed (Unclosed p) v w = (p, refl)

  -- and closed ones not at all
  refuted : (e : CheckRefusal) → Verdict rows (Err e) → WellFormed rows → Closed rows → ⊥
  refuted e v w c =
      let u = only_unclosed e v w in
      apart (subst (λ x. Verdict rows (Err x)) u.1 v).1.uneven (c u.0)

  accepted : WellFormed rows × Closed rows → check_of rows ≡ Ok tt
  accepted wc = go checked
    where
      go : Passed (check_of rows) (WellFormed rows × Closed rows) → check_of rows ≡ Ok tt
      go (passed q f) = q
      go (failed e q v) = absurd (refuted e v wc.0 wc.1)

  -- what the first passes leave for the later ones
  clash : (e : CheckRefusal) → ◌≡◌ {A = Result Unit CheckRefusal} (Ok tt) (Err e) → ⊥
  clash e q = grind arith

  fine : (r : Result Unit CheckRefusal) (Fine : Type 0) → Ok tt ≡ r → Passed r Fine → Fine
  fine r Fine e (passed q f) = f
  fine r Fine e (failed x q v) = absurd (clash x (e ∙ q))

  pub each_fits : Ok tt ≡ each_answer rows → Nowhere n (Misfit rows)
  each_fits e = fine (each_answer rows) (Nowhere n (Misfit rows)) e each_passed

  pub order_rises : Nowhere n (Misfit rows) → Ok tt ≡ order_answer rows → Rising rows
  order_rises fits e = fine (order_answer rows) (Rising rows) e (order_passed fits)

  pub twins_there : Nowhere n (Misfit rows) → Rising rows → Ok tt ≡ twins_answer rows → Nowhere n (Twinless rows)
  twins_there fits rising e k l w = w (fine (twins_answer rows) Twins e (twins_passed fits rising) k l)

  -- the answer of the pass that stops check, or of the last
  abbrev From : Result Unit CheckRefusal → Type 0
  From r = (r ≡ check_of rows) × Verdict rows r

  meant : (r : Result Unit CheckRefusal) → r ≡ check_of rows → From r
  meant r e = (e, subst (Verdict rows) (sym e) verdict)

  pub by_each : (e : CheckRefusal) → Err e ≡ each_answer rows → From (Err e)
  by_each e q = meant (Err e) (ap (λ x. and_then x (and_then (order_answer rows) (and_then (twins_answer rows) (and_then (meetings_answer rows) (corners_answer rows))))) q)

  pub by_order : (e : CheckRefusal) → Ok tt ≡ each_answer rows → Err e ≡ order_answer rows → From (Err e)
  by_order e p q = meant (Err e) (λ i. and_then (p i) (and_then (q i) (and_then (twins_answer rows) (and_then (meetings_answer rows) (corners_answer rows)))))

  pub by_twins : (e : CheckRefusal) → Ok tt ≡ each_answer rows → Ok tt ≡ order_answer rows → Err e ≡ twins_answer rows → From (Err e)
  by_twins e p q t = meant (Err e) (λ i. and_then (p i) (and_then (q i) (and_then (t i) (and_then (meetings_answer rows) (corners_answer rows)))))

  pub by_meetings : (e : CheckRefusal) → Ok tt ≡ each_answer rows → Ok tt ≡ order_answer rows → Ok tt ≡ twins_answer rows → Err e ≡ meetings_answer rows → From (Err e)
  by_meetings e p q t m = meant (Err e) (λ i. and_then (p i) (and_then (q i) (and_then (t i) (and_then (m i) (corners_answer rows)))))

  pub by_corners : (r : Result Unit CheckRefusal) → Ok tt ≡ each_answer rows → Ok tt ≡ order_answer rows → Ok tt ≡ twins_answer rows → Ok tt ≡ meetings_answer rows → r ≡ corners_answer rows → From r
  by_corners r p q t m e = meant r (λ i. and_then (p i) (and_then (q i) (and_then (t i) (and_then (m i) (e i)))))

pub accepts : Accepts
accepts rows = (λ e. subst (Verdict rows) e (verdict rows), accepted rows)
