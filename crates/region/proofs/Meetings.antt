-- The search for an improper meeting: what it passed over (`clear_more`, `clear_rest`), and that nothing else is left (`uncrowded`).
use Rattle.std.proofs.Common.{◌≡◌, ℕ, zero, suc, ◌+◌, ◌<◌, ◌≤◌, Bool, true, false, ◌&&◌, ◌⊎◌, List, [], ◌∷◌, length, get_or, ℤ, ◌≤ℤ◌, ◌<ℤ◌, Ok, Err, sym, refl, ap, ◌∙◌, subst, inl, inr, arith, w32, SFits, to_z, of_z}
use lib.Signed.{lt_z}
use Rattle.std.proofs.lemmas.Int.{ints}
use Rattle.std.proofs.lemmas.Bool.{cases_order, or_cases, and_parts}
use Rattle.algebra.specs.Members.{◌∈◌, any}
use Rattle.algebra.proofs.Signs.{lin}
use Rattle.algebra.proofs.Members.{Case, holds, fails, case, apart, member_at, place_of, any_none, any_in, any_passes}
use Rattle.plane.specs.declared.segment.Segment.{Segment}
use Rattle.plane.specs.declared.halfsegment.Halfsegment.{Halfsegment}
use Rattle.plane.specs.Points.{precedes, same_point}
use Rattle.plane.specs.Rows.{left, twin, same_row, segment_of, earlier, comes_before, Long}
use Rattle.plane.specs.Meeting.{improper, drawable}
use Rattle.plane.specs.PointLaws.{before_of, rightward, same_point_is, xs_of}
use Rattle.plane.specs.RowLaws.{same_row_is, same_row_holds, fit_long}
use Rattle.plane.proofs.Segments.{left_or_twin, segment_left, segment_twin, segment_ordered, segment_drawable, improper_back, improper_self, improper_apart}
use Rattle.region.specs.declared.refusals.CheckRefusal.TheVariants.{Improper}
use Rattle.region.specs.Plans.{Rising}
use Rattle.region.specs.Check.{no_row, row, crowded, meetings_answer}
use Rattle.region.specs.Verdict.{Misfit, Twinless, Nowhere}
use Rattle.region.proofs.Passes.{fits_at, refused_none, refused_found}

-- the segment of the row at k meets that of no later left row improperly
abbrev pub ClearOfLater : List Halfsegment → ℕ → Type 0
ClearOfLater rows k = (j : ℕ) → k < j → j < length rows → left (row rows j) ≡ true → improper (segment_of (row rows k)) (segment_of (row rows j)) ≡ false

-- rows rise: an earlier one does not begin further right
pub before_x : (g h : Halfsegment) → comes_before g h ≡ true → g.dominating.x ≤ℤ h.dominating.x
before_x g h e = go (or_cases (precedes g.dominating h.dominating) (same_point g.dominating h.dominating && earlier g h) e)
  where
    go : (precedes g.dominating h.dominating ≡ true) ⊎ ((same_point g.dominating h.dominating && earlier g h) ≡ true) → g.dominating.x ≤ℤ h.dominating.x
    go (inl p) = rightward g.dominating h.dominating (before_of g.dominating h.dominating p)
    go (inr p) = let q = xs_of (same_point_is g.dominating h.dominating (and_parts (same_point g.dominating h.dominating) (earlier g h) p).0) in omega (arith, lin)

pub rising_at : (rows : List Halfsegment) → Rising rows → (i j : ℕ) → i < j → j < length rows → comes_before (row rows i) (row rows j) ≡ true
rising_at [] r i j l m = absurd (omega arith)
rising_at (h ∷ rows) r zero zero l m = absurd (omega arith)
rising_at (h ∷ rows) r zero (suc j) l m = r.0 (get_or rows j no_row) (member_at rows j no_row (omega arith))
rising_at (h ∷ rows) r (suc i) zero l m = absurd (omega arith)
rising_at (h ∷ rows) r (suc i) (suc j) l m = rising_at rows r.1 i j (omega arith) (omega arith)

-- whether a row is one of the list's
pub member : (rows : List Halfsegment) (h : Halfsegment) → (h ∈ rows) ⊎ ¬ (h ∈ rows)
member rows h = go (case (any (λ g. same_row g h) rows))
  where
    go : Case (any (λ g. same_row g h) rows) → (h ∈ rows) ⊎ ¬ (h ∈ rows)
    go (holds e) = let p = any_passes (λ g. same_row g h) rows e in inl (subst (λ x. x ∈ rows) (same_row_is p.one h p.passes) p.member)
    go (fails e) = inr (λ m. apart (any_in (λ g. same_row g h) rows h m (same_row_holds h h refl)) e)

module _ (rows : List Halfsegment) (fits : Nowhere (length rows) (Misfit rows)) (twins : Nowhere (length rows) (Twinless rows)) where
  abbrev at : ℕ → Segment
  at i = segment_of (row rows i)

  long_at : (i : ℕ) → i < length rows → Long (row rows i)
  long_at i l = fit_long (row rows i) (fits_at rows fits i l)

  -- the left row of a segment, by its place
  record LeftPlace (l : Segment) : Type 0 where
    pub place : ℕ
    pub within : place < length rows
    pub is_left : left (row rows place) ≡ true
    pub same : at place ≡ l

  left_place : (i : ℕ) → i < length rows → LeftPlace (at i)
  left_place i l = go (left_or_twin (row rows i) (long_at i l)) (member rows (twin (row rows i)))
    where
      go : (left (row rows i) ≡ true) ⊎ (left (twin (row rows i)) ≡ true) → (twin (row rows i) ∈ rows) ⊎ ¬ (twin (row rows i) ∈ rows) → LeftPlace (at i)
      go (inl e) m = record { place = i; within = l; is_left = e; same = refl }
      go (inr e) (inr m) = absurd (twins i l m)
      go (inr e) (inl m) =
          let p = place_of (twin (row rows i)) no_row rows m in
          record { place = p.at; within = p.within; is_left = ap left p.is ∙ e; same = ap segment_of p.is ∙ segment_twin (row rows i) (long_at i l) }

  same_segment : (i j : ℕ) → i < length rows → at i ≡ at j → improper (at i) (at j) ≡ false
  same_segment i j l e = ap (improper (at i)) (sym e) ∙ improper_self (at i) (segment_ordered (row rows i) (long_at i l))

  -- of two left rows, the one that stands first was tested against the other
  two_left : (n j k : ℕ) → ((m : ℕ) → m < n → ClearOfLater rows m) → j < n → j < length rows → k < length rows → left (row rows j) ≡ true → left (row rows k) ≡ true → improper (at k) (at j) ≡ false
  two_left n j k clear low lj lk ej ek = go (cases_order k j)
    where
      go : (k ≡ j) ⊎ ((k < j) ⊎ (j < k)) → improper (at k) (at j) ≡ false
      go (inl q) = same_segment k j lk (ap at q)
      go (inr (inl m)) = clear k (omega arith) j m lj ej
      go (inr (inr m)) = improper_back (at k) (at j) ∙ clear j low k m lk ek

  -- where all rows below n were tested against the later left rows, none of them is crowded
  pub uncrowded : (n : ℕ) → ((m : ℕ) → m < n → ClearOfLater rows m) → (k : ℕ) → k < n → k < length rows → crowded rows k ≡ false
  uncrowded n clear k low lk = any_none (λ g. improper (at k) (segment_of g)) rows no_row (λ j lj. pair j (left_place j lj))
    where
      left_k : LeftPlace (at k)
      left_k = left_place k lk

      by_order : (j : ℕ) → j < length rows → left (row rows j) ≡ true → (j ≡ k) ⊎ ((j < k) ⊎ (k < j)) → improper (at k) (at j) ≡ false
      by_order j lj e (inl q) = same_segment k j lk (ap at (sym q))
      by_order j lj e (inr (inl m)) =
          subst (λ l. improper l (at j) ≡ false) left_k.same (two_left n j left_k.place clear (omega arith) lj left_k.within e left_k.is_left)
      by_order j lj e (inr (inr m)) = clear k low j m lj e

      pair : (j : ℕ) → LeftPlace (at j) → improper (at k) (at j) ≡ false
      pair j p = subst (λ l. improper (at k) l ≡ false) p.same (by_order p.place p.within p.is_left (cases_order p.place k))

  -- the search came to its end, or found row j against row i
  pub meetings_none : (i : ℕ) → length rows ≤ i → ((m : ℕ) → m < i → ClearOfLater rows m) → Ok tt ≡ meetings_answer rows
  meetings_none i l clear = refused_none (crowded rows) Improper (length rows) (length rows) (omega arith) (λ k m. uncrowded i clear k (omega arith) m)

  pub meetings_found : (i j : ℕ) → i < length rows → j < length rows → improper (at i) (at j) ≡ true → ((m : ℕ) → m < i → ClearOfLater rows m) → Err (Improper i) ≡ meetings_answer rows
  meetings_found i j l m e clear =
      refused_found (crowded rows) Improper (length rows) i l (any_in (λ g. improper (at i) (segment_of g)) rows (row rows j) (member_at rows j no_row m) e) (λ k q. uncrowded i clear k q (omega arith))

  -- what `meet_improperly` answers of the segments of two rows
  pub met : (i j : ℕ) (h g : Halfsegment) (l m : Segment) (b : Bool) → i < length rows → j < length rows → row rows i ≡ h → row rows j ≡ g → l ≡ segment_of h → m ≡ segment_of g → b ≡ (drawable l && (drawable m && improper l m)) → improper (at i) (at j) ≡ b
  met i j h g l m b li lj p q el em e =
      let hl : l ≡ at i = el ∙ ap segment_of (sym p) in
      let hm : m ≡ at j = em ∙ ap segment_of (sym q) in
      let dl : drawable (at i) ≡ true = segment_drawable (row rows i) (fits_at rows fits i li) in
      let dm : drawable (at j) ≡ true = segment_drawable (row rows j) (fits_at rows fits j lj) in
      sym (e ∙ (λ t. drawable (hl t) && (drawable (hm t) && improper (hl t) (hm t))) ∙ (λ t. dl t && (dm t && improper (at i) (at j))))

  -- once a row begins further right than the segment of row i ends, so do all later left rows
  pub clear_rest : (i j : ℕ) (h g : Halfsegment) (l : Segment) → i < length rows → Rising rows → row rows i ≡ h → row rows j ≡ g → l ≡ segment_of h → l.high.x <ℤ g.dominating.x → (k : ℕ) → j ≤ k → k < length rows → left (row rows k) ≡ true → improper (at i) (at k) ≡ false
  clear_rest i j h g l li rising p q el far k le lk e =
      improper_apart (at i) (at k) (segment_ordered (row rows i) (long_at i li)) (segment_ordered (row rows k) (long_at k lk)) (further (low_x k e) (steps k le lk))
    where
      low_x : (k : ℕ) → left (row rows k) ≡ true → (at k).low.x ≡ (row rows k).dominating.x
      low_x k e = ap (λ s. s.low.x) (segment_left (row rows k) e)

      steps : (k : ℕ) → j ≤ k → k < length rows → (row rows j).dominating.x ≤ℤ (row rows k).dominating.x
      steps k le lk = go (cases_order j k)
        where
          go : (j ≡ k) ⊎ ((j < k) ⊎ (k < j)) → (row rows j).dominating.x ≤ℤ (row rows k).dominating.x
          go (inl z) = let w = ap (λ t. (row rows t).dominating.x) z in omega (arith, lin)
          go (inr (inl z)) = before_x (row rows j) (row rows k) (rising_at rows rising j k z lk)
          go (inr (inr z)) = absurd (omega arith)

      further : (at k).low.x ≡ (row rows k).dominating.x → (row rows j).dominating.x ≤ℤ (row rows k).dominating.x → (at i).high.x <ℤ (at k).low.x
      further a b =
          let c : (at i).high.x ≡ l.high.x = ap (λ s. s.high.x) (sym (el ∙ ap segment_of (sym p))) in
          let d : (row rows j).dominating.x ≡ g.dominating.x = ap (λ r. r.dominating.x) q in
          omega (arith, lin)

-- what the code compares, of coordinates that went to bits and back
pub further : (a b : ℤ) → SFits w32 a → SFits w32 b → lt_z (to_z w32 (of_z w32 a)) (to_z w32 (of_z w32 b)) ≡ true → a <ℤ b
further a b f g e = omega (arith, ints)

-- one more later row, and one more row
pub clear_more : (P : ℕ → Type 0) (i m : ℕ) → ((j : ℕ) → i < j → j < m → P j) → P m → (j : ℕ) → i < j → j < m + 1 → P j
clear_more P i m below here j lo hi = go (cases_order j m)
  where
    go : (j ≡ m) ⊎ ((j < m) ⊎ (m < j)) → P j
    go (inl q) = subst P (sym q) here
    go (inr (inl l)) = below j lo l
    go (inr (inr l)) = absurd (omega arith)

pub all_more : (P : ℕ → Type 0) (i : ℕ) → ((k : ℕ) → k < i → P k) → P i → (k : ℕ) → k < i + 1 → P k
all_more P i below here k h = go (cases_order k i)
  where
    go : (k ≡ i) ⊎ ((k < i) ⊎ (i < k)) → P k
    go (inl q) = subst P (sym q) here
    go (inr (inl l)) = below k l
    go (inr (inr l)) = absurd (omega arith)
