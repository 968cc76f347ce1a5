-- Plan after plan: what has been read and what is left, `ReadSoFar`, make up the whole archive. And what the answer then says of the bytes, `judged`.
use Rattle.std.proofs.Common.{◌≡◌, ℕ, zero, suc, ◌+◌, ◌-◌, ◌<◌, ◌≤◌, true, false, List, [], ◌∷◌, length, get_or, drop, Some, None, Ok, Err, Option, Result, Fits, w8, sym, refl, ap, ◌∙◌, subst, arith, Bor, rules}
use Rattle.std.specs.List.{between}
use Rattle.std.specs.Option.{is_some}
use Rattle.std.proofs.ByRecursion.{All-from_get_or}
use Rattle.std.proofs.lemmas.List.{places, same_lists}
use Rattle.encoding.specs.declared.dates.Date.{Date}
use Rattle.encoding.specs.declared.faults.ArchiveFault.{ArchiveFault}
use Rattle.encoding.specs.Format.{Plan, Archive}
use Rattle.encoding.specs.Read.{size_of, beyond, and_then, next_in, plans_in, read_of}
use Rattle.encoding.specs.Inverse.{Bytes}
use Rattle.encoding.proofs.Back.{back}
use Rattle.encoding.proofs.Only.{only}
use Rattle.encoding.proofs.Unframed.{err_ok}
use Rattle.archive.specs.declared.spans.Span.{Span}
use Rattle.archive.specs.declared.plans.ArchivedPlan.{ArchivedPlan}
use Rattle.archive.specs.declared.decoding.Reader.{Reader}
use Rattle.archive.specs.declared.decoding.Contents.{Contents}
use Rattle.archive.specs.Fields.{left, plan_seen}
use Rattle.archive.specs.Decoding.{Accepted, Opened, behind, seen_next, stepped, summed, told}
use Rattle.archive.proofs.Framing.{length_due}
use Rattle.archive.proofs.PlanReads.{left_past}

-- the date, and k plans before the others
abbrev pub ended_with : Date → ℕ → Result (List Plan) ArchiveFault → Result Contents ArchiveFault
ended_with d k (Ok ps) = Ok (record { date = d; plans = k + length ps })
ended_with d k (Err fault) = Err fault

-- the date d is read, and so are the plans before the reader's place: the others decide what the whole is
pub record ReadSoFar (bs : List ℕ) (d : Date) (r : Reader) : Type 0 where
  pub bytes : r.bytes.now ≡ bs
  pub end : r.span.end ≡ length bs
  pub few : r.plans ≤ r.span.at
  pub rest : summed (read_of bs) ≡ ended_with d r.plans (plans_in (length bs - r.plans) r.span.at r.plans (left bs r.span))

-- after the date
pub all_past : (bs : List ℕ) (n : ℕ) → between n (length bs) bs ≡ drop n bs
all_past bs n = same_lists _ _ (search (rules, places)) (λ k d l. grind (arith, places))

with_date : (d : Date) (x : Result (List Plan) ArchiveFault) → summed (and_then x (λ ps. Ok (record { date = d; plans = ps }))) ≡ ended_with d 0 x
with_date d (Ok ps) = let n : length ps ≡ 0 + length ps = omega arith in ap (λ k. Ok (record { date = d; plans = k })) n
with_date d (Err fault) = refl

pub opened : (b : Bor (List ℕ)) (d : Date) (r : Reader) → Opened b (Ok (d, r)) → ReadSoFar b.now d r
opened b d r h =
    let bs = b.now in
    let n : length bs ≡ length bs - 0 = omega arith in
    let start : Reader = record { bytes = b; span = record { at = 3 + size_of bs; end = length bs }; plans = 0 } in
    subst (ReadSoFar bs d) (sym h.1) (record {
      bytes = refl;
      end = refl;
      few = omega arith;
      rest =
          ap summed (ap (λ x. and_then x (λ date. and_then (plans_in (length bs) (3 + size_of bs) 0 (beyond bs)) (λ ps. Ok (record { date = date; plans = ps })))) h.0)
          ∙ with_date d (plans_in (length bs) (3 + size_of bs) 0 (beyond bs))
          ∙ ap (λ due. ended_with d 0 (plans_in (length bs) (3 + size_of bs) 0 due)) (sym (all_past bs (3 + size_of bs)))
          ∙ ap (λ m. ended_with d 0 (plans_in m (3 + size_of bs) 0 (between (3 + size_of bs) (length bs) bs))) n;
    })

-- the plans that follow, by what comes next; there are never more than bytes
abbrev pub following : ℕ → ℕ → ℕ → List ℕ → Option Plan → Result (List Plan) ArchiveFault
following most place k due None = Ok []
following most place k due (Some plan) = and_then (plans_in most (place + (3 + size_of due)) (suc k) (beyond due)) (λ later. Ok (plan ∷ later))

pub plans_by : (most place k : ℕ) (due : List ℕ) → length due ≤ most → plans_in most place k due ≡ and_then (next_in place k due) (following (most - 1) place k due)
plans_by zero place k [] h = refl
plans_by zero place k (b ∷ due) h = absurd (omega arith)
plans_by (suc most) place k due h = let n : most ≡ suc most - 1 = omega arith in ap (λ m. and_then (next_in place k due) (following m place k due)) n

counted_on : (d : Date) (k : ℕ) (plan : Plan) (x : Result (List Plan) ArchiveFault) → ended_with d k (and_then x (λ later. Ok (plan ∷ later))) ≡ ended_with d (k + 1) x
counted_on d k plan (Ok ps) = let n : k + suc (length ps) ≡ (k + 1) + length ps = omega arith in ap (λ m. Ok (record { date = d; plans = m })) n
counted_on d k plan (Err fault) = refl

module _ (bs : List ℕ) (d : Date) (r : Reader) (so : ReadSoFar bs d r) where
  -- what is left, and what comes next there
  abbrev pub due : List ℕ
  due = left bs r.span

  pub told_is : told r ≡ r.plans
  told_is = omega (arith, so.few)

  same_left : left r.bytes.now r.span ≡ due
  same_left = ap (λ xs. left xs r.span) so.bytes

  pub next_is : next_in r.span.at (told r) (left r.bytes.now r.span) ≡ next_in r.span.at r.plans due
  next_is = (λ i. next_in r.span.at (told_is i) (same_left i))

  rest_by : (x : Result (Option Plan) ArchiveFault) → x ≡ next_in r.span.at (told r) (left r.bytes.now r.span) → summed (read_of bs) ≡ ended_with d r.plans (and_then x (following (length bs - r.plans - 1) r.span.at r.plans due))
  rest_by x e =
      so.rest ∙
      ap (ended_with d r.plans) (plans_by (length bs - r.plans) r.span.at r.plans due (omega (arith, length_due bs r.span.at r.span.end (λ _. true), so.few, so.end)) ∙ ap (λ y. and_then y (following (length bs - r.plans - 1) r.span.at r.plans due)) (sym (e ∙ next_is)))

  -- a fault ends the reading, and so does the last field
  pub ended_at : (fault : ArchiveFault) → Err fault ≡ next_in r.span.at (told r) (left r.bytes.now r.span) → Err fault ≡ summed (read_of bs)
  ended_at fault e = sym (rest_by (Err fault) e)

  pub finished : (o : Option ArchivedPlan) (t : Reader) → false ≡ is_some o → seen_next {E = ArchiveFault} (Ok o) ≡ next_in r.span.at (told r) (left r.bytes.now r.span) → t ≡ stepped {E = ArchiveFault} r (Ok o) → Ok (record { date = d; plans = t.plans }) ≡ summed (read_of bs)
  finished (Some p) t e h after = cc
  finished None t e h after = let n : t.plans ≡ r.plans + 0 = ap (λ u. u.plans) after ∙ omega arith in ap (λ m. Ok (record { date = d; plans = m })) n ∙ sym (rest_by (Ok None) h)

  -- a plan is behind the reader
  went_on : (p : ArchivedPlan) (t : Reader) → seen_next {E = ArchiveFault} (Ok (Some p)) ≡ next_in r.span.at (told r) (left r.bytes.now r.span) → t ≡ stepped {E = ArchiveFault} r (Ok (Some p)) → ReadSoFar bs d t
  went_on p t h after =
      let k : told r + 1 ≡ r.plans + 1 = ap (λ m. m + 1) told_is in
      let s : Span = behind bs r.span in
      let place : behind r.bytes.now r.span ≡ s = ap (λ xs. behind xs r.span) so.bytes in
      let m : length bs - r.plans - 1 ≡ length bs - (r.plans + 1) = omega arith in
      let j : suc r.plans ≡ r.plans + 1 = omega arith in
      let there : t ≡ record { bytes = r.bytes; span = s; plans = r.plans + 1 } = after ∙ (λ i. record { bytes = r.bytes; span = place i; plans = k i }) in
      subst (ReadSoFar bs d) (sym there) (record {
        bytes = so.bytes;
        end = so.end;
        few = omega (arith, so.few);
        rest =
            rest_by (Ok (Some (plan_seen p))) h
            ∙ counted_on d r.plans (plan_seen p) (plans_in (length bs - r.plans - 1) (r.span.at + (3 + size_of due)) (suc r.plans) (beyond due))
            ∙ (λ i. ended_with d (r.plans + 1) (plans_in (m i) (r.span.at + (3 + size_of due)) (j i) (sym (left_past bs r.span s refl) i)));
      })

  pub goes_on : (o : Option ArchivedPlan) (t : Reader) → true ≡ is_some o → seen_next {E = ArchiveFault} (Ok o) ≡ next_in r.span.at (told r) (left r.bytes.now r.span) → t ≡ stepped {E = ArchiveFault} r (Ok o) → ReadSoFar bs d t
  goes_on (Some p) t e h after = went_on p t h after
  goes_on None t e h after = let no : ◌≡◌ {A = ℕ} 0 1 = cc in absurd (omega arith)

-- the answer says whether the bytes are an archive's
judged_by : (bs : List ℕ) → Bytes bs → (x : Result Archive ArchiveFault) → read_of bs ≡ x → Accepted bs (summed x)
judged_by bs small (Ok a) e = let h = only bs a small e in (a, h.0, h.1, refl)
judged_by bs small (Err fault) e = λ a sound same. err_ok fault a (sym e ∙ ap read_of same ∙ back a sound)

pub judged : (bs : List ℕ) (answer : Result Contents ArchiveFault) → ((i : ℕ) → Fits w8 (get_or bs i 0)) → answer ≡ summed (read_of bs) → Accepted bs answer
judged bs answer small e = subst (Accepted bs) (sym e) (judged_by bs (All-from_get_or (λ b. b < 256) bs 0 (λ i l. omega (arith, small i))) (read_of bs) refl)
