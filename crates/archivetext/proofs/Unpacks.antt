-- For `unpack`: the text grows line by line and plan by plan, up to that of the whole archive.
use Rattle.std.proofs.Common.{◌≡◌, ℕ, suc, ◌+◌, ◌-◌, ◌*◌, true, slice_index, eqb, List, [], ◌∷◌, ◌++◌, length, Some, None, Ok, Err, Option, Result, sym, refl, ap, ◌∙◌, subst, arith, Bor}
use Rattle.std.specs.List.{between, flat_map}
use Rattle.std.specs.Result.{IsErrAnd, MatchResult}
use Rattle.std.proofs.lemmas.List.{append_assoc, append-nil}
use Rattle.encoding.specs.declared.dates.Date.{Date}
use Rattle.encoding.specs.declared.faults.ArchiveFault.{ArchiveFault}
use Rattle.encoding.specs.declared.faults.FieldFault.TheVariants.{Malformed, NoSuchDate}
use Rattle.encoding.specs.declared.faults.ArchiveFault.TheVariants.{AtField}
use Rattle.encoding.specs.Dates.{valid_date}
use Rattle.encoding.specs.Format.{Plan, Archive, date_tag}
use Rattle.encoding.specs.Read.{size_of, beyond, content_of, framed, and_then, at_field, dated, date_in, next_in, plans_in, read_of}
use Rattle.encoding.proofs.Unframed.{ok_same, cond_ok, and_then_ok, map_fault_ok}
use Rattle.archive.specs.declared.spans.Span.{Span}
use Rattle.archive.specs.declared.plans.ArchivedPlan.{ArchivedPlan}
use Rattle.archive.specs.declared.decoding.Reader.{Reader}
use Rattle.archive.specs.Fields.{left, with_content, plan_seen}
use Rattle.archive.specs.Decoding.{Opened, behind, seen_next, stepped, told}
use Rattle.archive.proofs.Framing.{length_due}
use Rattle.archive.proofs.PlanReads.{left_past}
use Rattle.archive.proofs.WholeReads.{ReadSoFar, all_past, following, plans_by, next_is, told_is, opened, goes_on}
use Rattle.archivetext.specs.Text.{line, date_words, plan_text}
use Rattle.archivetext.specs.declared.unpacking.UnpackFault.{UnpackFault}
use Rattle.archivetext.specs.declared.unpacking.UnpackFault.TheVariants.{Refused}
use Rattle.archivetext.specs.Unpack.{Stopped, texted}

-- what `item` writes of the first of the things that are left stands behind the text
pub one_more : {A : Type 0} (item : A → List ℕ) (text all more : List ℕ) (x : A) (left rest : List A) → text ++ flat_map item left ≡ all → left ≡ x ∷ rest → more ≡ text ++ item x → more ++ flat_map item rest ≡ all
one_more item text all more x left rest whole first new =
    ap (λ t. t ++ flat_map item rest) new ∙ append_assoc text (item x) (flat_map item rest) ∙ ap (λ l. text ++ flat_map item l) (sym first) ∙ whole

pub none_left : {A : Type 0} (item : A → List ℕ) (text all : List ℕ) (left : List A) → text ++ flat_map item left ≡ all → left ≡ [] → text ≡ all
none_left item text all left whole none = sym (append-nil text) ∙ ap (λ l. text ++ flat_map item l) (sym none) ∙ whole

-- the date that opening a reader found is one that there is
dated_valid : (x d : Date) → dated x ≡ Ok d → valid_date d ≡ true
dated_valid x d e =
    let v = cond_ok (valid_date x) (Ok x) NoSuchDate d e in
    subst (λ y. valid_date y ≡ true) (ok_same x d v.1) v.0

pub opened_date : (bs : List ℕ) (d : Date) → at_field 0 (with_content date_tag date_in bs) ≡ Ok d → valid_date d ≡ true
opened_date bs d e =
    let r = map_fault_ok (AtField 0) (with_content date_tag date_in bs) d e in
    let s = and_then_ok (framed (eqb date_tag) bs) (λ _. date_in (content_of bs)) d r in
    let due = content_of bs in
    let t = cond_ok (eqb (length due) 4) _ Malformed d s.2 in
    dated_valid (record { year = slice_index due 0 * 256 + slice_index due 1; month = slice_index due 2; day = slice_index due 3 }) d t.1

-- the text of what was read, and behind it that of other plans
abbrev pub text_on : List ℕ → Result (List Plan) ArchiveFault → Result (List ℕ) ArchiveFault
text_on text (Ok ps) = Ok (text ++ flat_map plan_text ps)
text_on text (Err fault) = Err fault

-- the date and the plans before the reader's place are written: the others decide what the whole text is
pub record WrittenSoFar (bs : List ℕ) (d : Date) (r : Reader) (text : List ℕ) : Type 0 where
  pub so : ReadSoFar bs d r
  pub rest : texted (read_of bs) ≡ text_on text (plans_in (length bs - r.plans) r.span.at r.plans (left bs r.span))

with_date : (d : Date) (x : Result (List Plan) ArchiveFault) → texted (and_then x (λ ps. Ok (record { date = d; plans = ps }))) ≡ text_on (line (date_words d)) x
with_date d (Ok ps) = refl
with_date d (Err fault) = refl

-- after the date
pub begun : (b : Bor (List ℕ)) (d : Date) (r : Reader) (text : List ℕ) → Opened b (Ok (d, r)) → text ≡ line (date_words d) → WrittenSoFar b.now d r text
begun b d r text h first =
    let bs = b.now in
    let n : length bs ≡ length bs - 0 = omega arith in
    let start : Reader = record { bytes = b; span = record { at = 3 + size_of bs; end = length bs }; plans = 0 } in
    record {
      so = opened b d r h;
      rest =
          ap texted (ap (λ x. and_then x (λ date. and_then (plans_in (length bs) (3 + size_of bs) 0 (beyond bs)) (λ ps. Ok (record { date = date; plans = ps })))) h.0)
          ∙ with_date d (plans_in (length bs) (3 + size_of bs) 0 (beyond bs))
          ∙ ap (λ due. text_on (line (date_words d)) (plans_in (length bs) (3 + size_of bs) 0 due)) (sym (all_past bs (3 + size_of bs)))
          ∙ ap (λ m. text_on (line (date_words d)) (plans_in m (3 + size_of bs) 0 (between (3 + size_of bs) (length bs) bs))) n
          ∙ ap (λ t. text_on t (plans_in (length bs - 0) (3 + size_of bs) 0 (left bs start.span))) (sym first)
          ∙ ap (λ u. text_on text (plans_in (length bs - u.plans) u.span.at u.plans (left bs u.span))) (sym h.1);
    }

written_on : (text : List ℕ) (plan : Plan) (x : Result (List Plan) ArchiveFault) → text_on text (and_then x (λ later. Ok (plan ∷ later))) ≡ text_on (text ++ plan_text plan) x
written_on text plan (Ok ps) = ap Ok (sym (append_assoc text (plan_text plan) (flat_map plan_text ps)))
written_on text plan (Err fault) = refl

module _ (bs : List ℕ) (d : Date) (r : Reader) (text : List ℕ) (written : WrittenSoFar bs d r text) where
  rest_by : (x : Result (Option Plan) ArchiveFault) → x ≡ next_in r.span.at (told r) (left r.bytes.now r.span) → texted (read_of bs) ≡ text_on text (and_then x (following (length bs - r.plans - 1) r.span.at r.plans (left bs r.span)))
  rest_by x e =
      written.rest ∙
      ap (text_on text) (plans_by (length bs - r.plans) r.span.at r.plans (left bs r.span) (omega (arith, length_due bs r.span.at r.span.end (λ _. true), written.so.few, written.so.end)) ∙ ap (λ y. and_then y (following (length bs - r.plans - 1) r.span.at r.plans (left bs r.span))) (sym (e ∙ next_is bs d r written.so)))

  -- a fault ends the reading, and so does the last field
  pub ended_at : (fault : ArchiveFault) → Err fault ≡ next_in r.span.at (told r) (left r.bytes.now r.span) → texted (read_of bs) ≡ Err fault
  ended_at fault e = rest_by (Err fault) e

  at_last : seen_next {E = ArchiveFault} (Ok None) ≡ next_in r.span.at (told r) (left r.bytes.now r.span) → Ok text ≡ texted (read_of bs)
  at_last e = ap Ok (sym (append-nil text)) ∙ sym (rest_by (Ok None) e)

  pub finished : (o : Option ArchivedPlan) → o ≡ None → seen_next {E = ArchiveFault} (Ok o) ≡ next_in r.span.at (told r) (left r.bytes.now r.span) → Ok text ≡ texted (read_of bs)
  finished o is e =
      at_last (subst (λ q. seen_next {E = ArchiveFault} (Ok q) ≡ next_in r.span.at (told r) (left r.bytes.now r.span)) is e)

  -- a plan is behind the reader, and its text is written
  went_on : (p : ArchivedPlan) (t : Reader) (more : List ℕ) → seen_next {E = ArchiveFault} (Ok (Some p)) ≡ next_in r.span.at (told r) (left r.bytes.now r.span) → t ≡ stepped {E = ArchiveFault} r (Ok (Some p)) → more ≡ text ++ plan_text (plan_seen p) → WrittenSoFar bs d t more
  went_on p t more h after new =
      let k : told r + 1 ≡ r.plans + 1 = ap (λ m. m + 1) (told_is bs d r written.so) in
      let s : Span = behind bs r.span in
      let place : behind r.bytes.now r.span ≡ s = ap (λ xs. behind xs r.span) written.so.bytes in
      let m : length bs - r.plans - 1 ≡ length bs - (r.plans + 1) = omega arith in
      let j : suc r.plans ≡ r.plans + 1 = omega arith in
      let there : t ≡ record { bytes = r.bytes; span = s; plans = r.plans + 1 } = after ∙ (λ i. record { bytes = r.bytes; span = place i; plans = k i }) in
      let due = left bs r.span in
      record {
        so = goes_on bs d r written.so (Some p) t refl h after;
        rest =
            rest_by (Ok (Some (plan_seen p))) h
            ∙ written_on text (plan_seen p) (plans_in (length bs - r.plans - 1) (r.span.at + (3 + size_of due)) (suc r.plans) (beyond due))
            ∙ (λ i. text_on (sym new i) (plans_in (m i) (r.span.at + (3 + size_of due)) (j i) (sym (left_past bs r.span s refl) i)))
            ∙ ap (λ u. text_on more (plans_in (length bs - u.plans) u.span.at u.plans (left bs u.span))) (sym there);
      }

  pub goes_by : (o : Option ArchivedPlan) (p : ArchivedPlan) (t : Reader) (more : List ℕ) → o ≡ Some p → seen_next {E = ArchiveFault} (Ok o) ≡ next_in r.span.at (told r) (left r.bytes.now r.span) → t ≡ stepped {E = ArchiveFault} r (Ok o) → more ≡ text ++ plan_text (plan_seen p) → WrittenSoFar bs d t more
  goes_by o p t more is h after new =
      went_on p t more (subst (λ q. seen_next {E = ArchiveFault} (Ok q) ≡ next_in r.span.at (told r) (left r.bytes.now r.span)) is h) (subst (λ q. t ≡ stepped {E = ArchiveFault} r (Ok q)) is after) new

read_fault : (x : Result Archive ArchiveFault) (fault : ArchiveFault) → texted x ≡ Err fault → x ≡ Err fault
read_fault (Ok a) fault e = absurd (cc)
read_fault (Err f) fault e = cc

-- a fault of the archive ends the writing
pub refused : {A : Type 0} (P : A → Type 0) (r : Result A UnpackFault) (bs : List ℕ) (fault : ArchiveFault) → IsErrAnd r (λ stopped. stopped ≡ Refused fault) → texted (read_of bs) ≡ Err fault → MatchResult r P (Stopped bs)
refused P (Ok a) bs fault h e = absurd h
refused P (Err stopped) bs fault h e = subst (Stopped bs) (sym h) (read_fault (read_of bs) fault e)
