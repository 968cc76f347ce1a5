-- What a reader answers and where it then stands, and what reading a whole archive says of its bytes.
use Rattle.std.specs.Prelude.{◌≡◌, ℕ, ◌+◌, min, List, length, Some, None, Ok, Err, Option, Result}
use Rattle.std.specs.Borrow.{Bor}
use Rattle.encoding.specs.declared.dates.Date.{Date}
use Rattle.encoding.specs.declared.faults.ArchiveFault.{ArchiveFault}
use Rattle.encoding.specs.Format.{Plan, Archive, Sound, encoded, date_tag}
use Rattle.encoding.specs.Read.{size_of, at_field, date_in}
use Rattle.archive.specs.declared.spans.Span.{Span}
use Rattle.archive.specs.declared.plans.ArchivedPlan.{ArchivedPlan}
use Rattle.archive.specs.declared.decoding.Reader.{Reader}
use Rattle.archive.specs.declared.decoding.Contents.{Contents}
use Rattle.archive.specs.Fields.{left, with_content, plan_seen, Parts}

-- the plan behind the references of an answer
abbrev pub seen_next : {E : Type 0} → Result (Option ArchivedPlan) E → Result (Option Plan) E
seen_next (Ok None) = Ok None
seen_next (Ok (Some p)) = Ok (Some (plan_seen p))
seen_next (Err fault) = Err fault

-- its title and rows are parts of the archive's own bytes
abbrev pub NextParts : {E : Type 0} → Bor (List ℕ) → ℕ → Result (Option ArchivedPlan) E → Type 0
NextParts b from (Ok None) = Unit {0}
NextParts b from (Ok (Some p)) = Parts b from p
NextParts b from (Err fault) = Unit {0}

-- behind a field that begins at the span's place
abbrev pub behind : List ℕ → Span → Span
behind bs s = record { at = s.at + (3 + size_of (left bs s)); end = s.end }

abbrev pub NextMoved : {E : Type 0} → List ℕ → Span → Span → Result (Option ArchivedPlan) E → Type 0
NextMoved bs s t (Ok None) = t.end ≡ s.end
NextMoved bs s t (Ok (Some p)) = t ≡ behind bs s
NextMoved bs s t (Err fault) = t.end ≡ s.end

-- how many plans a reader has read; a count past its place, which no reader has, is read as its place
abbrev pub told : Reader → ℕ
told r = min r.plans r.span.at

-- a reader that was opened stands behind the date
abbrev pub Opened : Bor (List ℕ) → Result (Date × Reader) ArchiveFault → Type 0
Opened b (Ok (date, r)) =
    (at_field 0 (with_content date_tag date_in b.now) ≡ Ok date) × (r ≡ record { bytes = b; span = record { at = 3 + size_of b.now; end = length b.now }; plans = 0 })
Opened b (Err fault) = at_field 0 (with_content date_tag date_in b.now) ≡ Err fault

-- a plan that was read lies behind the reader
abbrev pub stepped : {E : Type 0} → Reader → Result (Option ArchivedPlan) E → Reader
stepped r (Ok None) = r
stepped r (Ok (Some p)) = record { bytes = r.bytes; span = behind r.bytes.now r.span; plans = told r + 1 }
stepped r (Err fault) = r

abbrev pub summed : Result Archive ArchiveFault → Result Contents ArchiveFault
summed (Ok a) = Ok record { date = a.date; plans = length a.plans }
summed (Err fault) = Err fault

-- the bytes are the encoding of an archive with that date and that many plans; or they are the encoding of none
abbrev pub Accepted : List ℕ → Result Contents ArchiveFault → Type 0
Accepted bs (Ok c) = (a : Archive) × (bs ≡ encoded a) × Sound a × (c ≡ record { date = a.date; plans = length a.plans })
Accepted bs (Err fault) = (a : Archive) → Sound a → ¬ (bs ≡ encoded a)
