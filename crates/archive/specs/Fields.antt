-- A field that is read: its tag, and its content as a part of the archive's own bytes.
use Rattle.std.specs.Prelude.{◌≡◌, ◌≢◌, ℕ, ◌+◌, ◌≤◌, Bool, List, length, Ok, Err, Result, MatchResult, ◌==◌, nat_eq}
use Rattle.std.specs.Borrow.{Bor}
use Rattle.std.specs.List.{between, list_any}
use Rattle.encoding.specs.declared.faults.FieldFault.{FieldFault}
use Rattle.encoding.specs.declared.faults.FieldFault.TheVariants.{Malformed}
use Rattle.plane.specs.declared.halfsegment.Halfsegment.{Halfsegment}
use Rattle.storage.specs.Bytes.{rows_of}
use Rattle.encoding.specs.Format.{Plan, date_tag, plan_tag, title_tag, rows_tag, last_tag}
use Rattle.encoding.specs.Read.{tag_of, size_of, content_of, framed, and_then}
use Rattle.archive.specs.declared.plans.ArchivedPlan.{ArchivedPlan}
use Rattle.archive.specs.declared.views.PlanView.{PlanView}
use Rattle.archive.specs.declared.spans.Span.{Span}
use Rattle.archive.specs.declared.fields.Tag.{Tag}
use Rattle.archive.specs.declared.fields.Tag.TheVariants as tag
use Rattle.archive.specs.declared.fields.Field.{Field}
use Rattle.archive.specs.declared.fields.Field.TheVariants as field

-- the byte that a tag is
abbrev pub tag_number : Tag → ℕ
tag_number tag.Date = date_tag
tag_number tag.Plan = plan_tag
tag_number tag.Title = title_tag
tag_number tag.Rows = rows_tag
tag_number tag.Last = last_tag

-- the byte is that tag, or no tag at all
abbrev pub Decodes : ℕ → Result Tag FieldFault → Type 0
Decodes byte r = MatchResult r (λ tag. tag_number tag ≡ byte) (λ fault. (fault ≡ Malformed) × ((tag : Tag) → tag_number tag ≢ byte))

-- whether the byte is one of the tags that may come
abbrev pub due_tag : List Tag → ℕ → Bool
due_tag due byte = list_any (λ tag. tag_number tag == byte) due

abbrev pub field_tag : Field → ℕ
field_tag (field.Date part) = date_tag
field_tag (field.Plan part) = plan_tag
field_tag (field.Title part) = title_tag
field_tag (field.Rows part) = rows_tag
field_tag (field.Last part) = last_tag

abbrev pub part_of : Field → Bor (List ℕ)
part_of (field.Date part) = part
part_of (field.Plan part) = part
part_of (field.Title part) = part
part_of (field.Rows part) = part
part_of (field.Last part) = part

-- what is left to read
abbrev pub left : List ℕ → Span → List ℕ
left bs s = between s.at s.end bs

-- p is the part of b of n bytes from the place `from`: not a copy, but the bytes of b themselves
pub record Part (b : Bor (List ℕ)) (from n : ℕ) (p : Bor (List ℕ)) : Type 0 where
  pub block : p.ref_ptr.0 ≡ b.ref_ptr.0
  pub place : p.ref_ptr.1 ≡ b.ref_ptr.1 + from
  pub bytes : p.now ≡ between from (from + n) b.now
  pub fits : from + n ≤ length b.now

abbrev pub FieldRead : List Tag → Bor (List ℕ) → Span → Result Field FieldFault → Type 0
FieldRead d b s (Ok f) =
    (framed (due_tag d) (left b.now s) ≡ Ok tt) × (field_tag f ≡ tag_of (left b.now s)) × Part b (s.at + 3) (size_of (left b.now s)) (part_of f)
FieldRead d b s (Err fault) = framed (due_tag d) (left b.now s) ≡ Err fault

-- behind a field that was read; a refusal leaves the span
abbrev pub passed : List ℕ → Span → Result Field FieldFault → Span
passed bs s (Ok f) = record { at = s.at + (3 + size_of (left bs s)); end = s.end }
passed bs s (Err fault) = s

-- a field with that tag is due, and what its content says
abbrev pub with_content : {A : Type 0} → ℕ → (List ℕ → Result A FieldFault) → List ℕ → Result A FieldFault
with_content tag meaning due = and_then (framed (nat_eq tag) due) (λ _. meaning (content_of due))

-- a field that was accepted is behind the span; in any case the end stays
abbrev pub Moved : {A E : Type 0} → List ℕ → Span → Span → Result A E → Type 0
Moved bs s t (Ok a) = t ≡ record { at = s.at + (3 + size_of (left bs s)); end = s.end }
Moved bs s t (Err fault) = t.end ≡ s.end

-- what stands behind the references of an answer
abbrev pub seen : {A E : Type 0} → Result (Bor A) E → Result A E
seen (Ok p) = Ok p.now
seen (Err fault) = Err fault

abbrev pub seen_rows : {E : Type 0} → Result PlanView E → Result (List Halfsegment) E
seen_rows (Ok view) = Ok (rows_of view.bytes.now)
seen_rows (Err fault) = Err fault

abbrev pub plan_seen : ArchivedPlan → Plan
plan_seen p = record { title = p.title.now; rows = rows_of p.rows.bytes.now }

abbrev pub seen_plan : {E : Type 0} → Result ArchivedPlan E → Result Plan E
seen_plan (Ok p) = Ok (plan_seen p)
seen_plan (Err fault) = Err fault

-- the title and the rows are parts of the archive's own bytes, behind the heads of their fields
abbrev pub ContentPart : {E : Type 0} → Bor (List ℕ) → ℕ → Result (Bor (List ℕ)) E → Type 0
ContentPart b from (Ok p) = Part b from (length p.now) p
ContentPart b from (Err fault) = Unit {0}

abbrev pub RowsPart : {E : Type 0} → Bor (List ℕ) → ℕ → Result PlanView E → Type 0
RowsPart b from (Ok view) = Part b from (length view.bytes.now) view.bytes
RowsPart b from (Err fault) = Unit {0}

abbrev pub Parts : Bor (List ℕ) → ℕ → ArchivedPlan → Type 0
Parts b from p =
    Part b (from + 3) (length p.title.now) p.title × Part b (from + 6 + length p.title.now) (length p.rows.bytes.now) p.rows.bytes

abbrev pub PlanParts : {E : Type 0} → Bor (List ℕ) → ℕ → Result ArchivedPlan E → Type 0
PlanParts b from (Ok p) = Parts b from p
PlanParts b from (Err fault) = Unit {0}
