-- What packing a text answers, and what its steps leave of the text and of the archive.
use Rattle.std.specs.Prelude.{◌≡◌, ℕ, suc, ◌+◌, ◌<◌, ◌≤◌, true, false, List, [], ◌∷◌, length, take, Some, None, Ok, Err, Option, Result}
use Rattle.std.specs.Borrow.{Bor}
use Rattle.std.specs.Global.{Vec}
use Rattle.plane.specs.declared.halfsegment.Halfsegment.{Halfsegment}
use Rattle.plantext.specs.Text.{pieces}
use Rattle.encoding.specs.declared.dates.Date.{Date}
use Rattle.encoding.specs.Dates.{valid_date}
use Rattle.encoding.specs.Format.{Plan, Archive, encoded}
use Rattle.encoding.specs.Read.{and_then}
use Rattle.archive.specs.Writing.{Holds}
use Rattle.archivetext.specs.declared.faults.PackFault.{PackFault}
use Rattle.archivetext.specs.declared.faults.PackError.{PackError}
use Rattle.archivetext.specs.declared.faults.PackError.TheVariants.{AtLine, OutOfMemory}
use Rattle.archivetext.specs.declared.faults.LineFault.TheVariants.{NoSuchDate, NotAPlan}
use Rattle.archivetext.specs.declared.splitting.Lines.{Lines}
use Rattle.archivetext.specs.declared.packing.PlanLines.{PlanLines}
use Rattle.archivetext.specs.declared.growing.Growing.{Growing}
use Rattle.archivetext.specs.Pack.{at_line, at_end, title_of_line, with_plan, rows_on, dated_on, lines_on, archive_of}

-- the bytes are the encoding of the archive that the text stands for; or the text has that fault
abbrev pub Packed : List ℕ → Result (Vec ℕ) PackError → Type 0
Packed text (Ok v) = (a : Archive) × (archive_of text ≡ Ok a) × (v.items ≡ encoded a)
Packed text (Err (AtLine fault)) = archive_of text ≡ Err fault
Packed text (Err OutOfMemory) = Unit {0}

-- the lines that are left to read, with the piece behind the last line feed
abbrev pub left : Lines → List (List ℕ)
left s = pieces 10 s.rest.now

-- the number of the next line, from 1
abbrev pub number : Lines → ℕ
number s = s.read + 1

-- the first line and the lines behind it; or no line feed is left
abbrev pub Split : Lines → Option (Bor (List ℕ) × Lines) → Type 0
Split s None = left s ≡ s.rest.now ∷ []
Split s (Some (line, t)) = (left s ≡ line.now ∷ left t) × (number t ≡ suc (number s)) × (length t.rest.now < length s.rest.now)

-- the title of a line that has one
abbrev pub Titled : List ℕ → Option (Bor (List ℕ)) → Type 0
Titled l None = title_of_line l ≡ None
Titled l (Some title) = title_of_line l ≡ Some title.now

-- behind plans that are done: a title, or the end
abbrev pub plans_after : ℕ → List Plan → List (List ℕ) → Result (List Plan) PackFault
plans_after n done [] = Ok done
plans_after n done (l ∷ []) = at_end n l (Ok done)
plans_after n done (l ∷ m ∷ ls) = elim (title_of_line l) [ Some title ↦ rows_on n title (suc n) [] done (m ∷ ls) | None ↦ at_line n NotAPlan ]

-- the first line is a date, and what is read behind it
abbrev pub DateRead : Lines → Result (Date × Lines) PackFault → Type 0
DateRead s (Ok (date, t)) = (lines_on (left s) ≡ dated_on date (left t)) × (number t ≡ suc (number s))
DateRead s (Err fault) = lines_on (left s) ≡ Err fault

-- the rows of a plan whose title stands before them, up to the next title or the end
abbrev pub RowsRead : Lines → Result (Vec Halfsegment × Lines) PackError → Type 0
RowsRead s (Ok (rows, t)) =
    (length rows.items ≤ 4000) × (length t.rest.now ≤ length s.rest.now) × ((start : ℕ) (title : List ℕ) (done : List Plan) → rows_on start title (number s) [] done (left s) ≡ and_then (with_plan start done record { title = title; rows = rows.items }) (λ more. plans_after (number t) more (left t)))
RowsRead s (Err (AtLine fault)) = (start : ℕ) (title : List ℕ) (done : List Plan) → rows_on start title (number s) [] done (left s) ≡ Err fault
RowsRead s (Err OutOfMemory) = Unit {0}

abbrev pub plan_of : PlanLines → Plan
plan_of p = record { title = p.title.now; rows = p.rows.items }

-- the next plan and the lines behind it; or no plan is left
abbrev pub PlanRead : Lines → Result (Option (PlanLines × Lines)) PackError → Type 0
PlanRead s (Ok (Some (p, t))) =
    (length p.rows.items ≤ 4000) × (length t.rest.now < length s.rest.now) × ((done : List Plan) → plans_after (number s) done (left s) ≡ and_then (with_plan p.line done (plan_of p)) (λ more. plans_after (number t) more (left t)))
PlanRead s (Ok None) = (done : List Plan) → plans_after (number s) done (left s) ≡ Ok done
PlanRead s (Err (AtLine fault)) = (done : List Plan) → plans_after (number s) done (left s) ≡ Err fault
PlanRead s (Err OutOfMemory) = Unit {0}

-- that many bytes stand behind the others
abbrev pub Lengthened : {E : Type 0} → Vec ℕ → ℕ → Result Unit E → Vec ℕ → Type 0
Lengthened old more (Ok _) new = (length new.items ≡ length old.items + more) × (take (length old.items) new.items ≡ old.items)
Lengthened old more (Err failed) new = Unit {0}

-- an archive that is begun in memory of its own
abbrev pub Begun : Date → Result Growing PackError → Type 0
Begun date (Ok g) = (valid_date date ≡ true) × Holds record { date = date; plans = [] } g.archive g.bytes.items
Begun date (Err (AtLine fault)) = (valid_date date ≡ false) × (fault ≡ record { line = 1; why = NoSuchDate })
Begun date (Err OutOfMemory) = Unit {0}

-- a plan is added to those that the archive holds, or what stands against it
abbrev pub Added : Growing → PlanLines → Result Growing PackError → Type 0
Added g p (Ok h) =
    (a : Archive) → Holds a g.archive g.bytes.items → (more : List Plan) × (with_plan p.line a.plans (plan_of p) ≡ Ok more) × Holds record { date = a.date; plans = more } h.archive h.bytes.items
Added g p (Err (AtLine fault)) = (a : Archive) → Holds a g.archive g.bytes.items → with_plan p.line a.plans (plan_of p) ≡ Err fault
Added g p (Err OutOfMemory) = Unit {0}

-- the archive that was held, as bytes
abbrev pub Closed : {E : Type 0} → Growing → Result (Vec ℕ) E → Type 0
Closed g (Ok v) = (a : Archive) → Holds a g.archive g.bytes.items → v.items ≡ encoded a
Closed g (Err failed) = Unit {0}
