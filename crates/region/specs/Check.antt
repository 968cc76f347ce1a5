-- What check answers: the first thing that is wrong with a list of rows, pass by pass.
use Rattle.std.specs.Prelude.{ℕ, zero, suc, Bool, true, false, cond, not, ◌&&◌, List, length, pos, Some, None, Ok, Err, Option, Result, slice_index_or}
use Rattle.algebra.specs.Members.{any}
use Rattle.algebra.specs.Parity.{odd}
use Rattle.plane.specs.declared.halfsegment.Halfsegment.{Halfsegment}
use Rattle.plane.specs.Points.{in_range, same_point}
use Rattle.plane.specs.Rows.{same_row, twin, segment_of, comes_before}
use Rattle.plane.specs.Meeting.{improper}
use Rattle.region.specs.declared.refusals.RowFault.{RowFault}
use Rattle.region.specs.declared.refusals.RowFault.TheVariants.{OutOfRange, NoLength}
use Rattle.region.specs.declared.refusals.CheckRefusal.{CheckRefusal}
use Rattle.region.specs.declared.refusals.CheckRefusal.TheVariants.{BadRow, Unsorted, NoTwin, Improper, Unclosed}
use Rattle.region.specs.Plans.{degree}

-- the numbers that the refusals go by
abbrev pub fault_number : RowFault → ℕ
fault_number OutOfRange = 1
fault_number NoLength = 2

abbrev pub check_number : CheckRefusal → ℕ
check_number (BadRow i fault) = fault_number fault
check_number (Unsorted i) = 7
check_number (NoTwin i) = 8
check_number (Improper i) = 4
check_number (Unclosed v) = 9

-- the first place below n at which the test holds
abbrev pub first : (ℕ → Bool) → ℕ → Option ℕ
first test zero = None
first test (suc n) = elim (first test n) [ Some i ↦ Some i | None ↦ cond (test n) (Some n) None ]

-- the row at a place, which is one of the list's
abbrev pub no_row : Halfsegment
no_row = record { dominating = record { x = pos 0; y = pos 0 }; far = record { x = pos 0; y = pos 0 } }

abbrev pub row : List Halfsegment → ℕ → Halfsegment
row rows i = slice_index_or rows i no_row

-- 1 comes before 2 in each row
abbrev pub row_fault : Halfsegment → Result Unit RowFault
row_fault h =
    cond (in_range h.dominating && in_range h.far) (cond (same_point h.dominating h.far) (Err NoLength) (Ok tt)) (Err OutOfRange)

abbrev pub faulty : Result Unit RowFault → Bool
faulty (Ok _) = false
faulty (Err f) = true

-- the row does not come after the one before it
abbrev pub misplaced : List Halfsegment → ℕ → Bool
misplaced rows zero = false
misplaced rows (suc i) = not (comes_before (row rows i) (row rows (suc i)))

-- the row is one of the list's
abbrev pub stands : List Halfsegment → Halfsegment → Bool
stands rows h = any (λ g. same_row g h) rows

abbrev pub twinless : List Halfsegment → ℕ → Bool
twinless rows i = not (stands rows (twin (row rows i)))

-- its segment meets that of some row of the list improperly
abbrev pub crowded : List Halfsegment → ℕ → Bool
crowded rows i = any (λ g. improper (segment_of (row rows i)) (segment_of g)) rows

abbrev pub uneven : List Halfsegment → ℕ → Bool
uneven rows i = odd (degree rows (row rows i).dominating)

-- the answer of one pass, by the first place that it finds
abbrev pub refused_at : Option ℕ → (ℕ → CheckRefusal) → Result Unit CheckRefusal
refused_at None refusal = Ok tt
refused_at (Some i) refusal = Err (refusal i)

abbrev pub placed : ℕ → Result Unit RowFault → Result Unit CheckRefusal
placed i (Ok _) = Ok tt
placed i (Err f) = Err (BadRow i f)

abbrev pub each_answer : List Halfsegment → Result Unit CheckRefusal
each_answer rows =
    elim (first (λ i. faulty (row_fault (row rows i))) (length rows)) [ None ↦ Ok tt | Some i ↦ placed i (row_fault (row rows i)) ]

abbrev pub order_answer : List Halfsegment → Result Unit CheckRefusal
order_answer rows = refused_at (first (misplaced rows) (length rows)) Unsorted

abbrev pub twins_answer : List Halfsegment → Result Unit CheckRefusal
twins_answer rows = refused_at (first (twinless rows) (length rows)) NoTwin

abbrev pub meetings_answer : List Halfsegment → Result Unit CheckRefusal
meetings_answer rows = refused_at (first (crowded rows) (length rows)) Improper

abbrev pub corners_answer : List Halfsegment → Result Unit CheckRefusal
corners_answer rows = refused_at (first (uneven rows) (length rows)) (λ i. Unclosed (row rows i).dominating)

-- a pass is made where those before it found nothing
abbrev pub and_then : Result Unit CheckRefusal → Result Unit CheckRefusal → Result Unit CheckRefusal
and_then (Ok _) next = next
and_then (Err refusal) next = Err refusal

abbrev pub check_of : List Halfsegment → Result Unit CheckRefusal
check_of rows =
    and_then (each_answer rows) (and_then (order_answer rows) (and_then (twins_answer rows) (and_then (meetings_answer rows) (corners_answer rows))))
