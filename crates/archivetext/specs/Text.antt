-- An archive as text: a line with the date, then for each plan a line with its title and a line for each row.
use Rattle.std.specs.Prelude.{ℕ, ◌+◌, ◌/◌, ◌%◌, List, [], ◌∷◌, ◌++◌, Some, None, Ok, Err, codes, decimal, Option}
use Rattle.std.specs.List.{flat_map}
use Rattle.std.specs.Fmt.{signed_decimal}
use Rattle.plane.specs.declared.halfsegment.Halfsegment.{Halfsegment}
use Rattle.region.specs.declared.refusals.CheckRefusal.{CheckRefusal}
use Rattle.plantext.specs.Lines.{named}
use Rattle.encoding.specs.declared.dates.Date.{Date}
use Rattle.encoding.specs.declared.faults.ArchiveFault.{ArchiveFault}
use Rattle.encoding.specs.Faults.{fault_number, fault_place, fault_plan, fault_check}
use Rattle.encoding.specs.Format.{Plan, Archive}
use Rattle.encoding.specs.Read.{read_of}

-- each line ends in a line feed
abbrev pub line : List ℕ → List ℕ
line bs = bs ++ (10 ∷ [])

-- dominating x and y, far x and y, with single spaces between them
abbrev pub row_words : Halfsegment → List ℕ
row_words h =
    signed_decimal h.dominating.x ++ (codes " " ++ (signed_decimal h.dominating.y ++ (codes " " ++ (signed_decimal h.far.x ++ (codes " " ++ signed_decimal h.far.y)))))

abbrev pub row_line : Halfsegment → List ℕ
row_line h = line (row_words h)

abbrev pub title_line : List ℕ → List ℕ
title_line title = line (codes "plan " ++ title)

abbrev pub plan_text : Plan → List ℕ
plan_text p = title_line p.title ++ flat_map row_line p.rows

-- the last two and the last four decimal digits of a number
abbrev pub two_digits : ℕ → List ℕ
two_digits n = (48 + n / 10 % 10) ∷ (48 + n % 10) ∷ []

abbrev pub four_digits : ℕ → List ℕ
four_digits n = two_digits (n / 100) ++ two_digits n

abbrev pub date_words : Date → List ℕ
date_words d = codes "date " ++ (four_digits d.year ++ (codes "-" ++ (two_digits d.month ++ (codes "-" ++ two_digits d.day))))

abbrev pub text_of : Archive → List ℕ
text_of a = line (date_words a.date) ++ flat_map plan_text a.plans

-- what check found wrong, if that is the fault: a row's place or a corner
abbrev pub named_inside : Option CheckRefusal → List ℕ
named_inside None = []
named_inside (Some refusal) = named refusal

-- the line that tells why an archive is refused
abbrev pub told_fault : ArchiveFault → List ℕ
told_fault f =
    codes "refused " ++ (decimal (fault_number f) ++ (codes " place " ++ (decimal (fault_place f) ++ (codes " plan " ++ (decimal (fault_plan f) ++ named_inside (fault_check f))))))

-- what bytes hold, as text: the archive's text, or the line that tells why they are none
abbrev pub unpacked : List ℕ → List ℕ
unpacked bs = elim (read_of bs) [ Ok a ↦ text_of a | Err f ↦ line (told_fault f) ]
