-- The bytes of an archive. A field is a tag, a length of two bytes and that many bytes; numbers go highest byte first.
use Rattle.std.specs.Prelude.{◌≡◌, ℕ, ◌/◌, ◌%◌, ◌≤◌, Bool, true, ◌&&◌, List, [], ◌∷◌, ◌++◌, length, nat_le}
use Rattle.std.specs.List.{AllByRecursion, list_all}
use Rattle.plane.specs.declared.halfsegment.Halfsegment.{Halfsegment}
use Rattle.storage.specs.Bytes.{row_bytes}
use Rattle.region.specs.Plans.{WellFormed, Closed}
use Rattle.encoding.specs.declared.dates.Date.{Date}
use Rattle.encoding.specs.Dates.{valid_date}

pub record Plan : Type 0 where
  pub title : List ℕ
  pub rows : List Halfsegment

pub record Archive : Type 0 where
  pub date : Date
  pub plans : List Plan

-- the tags: 01, 20, 21, 22 and 7F in hexadecimal
abbrev pub date_tag : ℕ
date_tag = 1

abbrev pub plan_tag : ℕ
plan_tag = 32

abbrev pub title_tag : ℕ
title_tag = 33

abbrev pub rows_tag : ℕ
rows_tag = 34

abbrev pub last_tag : ℕ
last_tag = 127

abbrev pub two_bytes : ℕ → List ℕ
two_bytes n = n / 256 ∷ n % 256 ∷ []

abbrev pub field : ℕ → List ℕ → List ℕ
field tag content = tag ∷ (two_bytes (length content) ++ content)

-- the date: the year in two bytes, the month, the day
abbrev pub date_field : Date → List ℕ
date_field d = field date_tag (two_bytes d.year ++ (d.month ∷ d.day ∷ []))

-- sixteen bytes for each row, as in a byte store
abbrev pub rows_content : List Halfsegment → List ℕ
rows_content [] = []
rows_content (h ∷ rows) = row_bytes h ++ rows_content rows

-- a plan: a field that holds the field of its title and the field of its rows
abbrev pub plan_field : Plan → List ℕ
plan_field p = field plan_tag (field title_tag p.title ++ field rows_tag (rows_content p.rows))

abbrev pub plan_fields : List Plan → List ℕ
plan_fields [] = []
plan_fields (p ∷ ps) = plan_field p ++ plan_fields ps

-- the last field tells the number of plans
abbrev pub last_field : ℕ → List ℕ
last_field plans = field last_tag (two_bytes plans)

-- the whole archive
abbrev pub encoded : Archive → List ℕ
encoded a = date_field a.date ++ (plan_fields a.plans ++ last_field (length a.plans))

-- a title: at most 40 bytes from 20 to 7E in hexadecimal
abbrev pub is_printable : ℕ → Bool
is_printable b = nat_le 32 b && nat_le b 126

abbrev pub printable : List ℕ → Bool
printable bs = list_all is_printable bs

abbrev pub valid_title : List ℕ → Bool
valid_title title = nat_le (length title) 40 && printable title

-- a plan that may stand in an archive
pub record SoundPlan (p : Plan) : Type 0 where
  pub title : valid_title p.title ≡ true
  pub well_formed : WellFormed p.rows
  pub closed : Closed p.rows
  pub few : length p.rows ≤ 4000

-- an archive that may be written
pub record Sound (a : Archive) : Type 0 where
  pub date : valid_date a.date ≡ true
  pub plans : AllByRecursion SoundPlan a.plans
  pub count : length a.plans ≤ 65535
