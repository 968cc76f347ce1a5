-- What begin, add and close answer and write, and what the bytes are after a chain of them.
use Rattle.std.specs.Prelude.{◌≡◌, ℕ, ◌+◌, ◌*◌, cond, ◌&&◌, List, [], ◌∷◌, ◌++◌, length, take, drop, Ok, Err, Result, nat_le, nat_lt}
use Rattle.plane.specs.declared.halfsegment.Halfsegment.{Halfsegment}
use Rattle.region.specs.Check.{check_of, check_number}
use Rattle.encoding.specs.declared.dates.Date.{Date}
use Rattle.encoding.specs.Dates.{valid_date}
use Rattle.encoding.specs.Format.{Archive, Sound, date_field, plan_fields, encoded, valid_title}
use Rattle.encoding.specs.Read.{read_of}
use Rattle.archive.specs.declared.states.OpenArchive.{OpenArchive}
use Rattle.archive.specs.declared.states.ClosedArchive.{ClosedArchive}
use Rattle.archive.specs.declared.states.BeginRefusal.{BeginRefusal}
use Rattle.archive.specs.declared.states.BeginRefusal.TheVariants.{NoSuchDate, NoRoom}
use Rattle.archive.specs.declared.states.AddRefusal.{AddRefusal}
use Rattle.archive.specs.declared.states.AddRefusal.TheVariants.{BadTitle, BadPlan, TooLarge}
use Rattle.archive.specs.declared.states.CloseRefusal.{CloseRefusal}

-- the numbers that the refusals go by
abbrev pub begin_number : BeginRefusal → ℕ
begin_number NoSuchDate = 17
begin_number NoRoom = 14

abbrev pub add_number : AddRefusal → ℕ
add_number BadTitle = 15
add_number (BadPlan refusal) = check_number refusal
add_number TooLarge = 14

abbrev pub close_number : CloseRefusal → ℕ
close_number f = 14

-- the bytes with `new` written over them from the place `at` on
abbrev pub patched : List ℕ → ℕ → List ℕ → List ℕ
patched bs at new = take at bs ++ (new ++ drop (at + length new) bs)

-- what an answer leaves: `new` is written where it is granted, and nothing where it is refused
abbrev pub written : {A E : Type 0} → Result A E → List ℕ → ℕ → List ℕ → List ℕ
written (Ok a) bs at new = patched bs at new
written (Err refusal) bs at new = bs

-- `room` bytes are lent to each call
abbrev pub begin_answer : Date → ℕ → Result OpenArchive BeginRefusal
begin_answer date room = cond (valid_date date) (cond (nat_le 7 room) (Ok record { len = 7; plans = 0 }) (Err NoRoom)) (Err NoSuchDate)

-- the bytes that a plan takes
abbrev pub plan_size : List ℕ → List Halfsegment → ℕ
plan_size title rows = 9 + length title + 16 * length rows

-- what stands against a plan: its title, then its rows, then their number, that of the plans, or the room
abbrev pub add_fault : OpenArchive → ℕ → List ℕ → List Halfsegment → Result Unit AddRefusal
add_fault o room title rows =
    cond (valid_title title) (elim (check_of rows) [
      | Err refusal ↦ Err (BadPlan refusal)
      | Ok _ ↦ cond (nat_le (length rows) 4000 && (nat_lt o.plans 65535 && nat_le (o.len + plan_size title rows) room)) (Ok tt) (Err TooLarge)
    ]) (Err BadTitle)

abbrev pub add_answer : OpenArchive → ℕ → List ℕ → List Halfsegment → Result OpenArchive (OpenArchive × AddRefusal)
add_answer o room title rows = elim (add_fault o room title rows) [
  | Ok _ ↦ Ok record { len = o.len + plan_size title rows; plans = o.plans + 1 }
  | Err refusal ↦ Err (o, refusal)
]

abbrev pub close_answer : OpenArchive → ℕ → Result ClosedArchive (OpenArchive × CloseRefusal)
close_answer o room = cond (nat_le (o.len + 5) room) (Ok record { len = o.len + 5 }) (Err (o, record {}))

-- the bytes up to the open archive's length are the fields of the date and of these plans, which may stand in an archive
pub record Holds (a : Archive) (o : OpenArchive) (bs : List ℕ) : Type 0 where
  pub bytes : take o.len bs ≡ date_field a.date ++ plan_fields a.plans
  pub size : o.len ≡ length (date_field a.date ++ plan_fields a.plans)
  pub count : o.plans ≡ length a.plans
  pub sound : Sound a

-- an archive that is begun holds its date and no plans
abbrev pub KeepsBegun : Date → Result OpenArchive BeginRefusal → List ℕ → Type 0
KeepsBegun date (Ok o) cs = Holds record { date = date; plans = [] } o cs
KeepsBegun date (Err refusal) cs = Unit {0}

-- one to which a plan is added holds that plan behind the others, if the bytes lent held those
abbrev pub KeepsAdded : OpenArchive → List ℕ → List ℕ → List Halfsegment → Result OpenArchive (OpenArchive × AddRefusal) → List ℕ → Type 0
KeepsAdded o bs title rows (Ok p) cs =
    (a : Archive) → Holds a o bs → Holds record { date = a.date; plans = a.plans ++ (record { title = title; rows = rows } ∷ []) } p cs
KeepsAdded o bs title rows (Err refusal) cs = Unit {0}

-- one that is closed is the whole encoding, and is read back
pub record Finished (a : Archive) (c : ClosedArchive) (cs : List ℕ) : Type 0 where
  pub bytes : take c.len cs ≡ encoded a
  pub sound : Sound a
  pub reads : read_of (take c.len cs) ≡ Ok a

abbrev pub KeepsClosed : OpenArchive → List ℕ → Result ClosedArchive (OpenArchive × CloseRefusal) → List ℕ → Type 0
KeepsClosed o bs (Ok c) cs = (a : Archive) → Holds a o bs → Finished a c cs
KeepsClosed o bs (Err refusal) cs = Unit {0}
