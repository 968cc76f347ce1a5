-- From step to step of packing: what a plan that was read, added or refused says of the whole text.
use Rattle.std.proofs.Common.{◌≡◌, ℕ, suc, List, [], ◌∷◌, Some, None, Ok, Err, Option, Result, sym, ap, ◌∙◌, subst, Bor}
use Rattle.std.specs.Global.{Vec}
use Rattle.std.specs.Result.{IsErrAnd}
use Rattle.plane.specs.declared.halfsegment.Halfsegment.{Halfsegment}
use Rattle.encoding.specs.declared.dates.Date.{Date}
use Rattle.encoding.specs.Format.{Plan, Archive, encoded}
use Rattle.encoding.specs.Read.{and_then}
use Rattle.archive.specs.Writing.{Holds}
use Rattle.archivetext.specs.declared.faults.PackFault.{PackFault}
use Rattle.archivetext.specs.declared.faults.PackError.{PackError}
use Rattle.archivetext.specs.declared.faults.PackError.TheVariants.{AtLine, OutOfMemory}
use Rattle.archivetext.specs.declared.splitting.Lines.{Lines}
use Rattle.archivetext.specs.declared.packing.PlanLines.{PlanLines}
use Rattle.archivetext.specs.declared.growing.Growing.{Growing}
use Rattle.archivetext.specs.Pack.{title_of_line, with_plan, rows_on, archive_of}
use Rattle.archivetext.specs.Packing.{Packed, Split, left, number, plans_after, RowsRead, PlanRead, Added}
use Rattle.archivetext.proofs.Steps.{some_pieces, plans_title}

-- what `?` hands on
pub handed : {A : Type 0} (r : Result A PackError) (error : PackError) → IsErrAnd r (λ e. e ≡ error) → r ≡ Err error
handed (Ok a) error is = absurd is
handed (Err e) error is = ap Err is

pub read_as : (s : Lines) (found other : Option (PlanLines × Lines)) → PlanRead s (Ok found) → found ≡ other → PlanRead s (Ok other)
read_as s found other read is = subst (λ o. PlanRead s (Ok o)) is read

pub split_some : (s : Lines) (r : Option (Bor (List ℕ) × Lines)) (line : Bor (List ℕ)) (t : Lines) → Split s r → r ≡ Some (line, t) → Split s (Some (line, t))
split_some s r line t split is = subst (Split s) is split

pub rows_refused : (s : Lines) (fault : PackFault) (error : PackError) → error ≡ AtLine fault → ((start : ℕ) (title : List ℕ) (done : List Plan) → rows_on start title (number s) [] done (left s) ≡ Err fault) → RowsRead s (Err error)
rows_refused s fault error e h = subst (λ x. RowsRead s (Err x)) (sym e) h

pub plans_refused : (s : Lines) (fault : PackFault) (error : PackError) → error ≡ AtLine fault → ((done : List Plan) → plans_after (number s) done (left s) ≡ Err fault) → PlanRead s (Err error)
plans_refused s fault error e h = subst (λ x. PlanRead s (Err x)) (sym e) h

-- behind a title
module _ (s t : Lines) (l title : List ℕ) (cut : left s ≡ l ∷ left t) (next : number t ≡ suc (number s)) (is : title_of_line l ≡ Some title) where
  begins : (done : List Plan) → plans_after (number s) done (left s) ≡ rows_on (number s) title (number t) [] done (left t)
  begins done = plans_title l (left s) (left t) cut (some_pieces t.rest.now) (number s) done title is ∙ ap (λ n. rows_on (number s) title n [] done (left t)) (sym next)

  pub plan_refused : (error : PackError) → RowsRead t (Err error) → PlanRead s (Err error)
  plan_refused (AtLine fault) r = λ done. begins done ∙ r (number s) title done
  plan_refused OutOfMemory r = tt

  pub plan_read : (rows : Vec Halfsegment) (u : Lines) → RowsRead t (Ok (rows, u)) → (n : ℕ) → n ≡ number s → (done : List Plan) → plans_after (number s) done (left s) ≡ and_then (with_plan n done record { title = title; rows = rows.items }) (λ more. plans_after (number u) more (left u))
  plan_read rows u r n e done =
      begins done ∙ r.2 (number s) title done ∙ ap (λ k. and_then (with_plan k done record { title = title; rows = rows.items }) (λ more. plans_after (number u) more (left u))) (sym e)

-- the archive holds the plans that were read, and the whole text stands for what is read behind them
abbrev pub Going : List ℕ → Lines → Growing → Type 0
Going text s g =
    (date : Date) × (done : List Plan) × (archive_of text ≡ and_then (plans_after (number s) done (left s)) (λ plans. Ok record { date = date; plans = plans })) × Holds record { date = date; plans = done } g.archive g.bytes.items

module _ (text : List ℕ) (s : Lines) (g : Growing) (going : Going text s g) where
  abbrev dated : Result (List Plan) PackFault → Result Archive PackFault
  dated r = and_then r (λ plans. Ok record { date = going.0; plans = plans })

  module _ (p : PlanLines) (t : Lines) (read : PlanRead s (Ok (Some (p, t)))) where
    abbrev onward : Result (List Plan) PackFault → Result (List Plan) PackFault
    onward r = and_then r (λ more. plans_after (number t) more (left t))

    pub refused : (error : PackError) → Added g p (Err error) → Packed text (Err error)
    refused (AtLine fault) added = going.2 ∙ ap dated (read.2 going.1 ∙ ap onward (added _ going.3))
    refused OutOfMemory added = tt

    pub goes_on : (h : Growing) → Added g p (Ok h) → Going text t h
    goes_on h added =
        let a = added _ going.3 in
        (going.0, a.0, going.2 ∙ ap dated (read.2 going.1 ∙ ap onward a.1), a.2)

  pub finished : PlanRead s (Ok None) → (v : Vec ℕ) → ((a : Archive) → Holds a g.archive g.bytes.items → v.items ≡ encoded a) → Packed text (Ok v)
  finished read v closed =
      (record { date = going.0; plans = going.1 }, going.2 ∙ ap dated (read going.1), closed _ going.3)
