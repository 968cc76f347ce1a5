use Rattle.std.proofs.Common.{◌≡◌, ◌+◌, Ok, Err, sym, ap, ◌∙◌, arith, rules}
use Rattle.std.proofs.lemmas.Result.{err_from_is_err_and}
use Rattle.encoding.specs.declared.faults.ArchiveFault.TheVariants.{AtField, InPlan}
use Rattle.encoding.specs.Read.{count_in}
use Rattle.encoding.proofs.Unframed.{map_fault_ok}
use Rattle.archive.specs.Fields.{passed, FieldRead}
use Rattle.archive.specs.Decoding.{seen_next}
use Rattle.archive.proofs.Mapped.{mapped}
use Rattle.archive.proofs.NextReads.{plan_or_last, field_read, plan_tagged, last_got, plan_fault, plan_read, last_fault, last_over, last_read}
use Rattle.archive.proofs.spans.Span.read_next.Goals as goal
use Rattle.archive.proofs.spans.Span.read_next.Goals.{In_ok-field, In_ok-map_err-in-Last}

-- a field was read, and the span is behind it
field_is_read : (c : In_ok-field) → FieldRead plan_or_last c.args.bytes c.args.self.now (Ok c.in_ok-field.field) × (c.read_field.new.self ≡ passed c.args.bytes.now c.args.self.now (Ok c.in_ok-field.field))
field_is_read c =
    field_read c.args.bytes c.args.self.now c.read_field.new.self c.args.self.now.at c.read_field.result c.map_err.result c.in_ok-field.field c.read_field.ensures.answer c.read_field.ensures.span (mapped (AtField c.args.self.now.at) c.read_field.result c.map_err.result (search rules)) c.in_ok-field.was

-- the last field tells the number of plans
count_is_told : (c : In_ok-map_err-in-Last) → count_in c.args.plans c.in-Last.content.now ≡ Ok tt
count_is_told c = sym c.count_in.ensures ∙ map_fault_ok (AtField c.args.self.now.at) c.count_in.result tt (sym (mapped (AtField c.args.self.now.at) c.count_in.result c.map_err-in-Last.result (search rules)) ∙ c.in_ok-map_err-in-Last.was)

pub returns-in_err-plan-in-Plan-clause-value : goal.returns-in_err-plan-in-Plan-clause-value
returns-in_err-plan-in-Plan-clause-value c =
    let r = field_is_read (goal.at.returns-in_err-plan-in-Plan-clause-value c).In_ok-field in
    let p = err_from_is_err_and c.from_residual-in_err-plan-in-Plan.result c.from_residual-in_err-plan-in-Plan.ensures.1 in
    ap seen_next (p.1 ∙ ap Err p.2) ∙
    plan_fault c.args.bytes.now c.args.self.now c.args.plans r.0.0 (plan_tagged c.args.bytes c.args.self.now _ c.in-Plan.field-0 r.0 c.in-Plan.is) c.read_field.new.self.at (ap (λ t. t.at) r.1) c.read_plan.result c.in_err-plan-in-Plan.field-0.0 c.read_plan.ensures.value (sym (mapped (InPlan c.args.self.now.at (c.args.plans + 1)) c.read_plan.result c.map_err-in-Plan.result (search rules)) ∙ c.in_err-plan-in-Plan.was)

pub returns-in_ok-plan-in-Plan-clause-value : goal.returns-in_ok-plan-in-Plan-clause-value
returns-in_ok-plan-in-Plan-clause-value c =
    let r = field_is_read (goal.at.returns-in_ok-plan-in-Plan-clause-value c).In_ok-field in
    let ok = map_fault_ok (InPlan c.args.self.now.at (c.args.plans + 1)) c.read_plan.result c.in_ok-plan-in-Plan.plan (sym (mapped (InPlan c.args.self.now.at (c.args.plans + 1)) c.read_plan.result c.map_err-in-Plan.result (search rules)) ∙ c.in_ok-plan-in-Plan.was) in
    plan_read c.args.bytes.now c.args.self.now c.args.plans r.0.0 (plan_tagged c.args.bytes c.args.self.now _ c.in-Plan.field-0 r.0 c.in-Plan.is) c.read_field.new.self.at (ap (λ t. t.at) r.1) c.read_plan.result c.in_ok-plan-in-Plan.plan c.read_plan.ensures.value ok

pub returns-in_err-map_err-in-Last-clause-value : goal.returns-in_err-map_err-in-Last-clause-value
returns-in_err-map_err-in-Last-clause-value c =
    let r = field_is_read (goal.at.returns-in_err-map_err-in-Last-clause-value c).In_ok-field in
    let last = last_got c.args.bytes c.args.self.now _ c.in-Last.content r.0 c.in-Last.is in
    let p = err_from_is_err_and c.from_residual-in_err-map_err-in-Last.result c.from_residual-in_err-map_err-in-Last.ensures.1 in
    ap seen_next (p.1 ∙ ap Err p.2) ∙
    last_fault c.args.bytes.now c.args.self.now c.args.plans r.0.0 last.0 c.in-Last.content.now last.1 c.count_in.result c.in_err-map_err-in-Last.field-0.0 c.count_in.ensures (sym (mapped (AtField c.args.self.now.at) c.count_in.result c.map_err-in-Last.result (search rules)) ∙ c.in_err-map_err-in-Last.was)

pub returns-then-self-min-clause-value : goal.returns-then-self-min-clause-value
returns-then-self-min-clause-value c =
    let at = goal.at.returns-then-self-min-clause-value c in
    let r = field_is_read at.In_ok-field in
    let last = last_got c.args.bytes c.args.self.now _ c.in-Last.content r.0 c.in-Last.is in
    last_over c.args.bytes.now c.args.self.now c.args.plans r.0.0 last.0 c.in-Last.content.now last.1 (count_is_told at.In_ok-map_err-in-Last) c.read_field.new.self r.1 (omega (arith, c.if-self-min.true))

pub returns-else-self-min-clause-value : goal.returns-else-self-min-clause-value
returns-else-self-min-clause-value c =
    let at = goal.at.returns-else-self-min-clause-value c in
    let r = field_is_read at.In_ok-field in
    let last = last_got c.args.bytes c.args.self.now _ c.in-Last.content r.0 c.in-Last.is in
    last_read c.args.bytes.now c.args.self.now c.args.plans r.0.0 last.0 c.in-Last.content.now last.1 (count_is_told at.In_ok-map_err-in-Last) c.read_field.new.self r.1 (omega (arith, c.if-self-min.false))
