use Rattle.std.proofs.Common.{◌≡◌, ◌+◌, Ok, Err, sym, ap, ◌∙◌, rules}
use Rattle.std.proofs.lemmas.Result.{err_from_is_err_and}
use Rattle.storage.specs.Bytes.{rows_of}
use Rattle.encoding.specs.declared.faults.PlanFault.TheVariants.{InField}
use Rattle.encoding.specs.Format.{title_tag, rows_tag}
use Rattle.encoding.specs.Read.{size_of, title_in, rows_in}
use Rattle.encoding.proofs.Unframed.{map_fault_ok}
use Rattle.archive.specs.Fields.{left, seen_plan, with_content}
use Rattle.archive.proofs.Mapped.{mapped}
use Rattle.archive.proofs.PlanReads.{seen_ok, rows_ok, moved_ok, parts_ok, rows_fault, left_over, unsound, sound}
use Rattle.archive.proofs.spans.Span.read_plan.Goals as goal
use Rattle.archive.proofs.spans.Span.read_plan.Goals.{In_ok-title, In_ok-rows}

-- the title was read, from the front of the plan's content, and the span is behind it
title_is_read :
    (c : In_ok-title) →
    (c.enter-inside.result.span.now ≡ record { at = c.args.from; end = c.args.to }) ×
    (with_content title_tag title_in (left c.args.bytes.now c.enter-inside.result.span.now) ≡ Ok c.in_ok-title.title.now) ×
    (c.read_title.new.self ≡ record { at = c.enter-inside.result.span.now.at + (3 + size_of (left c.args.bytes.now c.enter-inside.result.span.now)); end = c.enter-inside.result.span.now.end }) ×
    (c.read_title.result ≡ Ok c.in_ok-title.title)
title_is_read c =
    let ok = map_fault_ok (InField c.args.from) c.read_title.result c.in_ok-title.title (sym (mapped (InField c.args.from) c.read_title.result c.map_err.result (search rules)) ∙ c.in_ok-title.was) in (
      λ i. record { at = c.enter-inside.ensures.at i; end = c.enter-inside.ensures.end i },
      seen_ok c.read_title.result c.in_ok-title.title _ ok c.read_title.ensures.value,
      moved_ok c.args.bytes.now c.enter-inside.result.span.now c.read_title.new.self c.read_title.result c.in_ok-title.title ok c.read_title.ensures.moved,
      ok,
    )

-- and so were the rows
rows_are_read :
    (c : In_ok-rows) →
    (with_content rows_tag rows_in (left c.args.bytes.now c.read_title.new.self) ≡ Ok (rows_of c.in_ok-rows.rows.bytes.now)) ×
    (c.read_rows.new.self ≡ record { at = c.read_title.new.self.at + (3 + size_of (left c.args.bytes.now c.read_title.new.self)); end = c.read_title.new.self.end }) ×
    (c.read_rows.result ≡ Ok c.in_ok-rows.rows)
rows_are_read c =
    let ok = map_fault_ok (InField c.read_title.new.self.at) c.read_rows.result c.in_ok-rows.rows (sym (mapped (InField c.read_title.new.self.at) c.read_rows.result c.map_err-2.result (search rules)) ∙ c.in_ok-rows.was) in (
      rows_ok c.read_rows.result c.in_ok-rows.rows _ ok c.read_rows.ensures.value,
      moved_ok c.args.bytes.now c.read_title.new.self c.read_rows.new.self c.read_rows.result c.in_ok-rows.rows ok c.read_rows.ensures.moved,
      ok,
    )

pub returns-in_err-rows-clause-value : goal.returns-in_err-rows-clause-value
returns-in_err-rows-clause-value c =
    let t = title_is_read (goal.at.returns-in_err-rows-clause-value c).In_ok-title in
    let p = err_from_is_err_and c.from_residual-in_err-rows.result c.from_residual-in_err-rows.ensures.1 in
    ap seen_plan (p.1 ∙ ap Err p.2) ∙
    rows_fault c.args.bytes.now c.args.from c.args.to c.enter-inside.result.span.now c.read_title.new.self c.in_ok-title.title.now t.0 t.1 t.2 c.read_rows.result c.in_err-rows.field-0.0 c.read_rows.ensures.value (sym (mapped (InField c.read_title.new.self.at) c.read_rows.result c.map_err-2.result (search rules)) ∙ c.in_err-rows.was)

pub returns-then-place-to-clause-value : goal.returns-then-place-to-clause-value
returns-then-place-to-clause-value c =
    let at = goal.at.returns-then-place-to-clause-value c in
    let t = title_is_read at.In_ok-title in
    let r = rows_are_read at.In_ok-rows in
    left_over c.args.bytes.now c.args.from c.args.to c.enter-inside.result.span.now c.read_title.new.self c.in_ok-title.title.now t.0 t.1 t.2 (rows_of c.in_ok-rows.rows.bytes.now) c.read_rows.new.self r.0 r.1 c.requires c.if-place-to.true

pub returns-in_err-check-clause-value : goal.returns-in_err-check-clause-value
returns-in_err-check-clause-value c =
    let at = goal.at.returns-in_err-check-clause-value c in
    let t = title_is_read at.In_ok-title in
    let r = rows_are_read at.In_ok-rows in
    let p = err_from_is_err_and c.from_residual-in_err-check.result c.from_residual-in_err-check.ensures.1 in
    ap seen_plan (p.1 ∙ ap Err p.2) ∙
    unsound c.args.bytes.now c.args.from c.args.to c.enter-inside.result.span.now c.read_title.new.self c.in_ok-title.title.now t.0 t.1 t.2 (rows_of c.in_ok-rows.rows.bytes.now) c.read_rows.new.self r.0 r.1 c.requires c.if-place-to.false _ c.in_err-check.ensures.answer

pub returns-clause-value : goal.returns-clause-value
returns-clause-value c =
    let at = goal.at.returns-clause-value c in
    let t = title_is_read at.In_ok-title in
    let r = rows_are_read at.In_ok-rows in
    sound c.args.bytes.now c.args.from c.args.to c.enter-inside.result.span.now c.read_title.new.self c.in_ok-title.title.now t.0 t.1 t.2 (rows_of c.in_ok-rows.rows.bytes.now) c.read_rows.new.self r.0 r.1 c.requires c.if-place-to.false c.in_ok-check.ensures.answer

pub returns-clause-parts : goal.returns-clause-parts
returns-clause-parts c =
    let at = goal.at.returns-clause-parts c in
    let t = title_is_read at.In_ok-title in
    let r = rows_are_read at.In_ok-rows in
    parts_ok c.args.bytes c.args.from c.enter-inside.result.span.now c.read_title.new.self c.read_title.result c.read_rows.result c.in_ok-title.title c.in_ok-rows.rows c.enter-inside.ensures.at t.1 t.2 t.3 r.2 c.read_title.ensures.part c.read_rows.ensures.part
