use Rattle.std.proofs.Common.{Err, sym, ap, ◌∙◌, subst, arith}
use Rattle.std.proofs.lemmas.Result.{err_from_is_err_and}
use Rattle.archive.specs.Fields.{due_tag, FieldRead}
use Rattle.archive.proofs.DueTags.{none_due, due_is}
use Rattle.archive.proofs.Framing.{wrong_tag, no_content}
use Rattle.archive.proofs.spans.Span.read_field.Goals as goal

pub returns-in_err-tag-clause-answer : goal.returns-in_err-tag-clause-answer
returns-in_err-tag-clause-answer c =
    let no = c.in_err-tag.ensures in
    let p = err_from_is_err_and c.from_residual.result c.from_residual.ensures.1 in
    subst (FieldRead c.args.due.now c.args.bytes c.args.self.now) (sym (p.1 ∙ ap Err (p.2 ∙ no.0))) (wrong_tag c.args.bytes.now c.args.self.now.at c.args.self.now.end (due_tag c.args.due.now) (omega arith) (none_due c.args.due.now _ no.1))

pub returns-then-not-contains-clause-answer : goal.returns-then-not-contains-clause-answer
returns-then-not-contains-clause-answer c =
    wrong_tag c.args.bytes.now c.args.self.now.at c.args.self.now.end (due_tag c.args.due.now) (omega arith) (sym (due_is c.args.due.now c.in_ok-tag.tag _ c.in_ok-tag.ensures) ∙ sym c.if-not-contains.ensures.value)

pub returns-then-end-at-clause-answer : goal.returns-then-end-at-clause-answer
returns-then-end-at-clause-answer c =
    no_content c.args.bytes.now c.args.self.now.at c.args.self.now.end (due_tag c.args.due.now) (omega arith) (sym (due_is c.args.due.now c.in_ok-tag.tag _ c.in_ok-tag.ensures) ∙ sym c.if-not-contains.ensures.value) (omega arith) (omega arith)
