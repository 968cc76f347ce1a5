use Rattle.std.proofs.Common.{◌≡◌, ◌++◌, sym, ap, ◌∙◌, subst}
use Rattle.std.specs.List.{between, flat_map}
use Rattle.std.proofs.lemmas.List.{append_assoc}
use Rattle.storage.specs.Bytes.{rows_of}
use Rattle.archivetext.specs.Text.{row_line, title_line}
use Rattle.archivetext.proofs.Unpacks.{one_more, none_left}
use Rattle.archivetext.proofs.unpacking.push_plan.Goals as goal

pub loop-row-init : goal.loop-row-init
loop-row-init c =
    subst (λ left. c.push_title.new.text.items ++ flat_map row_line (between left.places.start left.places.end (rows_of left.source.now.bytes.now)) ≡ c.push_title.new.text.items ++ flat_map row_line (rows_of c.args.plan.rows.bytes.now)) (sym c.into_iter-row-iterator.ensures.into_iter_gives) (ap (λ rows. c.push_title.new.text.items ++ flat_map row_line rows) c.of-row-items.ensures.rows)

pub loop-row-preserved : goal.loop-row-preserved
loop-row-preserved c =
    one_more row_line c.loop-row.text.items _ _ c.in-Some.row _ _ c.loop-row.invariant c.in-Some.ensures.steps c.in_ok-push_row.ensures

pub returns : goal.returns
returns c =
    none_left row_line c.loop-row.text.items _ _ c.loop-row.invariant c.in-None.ensures.steps.0 ∙ ap (λ t. t ++ flat_map row_line (rows_of c.args.plan.rows.bytes.now)) c.in_ok-push_title.ensures ∙ append_assoc c.args.text.now.items (title_line c.args.plan.title.now) (flat_map row_line (rows_of c.args.plan.rows.bytes.now))
