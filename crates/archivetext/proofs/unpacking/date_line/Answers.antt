use Rattle.std.proofs.Common.{ap, ◌∙◌}
use Rattle.std.specs.Fmt.{styled_decimal}
use Rattle.archivetext.proofs.DateLines.{date_text}
use Rattle.archivetext.proofs.unpacking.date_line.Goals as goal

pub returns : goal.returns
returns c =
    ap (λ v. v.items) c.into_bytes.ensures.value ∙ c.in_ok-line.ensures.ok ∙ date_text c.args.date _ _ c.requires (ap (λ s. styled_decimal s c.args.date.month) c.laid_out.ensures) (ap (λ s. styled_decimal s c.args.date.day) c.laid_out-2.ensures)
