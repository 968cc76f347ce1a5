use Rattle.std.proofs.Common.{sym, ap, ◌∙◌, ◌&&◌, length, rules, tests}
use Rattle.std.proofs.lemmas.Bool.{le-leb}
use Rattle.std.proofs.lemmas.Iterator.{YieldsList-from_slice}
use Rattle.std.proofs.lemmas.Iterator.Search.{all_from_yields_List}
use Rattle.encoding.specs.Format.{is_printable, printable}
use Rattle.archive.proofs.writing.is_title.Goals as goal

pub returns-then-title-le-LONGEST_TITLE : goal.returns-then-title-le-LONGEST_TITLE
returns-then-title-le-LONGEST_TITLE c =
    all_from_yields_List is_printable c.all.new.self _ _ c.all.ensures.ran (YieldsList-from_slice c.args.title.now cc) (λ x b q k. search (rules, tests)) ∙
    ap (λ t. t && printable c.args.title.now) (sym (le-leb (length c.args.title.now) 40 c.if-title-le-LONGEST_TITLE.true))
