use Rattle.std.proofs.Common.{sym, ◌∙◌, ap₂}
use Rattle.plane.specs.Meeting.{improper}
use Rattle.plane.proofs.Meetings.{signs_tell}
use Rattle.plane.proofs.Steps.{drawable_parts}
use Rattle.plane.proofs.meeting.meet_improperly.Goals as goal

pub returns-clause-shared : goal.returns-clause-shared
returns-clause-shared c p q =
    let told = signs_tell c.args.l c.args.m (drawable_parts c.args.l p).ordered (drawable_parts c.args.m q).ordered in
    let e = c.is_improper_with.ensures ∙ ap₂ improper c.in-Some.ensures c.in-Some-new.ensures in
    (λ h. told.0 (sym e ∙ h), λ h. e ∙ told.1 h)
