use Rattle.plane.proofs.Meetings.{signs_tell}
use Rattle.plane.proofs.meeting.signs_tell_meetings.Goals as goal

pub returns : goal.returns
returns c = signs_tell
