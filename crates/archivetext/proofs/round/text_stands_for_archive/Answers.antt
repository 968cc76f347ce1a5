use Rattle.archivetext.proofs.Backs.{back, again}
use Rattle.archivetext.proofs.Sounds.{sound}
use Rattle.archivetext.proofs.round.text_stands_for_archive.Goals as goal

pub returns : goal.returns
returns c = record { back = back; again = again; sound = sound }
