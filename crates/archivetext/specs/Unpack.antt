-- What unpacking leaves: the whole text of an archive, or why there is none.
use Rattle.std.specs.Prelude.{◌≡◌, ℕ, List, Ok, Err, Result}
use Rattle.encoding.specs.declared.faults.ArchiveFault.{ArchiveFault}
use Rattle.encoding.specs.Format.{Archive}
use Rattle.encoding.specs.Read.{read_of}
use Rattle.archivetext.specs.declared.unpacking.UnpackFault.{UnpackFault}
use Rattle.archivetext.specs.declared.unpacking.UnpackFault.TheVariants.{Refused, OutOfMemory}
use Rattle.archivetext.specs.Text.{text_of}

-- the text of what was read
abbrev pub texted : Result Archive ArchiveFault → Result (List ℕ) ArchiveFault
texted (Ok a) = Ok (text_of a)
texted (Err fault) = Err fault

-- why it was not written: the bytes are no archive's, or memory ran out
abbrev pub Stopped : List ℕ → UnpackFault → Type 0
Stopped bs (Refused fault) = read_of bs ≡ Err fault
Stopped bs (OutOfMemory error) = Unit {0}
