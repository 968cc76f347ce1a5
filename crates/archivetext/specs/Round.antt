-- The text of an archive stands for that archive.
use Rattle.std.specs.Prelude.{◌≡◌, ℕ, List, Ok}
use Rattle.encoding.specs.Format.{Archive, Sound, encoded}
use Rattle.archivetext.specs.Text.{text_of, unpacked}
use Rattle.archivetext.specs.Pack.{archive_of}

-- what may stand in an archive is not lost in its text; and an archive whose text is packed again gives the same bytes
pub record RoundTrip : Type 0 where
  pub back : (a : Archive) → Sound a → archive_of (text_of a) ≡ Ok a
  pub again : (a : Archive) → Sound a → archive_of (unpacked (encoded a)) ≡ Ok a
  pub sound : (text : List ℕ) (a : Archive) → archive_of text ≡ Ok a → Sound a
