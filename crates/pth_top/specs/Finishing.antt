-- What the files are where a new one was not put in its place.
use Rattle.std.specs.Prelude.{◌≡◌, Option, Some, None}
use Rattle.command_words.specs.Names.{tmp_of}
use Rattle.pth_outside.specs.Files.{FileMap}
use Rattle.pth_top.specs.Done.{NewFileData}
use Rattle.pth_top.specs.Ending.{ChangesOnly}

-- as before, but for the name that the new one was to be written under
abbrev pub KeepsBut : Option NewFileData → Option FileMap → Option FileMap → Type 0
KeepsBut None old new = new ≡ old
KeepsBut (Some file) old new = ChangesOnly (tmp_of file.name) old new
