-- What a part of a list is seen as.
use Rattle.std.specs.Prelude.{ℕ, List}
use Rattle.pilot_codecs.specs.declared.code.Code.{Code}
use Rattle.pilot_codecs.specs.declared.code.Code.TheVariants as codes
use Rattle.pilot_codecs.specs.declared.part.Part.{Part}
use Rattle.pilot_codecs.specs.declared.part.Part.TheVariants as parts

-- its values
abbrev pub values_of : Part → List ℕ
values_of (parts.Compact list) = list
values_of (parts.Parted list) = list
values_of (parts.Dict list) = list
values_of (parts.EliasFano list) = list

-- its code
abbrev pub code_of : Part → Code
code_of (parts.Compact list) = codes.Compact
code_of (parts.Parted list) = codes.Parted
code_of (parts.Dict list) = codes.Dict
code_of (parts.EliasFano list) = codes.EliasFano
