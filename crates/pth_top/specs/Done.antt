-- What a command that was done gives.
use Rattle.std.specs.Prelude.{ℕ, List, Option, Some, None, Result, Ok, Err, option_map, string_bytes}
use Rattle.command_words.specs.Names.{tmp_of}
use Rattle.pth_outside.specs.Files.{FileMap, put_at}
use Rattle.pth_top.specs.declared.answer.Answer.{Answer}
use Rattle.pth_top.specs.declared.answer.NewFile.{NewFile}

-- a file: its name and its bytes
pub record NewFileData : Type 0 where
  pub name : List ℕ
  pub bytes : List ℕ

-- a new file as plain data
abbrev pub new_file_data : NewFile → NewFileData
new_file_data file = record { name = string_bytes file.name; bytes = file.bytes.items }

-- a status, a text, and at most one new file
pub record Done : Type 0 where
  pub status : ℕ
  pub text : List ℕ
  pub file : Option NewFileData

-- a status and a text, and no file
abbrev pub said : ℕ → List ℕ → Done
said status text = record { status = status; text = text; file = None }

-- what an answer says
abbrev pub done_of : Answer → Done
done_of answer = record { status = answer.status; text = string_bytes answer.text; file = option_map new_file_data answer.file }

-- what was found, or what the refusal says
abbrev pub or_refused : {A : Type 0} → Result A Answer → Result A Done
or_refused (Ok x) = Ok x
or_refused (Err answer) = Err (done_of answer)

-- the files with a new one, and with nothing at the name that it was written under
abbrev pub with_new : NewFileData → FileMap → FileMap
with_new file files = put_at (put_at files file.name (Some file.bytes)) (tmp_of file.name) None

-- the files with the new one, if there is one
abbrev pub with_file : Option NewFileData → FileMap → FileMap
with_file None files = files
with_file (Some file) files = with_new file files
