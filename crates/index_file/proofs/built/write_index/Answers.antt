use Rattle.std.proofs.Common.{length}
use Rattle.std.specs.Prelude.{drop}
use Rattle.build_outcome.specs.Validity.{IsValidIndex}
use Rattle.index_text.specs.Text.{IsIndex}
use Rattle.index_file.proofs.Written.{on_ok-both}
use Rattle.index_file.proofs.BuiltWritten.{appended_built}
use Rattle.index_file.proofs.built.write_index.Goals as goal

pub returns-else-is_err-clause-index : goal.returns-else-is_err-clause-index
returns-else-is_err-clause-index c =
    let x = c.args.built.now in
    let old = c.args.out.now.items in
    let new = c.put_built-written.new.out.items in
    on_ok-both c.put_built-written.result _ (IsValidIndex x) (IsIndex (drop (length old) new) x c.args.enc)
    (λ is valid. appended_built old new x c.args.enc is valid) c.put_built-written.ensures.ok c.put_built-written.ensures.valid
