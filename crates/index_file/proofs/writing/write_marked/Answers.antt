use Rattle.std.proofs.Common.{length}
use Rattle.std.specs.Prelude.{drop}
use Rattle.build_outcome.specs.Validity.{IsMark}
use Rattle.index_text.specs.Text.{IsIndex}
use Rattle.index_file.specs.Encoded.{marked}
use Rattle.index_file.proofs.Written.{appended_index, on_ok-both}
use Rattle.index_file.proofs.writing.write_marked.Goals as goal

pub returns-else-is_err-clause-index : goal.returns-else-is_err-clause-index
returns-else-is_err-clause-index c =
    let x = c.args.index.now.index in
    let mark = c.args.mark in
    let old = c.args.out.now.items in
    let new = c.put-written.new.out.items in
    on_ok-both c.put-written.result _ (IsMark mark) (IsIndex (drop (length old) new) (marked x mark) c.args.index.now.enc)
    (λ is fits. appended_index old new x mark c.args.index.now.enc is c.put-written.ensures.valid fits) c.put-written.ensures.ok
    c.put-written.ensures.fits
