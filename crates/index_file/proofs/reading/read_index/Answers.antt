use Rattle.std.proofs.Common.{sym, ap, subst, ◌∙◌, arith}
use Rattle.std.specs.Prelude.{Ok}
use Rattle.index_text.specs.Text.{IsIndex}
use Rattle.index_text.proofs.CallerLemmas.{index_only}
use Rattle.index_file.proofs.Whole.{read_is, kept_is, no_fault}
use Rattle.index_file.proofs.reading.read_index.Goals as goal

pub from_held-requires : goal.from_held-requires
from_held-requires c =
    kept_is c.args.bytes.now c.in-Ok.held (λ i. omega (arith, c.type_inv.bytes i)) c.in-Ok.ensures.value c.in-Ok.ensures.held

pub returns-in-Ok-clause-found : goal.returns-in-Ok-clause-found
returns-in-Ok-clause-found c =
    let is = read_is c.args.bytes.now c.in-Ok.held (λ i. omega (arith, c.type_inv.bytes i)) c.in-Ok.ensures.value in
    subst (λ e. IsIndex c.args.bytes.now e.index e.enc) (sym c.from_held.ensures) is

pub returns-in-Ok-clause-only : goal.returns-in-Ok-clause-only
returns-in-Ok-clause-only c = λ x enc is.
    sym (index_only c.args.bytes.now x enc is) ∙ c.in-Ok.ensures.value ∙ ap (λ e. Ok (e.index, e.enc)) (sym c.from_held.ensures)

pub returns-in-Err-clause-only : goal.returns-in-Err-clause-only
returns-in-Err-clause-only c = λ x enc is. no_fault c.args.bytes.now x enc c.in-Err.fault is c.in-Err.ensures.value
