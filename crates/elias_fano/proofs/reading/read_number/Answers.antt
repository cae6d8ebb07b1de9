use Rattle.elias_fano.proofs.FormLemmas.{number_at-short, number_at-ok}
use Rattle.std.proofs.Common.{◌≡◌, Err, sym, ap, ◌∙◌}
use Rattle.elias_fano.specs.declared.fault.ReadErr.TheVariants as errors
use Rattle.elias_fano.specs.Reading.{fault}
use Rattle.elias_fano.proofs.reading.read_number.Goals as goal

pub returns-then-bytes-lt8-clause-value : goal.returns-then-bytes-lt8-clause-value
returns-then-bytes-lt8-clause-value c = rw c.form_fault.ensures (number_at-short c.args.at c.args.bytes.now c.if-bytes-lt8.true)

pub returns-clause-value : goal.returns-clause-value
returns-clause-value c = number_at-ok c.args.at c.args.bytes.now c.number_in.result c.if-bytes-lt8.false c.number_in.ensures

pub returns-then-bytes-lt8-clause-memory : goal.returns-then-bytes-lt8-clause-memory
returns-then-bytes-lt8-clause-memory c = λ lacks.
    let both : Err (errors.Form (fault c.args.at 1)) ≡ Err errors.NoMemory = sym (ap Err c.form_fault.ensures) ∙ lacks in absurd cc

pub returns-clause-memory : goal.returns-clause-memory
returns-clause-memory c = λ lacks. absurd cc
