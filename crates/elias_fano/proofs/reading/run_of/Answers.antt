use Rattle.std.proofs.Common.{ℕ, ◌++◌, List, refl, ap, ◌∙◌, arith}
use Rattle.elias_fano.specs.Reading.{words_in}
use Rattle.std.proofs.lemmas.Bool.{false≢true}
use Rattle.elias_fano.proofs.FormLemmas.{run_at-short, run_at-padding, run_at-ok, some_words}
use Rattle.elias_fano.proofs.ShortLemmas.{run_short}
use Rattle.elias_fano.proofs.reading.run_of.Goals as goal

pub returns-then-bytes-count-clause-bits : goal.returns-then-bytes-count-clause-bits
returns-then-bytes-count-clause-bits c = rw c.form_fault.ensures
    (run_at-short c.args.at c.args.len c.div_ceil-count.result c.args.bytes.now (omega (arith, c.div_ceil-count.ensures)) c.if-bytes-count.true)

pub overflow_sub-at : goal.overflow_sub-at
overflow_sub-at c = omega (
  arith,
  some_words c.args.len c.div_ceil-count.result c.args.bytes.now c.append_words.new.words.items (omega (arith, c.div_ceil-count.ensures))
      (c.in_ok-append_words.ensures.ok
      ∙ ap (λ (ws : List ℕ). ws ++ words_in c.div_ceil-count.result c.args.bytes.now) c.new-words.ensures.items)
      (λ p. false≢true (c.in-None.ensures.some.1 p)),
)

pub returns-in-None-clause-bits : goal.returns-in-None-clause-bits
returns-in-None-clause-bits c =
    rw c.form_fault-in-None.ensures (run_at-padding c.args.at c.args.len c.div_ceil-count.result c.args.bytes.now c.append_words.new.words.items
    (omega (arith, c.div_ceil-count.ensures)) c.if-bytes-count.false (λ i. omega (arith, c.type_inv.bytes i)) (c.in_ok-append_words.ensures.ok
    ∙ ap (λ (ws : List ℕ). ws ++ words_in c.div_ceil-count.result c.args.bytes.now) c.new-words.ensures.items)
    (λ p. false≢true (c.in-None.ensures.some.1 p)))

pub returns-in-Some-clause-bits : goal.returns-in-Some-clause-bits
returns-in-Some-clause-bits c =
    run_at-ok c.args.at c.args.len c.div_ceil-count.result c.args.bytes.now c.append_words.new.words.items c.in-Some.bits
    (omega (arith, c.div_ceil-count.ensures)) c.if-bytes-count.false (c.in_ok-append_words.ensures.ok
    ∙ ap (λ (ws : List ℕ). ws ++ words_in c.div_ceil-count.result c.args.bytes.now) c.new-words.ensures.items)
    (c.in-Some.ensures.some.0 refl) c.in-Some.ensures.value

pub returns-in_err-append_words-clause-memory : goal.returns-in_err-append_words-clause-memory
returns-in_err-append_words-clause-memory c = λ lacks short.
    omega (arith, (run_short c.args.at c.args.len short.0 c.args.bytes.now short.1).1, c.if-bytes-count.false, c.div_ceil-count.ensures)
