use Rattle.std.proofs.Common.{◌≡◌, ℕ, ◌≤◌, List, Bool, length, take, Ok, sym, ap, ◌∙◌, arith}
use Rattle.bit_vector.specs.Bits.{ones}
use Rattle.elias_fano.specs.Values.{values_of}
use Rattle.std.proofs.lemmas.Bool.{both_ways}
use Rattle.std.proofs.lemmas.List.{take_all}
use Rattle.elias_fano.proofs.FormLemmas.{checked-count, checked-order, checked-last, checked-ok}
use Rattle.elias_fano.proofs.reading.check.Goals as goal

all_ones : (bs : List Bool) (n r : ℕ) → length bs ≤ n → r ≡ ones (take n bs) → r ≡ ones bs
all_ones bs n r le e = e ∙ ap (λ (cs : List Bool). ones cs) (take_all n bs le)

pub returns-then-rank1-count : goal.returns-then-rank1-count
returns-then-rank1-count c =
    let n = all_ones c.args.high c.len-all.result c.rank1.result (omega (arith, c.len-all.ensures.value, ap length c.bits.ensures)) c.rank1.ensures in
    rw c.form_fault.ensures (checked-count c.args.at c.args.high_at c.args.count c.args.last c.args.width c.args.low c.args.high
    (λ e. c.if-rank1-count.true (n ∙ e)))

pub returns-then-not-do_rise : goal.returns-then-not-do_rise
returns-then-not-do_rise c =
    let n = all_ones c.args.high c.len-all.result c.rank1.result (omega (arith, c.len-all.ensures.value, ap length c.bits.ensures)) c.rank1.ensures in
    rw c.form_fault-then-not-do_rise.ensures (checked-order c.args.at c.args.high_at c.args.count c.args.last c.args.width c.args.low c.args.high (sym n
    ∙ c.if-rank1-count.false) (sym c.do_rise.ensures ∙ c.if-not-do_rise.true))

pub returns-then-not-do_end : goal.returns-then-not-do_end
returns-then-not-do_end c =
    let n = all_ones c.args.high c.len-all.result c.rank1.result (omega (arith, c.len-all.ensures.value, ap length c.bits.ensures)) c.rank1.ensures in
    rw c.form_fault-then-not-do_end.ensures (checked-last c.args.at c.args.high_at c.args.count c.args.last c.args.width c.args.low c.args.high (sym n
    ∙ c.if-rank1-count.false) (sym c.do_rise.ensures ∙ c.if-not-do_rise.false)
    (λ e. both_ways c.do_end.result c.if-not-do_end.true (c.do_end.ensures.1 e)))

pub returns : goal.returns
returns c =
    let n = all_ones c.args.high c.len-all.result c.rank1.result (omega (arith, c.len-all.ensures.value, ap length c.bits.ensures)) c.rank1.ensures in
    let r : c.from_parts.result ≡ values_of c.args.width c.args.low c.args.high = c.from_parts.ensures in
    checked-ok c.args.at c.args.high_at c.args.count c.args.last c.args.width c.args.low c.args.high (sym n ∙ c.if-rank1-count.false) (sym c.do_rise.ensures
    ∙ c.if-not-do_rise.false) (c.do_end.ensures.0 c.if-not-do_end.false)
    ∙ ap (λ (vs : List ℕ). Ok vs) (sym r)
