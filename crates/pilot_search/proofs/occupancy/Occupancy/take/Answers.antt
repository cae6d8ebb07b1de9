use Rattle.std.proofs.Common.{◌≡◌, ◌<◌, ◌+◌, false, length, ap, sym, ◌∙◌, arith}
use Rattle.std.specs.FinSet.{contains, insert, len}
use Rattle.pthash.specs.Search.{set_of}
use Rattle.pthash.specs.PositionLaws.{contains-set_of_below, insert_known, len-set_of, len-insert_new}
use Rattle.word_bits.specs.Bits.{is_set, set_bit}
use Rattle.word_bits.specs.Laws.{length-set_bit}
use Rattle.pilot_search.specs.Table.{Table}
use Rattle.pilot_search.proofs.Words.{written_back, set_of-set_bit}
use Rattle.pilot_search.proofs.occupancy.Occupancy.take.Goals as goal

pub overflow_add-self : goal.overflow_add-self
overflow_add-self c =
    omega (arith, c.self.invariant.counted, len-set_of c.self.inside.size (is_set c.self.inside.words.items 0), c.self.invariant.bound)

pub invariant_of-self : goal.invariant_of-self
invariant_of-self c =
    let words = c.self.inside.words.items in
    let size = ap (λ (t : Table). t.size) c.self.view_is in
    let below : c.args.position < c.self.inside.size = omega (arith, size) in
    let written = c.set_bit.ensures ∙ ap (λ ws. set_bit ws 0 c.args.position) c.deref_mut.ensures.value in
    let same : length c.set_bit.new.words ≡ length words = ap length written ∙ length-set_bit words 0 c.args.position in
    let back = written_back c.self.inside.words.len words c.set_bit.new.words same (omega arith) ∙ written in
    let new : contains (set_of c.self.inside.size (is_set words 0)) c.args.position ≡ false =
    contains-set_of_below c.self.inside.size (is_set words 0) c.args.position below
    ∙ ap (λ ws. is_set ws 0 c.args.position) (sym c.deref.ensures.value) ∙ sym c.is_set.ensures ∙ c.if-not-is_set.true in
    record {
      positive = c.self.invariant.positive;
      bound = c.self.invariant.bound;
      room = omega (arith, ap length back, length-set_bit words 0 c.args.position, c.self.invariant.room);
      counted =
          ap (λ n. n + 1) c.self.invariant.counted
          ∙ sym (len-insert_new (set_of c.self.inside.size (is_set words 0)) c.args.position new)
          ∙ ap len (sym (set_of-set_bit words c.self.inside.size c.args.position below c.self.invariant.room))
          ∙ ap (λ ws. len (set_of c.self.inside.size (is_set ws 0))) (sym back);
    }

pub returns-then-not-is_set-clause-taken : goal.returns-then-not-is_set-clause-taken
returns-then-not-is_set-clause-taken c =
    let words = c.self.inside.words.items in
    let size = ap (λ (t : Table). t.size) c.self.view_is in
    let below : c.args.position < c.self.inside.size = omega (arith, size) in
    let written = c.set_bit.ensures ∙ ap (λ ws. set_bit ws 0 c.args.position) c.deref_mut.ensures.value in
    let same : length c.set_bit.new.words ≡ length words = ap length written ∙ length-set_bit words 0 c.args.position in
    ap (λ ws. set_of c.self.inside.size (is_set ws 0)) (written_back c.self.inside.words.len words c.set_bit.new.words same (omega arith) ∙ written)
    ∙ set_of-set_bit words c.self.inside.size c.args.position below c.self.invariant.room
    ∙ ap (λ (t : Table). insert t.taken c.args.position) c.self.view_is

pub returns-else-not-is_set-clause-taken : goal.returns-else-not-is_set-clause-taken
returns-else-not-is_set-clause-taken c =
    let size = ap (λ (t : Table). t.size) c.self.view_is in
    let below : c.args.position < c.self.inside.size = omega (arith, size) in
    sym (insert_known c.args.self.now.taken c.args.position
    (ap (λ (t : Table). contains t.taken c.args.position) (sym c.self.view_is)
    ∙ contains-set_of_below c.self.inside.size (is_set c.self.inside.words.items 0) c.args.position below
    ∙ ap (λ ws. is_set ws 0 c.args.position) (sym c.deref.ensures.value) ∙ sym c.is_set.ensures ∙ c.if-not-is_set.false))
