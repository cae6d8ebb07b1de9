use Rattle.std.proofs.Common.{◌≡◌, ℕ, ◌++◌, List, length, drop, ap, ◌∙◌, arith}
use Rattle.bit_vector.specs.Bits.{packed, bits_of_each}
use Rattle.pilot_codecs.specs.Spelling.{digits_of}
use Rattle.pilot_codecs.proofs.CompactLemmas.{compact_made}
use Rattle.pilot_codecs.proofs.HeadLemmas.{appended}
use Rattle.pilot_codecs.proofs.compact.append_values.Goals as goal

pub returns-clause-compact : goal.returns-clause-compact
returns-clause-compact c =
    let more = packed (bits_of_each c.digits-width.result c.args.values.now) in
    let new : c.append_fields.new.words.items ≡ c.args.words.now.items ++ more = c.in_ok-append_fields.ensures.ok
    ∙ ap (λ (ws : List ℕ). ws ++ more) c.in_ok-reserve.ensures.items in
    (compact_made c.args.values.now c.digits-width.result (drop (length c.args.words.now.items) c.append_fields.new.words.items) c.requires
    (omega (arith, c.greatest_of.ensures)) (c.digits-width.ensures.value ∙ ap (λ (x : ℕ). digits_of x) c.greatest_of.ensures)
    (appended c.args.words.now.items more c.append_fields.new.words.items new)).0

pub returns-clause-values : goal.returns-clause-values
returns-clause-values c =
    let more = packed (bits_of_each c.digits-width.result c.args.values.now) in
    let new : c.append_fields.new.words.items ≡ c.args.words.now.items ++ more = c.in_ok-append_fields.ensures.ok
    ∙ ap (λ (ws : List ℕ). ws ++ more) c.in_ok-reserve.ensures.items in
    (compact_made c.args.values.now c.digits-width.result (drop (length c.args.words.now.items) c.append_fields.new.words.items) c.requires
    (omega (arith, c.greatest_of.ensures)) (c.digits-width.ensures.value ∙ ap (λ (x : ℕ). digits_of x) c.greatest_of.ensures)
    (appended c.args.words.now.items more c.append_fields.new.words.items new)).1
