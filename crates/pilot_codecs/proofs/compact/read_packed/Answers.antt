use Rattle.std.proofs.Common.{◌≡◌, ℕ, ◌*◌, ◌-◌, List, length, take, drop, refl, sym, ap, ◌∙◌, subst, arith}
use Rattle.std.proofs.lemmas.Bool.{false≢true}
use Rattle.bit_vector.specs.Bits.{bits_of, words_number, IsPacked}
use Rattle.elias_fano.proofs.CallerLemmas.{length-words_in}
use Rattle.pilot_codecs.specs.Spelling.{digits_of, greatest}
use Rattle.pilot_codecs.specs.Parts.{values_in, IsCompact}
use Rattle.pilot_codecs.proofs.CompactLemmas.{packed_at-short, packed_at-width, packed_at-padding, packed_at-ok}
use Rattle.pilot_codecs.proofs.HeadLemmas.{words_read}
use Rattle.pilot_codecs.proofs.ShortLaws.{packed_short}
use Rattle.pilot_codecs.proofs.compact.read_packed.Goals as goal

pub returns-then-bytes-size-clause-values : goal.returns-then-bytes-size-clause-values
returns-then-bytes-size-clause-values c =
    packed_at-short c.args.at c.args.count c.args.width c.div_ceil-size.result c.args.bytes.now (omega (
      arith,
      c.div_ceil-size.ensures,
      ap (λ (x : ℕ). c.args.count * x) c.from.ensures,
    )) c.if-bytes-size.true

pub is_width_of-requires-clause-room : goal.is_width_of-requires-clause-room
is_width_of-requires-clause-room c =
    let r = words_read c.args.count c.args.width c.from.result c.div_ceil-size.result c.len-start.result c.args.bytes.now c.args.words.now.items
    c.append_words.new.words.items c.deref.result.now c.from.ensures (omega (arith, c.div_ceil-size.ensures)) (omega (
      arith,
      c.len-start.ensures,
      c.args.words.now.ok.0,
    )) c.deref.ensures.value c.in_ok-append_words.ensures.ok in
    omega (arith, r.size_is, ap length r.read_is, length-words_in c.div_ceil-size.result c.args.bytes.now)

pub returns-then-not-is_width_of-clause-values : goal.returns-then-not-is_width_of-clause-values
returns-then-not-is_width_of-clause-values c =
    let r = words_read c.args.count c.args.width c.from.result c.div_ceil-size.result c.len-start.result c.args.bytes.now c.args.words.now.items
    c.append_words.new.words.items c.deref.result.now c.from.ensures (omega (arith, c.div_ceil-size.ensures)) (omega (
      arith,
      c.len-start.ensures,
      c.args.words.now.ok.0,
    )) c.deref.ensures.value c.in_ok-append_words.ensures.ok in
    let read = take (length c.deref.result.now - c.len-start.result) (drop c.len-start.result c.deref.result.now) in
    packed_at-width c.args.at c.args.count c.args.width c.div_ceil-size.result c.args.bytes.now read r.size_is c.if-bytes-size.false r.read_is
    (λ e. false≢true (c.if-not-is_width_of.ensures.1 e))

pub returns-then-not-is_packed-clause-values : goal.returns-then-not-is_packed-clause-values
returns-then-not-is_packed-clause-values c =
    let r = words_read c.args.count c.args.width c.from.result c.div_ceil-size.result c.len-start.result c.args.bytes.now c.args.words.now.items
    c.append_words.new.words.items c.deref.result.now c.from.ensures (omega (arith, c.div_ceil-size.ensures)) (omega (
      arith,
      c.len-start.ensures,
      c.args.words.now.ok.0,
    )) c.deref.ensures.value c.in_ok-append_words.ensures.ok in
    let read = take (length c.deref.result.now - c.len-start.result) (drop c.len-start.result c.deref.result.now) in
    let wide : c.args.count * c.args.width ≡ c.args.count * c.from.result = ap (λ (x : ℕ). c.args.count * x) (sym c.from.ensures) in
    packed_at-padding c.args.at c.args.count c.args.width c.div_ceil-size.result c.args.bytes.now read r.size_is c.if-bytes-size.false r.read_is
    (λ i. omega (arith, c.type_inv.bytes i)) (c.if-not-is_width_of.ensures.0 refl)
    (λ p. false≢true (c.if-not-is_packed.ensures.1 (subst (λ (k : ℕ). IsPacked read k) wide p)))

pub returns-clause-values : goal.returns-clause-values
returns-clause-values c =
    let count = c.args.count in
    let w = c.args.width in
    let r = words_read c.args.count c.args.width c.from.result c.div_ceil-size.result c.len-start.result c.args.bytes.now c.args.words.now.items
    c.append_words.new.words.items c.deref.result.now c.from.ensures (omega (arith, c.div_ceil-size.ensures)) (omega (
      arith,
      c.len-start.ensures,
      c.args.words.now.ok.0,
    )) c.deref.ensures.value c.in_ok-append_words.ensures.ok in
    let ws = drop (length c.args.words.now.items) c.append_words.new.words.items in
    let read = take (length c.deref.result.now - c.len-start.result) (drop c.len-start.result c.deref.result.now) in
    let same : read ≡ ws = r.read_is ∙ sym r.new_is in
    let wide : count * c.from.result ≡ count * w = ap (λ (x : ℕ). count * x) c.from.ensures in
    packed_at-ok c.args.at count w c.div_ceil-size.result c.args.bytes.now ws (bits_of (count * w) (words_number ws)) r.size_is c.if-bytes-size.false r.new_is
    (ap (λ (xs : List ℕ). digits_of (greatest (values_in count w xs))) (sym same) ∙ c.if-not-is_width_of.ensures.0 refl)
    (subst (λ (xs : List ℕ). IsPacked xs (count * w)) same (subst (λ (k : ℕ). IsPacked read k) wide (c.if-not-is_packed.ensures.0 refl))) refl

pub returns-clause-compact : goal.returns-clause-compact
returns-clause-compact c =
    let count = c.args.count in
    let w = c.args.width in
    let r = words_read c.args.count c.args.width c.from.result c.div_ceil-size.result c.len-start.result c.args.bytes.now c.args.words.now.items
    c.append_words.new.words.items c.deref.result.now c.from.ensures (omega (arith, c.div_ceil-size.ensures)) (omega (
      arith,
      c.len-start.ensures,
      c.args.words.now.ok.0,
    )) c.deref.ensures.value c.in_ok-append_words.ensures.ok in
    let read = take (length c.deref.result.now - c.len-start.result) (drop c.len-start.result c.deref.result.now) in
    let wide : count * c.from.result ≡ count * w = ap (λ (x : ℕ). count * x) c.from.ensures in
    let made : IsCompact count w read = record {
      few = c.requires.few;
      wide = sym (c.if-not-is_width_of.ensures.0 refl);
      packed_are = subst (λ (k : ℕ). IsPacked read k) wide (c.if-not-is_packed.ensures.0 refl);
    } in
    subst (λ (xs : List ℕ). IsCompact count w xs) (r.read_is ∙ sym r.new_is) made

pub returns-in_err-append_words-clause-memory : goal.returns-in_err-append_words-clause-memory
returns-in_err-append_words-clause-memory c = λ lacks short.
    let few = (packed_short c.args.at c.args.count c.args.width short.0 c.args.bytes.now short.1).1 in
    let wide : c.args.count * c.from.result ≡ c.args.count * c.args.width = ap (λ (x : ℕ). c.args.count * x) c.from.ensures in
    omega (arith, few, wide, c.if-bytes-size.false, c.div_ceil-size.ensures)
