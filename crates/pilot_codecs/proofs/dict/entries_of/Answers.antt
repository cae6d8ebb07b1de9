use Rattle.std.proofs.Common.{◌≡◌, ℕ, ◌++◌, List, length, refl, ap, ◌∙◌, inl, inr, arith}
use Rattle.elias_fano.specs.Reading.{words_in}
use Rattle.pilot_codecs.specs.Reading.{rise_len}
use Rattle.pilot_codecs.proofs.DictForms.{entries_at-short, entries_at-order, entries_at-rest}
use Rattle.pilot_codecs.proofs.DictLemmas.{rise_len-le}
use Rattle.elias_fano.proofs.CallerLemmas.{length-words_in}
use Rattle.pilot_codecs.proofs.ShortLaws.{tells_fault, tells_if, entries_short}
use Rattle.pilot_codecs.proofs.dict.entries_of.Goals as goal

pub returns-then-bytes-size-clause-values : goal.returns-then-bytes-size-clause-values
returns-then-bytes-size-clause-values c = entries_at-short c.args.at c.args.count c.args.size c.args.bytes.now c.if-bytes-size.true

pub returns-then-risen-size-clause-values : goal.returns-then-risen-size-clause-values
returns-then-risen-size-clause-values c =
    let ds = c.append_words.new.words.items in
    let risen : c.rise-risen.result ≡ rise_len ds = c.rise-risen.ensures.value ∙ ap (λ (xs : List ℕ). rise_len xs) c.deref.ensures.value in
    entries_at-order c.args.at c.args.count c.args.size c.rise-risen.result c.args.bytes.now ds c.if-bytes-size.false (c.in_ok-append_words.ensures.ok
    ∙ ap (λ (ws : List ℕ). ws ++ words_in c.args.size c.args.bytes.now) c.new-entries.ensures.items) risen c.if-risen-size.true

pub indexed_of-requires-clause-fewer : goal.indexed_of-requires-clause-fewer
indexed_of-requires-clause-fewer c =
    omega (
      arith,
      ap length (c.in_ok-append_words.ensures.ok
          ∙ ap (λ (ws : List ℕ). ws ++ words_in c.args.size c.args.bytes.now) c.new-entries.ensures.items),
      length-words_in c.args.size c.args.bytes.now,
      c.requires.fewer,
    )

pub indexed_of-requires-clause-rising : goal.indexed_of-requires-clause-rising
indexed_of-requires-clause-rising c =
    let ds = c.append_words.new.words.items in
    let risen : c.rise-risen.result ≡ rise_len ds = c.rise-risen.ensures.value ∙ ap (λ (xs : List ℕ). rise_len xs) c.deref.ensures.value in
    let size = ap length (c.in_ok-append_words.ensures.ok ∙ ap (λ (ws : List ℕ). ws ++ words_in c.args.size c.args.bytes.now) c.new-entries.ensures.items)
    ∙ length-words_in c.args.size c.args.bytes.now in
    omega (arith, risen, size, c.if-risen-size.false, rise_len-le ds)

pub returns-clause-values : goal.returns-clause-values
returns-clause-values c =
    let ds = c.append_words.new.words.items in
    let risen : c.rise-risen.result ≡ rise_len ds = c.rise-risen.ensures.value ∙ ap (λ (xs : List ℕ). rise_len xs) c.deref.ensures.value in
    rw (entries_at-rest c.args.at c.args.count c.args.size c.args.bytes.now ds c.if-bytes-size.false (c.in_ok-append_words.ensures.ok
    ∙ ap (λ (ws : List ℕ). ws ++ words_in c.args.size c.args.bytes.now) c.new-entries.ensures.items) (omega (arith, risen, c.if-risen-size.false)))
    c.indexed_of.ensures.values

pub returns-then-bytes-size-clause-short : goal.returns-then-bytes-size-clause-short
returns-then-bytes-size-clause-short c =
    tells_fault c.args.at _ _ _ refl (entries_at-short c.args.at c.args.count c.args.size c.args.bytes.now c.if-bytes-size.true)

pub returns-in_err-append_words-clause-short : goal.returns-in_err-append_words-clause-short
returns-in_err-append_words-clause-short c = λ place le short.
    elim (entries_short c.args.at c.args.count c.args.size place c.args.bytes.now short) [
      | inl few ↦ absurd (omega (arith, few, c.if-bytes-size.false))
      | inr behind ↦ absurd (omega (arith, behind, le, c.in_err-append_words.ensures.memory))
    ]

pub returns-then-risen-size-clause-short : goal.returns-then-risen-size-clause-short
returns-then-risen-size-clause-short c =
    let ds = c.append_words.new.words.items in
    let risen : c.rise-risen.result ≡ rise_len ds = c.rise-risen.ensures.value ∙ ap (λ (xs : List ℕ). rise_len xs) c.deref.ensures.value in
    tells_fault c.args.at _ _ _ refl (entries_at-order c.args.at c.args.count c.args.size c.rise-risen.result c.args.bytes.now ds c.if-bytes-size.false
    (c.in_ok-append_words.ensures.ok ∙ ap (λ (ws : List ℕ). ws ++ words_in c.args.size c.args.bytes.now) c.new-entries.ensures.items) risen
    c.if-risen-size.true)

pub returns-clause-short : goal.returns-clause-short
returns-clause-short c =
    let ds = c.append_words.new.words.items in
    let risen : c.rise-risen.result ≡ rise_len ds = c.rise-risen.ensures.value ∙ ap (λ (xs : List ℕ). rise_len xs) c.deref.ensures.value in
    rw (entries_at-rest c.args.at c.args.count c.args.size c.args.bytes.now ds c.if-bytes-size.false (c.in_ok-append_words.ensures.ok
    ∙ ap (λ (ws : List ℕ). ws ++ words_in c.args.size c.args.bytes.now) c.new-entries.ensures.items) (omega (arith, risen, c.if-risen-size.false)))
    (tells_if c.args.at _ _ _ c.indexed_of.ensures.values c.indexed_of.ensures.memory)
