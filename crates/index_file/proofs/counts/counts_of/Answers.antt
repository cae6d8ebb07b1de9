use Rattle.std.proofs.Common.{◌≡◌, ℕ, List, length, Err, sym, ap, subst, ◌∙◌, arith}
use Rattle.std.specs.Prelude.{sum}
use Rattle.elias_fano.specs.Values.{below_len}
use Rattle.index_text.specs.declared.fault.IndexFault.TheVariants as faults
use Rattle.index_file.proofs.Counting.{AreWords-length, AreWords-within, AreWords-small, words_read}
use Rattle.index_file.proofs.Counting.{counts_at-short, counts_at-field, counts_at-sum, counts_at-ok}
use Rattle.index_file.proofs.counts.counts_of.Goals as goal

pub returns-then-few-parts-clause-value : goal.returns-then-few-parts-clause-value
returns-then-few-parts-clause-value c =
    let bytes = c.args.bytes.now in
    let w = words_read bytes c.args.at c.args.parts c.append_words.new.words.items c.new-counts.result.items c.requires.within c.if-rest-parts.false
    c.new-counts.ensures.items c.in_ok-append_words.ensures.ok in
    let few = c.below-few.ensures ∙ ap (λ (ks : List ℕ). below_len 67108865 ks) c.deref.ensures.value in
    counts_at-field c.args.n c.args.parts c.below-few.result bytes c.args.at c.append_words.new.words.items w few c.if-few-parts.true

pub sum_of-sum-requires-clause-few : goal.sum_of-sum-requires-clause-few
sum_of-sum-requires-clause-few c =
    let bytes = c.args.bytes.now in
    let w = words_read bytes c.args.at c.args.parts c.append_words.new.words.items c.new-counts.result.items c.requires.within c.if-rest-parts.false
    c.new-counts.ensures.items c.in_ok-append_words.ensures.ok in
    omega (arith, ap length c.deref-2.ensures.value, AreWords-length bytes c.args.at c.args.parts c.append_words.new.words.items w, c.requires.few)

pub sum_of-sum-requires-clause-small : goal.sum_of-sum-requires-clause-small
sum_of-sum-requires-clause-small c =
    let bytes = c.args.bytes.now in
    let w = words_read bytes c.args.at c.args.parts c.append_words.new.words.items c.new-counts.result.items c.requires.within c.if-rest-parts.false
    c.new-counts.ensures.items c.in_ok-append_words.ensures.ok in
    let few = c.below-few.ensures ∙ ap (λ (ks : List ℕ). below_len 67108865 ks) c.deref.ensures.value in
    subst (λ (ks : List ℕ). below_len 67108865 ks ≡ length ks) (sym c.deref-2.ensures.value)
    (AreWords-small bytes c.args.at c.args.parts c.below-few.result c.append_words.new.words.items w few c.if-few-parts.false)

pub returns-then-sum-n-clause-value : goal.returns-then-sum-n-clause-value
returns-then-sum-n-clause-value c =
    let bytes = c.args.bytes.now in
    let words = c.append_words.new.words.items in
    let w = words_read bytes c.args.at c.args.parts words c.new-counts.result.items c.requires.within c.if-rest-parts.false
    c.new-counts.ensures.items c.in_ok-append_words.ensures.ok in
    let few = c.below-few.ensures ∙ ap (λ (ks : List ℕ). below_len 67108865 ks) c.deref.ensures.value in
    let adds = c.sum_of-sum.ensures ∙ ap sum c.deref-2.ensures.value in
    let differ = c.if-sum-n.true in
    let other : sum words ≡ c.args.n → ⊥ = λ is. omega (arith, adds) in
    counts_at-sum c.args.n c.args.parts c.below-few.result bytes c.args.at words w few c.if-few-parts.false other
    ∙ ap (λ (k : ℕ). Err (faults.Count c.args.n k)) (sym adds)

pub returns-clause-value : goal.returns-clause-value
returns-clause-value c =
    let bytes = c.args.bytes.now in
    let words = c.append_words.new.words.items in
    let w = words_read bytes c.args.at c.args.parts words c.new-counts.result.items c.requires.within c.if-rest-parts.false
    c.new-counts.ensures.items c.in_ok-append_words.ensures.ok in
    let few = c.below-few.ensures ∙ ap (λ (ks : List ℕ). below_len 67108865 ks) c.deref.ensures.value in
    let adds = c.sum_of-sum.ensures ∙ ap sum c.deref-2.ensures.value in
    counts_at-ok c.args.n c.args.parts c.below-few.result bytes c.args.at words w few c.if-few-parts.false (omega (arith, adds, c.if-sum-n.false))

pub returns-clause-count : goal.returns-clause-count
returns-clause-count c =
    let bytes = c.args.bytes.now in
    let words = c.append_words.new.words.items in
    let w = words_read bytes c.args.at c.args.parts words c.new-counts.result.items c.requires.within c.if-rest-parts.false
    c.new-counts.ensures.items c.in_ok-append_words.ensures.ok in
    AreWords-length bytes c.args.at c.args.parts words w

pub returns-clause-small : goal.returns-clause-small
returns-clause-small c =
    let bytes = c.args.bytes.now in
    let words = c.append_words.new.words.items in
    let w = words_read bytes c.args.at c.args.parts words c.new-counts.result.items c.requires.within c.if-rest-parts.false
    c.new-counts.ensures.items c.in_ok-append_words.ensures.ok in
    let few = c.below-few.ensures ∙ ap (λ (ks : List ℕ). below_len 67108865 ks) c.deref.ensures.value in
    AreWords-small bytes c.args.at c.args.parts c.below-few.result words w few c.if-few-parts.false

pub returns-clause-within : goal.returns-clause-within
returns-clause-within c =
    let bytes = c.args.bytes.now in
    let words = c.append_words.new.words.items in
    let w = words_read bytes c.args.at c.args.parts words c.new-counts.result.items c.requires.within c.if-rest-parts.false
    c.new-counts.ensures.items c.in_ok-append_words.ensures.ok in
    AreWords-within bytes c.args.at c.args.parts words w

pub returns-then-rest-parts-clause-value : goal.returns-then-rest-parts-clause-value
returns-then-rest-parts-clause-value c = counts_at-short c.args.n c.args.parts c.args.bytes.now c.args.at c.requires.within c.if-rest-parts.true
