use Rattle.std.proofs.Common.{◌≡◌, ◌+◌, ◌<◌, length, sym, ◌∙◌, arith, ap}
use Rattle.std.specs.Prelude.{Some}
use Rattle.pthash.specs.Sizes.{partition_of}
use Rattle.index_file.proofs.Looked.{starts_count, start_is, value_fits}
use Rattle.index_file.proofs.PairValues.{place_of_pair, pair_value-none, pair_value-some}
use Rattle.index_file.proofs.values.value_of_pair.Goals as goal

pub index-requires-in-Some : goal.index-requires-in-Some
index-requires-in-Some c =
    let n = starts_count c.args.held.now c.requires.beside in omega (arith, c.len.ensures, c.partition_of-q.ensures.below)

pub overflow_add-result : goal.overflow_add-result
overflow_add-result c =
    let held = c.args.held.now in
    let q = c.partition_of-q.result in
    let within : q < length held.parts.items = omega (arith, c.len.ensures, c.partition_of-q.ensures.below) in
    let fits = value_fits held q c.index.result.now c.in-Some.lists c.args.pair.a c.args.pair.b c.requires.valid within
    (sym c.index.ensures ∙ c.in-Some.is) in
    let start = start_is held q c.index-in-Some.result.now c.requires.beside within in
    omega (arith, c.value_in.ensures, c.index-in-Some.ensures, start, c.requires.valid.few_keys, fits)

pub returns-in-None-clause-value : goal.returns-in-None-clause-value
returns-in-None-clause-value c =
    let held = c.args.held.now in
    let q = c.partition_of-q.result in
    let within : q < length held.parts.items = omega (arith, c.len.ensures, c.partition_of-q.ensures.below) in
    let count : c.len.result ≡ length held.parts.items = omega (arith, c.len.ensures) in
    let place : q ≡ place_of_pair held c.args.pair.a c.args.pair.b =
    c.partition_of-q.ensures.value ∙ ap (partition_of c.args.pair.a c.args.pair.b) count in
    pair_value-none held c.args.pair.a c.args.pair.b q c.index.result.now place within (sym c.index.ensures ∙ c.in-None.is)

pub returns-in-Some-clause-value : goal.returns-in-Some-clause-value
returns-in-Some-clause-value c =
    let held = c.args.held.now in
    let q = c.partition_of-q.result in
    let within : q < length held.parts.items = omega (arith, c.len.ensures, c.partition_of-q.ensures.below) in
    let count : c.len.result ≡ length held.parts.items = omega (arith, c.len.ensures) in
    let place : q ≡ place_of_pair held c.args.pair.a c.args.pair.b =
    c.partition_of-q.ensures.value ∙ ap (partition_of c.args.pair.a c.args.pair.b) count in
    let start = c.index-in-Some.ensures ∙ start_is held q c.index-in-Some.result.now c.requires.beside within in
    (λ i. Some (start i + c.value_in.ensures i))
    ∙ pair_value-some held c.args.pair.a c.args.pair.b q c.index.result.now c.in-Some.lists place within
    (sym c.index.ensures ∙ c.in-Some.is)

pub returns-in-Some-clause-below : goal.returns-in-Some-clause-below
returns-in-Some-clause-below c =
    let held = c.args.held.now in
    let q = c.partition_of-q.result in
    let within : q < length held.parts.items = omega (arith, c.len.ensures, c.partition_of-q.ensures.below) in
    let fits = value_fits held q c.index.result.now c.in-Some.lists c.args.pair.a c.args.pair.b c.requires.valid within
    (sym c.index.ensures ∙ c.in-Some.is) in
    let start = start_is held q c.index-in-Some.result.now c.requires.beside within in
    omega (arith, c.value_in.ensures, c.index-in-Some.ensures, start, fits)
