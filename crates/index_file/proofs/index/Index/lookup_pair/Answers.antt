use Rattle.std.proofs.Common.{◌≡◌, ◌<◌, length, sym, subst}
use Rattle.std.specs.Prelude.{None, IfSome, ◌↔◌}
use Rattle.pthash.specs.Sizes.{partition_of}
use Rattle.build_outcome.specs.Values.{part_at, pair_value}
use Rattle.index_file.specs.Encoded.{EncodedIndex}
use Rattle.index_file.specs.Held.{held_data}
use Rattle.index_file.proofs.PairValues.{no_pair_value}
use Rattle.index_file.proofs.index.Index.lookup_pair.Goals as goal

pub returns-clause-value : goal.returns-clause-value
returns-clause-value c =
    subst (λ (e : EncodedIndex). c.value_of_pair.result ≡ pair_value e.index c.args.pair.a c.args.pair.b) c.self.view_is c.value_of_pair.ensures.value

pub returns-clause-none : goal.returns-clause-none
returns-clause-none c =
    let x = held_data c.self.inside.held in
    let a = c.args.pair.a in
    let b = c.args.pair.b in
    let there : (c.value_of_pair.result ≡ None) ↔ ((part_at x.parts (partition_of a b (length x.parts))).n ≡ 0) =
    subst (λ v. (v ≡ None) ↔ ((part_at x.parts (partition_of a b (length x.parts))).n ≡ 0)) (sym c.value_of_pair.ensures.value) (no_pair_value x a b) in
    subst (λ (e : EncodedIndex). (c.value_of_pair.result ≡ None) ↔ ((part_at e.index.parts (partition_of a b (length e.index.parts))).n ≡ 0))
    c.self.view_is there

pub returns-clause-below : goal.returns-clause-below
returns-clause-below c =
    subst (λ (e : EncodedIndex). IfSome c.value_of_pair.result (λ v. v < e.index.n)) c.self.view_is c.value_of_pair.ensures.below
