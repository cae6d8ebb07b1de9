use Rattle.std.proofs.Common.{◌≡◌, ◌<◌, sym, subst}
use Rattle.std.specs.Prelude.{None, IfSome, ◌↔◌}
use Rattle.build_outcome.specs.ValidValueLaws.{value_of-lt}
use Rattle.index_file.specs.Encoded.{keys_beside}
use Rattle.index_file.specs.Held.{held_data}
use Rattle.index_file.proofs.PairValues.{no_value}
use Rattle.index_file.proofs.index.Index.lookup.Goals as goal

pub returns-clause-none : goal.returns-clause-none
returns-clause-none c =
    let x = held_data c.self.inside.held in
    let key = c.args.key.now in
    let same = c.value_of_key.ensures in
    let there : (c.value_of_key.result ≡ None) ↔ (keys_beside x key ≡ 0) =
    subst (λ v. (v ≡ None) ↔ (keys_beside x key ≡ 0)) (sym same) (no_value x key) in
    subst (λ e. (c.value_of_key.result ≡ None) ↔ (keys_beside e.index key ≡ 0)) c.self.view_is there

pub returns-clause-below : goal.returns-clause-below
returns-clause-below c =
    let x = held_data c.self.inside.held in
    let below : IfSome c.value_of_key.result (λ v. v < x.n) =
    subst (λ v. IfSome v (λ k. k < x.n)) (sym c.value_of_key.ensures) (value_of-lt x c.args.key.now c.self.invariant.valid) in
    subst (λ e. IfSome c.value_of_key.result (λ v. v < e.index.n)) c.self.view_is below
