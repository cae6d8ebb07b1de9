use Rattle.std.proofs.Common.{◌∙◌}
use Rattle.index_file.specs.Held.{held_data}
use Rattle.index_file.proofs.PairValues.{value_of-pair}
use Rattle.index_file.proofs.values.value_of_key.Goals as goal

pub returns : goal.returns
returns c =
    c.value_of_pair.ensures.value
    ∙ value_of-pair (held_data c.args.held.now) c.args.key.now c.hash_pair.result.a c.hash_pair.result.b c.hash_pair.ensures.a c.hash_pair.ensures.b
