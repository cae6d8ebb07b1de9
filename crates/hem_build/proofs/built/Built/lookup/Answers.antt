use Rattle.std.proofs.Common.{rules}
use Rattle.build_outcome.specs.Index.{IndexData}
use Rattle.hem_build.proofs.Lookups.{value_some, value_none}
use Rattle.hem_build.proofs.built.Built.lookup.Goals as goal

pub returns-in-Some-clause-value : goal.returns-in-Some-clause-value
returns-in-Some-clause-value c =
    let x : IndexData = c.args.self.now in
    value_some x c.self.inside.starts.items c.args.key.now c.hash_pair-pair.result.a c.hash_pair-pair.result.b c.partition_of-number.result
    c.index.result.now c.in-Some.value c.index-part.result.now c.value.result
    (record {
      held = search rules;
      first = search rules;
      second = search rules;
      number = search rules;
      within = search rules;
      read = search rules;
    })
    (search rules) (search rules) c.in-Some.is

pub returns-in-None-clause-value : goal.returns-in-None-clause-value
returns-in-None-clause-value c =
    let x : IndexData = c.args.self.now in
    value_none x c.self.inside.starts.items c.args.key.now c.hash_pair-pair.result.a c.hash_pair-pair.result.b c.partition_of-number.result
    c.index-part.result.now c.value.result
    (record {
      held = search rules;
      first = search rules;
      second = search rules;
      number = search rules;
      within = search rules;
      read = search rules;
    })
    (search rules) c.in-None.is
