use Rattle.std.proofs.Common.{◌≡◌, ◌+◌, map, drop}
use Rattle.std.specs.List.{flat_map}
use Rattle.elias_fano.specs.Values.{below_len}
use Rattle.pilot_codecs.specs.Parts.{group_in}
use Rattle.pilot_codecs.proofs.groups.Groups.below.Given as goal

abbrev pub invariant-loop-head : goal.invariant-loop-head
invariant-loop-head l =
    l.passed + below_len l.bound (flat_map (λ g. g) (map (group_in l.self-inside.words.items) (drop l.head-index l.self-inside.heads.items)))
    ≡ below_len l.bound (flat_map (λ g. g) (map (group_in l.self-inside.words.items) l.self-inside.heads.items))
