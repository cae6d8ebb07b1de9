use Rattle.std.proofs.Common.{◌≡◌, ◌++◌, map, take}
use Rattle.std.specs.List.{flat_map}
use Rattle.pilot_codecs.specs.Spelling.{compact_text}
use Rattle.pilot_codecs.specs.Parts.{group_in}
use Rattle.pilot_codecs.proofs.groups.Groups.put.Given as goal

abbrev pub invariant-loop-head : goal.invariant-loop-head
invariant-loop-head l = l.out.items
    ≡ l.fn.out.items ++ flat_map compact_text (map (group_in l.self-inside.words.items) (take l.head-index l.self-inside.heads.items))
