use Rattle.std.specs.Prelude.{◌≡◌, ◌++◌, map, take}
use Rattle.demo_index.specs.Encodings.{all_codes, followed_by}
use Rattle.demo_index.proofs.codes.push_pairs.Given as goal

abbrev pub invariant-loop-i : goal.invariant-loop-i
invariant-loop-i l = l.list.items ≡ l.fn.list.items ++ map (followed_by l.fn.front) (take l.i all_codes)
