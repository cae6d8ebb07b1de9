use Rattle.std.specs.Prelude.{◌≡◌, ◌++◌, map, take}
use Rattle.std.specs.List.{flat_map}
use Rattle.demo_index.specs.Encodings.{all_codes, alone, followed_by}
use Rattle.demo_index.proofs.codes.encodings.Given as goal

abbrev pub invariant-loop-i : goal.invariant-loop-i
invariant-loop-i l = l.list.items ≡ map alone all_codes ++ flat_map (λ front. map (followed_by front) all_codes) (take l.i all_codes)
