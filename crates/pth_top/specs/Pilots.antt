-- What `pilots` gives for the bytes of a key file.
use Rattle.std.specs.Prelude.{ℕ, ◌+◌, List, [], ◌∷◌, ◌++◌}
use Rattle.pthash.specs.Sizes.{table_size_of}
use Rattle.build_outcome.specs.Index.{PartData, IndexData}
use Rattle.command_words.specs.Options.{OptionsData}
use Rattle.pth_top.specs.Done.{Done, said}
use Rattle.pth_top.specs.Lists.{gives, index_in}
use Rattle.pth_top.specs.Texts.{seed_lines, part_lines}

-- the lines of partitions, numbered from this one on
abbrev pub parts_lines : ℕ → ℕ → List PartData → List ℕ
parts_lines alpha number [] = []
parts_lines alpha number (part ∷ parts) =
    part_lines number part.n (table_size_of part.n alpha) part.pilots ++ parts_lines alpha (number + 1) parts

-- the pilots of an index
abbrev pub pilots_of_index : IndexData → Done
pilots_of_index x = said 0 (seed_lines x.seed x.n ++ parts_lines x.shape.alpha 0 x.parts)

-- what the bytes of a key file give
abbrev pub pilots_result : OptionsData → List ℕ → Done
pilots_result o bytes = gives (index_in o bytes) pilots_of_index
