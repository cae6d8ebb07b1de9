-- The names that a build or an upgrade of an index writes under.
use Rattle.std.specs.Prelude.{ℕ, ◌==◌, ◌&&◌, ◌||◌, Bool, List, ◌++◌, length, drop, eqb, codes, bytes_eq}
use Rattle.std.specs.List.{starts_with}

-- the name under which an index is written before it has its own
abbrev pub tmp_of : List ℕ → List ℕ
tmp_of index = index ++ codes ".tmp"

-- behind the name of an index this makes its own name, the one that it is written under, or that of a part of its build
abbrev pub follows_index : List ℕ → Bool
follows_index rest = (length rest == 0) || (bytes_eq rest (codes ".tmp") || starts_with eqb rest (codes ".part"))

-- a name is the index's own, or one that its build may write under
abbrev pub belongs_to_index : List ℕ → List ℕ → Bool
belongs_to_index name index = starts_with eqb name index && follows_index (drop (length index) name)

-- behind the name of an index this makes its own name, or the one that it is written under
abbrev pub none_or_tmp : List ℕ → Bool
none_or_tmp rest = (length rest == 0) || bytes_eq rest (codes ".tmp")

-- a name is the index's own, or the one that it is written under
abbrev pub own_or_tmp : List ℕ → List ℕ → Bool
own_or_tmp name index = starts_with eqb name index && none_or_tmp (drop (length index) name)
