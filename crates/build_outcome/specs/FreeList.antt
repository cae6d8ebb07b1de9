-- The free list of a partition: where the positions behind its keys are sent.
use Rattle.std.specs.Prelude.{ℕ, ◌+◌, ◌-◌, Bool, not, List, length, map, filter, count_by, min, slice_index}
use Rattle.pthash.specs.Order.{numbers_below}

-- the positions below n that are free, rising
abbrev pub free_below : (ℕ → Bool) → ℕ → List ℕ
free_below is_taken n = filter (λ p. not (is_taken p)) (numbers_below n)

-- how many of the k positions from n on are taken
abbrev pub taken_from : (ℕ → Bool) → ℕ → ℕ → ℕ
taken_from is_taken n k = count_by (λ i. is_taken (n + i)) (numbers_below k)

-- the entry of the position k places after n: each taken one has a free position of its own, in order; the entries after the
-- last free position repeat it, and all are 0 where none is free
abbrev pub free_entry : (ℕ → Bool) → ℕ → ℕ → ℕ
free_entry is_taken n k =
    let free = free_below is_taken n in slice_index free (min (taken_from is_taken n k) (length free - 1))

-- the entries of the positions from n up to the size of the table
unfoldable pub free_list_of : (ℕ → Bool) → ℕ → ℕ → List ℕ
free_list_of is_taken n size = map (free_entry is_taken n) (numbers_below (size - n))
