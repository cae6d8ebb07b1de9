-- The lines of a list walked one by one.
use Rattle.std.specs.Prelude.{◌≡◌, ℕ, zero, suc, ◌+◌, ◌<◌, ◌≤◌, ◌==◌, ◌%◌}
use Rattle.std.specs.Prelude.{◌^◌, nat_lt, Bool, true, false, not, cond}
use Rattle.std.specs.Prelude.{List, [], ◌∷◌, ◌++◌, length, map, slice_set, sum_by, bit_xor, Option, Some}
use Rattle.std.specs.Prelude.{None, option_map, replicate}
use Rattle.std.specs.List.{position_from}
use Rattle.std.specs.Option.{option_or, unwrap_or}
use Rattle.std.specs.Int.Bits.{xor_assoc, xor_zero_l, xor_zero_r}
use Rattle.std.proofs.Common.{get_or, refl, sym, ap, subst, ◌∙◌, arith, length-append, ⊎_elim}
use Rattle.std.proofs.lemmas.Bool.{cases_eq, le-ltb, eq-eqb, ne_eqb}
use Rattle.std.proofs.lemmas.List.{get_or-map, get_or-set_same, get_or-set_other, length-set, map-set, length-replicate, get_or-replicate}
use Rattle.std.proofs.lemmas.List.Sums.{sum_by-append, sum_by-cons, sum_by-set}
use Rattle.pthash.specs.Hash.{first_hash, second_hash}
use Rattle.build_outcome.specs.Index.{KeyMarkData, IndexData}
use Rattle.build_outcome.specs.Mark.{xor_of, mark_of}
use Rattle.build_outcome.specs.Values.{pair_value, value_of}
use Rattle.key_check.specs.declared.checked.Checked.TheVariants.{NoValue, Repeats, Counts}
use Rattle.key_check.specs.declared.walk.Walk.{Walk}
use Rattle.key_check.specs.Checked.{is_number, first_with, fault_of_value, compared, after_all}
use Rattle.key_check.specs.Walks.{one_if_some, is_line, marked_by, IsFor, HasWalked}

-- the value of a line from its hashes
pub value_of-pair : (x : IndexData) (line : List ℕ) (seed a b : ℕ) → seed ≡ x.seed → a ≡ first_hash line seed → b ≡ second_hash line seed →
    pair_value x a b ≡ value_of x line
unfolding value_of
value_of-pair x line seed a b same first second =
    let here : a ≡ first_hash line x.seed = first ∙ ap (first_hash line) same in
    let there : b ≡ second_hash line x.seed = second ∙ ap (second_hash line) same in
    λ i. pair_value x (here i) (there i)

-- a position counted from i on is i at least
position_from-low : (test : List ℕ → Bool) (i : ℕ) (xs : List (List ℕ)) (e : ℕ) → position_from test i xs ≡ Some e → i ≤ e
position_from-low test i [] e is = absurd cc
position_from-low test i (x ∷ xs) e is =
    elim (test x) as (λ b. cond b (Some i) (position_from test (i + 1) xs) ≡ Some e → i ≤ e) [
      | true ↦ λ here. let same : i ≡ e = cc in omega arith
      | false ↦ λ later. let low = position_from-low test (i + 1) xs e later in omega arith
    ] is

-- the first position with one element more at the end
position_from-push : (test : List ℕ → Bool) (i : ℕ) (xs : List (List ℕ)) (x : List ℕ) →
    position_from test i (xs ++ x ∷ []) ≡ option_or (position_from test i xs) (cond (test x) (Some (i + length xs)) None)
position_from-push test i [] x = let same : i ≡ i + 0 = omega arith in ap (λ n. cond (test x) (Some n) None) same
position_from-push test i (y ∷ ys) x =
    let same : i + 1 + length ys ≡ i + suc (length ys) = omega arith in
    elim (test y) as (λ b. cond b (Some i) (position_from test (i + 1) (ys ++ x ∷ []))
    ≡ option_or (cond b (Some i) (position_from test (i + 1) ys)) (cond (test x) (Some (i + suc (length ys))) None)) [
      | true ↦ refl
      | false ↦ position_from-push test (i + 1) ys x ∙ ap (λ n. option_or (position_from test (i + 1) ys) (cond (test x) (Some n) None)) same
    ]

-- an entry that is 0 is that of no line
no_entry : (o : Option ℕ) → 0 ≡ unwrap_or o 0 → ((e : ℕ) → o ≡ Some e → 1 ≤ e) → o ≡ None
no_entry None is some = refl
no_entry (Some e) is some = let low = some e refl in absurd (omega arith)

-- an entry that isn't 0 is that of a line
pub some_entry : (o : Option ℕ) (e : ℕ) → e ≡ unwrap_or o 0 → (e ≡ 0 → ⊥) → o ≡ Some e
some_entry None e is other = absurd (other is)
some_entry (Some k) e is other = ap Some (sym is)

-- no line has the value whose entry is 0
pub first_with-none : (x : IndexData) (v : ℕ) (before : List (List ℕ)) → 0 ≡ unwrap_or (first_with x v before) 0 → first_with x v before ≡ None
first_with-none x v before is =
    no_entry (first_with x v before) is (position_from-low (λ line. is_number v (value_of x line)) 1 before)

-- the first line with a value, with one line more that has it
first_with-here : (x : IndexData) (v : ℕ) (before : List (List ℕ)) (line : List ℕ) → value_of x line ≡ Some v → first_with x v before ≡ None →
    first_with x v (before ++ line ∷ []) ≡ Some (1 + length before)
first_with-here x v before line has none =
    position_from-push (λ line. is_number v (value_of x line)) 1 before line
    ∙ ap (λ o. option_or o (cond (is_number v (value_of x line)) (Some (1 + length before)) None)) none
    ∙ ap (λ o. cond (is_number v o) (Some (1 + length before)) None) has
    ∙ ap (λ b. cond b (Some (1 + length before)) None) (eq-eqb v v refl)

-- nothing or another
or_none : (o : Option ℕ) → option_or o None ≡ o
or_none None = refl
or_none (Some e) = refl

-- the first line with another value stays
first_with-other : (x : IndexData) (v w : ℕ) (before : List (List ℕ)) (line : List ℕ) → value_of x line ≡ Some v → (v ≡ w → ⊥) →
    first_with x w (before ++ line ∷ []) ≡ first_with x w before
first_with-other x v w before line has other =
    position_from-push (λ line. is_number w (value_of x line)) 1 before line
    ∙ ap (λ o. option_or (first_with x w before) (cond (is_number w o) (Some (1 + length before)) None)) has
    ∙ ap (λ b. option_or (first_with x w before) (cond b (Some (1 + length before)) None)) (ne_eqb v w other)
    ∙ or_none (first_with x w before)

-- the entries with one line more
entries_more : (x : IndexData) (before : List (List ℕ)) (line : List ℕ) (v number : ℕ) (numbers : List ℕ) → value_of x line ≡ Some v →
    v < length numbers → get_or numbers v 0 ≡ 0 → number ≡ 1 + length before →
    ((w : ℕ) → w < length numbers → get_or numbers w 0 ≡ unwrap_or (first_with x w before) 0) →
    (w : ℕ) → w < length (slice_set numbers v number) → get_or (slice_set numbers v number) w 0 ≡ unwrap_or (first_with x w (before ++ line ∷ [])) 0
entries_more x before line v number numbers has within free counted first w inside =
    let here : w < length numbers = omega (arith, length-set numbers v number) in
    let none : first_with x v before ≡ None = first_with-none x v before (sym free ∙ first v within) in
    ⊎_elim
    (λ (same : v ≡ w).
    subst (λ k. get_or (slice_set numbers v number) k 0 ≡ unwrap_or (first_with x k (before ++ line ∷ [])) 0) same
    (get_or-set_same numbers v number 0 within ∙ counted ∙ ap (λ o. unwrap_or o 0) (sym (first_with-here x v before line has none))))
    (λ (other : v ≡ w → ⊥).
    get_or-set_other numbers v w number 0 (λ e. other (sym e)) ∙ first w here
    ∙ ap (λ o. unwrap_or o 0) (sym (first_with-other x v w before line has other)))
    (cases_eq v w)

-- the xor with one line more
xor_more : (lines : List (List ℕ)) (line : List ℕ) (seed : ℕ) →
    xor_of (lines ++ line ∷ []) seed ≡ bit_xor (xor_of lines seed) (second_hash line seed)
xor_more [] line seed = xor_zero_r (second_hash line seed) ∙ sym (xor_zero_l (second_hash line seed))
xor_more (l ∷ lines) line seed =
    ap (bit_xor (second_hash l seed)) (xor_more lines line seed) ∙ sym (xor_assoc (second_hash l seed) (xor_of lines seed) (second_hash line seed))

-- the sum with one line more
sum_more : (lines : List (List ℕ)) (line : List ℕ) (seed sum a : ℕ) → a ≡ first_hash line seed →
    sum ≡ sum_by (λ l. first_hash l seed) lines % 2 ^ 64 → (sum + a) % 2 ^ 64 ≡ sum_by (λ l. first_hash l seed) (lines ++ line ∷ []) % 2 ^ 64
sum_more lines line seed sum a is so_far =
    let f : List ℕ → ℕ = λ l. first_hash l seed in
    omega (arith, sum_by-append f lines (line ∷ []), sum_by-cons f line [])

-- the mark with one line more
mark_more : (lines : List (List ℕ)) (line : List ℕ) (seed a b : ℕ) → a ≡ first_hash line seed → b ≡ second_hash line seed →
    marked_by (mark_of lines seed) a b ≡ mark_of (lines ++ line ∷ []) seed
unfolding mark_of
mark_more lines line seed a b first second =
    let sum = sum_more lines line seed (sum_by (λ l. first_hash l seed) lines % 2 ^ 64) a first refl in
    let xor : bit_xor (xor_of lines seed) b ≡ xor_of (lines ++ line ∷ []) seed =
    ap (bit_xor (xor_of lines seed)) second ∙ sym (xor_more lines line seed) in
    λ i. record { sum = sum i; xor = xor i }

-- the mark of no line
mark_none : (seed : ℕ) → record { sum = 0; xor = 0 } ≡ mark_of [] seed
unfolding mark_of
mark_none seed = refl

-- a walk of one line more
pub walked_more : (x : IndexData) (before : List (List ℕ)) (line : List ℕ) (old new : Walk) (v number a b : ℕ) → HasWalked x before old →
    value_of x line ≡ Some v → v < length old.numbers.items → get_or old.numbers.items v 0 ≡ 0 → number ≡ old.lines + 1 →
    a ≡ first_hash line x.seed → b ≡ second_hash line x.seed →
    new.numbers.items ≡ slice_set old.numbers.items v number → new.lines ≡ number → new.mark ≡ marked_by old.mark a b →
    HasWalked x (before ++ line ∷ []) new
walked_more x before line old new v number a b walked has within free is first second numbers lines mark = record {
  count = omega (arith, walked.count, lines, is, length-append before (line ∷ []));
  first = λ w inside.
      subst (λ (ns : List ℕ). w < length ns → get_or ns w 0 ≡ unwrap_or (first_with x w (before ++ line ∷ [])) 0) (sym numbers)
      (entries_more x before line v number old.numbers.items has within free (omega (arith, walked.count, is)) walked.first w) inside;
  mark = mark ∙ ap (λ m. marked_by m a b) walked.mark ∙ mark_more before line x.seed a b first second;
}

-- one for a number of a line is one at most
one-le : (n : ℕ) → one_if_some n ≤ 1
one-le n = elim (n == 0) as (λ b. cond b 0 1 ≤ 1) [ true ↦ omega arith | false ↦ omega arith ]

-- one for each number of a line makes no more than there are numbers
filled-le : (numbers : List ℕ) → sum_by one_if_some numbers ≤ length numbers
filled-le [] = omega arith
filled-le (n ∷ numbers) = omega (arith, sum_by-cons one_if_some n numbers, filled-le numbers, one-le n)

-- so there are no more lines than values
pub lines-le : (x : IndexData) (walk : Walk) → IsFor x walk → walk.lines ≤ x.n
lines-le x walk for = omega (arith, for.filled, for.size, filled-le walk.numbers.items)

-- zeros add up to zero
filled-zeros : (n : ℕ) → sum_by one_if_some (replicate n 0) ≡ 0
filled-zeros zero = refl
filled-zeros (suc n) = omega (arith, sum_by-cons one_if_some 0 (replicate n 0), filled-zeros n)

-- zeros are numbers of no line
unseen : (n : ℕ) → replicate n false ≡ map is_line (replicate n 0)
unseen zero = refl
unseen (suc n) = ap (λ bits. false ∷ bits) (unseen n)

-- a walk with zeros and no line is for the index
pub for_none : (x : IndexData) (walk : Walk) → walk.seed ≡ x.seed → walk.numbers.items ≡ replicate x.n 0 → walk.seen ≡ replicate x.n false →
    walk.lines ≡ 0 → IsFor x walk
for_none x walk seed zeros clear none = record {
  seed = seed;
  size = ap length zeros ∙ length-replicate x.n 0;
  seen = clear ∙ unseen x.n ∙ ap (map is_line) (sym zeros);
  filled = ap (sum_by one_if_some) zeros ∙ filled-zeros x.n ∙ sym none;
  few = omega arith;
}

-- it has gone over no line
pub walked_none : (x : IndexData) (walk : Walk) → walk.numbers.items ≡ replicate x.n 0 → walk.lines ≡ 0 →
    walk.mark ≡ record { sum = 0; xor = 0 } → HasWalked x [] walk
walked_none x walk zeros none mark = record {
  count = none;
  first = λ v within.
      let inside : v < x.n = omega (arith, ap length zeros, length-replicate {A = ℕ} x.n 0) in
      ap (λ (ns : List ℕ). get_or ns v 0) zeros ∙ get_or-replicate x.n v 0 0 inside;
  mark = mark ∙ mark_none x.seed;
}

-- the walk is for the index after one line more, too
pub for_more : (x : IndexData) (old new : Walk) (v number : ℕ) → IsFor x old → x.n ≤ 67108864 → v < length old.numbers.items →
    get_or old.numbers.items v 0 ≡ 0 → number ≡ old.lines + 1 → new.numbers.items ≡ slice_set old.numbers.items v number →
    new.seen ≡ slice_set old.seen v true → new.lines ≡ number → new.seed ≡ old.seed → IsFor x new
for_more x old new v number for few within free is numbers seen lines seed =
    let sums = sum_by-set one_if_some old.numbers.items v number 0 within in
    let none : one_if_some (get_or old.numbers.items v 0) ≡ 0 = ap one_if_some free in
    let some : (number == 0) ≡ false = ne_eqb number 0 (λ e. omega arith) in
    let one : one_if_some number ≡ 1 = ap (λ b. cond b 0 1) some in
    let bits : slice_set old.seen v true ≡ map is_line (slice_set old.numbers.items v number) =
    ap (λ (bs : List Bool). slice_set bs v true) for.seen ∙ ap (slice_set (map is_line old.numbers.items) v) (sym (ap not some))
    ∙ sym (map-set is_line old.numbers.items v number) in
    let filled : sum_by one_if_some new.numbers.items ≡ number = omega (arith, ap (sum_by one_if_some) numbers, for.filled) in
    let size : length new.numbers.items ≡ x.n = ap length numbers ∙ length-set old.numbers.items v number ∙ for.size in
    record {
      seed = seed ∙ for.seed;
      size = size;
      seen = seen ∙ bits ∙ ap (map is_line) (sym numbers);
      filled = filled ∙ sym lines;
      few = omega (arith, filled-le new.numbers.items);
    }

-- what is read inside a list doesn't depend on what is read outside
pub same_inside : (xs : List ℕ) (i d e : ℕ) → i < length xs → get_or xs i d ≡ get_or xs i e
same_inside [] i d e within = absurd (omega arith)
same_inside (x ∷ xs) zero d e within = refl
same_inside (x ∷ xs) (suc i) d e within = same_inside xs i d e (omega arith)

-- a line without a value ends the check
pub no_value_here : (x : IndexData) (before : List (List ℕ)) (line : List ℕ) (walk : Walk) → HasWalked x before walk → value_of x line ≡ None →
    Some (NoValue (walk.lines + 1)) ≡ fault_of_value x before (value_of x line)
no_value_here x before line walk walked none = ap (λ n. Some (NoValue (n + 1))) walked.count ∙ ap (fault_of_value x before) (sym none)

-- a line with the value of an earlier one ends the check
pub repeat_here : (x : IndexData) (before : List (List ℕ)) (line : List ℕ) (walk : Walk) (v e : ℕ) → HasWalked x before walk →
    value_of x line ≡ Some v →
    v < length walk.numbers.items → e ≡ get_or walk.numbers.items v 0 → (e ≡ 0 → ⊥) →
    Some (Repeats (walk.lines + 1) e) ≡ fault_of_value x before (value_of x line)
repeat_here x before line walk v e walked has within is other =
    let some : first_with x v before ≡ Some e = some_entry (first_with x v before) e (is ∙ walked.first v within) other in
    ap (λ n. Some (Repeats (n + 1) e)) walked.count
    ∙ ap (option_map (λ earlier. Repeats (length before + 1) earlier)) (sym some) ∙ ap (fault_of_value x before) (sym has)

-- a line with a value of its own doesn't
pub own_here : (x : IndexData) (before : List (List ℕ)) (line : List ℕ) (walk : Walk) (v : ℕ) → HasWalked x before walk →
    value_of x line ≡ Some v →
    v < length walk.numbers.items → get_or walk.numbers.items v 0 ≡ 0 → None ≡ fault_of_value x before (value_of x line)
own_here x before line walk v walked has within free =
    let none : first_with x v before ≡ None = first_with-none x v before (sym free ∙ walked.first v within) in
    ap (option_map (λ earlier. Repeats (length before + 1) earlier)) (sym none) ∙ ap (fault_of_value x before) (sym has)

-- the marks are compared where there are as many lines as keys
pub end_is : (x : IndexData) (before : List (List ℕ)) (walk : Walk) (kept : Option KeyMarkData) → HasWalked x before walk → kept ≡ x.mark →
    x.n ≤ walk.lines → compared kept walk.mark ≡ after_all x before
end_is x before walk kept walked same enough =
    let test : nat_lt (length before) x.n ≡ false = le-ltb (length before) x.n (omega (arith, walked.count)) in
    (λ i. compared (same i) (walked.mark i))
    ∙ sym (ap (λ b. cond b (Counts x.n (length before)) (compared x.mark (mark_of before x.seed))) test)

-- the bit of a value tells whether a line has it
pub bit_is : (x : IndexData) (walk : Walk) (v : ℕ) → IsFor x walk → v < length walk.numbers.items →
    get_or walk.seen v false ≡ is_line (get_or walk.numbers.items v 0)
bit_is x walk v for within = ap (λ (bits : List Bool). get_or bits v false) for.seen ∙ get_or-map is_line walk.numbers.items v 0 false within

-- a set bit is that of a number that isn't 0
pub set_bit : (n : ℕ) → true ≡ is_line n → n ≡ 0 → ⊥
set_bit zero set none = absurd cc
set_bit (suc n) set none = omega arith

-- a clear bit is that of 0
pub clear_bit : (n : ℕ) → false ≡ is_line n → n ≡ 0
clear_bit zero clear = refl
clear_bit (suc n) clear = let both : false ≡ true = clear ∙ ap not (ne_eqb (suc n) 0 (λ e. omega arith)) in absurd cc
