-- What lines that were walked say of the check, and when it ends well.
use Rattle.std.specs.Prelude.{◌≡◌, ℕ, ◌+◌, ◌<◌, ◌≤◌, ◌==◌, ◌||◌}
use Rattle.std.specs.Prelude.{nat_lt, Bool, true, false, cond}
use Rattle.std.specs.Prelude.{List, [], ◌∷◌, ◌++◌, length, map, Option, Some}
use Rattle.std.specs.Prelude.{None, IfSome, IsSomeAnd, All, option_map}
use Rattle.std.specs.List.{position_from}
use Rattle.std.specs.Option.{unwrap_or}
use Rattle.std.proofs.Common.{get_or, refl, sym, ap, subst, ◌∙◌, arith, append_assoc, ⊎_elim}
use Rattle.std.proofs.lemmas.Bool.{cases_lt, lt-ltb, le-ltb, eqb-true, and_parts}
use Rattle.std.proofs.lemmas.List.{map-append}
use Rattle.std.proofs.lemmas.List.Elements.{All-append, All-head, All-tail, All-nil, All-from_get_or}
use Rattle.pth_outside.specs.declared.TheConstants.{LONGEST_KEY}
use Rattle.pth_outside.specs.Keys.{is_too_long}
use Rattle.pthash.specs.DistinctLaws.{is_distinct-append_apart}
use Rattle.pthash.specs.Search.{is_among, is_distinct}
use Rattle.build_outcome.specs.Index.{KeyMarkData, IndexData}
use Rattle.build_outcome.specs.IndexLaws.{key_number, IsOneToOne}
use Rattle.build_outcome.specs.Mark.{mark_of}
use Rattle.build_outcome.specs.Values.{value_of}
use Rattle.key_check.specs.declared.checked.Checked.{Checked}
use Rattle.key_check.specs.declared.checked.Checked.TheVariants.{Good, TooLong, Repeats, Counts, Differs}
use Rattle.key_check.specs.Checked.{is_number, first_with, fault_of_value, fault_of_line, is_same_mark, compared, after_all, checked_from, checked}
use Rattle.key_check.specs.Meaning.{IsGood}

-- the lines that were walked were not the end of the check
pub HasPassed : IndexData → List (List ℕ) → Type 0
HasPassed x before = (left : List (List ℕ)) → checked x (before ++ left) ≡ checked_from x before left

-- no line was walked
pub HasPassed-none : (x : IndexData) → HasPassed x []
unfolding HasPassed checked
HasPassed-none x left = refl

-- so the check goes on behind them
pub passed_to : (x : IndexData) (before left : List (List ℕ)) → HasPassed x before → checked x (before ++ left) ≡ checked_from x before left
unfolding HasPassed
passed_to x before left passed = passed left

-- a line is no longer than a key may be
short_line : (line : List ℕ) → length line ≤ LONGEST_KEY → is_too_long line ≡ false
short_line line fits = le-ltb LONGEST_KEY (length line) fits

-- a short line ends the check by its value
fault_of_short : (x : IndexData) (before : List (List ℕ)) (line : List ℕ) → length line ≤ LONGEST_KEY →
    fault_of_line x before line ≡ fault_of_value x before (value_of x line)
fault_of_short x before line fits =
    ap (λ b. cond b (Some (TooLong (length before + 1))) (fault_of_value x before (value_of x line))) (short_line line fits)

-- one line more that is not the end
pub HasPassed-more : (x : IndexData) (before : List (List ℕ)) (line : List ℕ) → HasPassed x before → length line ≤ LONGEST_KEY →
    fault_of_value x before (value_of x line) ≡ None → HasPassed x (before ++ line ∷ [])
unfolding HasPassed
HasPassed-more x before line passed fits none left =
    ap (checked x) (append_assoc before (line ∷ []) left) ∙ passed (line ∷ left)
    ∙ ap (λ o. unwrap_or o (checked_from x (before ++ line ∷ []) left)) (fault_of_short x before line fits ∙ none)

-- a line that is the end
pub checked-fault : (x : IndexData) (before : List (List ℕ)) (line : List ℕ) (left : List (List ℕ)) (found : Checked) → HasPassed x before →
    length line ≤ LONGEST_KEY → fault_of_value x before (value_of x line) ≡ Some found → checked x (before ++ line ∷ left) ≡ found
unfolding HasPassed
checked-fault x before line left found passed fits is =
    passed (line ∷ left)
    ∙ ap (λ o. unwrap_or o (checked_from x (before ++ line ∷ []) left)) (fault_of_short x before line fits ∙ is)

-- a value that no line has is not among their values
not_among : (x : IndexData) (v : ℕ) (before : List (List ℕ)) (i : ℕ) →
    All (λ key. IsSomeAnd (value_of x key) (λ value. value < x.n)) before →
    position_from (λ line. is_number v (value_of x line)) i before ≡ None → is_among (map (key_number x) before) v ≡ false
not_among x v [] i all none = refl
not_among x v (line ∷ before) i all none =
    by_value (value_of x line) refl (All-head P line before all) (not_among x v before (i + 1) (All-tail P line before all))
  where
    P : List ℕ → Type 0
    P key = IsSomeAnd (value_of x key) (λ value. value < x.n)

    rest : List ℕ
    rest = map (key_number x) before

    later : Option ℕ
    later = position_from (λ line. is_number v (value_of x line)) (i + 1) before

    by_value : (o : Option ℕ) → value_of x line ≡ o → IsSomeAnd o (λ value. value < x.n) → (later ≡ None → is_among rest v ≡ false) →
        is_among (key_number x line ∷ rest) v ≡ false
    by_value None is there absent = absurd there
    by_value (Some w) is there absent =
        let test : is_number v (value_of x line) ≡ (w == v) = ap (is_number v) is in
        let number : key_number x line ≡ w = ap (λ o. unwrap_or o 0) is in
        elim (w == v) as (λ b. (w == v) ≡ b → is_among (key_number x line ∷ rest) v ≡ false) [
          | true ↦ λ same.
              let first : Some i ≡ None = sym (ap (λ b. cond b (Some i) later) (test ∙ same)) ∙ none in
              absurd cc
          | false ↦ λ other.
              let here : later ≡ None = sym (ap (λ b. cond b (Some i) later) (test ∙ other)) ∙ none in
              ap (λ k. (k == v) || is_among rest v) number ∙ ap (λ b. b || is_among rest v) other ∙ absent here
        ] refl

-- no line is one-to-one
pub one_to_one-none : (x : IndexData) → IsOneToOne x []
one_to_one-none x = record { below = All-nil (λ key. IsSomeAnd (value_of x key) (λ value. value < x.n)); distinct = refl }

-- one line more, with a value that no line before has
pub one_to_one-more : (x : IndexData) (before : List (List ℕ)) (line : List ℕ) (v : ℕ) → IsOneToOne x before → value_of x line ≡ Some v →
    v < x.n →
    first_with x v before ≡ None → IsOneToOne x (before ++ line ∷ [])
one_to_one-more x before line v so_far has below none =
    let P : List ℕ → Type 0 = λ key. IsSomeAnd (value_of x key) (λ value. value < x.n) in
    let here : P line = subst (λ o. IsSomeAnd o (λ value. value < x.n)) (sym has) below in
    let values : List ℕ = map (key_number x) before in
    let number : key_number x line ≡ v = ap (λ o. unwrap_or o 0) has in
    let absent : is_among values (key_number x line) ≡ false = ap (is_among values) number ∙ not_among x v before 1 so_far.below none in
    record {
      below = All-append P before (line ∷ []) so_far.below
          (All-from_get_or P (line ∷ []) [] (λ i within. let first : 0 ≡ i = omega arith in subst (λ k. P (get_or (line ∷ []) k [])) first here));
      distinct = ap is_distinct (map-append (key_number x) before (line ∷ []))
          ∙ is_distinct-append_apart values (key_number x line ∷ []) so_far.distinct refl
          (λ y among.
          elim (key_number x line == y) as (λ b. (key_number x line == y) ≡ b → (b || false) ≡ false) [
            | true ↦ λ same.
                let both : is_among values y ≡ false = ap (is_among values) (sym (eqb-true (key_number x line) y same)) ∙ absent in
                absurd cc
            | false ↦ λ other. refl
          ] refl);
    }

-- marks that pass the test are the same
same_mark : (kept counted : KeyMarkData) → is_same_mark kept counted ≡ true → kept ≡ counted
same_mark kept counted same =
    let parts = and_parts (kept.sum == counted.sum) (kept.xor == counted.xor) same in
    let sum = eqb-true kept.sum counted.sum parts.0 in
    let xor = eqb-true kept.xor counted.xor parts.1 in
    λ i. record { sum = sum i; xor = xor i }

-- where the marks come to a good end, the index keeps no other
compared-good : (kept : Option KeyMarkData) (counted mark : KeyMarkData) → compared kept counted ≡ Good mark →
    (mark ≡ counted) × IfSome kept (λ k. k ≡ mark)
compared-good None counted mark is = let same : mark ≡ counted = cc in (same, tt)
compared-good (Some k) counted mark is = by_test (is_same_mark k counted) refl is
  where
    by_test : (t : Bool) → is_same_mark k counted ≡ t → cond t (Good counted) (Differs k counted) ≡ Good mark → (mark ≡ counted) × (k ≡ mark)
    by_test true same good = let counted_is : mark ≡ counted = cc in (counted_is, same_mark k counted same ∙ sym counted_is)
    by_test false other good = absurd cc

-- a check that ends well after the last line
pub good_end : (x : IndexData) (lines : List (List ℕ)) (mark : KeyMarkData) → IsOneToOne x lines → length lines ≤ x.n →
    after_all x lines ≡ Good mark → IsGood x lines mark
good_end x lines mark one few is = by_count (nat_lt (length lines) x.n) refl is
  where
    by_count : (t : Bool) → nat_lt (length lines) x.n ≡ t →
        cond t (Counts x.n (length lines)) (compared x.mark (mark_of lines x.seed)) ≡ Good mark → IsGood x lines mark
    by_count true less good = absurd cc
    by_count false enough good =
        let ends = compared-good x.mark (mark_of lines x.seed) mark good in
        let all : x.n ≤ length lines =
        ⊎_elim
        (λ (less : length lines < x.n). let test = lt-ltb (length lines) x.n less in absurd cc)
        (λ (more : x.n ≤ length lines). more)
        (cases_lt (length lines) x.n) in
        record { one_to_one = one; all = omega arith; marked = ends.0; kept = ends.1 }

-- no line before its end makes a check good
pub fault-good : (x : IndexData) (before : List (List ℕ)) (value : Option ℕ) (mark : KeyMarkData) →
    fault_of_value x before value ≡ Some (Good mark) → ⊥
fault-good x before None mark is = absurd cc
fault-good x before (Some v) mark is = by_first (first_with x v before) is
  where
    by_first : (o : Option ℕ) → option_map (λ earlier. Repeats (length before + 1) earlier) o ≡ Some (Good mark) → ⊥
    by_first None is = absurd cc
    by_first (Some e) is = absurd cc
