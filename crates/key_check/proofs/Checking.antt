-- The check of the lines of a file, read one by one.
use Rattle.std.specs.Prelude.{◌≡◌, ℕ, ◌+◌, ◌<◌, ◌≤◌, true, cond, List, [], ◌∷◌, ◌++◌}
use Rattle.std.specs.Prelude.{length, Option, Some, None, IfSome, ◌⊎◌}
use Rattle.std.specs.Option.{unwrap_or, ForSome}
use Rattle.std.proofs.Common.{refl, sym, ap, subst, ◌∙◌, arith}
use Rattle.std.proofs.lemmas.Bool.{lt-ltb}
use Rattle.std.proofs.lemmas.List.{append-nil}
use Rattle.pth_outside.specs.declared.TheConstants.{LONGEST_KEY}
use Rattle.pth_outside.specs.Files.{FileMap, contents, IsThere, OfFile}
use Rattle.pth_outside.specs.Keys.{keys_of}
use Rattle.pth_outside.specs.Reading.{Reader, IsInStep, IsTooLong, HasLongFirst, HasLeft, lines_left}
use Rattle.pth_outside.proofs.KeyFileLemmas.{KeysSoFar, so_far_new, so_far_more, there_now, of_file}
use Rattle.build_outcome.specs.Index.{KeyMarkData, IndexData}
use Rattle.build_outcome.specs.IndexLaws.{IsOneToOne}
use Rattle.build_outcome.specs.Values.{value_of}
use Rattle.key_check.specs.declared.checked.Checked.{Checked}
use Rattle.key_check.specs.declared.checked.Checked.TheVariants.{Good, TooLong, Repeats}
use Rattle.key_check.specs.declared.walk.Walk.{Walk}
use Rattle.key_check.specs.Checked.{first_with, fault_of_value, after_all, checked_from, checked}
use Rattle.key_check.specs.Walks.{IsFor, HasWalked}
use Rattle.key_check.specs.Meaning.{IsGood}
use Rattle.key_check.proofs.Passing.{HasPassed, HasPassed-none, HasPassed-more, passed_to, checked-fault}
use Rattle.key_check.proofs.Passing.{one_to_one-none, one_to_one-more, good_end}
use Rattle.key_check.proofs.Walking.{lines-le}

-- the lines so far: they were read, were walked, were no end of the check, and have values of their own
pub record CheckSoFar (x : IndexData) (name : List ℕ) (told : Option FileMap) (r : Reader) (walk : Walk) : Type 0 where
  pub before : List (List ℕ)
  pub read : KeysSoFar name told r before
  pub walked : HasWalked x before walk
  pub passed : HasPassed x before
  pub one_to_one : IsOneToOne x before

-- before any line
pub first_so_far : (x : IndexData) (name : List ℕ) (told : Option FileMap) (r : Reader) (walk : Walk) → r.name ≡ name → r.place ≡ 0 →
    r.ahead ≡ [] → r.lines ≡ 0 → HasWalked x [] walk → CheckSoFar x name told r walk
first_so_far x name told r walk named place ahead lines walked = record {
  before = [];
  read = so_far_new name told r [] named place ahead lines refl;
  walked = walked;
  passed = HasPassed-none x;
  one_to_one = one_to_one-none x;
}

-- nothing made of what is there or not is of nothing
none_mapped : (o : Option ℕ) (f : ℕ → Checked) → Rattle.std.specs.Prelude.option_map f o ≡ None → o ≡ None
none_mapped None f none = refl
none_mapped (Some e) f none = absurd cc

-- a line that is no end has a value of its own
one_more : (x : IndexData) (before : List (List ℕ)) (line : List ℕ) (value : Option ℕ) → IsOneToOne x before → value_of x line ≡ value →
    IfSome value (λ v. v < x.n) → fault_of_value x before value ≡ None → IsOneToOne x (before ++ line ∷ [])
one_more x before line None one has below none = absurd cc
one_more x before line (Some v) one has below none =
    one_to_one-more x before line v one has below (none_mapped (first_with x v before) (λ earlier. Repeats (length before + 1) earlier) none)

-- after one line more
pub next_so_far : (x : IndexData) (name line : List ℕ) (told told' : Option FileMap) (r r' : Reader) (walk walk' : Walk) (found : Option Checked) →
    CheckSoFar x name told r walk → told' ≡ told → r'.name ≡ r.name → r'.lines ≡ r.lines + 1 →
    (IsInStep r told' → IsInStep r' told') → HasLeft r told' (λ bytes. line ∷ lines_left r' bytes) →
    length line ≤ LONGEST_KEY → (r.ahead ≡ [] → IsThere told' r.name) → IfSome (value_of x line) (λ v. v < x.n) →
    ((before : List (List ℕ)) → HasWalked x before walk → found ≡ fault_of_value x before (value_of x line)) →
    ((before : List (List ℕ)) → HasWalked x before walk → found ≡ None → HasWalked x (before ++ line ∷ []) walk') →
    found ≡ None → CheckSoFar x name told r' walk'
next_so_far x name line told told' r r' walk walk' found so_far same named counted step got fits there below fault walked none =
    let no_fault : fault_of_value x so_far.before (value_of x line) ≡ None = sym (fault so_far.before so_far.walked) ∙ none in
    record {
      before = so_far.before ++ line ∷ [];
      read = so_far_more name line told told' r r' so_far.before (so_far.before ++ line ∷ []) so_far.read same named counted step got fits refl there;
      walked = walked so_far.before so_far.walked none;
      passed = HasPassed-more x so_far.before line so_far.passed fits no_fault;
      one_to_one = one_more x so_far.before line (value_of x line) so_far.one_to_one refl below no_fault;
    }

-- what is left of the told file
left_is : (x : IndexData) (name : List ℕ) (told told' : Option FileMap) (r : Reader) (walk : Walk) (lines : List ℕ → List (List ℕ)) →
    (so_far : CheckSoFar x name told r walk) → told' ≡ told → HasLeft r told' lines →
    ForSome (contents told name) (λ bytes. keys_of bytes ≡ so_far.before ++ lines bytes)
left_is x name told told' r walk lines so_far same left bytes is =
    let L : Option FileMap → Type 0 = λ t. HasLeft r t lines in
    so_far.read.all bytes is
    ∙ ap (λ (ls : List (List ℕ)). so_far.before ++ ls) (subst L same left so_far.read.step bytes (ap (contents told) so_far.read.named ∙ is))

-- a line that ends the check
pub ends_at_line : (x : IndexData) (name line : List ℕ) (told told' : Option FileMap) (r r' : Reader) (walk : Walk) (found : Option Checked)
    (fault : Checked) →
    CheckSoFar x name told r walk → told' ≡ told → HasLeft r told' (λ bytes. line ∷ lines_left r' bytes) →
    length line ≤ LONGEST_KEY → (r.ahead ≡ [] → IsThere told' r.name) →
    ((before : List (List ℕ)) → HasWalked x before walk → found ≡ fault_of_value x before (value_of x line)) →
    found ≡ Some fault → OfFile told name (λ bytes. fault ≡ checked x (keys_of bytes))
ends_at_line x name line told told' r r' walk found fault so_far same got fits there is some =
    of_file told name (λ bytes. fault ≡ checked x (keys_of bytes)) (there_now name told told' r so_far.before so_far.read same there)
    (λ bytes has.
    sym (ap (checked x) (left_is x name told told' r walk (λ bytes. line ∷ lines_left r' bytes) so_far same got bytes has)
    ∙ checked-fault x so_far.before line (lines_left r' bytes) fault so_far.passed fits (sym (is so_far.before so_far.walked) ∙ some)))

-- the end of the lines
pub ends_at_end : (x : IndexData) (name : List ℕ) (told told' : Option FileMap) (r : Reader) (walk : Walk) (found : Checked) →
    CheckSoFar x name told r walk → told' ≡ told → HasLeft r told' (λ _. []) → (r.ahead ≡ [] → IsThere told' r.name) →
    ((before : List (List ℕ)) → HasWalked x before walk → found ≡ after_all x before) →
    OfFile told name (λ bytes. found ≡ checked x (keys_of bytes))
ends_at_end x name told told' r walk found so_far same left there is =
    of_file told name (λ bytes. found ≡ checked x (keys_of bytes)) (there_now name told told' r so_far.before so_far.read same there)
    (λ bytes has.
    is so_far.before so_far.walked
    ∙ sym (ap (checked x) (left_is x name told told' r walk (λ _. []) so_far same left bytes has) ∙ passed_to x so_far.before [] so_far.passed))

-- a good end
pub ends_good : (x : IndexData) (name : List ℕ) (told told' : Option FileMap) (r : Reader) (walk : Walk) (found : Checked) (mark : KeyMarkData) →
    CheckSoFar x name told r walk → told' ≡ told → HasLeft r told' (λ _. []) → (r.ahead ≡ [] → IsThere told' r.name) → IsFor x walk →
    ((before : List (List ℕ)) → HasWalked x before walk → found ≡ after_all x before) → found ≡ Good mark →
    OfFile told name (λ bytes. IsGood x (keys_of bytes) mark)
ends_good x name told told' r walk found mark so_far same left there for is good =
    of_file told name (λ bytes. IsGood x (keys_of bytes) mark) (there_now name told told' r so_far.before so_far.read same there)
    (λ bytes has.
    let lines : keys_of bytes ≡ so_far.before =
    left_is x name told told' r walk (λ _. []) so_far same left bytes has ∙ append-nil so_far.before in
    let few : length so_far.before ≤ x.n = omega (arith, so_far.walked.count, lines-le x walk for) in
    subst (λ ls. IsGood x ls mark) (sym lines)
    (good_end x so_far.before mark so_far.one_to_one few (sym (is so_far.before so_far.walked) ∙ good)))

-- a line that is too long ends the check
long_end : (x : IndexData) (before left : List (List ℕ)) → HasPassed x before → HasLongFirst left →
    checked x (before ++ left) ≡ TooLong (length before + 1)
long_end x before [] passed long = absurd long
long_end x before (line ∷ left) passed long =
    passed_to x before (line ∷ left) passed
    ∙ ap (λ b. unwrap_or (cond b (Some (TooLong (length before + 1))) (fault_of_value x before (value_of x line)))
    (checked_from x (before ++ line ∷ []) left))
    (lt-ltb LONGEST_KEY (length line) long)

-- a line that is too long
pub ends_at_long : (x : IndexData) (name : List ℕ) (told told' : Option FileMap) (r r' : Reader) (walk : Walk) (line : ℕ) →
    CheckSoFar x name told r walk → told' ≡ told → IsTooLong r r' told' line →
    OfFile told name (λ bytes. TooLong line ≡ checked x (keys_of bytes))
ends_at_long x name told told' r r' walk line so_far same too =
    let L : Option FileMap → Type 0 = λ t. IsInStep r t → ForSome (contents t r.name) (λ b. HasLongFirst (lines_left r b)) in
    let number : length so_far.before + 1 ≡ line = omega (arith, so_far.read.counted, too.number) in
    of_file told name (λ bytes. TooLong line ≡ checked x (keys_of bytes)) (there_now name told told' r so_far.before so_far.read same too.there)
    (λ bytes has.
    sym (ap (checked x) (so_far.read.all bytes has)
    ∙ long_end x so_far.before (lines_left r bytes) so_far.passed
    (subst L same too.long so_far.read.step bytes (ap (contents told) so_far.read.named ∙ has))
    ∙ ap TooLong number))
