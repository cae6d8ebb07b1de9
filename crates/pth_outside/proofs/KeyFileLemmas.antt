-- The keys of a file, read line by line.
use Rattle.std.proofs.Common.{◌≡◌, ◌≤◌, ◌<◌, ◌+◌, ℕ, zero, suc, Bool, false, cond, List, [], ◌∷◌, ◌++◌, Option, Some}
use Rattle.std.proofs.Common.{None, IsSome, length, take, refl, sym, ap, subst, ◌∙◌, ◌⊎◌, ⊎_elim, inl, inr, drop}
use Rattle.std.proofs.Common.{arith, length-append, length-take, append_assoc}
use Rattle.std.specs.List.{position_from}
use Rattle.std.specs.Option.{ForSome, IsSomeAnd}
use Rattle.std.proofs.lemmas.Bool.{false_from_ne_true, false≢true}
use Rattle.std.proofs.lemmas.Bool.Decides.{Decides-ltb}
use Rattle.std.proofs.lemmas.List.{take_at}
use Rattle.pth_outside.specs.declared.TheConstants.{LONGEST_KEY}
use Rattle.pth_outside.specs.Files.{FileMap, contents, IsThere, OfFile}
use Rattle.pth_outside.specs.Keys.{keys_of, is_too_long, first_too_long, AreTooMany}
use Rattle.pth_outside.specs.Reading.{Reader, IsInStep, IsAt, IsNextLine, IsTooLong, HasLongFirst, advanced, lines_left}
use Rattle.pth_outside.proofs.ReadingLemmas.{step_advanced, got_line}

-- each of these is short enough for a key
pub AreShort : List (List ℕ) → Type 0
AreShort [] = Unit {0}
AreShort (key ∷ keys) = (length key ≤ LONGEST_KEY) × AreShort keys

-- no key
pub AreShort-none : AreShort []
unfolding AreShort
AreShort-none = tt

-- one key more
pub AreShort-push : (keys : List (List ℕ)) (key : List ℕ) → AreShort keys → length key ≤ LONGEST_KEY →
    AreShort (keys ++ key ∷ [])
unfolding AreShort
AreShort-push [] key short fits = (fits, tt)
AreShort-push (k ∷ keys) key short fits = (short.0, AreShort-push keys key short.1 fits)

-- a short key doesn't pass the test
short_test : (key : List ℕ) → length key ≤ LONGEST_KEY → is_too_long key ≡ false
short_test key fits = false_from_ne_true _ (λ is. let long : LONGEST_KEY < length key = (Decides-ltb LONGEST_KEY (length key)).0 is in omega arith)

-- among short keys there is none that is too long
pub no_long : (i : ℕ) (keys : List (List ℕ)) → AreShort keys → position_from is_too_long i keys ≡ None
unfolding AreShort
no_long i [] short = refl
no_long i (k ∷ keys) short =
    ap (λ (b : Bool). cond b (Some i) (position_from is_too_long (i + 1) keys)) (short_test k short.0) ∙ no_long (i + 1) keys short.1

-- behind short keys the first that is too long
first_long : (i : ℕ) (keys left : List (List ℕ)) (most : ℕ) → AreShort keys → HasLongFirst left → length keys < most →
    position_from is_too_long i (take most (keys ++ left)) ≡ Some (i + length keys)
unfolding AreShort
first_long i keys left zero short long room = absurd (omega arith)
first_long i [] [] (suc most) short long room = absurd long
first_long i [] (l ∷ left) (suc most) short long room =
    let same : i ≡ i + 0 = omega arith in
    ap (λ (b : Bool). cond b (Some i) (position_from is_too_long (i + 1) (take most left))) ((Decides-ltb LONGEST_KEY (length l)).1 long) ∙ ap Some same
first_long i (k ∷ keys) left (suc most) short long room =
    let same : i + 1 + length keys ≡ i + suc (length keys) = omega arith in
    ap (λ (b : Bool). cond b (Some i) (position_from is_too_long (i + 1) (take most (keys ++ left)))) (short_test k short.0)
    ∙ first_long (i + 1) keys left most short.1 long (omega arith) ∙ ap Some same

-- what holds of the value holds of the one that is there
at_some : (o : Option (List ℕ)) (P : List ℕ → Type 0) → IsSome o → ForSome o P → IsSomeAnd o P
at_some None P there holds = false≢true there
at_some (Some x) P there holds = holds x refl

-- what is so of the bytes of a file that is there
pub of_file : (told : Option FileMap) (name : List ℕ) (P : List ℕ → Type 0) → IsThere told name →
    ForSome (contents told name) P → OfFile told name P
of_file told name P there holds tells = at_some (contents told name) P (there tells) holds

-- the keys so far and the lines that are left are those of the file
pub record KeysSoFar (name : List ℕ) (told : Option FileMap) (r : Reader) (keys : List (List ℕ)) : Type 0 where
  pub named : r.name ≡ name
  pub counted : r.lines ≡ length keys
  pub step : IsInStep r told
  pub all : ForSome (contents told name) (λ bytes. keys_of bytes ≡ keys ++ lines_left r bytes)
  pub short : AreShort keys
  pub there : (r.ahead ≡ []) ⊎ IsThere told name

-- the line that is too long
pub names_long : (name : List ℕ) (told : Option FileMap) (r : Reader) (keys : List (List ℕ)) (most line : ℕ) →
    KeysSoFar name told r keys → length keys < most → line ≡ r.lines + 1 →
    ForSome (contents told name) (λ bytes. HasLongFirst (lines_left r bytes)) →
    ForSome (contents told name) (λ bytes. first_too_long (take most (keys_of bytes)) ≡ Some line)
names_long name told r keys most line so_far room number long bytes is =
    let same : 1 + length keys ≡ line = omega (arith, so_far.counted) in
    ap (λ (lines : List (List ℕ)). first_too_long (take most lines)) (so_far.all bytes is)
    ∙ first_long 1 keys (lines_left r bytes) most so_far.short (long bytes is) room ∙ ap Some same

-- a line that is too long is a line
some_left : (lines : List (List ℕ)) → HasLongFirst lines → 0 < length lines
some_left [] long = absurd long
some_left (l ∷ lines) long = omega arith

-- too many, where lines are left behind as many keys as may be
too_many : (name : List ℕ) (told : Option FileMap) (r : Reader) (keys : List (List ℕ)) (most : ℕ) →
    KeysSoFar name told r keys → length keys ≡ most →
    ForSome (contents told name) (λ bytes. 0 < length (lines_left r bytes)) →
    ForSome (contents told name) (λ bytes. AreTooMany most (keys_of bytes))
too_many name told r keys most so_far full more bytes is =
    let left : 0 < length (lines_left r bytes) = more bytes is in
    subst (AreTooMany most) (sym (so_far.all bytes is)) (record {
      more = omega (arith, length-append keys (lines_left r bytes));
      short = ap first_too_long (take_at keys (lines_left r bytes) most full) ∙ no_long 1 keys so_far.short;
    })

-- too many, where the next line is too long
pub many_long : (name : List ℕ) (told : Option FileMap) (r : Reader) (keys : List (List ℕ)) (most : ℕ) →
    KeysSoFar name told r keys → length keys ≡ most →
    ForSome (contents told name) (λ bytes. HasLongFirst (lines_left r bytes)) →
    ForSome (contents told name) (λ bytes. AreTooMany most (keys_of bytes))
many_long name told r keys most so_far full long = too_many name told r keys most so_far full (λ bytes is. some_left (lines_left r bytes) (long bytes is))

-- too many, where there is a line more
pub many_got : (name : List ℕ) (told : Option FileMap) (r : Reader) (keys : List (List ℕ)) (most : ℕ)
    (line : List ℕ) (after : List ℕ → List (List ℕ)) →
    KeysSoFar name told r keys → length keys ≡ most →
    ForSome (contents told name) (λ bytes. lines_left r bytes ≡ line ∷ after bytes) →
    ForSome (contents told name) (λ bytes. AreTooMany most (keys_of bytes))
many_got name told r keys most line after so_far full got =
    too_many name told r keys most so_far full (λ bytes is. omega (arith, ap length (got bytes is)))

-- before any line is read
pub so_far_new : (name : List ℕ) (told : Option FileMap) (r : Reader) (keys : List (List ℕ)) → r.name ≡ name →
    r.place ≡ 0 → r.ahead ≡ [] → r.lines ≡ 0 → keys ≡ [] → KeysSoFar name told r keys
so_far_new name told r keys named place ahead lines none = record {
  named = named;
  counted = lines ∙ sym (ap length none);
  step = λ bytes is. ahead ∙ ap (λ (x : List ℕ). take (length x) (drop r.place bytes)) (sym ahead);
  all = λ bytes is. ap (λ (n : ℕ). keys_of (drop n bytes)) (sym place) ∙ ap (λ (x : List (List ℕ)). x ++ lines_left r bytes) (sym none);
  short = subst AreShort (sym none) AreShort-none;
  there = inl ahead;
}

-- the file is there once it was read
pub there_now : (name : List ℕ) (told told' : Option FileMap) (r : Reader) (keys : List (List ℕ)) →
    KeysSoFar name told r keys → told' ≡ told → (r.ahead ≡ [] → IsThere told' r.name) → IsThere told name
there_now name told told' r keys so_far same there =
    let P : Option FileMap → Type 0 = λ t. IsThere t r.name in
    let Q : List ℕ → Type 0 = λ n. IsThere told n in
    ⊎_elim (λ empty. subst Q so_far.named (subst P same (there empty))) (λ t. t) so_far.there

-- one line more
pub so_far_more : (name line : List ℕ) (told told' : Option FileMap) (r r' : Reader) (keys keys' : List (List ℕ)) →
    KeysSoFar name told r keys → told' ≡ told → r'.name ≡ r.name → r'.lines ≡ r.lines + 1 →
    (IsInStep r told' → IsInStep r' told') →
    (IsInStep r told' → ForSome (contents told' r.name) (λ bytes. lines_left r bytes ≡ line ∷ lines_left r' bytes)) →
    length line ≤ LONGEST_KEY → keys' ≡ keys ++ line ∷ [] → (r.ahead ≡ [] → IsThere told' r.name) →
    KeysSoFar name told r' keys'
so_far_more name line told told' r r' keys keys' so_far same named counted step got fits pushed there =
    let S : Option FileMap → Type 0 = λ t. IsInStep r t → IsInStep r' t in
    let G : Option FileMap → Type 0 = λ t. IsInStep r t → ForSome (contents t r.name) (λ bytes. lines_left r bytes ≡ line ∷ lines_left r' bytes) in
    let here : (bytes : List ℕ) → contents told name ≡ Some bytes → contents told r.name ≡ Some bytes =
    λ bytes is. ap (contents told) so_far.named ∙ is in
    record {
      named = named ∙ so_far.named;
      counted = omega (arith, counted, so_far.counted, ap length pushed, length-append keys (line ∷ []));
      step = subst S same step so_far.step;
      all = λ bytes is. so_far.all bytes is ∙ ap (λ (x : List (List ℕ)). keys ++ x) (subst G same got so_far.step bytes (here bytes is))
          ∙ sym (append_assoc keys (line ∷ []) (lines_left r' bytes)) ∙ ap (λ (x : List (List ℕ)). x ++ lines_left r' bytes) (sym pushed);
      short = subst AreShort (sym pushed) (AreShort-push keys line so_far.short fits);
      there = inr (there_now name told told' r keys so_far same there);
    }

-- the line that was found is one line more, once it is passed
pub so_far_found : (name line : List ℕ) (told told' : Option FileMap) (r mid r' : Reader) (keys keys' : List (List ℕ))
    (len whole : ℕ) → KeysSoFar name told r keys → told' ≡ told → IsAt r mid → (IsInStep r told' → IsInStep mid told') →
    IsNextLine mid told' len whole → r' ≡ advanced whole mid → line ≡ take len mid.ahead → keys' ≡ keys ++ line ∷ [] →
    (r.ahead ≡ [] → IsThere told' r.name) → KeysSoFar name told r' keys'
so_far_found name line told told' r mid r' keys keys' len whole so_far same at step next passed is pushed there =
    let short : length (take len mid.ahead) ≤ LONGEST_KEY = omega (arith, next.short, length-take len mid.ahead) in
    subst (λ (x : Reader). KeysSoFar name told x keys') (sym passed)
    (so_far_more name (take len mid.ahead) told told' r (advanced whole mid) keys keys' so_far same at.name
    (ap (λ (n : ℕ). n + 1) at.lines) (λ start. step_advanced mid told' whole next.within (step start))
    (got_line r mid told' len whole at step next) short
    (pushed ∙ ap (λ (x : List ℕ). keys ++ x ∷ []) is) there)

-- where the next line is too long
long_here : (name : List ℕ) (told told' : Option FileMap) (r r' : Reader) (keys : List (List ℕ)) (line : ℕ) →
    KeysSoFar name told r keys → told' ≡ told → IsTooLong r r' told' line →
    ForSome (contents told name) (λ bytes. HasLongFirst (lines_left r bytes))
long_here name told told' r r' keys line so_far same too bytes is =
    let L : Option FileMap → Type 0 = λ t. IsInStep r t → ForSome (contents t r.name) (λ b. HasLongFirst (lines_left r b)) in
    subst L same too.long so_far.step bytes (ap (contents told) so_far.named ∙ is)

-- the number of the line that is too long, after reading on
pub names_line : (name : List ℕ) (told told' : Option FileMap) (r r' : Reader) (keys : List (List ℕ)) (most line : ℕ) →
    KeysSoFar name told r keys → told' ≡ told → length keys < most → IsTooLong r r' told' line →
    OfFile told name (λ bytes. first_too_long (take most (keys_of bytes)) ≡ Some line)
names_line name told told' r r' keys most line so_far same room too =
    of_file told name (λ bytes. first_too_long (take most (keys_of bytes)) ≡ Some line) (there_now name told told' r keys so_far same too.there)
    (names_long name told r keys most line so_far room too.number (long_here name told told' r r' keys line so_far same too))

-- too many, after a line that is too long was read
pub many_by_long : (name : List ℕ) (told told' : Option FileMap) (r r' : Reader) (keys : List (List ℕ)) (most line : ℕ) →
    KeysSoFar name told r keys → told' ≡ told → length keys ≡ most → IsTooLong r r' told' line →
    OfFile told name (λ bytes. AreTooMany most (keys_of bytes))
many_by_long name told told' r r' keys most line so_far same full too =
    of_file told name (λ bytes. AreTooMany most (keys_of bytes)) (there_now name told told' r keys so_far same too.there)
    (many_long name told r keys most so_far full (long_here name told told' r r' keys line so_far same too))

-- too many, after a line more was read
pub many_by_line : (name line : List ℕ) (told told' : Option FileMap) (r r' : Reader) (keys : List (List ℕ)) (most : ℕ) →
    KeysSoFar name told r keys → told' ≡ told → length keys ≡ most →
    (IsInStep r told' → ForSome (contents told' r.name) (λ bytes. lines_left r bytes ≡ line ∷ lines_left r' bytes)) →
    (r.ahead ≡ [] → IsThere told' r.name) → OfFile told name (λ bytes. AreTooMany most (keys_of bytes))
many_by_line name line told told' r r' keys most so_far same full got there =
    let G : Option FileMap → Type 0 = λ t. IsInStep r t → ForSome (contents t r.name) (λ bytes. lines_left r bytes ≡ line ∷ lines_left r' bytes) in
    of_file told name (λ bytes. AreTooMany most (keys_of bytes)) (there_now name told told' r keys so_far same there)
    (many_got name told r keys most line (λ bytes. lines_left r' bytes) so_far full
    (λ bytes is. subst G same got so_far.step bytes (ap (contents told) so_far.named ∙ is)))

-- too many, after a line more was found
pub many_by_found : (name : List ℕ) (told told' : Option FileMap) (r mid : Reader) (keys : List (List ℕ)) (most len whole : ℕ) →
    KeysSoFar name told r keys → told' ≡ told → length keys ≡ most → IsAt r mid → (IsInStep r told' → IsInStep mid told') →
    IsNextLine mid told' len whole → (r.ahead ≡ [] → IsThere told' r.name) → OfFile told name (λ bytes. AreTooMany most (keys_of bytes))
many_by_found name told told' r mid keys most len whole so_far same full at step next there =
    many_by_line name (take len mid.ahead) told told' r (advanced whole mid) keys most so_far same full
    (got_line r mid told' len whole at step next) there
