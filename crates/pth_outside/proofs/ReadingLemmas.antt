-- A reader of lines: its buffer, and the line that comes next.
use Rattle.std.proofs.Common.{◌≡◌, ◌≤◌, ◌<◌, ◌+◌, ◌-◌, ℕ, List, [], ◌∷◌, ◌++◌, Some, Result, Ok, Err, length, take}
use Rattle.std.proofs.Common.{drop, refl, sym, ap, subst, ◌∙◌, arith, length-append, length-take, length-drop}
use Rattle.std.specs.Result.{IfOk}
use Rattle.std.proofs.lemmas.List.{take-append-le, length-take-le, drop-take, drop-drop, drop_all}
use Rattle.std.proofs.Math.Seq.{take-append-add}
use Rattle.std.proofs.Common.{Bool, false, Option, suc, get_or}
use Rattle.std.specs.Prelude.{◌==◌, if◌then◌else◌}
use Rattle.std.specs.List.{slice_split, onto_first}
use Rattle.std.proofs.lemmas.Bool.{false_from_ne_true, eqb-true}
use Rattle.std.proofs.lemmas.List.{take_all, take-take, get_or-take, take-append-drop}
use Rattle.std.proofs.lemmas.List.Splits.{slice_split-cons_no, length-slice_split}
use Rattle.std.proofs.Math.Seq.{take-add, drop-cons}
use Rattle.pth_outside.specs.declared.TheConstants.{LINE_FEED, LONGEST_KEY}
use Rattle.pth_outside.specs.Files.{FileMap, FilesState, ReadsFiles, contents, IsThere}
use Rattle.pth_outside.specs.Keys.{keys_of, without_empty_last, HasNoFeed}
use Rattle.pth_outside.specs.KeyLaws.{keys_of-nothing, keys_of-feed, keys_of-last}
use Rattle.pth_outside.specs.Reading.{Reader, IsInStep, IsAt, advanced, lines_left, HasLongFirst, IsStuck, IsFirstFeed, IsNextLine, IsTooLong}
use Rattle.pth_outside.specs.FilesLaws.{ReadsFiles-ok, ReadsFiles-then}
use Rattle.std.specs.Option.{ForSome}
use Rattle.std.proofs.Common.{◌⊎◌, ⊎_elim, inr}

-- two facts of the value in an Ok
pub both : {T E : Type 0} (r : Result T E) (P Q R : T → Type 0) → IfOk r P → IfOk r Q → ((x : T) → P x → Q x → R x) →
    IfOk r R
both (Ok x) P Q R p q f = f x p q
both (Err e) P Q R p q f = tt

-- a buffer of which the part behind its front was written
pub written_behind : (end count : ℕ) (buffer ys post : List ℕ) → end ≤ length buffer → count ≤ length ys →
    take (end + count) (take end buffer ++ (ys ++ post)) ≡ take end buffer ++ take count ys
written_behind end count buffer ys post front room =
    let size : length (take end buffer) ≡ end = length-take-le end buffer front in
    ap (λ (n : ℕ). take (n + count) (take end buffer ++ (ys ++ post))) (sym size)
    ∙ take-append-add (take end buffer) (ys ++ post) count ∙ ap (λ (x : List ℕ). take end buffer ++ x) (take-append-le count ys post room)

-- the bytes ahead, behind a part of them
pub ahead_behind : (items : List ℕ) (start end whole : ℕ) → start + whole ≤ end →
    take (end - (start + whole)) (drop (start + whole) items) ≡ drop whole (take (end - start) (drop start items))
ahead_behind items start end whole fits =
    let parts : end - start ≡ whole + (end - (start + whole)) = omega arith in
    sym (ap (λ (n : ℕ). drop whole (take n (drop start items))) parts
    ∙ drop-take whole (end - (start + whole)) (drop start items)
    ∙ ap (take (end - (start + whole))) (drop-drop whole start items ∙ ap (λ (n : ℕ). drop n items) (omega arith)))

-- the test for a line feed
abbrev is_feed : ℕ → Bool
is_feed b = b == LINE_FEED

-- the text up to its first feed, which is ahead
cut_at_feed : (rest ahead : List ℕ) (k : ℕ) → ahead ≡ take (length ahead) rest → IsFirstFeed ahead k →
    rest ≡ take k ahead ++ LINE_FEED ∷ drop (k + 1) rest
cut_at_feed rest ahead k is first =
    let size : length ahead ≤ length rest = omega (arith, ap length is, length-take (length ahead) rest) in
    let in_ahead : k < length ahead = first.within in
    let in_rest : k < length rest = omega arith in
    let below : k ≤ length ahead = omega arith in
    let next : suc k ≡ k + 1 = omega arith in
    let front : take k rest ≡ take k ahead = sym (ap (take k) is ∙ take-take k (length ahead) rest below) in
    let byte : get_or rest k 0 ≡ LINE_FEED =
    sym (get_or-take (length ahead) rest k 0 in_ahead) ∙ ap (λ (x : List ℕ). get_or x k 0) (sym is) ∙ first.feed in
    sym (take-append-drop k rest) ∙ ap (λ (x : List ℕ). x ++ drop k rest) front
    ∙ ap (λ (x : List ℕ). take k ahead ++ x) (drop-cons rest k 0 in_rest
    ∙ ap (λ (b : ℕ). b ∷ drop (suc k) rest) byte ∙ ap (λ (n : ℕ). LINE_FEED ∷ drop n rest) next)

-- the line before a feed that is ahead is the next key
pub next_fed : (rest ahead : List ℕ) (k : ℕ) → ahead ≡ take (length ahead) rest → IsFirstFeed ahead k →
    keys_of rest ≡ take k ahead ∷ keys_of (drop (k + 1) rest)
next_fed rest ahead k is first = ap keys_of (cut_at_feed rest ahead k is first) ∙ keys_of-feed (take k ahead) (drop (k + 1) rest) first.before

-- a rest without a feed is the last key
pub next_last : (rest ahead : List ℕ) → rest ≡ ahead → HasNoFeed ahead → 0 < length ahead →
    keys_of rest ≡ take (length ahead) ahead ∷ keys_of (drop (length ahead) rest)
next_last rest ahead is none some =
    let over : drop (length ahead) rest ≡ [] = drop_all (length ahead) rest (omega (arith, ap length is)) in
    ap keys_of is ∙ keys_of-last ahead none some
    ∙ ap (λ (line : List ℕ). line ∷ []) (sym (take_all (length ahead) ahead (omega arith)))
    ∙ ap (λ (keys : List (List ℕ)). take (length ahead) ahead ∷ keys) (sym (ap keys_of over ∙ keys_of-nothing))

-- no rest, no key
pub next_none : (rest ahead : List ℕ) → rest ≡ ahead → length ahead ≡ 0 → keys_of rest ≡ []
next_none rest [] is empty = ap keys_of is ∙ keys_of-nothing
next_none rest (b ∷ ahead) is empty = absurd (omega arith)

-- a list that isn't empty has a first piece
some_part : (parts : List (List ℕ)) → 0 < length parts → (l : List ℕ) × (ls : List (List ℕ)) × (parts ≡ l ∷ ls)
some_part [] some = absurd (omega arith)
some_part (l ∷ ls) some = (l, ls, refl)

-- the first piece is at least as long as a front without a feed
long_split : (front more : List ℕ) → ((k : ℕ) → k < length front → is_feed (get_or front k 0) ≡ false) →
    (l : List ℕ) × (ls : List (List ℕ)) × (slice_split is_feed (front ++ more) ≡ l ∷ ls) × (length front ≤ length l)
long_split [] more none =
    let part = some_part (slice_split is_feed more) (omega (arith, length-slice_split is_feed more)) in
    (part.0, part.1, part.2, omega arith)
long_split (x ∷ front) more none =
    let rest = long_split front more (λ k within. none (suc k) (omega arith)) in
    (x ∷ rest.0, rest.1, slice_split-cons_no is_feed x (front ++ more) (none 0 (omega arith)) ∙ ap (onto_first x) rest.2, omega (arith, rest.3))

-- the test for 0 is false above it
not_zero : (n : ℕ) → 0 < n → (n == 0) ≡ false
not_zero n some = false_from_ne_true _ (λ is. let zero : n ≡ 0 = eqb-true n 0 is in omega arith)

-- a first piece that is long enough is a first line that is too long
long_first : (l : List ℕ) (ls : List (List ℕ)) → LONGEST_KEY < length l → HasLongFirst (without_empty_last (l ∷ ls))
long_first l [] long = subst (λ (b : Bool). HasLongFirst (if b then [] else l ∷ [])) (sym (not_zero (length l) (omega arith))) long
long_first l (next ∷ more) long = long

-- where the buffer is full without a feed, the next key is too long
pub next_long : (rest ahead : List ℕ) → ahead ≡ take (length ahead) rest → IsStuck ahead → HasLongFirst (keys_of rest)
unfolding keys_of
next_long rest ahead is stuck =
    let whole : ahead ++ drop (length ahead) rest ≡ rest =
    ap (λ (x : List ℕ). x ++ drop (length ahead) rest) is ∙ take-append-drop (length ahead) rest in
    let part = long_split ahead (drop (length ahead) rest) (λ k within. false_from_ne_true _ (stuck.none k (omega arith) within)) in
    let long : LONGEST_KEY < length part.0 = omega (arith, part.3, stuck.full) in
    subst (λ (x : List ℕ). HasLongFirst (without_empty_last (slice_split is_feed x))) whole
    (subst (λ (x : List (List ℕ)). HasLongFirst (without_empty_last x)) (sym part.2) (long_first part.0 part.1 long))

-- the same place and the same bytes ahead are the same reader
pub same_reader : (old new : Reader) → IsAt old new → new.ahead ≡ old.ahead → new ≡ old
same_reader old new at same = λ i. record { name = at.name i; place = at.place i; ahead = same i; lines = at.lines i }

-- standing still twice
pub IsAt-then : (a b c : Reader) → IsAt a b → IsAt b c → IsAt a c
IsAt-then a b c ab bc = record { name = bc.name ∙ ab.name; place = bc.place ∙ ab.place; lines = bc.lines ∙ ab.lines }

-- reading on keeps the reader in step
step_more : (old new : Reader) (told : Option FileMap) (count : ℕ) → IsAt old new →
    ForSome (contents told old.name) (λ bytes. new.ahead ≡ old.ahead ++ take count (drop (old.place + length old.ahead) bytes)) →
    ForSome (contents told old.name) (λ bytes. count ≤ length bytes - (old.place + length old.ahead)) →
    IsInStep old told → IsInStep new told
step_more old new told count at read within step bytes is =
    let named : contents told old.name ≡ Some bytes = ap (contents told) (sym at.name) ∙ is in
    let fits : count ≤ length bytes - (old.place + length old.ahead) = within bytes named in
    let next : List ℕ = take count (drop (old.place + length old.ahead) bytes) in
    let left : List ℕ = drop (old.place + length old.ahead) bytes in
    let size : length next ≡ count = length-take-le count left (omega (arith, length-drop (old.place + length old.ahead) bytes)) in
    let joined : length (old.ahead ++ next) ≡ length old.ahead + count = length-append old.ahead next ∙ ap (λ (n : ℕ). length old.ahead + n) size in
    let parts : take (length old.ahead + count) (drop old.place bytes) ≡ old.ahead ++ next =
    take-add (length old.ahead) count (drop old.place bytes)
    ∙ ap (λ (x : List ℕ). x ++ take count (drop (length old.ahead) (drop old.place bytes))) (sym (step bytes named))
    ∙ ap (λ (x : List ℕ). old.ahead ++ take count x) (drop-drop (length old.ahead) old.place bytes) in
    read bytes named ∙ sym parts
    ∙ ap (λ (n : ℕ). take n (drop old.place bytes)) (sym (ap length (read bytes named) ∙ joined))
    ∙ ap (λ (n : ℕ). take (length new.ahead) (drop n bytes)) (sym at.place)

-- the bytes ahead are the rest, where the file ends behind them
end_rest : (ahead bytes : List ℕ) (place : ℕ) → ahead ≡ take (length ahead) (drop place bytes) →
    length bytes ≤ place + length ahead → drop place bytes ≡ ahead
end_rest ahead bytes place is past = sym (is ∙ take_all (length ahead) (drop place bytes) (omega (arith, length-drop place bytes)))

-- the line before a feed that is ahead comes next
pub fed_line : (r : Reader) (told : Option FileMap) (k : ℕ) → IsFirstFeed r.ahead k →
    length r.ahead ≤ LONGEST_KEY + 1 → IsNextLine r told k (k + 1)
fed_line r told k first bound =
    let within : k < length r.ahead = first.within in
    record {
      within = omega arith;
      begins = omega arith;
      short = omega arith;
      line = λ step bytes is. next_fed (drop r.place bytes) r.ahead k (step bytes is) first
          ∙ ap (λ (x : List ℕ). take k r.ahead ∷ keys_of x) (drop-drop (k + 1) r.place bytes);
    }

-- the bytes up to the file's end come next
last_of : (r : Reader) (told : Option FileMap) (len : ℕ) → len ≡ length r.ahead → (len ≡ 0 → ⊥) → len ≤ LONGEST_KEY →
    HasNoFeed r.ahead → ForSome (contents told r.name) (λ bytes. length bytes ≤ r.place + length r.ahead) →
    IsNextLine r told len len
last_of r told len is some short none past =
    let more : 0 < length r.ahead = omega arith in record {
      within = omega arith;
      begins = omega arith;
      short = short;
      line = λ step bytes has. next_last (drop r.place bytes) r.ahead (end_rest r.ahead bytes r.place (step bytes has) (past bytes has)) none more
          ∙ ap (λ (n : ℕ). take n r.ahead ∷ keys_of (drop n (drop r.place bytes))) (sym is)
          ∙ ap (λ (x : List ℕ). take len r.ahead ∷ keys_of x) (drop-drop len r.place bytes);
    }

-- the same, once the reader has seen the file's end
pub last_line : (mid new : Reader) (told told' : Option FileMap) (len : ℕ) → told' ≡ told → IsAt mid new →
    new.ahead ≡ mid.ahead → len ≡ length mid.ahead → (len ≡ 0 → ⊥) → len ≤ LONGEST_KEY → HasNoFeed mid.ahead →
    ForSome (contents told' mid.name) (λ bytes. length bytes ≤ mid.place + length mid.ahead) →
    IsNextLine new told len len
last_line mid new told told' len same at ahead is some short none past =
    let P : Option FileMap → Type 0 = λ t. ForSome (contents t mid.name) (λ bytes. length bytes ≤ mid.place + length mid.ahead) in
    let Q : Reader → Type 0 = λ r. IsNextLine r told len len in
    subst Q (sym (same_reader mid new at ahead)) (last_of mid told len is some short none (subst P same past))

-- no line is left
pub no_line : (old mid : Reader) (told told' : Option FileMap) → told' ≡ told → IsAt old mid →
    (IsInStep old told → IsInStep mid told) → length mid.ahead ≡ 0 →
    ForSome (contents told' mid.name) (λ bytes. length bytes ≤ mid.place + length mid.ahead) → IsInStep old told →
    ForSome (contents told old.name) (λ bytes. lines_left old bytes ≡ [])
no_line old mid told told' same at step empty past start bytes is =
    let P : Option FileMap → Type 0 = λ t. ForSome (contents t mid.name) (λ bytes. length bytes ≤ mid.place + length mid.ahead) in
    let named : contents told mid.name ≡ Some bytes = ap (contents told) at.name ∙ is in
    ap (λ (n : ℕ). keys_of (drop n bytes)) (sym at.place)
    ∙ next_none (drop mid.place bytes) mid.ahead (end_rest mid.ahead bytes mid.place (step start bytes named) (subst P same past bytes named)) empty

-- the next line is too long
pub too_long : (old mid : Reader) (told : Option FileMap) (line : ℕ) → IsAt old mid →
    (IsInStep old told → IsInStep mid told) → line ≡ mid.lines + 1 → IsStuck mid.ahead →
    (old.ahead ≡ [] → (mid.ahead ≡ []) ⊎ IsThere told old.name) → IsTooLong old mid told line
too_long old mid told line at step number stuck there = record {
  number = number ∙ ap (λ (n : ℕ). n + 1) at.lines;
  stuck = stuck;
  long = λ start bytes is. let named : contents told mid.name ≡ Some bytes = ap (contents told) at.name ∙ is in
      subst (λ (n : ℕ). HasLongFirst (keys_of (drop n bytes))) at.place (next_long (drop mid.place bytes) mid.ahead (step start bytes named) stuck);
  there = λ empty. ⊎_elim (λ e. absurd (omega (arith, ap length e, stuck.full))) (λ t. t) (there empty);
}

-- a reader on its way to the end of a line, before any call failed
pub record SearchesOn (old mid : Reader) (s s' : FilesState) : Type 0 where
  pub at : IsAt old mid
  pub kept : ReadsFiles s s' ⊥ ⊥
  pub step : IsInStep old s.told → IsInStep mid s.told
  pub stuck : IsStuck old.ahead → mid.ahead ≡ old.ahead
  pub there : old.ahead ≡ [] → (mid.ahead ≡ []) ⊎ IsThere s.told old.name

-- after it has read on
pub SearchesOn-more : {failed because : Type 0} (old mid new : Reader) (s s' s'' : FilesState) (count : ℕ) →
    SearchesOn old mid s s' → IsAt mid new → ReadsFiles s' s'' failed because →
    (length mid.ahead ≡ LONGEST_KEY + 1 → ⊥) →
    ForSome (contents s'.told mid.name) (λ bytes. new.ahead ≡ mid.ahead ++ take count (drop (mid.place + length mid.ahead) bytes)) →
    ForSome (contents s'.told mid.name) (λ bytes. count ≤ length bytes - (mid.place + length mid.ahead)) →
    IsThere s'.told mid.name → SearchesOn old new s s''
SearchesOn-more old mid new s s' s'' count on at reads room read within there =
    let behind : ℕ = mid.place + length mid.ahead in
    let P : Option FileMap → Type 0 =
    λ o. ForSome (contents o mid.name) (λ bytes. new.ahead ≡ mid.ahead ++ take count (drop behind bytes)) in
    let Q : Option FileMap → Type 0 = λ o. ForSome (contents o mid.name) (λ bytes. count ≤ length bytes - behind) in
    let R : Option FileMap → Type 0 = λ o. IsThere o mid.name in
    record {
      at = IsAt-then old mid new on.at at;
      kept = ReadsFiles-then (λ o. ⊥) s s' s'' on.kept (ReadsFiles-ok s' s'' (λ e. absurd e) reads);
      step = λ start. step_more mid new s.told count at (subst P on.kept.told read) (subst Q on.kept.told within) (on.step start);
      stuck = λ stuck. absurd (room (ap length (on.stuck stuck) ∙ stuck.full));
      there = λ empty. inr (subst (λ (name : List ℕ). IsThere s.told name) on.at.name (subst R on.kept.told there));
    }

-- a line given keeps the reader in step
pub step_advanced : (r : Reader) (told : Option FileMap) (count : ℕ) → count ≤ length r.ahead → IsInStep r told →
    IsInStep (advanced count r) told
step_advanced r told count within step bytes is =
    let left : List ℕ = drop count r.ahead in
    let parts : length r.ahead ≡ count + length left = omega (arith, length-drop count r.ahead) in
    ap (drop count) (step bytes is ∙ ap (λ (n : ℕ). take n (drop r.place bytes)) parts)
    ∙ drop-take count (length left) (drop r.place bytes)
    ∙ ap (take (length left)) (drop-drop count r.place bytes)

-- the line that was found is given
pub got_line : (old mid : Reader) (told : Option FileMap) (len whole : ℕ) → IsAt old mid →
    (IsInStep old told → IsInStep mid told) → IsNextLine mid told len whole → IsInStep old told →
    ForSome (contents told old.name) (λ bytes. lines_left old bytes ≡ take len mid.ahead ∷ lines_left (advanced whole mid) bytes)
got_line old mid told len whole at step next start bytes is =
    let named : contents told mid.name ≡ Some bytes = ap (contents told) at.name ∙ is in
    ap (λ (n : ℕ). keys_of (drop n bytes)) (sym at.place) ∙ next.line (step start) bytes named
