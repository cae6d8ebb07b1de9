-- The text of queries, read line by line.
use Rattle.std.proofs.Common.{◌≡◌, ◌≤◌, ℕ, ◌+◌, List, [], ◌∷◌, ◌++◌, length, Option, Result, refl, sym, ap, subst, ◌∙◌, arith}
use Rattle.std.proofs.Common.{length-append}
use Rattle.std.specs.Prelude.{codes}
use Rattle.std.proofs.lemmas.List.{append_assoc, append-nil}
use Rattle.pthash.specs.declared.TheConstants.{MAX_KEYS}
use Rattle.build_outcome.specs.Index.{IndexData}
use Rattle.build_outcome.specs.Values.{value_of}
use Rattle.index_file.specs.Encoded.{EncodedIndex}
use Rattle.pth_outside.specs.declared.TheConstants.{LONGEST_KEY}
use Rattle.pth_outside.specs.Files.{FileMap, contents, IsThere, OfFile}
use Rattle.pth_outside.specs.Keys.{keys_of}
use Rattle.pth_outside.specs.Reading.{Reader, IsInStep, HasLeft, lines_left}
use Rattle.pth_outside.proofs.KeyFileLemmas.{KeysSoFar, so_far_new, so_far_more, there_now, no_long, of_file}
use Rattle.pth_top.specs.Done.{Done, said}
use Rattle.pth_top.specs.Lists.{gives}
use Rattle.pth_top.specs.Query.{query_result, value_line, value_lines, values_of}
use Rattle.pth_top.proofs.Listed.{list_in-read}

-- the lines of queries and of one more
value_lines_push : (x : IndexData) (keys : List (List ℕ)) (key : List ℕ) →
    value_lines x (keys ++ key ∷ []) ≡ value_lines x keys ++ value_line (value_of x key)
value_lines_push x [] key = append-nil (value_line (value_of x key))
value_lines_push x (k ∷ keys) key =
    ap (λ (more : List ℕ). value_line (value_of x k) ++ more) (value_lines_push x keys key)
    ∙ sym (append_assoc (value_line (value_of x k)) (value_lines x keys) (value_line (value_of x key)))

-- the queries so far: they were read, and the text has their values
pub record ValuesSoFar (x : IndexData) (name : List ℕ) (told : Option FileMap) (r : Reader) (text : List ℕ) (count : ℕ) : Type 0 where
  pub queries : List (List ℕ)
  pub read : KeysSoFar name told r queries
  pub counted : count ≡ length queries
  pub values : text ≡ value_lines x queries

-- before any line
pub values_new : (x : IndexData) (name : List ℕ) (told : Option FileMap) (r : Reader) (text : List ℕ) → r.name ≡ name →
    r.place ≡ 0 → r.ahead ≡ [] → r.lines ≡ 0 → text ≡ [] → ValuesSoFar x name told r text 0
values_new x name told r text named place ahead lines none = record {
  queries = [];
  read = so_far_new name told r [] named place ahead lines refl;
  counted = refl;
  values = none;
}

-- after one line more
pub values_more : (x : IndexData) (name line : List ℕ) (told told' : Option FileMap) (r r' : Reader) (text text' : List ℕ) (count : ℕ)
    (value : Option ℕ) →
    ValuesSoFar x name told r text count → told' ≡ told → r'.name ≡ r.name → r'.lines ≡ r.lines + 1 →
    (IsInStep r told' → IsInStep r' told') → HasLeft r told' (λ bytes. line ∷ lines_left r' bytes) →
    length line ≤ LONGEST_KEY → (r.ahead ≡ [] → IsThere told' r.name) → value ≡ value_of x line → text' ≡ text ++ value_line value →
    ValuesSoFar x name told r' text' (count + 1)
values_more x name line told told' r r' text text' count value so_far same named counted step got fits there is pushed =
    let keys : List (List ℕ) = so_far.queries in
    record {
      queries = keys ++ line ∷ [];
      read = so_far_more name line told told' r r' keys (keys ++ line ∷ []) so_far.read same named counted step got fits refl there;
      counted = omega (arith, so_far.counted, length-append keys (line ∷ []));
      values = pushed ∙ ap (λ (t : List ℕ). t ++ value_line value) so_far.values
          ∙ ap (λ (v : Option ℕ). value_lines x keys ++ value_line v) is
          ∙ sym (value_lines_push x keys line);
    }

-- the text at the end of the lines is what the file gives
pub values_end : (x : EncodedIndex) (name : List ℕ) (told told' : Option FileMap) (r : Reader) (text : List ℕ) (count : ℕ) →
    ValuesSoFar x.index name told r text count → told' ≡ told → count ≤ MAX_KEYS → HasLeft r told' (λ _. []) →
    (r.ahead ≡ [] → IsThere told' r.name) → OfFile told name (λ bytes. query_result x bytes ≡ said 0 text)
values_end x name told told' r text count so_far same few left there =
    let L : Option FileMap → Type 0 = λ t. HasLeft r t (λ _. []) in
    let keys : List (List ℕ) = so_far.queries in
    of_file told name (λ bytes. query_result x bytes ≡ said 0 text) (there_now name told told' r keys so_far.read same there)
    (λ bytes is.
    let all : keys_of bytes ≡ keys =
    so_far.read.all bytes is
    ∙ ap (λ (ls : List (List ℕ)). keys ++ ls) (subst L same left so_far.read.step bytes (ap (contents told) so_far.read.named ∙ is))
    ∙ append-nil keys in
    ap (λ (list : Result (List (List ℕ)) Done). gives list (values_of x.index))
    (list_in-read (codes "queries") MAX_KEYS keys bytes (sym all) (omega (arith, so_far.counted, few)) (no_long 1 keys so_far.read.short))
    ∙ ap (said 0) (sym so_far.values))
