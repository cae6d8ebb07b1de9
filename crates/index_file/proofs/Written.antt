-- Pieces that were written, one after the other.
use Rattle.std.specs.Prelude.{◌≡◌, ℕ, ◌+◌, ◌<◌, ◌≤◌, List, [], ◌∷◌, ◌++◌, length, take, drop}
use Rattle.std.specs.Prelude.{Option, Some, None, All, Result, Ok, Err, OnOk}
use Rattle.std.specs.List.{flat_map}
use Rattle.std.proofs.Common.{get_or, refl, sym, ap, ◌∙◌, subst, append_assoc, append-nil, drop-cons, add-one, arith}
use Rattle.std.proofs.lemmas.List.{nil_from_length, length-drop, drop_at}
use Rattle.std.proofs.lemmas.List.Elements.{All-head, All-tail}
use Rattle.elias_fano.specs.Spelling.{number, ef_text}
use Rattle.pilot_codecs.specs.declared.code.Encoding.{Encoding}
use Rattle.pilot_codecs.specs.Spelling.{pair_text}
use Rattle.build_outcome.specs.Index.{KeyMarkData, IndexData}
use Rattle.build_outcome.specs.Validity.{IsMark, IsValidIndex}
use Rattle.index_text.specs.declared.head.HeadFields.{HeadFields}
use Rattle.index_text.specs.Text.{fields_of, head_text, key_counts, part_text, parts_text, body_text, index_text, IsIndex}
use Rattle.index_text.proofs.CallerLemmas.{part_text-some, IsIndex-index_text}
use Rattle.index_file.specs.declared.held.Held.{Held}
use Rattle.index_file.specs.Encoded.{marked}
use Rattle.index_file.specs.declared.lists.Lists.{Lists}
use Rattle.index_file.specs.Lists.{lists_data, part_data}
use Rattle.index_file.specs.Held.{parts_data, held_data, IsHeld, IsUnder}
use Rattle.index_file.specs.Pieces.{count_text, own_text}

-- the pieces of the first i parts were appended
pub record ArePieces {A : Type 0} (piece : A → List ℕ) (parts : List A) (old : List ℕ) (i : ℕ) (out : List ℕ) : Type 0 where
  pub all : out ++ flat_map piece (drop i parts) ≡ old ++ flat_map piece parts
  pub kept : take (length old) out ≡ old

-- one piece more
pub pieces_more : {A : Type 0} (piece : A → List ℕ) (parts : List A) (d : A) (old : List ℕ) (i : ℕ) (out : List ℕ) → i < length parts →
    out ++ flat_map piece (drop i parts) ≡ old ++ flat_map piece parts →
    (out ++ piece (get_or parts i d)) ++ flat_map piece (drop (i + 1) parts) ≡ old ++ flat_map piece parts
pieces_more piece parts d old i out within so_far =
    let next : drop i parts ≡ get_or parts i d ∷ drop (i + 1) parts =
    drop-cons parts i d within ∙ ap (λ (k : ℕ). get_or parts i d ∷ drop k parts) (sym (add-one i)) in
    append_assoc out (piece (get_or parts i d)) (flat_map piece (drop (i + 1) parts))
    ∙ ap (λ ps. out ++ flat_map piece ps) (sym next) ∙ so_far

-- all pieces
pub pieces_all : {A : Type 0} (piece : A → List ℕ) (parts : List A) (old : List ℕ) (i : ℕ) (out : List ℕ) → length parts ≤ i →
    out ++ flat_map piece (drop i parts) ≡ old ++ flat_map piece parts → out ≡ old ++ flat_map piece parts
pieces_all piece parts old i out past so_far =
    let none : drop i parts ≡ [] = nil_from_length (drop i parts) (omega (arith, length-drop i parts)) in
    sym (append-nil out) ∙ ap (λ ps. out ++ flat_map piece ps) (sym none) ∙ so_far

-- the numbers of keys as pieces
pub count_pieces : (parts : List (Option Lists)) → flat_map count_text parts ≡ flat_map number (key_counts (parts_data parts))
count_pieces [] = refl
count_pieces (None ∷ parts) = ap (λ (t : List ℕ). number 0 ++ t) (count_pieces parts)
count_pieces (Some lists ∷ parts) = ap (λ (t : List ℕ). number lists.n ++ t) (count_pieces parts)

-- a partition as a piece
own_piece : (enc : Encoding) (part : Option Lists) → IsUnder enc part → own_text part ≡ part_text enc (part_data part)
unfolding part_text
own_piece enc None under = refl
own_piece enc (Some lists) under =
    let some = lists.some in
    ap (λ (e : Encoding). pair_text e lists.pilots.values ++ ef_text lists.free) under
    ∙ sym (part_text-some enc (lists_data lists) (omega arith))

-- the partitions as pieces
pub own_pieces : (enc : Encoding) (parts : List (Option Lists)) → All (IsUnder enc) parts →
    flat_map own_text parts ≡ parts_text enc (parts_data parts)
own_pieces enc [] under = refl
own_pieces enc (part ∷ parts) under =
    let first = own_piece enc part (All-head (IsUnder enc) part parts under) in
    let others = own_pieces enc parts (All-tail (IsUnder enc) part parts under) in
    λ i. first i ++ others i

-- three pieces
pub three_pieces : (old o1 o2 o3 a b d : List ℕ) → o1 ≡ old ++ a → o2 ≡ o1 ++ b → o3 ≡ o2 ++ d → o3 ≡ old ++ (a ++ (b ++ d))
three_pieces old o1 o2 o3 a b d p q r =
    r ∙ ap (λ (t : List ℕ). t ++ d) (q ∙ ap (λ (t : List ℕ). t ++ b) p) ∙ append_assoc (old ++ a) b d ∙ append_assoc old a (b ++ d)

-- all before the digest, piece by piece
pub body_is : (held : Held) (mark : KeyMarkData) (old o1 o2 o3 o4 : List ℕ) (head : HeadFields) (ps qs : List (Option Lists)) → IsHeld held →
    o1 ≡ old ++ head_text head → head ≡ fields_of (marked (held_data held) mark) held.enc →
    o2 ≡ o1 ++ flat_map number (mark.sum ∷ mark.xor ∷ []) → o3 ≡ o2 ++ flat_map count_text ps → ps ≡ held.parts.items →
    o4 ≡ o3 ++ flat_map own_text qs → qs ≡ held.parts.items → o4 ≡ old ++ body_text (marked (held_data held) mark) held.enc
unfolding body_text
body_is held mark old o1 o2 o3 o4 head ps qs beside one fields two three p four q =
    let parts = held.parts.items in
    let head_is = fields_of (marked (held_data held) mark) held.enc in
    let numbers = flat_map number (mark.sum ∷ mark.xor ∷ []) in
    let counts : flat_map count_text ps ≡ flat_map number (key_counts (parts_data parts)) = ap (λ xs. flat_map count_text xs) p ∙ count_pieces parts in
    let lists : flat_map own_text qs ≡ parts_text held.enc (parts_data parts) =
    ap (λ xs. flat_map own_text xs) q ∙ own_pieces held.enc parts beside.under in
    let behind : o4 ≡ o1 ++ (numbers ++ (flat_map number (key_counts (parts_data parts)) ++ parts_text held.enc (parts_data parts))) =
    three_pieces o1 o2 o3 o4 numbers (flat_map number (key_counts (parts_data parts))) (parts_text held.enc (parts_data parts)) two
    (three ∙ ap (λ (t : List ℕ). o2 ++ t) counts) (four ∙ ap (λ (t : List ℕ). o3 ++ t) lists) in
    let rest = numbers ++ (flat_map number (key_counts (parts_data parts)) ++ parts_text held.enc (parts_data parts)) in
    behind ∙ ap (λ (t : List ℕ). t ++ rest) (one ∙ ap (λ (h : HeadFields). old ++ head_text h) fields) ∙ append_assoc old (head_text head_is) rest

-- an index with another mark is valid
pub marked-IsValidIndex : (x : IndexData) (mark : KeyMarkData) → IsValidIndex x → IsMark mark → IsValidIndex (marked x mark)
marked-IsValidIndex x mark valid fits = record {
  seed = valid.seed;
  some_key = valid.some_key;
  few_keys = valid.few_keys;
  shape = valid.shape;
  some_part = valid.some_part;
  few_parts = valid.few_parts;
  counted = valid.counted;
  parts = valid.parts;
  mark = fits;
  unmarked_is_skewed = λ none. absurd cc;
}

-- what was appended is the index
pub appended_index : (old new : List ℕ) (x : IndexData) (mark : KeyMarkData) (enc : Encoding) → new ≡ old ++ index_text (marked x mark) enc →
    IsValidIndex x → IsMark mark → IsIndex (drop (length old) new) (marked x mark) enc
appended_index old new x mark enc is valid fits =
    let text : drop (length old) new ≡ index_text (marked x mark) enc =
    ap (λ (t : List ℕ). drop (length old) t) is ∙ drop_at old (index_text (marked x mark) enc) (length old) refl in
    subst (λ (t : List ℕ). IsIndex t (marked x mark) enc) (sym text) (IsIndex-index_text (marked x mark) enc (marked-IsValidIndex x mark valid fits))

-- what holds twice where a call ended well leads to what follows from both there
pub on_ok-both : {A E : Type 0} (r : Result A E) (P Q S : Type 0) → (P → Q → S) → OnOk r P → OnOk r Q → OnOk r S
on_ok-both (Ok x) P Q S f p q = f p q
on_ok-both (Err e) P Q S f p q = tt
