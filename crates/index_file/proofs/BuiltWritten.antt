-- The pieces of the file of an index that was built, one after the other.
use Rattle.std.specs.Prelude.{◌≡◌, ℕ, List, [], ◌∷◌, ◌++◌, length, drop, slice_index_or, All}
use Rattle.std.specs.List.{flat_map}
use Rattle.std.proofs.Common.{refl, sym, ap, ◌∙◌, subst, append_assoc, arith}
use Rattle.std.proofs.lemmas.List.{drop_at}
use Rattle.pthash.specs.Shapes.{ShapeData, IsShape}
use Rattle.pthash.specs.SizeLaws.{bucket_count_of-le}
use Rattle.elias_fano.specs.Spelling.{number}
use Rattle.pilot_codecs.specs.declared.code.Encoding.{Encoding}
use Rattle.build_outcome.specs.Index.{PartData, KeyMarkData, IndexData}
use Rattle.build_outcome.specs.Validity.{IsValidPart, IsValidIndex}
use Rattle.index_text.specs.declared.head.HeadFields.{HeadFields}
use Rattle.index_text.specs.Text.{fields_of, head_text, key_counts, parts_text, body_text, index_text, IsIndex}
use Rattle.index_text.proofs.CallerLemmas.{IsIndex-index_text}
use Rattle.index_file.specs.Encoded.{marked}
use Rattle.index_file.specs.Pieces.{key_count_text, HasPilots}
use Rattle.index_file.proofs.Written.{three_pieces}

-- the numbers of keys as pieces
pub key_count_pieces : (parts : List PartData) → flat_map key_count_text parts ≡ flat_map number (key_counts parts)
key_count_pieces [] = refl
key_count_pieces (part ∷ parts) = ap (λ (t : List ℕ). number part.n ++ t) (key_count_pieces parts)

-- the pilots of a valid partition are within the limits
valid_pilots : (shape : ShapeData) (part : PartData) → IsShape shape → IsValidPart shape part → HasPilots part
valid_pilots shape part shaped valid = record {
  few = omega (arith, valid.pilot_count, bucket_count_of-le part.n shape.c shaped.c_high valid.few_keys);
  small = valid.pilots_are_below;
}

-- so are those of a valid index
pub index_pilots : (x : IndexData) → IsValidIndex x → All HasPilots x.parts
index_pilots x valid = λ k d within. valid_pilots x.shape (slice_index_or x.parts k d) valid.shape (valid.parts k d within)

-- all before the digest, piece by piece
pub built_body_is : (x : IndexData) (mark : KeyMarkData) (enc : Encoding) (old o1 o2 o3 o4 : List ℕ) (head : HeadFields) (ps qs : List PartData) →
    marked x mark ≡ x → o1 ≡ old ++ head_text head → head ≡ fields_of x enc → o2 ≡ o1 ++ flat_map number (mark.sum ∷ mark.xor ∷ []) →
    o3 ≡ o2 ++ flat_map number (key_counts ps) → ps ≡ x.parts → o4 ≡ o3 ++ parts_text enc qs → qs ≡ x.parts → o4 ≡ old ++ body_text x enc
unfolding body_text
built_body_is x mark enc old o1 o2 o3 o4 head ps qs own one fields two three p four q =
    let numbers = flat_map number (mark.sum ∷ mark.xor ∷ []) in
    let counts = flat_map number (key_counts x.parts) in
    let lists = parts_text enc x.parts in
    let behind : o4 ≡ o1 ++ (numbers ++ (counts ++ lists)) =
    three_pieces o1 o2 o3 o4 numbers counts lists two (three ∙ ap (λ xs. o2 ++ flat_map number (key_counts xs)) p)
    (four ∙ ap (λ xs. o3 ++ parts_text enc xs) q) in
    let rest = numbers ++ (counts ++ lists) in
    let head_is : head ≡ fields_of (marked x mark) enc = fields ∙ ap (λ y. fields_of y enc) (sym own) in
    behind ∙ ap (λ (t : List ℕ). t ++ rest) (one ∙ ap (λ (h : HeadFields). old ++ head_text h) head_is)
    ∙ append_assoc old (head_text (fields_of (marked x mark) enc)) rest ∙ ap (λ y. old ++ body_text y enc) own

-- what was appended is the index
pub appended_built : (old new : List ℕ) (x : IndexData) (enc : Encoding) → new ≡ old ++ index_text x enc → IsValidIndex x →
    IsIndex (drop (length old) new) x enc
appended_built old new x enc is valid =
    let text : drop (length old) new ≡ index_text x enc =
    ap (λ (t : List ℕ). drop (length old) t) is ∙ drop_at old (index_text x enc) (length old) refl in
    subst (λ (t : List ℕ). IsIndex t x enc) (sym text) (IsIndex-index_text x enc valid)
