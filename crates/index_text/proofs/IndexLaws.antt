-- What is read is the text of a valid index, and the text of a valid index is read again.
use Rattle.std.specs.Prelude.{◌≡◌, ℕ, ◌+◌, ◌-◌, ◌<◌, ◌≤◌, ◌⊎◌, List, [], ◌∷◌, ◌++◌}
use Rattle.std.specs.Prelude.{length, drop, sum, slice_index, All, Option, Some, None}
use Rattle.std.specs.Prelude.{Result, Ok, ◌==◌}
use Rattle.std.specs.List.{flat_map}
use Rattle.std.proofs.Common.{refl, sym, ap, ◌∙◌, subst, inl, inr, arith}
use Rattle.std.proofs.lemmas.Bool.{eqb-true}
use Rattle.std.proofs.lemmas.List.{nil_from_length}
use Rattle.std.proofs.lemmas.List.Sums.{sum_by-cons}
use Rattle.std.proofs.lemmas.List.Elements.{All-nil, All-cons, All-head, All-tail}
use Rattle.pthash.specs.declared.TheConstants.{MAX_KEYS}
use Rattle.pthash.specs.declared.Map.{Map}
use Rattle.pthash.specs.declared.Map.TheVariants.{Skewed}
use Rattle.pthash.specs.Shapes.{ShapeData}
use Rattle.elias_fano.specs.Spelling.{number}
use Rattle.elias_fano.proofs.CallerLemmas.{IsBytes}
use Rattle.pilot_codecs.specs.declared.code.Encoding.{Encoding}
use Rattle.build_outcome.specs.Index.{PartData, KeyMarkData, IndexData}
use Rattle.build_outcome.specs.Values.{key_count}
use Rattle.build_outcome.specs.Validity.{IsValidPart, IsValidIndex}
use Rattle.index_text.specs.declared.fault.IndexFault.{IndexFault}
use Rattle.index_text.specs.declared.fault.IndexFault.TheVariants as faults
use Rattle.index_text.specs.declared.head.HeadFields.{HeadFields}
use Rattle.index_text.specs.declared.head.TheConstants.{UNMARKED, MARKED}
use Rattle.index_text.specs.Faults.{◌>>=◌}
use Rattle.index_text.specs.Text.{version_of, fields_of, head_text, mark_numbers, key_counts, parts_text, body_text, with_digest, index_text, IsIndex}
use Rattle.index_text.specs.Fields.{head_of, sealed_at, map_with, encoding_at, shape_at, mark_at, counts_at}
use Rattle.index_text.specs.Lists.{partitions_at}
use Rattle.index_text.specs.Reading.{ended, headed_at, index_at}
use Rattle.index_text.proofs.Steps.{bind_ok, last_ok, ok_is}
use Rattle.index_text.proofs.ListLaws.{PartsTaken, partitions_take, partitions_again}
use Rattle.index_text.proofs.DigestLaws.{sealed_takes, sealed_again}
use Rattle.index_text.proofs.HeadLaws.{AreFields, head_takes, head_again, encoding_takes, encoding_again}
use Rattle.index_text.proofs.HeadLaws.{map_takes, map_again, IsInRange, shape_takes, shape_again}
use Rattle.index_text.proofs.CountLaws.{MarkTaken, mark_takes, mark_again, CountsTaken, counts_take, counts_again}
use Rattle.index_text.proofs.LengthLaws.{length-key_counts, index_text-few, body_text-some}

-- the sum of the numbers of keys
sum-key_counts : (parts : List PartData) → sum (key_counts parts) ≡ key_count parts
sum-key_counts [] = refl
sum-key_counts (part ∷ parts) =
    omega (arith, sum_by-cons (λ (k : ℕ). k) part.n (key_counts parts), sum_by-cons (λ (p : PartData). p.n) part parts, sum-key_counts parts)

-- the numbers of keys of valid partitions are few
key_counts-few : (shape : ShapeData) (parts : List PartData) → All (IsValidPart shape) parts → All (λ k. k < MAX_KEYS + 1) (key_counts parts)
key_counts-few shape [] valid = All-nil (λ k. k < MAX_KEYS + 1)
key_counts-few shape (part ∷ parts) valid =
    let first : part.n ≤ MAX_KEYS = (All-head (IsValidPart shape) part parts valid).few_keys in
    All-cons (λ k. k < MAX_KEYS + 1) part.n (key_counts parts) (omega arith) (key_counts-few shape parts (All-tail (IsValidPart shape) part parts valid))

-- what was read behind the fields
record IsHeaded (head : HeadFields) (bytes : List ℕ) (x : IndexData) (enc : Encoding) : Type 0 where
  fields : fields_of x enc ≡ head
  valid : IsValidIndex x
  text : bytes ≡ flat_map number (mark_numbers x.mark) ++ (flat_map number (key_counts x.parts) ++ parts_text enc x.parts)

-- the steps of a reading behind the fields, put together
headed_is : (head : HeadFields) (bytes : List ℕ) (enc : Encoding) (spread : Map) (shape : ShapeData) (mark : Option KeyMarkData)
    (after counts lists : List ℕ) (parts : List PartData) → AreFields head → encoding_at head ≡ Ok enc →
    map_with head.version head.spread ≡ Ok spread →
    IsInRange spread head shape → MarkTaken head.version bytes mark after → CountsTaken head.n head.parts after counts lists →
    PartsTaken enc shape counts lists parts [] →
    IsHeaded head bytes (record { seed = head.seed; n = head.n; shape = shape; parts = parts; mark = mark }) enc
headed_is head bytes enc spread shape mark after counts lists parts fit enc_is map_is range m c p =
    let numbers = encoding_takes head enc enc_is in
    let spreads = map_takes head.version head.spread spread map_is in
    let alpha : shape.alpha ≡ head.alpha = ap (λ (s : ShapeData). s.alpha) range.shape_is in
    let buckets : shape.c ≡ head.c = ap (λ (s : ShapeData). s.c) range.shape_is in
    let same_map : shape.map ≡ spread = ap (λ (s : ShapeData). s.map) range.shape_is in
    let map_number_is = ap Rattle.index_text.specs.Text.map_number same_map ∙ spreads.0 in
    let part_count : length parts ≡ head.parts = sym (length-key_counts parts) ∙ ap length p.counts_are ∙ c.count in
    let adds : key_count parts ≡ head.n = sym (sum-key_counts parts) ∙ ap sum p.counts_are ∙ c.sum_is in
    let lists_text : lists ≡ parts_text enc parts = p.taken.parts ∙ Rattle.std.proofs.Common.append-nil (parts_text enc parts) in
    let counts_text : after ≡ flat_map number (key_counts parts) ++ parts_text enc parts =
    c.taken.parts ∙ (λ i. flat_map number (sym p.counts_are i) ++ lists_text i) in
    record {
      fields = λ i. record {
        version = m.version_is i;
        front = numbers.0 i;
        back = numbers.1 i;
        spread = map_number_is i;
        seed = head.seed;
        n = head.n;
        alpha = alpha i;
        c = buckets i;
        parts = part_count i;
      };
      valid = record {
        seed = fit.seed;
        some_key = range.some_key;
        few_keys = range.few_keys;
        shape = range.shape_ranges;
        some_part = omega (arith, range.some_part);
        few_parts = omega (arith, range.few_parts);
        counted = adds;
        parts = p.valid;
        mark = m.fits;
        unmarked_is_skewed = λ none. same_map ∙ spreads.1 (m.unmarked none);
      };
      text = m.taken.parts ∙ ap (λ (t : List ℕ). flat_map number (mark_numbers mark) ++ t) counts_text;
    }

-- what holds of one thing holds of the same
along : {A : Type 0} (P : A → Type 0) (x y : A) → x ≡ y → P x → P y
along P x y same holds = subst P same holds

-- what is read behind the fields is the text of a valid index
headed_takes : (total : ℕ) (head : HeadFields) (bytes : List ℕ) (x : IndexData) (enc : Encoding) → IsBytes bytes → AreFields head →
    UNMARKED ≤ head.version → head.version ≤ MARKED → headed_at total head bytes ≡ Ok (x, enc) → IsHeaded head bytes x enc
unfolding headed_at
headed_takes total head bytes x enc fits fit low high e =
    let y : IndexData × Encoding = (x, enc) in
    let made = λ (en : Encoding) (shape : ShapeData) (parts : List PartData) (mark : Option KeyMarkData).
    let there : IndexData = record { seed = head.seed; n = head.n; shape = shape; parts = parts; mark = mark } in there in
    let f5 = λ (en : Encoding) (shape : ShapeData) (mark : Option KeyMarkData × List ℕ) (parts : List PartData × List ℕ).
    ended {A = IndexData × Encoding} total parts.1 (made en shape parts.0 mark.0, en) in
    let f4 = λ (en : Encoding) (shape : ShapeData) (mark : Option KeyMarkData × List ℕ) (counts : List ℕ × List ℕ).
    partitions_at total en shape 0 counts.0 counts.1 >>= f5 en shape mark in
    let f3 = λ (en : Encoding) (shape : ShapeData) (mark : Option KeyMarkData × List ℕ).
    counts_at total head.n head.parts mark.1 >>= f4 en shape mark in
    let f2 = λ (en : Encoding) (shape : ShapeData). mark_at head.version bytes >>= f3 en shape in
    let f1 = λ (en : Encoding) (spread : Map). shape_at spread head >>= f2 en in
    let a = bind_ok (encoding_at head) (λ en. map_with head.version head.spread >>= f1 en) y e in
    let b = bind_ok (map_with head.version head.spread) (f1 a.0) y a.2 in
    let c = bind_ok (shape_at b.0 head) (f2 a.0) y b.2 in
    let d = bind_ok (mark_at head.version bytes) (f3 a.0 c.0) y c.2 in
    let g = bind_ok (counts_at total head.n head.parts d.0.1) (f4 a.0 c.0 d.0) y d.2 in
    let h = bind_ok (partitions_at total a.0 c.0 0 g.0.0 g.0.1) (f5 a.0 c.0 d.0) y g.2 in
    let k = last_ok {B = IndexData × Encoding} (length h.0.1 == 0) (faults.Long (total - length h.0.1)) (made a.0 c.0 h.0.0 d.0.0, a.0) y h.2 in
    let none : h.0.1 ≡ [] = nil_from_length h.0.1 (eqb-true (length h.0.1) 0 k.0) in
    let range = shape_takes b.0 head c.0 c.1 in
    let m = mark_takes head.version bytes d.0.0 d.0.1 fits low high d.1 in
    let n = counts_take total head.n head.parts d.0.1 g.0.0 g.0.1 m.taken.rest_fits g.1 in
    let p = partitions_take total a.0 c.0 0 g.0.0 g.0.1 h.0.0 h.0.1 range.shape_ranges n.taken.rest_fits n.few h.1 in
    let Q : List ℕ → Type 0 = λ r. PartsTaken a.0 c.0 g.0.0 g.0.1 h.0.0 r in
    let P : IndexData × Encoding → Type 0 = λ q. IsHeaded head bytes q.0 q.1 in
    along P (made a.0 c.0 h.0.0 d.0.0, a.0) y k.1
    (headed_is head bytes a.0 b.0 c.0 d.0.0 d.0.1 g.0.0 g.0.1 h.0.0 fit a.1 b.1 range m n (along Q h.0.1 [] none p))

-- the version stands at place 4
version_at : (body : List ℕ) → (head_of body).version ≡ slice_index body 4
unfolding head_of
version_at body = refl

-- what is read is an index
pub index_takes : (bytes : List ℕ) (x : IndexData) (enc : Encoding) → IsBytes bytes → index_at bytes ≡ Ok (x, enc) → IsIndex bytes x enc
unfolding index_at body_text
index_takes bytes x enc fits e =
    let a = bind_ok (sealed_at bytes) (λ body. headed_at (length body) (head_of body) (drop 48 body)) (x, enc) e in
    let body = a.0 in
    let s = sealed_takes bytes body fits a.1 in
    let h = head_takes body s.fits (omega (arith, s.some_bytes)) s.magic in
    let version : (head_of body).version ≡ slice_index body 4 = version_at body in
    let p = headed_takes (length body) (head_of body) (drop 48 body) x enc (Rattle.elias_fano.proofs.CallerLemmas.IsBytes-drop 48 body s.fits) h.1
    (omega (arith, s.version_low)) (omega (arith, s.version_high)) a.2 in
    let text : body ≡ body_text x enc = h.0 ∙ (λ i. head_text (sym p.fields i) ++ p.text i) in
    record { valid = p.valid; text = s.text ∙ ap with_digest text; few_bytes = s.few_bytes }

-- the fields of a valid index have 64 bits
AreFields-fields_of : (x : IndexData) (enc : Encoding) → IsValidIndex x → AreFields (fields_of x enc)
AreFields-fields_of x enc valid = record {
  seed = valid.seed;
  n = omega (arith, valid.few_keys);
  alpha = omega (arith, valid.shape.alpha_high);
  c = omega (arith, valid.shape.c_high);
  parts = omega (arith, valid.few_parts);
}

-- an index without a mark has the skewed map, one with a mark the second version
map_or_version : (x : IndexData) → IsValidIndex x → (x.shape.map ≡ Skewed) ⊎ (version_of x.mark ≡ MARKED)
map_or_version x valid = by_mark x.mark refl
  where
    -- by whether there is a mark
    by_mark : (mark : Option KeyMarkData) → x.mark ≡ mark → (x.shape.map ≡ Skewed) ⊎ (version_of x.mark ≡ MARKED)
    by_mark None is = inl (valid.unmarked_is_skewed is)
    by_mark (Some mark) is = inr (ap version_of is)

-- the text of a valid index behind its fields is read again
headed_again : (total : ℕ) (x : IndexData) (enc : Encoding) → IsValidIndex x →
    headed_at total (fields_of x enc) (flat_map number (mark_numbers x.mark) ++ (flat_map number (key_counts x.parts) ++ parts_text enc x.parts))
    ≡ Ok (x, enc)
unfolding headed_at
headed_again total x enc valid =
    let head = fields_of x enc in
    let shape = x.shape in
    let lists = parts_text enc x.parts in
    let after = flat_map number (key_counts x.parts) ++ lists in
    let bytes = flat_map number (mark_numbers x.mark) ++ after in
    let range : IsInRange shape.map head shape = record {
      some_key = valid.some_key;
      few_keys = valid.few_keys;
      some_part = valid.some_part;
      few_parts = valid.few_parts;
      shape_ranges = valid.shape;
      shape_is = refl;
    } in
    let one : encoding_at head ≡ Ok enc = encoding_again head enc refl refl in
    let two : map_with head.version head.spread ≡ Ok shape.map = map_again head.version shape.map (map_or_version x valid) in
    let three : shape_at shape.map head ≡ Ok shape = shape_again head shape range in
    let four : mark_at head.version bytes ≡ Ok (x.mark, after) = mark_again x.mark after valid.mark in
    let five : counts_at total head.n head.parts after ≡ Ok (key_counts x.parts, lists) =
    ap (λ (k : ℕ). counts_at total head.n k after) (sym (length-key_counts x.parts))
    ∙ counts_again total head.n (key_counts x.parts) lists (key_counts-few shape x.parts valid.parts) (sum-key_counts x.parts ∙ valid.counted) in
    let six : partitions_at total enc shape 0 (key_counts x.parts) lists ≡ Ok (x.parts, []) =
    ap (λ (t : List ℕ). partitions_at total enc shape 0 (key_counts x.parts) t) (sym (Rattle.std.proofs.Common.append-nil lists))
    ∙ partitions_again total enc shape 0 x.parts [] valid.shape valid.parts in
    rw (one, two, three, four, five, six) refl

-- the text of a valid index is read again
pub index_again : (x : IndexData) (enc : Encoding) → IsValidIndex x → index_at (index_text x enc) ≡ Ok (x, enc)
unfolding index_at body_text
index_again x enc valid =
    let head = fields_of x enc in
    let after = flat_map number (mark_numbers x.mark) ++ (flat_map number (key_counts x.parts) ++ parts_text enc x.parts) in
    let body = head_text head ++ after in
    let fit = AreFields-fields_of x enc valid in
    let h = head_again head after fit in
    let versions = version_range x.mark in
    let sealed : sealed_at (with_digest body) ≡ Ok body =
    sealed_again body (body_text-some x enc) (index_text-few x enc valid) refl versions.0 versions.1 in
    ap (λ (r : Result (List ℕ) IndexFault). r >>= λ b. headed_at (length b) (head_of b) (drop 48 b)) sealed
    ∙ (λ i. headed_at (length body) (h.0 i) (h.1 i))
    ∙ headed_again (length body) x enc valid
  where
    -- the version is one of both
    version_range : (mark : Option KeyMarkData) → (UNMARKED ≤ version_of mark) × (version_of mark ≤ MARKED)
    version_range None = (omega arith, omega arith)
    version_range (Some mark) = (omega arith, omega arith)

-- an index is read
pub index_only : (bytes : List ℕ) (x : IndexData) (enc : Encoding) → IsIndex bytes x enc → index_at bytes ≡ Ok (x, enc)
index_only bytes x enc is = ap index_at is.text ∙ index_again x enc is.valid

-- bytes are those of one index under one encoding
pub index_once : (bytes : List ℕ) (x y : IndexData) (enc other : Encoding) → IsIndex bytes x enc → IsIndex bytes y other → (x ≡ y) × (enc ≡ other)
index_once bytes x y enc other one two =
    let both = ok_is {A = IndexData × Encoding} (x, enc) (y, other) (sym (index_only bytes x enc one) ∙ index_only bytes y other two) in
    (ap (λ (p : IndexData × Encoding). p.0) both, ap (λ (p : IndexData × Encoding). p.1) both)

-- the text of a valid index is an index
pub IsIndex-index_text : (x : IndexData) (enc : Encoding) → IsValidIndex x → IsIndex (index_text x enc) x enc
IsIndex-index_text x enc valid = record { valid = valid; text = refl; few_bytes = index_text-few x enc valid }
