-- Texts of lists, one more line at a time.
use Rattle.std.proofs.Common.{◌≡◌, ℕ, zero, suc, ◌+◌, ◌<◌, min, List, [], ◌∷◌}
use Rattle.std.proofs.Common.{◌++◌, length, take, get_or, refl, sym, ap, ◌∙◌, arith}
use Rattle.std.proofs.lemmas.List.{append_assoc, append-nil, take_more, length-take-le}
use Rattle.pthash.specs.Sizes.{table_size_of}
use Rattle.build_outcome.specs.declared.Cause.{Cause}
use Rattle.build_outcome.specs.Index.{PartData}
use Rattle.pth_top.specs.Pilots.{parts_lines}
use Rattle.pth_top.specs.Texts.{cause_line, cause_lines, part_lines}

-- a line more
pub cause_lines_more : (seeds : List ℕ) (causes : List Cause) (i : ℕ) (d : Cause) → i < length seeds → i < length causes →
    cause_lines (take (suc i) seeds) (take (suc i) causes) ≡ cause_lines (take i seeds) (take i causes) ++ cause_line (get_or seeds i 0) (get_or causes i d)
cause_lines_more [] causes i d in_seeds in_causes = absurd (omega arith)
cause_lines_more (s ∷ seeds) [] i d in_seeds in_causes = absurd (omega arith)
cause_lines_more (s ∷ seeds) (c ∷ causes) zero d in_seeds in_causes = append-nil (cause_line s c)
cause_lines_more (s ∷ seeds) (c ∷ causes) (suc i) d in_seeds in_causes =
    ap (λ (more : List ℕ). cause_line s c ++ more) (cause_lines_more seeds causes i d (omega arith) (omega arith))
    ∙ sym (append_assoc (cause_line s c) (cause_lines (take i seeds) (take i causes)) (cause_line (get_or seeds i 0) (get_or causes i d)))

-- all lines
pub cause_lines_all : (seeds : List ℕ) (causes : List Cause) (n : ℕ) → n ≡ min (length seeds) (length causes) →
    cause_lines (take n seeds) (take n causes) ≡ cause_lines seeds causes
cause_lines_all [] causes zero is = refl
cause_lines_all [] causes (suc n) is = absurd (omega arith)
cause_lines_all (s ∷ seeds) [] zero is = refl
cause_lines_all (s ∷ seeds) [] (suc n) is = absurd (omega arith)
cause_lines_all (s ∷ seeds) (c ∷ causes) zero is = absurd (omega arith)
cause_lines_all (s ∷ seeds) (c ∷ causes) (suc n) is = ap (λ (more : List ℕ). cause_line s c ++ more) (cause_lines_all seeds causes n (omega arith))

-- the lines of partitions, one behind the others
pub parts_lines_push : (alpha number : ℕ) (parts : List PartData) (part : PartData) →
    parts_lines alpha number (parts ++ part ∷ []) ≡ parts_lines alpha number parts ++ part_lines (number + length parts)
    part.n (table_size_of part.n alpha) part.pilots
parts_lines_push alpha number [] part =
    let same : number ≡ number + 0 = omega arith in
    append-nil (part_lines number part.n (table_size_of part.n alpha) part.pilots)
    ∙ ap (λ (k : ℕ). part_lines k part.n (table_size_of part.n alpha) part.pilots) same
parts_lines_push alpha number (p ∷ parts) part =
    let same : number + 1 + length parts ≡ number + suc (length parts) = omega arith in
    ap (λ (more : List ℕ). part_lines number p.n (table_size_of p.n alpha) p.pilots ++ more)
    (parts_lines_push alpha (number + 1) parts part
    ∙ ap (λ (k : ℕ). parts_lines alpha (number + 1) parts ++ part_lines k part.n (table_size_of part.n alpha) part.pilots) same)
    ∙ sym (append_assoc (part_lines number p.n (table_size_of p.n alpha) p.pilots) (parts_lines alpha (number + 1) parts)
    (part_lines (number + suc (length parts)) part.n (table_size_of part.n alpha) part.pilots))

-- the text of partitions, one more
pub parts_text_more : (alpha n keys size : ℕ) (parts : List PartData) (part : PartData) (start old new pilots : List ℕ) →
    n < length parts → get_or parts n part ≡ part → keys ≡ part.n → size ≡ table_size_of keys alpha → pilots ≡ part.pilots →
    old ≡ start ++ parts_lines alpha 0 (take n parts) → new ≡ old ++ part_lines n keys size pilots →
    new ≡ start ++ parts_lines alpha 0 (take (n + 1) parts)
parts_text_more alpha n keys size parts part start old new pilots within is counted room are so_far pushed =
    let front : List PartData = take n parts in
    let count : 0 + length front ≡ n = omega (arith, length-take-le n parts (omega arith)) in
    let grown : take (n + 1) parts ≡ front ++ part ∷ [] = take_more parts n part within ∙ ap (λ (p : PartData). front ++ p ∷ []) is in
    pushed
    ∙ ap (λ (text : List ℕ). text ++ part_lines n keys size pilots) so_far
    ∙ append_assoc start (parts_lines alpha 0 front) (part_lines n keys size pilots)
    ∙ ap (λ (text : List ℕ). start ++ (parts_lines alpha 0 front ++ text))
    (λ i. part_lines (sym count i) (counted i) ((room ∙ ap (λ (k : ℕ). table_size_of k alpha) counted) i) (are i))
    ∙ ap (λ (text : List ℕ). start ++ text) (sym (parts_lines_push alpha 0 front part))
    ∙ ap (λ (ps : List PartData). start ++ parts_lines alpha 0 ps) (sym grown)

-- the text of causes, one more
pub causes_text_more : (seeds : List ℕ) (causes : List Cause) (i : ℕ) (d : Cause) (start old new : List ℕ) → i < length seeds → i < length causes →
    old ≡ start ++ cause_lines (take i seeds) (take i causes) → new ≡ old ++ cause_line (get_or seeds i 0) (get_or causes i d) →
    new ≡ start ++ cause_lines (take (i + 1) seeds) (take (i + 1) causes)
causes_text_more seeds causes i d start old new in_seeds in_causes so_far pushed =
    let next : suc i ≡ i + 1 = omega arith in
    pushed
    ∙ ap (λ (text : List ℕ). text ++ cause_line (get_or seeds i 0) (get_or causes i d)) so_far
    ∙ append_assoc start (cause_lines (take i seeds) (take i causes)) (cause_line (get_or seeds i 0) (get_or causes i d))
    ∙ ap (λ (text : List ℕ). start ++ text) (sym (cause_lines_more seeds causes i d in_seeds in_causes))
    ∙ ap (λ (k : ℕ). start ++ cause_lines (take k seeds) (take k causes)) next

-- the text of all causes
pub causes_text_all : (seeds : List ℕ) (causes : List Cause) (n : ℕ) (start text : List ℕ) → n ≡ min (length seeds) (length causes) →
    text ≡ start ++ cause_lines (take n seeds) (take n causes) → text ≡ start ++ cause_lines seeds causes
causes_text_all seeds causes n start text is so_far = so_far ∙ ap (λ (more : List ℕ). start ++ more) (cause_lines_all seeds causes n is)
