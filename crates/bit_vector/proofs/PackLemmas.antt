-- Words that hold just so many bits, and bits that are put behind them.
use Rattle.std.proofs.Common.{◌≡◌, ℕ, zero, suc, ◌+◌, ◌*◌, ◌-◌, ◌/◌, ◌%◌, ◌^◌, ◌<◌, ◌≤◌, ◌↔◌, true, eqb, List}
use Rattle.std.proofs.Common.{[], ◌∷◌, ◌++◌, length, get_or, drop, set, refl}
use Rattle.std.proofs.Common.{sym, ap, ◌∙◌, subst, arith}
use Rattle.std.specs.Prelude.{bit_or}
use Rattle.std.proofs.Math.Nat.{lt-div-mul-add, div-eq_of_lt, mod-eq_of_lt, mod-add-div}
use Rattle.std.proofs.lemmas.Bool.{eqb-true, eq-eqb}
use Rattle.std.proofs.lemmas.Nat.{pow_pos, pow-add, or_shifted, or_comm, or_lt, mul-le, shr_le}
use Rattle.std.proofs.lemmas.List.{drop_all, length_push, get_or_append_left, length-set, get_or_read}
use Rattle.bit_vector.specs.Bits.{words_number, words_for, IsPacked}
use Rattle.bit_vector.proofs.WordLemmas.{AreWords, words_number-lt, words_number-set, words_number-push}
use Rattle.bit_vector.proofs.ReadLemmas.{words_number-at, from_place, shl_dropped}

-- a number that leaves nothing above a power is below it
pub below_from_div : (n k : ℕ) → n / 2 ^ k ≡ 0 → n < 2 ^ k
below_from_div n k e =
    let h : n < n / 2 ^ k * 2 ^ k + 2 ^ k = lt-div-mul-add (pow_pos k) in
    omega (arith, h, ap (λ (q : ℕ). q * 2 ^ k) e)

-- what stands above the bits is what stands above them in the last word
high_part : (ws : List ℕ) (len : ℕ) → AreWords ws → length ws ≡ words_for len → 0 < len % 64 →
    words_number ws / 2 ^ len ≡ get_or ws (len / 64) 0 / 2 ^ (len % 64)
unfolding words_number
high_part ws len h count pos =
    let w = len / 64 in
    let none : words_number (drop (w + 1) ws) ≡ 0 = ap words_number (drop_all (w + 1) ws (omega arith)) in
    let here : words_number ws / 2 ^ (64 * w) ≡ get_or ws w 0 = words_number-at ws w h (omega arith) ∙ omega (arith, none) in
    from_place (words_number ws) len ∙ ap (λ (m : ℕ). m / 2 ^ (len % 64)) here

-- words that are full are packed
pub packed_whole : (ws : List ℕ) (len : ℕ) → AreWords ws → length ws ≡ words_for len → len % 64 ≡ 0 → IsPacked ws len
packed_whole ws len h count even =
    let e : 64 * length ws ≡ len = omega arith in
    record { count = count; fit = h; clear = subst (λ (j : ℕ). words_number ws < 2 ^ j) e (words_number-lt ws h) }

-- no words are no bits, packed
pub packed_none : IsPacked [] 0
packed_none = packed_whole [] 0 (λ i. omega arith) refl refl

-- words are packed where the last one has no bit behind the used ones
pub packed_last : (ws : List ℕ) (len : ℕ) → AreWords ws → length ws ≡ words_for len → 0 < len % 64 →
    (eqb (get_or ws (len / 64) 0 / 2 ^ (len % 64)) 0 ≡ true) ↔ IsPacked ws len
packed_last ws len h count pos =
    let e = high_part ws len h count pos in (
      λ t. record { count = count; fit = h; clear = below_from_div (words_number ws) len (e ∙ eqb-true _ _ t) },
      λ p. eq-eqb _ _ (sym e ∙ div-eq_of_lt p.clear),
    )

-- the last word of packed ones has no bit behind the used ones
pub last_clear : (ws : List ℕ) (len : ℕ) → IsPacked ws len → 0 < len % 64 → get_or ws (len / 64) 0 < 2 ^ (len % 64)
last_clear ws len p pos = below_from_div (get_or ws (len / 64) 0) (len % 64) (sym (high_part ws len p.fit p.count pos) ∙ div-eq_of_lt p.clear)

-- a number put above another in a word keeps what fits
pub joined : (x v s : ℕ) → x < 2 ^ s → s < 64 → bit_or x (v * 2 ^ s % 2 ^ 64) ≡ v % 2 ^ (64 - s) * 2 ^ s + x
joined x v s clear lt =
    let back : 64 - (64 - s) ≡ s = omega arith in
    let shifted : v * 2 ^ s % 2 ^ 64 ≡ v % 2 ^ (64 - s) * 2 ^ s =
    subst (λ (j : ℕ). v * 2 ^ j % 2 ^ 64 ≡ v % 2 ^ (64 - s) * 2 ^ j) back (shl_dropped v (64 - s) (omega arith)) in
    ap (λ (q : ℕ). bit_or x q) shifted ∙ or_comm x (v % 2 ^ (64 - s) * 2 ^ s) ∙ or_shifted (v % 2 ^ (64 - s)) s x clear

-- a value put into a word above its bits is added to the number of the words
pub join_number : (ws : List ℕ) (w v s : ℕ) → w < length ws → s < 64 → get_or ws w 0 < 2 ^ s →
    words_number (set ws w (bit_or (get_or ws w 0) (v * 2 ^ s % 2 ^ 64))) ≡ words_number ws + v % 2 ^ (64 - s) * 2 ^ (64 * w + s)
join_number ws w v s lt less clear =
    let x = get_or ws w 0 in
    let y = bit_or x (v * 2 ^ s % 2 ^ 64) in
    let t = v % 2 ^ (64 - s) in
    let e = words_number-set ws w y lt in
    let j = ap (λ (q : ℕ). q * 2 ^ (64 * w)) (joined x v s clear less) in
    let p = ap (λ (q : ℕ). t * q) (pow-add 2 (64 * w) s) in
    omega (arith, e, j, p)

-- one word more leaves all of them words
pub AreWords-push : (ws : List ℕ) (v : ℕ) → AreWords ws → v < 2 ^ 64 → AreWords (ws ++ v ∷ [])
AreWords-push [] v h lt zero = lt
AreWords-push [] v h lt (suc i) = omega arith
AreWords-push (x ∷ ws) v h lt zero = h 0
AreWords-push (x ∷ ws) v h lt (suc i) = AreWords-push ws v (λ j. h (suc j)) lt i

-- a number put above another is below the power of both lengths
pub sum_lt : (n v len width : ℕ) → n < 2 ^ len → v < 2 ^ width → n + v * 2 ^ len < 2 ^ (len + width)
sum_lt n v len width nlt vlt =
    let p = pow-add 2 len width in
    let m = mul-le (v + 1) (2 ^ len) (2 ^ width) (2 ^ len) (omega arith) (omega arith) in
    omega (arith, p, m)

-- bits that are put behind whole words
pub push_whole : (ws : List ℕ) (len v : ℕ) → IsPacked ws len → len % 64 ≡ 0 → words_number (ws ++ v ∷ []) ≡ words_number ws + v * 2 ^ len
push_whole ws len v p even =
    let e : 64 * length ws ≡ len = omega (arith, p.count) in
    words_number-push ws v ∙ subst (λ (j : ℕ). words_number ws + 2 ^ (64 * length ws) * v ≡ words_number ws + v * 2 ^ j) e (omega arith)

-- words of the right number and length are packed
pub packed_from : (ws new : List ℕ) (len v width : ℕ) → IsPacked ws len → v < 2 ^ width → length new ≡ words_for (len + width) → AreWords new →
    words_number new ≡ words_number ws + v * 2 ^ len → IsPacked new (len + width)
packed_from ws new len v width p fits count fit e =
    record { count = count; fit = fit; clear = subst (λ (m : ℕ). m < 2 ^ (len + width)) (sym e) (sum_lt (words_number ws) v len width p.clear fits) }

-- bits that stay within the last word
pub join_within : (len v width : ℕ) → len % 64 + width ≤ 64 → v < 2 ^ width →
    v % 2 ^ (64 - len % 64) * 2 ^ (64 * (len / 64) + len % 64) ≡ v * 2 ^ len
join_within len v width le fits =
    let whole : 64 * (len / 64) + len % 64 ≡ len = omega arith in
    let larger : 2 ^ width ≤ 2 ^ (64 - len % 64) = Rattle.std.proofs.Math.Nat.pow-le-pow_right (omega arith) (omega arith) in
    ap (λ (q : ℕ). q * 2 ^ (64 * (len / 64) + len % 64)) (mod-eq_of_lt (omega arith)) ∙ ap (λ (j : ℕ). v * 2 ^ j) whole

-- bits that go on in a new word
pub join_across : (ws : List ℕ) (len v n : ℕ) → IsPacked ws len → 0 < len % 64 →
    n ≡ words_number (ws ++ v / 2 ^ (64 - len % 64) ∷ []) + v % 2 ^ (64 - len % 64) * 2 ^
    (64 * (len / 64) + len % 64) → n ≡ words_number ws + v * 2 ^ len
join_across ws len v n p pos e =
    let s = len % 64 in
    let k = 64 - s in
    let whole : 64 * (len / 64) + s ≡ len = omega arith in
    let next : 64 * length ws ≡ k + len = omega (arith, p.count) in
    let low = ap (λ (j : ℕ). v % 2 ^ k * 2 ^ j) whole in
    let high : 2 ^ (64 * length ws) * (v / 2 ^ k) ≡ 2 ^ k * 2 ^ len * (v / 2 ^ k) = ap (λ (q : ℕ). q * (v / 2 ^ k)) (ap (λ (j : ℕ). 2 ^ j) next
    ∙ pow-add 2 k len) in
    let parts = ap (λ (q : ℕ). q * 2 ^ len) (mod-add-div v (2 ^ k)) in
    omega (arith, e, words_number-push ws (v / 2 ^ k), low, high, parts)

-- a word that is replaced leaves all of them words
pub AreWords-set : (ws : List ℕ) (i y : ℕ) → AreWords ws → y < 2 ^ 64 → AreWords (set ws i y)
AreWords-set [] i y h lt j = h j
AreWords-set (x ∷ ws) zero y h lt zero = lt
AreWords-set (x ∷ ws) zero y h lt (suc j) = h (suc j)
AreWords-set (x ∷ ws) (suc i) y h lt zero = h 0
AreWords-set (x ∷ ws) (suc i) y h lt (suc j) = AreWords-set ws i y (λ k. h (suc k)) lt j

-- what a run of bits is after others are put behind it
pub record IsAppended (ws new : List ℕ) (len v width : ℕ) : Type 0 where
  pub number : words_number new ≡ words_number ws + v * 2 ^ len
  pub packed : IsPacked new (len + width)

-- a word with a value put above its bits is a word
word_lt : (x v s : ℕ) → x < 2 ^ 64 → bit_or x (v * 2 ^ s % 2 ^ 64) < 2 ^ 64
word_lt x v s lt = or_lt 64 x (v * 2 ^ s % 2 ^ 64) lt (omega arith)

-- a value behind full words is a word of its own
pub appended_whole : (ws new : List ℕ) (len v width : ℕ) → IsPacked ws len → len % 64 ≡ 0 → 0 < width → width ≤ 64 → v < 2 ^ width →
    v < 2 ^ 64 →
    new ≡ ws ++ v ∷ [] → IsAppended ws new len v width
appended_whole ws new len v width p even some wide fits small e =
    let number = push_whole ws len v p even in
    let count : length (ws ++ v ∷ []) ≡ words_for (len + width) = omega (arith, length_push ws v, p.count) in
    let whole : IsAppended ws (ws ++ v ∷ []) len v width =
    record { number = number; packed = packed_from ws (ws ++ v ∷ []) len v width p fits count (AreWords-push ws v p.fit small) number } in
    subst (λ (new : List ℕ). IsAppended ws new len v width) (sym e) whole

-- a value that fits the last word is put into it
pub appended_within : (ws : List ℕ) (len v width x : ℕ) → IsPacked ws len → 0 < len % 64 → len % 64 + width ≤ 64 → v < 2 ^ width →
    x ≡ get_or ws (len / 64) x →
    IsAppended ws (set ws (len / 64) (bit_or x (v * 2 ^ (len % 64) % 2 ^ 64))) len v width
appended_within ws len v width x p pos le fits e =
    let w = len / 64 in
    let s = len % 64 in
    let lt : w < length ws = omega (arith, p.count) in
    let x-is : x ≡ get_or ws w 0 = get_or_read ws w x lt e 0 in
    let new = set ws w (bit_or (get_or ws w 0) (v * 2 ^ s % 2 ^ 64)) in
    let number : words_number new ≡ words_number ws + v * 2 ^ len = join_number ws w v s lt (omega arith) (last_clear ws len p pos)
    ∙ ap (λ (q : ℕ). words_number ws + q) (join_within len v width le fits) in
    let count : length new ≡ words_for (len + width) = omega (arith, length-set ws w (bit_or (get_or ws w 0) (v * 2 ^ s % 2 ^ 64)), p.count) in
    let fit = AreWords-set ws w (bit_or (get_or ws w 0) (v * 2 ^ s % 2 ^ 64)) p.fit (word_lt (get_or ws w 0) v s (p.fit w)) in
    subst (λ (x : ℕ). IsAppended ws (set ws w (bit_or x (v * 2 ^ s % 2 ^ 64))) len v width) (sym x-is) (record {
      number = number;
      packed = packed_from ws new len v width p fits count fit number;
    })

-- a value that doesn't fit the last word goes on in a new one
pub appended_across : (ws more : List ℕ) (len v width x : ℕ) → IsPacked ws len → 0 < len % 64 → 64 < len % 64 + width → width ≤ 64 →
    v < 2 ^ width → v < 2 ^ 64
    → more ≡ ws ++ v / 2 ^ (64 - len % 64) ∷ [] → x ≡ get_or more (len / 64) x →
    IsAppended ws (set more (len / 64) (bit_or x (v * 2 ^ (len % 64) % 2 ^ 64))) len v width
appended_across ws more len v width x p pos gt wide fits small m e =
    let w = len / 64 in
    let s = len % 64 in
    let high = v / 2 ^ (64 - s) in
    let lt : w < length ws = omega (arith, p.count) in
    let longer : length (ws ++ high ∷ []) ≡ length ws + 1 = length_push ws high in
    let same : get_or (ws ++ high ∷ []) w 0 ≡ get_or ws w 0 = get_or_append_left ws (high ∷ []) 0 w lt in
    let clear : get_or (ws ++ high ∷ []) w 0 < 2 ^ s = subst (λ (q : ℕ). q < 2 ^ s) (sym same) (last_clear ws len p pos) in
    let e2 = subst (λ (l : List ℕ). x ≡ get_or l w x) m e in
    let x-is : x ≡ get_or (ws ++ high ∷ []) w 0 = get_or_read (ws ++ high ∷ []) w x (omega arith) e2 0 in
    let y = bit_or (get_or (ws ++ high ∷ []) w 0) (v * 2 ^ s % 2 ^ 64) in
    let new = set (ws ++ high ∷ []) w y in
    let number : words_number new ≡ words_number ws + v * 2 ^ len =
    join_across ws len v (words_number new) p pos (join_number (ws ++ high ∷ []) w v s (omega arith) (omega arith) clear) in
    let count : length new ≡ words_for (len + width) = omega (arith, length-set (ws ++ high ∷ []) w y, longer, p.count) in
    let grown : AreWords (ws ++ high ∷ []) = AreWords-push ws high p.fit (omega (arith, shr_le v (64 - s))) in
    let fit = AreWords-set (ws ++ high ∷ []) w y grown (word_lt (get_or (ws ++ high ∷ []) w 0) v s (grown w)) in
    let done : IsAppended ws new len v width = record { number = number; packed = packed_from ws new len v width p fits count fit number } in
    subst (λ (l : List ℕ). IsAppended ws (set l w (bit_or x (v * 2 ^ s % 2 ^ 64))) len v width) (sym m)
    (subst (λ (x : ℕ). IsAppended ws (set (ws ++ high ∷ []) w (bit_or x (v * 2 ^ s % 2 ^ 64))) len v width) (sym x-is) done)
