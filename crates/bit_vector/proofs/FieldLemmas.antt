-- Numbers of one width, one after the other, and packed word by word.
use Rattle.std.proofs.Common.{◌≡◌, ℕ, ◌+◌, ◌*◌, ◌-◌, ◌/◌, ◌%◌, ◌^◌, ◌<◌, ◌≤◌, Bool, true, false, List, []}
use Rattle.std.proofs.Common.{◌∷◌, ◌++◌, length, get_or, take, refl, sym, ap}
use Rattle.std.proofs.Common.{◌∙◌, append_assoc, subst, arith}
use Rattle.std.specs.Prelude.{bit_or}
use Rattle.std.proofs.Math.Nat.{pow-suc, mod-eq_of_lt, mod-add-div}
use Rattle.std.proofs.lemmas.Nat.{pow_pos, pow-add, mod_below, or_lt, shr_below, shr_split}
use Rattle.std.proofs.lemmas.List.{append-nil, length-append, length_push, take_more, take_at}
use Rattle.bit_vector.specs.Bits.{bits_of, bits_of_each, number_of, words_number, words_from, words_for, packed, IsPacked}
use Rattle.bit_vector.proofs.BitLemmas.{length-bits_of, number_of-bits_of, bits_of-append, number_of-lt, bits_of-number_of}
use Rattle.bit_vector.proofs.WordLemmas.{AreWords, words_number-push, words_from-words_number}
use Rattle.bit_vector.proofs.PackLemmas.{AreWords-push, joined, sum_lt}
use Rattle.bit_vector.proofs.SampleLemmas.{length-packed, AreWords-packed, words_number-packed}

-- what stands above the lowest bits doesn't matter to them
pub bits_of-high : (w n v : ℕ) → n < 2 ^ w → bits_of w (v * 2 ^ w + n) ≡ bits_of w n
unfolding bits_of
bits_of-high w n v lt =
    let turned : v * 2 ^ w + n ≡ n + v * 2 ^ w = omega arith in
    ap (λ (m : ℕ). bits_of w m) turned ∙ bits_of-append w 0 w n v (omega arith) lt ∙ append-nil (bits_of w n)

-- the lowest bits alone have the same bits
pub bits_of-low : (w v : ℕ) → bits_of w (v % 2 ^ w) ≡ bits_of w v
bits_of-low w v = sym (bits_of-high w (v % 2 ^ w) (v / 2 ^ w) (mod_below v (2 ^ w) (pow_pos w))) ∙ ap (λ (m : ℕ). bits_of w m) (shr_split v w)

-- as many bits as values times the width
pub length-bits_of_each : (w : ℕ) (vs : List ℕ) → length (bits_of_each w vs) ≡ length vs * w
unfolding bits_of_each
length-bits_of_each w [] = omega arith
length-bits_of_each w (v ∷ vs) = omega (arith, length-append (bits_of w v) (bits_of_each w vs), length-bits_of w v, length-bits_of_each w vs)

-- one value more
bits_of_each-push : (w : ℕ) (vs : List ℕ) (v : ℕ) → bits_of_each w (vs ++ v ∷ []) ≡ bits_of_each w vs ++ bits_of w v
unfolding bits_of_each
bits_of_each-push w [] v = append-nil (bits_of w v)
bits_of_each-push w (x ∷ vs) v = ap (λ (bs : List Bool). bits_of w x ++ bs) (bits_of_each-push w vs v)
    ∙ sym (append_assoc (bits_of w x) (bits_of_each w vs) (bits_of w v))

-- no values have no bits
pub no_bits : (w : ℕ) → [] ≡ bits_of_each w []
unfolding bits_of_each
no_bits w = refl

-- one value of a list more, by its lowest bits
pub bits_of_each-more : (w : ℕ) (vs : List ℕ) (i : ℕ) → i < length vs →
    bits_of_each w (take i vs) ++ bits_of w (get_or vs i 0 % 2 ^ w) ≡ bits_of_each w (take (i + 1) vs)
bits_of_each-more w vs i lt =
    ap (λ (bs : List Bool). bits_of_each w (take i vs) ++ bs) (bits_of-low w (get_or vs i 0)) ∙ sym (bits_of_each-push w (take i vs) (get_or vs i 0))
    ∙ ap (λ (xs : List ℕ). bits_of_each w xs) (sym (take_more vs i 0 lt))

-- bits behind others count from their place on
number_of-append : (xs ys : List Bool) → number_of (xs ++ ys) ≡ number_of xs + 2 ^ length xs * number_of ys
unfolding number_of
number_of-append [] ys = omega arith
number_of-append (true ∷ xs) ys =
    let p = ap (λ (q : ℕ). q * number_of ys) (pow-suc 2 (length xs)) in
    omega (arith, number_of-append xs ys, p)
number_of-append (false ∷ xs) ys =
    let p = ap (λ (q : ℕ). q * number_of ys) (pow-suc 2 (length xs)) in
    omega (arith, number_of-append xs ys, p)

-- the bits so far: whole words behind those from before, and the rest, which fills no word
pub record IsPacking (before words : List ℕ) (rest used : ℕ) (bits : List Bool) : Type 0 where
  pub front : List ℕ
  pub words_is : words ≡ before ++ front
  pub fit : AreWords front
  pub number : words_number front + 2 ^ (64 * length front) * rest ≡ number_of bits
  pub len : 64 * length front + used ≡ length bits
  pub clear : rest < 2 ^ used
  pub below : used < 64

-- nothing is packed yet
pub packing_none : (ws : List ℕ) → IsPacking ws ws 0 0 []
unfolding words_number number_of
packing_none ws = record {
  front = [];
  words_is = sym (append-nil ws);
  fit = λ i. omega arith;
  number = omega arith;
  len = refl;
  clear = omega arith;
  below = omega arith;
}

-- the number of the bits once a value more is put behind them
more_number : (bits : List Bool) (w v : ℕ) → v < 2 ^ w → number_of (bits ++ bits_of w v) ≡ number_of bits + 2 ^ length bits * v
more_number bits w v lt = number_of-append bits (bits_of w v)
    ∙ ap (λ (q : ℕ). number_of bits + 2 ^ length bits * q) (number_of-bits_of w v ∙ mod-eq_of_lt lt)

-- and how many bits they are
more_len : (bits : List Bool) (w v : ℕ) → length (bits ++ bits_of w v) ≡ length bits + w
more_len bits w v = omega (arith, length-append bits (bits_of w v), length-bits_of w v)

-- the place of the rest
place : (front bits : List Bool) (k used : ℕ) → 64 * k + used ≡ length bits → 2 ^ (64 * k) * 2 ^ used ≡ 2 ^ length bits
place front bits k used e = sym (pow-add 2 (64 * k) used) ∙ ap (λ (j : ℕ). 2 ^ j) e

-- a value that the rest has room for
pub packing_within : (before ws : List ℕ) (rest used w v : ℕ) (bits new : List Bool) → IsPacking before ws rest used bits → v < 2 ^ w →
    used + w < 64 →
    bits ++ bits_of w v ≡ new →
    IsPacking before ws (bit_or rest (v * 2 ^ used % 2 ^ 64)) (used + w) new
packing_within before ws rest used w v bits new p fits lt e =
    let larger : 2 ^ w ≤ 2 ^ (64 - used) = Rattle.std.proofs.Math.Nat.pow-le-pow_right (omega arith) (omega arith) in
    let word : bit_or rest (v * 2 ^ used % 2 ^ 64) ≡ v * 2 ^ used + rest = joined rest v used p.clear p.below
    ∙ ap (λ (q : ℕ). q * 2 ^ used + rest) (mod-eq_of_lt (omega (arith, larger))) in
    let k = length p.front in
    let times = ap (λ (q : ℕ). 2 ^ (64 * k) * q) word in
    let at = ap (λ (q : ℕ). q * v) (place bits bits k used p.len) in
    let clear : v * 2 ^ used + rest < 2 ^ (used + w) = omega (arith, sum_lt rest v used w p.clear fits) in
    subst (λ (bs : List Bool). IsPacking before ws (bit_or rest (v * 2 ^ used % 2 ^ 64)) (used + w) bs) e
    (record {
      front = p.front;
      words_is = p.words_is;
      fit = p.fit;
      number = omega (arith, times, at, p.number, more_number bits w v fits);
      len = omega (arith, p.len, more_len bits w v);
      clear = omega (arith, word, clear);
      below = lt;
    })

-- a value that fills the rest, so that a word is put behind the others
pub packing_across : (before ws more : List ℕ) (rest used w v left used2 : ℕ) (bits new : List Bool) → IsPacking before ws rest used bits →
    v < 2 ^ w → v < 2 ^ 64 → 64 ≤ used + w → w ≤ 64 → bits ++ bits_of w v ≡ new →
    more ≡ ws ++ bit_or rest (v * 2 ^ used % 2 ^ 64) ∷ [] → used2 ≡ used + w - 64 → left ≡ v / 2 ^ (w - used2) →
    IsPacking before more left used2 new
packing_across before ws more rest used w v left used2 bits new p fits small ge wide e m u l =
    let word = bit_or rest (v * 2 ^ used % 2 ^ 64) in
    let low = 64 - used in
    let same : w - used2 ≡ low = omega (arith, u, p.below) in
    let left-is : left ≡ v / 2 ^ low = l ∙ ap (λ (j : ℕ). v / 2 ^ j) same in
    let word-is : word ≡ v % 2 ^ low * 2 ^ used + rest = joined rest v used p.clear p.below in
    let k = length p.front in
    let longer : length (p.front ++ word ∷ []) ≡ k + 1 = length_push p.front word in
    let base : 2 ^ (64 * length (p.front ++ word ∷ [])) ≡ 2 ^ low * 2 ^ used * 2 ^ (64 * k) =
    ap (λ (j : ℕ). 2 ^ j) (omega (arith, longer, p.below)) ∙ pow-add 2 (low + used) (64 * k)
    ∙ ap (λ (q : ℕ). q * 2 ^ (64 * k)) (pow-add 2 low used) in
    let high = ap (λ (q : ℕ). q * left) base in
    let high2 = ap (λ (q : ℕ). 2 ^ low * 2 ^ used * 2 ^ (64 * k) * q) left-is in
    let times = ap (λ (q : ℕ). 2 ^ (64 * k) * q) word-is in
    let at = ap (λ (q : ℕ). q * v) (place bits bits k used p.len) in
    let parts = ap (λ (q : ℕ). 2 ^ (64 * k) * 2 ^ used * q) (mod-add-div v (2 ^ low)) in
    let whole : w ≡ used2 + low = omega (arith, u, p.below, ge) in
    let fits2 : v < 2 ^ (used2 + low) = subst (λ (j : ℕ). v < 2 ^ j) whole fits in
    let in_word : used ≤ 64 = omega (arith, p.below) in
    let most : 2 ^ used ≤ 2 ^ 64 = Rattle.std.proofs.Math.Nat.pow-le-pow_right (omega arith) in_word in
    let rest_small : rest < 2 ^ 64 = omega (arith, p.clear, most) in
    let small_word : word < 2 ^ 64 = or_lt 64 rest (v * 2 ^ used % 2 ^ 64) rest_small (omega arith) in
    subst (λ (bs : List Bool). IsPacking before more left used2 bs) e
    (record {
      front = p.front ++ word ∷ [];
      words_is = m ∙ ap (λ (xs : List ℕ). xs ++ word ∷ []) p.words_is ∙ append_assoc before p.front (word ∷ []);
      fit = AreWords-push p.front word p.fit small_word;
      number = omega (arith, words_number-push p.front word, high, high2, times, at, parts, p.number, more_number bits w v fits);
      len = omega (arith, longer, u, p.len, more_len bits w v);
      clear = subst (λ (q : ℕ). q < 2 ^ used2) (sym left-is) (shr_below v used2 low fits2);
      below = omega (arith, u, p.below, wide);
    })

-- words that the bits fill
filled : (before front ws : List ℕ) (bits : List Bool) → ws ≡ before ++ front → AreWords front → words_number front ≡ number_of bits →
    length front ≡ words_for (length bits) → ws ≡ before ++ packed bits
filled before front ws bits e fit number count =
    e ∙ ap (λ (xs : List ℕ). before ++ xs) (sym (words_from-words_number front fit) ∙ ap (λ (j : ℕ). words_from j (words_number front)) count
    ∙ ap (λ (m : ℕ). words_from (words_for (length bits)) m) number)

-- the bits end with a word
pub packed_whole_words : (before ws : List ℕ) (rest : ℕ) (bits : List Bool) → IsPacking before ws rest 0 bits → ws ≡ before ++ packed bits
packed_whole_words before ws rest bits p =
    let none : rest ≡ 0 = omega (arith, p.clear) in
    let number : words_number p.front ≡ number_of bits = omega (arith, p.number, ap (λ (q : ℕ). 2 ^ (64 * length p.front) * q) none) in
    filled before p.front ws bits p.words_is p.fit number (omega (arith, p.len))

-- the rest is the last word
pub packed_last_word : (before ws more : List ℕ) (rest used : ℕ) (bits : List Bool) → IsPacking before ws rest used bits → 0 < used →
    more ≡ ws ++ rest ∷ [] → more ≡ before ++ packed bits
packed_last_word before ws more rest used bits p pos e =
    let in_word : used ≤ 64 = omega (arith, p.below) in
    let most : 2 ^ used ≤ 2 ^ 64 = Rattle.std.proofs.Math.Nat.pow-le-pow_right (omega arith) in_word in
    let small : rest < 2 ^ 64 = omega (arith, p.clear, most) in
    let whole : more ≡ before ++ (p.front ++ rest ∷ []) = e ∙ ap (λ (xs : List ℕ). xs ++ rest ∷ []) p.words_is
    ∙ append_assoc before p.front (rest ∷ []) in
    filled before (p.front ++ rest ∷ []) more bits whole (AreWords-push p.front rest p.fit small) (omega (arith, words_number-push p.front rest, p.number))
    (omega (arith, length_push p.front rest, p.len, p.below))

-- what stood before still stands
pub packing_kept : (before words : List ℕ) (rest used : ℕ) (bits : List Bool) → IsPacking before words rest used bits →
    take (length before) words ≡ before
packing_kept before words rest used bits p = ap (λ (xs : List ℕ). take (length before) xs) p.words_is ∙ take_at before p.front (length before) refl

-- the words of a list of bits are packed, and they are seen as that list
pub record ArePackedBits (ws : List ℕ) (bits : List Bool) : Type 0 where
  pub packed_are : IsPacked ws (length bits)
  pub seen : bits_of (length bits) (words_number ws) ≡ bits

-- so the words of each list of bits are
pub packed_bits : (bits : List Bool) → ArePackedBits (packed bits) bits
packed_bits bits =
    let number = words_number-packed bits in
    record {
      packed_are = record {
        count = length-packed bits;
        fit = AreWords-packed bits;
        clear = subst (λ (m : ℕ). m < 2 ^ length bits) (sym number) (number_of-lt bits);
      };
      seen = ap (λ (m : ℕ). bits_of (length bits) m) number ∙ bits_of-number_of bits;
    }

-- the words of fields are packed, and are seen as their bits
pub fields_packed : (w len : ℕ) (vs ws : List ℕ) → ws ≡ packed (bits_of_each w vs) → len ≡ length vs * w →
    IsPacked ws len × (bits_of len (words_number ws) ≡ bits_of_each w vs)
fields_packed w len vs ws e l =
    let bits = bits_of_each w vs in
    let p : ArePackedBits ws bits = subst (λ (xs : List ℕ). ArePackedBits xs bits) (sym e) (packed_bits bits) in
    let n : length bits ≡ len = length-bits_of_each w vs ∙ sym l in
    (subst (λ (j : ℕ). IsPacked ws j) n p.packed_are, subst (λ (j : ℕ). bits_of j (words_number ws) ≡ bits) n p.seen)
