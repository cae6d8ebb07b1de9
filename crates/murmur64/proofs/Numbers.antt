-- The numbers that `byteorder` reads are those of the definition of the hash.
use Rattle.std.proofs.Common.{◌≡◌, ℕ, ◌+◌, ◌*◌, ◌^◌, ◌<◌, ◌≤◌, List, []}
use Rattle.std.proofs.Common.{◌∷◌, length, take, refl, sym, ap, ◌∙◌, append-nil, arith}
use Rattle.std.proofs.lemmas.List.{length-take}
use Rattle.std.specs.Int.{w64, to_le_bytes}
use Rattle.byteorder.specs.Endian.{little_from}
use Rattle.byteorder.specs.Numbers.{little_from-cons, little_from-take, little_number-reads_back}
use Rattle.pthash.specs.Hash.{number_of}

-- all bytes of a list
pub little_from-all : (bytes : List ℕ) → little_from 0 (length bytes) bytes ≡ number_of bytes
little_from-all [] = refl
little_from-all (b ∷ bs) =
    let moved = little_from-cons 0 (length bs) b bs in
    let rest = little_from-all bs in
    ap (λ (x : ℕ). b + 256 * x) (moved ∙ rest)

-- the first eight bytes of a list
pub little_from-block : (bytes : List ℕ) → 8 ≤ length bytes → little_from 0 8 bytes ≡ number_of (take 8 bytes)
little_from-block bytes has_block =
    let len : length (take 8 bytes) ≡ 8 = omega (arith, length-take {A = ℕ}) in
    sym (little_from-take 0 8 8 bytes (omega arith))
    ∙ ap (λ (n : ℕ). little_from 0 n (take 8 bytes)) (sym len)
    ∙ little_from-all (take 8 bytes)

-- the eight bytes of a number spell it
pub number_of-bytes : (x : ℕ) → x < 2 ^ 64 → number_of (to_le_bytes w64 x) ≡ x
number_of-bytes x fits =
    sym (little_from-all (to_le_bytes w64 x))
    ∙ ap (little_from 0 8) (sym (append-nil (to_le_bytes w64 x)))
    ∙ little_number-reads_back 8 x [] fits
