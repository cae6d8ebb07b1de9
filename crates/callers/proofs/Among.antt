-- What is written between other bytes is spelled there.
use Rattle.std.proofs.Common.{◌≡◌, ℕ, ◌+◌, List, ◌++◌, length}
use Rattle.elias_fano.specs.Spelling.{IsRising, ef_text}
use Rattle.elias_fano.specs.Reading.{IsSpelled as IsRisingSpelled}
use Rattle.elias_fano.proofs.CallerLemmas.{spelled_among as rising_among}
use Rattle.pilot_codecs.specs.declared.code.Encoding.{Encoding}
use Rattle.pilot_codecs.specs.Spelling.{pair_text}
use Rattle.pilot_codecs.specs.Encoded.{Encoded, HasText, IsSpelled}
use Rattle.pilot_codecs.proofs.CallerLemmas.{spelled_among}

-- a list under an encoding
pub written_spelled : (list : Encoded) (enc : Encoding) (vs before after bytes : List ℕ) (count : ℕ) → HasText list →
    list.enc ≡ enc → list.values ≡ vs → bytes ≡ before ++ pair_text list.enc list.values ++ after → count ≡ length list.values →
    IsSpelled bytes (length before) count enc vs (length before + length (pair_text enc vs))
written_spelled list enc vs before after bytes count fit enc-is vs-is text count-is =
    rw (text, count-is, ← enc-is, ← vs-is) (spelled_among list.enc before list.values after fit)

-- a list that doesn't fall
pub rising_spelled : (list vs before after bytes : List ℕ) (count : ℕ) → IsRising list → list ≡ vs →
    bytes ≡ before ++ ef_text list ++ after → count ≡ length list →
    IsRisingSpelled bytes (length before) count vs (length before + length (ef_text vs))
rising_spelled list vs before after bytes count rising vs-is text count-is =
    rw (text, count-is, ← vs-is) (rising_among before list after rising)
