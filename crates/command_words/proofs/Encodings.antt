-- The encodings that texts name.
use Rattle.std.proofs.Common.{◌≡◌, ℕ, List, Option, Some, None, Ok, Err, sym, ap, ◌∙◌}
use Rattle.std.specs.Prelude.{option_map, option_and_then, ok_or}
use Rattle.command_words.specs.declared.kinds.TheConstants.{RANGE}
use Rattle.command_words.specs.declared.values.TheConstants.{DASH}
use Rattle.pilot_codecs.specs.declared.code.Code.{Code}
use Rattle.pilot_codecs.specs.declared.code.Encoding.{Encoding}
use Rattle.command_words.specs.Values.{code_of, cut_at, one_code, two_codes, encoding_of, encoding_in}

-- a text with no dash names one code
pub encoding_of-whole : (text : List ℕ) (cut : Option (List ℕ × List ℕ)) (front : Option Code) → cut ≡ None →
    front ≡ code_of text → option_map one_code front ≡ encoding_of text cut
encoding_of-whole text cut front e is = ap (option_map one_code) is ∙ sym (ap (encoding_of text) e)

-- a text with a dash names two codes
pub encoding_of-parts : (text before after : List ℕ) (cut : Option (List ℕ × List ℕ)) (front back : Option Code) →
    cut ≡ Some (before, after) → front ≡ code_of before → back ≡ code_of after →
    option_and_then (λ f. option_map (two_codes f) back) front ≡ encoding_of text cut
encoding_of-parts text before after cut front back e f b =
    ap (λ r. option_and_then (λ f. option_map (two_codes f) back) r) f
    ∙ ap (λ r. option_and_then (λ f. option_map (two_codes f) r) (code_of before)) b
    ∙ sym (ap (encoding_of text) e)

-- the value of a setting that is an encoding
pub encoding_in-some : (text : List ℕ) (encoding : Encoding) →
    Some encoding ≡ encoding_of text (cut_at DASH text) → encoding_in text ≡ Ok encoding
unfolding encoding_in
encoding_in-some text encoding is = ap (λ r. ok_or r RANGE) (sym is)

-- a text that names no encoding
pub encoding_in-none : (text : List ℕ) → None ≡ encoding_of text (cut_at DASH text) → encoding_in text ≡ Err RANGE
unfolding encoding_in
encoding_in-none text is = ap (λ r. ok_or r RANGE) (sym is)
