-- What is read of the digest is its text, and its text is read again.
use Rattle.std.specs.Prelude.{◌≡◌, ℕ, ◌+◌, ◌-◌, ◌≤◌, false, cond, not, ◌==◌}
use Rattle.std.specs.Prelude.{nat_lt, List, [], ◌++◌, length, take, drop}
use Rattle.std.specs.Prelude.{slice_index, bytes_eq, Result, Ok, Err}
use Rattle.std.proofs.Common.{sym, ap, ◌∙◌, subst, arith}
use Rattle.std.proofs.lemmas.Bool.{eqb-true, eq-eqb, ltb-false, le-ltb, not-false}
use Rattle.std.proofs.lemmas.List.{drop_at, take_at, take-take, length-append, length-take, length-drop, take-append-drop, get_or-take}
use Rattle.std.proofs.lemmas.Slice.Eq.{bytes_eq-Decides}
use Rattle.pthash.specs.HashLaws.{hash_of-lt}
use Rattle.elias_fano.specs.Spelling.{number}
use Rattle.elias_fano.proofs.CallerLemmas.{IsBytes, IsBytes-take}
use Rattle.index_text.specs.declared.fault.IndexFault.{IndexFault}
use Rattle.index_text.specs.declared.fault.IndexFault.TheVariants as faults
use Rattle.index_text.specs.declared.head.TheConstants.{MAGIC, UNMARKED, MARKED, MIN_BYTES, MAX_BYTES}
use Rattle.index_text.specs.Text.{digest_of, with_digest}
use Rattle.index_text.specs.Fields.{word_at, body_of, kept_digest, is_version, sealed_at}
use Rattle.index_text.proofs.Steps.{guard_ok, ok_is, is_within-ok, is_within-again}
use Rattle.index_text.proofs.Words.{word_text, word_again}

-- ---- the digest

-- bytes whose digest is theirs, up to their fields
pub record IsSealed (bytes body : List ℕ) : Type 0 where
  pub few_bytes : length bytes ≤ MAX_BYTES
  pub text : bytes ≡ with_digest body
  pub some_bytes : MIN_BYTES ≤ length body + 8
  pub fits : IsBytes body
  pub magic : take 4 body ≡ MAGIC
  pub version_low : UNMARKED ≤ slice_index body 4
  pub version_high : slice_index body 4 ≤ MARKED

-- bytes end with the digest that is kept
kept_text : (bytes : List ℕ) → IsBytes bytes → 8 ≤ length bytes → bytes ≡ body_of bytes ++ number (kept_digest bytes)
kept_text bytes fits some =
    let at = length bytes - 8 in
    let end : length (drop (at + 8) bytes) ≡ 0 = omega (arith, length-drop (at + 8) bytes) in
    let none : drop (at + 8) bytes ≡ [] = Rattle.std.proofs.lemmas.List.nil_from_length (drop (at + 8) bytes) end in
    sym (take-append-drop at bytes)
    ∙ ap (λ (t : List ℕ). take at bytes ++ t) (word_text at bytes fits (omega arith) ∙ ap (λ (t : List ℕ). number (word_at at bytes) ++ t) none)

-- what passes the tests of the digest is bytes with their digest
pub sealed_takes : (bytes body : List ℕ) → IsBytes bytes → sealed_at bytes ≡ Ok body → IsSealed bytes body
unfolding sealed_at
sealed_takes bytes body fits e =
    let n = length bytes in
    let version = slice_index bytes 4 in
    let kept = kept_digest bytes in
    let counted = digest_of (body_of bytes) in
    let four : Result (List ℕ) IndexFault = cond (not (kept == counted)) (Err (faults.Digest kept counted)) (Ok (body_of bytes)) in
    let three : Result (List ℕ) IndexFault = cond (not (is_version version)) (Err (faults.Version version)) four in
    let two : Result (List ℕ) IndexFault = cond (not (bytes_eq (take 4 bytes) MAGIC)) (Err faults.Magic) three in
    let one : Result (List ℕ) IndexFault = cond (nat_lt n MIN_BYTES) (Err faults.Short) two in
    let a = guard_ok (nat_lt MAX_BYTES n) faults.Large one body e in
    let b = guard_ok (nat_lt n MIN_BYTES) faults.Short two body a.1 in
    let c = guard_ok (not (bytes_eq (take 4 bytes) MAGIC)) faults.Magic three body b.1 in
    let d = guard_ok (not (is_version version)) (faults.Version version) four body c.1 in
    let f = guard_ok (not (kept == counted)) (faults.Digest kept counted) (Ok (body_of bytes)) body d.1 in
    let least : MIN_BYTES ≤ n = ltb-false n MIN_BYTES b.0 in
    let size : length (body_of bytes) ≡ n - 8 = omega (arith, length-take (n - 8) bytes) in
    let magic : take 4 bytes ≡ MAGIC = (bytes_eq-Decides (take 4 bytes) MAGIC).0 (not-false (bytes_eq (take 4 bytes) MAGIC) c.0) in
    let digest : kept ≡ counted = eqb-true kept counted (not-false (kept == counted) f.0) in
    let range = is_within-ok UNMARKED MARKED version d.0 in
    let front : take 4 (body_of bytes) ≡ take 4 bytes = sealed_front bytes 4 (omega arith) in
    let at_four : slice_index (body_of bytes) 4 ≡ version = get_or-take (n - 8) bytes 4 0 (omega arith) in
    subst (IsSealed bytes) (ok_is (body_of bytes) body f.1) (record {
      few_bytes = ltb-false MAX_BYTES n a.0;
      text = kept_text bytes fits (omega arith) ∙ ap (λ (k : ℕ). body_of bytes ++ number k) digest;
      some_bytes = omega arith;
      fits = IsBytes-take (n - 8) bytes fits;
      magic = front ∙ magic;
      version_low = omega (arith, range.0, at_four);
      version_high = omega (arith, range.1, at_four);
    })
  where
    -- what stands before the digest begins as the bytes do
    sealed_front : (bs : List ℕ) (k : ℕ) → k + 8 ≤ length bs → take k (body_of bs) ≡ take k bs
    sealed_front bs k le = Rattle.std.proofs.lemmas.List.take-take k (length bs - 8) bs (omega arith)

-- bytes with their digest pass its tests
pub sealed_again : (body : List ℕ) → MIN_BYTES ≤ length body + 8 → length (with_digest body) ≤ MAX_BYTES → take 4 body ≡ MAGIC →
    UNMARKED ≤ slice_index body 4 → slice_index body 4 ≤ MARKED → sealed_at (with_digest body) ≡ Ok body
unfolding sealed_at
sealed_again body least most magic low high =
    let h = digest_of body in
    let bytes = with_digest body in
    let size : length bytes ≡ length body + 8 = length-append body (number h) in
    let at : length body ≡ length bytes - 8 = omega arith in
    let body_is : body_of bytes ≡ body = take_at body (number h) (length bytes - 8) at in
    let kept_is : kept_digest bytes ≡ h = word_again (length bytes - 8) bytes h [] (drop_at body (number h) (length bytes - 8) at) (hash_of-lt body 0) in
    let same : kept_digest bytes ≡ digest_of (body_of bytes) = kept_is ∙ ap digest_of (sym body_is) in
    let front : take 4 bytes ≡ MAGIC = Rattle.std.proofs.lemmas.List.take-append-le 4 body (number h) (omega arith) ∙ magic in
    let at_four : slice_index bytes 4 ≡ slice_index body 4 = Rattle.std.proofs.lemmas.List.get_or_append_left body (number h) 0 4 (omega arith) in
    let v = slice_index bytes 4 in
    let known = is_within-again UNMARKED MARKED v (omega (arith, at_four)) (omega (arith, at_four)) in
    let equal : not (bytes_eq (take 4 bytes) MAGIC) ≡ false = ap (λ (t : List ℕ). not (bytes_eq t MAGIC)) front in
    let sealed : not (kept_digest bytes == digest_of (body_of bytes)) ≡ false =
    ap not (eq-eqb (kept_digest bytes) (digest_of (body_of bytes)) same) in
    rw (le-ltb MAX_BYTES (length bytes) most, le-ltb (length bytes) MIN_BYTES (omega arith), equal, known, sealed) (ap (λ (t : List ℕ). Ok t) body_is)
