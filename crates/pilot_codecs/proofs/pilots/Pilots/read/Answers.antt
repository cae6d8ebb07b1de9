use Rattle.std.proofs.Common.{◌≡◌, ℕ, List, drop, Ok, Err, refl, sym, ap, ◌∙◌, arith}
use Rattle.elias_fano.proofs.CallerLemmas.{IsBytes-drop}
use Rattle.pilot_codecs.specs.Reading.{code_at}
use Rattle.pilot_codecs.specs.Encoded.{front_len, pair_at}
use Rattle.pilot_codecs.proofs.CodeLaws.{split_takes, spelled_at, spelled_again, spelled_same, spelled_once}
use Rattle.std.proofs.lemmas.Result.{err_from_is_err_and}
use Rattle.std.proofs.lemmas.List.{take_rest}
use Rattle.elias_fano.proofs.CallerLemmas.{fails_not, tells_same}
use Rattle.pilot_codecs.proofs.pilots.Pilots.read.Goals as goal

pub returns-in_err-list-clause-only : goal.returns-in_err-list-clause-only
returns-in_err-list-clause-only c =
    let bytes = c.args.bytes.now in
    let at = c.args.at in
    let p = err_from_is_err_and c.from_residual.result c.from_residual.ensures.1 in
    rw (p.1, p.2) (λ vs next s. fails_not c.in_err-list.field-0.0 _ (vs, drop next bytes) (
      vs,
      next,
    ) (ap (λ (t : List ℕ). pair_at c.args.enc at c.args.count t) (take_rest bytes at)
    ∙ spelled_again bytes at c.args.count c.args.enc vs next s) c.in_err-list.ensures.values)

pub returns-in_err-list-clause-one : goal.returns-in_err-list-clause-one
returns-in_err-list-clause-one c = λ vs us m n s t. spelled_once c.args.bytes.now c.args.at c.args.count c.args.enc vs us m n s t

pub overflow_sub-result : goal.overflow_sub-result
overflow_sub-result c =
    let bytes = c.args.bytes.now in
    let at = c.args.at in
    let rest = c.in_ok-list.rest.now in
    let vs = c.in_ok-list.list.values in
    let read : pair_at c.args.enc at c.args.count (drop at bytes) ≡ Ok (vs, rest) =
    ap (λ (t : List ℕ). pair_at c.args.enc at c.args.count t) (sym (take_rest bytes at)) ∙ c.in_ok-list.ensures.values in
    let t = split_takes c.args.enc.front c.args.enc.back at c.args.count (drop at bytes) vs rest
    (IsBytes-drop at bytes (λ i. omega (arith, c.type_inv.bytes i))) c.requires.few read in
    let s = spelled_at bytes at c.args.count c.args.enc vs rest c.requires.within t in
    omega (arith, s.0)

pub returns-clause-found : goal.returns-clause-found
returns-clause-found c =
    let bytes = c.args.bytes.now in
    let at = c.args.at in
    let rest = c.in_ok-list.rest.now in
    let vs = c.in_ok-list.list.values in
    let read : pair_at c.args.enc at c.args.count (drop at bytes) ≡ Ok (vs, rest) =
    ap (λ (t : List ℕ). pair_at c.args.enc at c.args.count t) (sym (take_rest bytes at)) ∙ c.in_ok-list.ensures.values in
    let t = split_takes c.args.enc.front c.args.enc.back at c.args.count (drop at bytes) vs rest
    (IsBytes-drop at bytes (λ i. omega (arith, c.type_inv.bytes i))) c.requires.few read in
    let s = spelled_at bytes at c.args.count c.args.enc vs rest c.requires.within t in
    s.1

pub returns-clause-only : goal.returns-clause-only
returns-clause-only c = λ vs2 next s2.
    let bytes = c.args.bytes.now in
    let at = c.args.at in
    let rest = c.in_ok-list.rest.now in
    let vs = c.in_ok-list.list.values in
    let read : pair_at c.args.enc at c.args.count (drop at bytes) ≡ Ok (vs, rest) =
    ap (λ (t : List ℕ). pair_at c.args.enc at c.args.count t) (sym (take_rest bytes at)) ∙ c.in_ok-list.ensures.values in
    let t = split_takes c.args.enc.front c.args.enc.back at c.args.count (drop at bytes) vs rest
    (IsBytes-drop at bytes (λ i. omega (arith, c.type_inv.bytes i))) c.requires.few read in
    let s = spelled_at bytes at c.args.count c.args.enc vs rest c.requires.within t in
    spelled_same bytes at c.args.count c.args.enc vs2 next vs rest s2 read c.requires.within

pub returns-clause-one : goal.returns-clause-one
returns-clause-one c = λ vs us m n s t. spelled_once c.args.bytes.now c.args.at c.args.count c.args.enc vs us m n s t

pub returns-clause-exact : goal.returns-clause-exact
returns-clause-exact c =
    let bytes = c.args.bytes.now in
    let at = c.args.at in
    let rest = c.in_ok-list.rest.now in
    let vs = c.in_ok-list.list.values in
    let read : pair_at c.args.enc at c.args.count (drop at bytes) ≡ Ok (vs, rest) =
    ap (λ (t : List ℕ). pair_at c.args.enc at c.args.count t) (sym (take_rest bytes at)) ∙ c.in_ok-list.ensures.values in
    let t = split_takes c.args.enc.front c.args.enc.back at c.args.count (drop at bytes) vs rest
    (IsBytes-drop at bytes (λ i. omega (arith, c.type_inv.bytes i))) c.requires.few read in
    let s = spelled_at bytes at c.args.count c.args.enc vs rest c.requires.within t in
    read ∙ ap (λ (u : List ℕ). Ok (vs, u)) s.2

pub returns-in_err-list-clause-short : goal.returns-in_err-list-clause-short
returns-in_err-list-clause-short c =
    let bytes = c.args.bytes.now in
    let at = c.args.at in
    let enc = c.args.enc in
    let p = err_from_is_err_and c.from_residual.result c.from_residual.ensures.1 in
    let behind = ap (λ (t : List ℕ). code_at enc.front at (front_len enc.back c.args.count) t) (take_rest bytes at) in
    λ place le short. tells_same at c.in_err-list.field-0.0 _ _ _ refl (p.1 ∙ ap Err p.2) c.in_err-list.ensures.short place le (behind ∙ short)

pub returns-clause-short : goal.returns-clause-short
returns-clause-short c =
    let enc = c.args.enc in
    let behind = ap (λ (t : List ℕ). code_at enc.front c.args.at (front_len enc.back c.args.count) t) (take_rest c.args.bytes.now c.args.at) in
    λ place le short. absurd (let both = c.in_ok-list.ensures.short place le (behind ∙ short) in cc)
