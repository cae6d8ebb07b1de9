use Rattle.std.proofs.Common.{◌≡◌, ℕ, List, drop, Ok, Err, refl, sym, ap, ◌∙◌, arith}
use Rattle.elias_fano.specs.Reading.{list_at}
use Rattle.std.proofs.lemmas.Result.{err_from_is_err_and}
use Rattle.std.proofs.lemmas.List.{take_rest}
use Rattle.elias_fano.proofs.FormLemmas.{IsBytes-drop}
use Rattle.elias_fano.proofs.LawLemmas.{list_takes, spelled_at, spelled_again, spelled_same, spelled_once, fails_not}
use Rattle.elias_fano.proofs.ShortLemmas.{tells_same, tells_none}
use Rattle.elias_fano.proofs.list.EliasFano.read.Goals as goal

pub returns-in_err-list-clause-only : goal.returns-in_err-list-clause-only
returns-in_err-list-clause-only c =
    let bytes = c.args.bytes.now in
    let at = c.args.at in
    let p = err_from_is_err_and c.from_residual.result c.from_residual.ensures.1 in
    rw (p.1, p.2) (λ vs next s. fails_not c.in_err-list.field-0.0 _ (vs, drop next bytes) (
      vs,
      next,
    ) (ap (λ (t : List ℕ). list_at at c.args.count t) (take_rest bytes at) ∙ spelled_again bytes at c.args.count vs next s) c.in_err-list.ensures.values)

pub overflow_sub-result : goal.overflow_sub-result
overflow_sub-result c =
    let bytes = c.args.bytes.now in
    let at = c.args.at in
    let rest = c.in_ok-list.rest.now in
    let vs = c.in_ok-list.list in
    let read : list_at at c.args.count (drop at bytes) ≡ Ok (vs, rest) = ap (λ (t : List ℕ). list_at at c.args.count t) (sym (take_rest bytes at))
    ∙ c.in_ok-list.ensures.values in
    let t = list_takes at c.args.count (drop at bytes) vs rest (IsBytes-drop at bytes (λ i. omega (arith, c.type_inv.bytes i))) c.requires.few read in
    let s = spelled_at bytes at c.args.count vs rest c.requires.within t in
    omega (arith, s.0)

pub returns-clause-found : goal.returns-clause-found
returns-clause-found c =
    let bytes = c.args.bytes.now in
    let at = c.args.at in
    let rest = c.in_ok-list.rest.now in
    let vs = c.in_ok-list.list in
    let read : list_at at c.args.count (drop at bytes) ≡ Ok (vs, rest) = ap (λ (t : List ℕ). list_at at c.args.count t) (sym (take_rest bytes at))
    ∙ c.in_ok-list.ensures.values in
    let t = list_takes at c.args.count (drop at bytes) vs rest (IsBytes-drop at bytes (λ i. omega (arith, c.type_inv.bytes i))) c.requires.few read in
    let s = spelled_at bytes at c.args.count vs rest c.requires.within t in
    s.1

pub returns-clause-only : goal.returns-clause-only
returns-clause-only c = λ vs2 next s2.
    let bytes = c.args.bytes.now in
    let at = c.args.at in
    let rest = c.in_ok-list.rest.now in
    let vs = c.in_ok-list.list in
    let read : list_at at c.args.count (drop at bytes) ≡ Ok (vs, rest) = ap (λ (t : List ℕ). list_at at c.args.count t) (sym (take_rest bytes at))
    ∙ c.in_ok-list.ensures.values in
    let t = list_takes at c.args.count (drop at bytes) vs rest (IsBytes-drop at bytes (λ i. omega (arith, c.type_inv.bytes i))) c.requires.few read in
    let s = spelled_at bytes at c.args.count vs rest c.requires.within t in
    spelled_same bytes at c.args.count vs2 next vs rest s2 read c.requires.within

pub returns-clause-exact : goal.returns-clause-exact
returns-clause-exact c =
    let bytes = c.args.bytes.now in
    let at = c.args.at in
    let rest = c.in_ok-list.rest.now in
    let vs = c.in_ok-list.list in
    let read : list_at at c.args.count (drop at bytes) ≡ Ok (vs, rest) = ap (λ (t : List ℕ). list_at at c.args.count t) (sym (take_rest bytes at))
    ∙ c.in_ok-list.ensures.values in
    let t = list_takes at c.args.count (drop at bytes) vs rest (IsBytes-drop at bytes (λ i. omega (arith, c.type_inv.bytes i))) c.requires.few read in
    let s = spelled_at bytes at c.args.count vs rest c.requires.within t in
    read ∙ ap (λ (u : List ℕ). Ok (vs, u)) s.2

pub returns-in_err-list-clause-one : goal.returns-in_err-list-clause-one
returns-in_err-list-clause-one c = λ vs us m n s t. spelled_once c.args.bytes.now c.args.at c.args.count vs us m n s t

pub returns-clause-one : goal.returns-clause-one
returns-clause-one c = λ vs us m n s t. spelled_once c.args.bytes.now c.args.at c.args.count vs us m n s t

pub returns-in_err-list-clause-short : goal.returns-in_err-list-clause-short
returns-in_err-list-clause-short c =
    let bytes = c.args.bytes.now in
    let at = c.args.at in
    let p = err_from_is_err_and c.from_residual.result c.from_residual.ensures.1 in
    let behind = ap (λ (t : List ℕ). list_at at c.args.count t) (take_rest bytes at) in
    λ place le short. tells_same at c.in_err-list.field-0.0 _ _ _ refl (p.1 ∙ ap Err p.2) c.in_err-list.ensures.short place le (behind ∙ short)

pub returns-clause-short : goal.returns-clause-short
returns-clause-short c =
    let bytes = c.args.bytes.now in
    let behind = ap (λ (t : List ℕ). list_at c.args.at c.args.count t) (take_rest bytes c.args.at) in
    tells_none c.args.at _ _ _ (sym behind ∙ c.in_ok-list.ensures.values)
