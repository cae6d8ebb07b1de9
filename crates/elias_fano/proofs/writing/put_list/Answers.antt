use Rattle.std.proofs.Common.{◌≡◌, ℕ, ◌++◌, List, ap, ◌∙◌, append_assoc}
use Rattle.std.specs.List.{flat_map}
use Rattle.elias_fano.specs.Spelling.{number, run}
use Rattle.elias_fano.proofs.writing.put_list.Goals as goal

regroup : (out n l h : List ℕ) → ((out ++ n) ++ l) ++ h ≡ out ++ ((n ++ l) ++ h)
regroup out n l h = simp append_assoc

pub returns-clause-ok : goal.returns-clause-ok
unfolding run
returns-clause-ok c =
    let low = c.in_ok-put_numbers-2.ensures.ok ∙ ap (λ (ws : List ℕ). c.put_numbers.new.out.items ++ flat_map number ws) c.words.ensures in
    let high = c.in_ok-put_numbers-3.ensures.ok ∙ ap (λ (ws : List ℕ). c.put_numbers-2.new.out.items ++ flat_map number ws) c.words-2.ensures in
    high ∙ ap (λ (xs : List ℕ). xs ++ run c.args.high.now) (low ∙ ap (λ (xs : List ℕ). xs ++ run c.args.low.now) c.in_ok-put_numbers.ensures.ok)
    ∙ regroup c.args.out.now.items (number c.args.last) (run c.args.low.now) (run c.args.high.now)
