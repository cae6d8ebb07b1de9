use Rattle.std.proofs.Common.{Some, None, lit<, refl, ◌∙◌}
use Rattle.command_words.specs.Values.{code_of}
use Rattle.command_words.proofs.Cuts.{no_cut, one_cut}
use Rattle.command_words.proofs.Encodings.{encoding_of-whole, encoding_of-parts}
use Rattle.command_words.proofs.values.encoding_named.Goals as goal

pub returns-in_err-front-in-None : goal.returns-in_err-front-in-None
returns-in_err-front-in-None c =
    let cut = no_cut 45 c.args.text.now c.split_once.result c.split_once.ensures.cases (lit< tt) c.in-None.is in
    c.from_residual.ensures ∙ encoding_of-whole c.args.text.now _ None cut c.in_err-front-in-None.ensures

pub returns-in_err-front-in-Some : goal.returns-in_err-front-in-Some
returns-in_err-front-in-Some c =
    let cut = one_cut 45 c.args.text.now c.split_once.result c.split_once.ensures.cases (lit< tt) c.in-Some.front c.in-Some.back c.in-Some.is in
    c.from_residual-in_err-front-in-Some.ensures ∙ encoding_of-parts c.args.text.now _ _ _ None (code_of c.in-Some.back.now)
    cut c.in_err-front-in-Some.ensures refl

pub returns-in_err-code_named-in-Some : goal.returns-in_err-code_named-in-Some
returns-in_err-code_named-in-Some c =
    let cut = one_cut 45 c.args.text.now c.split_once.result c.split_once.ensures.cases (lit< tt) c.in-Some.front c.in-Some.back c.in-Some.is in
    c.from_residual-in_err-code_named-in-Some.ensures ∙ encoding_of-parts c.args.text.now _ _ _
    (Some c.in_ok-front-in-Some.front) None cut c.in_ok-front-in-Some.ensures c.in_err-code_named-in-Some.ensures

pub returns-in_ok-front-in-None : goal.returns-in_ok-front-in-None
returns-in_ok-front-in-None c =
    let cut = no_cut 45 c.args.text.now c.split_once.result c.split_once.ensures.cases (lit< tt) c.in-None.is in
    encoding_of-whole c.args.text.now _ (Some c.in_ok-front-in-None.front) cut c.in_ok-front-in-None.ensures

pub returns-in_ok-code_named-in-Some : goal.returns-in_ok-code_named-in-Some
returns-in_ok-code_named-in-Some c =
    let cut = one_cut 45 c.args.text.now c.split_once.result c.split_once.ensures.cases (lit< tt) c.in-Some.front c.in-Some.back c.in-Some.is in
    encoding_of-parts c.args.text.now _ _ _ (Some c.in_ok-front-in-Some.front) (Some c.in_ok-code_named-in-Some.field-0) cut
    c.in_ok-front-in-Some.ensures c.in_ok-code_named-in-Some.ensures
