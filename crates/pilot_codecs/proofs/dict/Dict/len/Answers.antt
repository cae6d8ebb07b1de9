use Rattle.std.proofs.Common.{length, get_or, sym, ap, ◌∙◌}
use Rattle.std.proofs.lemmas.List.{length-map}
use Rattle.pilot_codecs.proofs.dict.Dict.len.Goals as goal

pub returns : goal.returns
returns c = c.len.ensures ∙ sym (length-map c.self.inside.places (λ p. get_or c.self.inside.entries.items p 0)) ∙ ap length c.self.view_is
