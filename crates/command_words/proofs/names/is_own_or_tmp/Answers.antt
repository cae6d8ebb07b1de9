use Rattle.std.proofs.Common.{◌≡◌, Bool, false, length, drop, eqb, ◌&&◌, sym, ap}
use Rattle.std.specs.List.{starts_with}
use Rattle.command_words.specs.Names.{none_or_tmp}
use Rattle.command_words.proofs.names.is_own_or_tmp.Goals as goal

pub returns-then-not-starts_with : goal.returns-then-not-starts_with
returns-then-not-starts_with c =
    let no : starts_with eqb c.args.name.now c.args.index.now ≡ false = cc in
    ap (λ (b : Bool). b && none_or_tmp (drop (length c.args.index.now) c.args.name.now)) (sym no)
