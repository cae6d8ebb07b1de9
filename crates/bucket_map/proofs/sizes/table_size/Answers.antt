use Rattle.std.proofs.Common.{ℕ, ◌*◌, sym, ap, ◌∙◌}
use Rattle.std.specs.Int.{div_ceil}
use Rattle.bucket_map.proofs.SizeLemmas.{table_size_of-power, table_size_of-other}
use Rattle.bucket_map.proofs.sizes.table_size.Goals as goal

pub returns-then-is_power_of_two-clause-value : goal.returns-then-is_power_of_two-clause-value
returns-then-is_power_of_two-clause-value c =
    let size = c.div_ceil-size.ensures ∙ ap (λ (x : ℕ). div_ceil (100 * c.args.n) x) c.from.ensures in
    table_size_of-power c.args.n c.args.alpha c.div_ceil-size.result size (sym c.is_power_of_two.ensures ∙ c.if-is_power_of_two.true)

pub returns-else-is_power_of_two-clause-value : goal.returns-else-is_power_of_two-clause-value
returns-else-is_power_of_two-clause-value c =
    let size = c.div_ceil-size.ensures ∙ ap (λ (x : ℕ). div_ceil (100 * c.args.n) x) c.from.ensures in
    table_size_of-other c.args.n c.args.alpha c.div_ceil-size.result size (sym c.is_power_of_two.ensures ∙ c.if-is_power_of_two.false)
