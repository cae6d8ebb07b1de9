use Rattle.std.proofs.Common.{◌≡◌, ◌<◌, ℕ, ◌*◌, ◌/◌, ◌^◌, bit_xor, ap, ◌∙◌, arith}
use Rattle.pthash.specs.Sizes.{partition_of}
use Rattle.pthash.specs.SizeLaws.{partition_of-lt}
use Rattle.bucket_map.proofs.sizes.partition_of.Goals as goal

value : (c : goal.After-from-2) → c.from.result * c.from-2.result / 2 ^ 64 ≡ partition_of c.args.a c.args.b c.args.parts
unfolding partition_of
value c = ap (λ (x : ℕ). x * c.from-2.result / 2 ^ 64) c.from.ensures ∙ ap (λ (x : ℕ). bit_xor c.args.a c.args.b * x / 2 ^ 64) c.from-2.ensures

below : (c : goal.After-from-2) → c.from.result * c.from-2.result / 2 ^ 64 < c.args.parts
below c = rw (value c) (partition_of-lt c.args.a c.args.b c.args.parts c.ranges.a.fits c.ranges.b.fits c.requires)

pub overflow_cast-result : goal.overflow_cast-result
overflow_cast-result c = let h = below c in omega arith

pub returns-clause-value : goal.returns-clause-value
returns-clause-value c = value c

pub returns-clause-below : goal.returns-clause-below
returns-clause-below c = below c
