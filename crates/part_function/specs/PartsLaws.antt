-- A valid partition keeps what each partition does.
use Rattle.std.proofs.Common.{ap, ◌∙◌, arith}
use Rattle.std.proofs.lemmas.List.{nil_from_length}
use Rattle.pthash.specs.Shapes.{ShapeData, IsShape}
use Rattle.pthash.specs.Sizes.{bucket_count_of}
use Rattle.pthash.specs.SizeLaws.{table_size_of-le, bucket_count_of-none, bucket_count_of-some, bucket_count_of-le}
use Rattle.build_outcome.specs.Index.{PartData}
use Rattle.build_outcome.specs.Validity.{IsValidPart}
use Rattle.part_function.specs.Parts.{IsPart}

-- a partition that is valid under some shape is one
pub IsPart-valid : (shape : ShapeData) (part : PartData) → IsShape shape → IsValidPart shape part → IsPart part
IsPart-valid shape part ranges valid = record {
  few_keys = valid.few_keys;
  some_pilot = λ some. omega (arith, valid.pilot_count, bucket_count_of-some part.n shape.c ranges.c_low some);
  few_pilots = omega (arith, valid.pilot_count, bucket_count_of-le part.n shape.c ranges.c_high valid.few_keys);
  no_pilot = λ none.
      nil_from_length part.pilots (valid.pilot_count ∙ ap (λ n. bucket_count_of n shape.c) none ∙ bucket_count_of-none shape.c);
  few_positions = omega (arith, valid.size, table_size_of-le part.n shape.alpha ranges.alpha_low valid.few_keys);
  free_is_below = valid.free_is_below;
}
