-- The plain data of a shape.
use Rattle.pthash.specs.Shapes.{ShapeData, IsShape}
use Rattle.bucket_map.specs.declared.sizes.Shape.{Shape}

-- a shape as plain data
abbrev pub shape_data : Shape → ShapeData
shape_data shape = record { alpha = shape.alpha; c = shape.c; map = shape.map }

-- its numbers are in their ranges
pub IsShape-shape_data : (shape : Shape) → IsShape (shape_data shape)
IsShape-shape_data shape =
    record {
      alpha_low = shape.alpha_low;
      alpha_high = shape.alpha_high;
      c_low = shape.c_low;
      c_high = shape.c_high;
    }
