-- What the code's types say, in the definitions' terms. One function for each type.
use Rattle.std.specs.Prelude.{Bool, true, false, ℕ, Option, None, Some, Result}
use Rattle.ask.specs.Ask.{Answer}
use Rattle.ask.specs.Refusals.{answer}
use Rattle.ask.specs.declared.refusal.Refusal.{Refusal}
use Rattle.layout.specs.Geometry.{Geometry, ImageRow, padding, row}
use Rattle.layout.specs.declared.Layout.{Layout}
use Rattle.layout.specs.declared.Kind.{Kind}
use Rattle.layout.specs.declared.Kind.TheVariants as kind

abbrev pub geometry : Layout → Geometry
geometry l =
    record {
      width = l.width;
      height = l.height;
      aligned_height = l.aligned_height;
      slices = l.slices;
      luma = l.luma;
      chroma = l.chroma;
      max_dc_len = l.max_dc_len;
      max_ac_len = l.max_ac_len;
    }

abbrev pub layout_says : Result Layout Refusal → Answer Geometry
layout_says r = answer geometry r

abbrev pub row_says : Option ℕ → ImageRow
row_says (Some r) = row r
row_says None = padding

-- the AC streams are wanted
abbrev pub is_ac : Kind → Bool
is_ac kind.Dc = false
is_ac kind.Ac = true
