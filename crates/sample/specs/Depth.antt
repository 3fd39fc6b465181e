-- The two depths of samples.
use Rattle.std.specs.Prelude.{Bool, true, false}

pub data Depth : Type 0 where
  eight : Depth
  ten : Depth

abbrev pub is_ten : Depth → Bool
is_ten eight = false
is_ten ten = true
