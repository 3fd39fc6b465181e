-- Each entry of the constant is what `reciprocal` computes for its divisor: antt computes all 4,800.
use mathlib.Core.Path.{refl}
use lib.Count.{count_leading_zeros}
use Rattle.scalar.specs.Tab.{tab_from}
use Rattle.tables.specs.Divisor.{base_matrix, quality_factors, divisor}
use Rattle.tables.specs.Reciprocal.{shift_of, correction_of, reciprocal_of, scale_of}
use Rattle.tables.specs.Entries.{number_for, number_at, constant_table}
use Rattle.tables.proofs.reciprocals.table.constant_table.Goals as goal

pub returns : goal.returns
unfolding constant_table tab_from number_at number_for divisor base_matrix quality_factors correction_of reciprocal_of scale_of shift_of count_leading_zeros
returns c = refl
