use mathlib.Core.Path.{refl}
use Rattle.scalar.specs.Tab.{tab_from}
use Rattle.irow.specs.RowPass.{tab04, tab17, tab26, tab35}
use Rattle.irow.specs.Stages.{inverse_tab}
use Rattle.irow.proofs.rows.table.Goals as goal

pub returns : goal.returns
unfolding inverse_tab tab_from tab04 tab17 tab26 tab35
returns c = refl
