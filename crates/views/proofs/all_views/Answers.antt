-- `views::all_views`: the table's question, the header's, then the walks.
use lib.ListN.{length}
use Rattle.views.proofs.Laws.{views_yes}
use Rattle.views.proofs.all_views.Goals as goal

pub walk_any-requires : goal.walk_any-requires
walk_any-requires c =
    let a = c.args in
    let y = views_yes a.width a.height a.frame.now (length a.table.now) c.in_ok-size.ensures.asked in
    let l = c.in_ok-size.ensures.legal in
    rw (l.0, l.1) (record { yes = y.header; room = y.enough })
