-- `preview::row::store_preview`: two rows, one after the other.
use mathlib.Core.Path.{◌≡◌, ◌∙◌}
use native.Mathlib.Omega.{arith}
use borrow.Author.Rules.{sfits_of}
use mir.Facts.{to_z-of_z}
use mir.Syntax.{w16}
use mir.Val.{of_z, to_z}
use Rattle.calls.specs.Arguments.{eight}
use Rattle.calls.specs.Grid.{level}
use Rattle.preview.proofs.row.Rows.{good_upper, good_below, rows_stored_from}
use Rattle.preview.proofs.row.store_preview.Goals as goal

pub preview_row-row-requires : goal.preview_row-row-requires
preview_row-row-requires c =
    let a = c.args in (
      c.cursor-c.ensures.0,
      omega (arith, c.cursor-c.ensures.1, c.requires.4),
      c.requires.0,
      c.requires.1,
      c.requires.2,
      good_upper a.shift a.place a.columns a.upper.now a.lower.now a.dc.now a.at c.requires.5 c.cursor-c.ensures.1,
    )

pub preview_row-end-requires : goal.preview_row-end-requires
preview_row-end-requires c =
    let a = c.args in
    let r = c.preview_row-row.ensures in
    let e : to_z w16 (of_z w16 c.lane-level.result) ≡ level eight a.place = to_z-of_z {w = w16} (sfits_of c.lane-level.type_inv) ∙ c.lane-level.ensures in (
      r.holds,
      omega (arith, r.near, c.cursor-c.ensures.1, c.requires.4, c.requires.1),
      c.requires.0,
      c.requires.1,
      c.requires.3,
      good_below a.shift a.place a.columns a.upper.now a.lower.now a.dc.now a.at c.requires.5 c.cursor-c.ensures.1 (rw e at r),
    )

pub returns : goal.returns
returns c =
    let a = c.args in
    let e : to_z w16 (of_z w16 c.lane-level.result) ≡ level eight a.place = to_z-of_z {w = w16} (sfits_of c.lane-level.type_inv) ∙ c.lane-level.ensures in
    let f : to_z w16 (of_z w16 c.preview_row-row.result.last) ≡ c.preview_row-row.result.last = to_z-of_z c.preview_row-row.ensures.fits in
    rows_stored_from a.shift a.place a.columns a.upper.now a.lower.now a.dc.now a.at c.requires.5 c.cursor-c.ensures.1 (rw e at c.preview_row-row.ensures) f (rw e at c.preview_row-end.ensures) c.end_byte.ensures
