-- `blockread::dc::add_back`: words, their wrapping sum, read as signed.
use Rattle.std.proofs.Common.{ℕ, ◌+◌, ◌%◌, ap, ◌∙◌, ap₂, to_z-of_z, w16, to_z, of_z}
use borrow.Author.Rules.{sfits_of}
use Rattle.blockread.proofs.dc.Back.{add_words}
use Rattle.blockread.proofs.dc.add_back.Goals as goal

pub returns : goal.returns
returns c =
    let w = c in
    let p = w in
    let d = p in
    let s = d in
    to_z-of_z {w = w16} (sfits_of c.signed16.type_inv) ∙ c.signed16.ensures
    ∙ ap (to_z w16) (w.wrapping_add_u16.ensures.value
    ∙ ap₂ (λ (x y : ℕ). (x + y) % 65536) (d.word.ensures ∙ ap (of_z w16) (to_z-of_z s.ranges.step)) (p.word-2.ensures ∙ ap (of_z w16) (to_z-of_z s.ranges.prior)))
    ∙ add_words s.args.step s.args.prior s.ranges.step s.ranges.prior
