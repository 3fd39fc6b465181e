-- `bitwriter::store::store_low`: one byte a turn; the bytes stored, then those to come, are the bytes of w.
use Rattle.std.proofs.Common.{◌+◌, ◌-◌, refl, sym, arith}
use mathlib.Core.Path.{◌∙◌}
use lib.ListN.{length-set}
use Rattle.bits.specs.ByteRow.{word_bytes}
use Rattle.bits.proofs.Pack.{word_length}
use Rattle.bitwriter.proofs.Laid.{byte_stored, bytes_stored, copied, part_length}
use Rattle.bitwriter.proofs.store.store_low.Goals as goal

pub loop-byte-init : goal.loop-byte-init
loop-byte-init c = let a = c.args in (part_length a.out.now a.p a.m c.requires.1, omega arith, refl)

pub overflow_sub-k : goal.overflow_sub-k
overflow_sub-k c = let a = c.args in omega (arith, part_length a.out.now a.p a.m c.requires.1)

pub overflow_mul-byte : goal.overflow_mul-byte
overflow_mul-byte c = record { fits = omega arith }

pub overflow_shr-byte : goal.overflow_shr-byte
overflow_shr-byte c = omega arith

pub loop-byte-preserved : goal.loop-byte-preserved
loop-byte-preserved c =
    let a = c.args in
    let l = c.loop-byte in
    let n = part_length a.out.now a.p a.m c.requires.1 in (
      simp length-set l.invariant.0,
      omega (arith, n),
      byte_stored l.byte-items l.byte-index l.k a.w (omega (arith, n)) (omega (arith, n)) ∙ l.invariant.2,
    )

pub returns : goal.returns
returns c =
    let a = c.args in
    let l = c.loop-byte in
    let n = part_length a.out.now a.p a.m c.requires.1 in
    copied a.out.now l.byte-items (word_bytes a.m a.w) a.p (a.p + a.m - a.p) (sym (bytes_stored l.byte-items l.byte-index l.k a.w (omega (arith, n)) (omega (arith, n))) ∙ l.invariant.2) (omega (arith, word_length a.m a.w))
