-- `bitreader::words::edge` meets its contract: after k turns w is the first k bytes. Assumes nothing.
use mathlib.Core.Path.{◌≡◌, refl}
use Prim.Native.Nat.{ℕ, ◌+◌, ◌*◌, ◌<◌}
use native.Mathlib.Omega.{arith}
use mathlib.Core.List.{List}
use lib.ListN.{get_or}
use Rattle.bits.specs.Bits.{bit_at, num}
use Rattle.bitreader.proofs.words.Words.{num_more, num_most}
use Rattle.bitreader.proofs.words.edge.Goals as goal

turn : (s : List ℕ) (i k w b : ℕ) → w ≡ num (8 * k) 0 (bit_at s) (8 * i) → b ≡ get_or s (i + k) 255 → b < 256 → w * 256 + b ≡ num (8 * (k + 1)) 0 (bit_at s) (8 * i)
turn s i k w b e f h = omega (arith, e, f, num_more s i k (omega arith))

pub loop-k-init : goal.loop-k-init
unfolding num
loop-k-init c = refl

pub overflow_mul-w : goal.overflow_mul-w
overflow_mul-w c = record { fits = omega (arith, num_most c.args.s.now c.args.i c.loop-k.k c.loop-k-test.true, c.loop-k.invariant) }

pub overflow_add-w : goal.overflow_add-w
overflow_add-w c = record { fits = omega (arith, num_most c.args.s.now c.args.i c.loop-k.k c.loop-k-test.true, c.loop-k.invariant, c.byte.type_inv) }

pub loop-k-preserved : goal.loop-k-preserved
loop-k-preserved c = turn c.args.s.now c.args.i c.loop-k.k c.loop-k.w c.byte.result c.loop-k.invariant c.byte.ensures (omega (arith, c.byte.type_inv))
