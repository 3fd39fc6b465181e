-- A plane's stream ends within so many bytes; where no six zero bytes stand in a row, at no bad code.
-- B is what holds at a bad code: anything where one may stand, ⊥ where none does.
use mathlib.Core.Path.{◌≡◌}
use mathlib.Core.Bool.{Bool, true, false}
use mathlib.Core.List.{List}
use Prim.Native.Nat.{ℕ, ◌+◌, ◌*◌, ◌≤◌, ◌<◌}
use native.Mathlib.Omega.{arith}
use lib.ListN.{drop, get_or}
use Rattle.ask.specs.Ask.{Answer, refused, accepted}
use Rattle.ask.specs.Limits.{stride_max}
use Rattle.bits.specs.Bits.{bit_at}
use Rattle.bits.specs.Read.{read_symbol, read_dc}
use Rattle.bitreader.specs.scan.Six.{no_six_zeros}
use Rattle.bitreader.proofs.scan.Codes.{SymbolTo, DcTo, symbol_to, code_to, no_symbol, no_dc}
use Rattle.calls.specs.ReadPlane.{Blocks, bad_blocks, blocks, read_blocks, DcSteps, bad_steps, dc_steps, read_steps}
use Rattle.calls.specs.Grid.{blocks_of}
use Rattle.acread.specs.through.Through.{ac_end}
use Rattle.acread.proofs.through.Ends.{BlocksTo, blocks_to}
use Rattle.judge.specs.Good.{dc_plane, ac_plane, stream_plane}
use Rattle.acread.specs.through.Codes.{dc_end}
use Rattle.acread.proofs.through.CodesEnd.{StepsTo, steps_to}

abbrev pub AnswerTo : Type 0 → ℕ → ℕ → Answer ℕ → Type 0
AnswerTo B a b (refused n) = B
AnswerTo B a b (accepted q) = (a ≤ q) × (q ≤ b)

-- in whole bytes
ac_bytes_lem : (B : Type 0) (at n : ℕ) (x : Blocks) → BlocksTo B (8 * at) (8 * at + 7168 * n) x → AnswerTo B at (at + 896 * n) (ac_end x)
ac_bytes_lem B at n bad_blocks h = h
ac_bytes_lem B at n (blocks bs q r) h = (omega arith, omega arith)

dc_bytes_lem : (B : Type 0) (at n : ℕ) (x : DcSteps) → StepsTo B (8 * at) (8 * at + 112 * n) x → AnswerTo B at (at + 896 * n) (dc_end x)
dc_bytes_lem B at n bad_steps h = h
dc_bytes_lem B at n (dc_steps ts q) h = (omega arith, omega arith)

module _ (B : Type 0) (l : List ℕ) (from : ℕ) where
  ac_to : ((p : ℕ) → 8 * from ≤ p → SymbolTo B p (p + 112) (read_symbol (bit_at l) p)) → (w at : ℕ) → from ≤ at → AnswerTo B at (at + 896 * blocks_of w) (ac_plane l w at)
  ac_to code w at h = ac_bytes_lem B at (blocks_of w) (read_blocks (blocks_of w) (bit_at l) (8 * at) 0) (blocks_to B (bit_at l) (8 * from) code (blocks_of w) (8 * at) 0 (omega arith))

  dc_to : ((p : ℕ) → 8 * from ≤ p → DcTo B p (p + 112) (read_dc (bit_at l) p)) → (w at : ℕ) → from ≤ at → AnswerTo B at (at + 896 * blocks_of w) (dc_plane l w at)
  dc_to code w at h = dc_bytes_lem B at (blocks_of w) (read_steps (blocks_of w) (bit_at l) (8 * at)) (steps_to B (bit_at l) (8 * from) code (blocks_of w) (8 * at) (omega arith))

more : (a b b' : ℕ) (x : Answer ℕ) → b ≤ b' → AnswerTo Unit a b x → AnswerTo Unit a b' x
more a b b' (refused n) h e = e
more a b b' (accepted q) h e = (e.0, omega arith)

-- a plane has at most 1,920 blocks, each at most 64 codes of 112 bits
abbrev pub Spans : (ℕ → ℕ → Answer ℕ) → Type 0
Spans read = (w at : ℕ) → w ≤ stride_max → AnswerTo Unit at (at + 1720320) (read w at)

pub spans : (of-dc : Bool) (l : List ℕ) → Spans (stream_plane of-dc l)
spans true l w at h =
    more at (at + 896 * blocks_of w) (at + 1720320) (dc_plane l w at) (omega arith) (dc_to Unit l 0 (λ p g. code_to (bit_at l) p) w at (omega arith))
spans false l w at h =
    more at (at + 896 * blocks_of w) (at + 1720320) (ac_plane l w at) (omega arith) (ac_to Unit l 0 (λ p g. symbol_to (bit_at l) p) w at (omega arith))

-- from the byte `from` on there is no bad code
abbrev pub Clean : (ℕ → ℕ → Answer ℕ) → ℕ → Type 0
Clean read from = (w at : ℕ) → from ≤ at → AnswerTo ⊥ at (at + 896 * blocks_of w) (read w at)

pub clean : (of-dc : Bool) (l : List ℕ) → ((j : ℕ) → get_or l j 0 < 256) → (from : ℕ) → no_six_zeros (drop from l) ≡ true → Clean (stream_plane of-dc l) from
clean true l bytes from z = dc_to ⊥ l from (no_dc l bytes from z)
clean false l bytes from z = ac_to ⊥ l from (no_symbol l bytes from z)
