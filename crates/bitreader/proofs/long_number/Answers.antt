-- `bitreader::long_number` meets its contract: the leading zeros of the word are the stream's, and the digits after them are at the top of a second word.
-- Assumes nothing.
use mathlib.Core.Path.{◌≡◌, ap, ◌∙◌}
use Prim.Native.Nat.{ℕ, suc, ◌+◌, ◌-◌, ◌/◌, ◌%◌, ◌^◌, ◌≤◌, ◌<◌}
use native.Mathlib.Omega.{arith}
use mathlib.Core.List.{List}
use lib.Count.{count_leading_zeros}
use Rattle.std.specs.Prelude.{Some, None}
use Rattle.bits.specs.Bits.{bit_at}
use Rattle.bits.specs.Read.{read_tail}
use Rattle.bitreader.specs.words.Word.{Holds, number_of}
use Rattle.bitreader.proofs.words.Words.{holds_top}
use Rattle.bitreader.proofs.Leads.{lead_few, lead_many}
use Rattle.bitreader.proofs.Spans.{tail_no, tail_yes}
use Rattle.bitreader.proofs.long_number.Goals as goal

refused : (s : List ℕ) (p w : ℕ) → Holds s p (64 - p % 8) w → 54 < count_leading_zeros 64 w → None ≡ number_of (read_tail (bit_at s) p)
refused s p w h l = tail_no (bit_at s) p (lead_many 55 (64 - p % 8) (bit_at s) p w h (omega arith) (omega arith) l)

read : (s : List ℕ) (p w v : ℕ) → Holds s p (64 - p % 8) w → count_leading_zeros 64 w ≤ 54 → Holds s (p + count_leading_zeros 64 w) (64 - (p + count_leading_zeros 64 w) % 8) v
    → Some (v / 2 ^ (62 - count_leading_zeros 64 w)) ≡ number_of (read_tail (bit_at s) p)
read s p w v h l g =
    let z : ℕ = count_leading_zeros 64 w in
    let k : count_leading_zeros 64 w < 55 = omega arith in
    let f = lead_few 55 (64 - p % 8) (bit_at s) p w h (omega arith) (omega arith) k in
    let e1 : 62 - count_leading_zeros 64 w ≡ 64 - suc (suc (count_leading_zeros 64 w)) = omega arith in
    tail_yes (bit_at s) p (count_leading_zeros 64 w) (v / 2 ^ (62 - count_leading_zeros 64 w)) f.0 l
    (ap (λ (x : ℕ). v / 2 ^ x) e1 ∙ holds_top s (p + count_leading_zeros 64 w) (64 - (p + count_leading_zeros 64 w) % 8) v (suc (suc (count_leading_zeros 64 w))) g (omega arith) (omega arith))

pub returns-then-z-gt54 : goal.returns-then-z-gt54
returns-then-z-gt54 c = refused c.args.s.now c.args.p c.far-z.result c.far-z.ensures c.if-z-gt54.true

pub returns : goal.returns
returns c = read c.args.s.now c.args.p c.far-z.result c.far.result c.far-z.ensures c.if-z-gt54.false c.far.ensures
