-- What a probe keeps from call to call.
use Rattle.std.specs.Prelude.{List, ℕ, ◌+◌, ◌*◌, ◌^◌, ◌≤◌, ◌<◌, length}
use Rattle.bitwriter.specs.declared.BitAcc.{BitAcc}

-- a bit writer that can go on: few bits wait, and they are the low ones
abbrev pub Going : BitAcc → Type 0
Going a = (a.nbits < 64) × (a.acc < 2 ^ a.nbits)

-- 63 bits more fit into the buffer
abbrev pub Fits : BitAcc → List ℕ → Type 0
Fits a o = 8 * a.pos + a.nbits + 63 ≤ 8 * length o

-- at most 63 bits were written
abbrev pub Grown : BitAcc → BitAcc → Type 0
Grown a r = 8 * r.pos + r.nbits ≤ 8 * a.pos + a.nbits + 63
