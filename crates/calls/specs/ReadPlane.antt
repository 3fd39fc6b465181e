-- What is read from a plane's two streams, before dequantising. Document 01, 'Plane and slice'.
use Rattle.std.specs.Prelude.{Bool, List, [], ◌∷◌, ℕ, zero, suc, ◌*◌, ◌-◌, ℤ, pos, ltb}
use Rattle.scalar.specs.Scalar.{add_of, sll_of}
use Rattle.bits.specs.Bits.{Stream, bit_at, bytes_for}
use Rattle.bits.specs.Signed.{signed_of}
use Rattle.bits.specs.Read.{Symbol, bad_symbol, run, value, read_symbol, DcCode, bad_dc, zero_step, step, read_dc}
use Rattle.calls.specs.Streams.{dc_of, with_dc}

-- AC, place by place: the coefficients read, the bit after the last code, and the zeros of a run that are still to come
pub data Places : Type 0 where
  bad_places : Places
  places : List ℤ → ℕ → ℕ → Places

abbrev pub place_then : ℤ → Places → Places
place_then c bad_places = bad_places
place_then c (places cs q r) = places (c ∷ cs) q r

-- a run fills this place with a zero and the next n - 1 places; a value, "cut to 16 bits, wrapping", stands here
abbrev pub by_symbol : Symbol → (ℕ → ℕ → Places) → Places
by_symbol bad_symbol next = bad_places
by_symbol (run n q) next = place_then (pos 0) (next q (n - 1))
by_symbol (value c q) next = place_then (signed_of c) (next q 0)

-- k places from the bit p on, r zeros of the last run first
unfoldable pub read_places : ℕ → Stream → ℕ → ℕ → Places
read_places zero s p r = places [] p r
read_places (suc k) s p (suc r) = place_then (pos 0) (read_places k s p r)
read_places (suc k) s p zero = by_symbol (read_symbol s p) (λ q r. read_places k s q r)

-- a block as it is read: whether an AC symbol was read for it, and its 64 coefficients in scan order
pub record BlockRead : Type 0 where
  pub symbol_read : Bool
  pub coeffs : List ℤ

pub data Blocks : Type 0 where
  bad_blocks : Blocks
  blocks : List BlockRead → ℕ → ℕ → Blocks

abbrev pub block_then : BlockRead → Blocks → Blocks
block_then b bad_blocks = bad_blocks
block_then b (blocks bs q r) = blocks (b ∷ bs) q r

abbrev pub by_places : Bool → Places → (ℕ → ℕ → Blocks) → Blocks
by_places f bad_places next = bad_blocks
by_places f (places cs q r) next = block_then (record { symbol_read = f; coeffs = cs }) (next q r)

-- n blocks. A symbol is read for a block unless zeros still to come fill it. A run past the plane's end is cut off
unfoldable pub read_blocks : ℕ → Stream → ℕ → ℕ → Blocks
read_blocks zero s p r = blocks [] p r
read_blocks (suc n) s p r = by_places (ltb r 64) (read_places 64 s p r) (λ q r'. read_blocks n s q r')

-- DC: a code says that what the AC stream left at place 0 stays, or names a step by its raw number
pub data DcStep : Type 0 where
  keep : DcStep
  replace : ℕ → DcStep

pub data DcSteps : Type 0 where
  bad_steps : DcSteps
  dc_steps : List DcStep → ℕ → DcSteps

abbrev pub step_then : DcStep → DcSteps → DcSteps
step_then t bad_steps = bad_steps
step_then t (dc_steps ts q) = dc_steps (t ∷ ts) q

abbrev pub by_dc_code : DcCode → (ℕ → DcSteps) → DcSteps
by_dc_code bad_dc next = bad_steps
by_dc_code (zero_step q) next = step_then keep (next q)
by_dc_code (step c q) next = step_then (replace c) (next q)

-- n codes from the bit p on
unfoldable pub read_steps : ℕ → Stream → ℕ → DcSteps
read_steps zero s p = dc_steps [] p
read_steps (suc n) s p = by_dc_code (read_dc s p) (λ q. read_steps n s q)

-- "An AC value read at place 0 stands there: a zero DC step keeps it, any other replaces it"; "reading shifts each step back, cut to 16 bits"
abbrev pub settle : ℕ → DcStep → ℤ → ℤ
settle shift keep c = c
settle shift (replace n) c = sll_of (signed_of n) shift

-- "the prediction starts at 0 in each plane and is added back modulo 65,536 when read"
unfoldable pub predicted : ℕ → ℤ → List DcStep → List ℤ → List ℤ
predicted shift before [] cs = []
predicted shift before (t ∷ ts) [] = []
predicted shift before (t ∷ ts) (c ∷ cs) =
    add_of (settle shift t c) before ∷ predicted shift (add_of (settle shift t c) before) ts cs

abbrev pub ac_dcs : List BlockRead → List ℤ
ac_dcs [] = []
ac_dcs (b ∷ bs) = dc_of b.coeffs ∷ ac_dcs bs

abbrev pub with_dcs : List ℤ → List BlockRead → List BlockRead
with_dcs [] bs = []
with_dcs (d ∷ ds) [] = []
with_dcs (d ∷ ds) (b ∷ bs) = record { symbol_read = b.symbol_read; coeffs = with_dc d b.coeffs } ∷ with_dcs ds bs

-- a plane as it is read: its blocks, and the bytes after its two streams
pub data PlaneRead : Type 0 where
  bad_plane : PlaneRead
  plane_read : List BlockRead → ℕ → ℕ → PlaneRead

abbrev pub both_streams : ℕ → DcSteps → Blocks → PlaneRead
both_streams shift bad_steps bs = bad_plane
both_streams shift (dc_steps ts qd) bad_blocks = bad_plane
both_streams shift (dc_steps ts qd) (blocks bs qa r) = plane_read (with_dcs (predicted shift (pos 0) ts (ac_dcs bs)) bs) (bytes_for qd) (bytes_for qa)

-- n blocks of the streams dc and ac, from the bytes dc_at and ac_at on. "Positions and starts count whole bytes."
unfoldable pub read_plane : ℕ → ℕ → List ℕ → List ℕ → ℕ → ℕ → PlaneRead
read_plane shift n dc ac dc_at ac_at =
    both_streams shift (read_steps n (bit_at dc) (8 * dc_at)) (read_blocks n (bit_at ac) (8 * ac_at) 0)
