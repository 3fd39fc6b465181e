-- Document 01's entries on streams, on the definitions: from coefficients to bytes, and from bytes to coefficients and positions.
use mathlib.Core.Path.{◌≡◌, refl}
use mathlib.Core.List.{List, [], ◌∷◌, ◌++◌}
use Prim.Native.Nat.{ℕ}
use lib.IntN.{ℤ, pos, negsuc}
use lib.ListN.{replicate}
use Rattle.bits.specs.Bits.{bits_of, halvings, bit_length, spread, value_code, run_code, num, bit_at, to_bytes, pad_to_byte}
use Rattle.bits.specs.Signed.{code_of, signed_of}
use Rattle.bits.specs.Read.{zeros, tail_at, read_tail, read_symbol, read_dc}
use Rattle.scalar.specs.Scalar.{wrap16, add_of, sra_of, sll_of}
use Rattle.calls.specs.Streams.{coded_dc, steps_from, step_code, step_codes, dc_stream, symbol_codes, ac_stream}
use Rattle.calls.specs.ReadPlane.{read_places, BlockRead, read_blocks, read_steps, predicted, PlaneRead, bad_plane, plane_read, read_plane}

flat_block : ℤ → List ℤ
flat_block d = d ∷ replicate 63 (pos 0)

two : ℤ → List (List ℤ)
two d = flat_block d ∷ flat_block d ∷ []

all128 : dc_stream 0 (two (pos 0)) ≡ 0xF0 ∷ []
unfolding dc_stream two flat_block pad_to_byte to_bytes num step_codes step_code steps_from coded_dc add_of sra_of wrap16 code_of value_code spread bit_length halvings bits_of
all128 = refl

all_ac : ac_stream (two (pos 0)) ≡ 0x80 ∷ 0x80 ∷ []
unfolding ac_stream two flat_block pad_to_byte to_bytes num symbol_codes code_of value_code run_code spread bit_length halvings bits_of
all_ac = refl

all255 : dc_stream 0 (two (pos 1016)) ≡ 0x00 ∷ 0x3F ∷ 0x8E ∷ []
unfolding dc_stream two flat_block pad_to_byte to_bytes num step_codes step_code steps_from coded_dc add_of sra_of wrap16 code_of value_code spread bit_length halvings bits_of
all255 = refl

all0 : dc_stream 0 (two (negsuc 1023)) ≡ 0x00 ∷ 0x10 ∷ 0x01 ∷ 0x80 ∷ []
unfolding dc_stream two flat_block pad_to_byte to_bytes num step_codes step_code steps_from coded_dc add_of sra_of wrap16 code_of value_code spread bit_length halvings bits_of
all0 = refl

all255shift3 : dc_stream 3 (two (pos 1016)) ≡ 0x01 ∷ 0xFF ∷ 0x80 ∷ []
unfolding dc_stream two flat_block pad_to_byte to_bytes num step_codes step_code steps_from coded_dc add_of sra_of wrap16 code_of value_code spread bit_length halvings bits_of
all255shift3 = refl

ends : PlaneRead → List ℕ
ends bad_plane = []
ends (plane_read b d a) = d ∷ a ∷ []

empty : ends (read_plane 0 2 [] [] 0 0) ≡ 1 ∷ 32 ∷ []
unfolding ends read_plane read_blocks read_places read_symbol read_tail tail_at zeros num bit_at read_steps read_dc
empty = refl

-- z = 55
seven : ends (read_plane 0 1 (replicate 7 0) [] 0 0) ≡ []
unfolding ends read_plane read_blocks read_places read_symbol read_tail tail_at zeros num bit_at read_steps read_dc
seven = refl

-- z = 54
six : ends (read_plane 0 1 (replicate 6 0 ++ (1 ∷ [])) [] 0 0) ≡ 14 ∷ 16 ∷ []
unfolding ends read_plane read_blocks read_places read_symbol read_tail tail_at zeros num bit_at read_steps read_dc
six = refl

coeffs_in : List BlockRead → List (List ℤ)
coeffs_in [] = []
coeffs_in (b ∷ bs) = b.coeffs ∷ coeffs_in bs

coeffs_read : PlaneRead → List (List ℤ)
coeffs_read bad_plane = []
coeffs_read (plane_read b d a) = coeffs_in b

-- the streams of two blocks of DC -1024, read back
back0 : coeffs_read (read_plane 0 2 (0x00 ∷ 0x10 ∷ 0x01 ∷ 0x80 ∷ []) (0x80 ∷ 0x80 ∷ []) 0 0) ≡ two (negsuc 1023)
unfolding coeffs_read coeffs_in two flat_block read_plane read_blocks read_places read_symbol read_tail tail_at zeros num bit_at read_steps read_dc predicted add_of sll_of wrap16 signed_of
back0 = refl

-- a DC step whose code is 131072, cut to 0, replaces the AC value at place 0; a zero step keeps it
kept : coeffs_read (read_plane 0 1 (0xC0 ∷ []) (0x50 ∷ 0x7E ∷ []) 0 0) ≡ flat_block (negsuc 0) ∷ []
unfolding coeffs_read coeffs_in flat_block read_plane read_blocks read_places read_symbol read_tail tail_at zeros num bit_at read_steps read_dc predicted add_of sll_of wrap16 signed_of
kept = refl

replaced : coeffs_read (read_plane 0 1 (0x00 ∷ 0x00 ∷ 0x40 ∷ 0x00 ∷ 0x18 ∷ []) (0x50 ∷ 0x7E ∷ []) 0 0) ≡ flat_block (pos 0) ∷ []
unfolding coeffs_read coeffs_in flat_block read_plane read_blocks read_places read_symbol read_tail tail_at zeros num bit_at read_steps read_dc predicted add_of sll_of wrap16 signed_of
replaced = refl
