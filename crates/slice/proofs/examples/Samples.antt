-- All entries of document 01 that are marked with a dot, in one table, by one proof over it.
use mathlib.Core.Path.{◌≡◌, refl}
use mathlib.Core.Bool.{Bool, true, false}
use mathlib.Core.List.{List, [], ◌∷◌, ◌++◌}
use Prim.Native.Nat.{ℕ}
use lib.IntN.{ℤ, pos, negsuc}
use lib.ListN.{replicate}
use Rattle.scalar.specs.Scalar.{sat16, wrap16, wrap32, adds_of, subs_of, add_of, mulhi_of, mullo_of, sra_of, sll_of, or_of, packus_of}
use Rattle.scalar.specs.Tab.{tab_from}
use Rattle.bits.specs.Bits.{bits_of, halvings, bit_length, spread, value_code, run_code, num, bit_at, to_bytes, pad_to_byte}
use Rattle.bits.specs.Signed.{code_of, signed_of}
use Rattle.bits.specs.Read.{zeros, tail_at, read_tail, read_symbol, DcCode, bad_dc, zero_step, step, read_dc}
use Rattle.ask.specs.Ask.{first_no}
use lib.Count.{count_leading_zeros}
use Rattle.tables.specs.Divisor.{base_matrix, quality_factors, divisor}
use Rattle.tables.specs.Reciprocal.{shift_of, correction_of, reciprocal_of, scale_of}
use Rattle.tables.specs.Quality.{choose_from, quality_preset}
use Rattle.calls.specs.Previews.{preview_byte}
use Rattle.tables.specs.Zigzag.{zigzag, unzigzag}
use Rattle.quant.specs.Quantise.{with_sign, rounded_division, quantise_of, scan_of, natural_of, dequantised, dequantise_by}
use Rattle.fdct.specs.column.Steps as fcol
use Rattle.frow.specs.Rows as frow
use Rattle.fdct.specs.Forward as fdct
use Rattle.irow.specs.RowPass as irow
use Rattle.idct.specs.column.Steps as icol
use Rattle.idct.specs.columns.Columns as columns
use Rattle.idct.specs.Inverse.{inverse_of, samples_of}
use Rattle.paint.specs.Paint.{over}
use Rattle.paint.specs.Samples.{flat_sample}
use Rattle.calls.specs.Arguments.{eight, Settings, Plane, Buffers}
use Rattle.calls.specs.Streams.{coded_dc, steps_from, step_code, step_codes, dc_stream, symbol_codes, ac_stream}
use Rattle.calls.specs.ReadPlane.{read_places, read_blocks, read_steps, predicted, read_plane}
use Rattle.slice.specs.Plane.{lanes_at, block_coefficients, coefficients_at, transformed, filled_flat, block_samples, reconstruct_at}
use Rattle.calls.specs.Questions.{reading_questions}
use Rattle.slice.specs.Calls.{own_streams, read_planes, rows_made, decode, decode_plane}

-- an 8-bit plane, stride 8, all samples the same
all : ℕ → ℕ → Plane
all place x = record { place = place; stride = 8; samples = replicate 128 x }

at_shift : ℕ → Settings
at_shift s = record { depth = eight; preset = 0; shift = s }

bytes : List ℕ → List ℕ → Buffers
bytes d a = record { dc_bytes = d; ac_bytes = a }

-- a DC code as it is read: its number (0 for a zero step) and the place after it; nothing for a bad code
dc_read : DcCode → List ℕ
dc_read bad_dc = []
dc_read (zero_step q) = 0 ∷ q ∷ []
dc_read (step c q) = c ∷ q ∷ []

chosen : ℕ → List ℕ
chosen q = (quality_preset q).quality ∷ (quality_preset q).index ∷ []

data Entry : Type 0 where
  gives : List ℕ → List ℕ → Entry
  stands : ℤ → ℤ → Entry
  bits : List Bool → List Bool → Entry
  codes : ℕ → ℕ → Buffers → Entry
  reads : Buffers → ℕ → ℕ → ℕ → List ℕ → Entry

-- numbers computed are these; a signed number is this; bits are these;
-- samples x at a shift are coded as these bytes; these bytes are read at a place, ending at d and a, as these samples
Holds : Entry → Type 0
Holds (gives a b) = a ≡ b
Holds (stands a b) = a ≡ b
Holds (bits a b) = a ≡ b
Holds (codes x s b) = own_streams (at_shift s) (all 0 x ∷ []) ≡ b
Holds (reads b place d a samples) =
    decode_plane (at_shift 0) (all place 7) b (record { dc = 0; ac = 0 }) ≡ record { number = 0; at = record { dc = d; ac = a }; rows = samples ∷ [] }

AllHold : List Entry → Type 0
AllHold [] = Unit {0}
AllHold (e ∷ es) = Holds e × AllHold es

table : List Entry
table =
    -- quantiser numbers
    gives (correction_of 16 ∷ reciprocal_of 16 ∷ scale_of 16 ∷ []) (8 ∷ 32768 ∷ 8192 ∷ [])
    ∷ gives (correction_of 19 ∷ reciprocal_of 19 ∷ scale_of 19 ∷ []) (10 ∷ 55188 ∷ 4096 ∷ [])
    ∷ gives (chosen 36 ++ (chosen 35 ++ chosen 100)) (36 ∷ 24 ∷ 35 ∷ 0 ∷ 99 ∷ 0 ∷ [])
    -- bits and symbols
    ∷ gives (code_of (pos 1) ∷ code_of (negsuc 0) ∷ code_of (pos 32767) ∷ code_of (negsuc 32767) ∷ []) (3 ∷ 2 ∷ 65535 ∷ 65536 ∷ [])
    ∷ stands (signed_of 65537) (negsuc 32767)
    ∷ bits (run_code 1 ++ value_code (code_of (negsuc 0))) (true ∷ true ∷ false ∷ true ∷ false ∷ [])
    ∷ gives (dc_read (read_dc (bit_at (replicate 6 0 ++ (1 ∷ []))) 0)) (72057594037927935 ∷ 111 ∷ [])
    ∷ gives (dc_read (read_dc (bit_at (replicate 7 0)) 0)) []
    -- preview: a DC of 1020 at level 128, and the same DC in a flat block
    ∷ gives (preview_byte 0 (pos 1020) ∷ flat_sample (pos 128) (pos 1020) ∷ []) (0 ∷ 255 ∷ [])
    -- planes
    ∷ codes 128 0 (bytes (0xF0 ∷ []) (0x80 ∷ 0x80 ∷ []))
    ∷ codes 255 0 (bytes (0x00 ∷ 0x3F ∷ 0x8E ∷ []) (0x80 ∷ 0x80 ∷ []))
    ∷ codes 0 0 (bytes (0x00 ∷ 0x10 ∷ 0x01 ∷ 0x80 ∷ []) (0x80 ∷ 0x80 ∷ []))
    ∷ codes 255 3 (bytes (0x01 ∷ 0xFF ∷ 0x80 ∷ []) (0x80 ∷ 0x80 ∷ []))
    ∷ reads (bytes [] []) 0 1 32 (replicate 128 128)
    -- block 0 is transformed, since its run was read there; block 1 is filled flat
    ∷ reads (bytes (0x13 ∷ 0x80 ∷ []) (0x80 ∷ 0x80 ∷ [])) 1 2 2 (replicate 16 1 ++ (replicate 24 0 ++ (replicate 8 1 ++ (replicate 16 0 ++ replicate 64 1))))
    ∷ []

entries_hold : AllHold table
unfolding table AllHold Holds dc_read chosen correction_of reciprocal_of scale_of shift_of count_leading_zeros quality_preset choose_from preview_byte all at_shift bytes own_streams dc_stream ac_stream pad_to_byte to_bytes num step_codes step_code steps_from coded_dc symbol_codes code_of signed_of value_code run_code spread bit_length halvings bits_of coefficients_at block_coefficients lanes_at tab_from fcol.◌▸◌ fcol.forward_column_of fcol.butterfly_of fcol.forward_even_of fcol.forward_odd_of frow.ftab1 frow.ftab2 frow.ftab3 frow.ftab4 frow.table_at frow.side_at frow.dot_of frow.coefficient_at frow.forward_rows_of fdct.level_shift_of fdct.forward_columns_of fdct.transform_of fdct.forward_of sat16 wrap16 wrap32 adds_of subs_of add_of mulhi_of mullo_of sra_of sll_of or_of packus_of quantise_of rounded_division with_sign divisor base_matrix quality_factors scan_of zigzag unzigzag natural_of dequantised dequantise_by irow.tab04 irow.tab17 irow.tab26 irow.tab35 irow.row_lane irow.inverse_rows_of icol.inverse_odd_of icol.inverse_even_of icol.inverse_sum_of icol.inverse_diff_of icol.inverse_join_of icol.inverse_column_of columns.inverse_column_at columns.inverse_columns_of inverse_of samples_of over flat_sample decode read_planes rows_made reading_questions first_no read_plane read_blocks read_places read_symbol read_tail tail_at zeros bit_at read_steps read_dc predicted reconstruct_at block_samples transformed filled_flat
entries_hold =
    (refl, (refl, (refl, (refl, (refl, (refl, (refl, (refl, (refl, (refl, (refl, (refl, (refl, (refl, (refl, tt)))))))))))))))
