-- Answers of the published Rust, on the definitions: planes of both depths coded and read, and bytes that no coder wrote.
use mathlib.Core.Path.{◌≡◌, refl}
use mathlib.Core.List.{[], ◌∷◌}
use Prim.Native.Nat.{ℕ, ◌+◌, ◌*◌, ◌/◌, ◌%◌}
use lib.ListN.{replicate}
use Rattle.scalar.specs.Scalar.{sat16, wrap16, wrap32, adds_of, subs_of, add_of, mulhi_of, mullo_of, sra_of, sll_of, or_of, packus_of}
use Rattle.scalar.specs.Tab.{tab, tab_from}
use Rattle.bits.specs.Bits.{bits_of, halvings, bit_length, spread, value_code, run_code, num, bit_at, to_bytes, pad_to_byte}
use Rattle.bits.specs.Signed.{code_of, signed_of}
use Rattle.bits.specs.Read.{zeros, tail_at, read_tail, read_symbol, read_dc}
use Rattle.ask.specs.Ask.{first_no}
use Rattle.tables.specs.Divisor.{base_matrix, quality_factors, divisor}
use Rattle.tables.specs.Zigzag.{zigzag, unzigzag}
use Rattle.quant.specs.Quantise.{with_sign, rounded_division, quantise_of, scan_of, natural_of, dequantised, dequantise_by}
use Rattle.fdct.specs.column.Steps as fcol
use Rattle.frow.specs.Rows as frow
use Rattle.fdct.specs.Forward as fdct
use Rattle.irow.specs.RowPass as irow
use Rattle.idct.specs.column.Steps as icol
use Rattle.idct.specs.columns.Columns as columns
use Rattle.idct.specs.Inverse.{inverse_of, samples_of}
use Rattle.paint.specs.Paint.{over}
use Rattle.paint.specs.Samples.{ten_of, flat_sample}
use Rattle.calls.specs.Arguments.{eight, ten, Settings, Plane, Buffers}
use Rattle.calls.specs.Streams.{coded_dc, steps_from, step_code, step_codes, dc_stream, symbol_codes, ac_stream}
use Rattle.calls.specs.ReadPlane.{read_places, read_blocks, read_steps, predicted, read_plane}
use Rattle.slice.specs.Plane.{lanes_at, block_coefficients, coefficients_at, transformed, filled_flat, block_samples, reconstruct_at}
use Rattle.calls.specs.Questions.{reading_questions}
use Rattle.slice.specs.Calls.{own_streams, read_planes, rows_made, decode, decode_plane}

-- ---- 8-bit, stride 8, place 1, preset 12, shift 2
σ8 : Settings
σ8 = record { depth = eight; preset = 12; shift = 2 }

plane8 : Plane
plane8 = record { place = 1; stride = 8; samples = tab 128 (λ i. (i * 37 + i / 8 * 11) % 256) }

blank8 : ℕ → Plane
blank8 place = record { place = place; stride = 8; samples = replicate 128 7 }

bytes8 : Buffers
bytes8 =
    record {
      dc_bytes = 0 ∷ 248 ∷ 132 ∷ 64 ∷ [];
      ac_bytes =
          217 ∷ 140 ∷ 32 ∷ 113 ∷ 200 ∷ 98 ∷ 98 ∷ 130 ∷ 148 ∷ 137 ∷ 149 ∷ 17 ∷ 227 ∷ 71 ∷ 186 ∷ 116 ∷ 99 ∷ 38 ∷ 214 ∷ 136 ∷ 121 ∷ 73 ∷ 164 ∷
          242 ∷ 38 ∷ 202 ∷ 209 ∷ 27 ∷ 75 ∷ 19 ∷ 188 ∷ 88 ∷ 183 ∷ 72 ∷ 225 ∷ 18 ∷ 45 ∷ 20 ∷ 75 ∷ 73 ∷ 14 ∷ 9 ∷ 17 ∷ 109 ∷ 178 ∷ 45 ∷ 182 ∷
          182 ∷ 33 ∷ 72 ∷ 157 ∷ 17 ∷ 54 ∷ 217 ∷ 219 ∷ 105 ∷ 166 ∷ [];
    }

codes8 : own_streams σ8 (plane8 ∷ []) ≡ bytes8
unfolding σ8 plane8 bytes8 own_streams dc_stream ac_stream pad_to_byte to_bytes num step_codes step_code steps_from coded_dc symbol_codes code_of signed_of value_code run_code spread bit_length halvings bits_of coefficients_at block_coefficients lanes_at tab_from fcol.◌▸◌ fcol.forward_column_of fcol.butterfly_of fcol.forward_even_of fcol.forward_odd_of frow.ftab1 frow.ftab2 frow.ftab3 frow.ftab4 frow.table_at frow.side_at frow.dot_of frow.coefficient_at frow.forward_rows_of fdct.level_shift_of fdct.forward_columns_of fdct.transform_of fdct.forward_of sat16 wrap16 wrap32 adds_of subs_of add_of mulhi_of mullo_of sra_of sll_of or_of packus_of quantise_of rounded_division with_sign divisor base_matrix quality_factors scan_of zigzag unzigzag natural_of dequantised dequantise_by irow.tab04 irow.tab17 irow.tab26 irow.tab35 irow.row_lane irow.inverse_rows_of icol.inverse_odd_of icol.inverse_even_of icol.inverse_sum_of icol.inverse_diff_of icol.inverse_join_of icol.inverse_column_of columns.inverse_column_at columns.inverse_columns_of inverse_of samples_of over flat_sample decode read_planes rows_made reading_questions first_no read_plane read_blocks read_places read_symbol read_tail tail_at zeros bit_at read_steps read_dc predicted reconstruct_at block_samples transformed filled_flat
codes8 = refl

reads8 : decode_plane σ8 (blank8 1) bytes8 (record { dc = 0; ac = 0 })
    ≡ record {
      number = 0;
      at = record { dc = 4; ac = 57 };
      rows =
          (0 ∷ 29 ∷ 84 ∷ 107 ∷ 163 ∷ 176 ∷ 214 ∷ 5 ∷ 61 ∷ 58 ∷ 118 ∷ 165 ∷ 209 ∷ 243 ∷ 14 ∷ 59 ∷ 99 ∷ 164 ∷ 164 ∷ 232 ∷ 239 ∷ 53 ∷ 57 ∷
          103 ∷ 172 ∷ 174 ∷ 240 ∷ 0 ∷ 61 ∷ 62 ∷ 131 ∷ 153 ∷ 195 ∷ 231 ∷ 27 ∷ 84 ∷ 71 ∷ 143 ∷ 189 ∷ 207 ∷ 249 ∷ 49 ∷ 72 ∷ 104 ∷ 145 ∷ 187 ∷
          209 ∷ 3 ∷ 51 ∷ 72 ∷ 141 ∷ 155 ∷ 200 ∷ 239 ∷ 0 ∷ 54 ∷ 94 ∷ 147 ∷ 175 ∷ 217 ∷ 243 ∷ 22 ∷ 83 ∷ 113 ∷ 152 ∷ 203 ∷ 225 ∷ 10 ∷ 44 ∷
          76 ∷ 126 ∷ 159 ∷ 214 ∷ 225 ∷ 39 ∷ 49 ∷ 89 ∷ 135 ∷ 156 ∷ 210 ∷ 249 ∷ 28 ∷ 77 ∷ 117 ∷ 129 ∷ 189 ∷ 232 ∷ 4 ∷ 56 ∷ 66 ∷ 106 ∷ 172 ∷
          195 ∷ 250 ∷ 1 ∷ 64 ∷ 109 ∷ 135 ∷ 205 ∷ 181 ∷ 255 ∷ 10 ∷ 76 ∷ 93 ∷ 142 ∷ 191 ∷ 201 ∷ 36 ∷ 32 ∷ 101 ∷ 122 ∷ 146 ∷ 201 ∷ 239 ∷ 25 ∷
          48 ∷ 89 ∷ 117 ∷ 153 ∷ 209 ∷ 255 ∷ 46 ∷ 50 ∷ 112 ∷ 150 ∷ 187 ∷ 224 ∷ 0 ∷ []) ∷ [];
    }
unfolding σ8 blank8 bytes8 own_streams dc_stream ac_stream pad_to_byte to_bytes num step_codes step_code steps_from coded_dc symbol_codes code_of signed_of value_code run_code spread bit_length halvings bits_of coefficients_at block_coefficients lanes_at tab_from fcol.◌▸◌ fcol.forward_column_of fcol.butterfly_of fcol.forward_even_of fcol.forward_odd_of frow.ftab1 frow.ftab2 frow.ftab3 frow.ftab4 frow.table_at frow.side_at frow.dot_of frow.coefficient_at frow.forward_rows_of fdct.level_shift_of fdct.forward_columns_of fdct.transform_of fdct.forward_of sat16 wrap16 wrap32 adds_of subs_of add_of mulhi_of mullo_of sra_of sll_of or_of packus_of quantise_of rounded_division with_sign divisor base_matrix quality_factors scan_of zigzag unzigzag natural_of dequantised dequantise_by irow.tab04 irow.tab17 irow.tab26 irow.tab35 irow.row_lane irow.inverse_rows_of icol.inverse_odd_of icol.inverse_even_of icol.inverse_sum_of icol.inverse_diff_of icol.inverse_join_of icol.inverse_column_of columns.inverse_column_at columns.inverse_columns_of inverse_of samples_of over flat_sample decode read_planes rows_made reading_questions first_no read_plane read_blocks read_places read_symbol read_tail tail_at zeros bit_at read_steps read_dc predicted reconstruct_at block_samples transformed filled_flat
reads8 = refl

-- ---- 10-bit, stride 16, place 3, preset 20, shift 0
σ10 : Settings
σ10 = record { depth = ten; preset = 20; shift = 0 }

plane10 : Plane
plane10 = record { place = 3; stride = 16; samples = tab 256 (λ i. (i * 977 + i / 16 * 331) % 65536) }

blank10 : Plane
blank10 = record { place = 3; stride = 16; samples = replicate 256 7 }

bytes10 : Buffers
bytes10 =
    record {
      dc_bytes = 0 ∷ 132 ∷ 0 ∷ 90 ∷ 65 ∷ 208 ∷ 9 ∷ 128 ∷ [];
      ac_bytes =
          161 ∷ 68 ∷ 78 ∷ 136 ∷ 57 ∷ 181 ∷ 34 ∷ 109 ∷ 233 ∷ 196 ∷ 164 ∷ 156 ∷ 91 ∷ 132 ∷ 8 ∷ 42 ∷ 97 ∷ 209 ∷ 71 ∷ 142 ∷ 52 ∷ 58 ∷ 114 ∷
          16 ∷ 234 ∷ 153 ∷ 5 ∷ 157 ∷ 171 ∷ 72 ∷ 238 ∷ 149 ∷ 59 ∷ 116 ∷ 246 ∷ 93 ∷ 68 ∷ 168 ∷ 64 ∷ 130 ∷ 166 ∷ 29 ∷ 20 ∷ 120 ∷ 227 ∷ 67 ∷
          128 ∷ [];
    }

codes10 : own_streams σ10 (plane10 ∷ []) ≡ bytes10
unfolding σ10 plane10 bytes10 own_streams dc_stream ac_stream pad_to_byte to_bytes num step_codes step_code steps_from coded_dc symbol_codes code_of signed_of value_code run_code spread bit_length halvings bits_of coefficients_at block_coefficients lanes_at tab_from fcol.◌▸◌ fcol.forward_column_of fcol.butterfly_of fcol.forward_even_of fcol.forward_odd_of frow.ftab1 frow.ftab2 frow.ftab3 frow.ftab4 frow.table_at frow.side_at frow.dot_of frow.coefficient_at frow.forward_rows_of fdct.level_shift_of fdct.forward_columns_of fdct.transform_of fdct.forward_of sat16 wrap16 wrap32 adds_of subs_of add_of mulhi_of mullo_of sra_of sll_of or_of packus_of quantise_of rounded_division with_sign divisor base_matrix quality_factors scan_of zigzag unzigzag natural_of dequantised dequantise_by irow.tab04 irow.tab17 irow.tab26 irow.tab35 irow.row_lane irow.inverse_rows_of icol.inverse_odd_of icol.inverse_even_of icol.inverse_sum_of icol.inverse_diff_of icol.inverse_join_of icol.inverse_column_of columns.inverse_column_at columns.inverse_columns_of inverse_of samples_of over flat_sample decode read_planes rows_made reading_questions first_no read_plane read_blocks read_places read_symbol read_tail tail_at zeros bit_at read_steps read_dc predicted reconstruct_at block_samples transformed filled_flat
codes10 = refl

reads10 : decode_plane σ10 blank10 bytes10 (record { dc = 0; ac = 0 })
    ≡ record {
      number = 0;
      at = record { dc = 8; ac = 47 };
      rows =
          (0 ∷ 0 ∷ 576 ∷ 0 ∷ 0 ∷ 0 ∷ 7872 ∷ 15360 ∷ 8128 ∷ 8704 ∷ 9792 ∷ 11264 ∷ 12800 ∷ 14272 ∷ 15360 ∷ 15936 ∷ 12544 ∷ 15936 ∷ 19840 ∷
          21248 ∷ 20416 ∷ 19648 ∷ 20352 ∷ 21568 ∷ 21952 ∷ 22528 ∷ 23616 ∷ 25088 ∷ 26624 ∷ 28032 ∷ 29184 ∷ 29760 ∷ 34816 ∷ 33728 ∷ 33856 ∷
          36864 ∷ 41472 ∷ 44864 ∷ 45632 ∷ 44928 ∷ 37184 ∷ 37760 ∷ 38848 ∷ 40320 ∷ 41856 ∷ 43328 ∷ 44416 ∷ 44992 ∷ 51072 ∷ 48064 ∷ 46656 ∷
          49856 ∷ 54528 ∷ 54656 ∷ 48832 ∷ 42688 ∷ 57088 ∷ 57664 ∷ 58752 ∷ 60160 ∷ 61760 ∷ 63168 ∷ 64256 ∷ 64896 ∷ 65472 ∷ 47872 ∷ 20416 ∷
          1344 ∷ 0 ∷ 2496 ∷ 9856 ∷ 14144 ∷ 3712 ∷ 4352 ∷ 5440 ∷ 6848 ∷ 8384 ∷ 9856 ∷ 10944 ∷ 11520 ∷ 17280 ∷ 15232 ∷ 13632 ∷ 14784 ∷
          17792 ∷ 20096 ∷ 20288 ∷ 19392 ∷ 23616 ∷ 24192 ∷ 25280 ∷ 26752 ∷ 28288 ∷ 29760 ∷ 30848 ∷ 31424 ∷ 25408 ∷ 29248 ∷ 33472 ∷ 34752 ∷
          32896 ∷ 30464 ∷ 29440 ∷ 29504 ∷ 38848 ∷ 39424 ∷ 40576 ∷ 41984 ∷ 43520 ∷ 44992 ∷ 46080 ∷ 46656 ∷ 41920 ∷ 47488 ∷ 52736 ∷ 52864 ∷
          49728 ∷ 49152 ∷ 53312 ∷ 58176 ∷ 52672 ∷ 53248 ∷ 54336 ∷ 55808 ∷ 57344 ∷ 58816 ∷ 59904 ∷ 60480 ∷ 63872 ∷ 55808 ∷ 65472 ∷ 58944 ∷
          13184 ∷ 0 ∷ 6720 ∷ 0 ∷ 4736 ∷ 5376 ∷ 6464 ∷ 7872 ∷ 9472 ∷ 10880 ∷ 11968 ∷ 12608 ∷ 17216 ∷ 6336 ∷ 13120 ∷ 17408 ∷ 8000 ∷ 14464 ∷
          24448 ∷ 15808 ∷ 18560 ∷ 19200 ∷ 20288 ∷ 21696 ∷ 23232 ∷ 24704 ∷ 25792 ∷ 26368 ∷ 27328 ∷ 28864 ∷ 32064 ∷ 33152 ∷ 31744 ∷ 32448 ∷
          35008 ∷ 36160 ∷ 33792 ∷ 34432 ∷ 35520 ∷ 36928 ∷ 38528 ∷ 39936 ∷ 41024 ∷ 41600 ∷ 45632 ∷ 52608 ∷ 46720 ∷ 42752 ∷ 50112 ∷ 49280 ∷
          47808 ∷ 57856 ∷ 53696 ∷ 54272 ∷ 55424 ∷ 56832 ∷ 58368 ∷ 59840 ∷ 60928 ∷ 61504 ∷ 55744 ∷ 63872 ∷ 58432 ∷ 61120 ∷ 65472 ∷ 50496 ∷
          10176 ∷ 0 ∷ 384 ∷ 960 ∷ 2048 ∷ 3520 ∷ 5056 ∷ 6464 ∷ 7616 ∷ 8192 ∷ 12544 ∷ 16704 ∷ 9280 ∷ 11392 ∷ 28480 ∷ 29376 ∷ 20352 ∷ 23232 ∷
          20224 ∷ 20864 ∷ 21952 ∷ 23360 ∷ 24960 ∷ 26368 ∷ 27456 ∷ 28096 ∷ 26752 ∷ 32064 ∷ 30464 ∷ 26240 ∷ 25728 ∷ 25216 ∷ 28928 ∷ 37952 ∷
          35520 ∷ 36096 ∷ 37184 ∷ 38656 ∷ 40192 ∷ 41600 ∷ 42688 ∷ 43328 ∷ 47360 ∷ 43328 ∷ 41344 ∷ 42752 ∷ 45376 ∷ 47552 ∷ 46592 ∷ 43328 ∷
          49344 ∷ 49920 ∷ 51008 ∷ 52416 ∷ 54016 ∷ 55424 ∷ 56512 ∷ 57152 ∷ []) ∷ [];
    }
unfolding σ10 blank10 bytes10 ten_of own_streams dc_stream ac_stream pad_to_byte to_bytes num step_codes step_code steps_from coded_dc symbol_codes code_of signed_of value_code run_code spread bit_length halvings bits_of coefficients_at block_coefficients lanes_at tab_from fcol.◌▸◌ fcol.forward_column_of fcol.butterfly_of fcol.forward_even_of fcol.forward_odd_of frow.ftab1 frow.ftab2 frow.ftab3 frow.ftab4 frow.table_at frow.side_at frow.dot_of frow.coefficient_at frow.forward_rows_of fdct.level_shift_of fdct.forward_columns_of fdct.transform_of fdct.forward_of sat16 wrap16 wrap32 adds_of subs_of add_of mulhi_of mullo_of sra_of sll_of or_of packus_of quantise_of rounded_division with_sign divisor base_matrix quality_factors scan_of zigzag unzigzag natural_of dequantised dequantise_by irow.tab04 irow.tab17 irow.tab26 irow.tab35 irow.row_lane irow.inverse_rows_of icol.inverse_odd_of icol.inverse_even_of icol.inverse_sum_of icol.inverse_diff_of icol.inverse_join_of icol.inverse_column_of columns.inverse_column_at columns.inverse_columns_of inverse_of samples_of over flat_sample decode read_planes rows_made reading_questions first_no read_plane read_blocks read_places read_symbol read_tail tail_at zeros bit_at read_steps read_dc predicted reconstruct_at block_samples transformed filled_flat
reads10 = refl

-- ---- bytes that no coder wrote, 8-bit, place 0, preset 3, shift 5, from bytes 1 and 2 on
wild : Buffers
wild = record { dc_bytes = tab 9 (λ i. (i * 91 + 13) % 256); ac_bytes = tab 40 (λ i. (i * i * 29 + i * 7 + 45) % 256) }

reads_wild : decode_plane (record { depth = eight; preset = 3; shift = 5 }) (blank8 0) wild (record { dc = 1; ac = 2 })
    ≡ record {
      number = 0;
      at = record { dc = 2; ac = 30 };
      rows =
          (120 ∷ 141 ∷ 136 ∷ 130 ∷ 131 ∷ 122 ∷ 128 ∷ 147 ∷ 133 ∷ 130 ∷ 139 ∷ 137 ∷ 121 ∷ 124 ∷ 136 ∷ 135 ∷ 138 ∷ 124 ∷ 134 ∷ 132 ∷ 122 ∷
          135 ∷ 140 ∷ 130 ∷ 125 ∷ 137 ∷ 138 ∷ 127 ∷ 128 ∷ 131 ∷ 131 ∷ 141 ∷ 125 ∷ 145 ∷ 138 ∷ 127 ∷ 129 ∷ 126 ∷ 128 ∷ 139 ∷ 124 ∷ 137 ∷
          144 ∷ 139 ∷ 120 ∷ 117 ∷ 136 ∷ 140 ∷ 131 ∷ 130 ∷ 137 ∷ 136 ∷ 123 ∷ 125 ∷ 138 ∷ 137 ∷ 134 ∷ 136 ∷ 135 ∷ 128 ∷ 130 ∷ 130 ∷ 126 ∷
          137 ∷ 137 ∷ 124 ∷ 139 ∷ 136 ∷ 133 ∷ 151 ∷ 127 ∷ 129 ∷ 127 ∷ 109 ∷ 124 ∷ 106 ∷ 105 ∷ 129 ∷ 110 ∷ 123 ∷ 137 ∷ 115 ∷ 143 ∷ 126 ∷
          127 ∷ 138 ∷ 113 ∷ 141 ∷ 135 ∷ 125 ∷ 157 ∷ 135 ∷ 137 ∷ 145 ∷ 122 ∷ 144 ∷ 118 ∷ 117 ∷ 130 ∷ 110 ∷ 113 ∷ 118 ∷ 114 ∷ 127 ∷ 121 ∷
          132 ∷ 122 ∷ 128 ∷ 129 ∷ 117 ∷ 131 ∷ 125 ∷ 126 ∷ 157 ∷ 122 ∷ 151 ∷ 150 ∷ 127 ∷ 158 ∷ 123 ∷ 121 ∷ 147 ∷ 86 ∷ 131 ∷ 129 ∷ 98 ∷ 149 ∷
          112 ∷ []) ∷ [];
    }
unfolding blank8 wild own_streams dc_stream ac_stream pad_to_byte to_bytes num step_codes step_code steps_from coded_dc symbol_codes code_of signed_of value_code run_code spread bit_length halvings bits_of coefficients_at block_coefficients lanes_at tab_from fcol.◌▸◌ fcol.forward_column_of fcol.butterfly_of fcol.forward_even_of fcol.forward_odd_of frow.ftab1 frow.ftab2 frow.ftab3 frow.ftab4 frow.table_at frow.side_at frow.dot_of frow.coefficient_at frow.forward_rows_of fdct.level_shift_of fdct.forward_columns_of fdct.transform_of fdct.forward_of sat16 wrap16 wrap32 adds_of subs_of add_of mulhi_of mullo_of sra_of sll_of or_of packus_of quantise_of rounded_division with_sign divisor base_matrix quality_factors scan_of zigzag unzigzag natural_of dequantised dequantise_by irow.tab04 irow.tab17 irow.tab26 irow.tab35 irow.row_lane irow.inverse_rows_of icol.inverse_odd_of icol.inverse_even_of icol.inverse_sum_of icol.inverse_diff_of icol.inverse_join_of icol.inverse_column_of columns.inverse_column_at columns.inverse_columns_of inverse_of samples_of over flat_sample decode read_planes rows_made reading_questions first_no read_plane read_blocks read_places read_symbol read_tail tail_at zeros bit_at read_steps read_dc predicted reconstruct_at block_samples transformed filled_flat
reads_wild = refl
