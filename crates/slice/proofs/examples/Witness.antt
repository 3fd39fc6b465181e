-- The conditions of demand 3 can be met: a plane, a call refused at another preset, a slice; reading them back with bytes appended, a refused call between.
use mathlib.Core.Path.{◌≡◌, refl}
use mathlib.Core.List.{List, [], ◌∷◌}
use Prim.Native.Nat.{ℕ}
use lib.ListN.{replicate, length}
use Rattle.scalar.specs.Scalar.{sat16, wrap16, wrap32, adds_of, subs_of, add_of, mulhi_of, sra_of, sll_of, or_of}
use Rattle.scalar.specs.Tab.{tab_from}
use Rattle.bits.specs.Bits.{bits_of, halvings, bit_length, spread, value_code, run_code, num, bit_at, to_bytes, pad_to_byte}
use Rattle.bits.specs.Signed.{code_of, signed_of}
use Rattle.bits.specs.Read.{zeros, tail_at, read_tail, read_symbol, read_dc}
use Rattle.bits.specs.Lay.{lay}
use Rattle.ask.specs.Ask.{first_no}
use Rattle.tables.specs.Divisor.{base_matrix, quality_factors, divisor}
use Rattle.tables.specs.Zigzag.{zigzag}
use Rattle.quant.specs.Quantise.{with_sign, rounded_division, quantise_of, scan_of}
use Rattle.fdct.specs.column.Steps as fcol
use Rattle.frow.specs.Rows as frow
use Rattle.fdct.specs.Forward as fdct
use Rattle.calls.specs.Arguments.{eight, ten, Settings, Rows, Plane, Call, one_plane, one_slice, PerStream, Buffers}
use Rattle.calls.specs.Streams.{coded_dc, steps_from, step_code, step_codes, dc_stream, symbol_codes, ac_stream}
use Rattle.calls.specs.ReadPlane.{read_places, read_blocks, read_steps, predicted, read_plane}
use Rattle.slice.specs.Plane.{lanes_at, block_coefficients, coefficients_at}
use Rattle.calls.specs.Questions.{reading_questions}
use Rattle.slice.specs.Calls.{own_streams, encode, read_planes, decode}
use Rattle.slice.specs.CallLists.{empty_book, book_number, planes_coded, OneSetting, Follows}
use Rattle.slice.specs.Demand3.{fed, planes, read_from, ReadingHalf}
use Rattle.slice.proofs.Runs.{encode_all, decode_all, encode_runs, decode_runs}
use Rattle.slice.proofs.Demand3.{of_definitions}
use Rattle.slice.specs.Room.{coding_questions}

σ : Settings
σ = record { depth = eight; preset = 0; shift = 3 }

other : Settings
other = record { depth = ten; preset = 5; shift = 0 }

rows : ℕ → ℕ → Rows
rows n x = record { stride = 8; samples = replicate n x }

plane : ℕ → ℕ → Plane
plane n x = record { place = 1; stride = 8; samples = replicate n x }

calls : List Call
calls = one_plane σ (plane 128 255) ∷ one_plane other (plane 127 0) ∷ one_slice σ 2 (rows 128 0) (rows 130 128) (rows 0 0) (rows 0 0) ∷ []

readings : List Call
readings = one_plane σ (plane 128 7) ∷ one_plane other (plane 127 7) ∷ one_slice σ 2 (rows 128 7) (rows 128 7) (rows 0 0) (rows 0 0) ∷ []

buffers : Buffers
buffers = record { dc_bytes = replicate 40 9; ac_bytes = replicate 1300 9 }

starts : PerStream
starts = record { dc = 2; ac = 3 }

appended : Buffers
appended = record { dc_bytes = 0 ∷ 0 ∷ []; ac_bytes = [] }

one_setting : OneSetting σ (fed buffers starts) empty_book calls
unfolding σ other rows plane calls buffers starts OneSetting book_number first_no coding_questions own_streams dc_stream ac_stream pad_to_byte to_bytes num step_codes step_code steps_from coded_dc symbol_codes code_of value_code run_code spread bit_length halvings bits_of coefficients_at block_coefficients lanes_at tab_from fcol.◌▸◌ fcol.forward_column_of fcol.butterfly_of fcol.forward_even_of fcol.forward_odd_of frow.ftab1 frow.ftab2 frow.ftab3 frow.ftab4 frow.table_at frow.side_at frow.dot_of frow.coefficient_at frow.forward_rows_of fdct.level_shift_of fdct.forward_columns_of fdct.transform_of fdct.forward_of sat16 wrap16 wrap32 adds_of subs_of add_of mulhi_of sra_of sll_of or_of quantise_of rounded_division with_sign divisor base_matrix quality_factors scan_of zigzag
one_setting = (refl, (tt, (refl, tt)))

streams : Buffers
streams = read_from (encode_all calls buffers starts) appended

follows : Follows σ (planes calls buffers starts) readings streams starts (decode_all readings streams starts).answers
unfolding σ other rows plane calls readings buffers starts appended streams Follows planes_coded encode_all decode_all encode decode lay book_number first_no coding_questions reading_questions own_streams dc_stream ac_stream pad_to_byte to_bytes num step_codes step_code steps_from coded_dc symbol_codes code_of signed_of value_code run_code spread bit_length halvings bits_of coefficients_at block_coefficients lanes_at tab_from fcol.◌▸◌ fcol.forward_column_of fcol.butterfly_of fcol.forward_even_of fcol.forward_odd_of frow.ftab1 frow.ftab2 frow.ftab3 frow.ftab4 frow.table_at frow.side_at frow.dot_of frow.coefficient_at frow.forward_rows_of fdct.level_shift_of fdct.forward_columns_of fdct.transform_of fdct.forward_of sat16 wrap16 wrap32 adds_of subs_of add_of mulhi_of sra_of sll_of or_of quantise_of rounded_division with_sign divisor base_matrix quality_factors scan_of zigzag read_planes read_plane read_blocks read_places read_symbol read_tail tail_at zeros bit_at read_steps read_dc predicted
follows = (refl, refl, (refl, refl, tt))

-- so the claim says something of these three planes
shown : ReadingHalf σ (planes calls buffers starts) readings streams starts (decode_all readings streams starts)
unfolding streams
shown = of_definitions.reading calls buffers starts (encode_all calls buffers starts) (encode_runs calls buffers starts) σ one_setting appended readings
    (decode_all readings streams starts) (decode_runs readings streams starts) follows

three : length (planes calls buffers starts) ≡ 3
unfolding σ other rows plane calls buffers starts planes_coded book_number first_no coding_questions own_streams dc_stream ac_stream pad_to_byte to_bytes num step_codes step_code steps_from coded_dc symbol_codes code_of value_code run_code spread bit_length halvings bits_of coefficients_at block_coefficients lanes_at tab_from fcol.◌▸◌ fcol.forward_column_of fcol.butterfly_of fcol.forward_even_of fcol.forward_odd_of frow.ftab1 frow.ftab2 frow.ftab3 frow.ftab4 frow.table_at frow.side_at frow.dot_of frow.coefficient_at frow.forward_rows_of fdct.level_shift_of fdct.forward_columns_of fdct.transform_of fdct.forward_of sat16 wrap16 wrap32 adds_of subs_of add_of mulhi_of sra_of sll_of or_of quantise_of rounded_division with_sign divisor base_matrix quality_factors scan_of zigzag
three = refl
