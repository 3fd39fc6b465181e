-- The conditions of demand 3 can be met at 10 bits and shift 0: two planes coded alone are read as a slice, a slice's two planes are read alone,
-- calls at another preset are refused between them, and bytes are appended to both streams.
use mathlib.Core.Path.{◌≡◌, refl, sym, subst}
use mathlib.Core.List.{List, [], ◌∷◌, ◌++◌, map}
use Prim.Native.Nat.{ℕ}
use lib.ListN.{replicate, length}
use Rattle.scalar.specs.Scalar.{sat16, wrap16, wrap32, adds_of, subs_of, add_of, mulhi_of, sra_of, sll_of, or_of}
use Rattle.scalar.specs.Tab.{tab_from}
use Rattle.bits.specs.Bits.{bits_of, halvings, bit_length, spread, value_code, run_code, num, bit_at, to_bytes, pad_to_byte}
use Rattle.bits.specs.Signed.{code_of, signed_of}
use Rattle.bits.specs.Read.{zeros, tail_at, read_tail, read_symbol, read_dc}
use Rattle.bits.specs.Lay.{lay}
use Rattle.ask.specs.Ask.{first_no}
use Rattle.tables.specs.Divisor.{base_matrix, quality_factors, divisor}
use Rattle.tables.specs.Zigzag.{zigzag}
use Rattle.quant.specs.Quantise.{with_sign, rounded_division, quantise_of, scan_of}
use Rattle.fdct.specs.column.Steps as fcol
use Rattle.frow.specs.Rows as frow
use Rattle.fdct.specs.Forward as fdct
use Rattle.calls.specs.Arguments.{ten, Settings, Rows, Plane, Call, one_plane, one_slice, PerStream, Buffers}
use Rattle.calls.specs.Streams.{coded_dc, steps_from, step_code, step_codes, dc_stream, symbol_codes, ac_stream}
use Rattle.calls.specs.ReadPlane.{read_places, read_blocks, read_steps, predicted, read_plane}
use Rattle.slice.specs.Plane.{lanes_at, block_coefficients, coefficients_at}
use Rattle.calls.specs.Questions.{reading_questions}
use Rattle.slice.specs.Calls.{own_streams, encode, read_planes, Decoded, decode}
use Rattle.slice.specs.CallLists.{CallAnswer, empty_book, book_number, planes_coded, OneSetting, Follows}
use Rattle.slice.specs.Demand3.{fed, planes, read_from, CodingHalf, ReadingHalf}
use Rattle.slice.proofs.Runs.{encode_all, decode_all, encode_runs, decode_runs}
use Rattle.slice.proofs.Demand3.{of_definitions}
use Rattle.slice.specs.Room.{coding_questions}

pub σ : Settings
σ = record { depth = ten; preset = 2; shift = 0 }

-- refused with 1
other : Settings
other = record { depth = ten; preset = 25; shift = 0 }

rows : List ℕ → Rows
rows samples = record { stride = 8; samples = samples }

plane : ℕ → List ℕ → Plane
plane place samples = record { place = place; stride = 8; samples = samples }

bright : List ℕ
bright = replicate 128 65472

-- dark above, bright below
edge : List ℕ
edge = replicate 32 0 ++ replicate 96 65472

pub calls : List Call
calls =
    one_plane σ (plane 0 edge)
    ∷ one_plane other (plane 1 bright)
    ∷ one_plane σ (plane 1 bright)
    ∷ one_slice σ 2 (rows bright) (rows edge) (rows []) (rows [])
    ∷ []

pub readings : List Call
readings =
    one_slice σ 2 (rows bright) (rows bright) (rows []) (rows [])
    ∷ one_slice other 2 (rows bright) (rows bright) (rows []) (rows [])
    ∷ one_plane σ (plane 0 bright)
    ∷ one_plane σ (plane 1 bright)
    ∷ []

pub buffers : Buffers
buffers = record { dc_bytes = replicate 60 9; ac_bytes = replicate 1300 9 }

pub starts : PerStream
starts = record { dc = 2; ac = 3 }

pub appended : Buffers
appended = record { dc_bytes = 85 ∷ 0 ∷ 7 ∷ []; ac_bytes = 1 ∷ 2 ∷ 3 ∷ 4 ∷ [] }

pub one_setting : OneSetting σ (fed buffers starts) empty_book calls
unfolding σ other rows plane bright edge calls buffers starts OneSetting book_number first_no coding_questions own_streams dc_stream ac_stream pad_to_byte to_bytes num step_codes step_code steps_from coded_dc symbol_codes code_of value_code run_code spread bit_length halvings bits_of coefficients_at block_coefficients lanes_at tab_from fcol.◌▸◌ fcol.forward_column_of fcol.butterfly_of fcol.forward_even_of fcol.forward_odd_of frow.ftab1 frow.ftab2 frow.ftab3 frow.ftab4 frow.table_at frow.side_at frow.dot_of frow.coefficient_at frow.forward_rows_of fdct.level_shift_of fdct.forward_columns_of fdct.transform_of fdct.forward_of sat16 wrap16 wrap32 adds_of subs_of add_of mulhi_of sra_of sll_of or_of quantise_of rounded_division with_sign divisor base_matrix quality_factors scan_of zigzag
one_setting = (refl, (tt, (refl, (refl, tt))))

-- the streams that are read: what was before the starts, the four planes' own streams, what is appended
pub streams : Buffers
streams =
    record {
      dc_bytes = 9 ∷ 9 ∷ 64 ∷ 7 ∷ 255 ∷ 0 ∷ 31 ∷ 251 ∷ 128 ∷ 0 ∷ 63 ∷ 238 ∷ 0 ∷ 63 ∷ 248 ∷ 1 ∷ 255 ∷ 192 ∷ 85 ∷ 0 ∷ 7 ∷ [];
      ac_bytes = 9 ∷ 9 ∷ 9 ∷ 160 ∷ 4 ∷ 213 ∷ 48 ∷ 9 ∷ 248 ∷ 160 ∷ 45 ∷ 71 ∷ 1 ∷ 38 ∷ 5 ∷ 192 ∷ 128 ∷ 128 ∷ 128 ∷ 128 ∷ 160 ∷ 4 ∷ 213 ∷ 48 ∷ 9 ∷ 248 ∷ 160 ∷ 45 ∷ 71 ∷ 1 ∷ 38 ∷ 5 ∷ 192 ∷ 1 ∷ 2 ∷ 3 ∷ 4 ∷ [];
    }

pub joined : read_from (encode_all calls buffers starts) appended ≡ streams
unfolding σ other rows plane bright edge calls buffers starts appended streams encode_all encode lay first_no coding_questions own_streams dc_stream ac_stream pad_to_byte to_bytes num step_codes step_code steps_from coded_dc symbol_codes code_of value_code run_code spread bit_length halvings bits_of coefficients_at block_coefficients lanes_at tab_from fcol.◌▸◌ fcol.forward_column_of fcol.butterfly_of fcol.forward_even_of fcol.forward_odd_of frow.ftab1 frow.ftab2 frow.ftab3 frow.ftab4 frow.table_at frow.side_at frow.dot_of frow.coefficient_at frow.forward_rows_of fdct.level_shift_of fdct.forward_columns_of fdct.transform_of fdct.forward_of sat16 wrap16 wrap32 adds_of subs_of add_of mulhi_of sra_of sll_of or_of quantise_of rounded_division with_sign divisor base_matrix quality_factors scan_of zigzag
joined = refl

follows : Follows σ (planes calls buffers starts) readings streams starts (decode_all readings streams starts).answers
unfolding σ other rows plane bright edge calls readings buffers starts streams Follows planes_coded decode_all decode book_number first_no coding_questions own_streams dc_stream ac_stream pad_to_byte to_bytes num step_codes step_code steps_from coded_dc symbol_codes code_of value_code run_code spread bit_length halvings bits_of coefficients_at block_coefficients lanes_at tab_from fcol.◌▸◌ fcol.forward_column_of fcol.butterfly_of fcol.forward_even_of fcol.forward_odd_of frow.ftab1 frow.ftab2 frow.ftab3 frow.ftab4 frow.table_at frow.side_at frow.dot_of frow.coefficient_at frow.forward_rows_of fdct.level_shift_of fdct.forward_columns_of fdct.transform_of fdct.forward_of sat16 wrap16 wrap32 adds_of subs_of add_of mulhi_of sra_of sll_of or_of quantise_of rounded_division with_sign divisor base_matrix quality_factors scan_of zigzag reading_questions signed_of read_planes read_plane read_blocks read_places read_symbol read_tail tail_at zeros bit_at read_steps read_dc predicted
follows = (refl, refl, (refl, refl, (refl, refl, tt)))

pub follows_joined : let b = read_from (encode_all calls buffers starts) appended in Follows σ (planes calls buffers starts) readings b starts (decode_all readings b starts).answers
follows_joined = subst (λ (b : Buffers). Follows σ (planes calls buffers starts) readings b starts (decode_all readings b starts).answers) (sym joined) follows

-- so the claim says something of these four planes
shown : ReadingHalf σ (planes calls buffers starts) readings streams starts (decode_all readings streams starts)
shown =
    subst (λ (b : Buffers). ReadingHalf σ (planes calls buffers starts) readings b starts (decode_all readings b starts)) joined
    (of_definitions.reading calls buffers starts (encode_all calls buffers starts) (encode_runs calls buffers starts) σ one_setting appended readings
    (decode_all readings (read_from (encode_all calls buffers starts) appended) starts)
    (decode_runs readings (read_from (encode_all calls buffers starts) appended) starts)
    follows_joined)

four : length (planes calls buffers starts) ≡ 4
unfolding σ other rows plane bright edge calls buffers starts planes_coded book_number first_no coding_questions own_streams dc_stream ac_stream pad_to_byte to_bytes num step_codes step_code steps_from coded_dc symbol_codes code_of value_code run_code spread bit_length halvings bits_of coefficients_at block_coefficients lanes_at tab_from fcol.◌▸◌ fcol.forward_column_of fcol.butterfly_of fcol.forward_even_of fcol.forward_odd_of frow.ftab1 frow.ftab2 frow.ftab3 frow.ftab4 frow.table_at frow.side_at frow.dot_of frow.coefficient_at frow.forward_rows_of fdct.level_shift_of fdct.forward_columns_of fdct.transform_of fdct.forward_of sat16 wrap16 wrap32 adds_of subs_of add_of mulhi_of sra_of sll_of or_of quantise_of rounded_division with_sign divisor base_matrix quality_factors scan_of zigzag
four = refl

-- the numbers of both lists, and where reading ends: the appended bytes are not read
numbers : map (λ (a : CallAnswer). a.number) (encode_all calls buffers starts).answers ++ map (λ (a : Decoded). a.number) (decode_all readings streams starts).answers
    ≡ 0 ∷ 1 ∷ 0 ∷ 0 ∷ 0 ∷ 1 ∷ 0 ∷ 0 ∷ []
unfolding σ other rows plane bright edge calls readings buffers starts streams encode_all encode decode_all decode lay first_no coding_questions own_streams dc_stream ac_stream pad_to_byte to_bytes num step_codes step_code steps_from coded_dc symbol_codes code_of value_code run_code spread bit_length halvings bits_of coefficients_at block_coefficients lanes_at tab_from fcol.◌▸◌ fcol.forward_column_of fcol.butterfly_of fcol.forward_even_of fcol.forward_odd_of frow.ftab1 frow.ftab2 frow.ftab3 frow.ftab4 frow.table_at frow.side_at frow.dot_of frow.coefficient_at frow.forward_rows_of fdct.level_shift_of fdct.forward_columns_of fdct.transform_of fdct.forward_of sat16 wrap16 wrap32 adds_of subs_of add_of mulhi_of sra_of sll_of or_of quantise_of rounded_division with_sign divisor base_matrix quality_factors scan_of zigzag reading_questions signed_of read_planes read_plane read_blocks read_places read_symbol read_tail tail_at zeros bit_at read_steps read_dc predicted
numbers = refl

ends : (decode_all readings streams starts).at ≡ record { dc = 18; ac = 33 }
unfolding σ other rows plane bright edge calls readings buffers starts streams decode_all decode first_no coding_questions own_streams dc_stream ac_stream pad_to_byte to_bytes num step_codes step_code steps_from coded_dc symbol_codes code_of value_code run_code spread bit_length halvings bits_of coefficients_at block_coefficients lanes_at tab_from fcol.◌▸◌ fcol.forward_column_of fcol.butterfly_of fcol.forward_even_of fcol.forward_odd_of frow.ftab1 frow.ftab2 frow.ftab3 frow.ftab4 frow.table_at frow.side_at frow.dot_of frow.coefficient_at frow.forward_rows_of fdct.level_shift_of fdct.forward_columns_of fdct.transform_of fdct.forward_of sat16 wrap16 wrap32 adds_of subs_of add_of mulhi_of sra_of sll_of or_of quantise_of rounded_division with_sign divisor base_matrix quality_factors scan_of zigzag reading_questions signed_of read_planes read_plane read_blocks read_places read_symbol read_tail tail_at zeros bit_at read_steps read_dc predicted
ends = refl

-- ---- a start after a buffer's end: coding is refused with 6, reading is not
after : PerStream
after = record { dc = 61; ac = 3 }

coded_after : CodingHalf calls buffers after (encode_all calls buffers after)
coded_after = of_definitions.coding calls buffers after (encode_all calls buffers after) (encode_runs calls buffers after)

at_start : ℕ → CallAnswer
at_start n = record { number = n; at = after }

refused_after : encode_all calls buffers after ≡ record { answers = at_start 6 ∷ at_start 1 ∷ at_start 6 ∷ at_start 6 ∷ []; at = after; buffers = buffers }
unfolding at_start σ other rows plane bright edge calls buffers after encode_all encode lay first_no coding_questions own_streams dc_stream ac_stream pad_to_byte to_bytes num step_codes step_code steps_from coded_dc symbol_codes code_of value_code run_code spread bit_length halvings bits_of coefficients_at block_coefficients lanes_at tab_from fcol.◌▸◌ fcol.forward_column_of fcol.butterfly_of fcol.forward_even_of fcol.forward_odd_of frow.ftab1 frow.ftab2 frow.ftab3 frow.ftab4 frow.table_at frow.side_at frow.dot_of frow.coefficient_at frow.forward_rows_of fdct.level_shift_of fdct.forward_columns_of fdct.transform_of fdct.forward_of sat16 wrap16 wrap32 adds_of subs_of add_of mulhi_of sra_of sll_of or_of quantise_of rounded_division with_sign divisor base_matrix quality_factors scan_of zigzag
refused_after = refl

read_after : (decode (one_plane σ (plane 0 bright)) buffers after).number ≡ 0
unfolding σ other rows plane bright edge calls buffers after decode first_no coding_questions own_streams dc_stream ac_stream pad_to_byte to_bytes num step_codes step_code steps_from coded_dc symbol_codes code_of value_code run_code spread bit_length halvings bits_of coefficients_at block_coefficients lanes_at tab_from fcol.◌▸◌ fcol.forward_column_of fcol.butterfly_of fcol.forward_even_of fcol.forward_odd_of frow.ftab1 frow.ftab2 frow.ftab3 frow.ftab4 frow.table_at frow.side_at frow.dot_of frow.coefficient_at frow.forward_rows_of fdct.level_shift_of fdct.forward_columns_of fdct.transform_of fdct.forward_of sat16 wrap16 wrap32 adds_of subs_of add_of mulhi_of sra_of sll_of or_of quantise_of rounded_division with_sign divisor base_matrix quality_factors scan_of zigzag reading_questions signed_of read_planes read_plane read_blocks read_places read_symbol read_tail tail_at zeros bit_at read_steps read_dc predicted
read_after = refl
