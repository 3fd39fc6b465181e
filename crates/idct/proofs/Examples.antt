-- Two blocks of coefficients, and what the Rust's idct_core (SSE2 and portable lanes) makes of them without dequantising: one over all
-- 16 bits, where the sums saturate, at both depths; one of the size of real ones.
use mathlib.Core.Bool.{true, false}
use mathlib.Core.Path.{◌≡◌, refl}
use mathlib.Core.List.{List, [], ◌∷◌}
use lib.IntN.{ℤ, pos, negsuc}
use Rattle.scalar.specs.Scalar.{sat16, wrap16, wrap32, adds_of, subs_of, mulhi_of, sra_of, or_of}
use Rattle.scalar.specs.Tab.{tab_from}
use Rattle.irow.specs.RowPass.{tab04, tab17, tab26, tab35, row_lane, inverse_rows_of}
use Rattle.idct.specs.column.Steps.{◌▸◌, inverse_odd_of, inverse_even_of, inverse_sum_of, inverse_diff_of, inverse_join_of, inverse_column_of}
use Rattle.idct.specs.columns.Columns.{inverse_column_at, inverse_columns_of}
use Rattle.idct.specs.Inverse.{inverse_of}

wide : List ℤ
wide =
    pos 16838 ∷ negsuc 27009 ∷ pos 10113 ∷ negsuc 15252 ∷ negsuc 1716 ∷ negsuc 27140 ∷ negsuc 9757 ∷ negsuc 25348 ∷ negsuc 16555 ∷ pos 4086 ∷ pos 2749 ∷ pos 12767 ∷ pos 9084 ∷ negsuc 20707 ∷ pos 32225 ∷ negsuc 15224 ∷
    negsuc 7678 ∷ negsuc 11584 ∷ negsuc 7630 ∷ negsuc 7201 ∷ negsuc 5801 ∷ negsuc 27789 ∷ pos 20495 ∷ pos 10311 ∷ pos 11367 ∷ pos 30054 ∷ pos 17031 ∷ negsuc 19622 ∷ pos 19882 ∷ negsuc 7031 ∷ negsuc 2243 ∷ negsuc 4262 ∷
    negsuc 4373 ∷ pos 22102 ∷ negsuc 7916 ∷ negsuc 13700 ∷ pos 12754 ∷ negsuc 21114 ∷ negsuc 26206 ∷ pos 27096 ∷ negsuc 19139 ∷ pos 15188 ∷ pos 32085 ∷ pos 4143 ∷ pos 6967 ∷ pos 31406 ∷ negsuc 8602 ∷ negsuc 19364 ∷
    negsuc 7205 ∷ pos 24834 ∷ pos 31353 ∷ negsuc 31847 ∷ pos 10444 ∷ negsuc 7964 ∷ negsuc 24805 ∷ pos 19318 ∷ negsuc 31345 ∷ negsuc 1440 ∷ pos 10457 ∷ negsuc 30822 ∷ pos 14479 ∷ pos 29983 ∷ pos 18751 ∷ negsuc 28873 ∷ []

usual : List ℤ
usual =
    pos 1166 ∷ pos 516 ∷ negsuc 1032 ∷ pos 484 ∷ pos 976 ∷ pos 831 ∷ negsuc 260 ∷ pos 874 ∷ negsuc 657 ∷ pos 391 ∷ pos 44 ∷ pos 164 ∷ negsuc 489 ∷ pos 713 ∷ pos 99 ∷ negsuc 613 ∷
    pos 395 ∷ negsuc 386 ∷ negsuc 336 ∷ pos 117 ∷ negsuc 359 ∷ negsuc 356 ∷ negsuc 57 ∷ negsuc 493 ∷ negsuc 89 ∷ pos 102 ∷ pos 173 ∷ negsuc 68 ∷ negsuc 15 ∷ pos 59 ∷ negsuc 41 ∷ pos 247 ∷
    negsuc 28 ∷ negsuc 72 ∷ pos 86 ∷ negsuc 24 ∷ pos 20 ∷ pos 35 ∷ pos 17 ∷ negsuc 17 ∷ negsuc 15 ∷ pos 13 ∷ pos 8 ∷ negsuc 45 ∷ negsuc 12 ∷ pos 14 ∷ negsuc 27 ∷ negsuc 18 ∷
    negsuc 25 ∷ negsuc 0 ∷ pos 8 ∷ pos 13 ∷ pos 24 ∷ pos 27 ∷ negsuc 3 ∷ negsuc 0 ∷ negsuc 9 ∷ negsuc 9 ∷ pos 2 ∷ pos 7 ∷ pos 3 ∷ negsuc 0 ∷ negsuc 5 ∷ negsuc 6 ∷ []

wide_8 : inverse_of false (pos 128) wide ≡
    pos 128 ∷ negsuc 1 ∷ pos 297 ∷ negsuc 281 ∷ pos 128 ∷ pos 538 ∷ negsuc 143 ∷ pos 639 ∷ negsuc 213 ∷ negsuc 383 ∷ negsuc 383 ∷ pos 277 ∷ negsuc 233 ∷ pos 639 ∷ pos 639 ∷ pos 639 ∷
    pos 326 ∷ pos 277 ∷ negsuc 383 ∷ pos 340 ∷ negsuc 191 ∷ pos 639 ∷ pos 639 ∷ pos 639 ∷ pos 428 ∷ pos 538 ∷ negsuc 383 ∷ pos 297 ∷ pos 266 ∷ negsuc 41 ∷ pos 639 ∷ negsuc 383 ∷
    negsuc 383 ∷ pos 639 ∷ negsuc 281 ∷ pos 639 ∷ pos 266 ∷ negsuc 383 ∷ pos 128 ∷ pos 128 ∷ pos 639 ∷ pos 639 ∷ pos 278 ∷ pos 340 ∷ negsuc 383 ∷ pos 639 ∷ pos 142 ∷ pos 470 ∷
    negsuc 383 ∷ negsuc 383 ∷ negsuc 383 ∷ pos 639 ∷ pos 490 ∷ negsuc 21 ∷ pos 277 ∷ pos 26 ∷ negsuc 383 ∷ pos 639 ∷ pos 639 ∷ negsuc 383 ∷ pos 639 ∷ pos 639 ∷ negsuc 383 ∷ pos 128 ∷ []
unfolding inverse_of inverse_columns_of inverse_column_at inverse_column_of inverse_join_of inverse_odd_of inverse_even_of inverse_sum_of inverse_diff_of ◌▸◌ inverse_rows_of row_lane tab04 tab17 tab26 tab35 tab_from sat16 wrap16 wrap32 adds_of subs_of mulhi_of sra_of or_of wide
wide_8 = refl

wide_10 : inverse_of true (pos 512) wide ≡
    pos 512 ∷ pos 252 ∷ pos 851 ∷ negsuc 307 ∷ pos 512 ∷ pos 1332 ∷ negsuc 30 ∷ pos 1535 ∷ negsuc 171 ∷ negsuc 511 ∷ negsuc 511 ∷ pos 811 ∷ negsuc 211 ∷ pos 1535 ∷ pos 1535 ∷ pos 1535 ∷
    pos 908 ∷ pos 811 ∷ negsuc 511 ∷ pos 936 ∷ negsuc 127 ∷ pos 1535 ∷ pos 1535 ∷ pos 1535 ∷ pos 1112 ∷ pos 1332 ∷ negsuc 511 ∷ pos 851 ∷ pos 863 ∷ pos 172 ∷ pos 1535 ∷ negsuc 511 ∷
    negsuc 511 ∷ pos 1535 ∷ negsuc 307 ∷ pos 1535 ∷ pos 863 ∷ negsuc 511 ∷ pos 334 ∷ pos 512 ∷ pos 1535 ∷ pos 1535 ∷ pos 812 ∷ pos 936 ∷ negsuc 511 ∷ pos 1535 ∷ pos 811 ∷ pos 1196 ∷
    negsuc 511 ∷ negsuc 511 ∷ negsuc 511 ∷ pos 1535 ∷ pos 1236 ∷ pos 212 ∷ pos 736 ∷ pos 308 ∷ negsuc 511 ∷ pos 1535 ∷ pos 1535 ∷ negsuc 511 ∷ pos 1535 ∷ pos 1535 ∷ negsuc 511 ∷ pos 512 ∷ []
unfolding inverse_of inverse_columns_of inverse_column_at inverse_column_of inverse_join_of inverse_odd_of inverse_even_of inverse_sum_of inverse_diff_of ◌▸◌ inverse_rows_of row_lane tab04 tab17 tab26 tab35 tab_from sat16 wrap16 wrap32 adds_of subs_of mulhi_of sra_of or_of wide
wide_10 = refl

usual_8 : inverse_of false (pos 128) usual ≡
    pos 329 ∷ pos 35 ∷ pos 188 ∷ pos 612 ∷ pos 128 ∷ pos 328 ∷ pos 349 ∷ negsuc 361 ∷ pos 406 ∷ negsuc 5 ∷ pos 228 ∷ pos 636 ∷ pos 277 ∷ pos 301 ∷ pos 264 ∷ negsuc 374 ∷
    pos 530 ∷ negsuc 137 ∷ pos 222 ∷ pos 622 ∷ pos 333 ∷ pos 74 ∷ pos 214 ∷ negsuc 319 ∷ pos 609 ∷ negsuc 223 ∷ pos 308 ∷ pos 493 ∷ pos 442 ∷ negsuc 206 ∷ pos 240 ∷ negsuc 162 ∷
    pos 639 ∷ negsuc 232 ∷ pos 374 ∷ pos 347 ∷ pos 639 ∷ negsuc 341 ∷ pos 290 ∷ negsuc 27 ∷ pos 616 ∷ negsuc 87 ∷ pos 425 ∷ pos 366 ∷ pos 639 ∷ negsuc 240 ∷ pos 321 ∷ pos 78 ∷
    pos 373 ∷ pos 116 ∷ pos 390 ∷ pos 500 ∷ pos 639 ∷ pos 106 ∷ pos 338 ∷ pos 254 ∷ pos 232 ∷ pos 168 ∷ pos 289 ∷ pos 606 ∷ pos 639 ∷ pos 422 ∷ pos 347 ∷ pos 411 ∷ []
unfolding inverse_of inverse_columns_of inverse_column_at inverse_column_of inverse_join_of inverse_odd_of inverse_even_of inverse_sum_of inverse_diff_of ◌▸◌ inverse_rows_of row_lane tab04 tab17 tab26 tab35 tab_from sat16 wrap16 wrap32 adds_of subs_of mulhi_of sra_of or_of usual
usual_8 = refl
