-- The definition at three blocks, beside the Rust's coefficients: all 255, one sample of 1000, and numbers at the ends of 16 bits.
use mathlib.Core.Bool.{true, false, cond}
use mathlib.Core.List.{List, [], ◌∷◌}
use mathlib.Core.Path.{◌≡◌, refl}
use lib.Dec.{eqb}
use lib.IntN.{ℤ, pos, negsuc}
use Rattle.scalar.specs.Scalar.{sat16, wrap32, adds_of, subs_of, mulhi_of, sll_of, or_of, sra_of}
use Rattle.scalar.specs.Tab.{tab, tab_from}
use Rattle.fdct.specs.column.Steps.{◌▸◌, butterfly_of, forward_even_of, forward_odd_of, forward_column_of}
use Rattle.frow.specs.Rows.{ftab1, ftab2, ftab3, ftab4, table_at, side_at, dot_of, coefficient_at, forward_rows_of}
use Rattle.fdct.specs.Forward.{level_shift_of, forward_columns_of, transform_of, forward_of}

constant : forward_of false (pos 128) (tab 64 (λ i. pos 255))
    ≡
    pos 16256 ∷ pos 0 ∷ pos 0 ∷ pos 0 ∷ pos 0 ∷ pos 0 ∷ pos 0 ∷ pos 0 ∷
    pos 3 ∷ pos 0 ∷ pos 0 ∷ pos 0 ∷ pos 0 ∷ pos 0 ∷ pos 0 ∷ pos 0 ∷
    pos 3 ∷ pos 0 ∷ pos 0 ∷ pos 0 ∷ pos 0 ∷ pos 0 ∷ pos 0 ∷ pos 0 ∷
    negsuc 1 ∷ pos 0 ∷ pos 0 ∷ pos 0 ∷ pos 0 ∷ pos 0 ∷ pos 0 ∷ pos 0 ∷
    pos 0 ∷ pos 0 ∷ pos 0 ∷ pos 0 ∷ pos 0 ∷ pos 0 ∷ pos 0 ∷ pos 0 ∷
    negsuc 1 ∷ pos 0 ∷ pos 0 ∷ pos 0 ∷ pos 0 ∷ pos 0 ∷ pos 0 ∷ pos 0 ∷
    pos 3 ∷ pos 0 ∷ pos 0 ∷ pos 0 ∷ pos 0 ∷ pos 0 ∷ pos 0 ∷ pos 0 ∷
    pos 0 ∷ pos 0 ∷ pos 0 ∷ pos 0 ∷ pos 0 ∷ pos 0 ∷ pos 0 ∷ pos 0 ∷ []
unfolding forward_of transform_of forward_rows_of coefficient_at dot_of side_at table_at ftab1 ftab2 ftab3 ftab4 forward_columns_of level_shift_of forward_column_of butterfly_of forward_even_of forward_odd_of ◌▸◌ tab_from sat16 wrap32 adds_of subs_of mulhi_of sll_of or_of sra_of
constant = refl

impulse : forward_of true (pos 0) (tab 64 (λ i. cond (eqb i 19) (pos 1000) (pos 0)))
    ≡
    pos 500 ∷ pos 138 ∷ negsuc 652 ∷ negsuc 392 ∷ pos 500 ∷ pos 588 ∷ negsuc 270 ∷ negsuc 693 ∷
    pos 395 ∷ pos 108 ∷ negsuc 512 ∷ negsuc 307 ∷ pos 393 ∷ pos 462 ∷ negsuc 211 ∷ negsuc 543 ∷
    negsuc 268 ∷ negsuc 74 ∷ pos 354 ∷ pos 213 ∷ negsuc 270 ∷ negsuc 318 ∷ pos 147 ∷ pos 376 ∷
    negsuc 695 ∷ negsuc 190 ∷ pos 906 ∷ pos 545 ∷ negsuc 692 ∷ negsuc 814 ∷ pos 375 ∷ pos 962 ∷
    negsuc 499 ∷ negsuc 137 ∷ pos 653 ∷ pos 393 ∷ negsuc 499 ∷ negsuc 587 ∷ pos 271 ∷ pos 694 ∷
    pos 136 ∷ pos 38 ∷ negsuc 180 ∷ negsuc 108 ∷ pos 138 ∷ pos 162 ∷ negsuc 74 ∷ negsuc 191 ∷
    pos 656 ∷ pos 180 ∷ negsuc 853 ∷ negsuc 512 ∷ pos 653 ∷ pos 768 ∷ negsuc 353 ∷ negsuc 905 ∷
    pos 588 ∷ pos 162 ∷ negsuc 767 ∷ negsuc 461 ∷ pos 588 ∷ pos 692 ∷ negsuc 317 ∷ negsuc 815 ∷ []
unfolding forward_of transform_of forward_rows_of coefficient_at dot_of side_at table_at ftab1 ftab2 ftab3 ftab4 forward_columns_of level_shift_of forward_column_of butterfly_of forward_even_of forward_odd_of ◌▸◌ tab_from sat16 wrap32 adds_of subs_of mulhi_of sll_of or_of sra_of
impulse = refl

ends : List ℤ
ends =
    negsuc 32767 ∷ pos 32767 ∷ pos 32767 ∷ negsuc 32767 ∷ pos 32767 ∷ negsuc 32767 ∷ pos 32767 ∷ pos 32767 ∷
    negsuc 32767 ∷ pos 32767 ∷ negsuc 32767 ∷ pos 32767 ∷ pos 32767 ∷ negsuc 32767 ∷ pos 32767 ∷ negsuc 32767 ∷
    pos 32767 ∷ pos 32767 ∷ negsuc 32767 ∷ pos 32767 ∷ negsuc 32767 ∷ pos 32767 ∷ pos 32767 ∷ negsuc 32767 ∷
    pos 32767 ∷ negsuc 32767 ∷ pos 32767 ∷ pos 32767 ∷ negsuc 32767 ∷ pos 32767 ∷ negsuc 32767 ∷ pos 32767 ∷
    pos 32767 ∷ negsuc 32767 ∷ pos 32767 ∷ negsuc 32767 ∷ pos 32767 ∷ pos 32767 ∷ negsuc 32767 ∷ pos 32767 ∷
    negsuc 32767 ∷ pos 32767 ∷ pos 32767 ∷ negsuc 32767 ∷ pos 32767 ∷ negsuc 32767 ∷ pos 32767 ∷ pos 32767 ∷
    negsuc 32767 ∷ pos 32767 ∷ negsuc 32767 ∷ pos 32767 ∷ pos 32767 ∷ negsuc 32767 ∷ pos 32767 ∷ negsuc 32767 ∷
    pos 32767 ∷ pos 32767 ∷ negsuc 32767 ∷ pos 32767 ∷ negsuc 32767 ∷ pos 32767 ∷ pos 32767 ∷ negsuc 32767 ∷ []

ends8 : forward_of false (pos 128) ends
    ≡
    negsuc 2083 ∷ pos 0 ∷ pos 2695 ∷ pos 0 ∷ negsuc 2059 ∷ pos 0 ∷ pos 1122 ∷ pos 0 ∷
    negsuc 11 ∷ pos 1 ∷ pos 3 ∷ pos 2 ∷ negsuc 4 ∷ pos 1 ∷ negsuc 5 ∷ negsuc 0 ∷
    pos 551 ∷ pos 0 ∷ pos 214 ∷ pos 0 ∷ pos 3 ∷ pos 0 ∷ pos 522 ∷ pos 0 ∷
    pos 1 ∷ pos 5 ∷ negsuc 1 ∷ pos 8 ∷ pos 2 ∷ pos 11 ∷ pos 0 ∷ negsuc 13 ∷
    negsuc 3 ∷ pos 0 ∷ negsuc 7 ∷ pos 0 ∷ pos 4 ∷ pos 0 ∷ negsuc 9 ∷ pos 0 ∷
    negsuc 10 ∷ pos 1 ∷ pos 4 ∷ pos 4 ∷ negsuc 3 ∷ pos 0 ∷ negsuc 0 ∷ pos 0 ∷
    negsuc 1342 ∷ pos 0 ∷ negsuc 523 ∷ pos 0 ∷ pos 8 ∷ pos 0 ∷ negsuc 1244 ∷ pos 0 ∷
    negsuc 5 ∷ pos 0 ∷ negsuc 1 ∷ negsuc 4 ∷ pos 0 ∷ pos 1 ∷ negsuc 4 ∷ negsuc 0 ∷ []
unfolding forward_of transform_of forward_rows_of coefficient_at dot_of side_at table_at ftab1 ftab2 ftab3 ftab4 forward_columns_of level_shift_of forward_column_of butterfly_of forward_even_of forward_odd_of ◌▸◌ tab_from sat16 wrap32 adds_of subs_of mulhi_of sll_of or_of sra_of ends
ends8 = refl

ends10 : forward_of true (pos 512) ends
    ≡
    negsuc 2056 ∷ pos 0 ∷ pos 2681 ∷ pos 0 ∷ negsuc 2050 ∷ pos 0 ∷ pos 1112 ∷ pos 0 ∷
    negsuc 1 ∷ pos 0 ∷ pos 1 ∷ pos 0 ∷ negsuc 1 ∷ pos 0 ∷ negsuc 1 ∷ pos 0 ∷
    pos 554 ∷ pos 0 ∷ pos 213 ∷ pos 0 ∷ pos 0 ∷ pos 0 ∷ pos 514 ∷ pos 0 ∷
    negsuc 0 ∷ pos 1 ∷ negsuc 0 ∷ pos 2 ∷ pos 1 ∷ pos 3 ∷ pos 0 ∷ negsuc 3 ∷
    negsuc 0 ∷ pos 0 ∷ negsuc 1 ∷ pos 0 ∷ pos 1 ∷ pos 0 ∷ negsuc 1 ∷ pos 0 ∷
    negsuc 4 ∷ pos 0 ∷ pos 1 ∷ pos 2 ∷ negsuc 0 ∷ pos 0 ∷ pos 0 ∷ negsuc 0 ∷
    negsuc 1337 ∷ pos 0 ∷ negsuc 514 ∷ pos 0 ∷ pos 3 ∷ pos 0 ∷ negsuc 1236 ∷ pos 0 ∷
    negsuc 1 ∷ pos 0 ∷ pos 0 ∷ negsuc 0 ∷ pos 0 ∷ pos 0 ∷ negsuc 1 ∷ pos 0 ∷ []
unfolding forward_of transform_of forward_rows_of coefficient_at dot_of side_at table_at ftab1 ftab2 ftab3 ftab4 forward_columns_of level_shift_of forward_column_of butterfly_of forward_even_of forward_odd_of ◌▸◌ tab_from sat16 wrap32 adds_of subs_of mulhi_of sll_of or_of sra_of ends
ends10 = refl
