-- Four moves at a time make the scan.
use mathlib.Core.Path.{◌≡◌, refl, ap, ◌∙◌}
use mathlib.Core.List.{List}
use lib.IntN.{ℤ, pos}
use lib.ListN.{replicate}
use lib.Seq.{sets}
use Rattle.scalar.specs.Tab.{tab_from}
use Rattle.tables.specs.Zigzag.{zigzag}
use Rattle.quant.specs.scan.Scan.{four_of, scan_of}

-- sixteen times four
rows : (n : List ℤ) →
    sets (sets (sets (sets (sets (sets (sets (sets (sets (sets (sets (sets (sets (sets (sets (sets (replicate 64 (pos 0)) 0 (four_of n 0 1 8 16)) 4 (four_of n 9 2 3 10)) 8 (four_of n 17 24 32 25)) 12 (four_of n 18 11 4 5))
    16 (four_of n 12 19 26 33)) 20 (four_of n 40 48 41 34)) 24 (four_of n 27 20 13 6)) 28 (four_of n 7 14 21 28))
    32 (four_of n 35 42 49 56)) 36 (four_of n 57 50 43 36)) 40 (four_of n 29 22 15 23)) 44 (four_of n 30 37 44 51))
    48 (four_of n 58 59 52 45)) 52 (four_of n 38 31 39 46)) 56 (four_of n 53 60 61 54)) 60 (four_of n 47 55 62 63) ≡ scan_of n
unfolding scan_of tab_from zigzag
rows n = refl

pub moved : (n : List ℤ) {z0 z1 z2 z3 z4 z5 z6 z7 z8 z9 z10 z11 z12 z13 z14 z15 z16 : List ℤ} → z0 ≡ replicate 64 (pos 0)
    → z1 ≡ sets z0 0 (four_of n 0 1 8 16)
    → z2 ≡ sets z1 4 (four_of n 9 2 3 10)
    → z3 ≡ sets z2 8 (four_of n 17 24 32 25)
    → z4 ≡ sets z3 12 (four_of n 18 11 4 5)
    → z5 ≡ sets z4 16 (four_of n 12 19 26 33)
    → z6 ≡ sets z5 20 (four_of n 40 48 41 34)
    → z7 ≡ sets z6 24 (four_of n 27 20 13 6)
    → z8 ≡ sets z7 28 (four_of n 7 14 21 28)
    → z9 ≡ sets z8 32 (four_of n 35 42 49 56)
    → z10 ≡ sets z9 36 (four_of n 57 50 43 36)
    → z11 ≡ sets z10 40 (four_of n 29 22 15 23)
    → z12 ≡ sets z11 44 (four_of n 30 37 44 51)
    → z13 ≡ sets z12 48 (four_of n 58 59 52 45)
    → z14 ≡ sets z13 52 (four_of n 38 31 39 46)
    → z15 ≡ sets z14 56 (four_of n 53 60 61 54)
    → z16 ≡ sets z15 60 (four_of n 47 55 62 63)
    → z16 ≡ scan_of n
moved n e0 e1 e2 e3 e4 e5 e6 e7 e8 e9 e10 e11 e12 e13 e14 e15 e16 =
    e16
    ∙ ap (λ (z : List ℤ). sets z 60 (four_of n 47 55 62 63))
    (e15
    ∙ ap (λ (z : List ℤ). sets z 56 (four_of n 53 60 61 54))
    (e14
    ∙ ap (λ (z : List ℤ). sets z 52 (four_of n 38 31 39 46))
    (e13
    ∙ ap (λ (z : List ℤ). sets z 48 (four_of n 58 59 52 45))
    (e12
    ∙ ap (λ (z : List ℤ). sets z 44 (four_of n 30 37 44 51))
    (e11
    ∙ ap (λ (z : List ℤ). sets z 40 (four_of n 29 22 15 23))
    (e10
    ∙ ap (λ (z : List ℤ). sets z 36 (four_of n 57 50 43 36))
    (e9
    ∙ ap (λ (z : List ℤ). sets z 32 (four_of n 35 42 49 56))
    (e8
    ∙ ap (λ (z : List ℤ). sets z 28 (four_of n 7 14 21 28))
    (e7
    ∙ ap (λ (z : List ℤ). sets z 24 (four_of n 27 20 13 6))
    (e6
    ∙ ap (λ (z : List ℤ). sets z 20 (four_of n 40 48 41 34))
    (e5
    ∙ ap (λ (z : List ℤ). sets z 16 (four_of n 12 19 26 33))
    (e4
    ∙ ap (λ (z : List ℤ). sets z 12 (four_of n 18 11 4 5))
    (e3
    ∙ ap (λ (z : List ℤ). sets z 8 (four_of n 17 24 32 25))
    (e2
    ∙ ap (λ (z : List ℤ). sets z 4 (four_of n 9 2 3 10))
    (e1
    ∙ ap (λ (z : List ℤ). sets z 0 (four_of n 0 1 8 16)) e0)))))))))))))))
    ∙ rows n
