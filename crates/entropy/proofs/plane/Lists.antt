-- Laws of lists of blocks, one after the other: their steps, their places.
use mathlib.Core.Path.{◌≡◌, refl, sym, ap, ◌∙◌}
use mathlib.Core.Bool.{Bool}
use mathlib.Core.List.{List, [], ◌∷◌, ◌++◌, map, append_assoc, append-nil, map-append}
use Prim.Native.Nat.{ℕ}
use lib.IntN.{ℤ, pos, ◌-ℤ◌}
use Rattle.scalar.specs.Tab.{lane}
use Rattle.calls.specs.Streams.{coded_dc, steps_from, step_code, step_codes, dc_of, with_dc, joined}
use Rattle.entropy.specs.plane.Coded.{coded_dcs, places, last_of}

pub steps_append : (q : ℤ) (xs ys : List ℤ) → step_codes (steps_from q (xs ++ ys)) ≡ step_codes (steps_from q xs) ++ step_codes (steps_from (last_of q xs) ys)
unfolding step_codes steps_from
steps_append q [] ys = refl
steps_append q (x ∷ xs) ys =
    ap (λ (l : List Bool). step_code (x -ℤ q) ++ l) (steps_append x xs ys)
    ∙ sym (append_assoc (step_code (x -ℤ q)) (step_codes (steps_from x xs)) (step_codes (steps_from (last_of x xs) ys)))

pub last_append : (q : ℤ) (xs ys : List ℤ) → last_of q (xs ++ ys) ≡ last_of (last_of q xs) ys
last_append q [] ys = refl
last_append q (x ∷ xs) ys = last_append x xs ys

pub dcs_append : (s : ℕ) (xs ys : List (List ℤ)) → coded_dcs s (xs ++ ys) ≡ coded_dcs s xs ++ coded_dcs s ys
dcs_append s xs ys = ap (map (coded_dc s)) (map-append dc_of xs ys) ∙ map-append (coded_dc s) (map dc_of xs) (map dc_of ys)

joined_append : (xs ys : List (List ℤ)) → joined (xs ++ ys) ≡ joined xs ++ joined ys
joined_append [] ys = refl
joined_append (x ∷ xs) ys = ap (λ (l : List ℤ). x ++ l) (joined_append xs ys) ∙ sym (append_assoc x (joined xs) (joined ys))

pub places_append : (xs ys : List (List ℤ)) → places (xs ++ ys) ≡ places xs ++ places ys
places_append xs ys = ap joined (map-append (with_dc (pos 0)) xs ys) ∙ joined_append (map (with_dc (pos 0)) xs) (map (with_dc (pos 0)) ys)

-- one block
pub places_one : (z : List ℤ) → places (z ∷ []) ≡ with_dc (pos 0) z
places_one z = append-nil (with_dc (pos 0) z)

pub dc_lane : (z : List ℤ) → dc_of z ≡ lane z 0
dc_lane [] = refl
dc_lane (c ∷ z) = refl

pub steps_one : (s : ℕ) (q : ℤ) (z : List ℤ) → step_codes (steps_from q (coded_dcs s (z ∷ []))) ≡ step_code (coded_dc s (lane z 0) -ℤ q)
unfolding step_codes steps_from
steps_one s q z = append-nil (step_code (coded_dc s (dc_of z) -ℤ q)) ∙ ap (λ (c : ℤ). step_code (coded_dc s c -ℤ q)) (dc_lane z)
