-- The questions of four planes, and what a chain over the strides of those that are meant finds.
use mathlib.Core.Path.{◌≡◌, refl, ap, ◌∙◌}
use mathlib.Core.Bool.{Bool, ◌&&◌}
use mathlib.Core.List.{List, [], ◌∷◌, map}
use Prim.Native.Nat.{ℕ, zero, suc, ◌+◌, ◌/◌, ◌≤◌}
use native.Mathlib.Omega.{arith}
use lib.ListN.{length, take, get_or}
use Rattle.std.specs.List.{list_all, zip, sum_by}
use Rattle.std.proofs.lemmas.List.Sums.{sum_by-cons}
use Rattle.std.proofs.lemmas.List.{length-take}
use Rattle.questions.specs.four.Firsts.{of_four, all_of, sum_of}

all_map : {A : Type 0} (g : A → Bool) (n : ℕ) (xs : List A) → list_all g (take n xs) ≡ all_of (take n (map g xs))
all_map g zero xs = refl
all_map g (suc n) [] = refl
all_map g (suc n) (x ∷ xs) = ap (λ (b : Bool). g x && b) (all_map g n xs)

pub map_four : {A : Type 0} (g : ℕ → A) (xs : List ℕ) → length xs ≡ 4 → map g xs ≡ of_four (λ k. g (get_or xs k 0))
map_four g [] e = absurd (omega arith)
map_four g (a ∷ []) e = absurd (omega arith)
map_four g (a ∷ b ∷ []) e = absurd (omega arith)
map_four g (a ∷ b ∷ c ∷ []) e = absurd (omega arith)
map_four g (a ∷ b ∷ c ∷ d ∷ []) e = refl
map_four g (a ∷ b ∷ c ∷ d ∷ x ∷ xs) e = absurd (omega arith)

pub all_four : (g : ℕ → Bool) (n : ℕ) (xs : List ℕ) → length xs ≡ 4 → list_all g (take n xs) ≡ all_of (take n (of_four (λ k. g (get_or xs k 0))))
all_four g n xs e = all_map g n xs ∙ ap (λ (l : List Bool). all_of (take n l)) (map_four g xs e)

zip_four : (g : ℕ → ℕ → Bool) (xs ys : List ℕ) → length xs ≡ 4 → length ys ≡ 4 → map (λ p. g p.0 p.1) (zip xs ys) ≡ of_four (λ k. g (get_or xs k 0) (get_or ys k 0))
zip_four g [] ys e f = absurd (omega arith)
zip_four g (a ∷ []) ys e f = absurd (omega arith)
zip_four g (a ∷ b ∷ []) ys e f = absurd (omega arith)
zip_four g (a ∷ b ∷ c ∷ []) ys e f = absurd (omega arith)
zip_four g (a ∷ b ∷ c ∷ d ∷ []) [] e f = absurd (omega arith)
zip_four g (a ∷ b ∷ c ∷ d ∷ []) (k ∷ []) e f = absurd (omega arith)
zip_four g (a ∷ b ∷ c ∷ d ∷ []) (k ∷ l ∷ []) e f = absurd (omega arith)
zip_four g (a ∷ b ∷ c ∷ d ∷ []) (k ∷ l ∷ m ∷ []) e f = absurd (omega arith)
zip_four g (a ∷ b ∷ c ∷ d ∷ []) (k ∷ l ∷ m ∷ n ∷ []) e f = refl
zip_four g (a ∷ b ∷ c ∷ d ∷ []) (k ∷ l ∷ m ∷ n ∷ y ∷ ys) e f = absurd (omega arith)
zip_four g (a ∷ b ∷ c ∷ d ∷ x ∷ xs) ys e f = absurd (omega arith)

zip_take : (n : ℕ) (xs ys : List ℕ) → zip (take n xs) ys ≡ take n (zip xs ys)
zip_take zero xs ys = refl
zip_take (suc n) [] ys = refl
zip_take (suc n) (x ∷ xs) [] = refl
zip_take (suc n) (x ∷ xs) (y ∷ ys) = ap (λ (l : List (ℕ × ℕ)). (x, y) ∷ l) (zip_take n xs ys)

pub zip_all_four : (g : ℕ → ℕ → Bool) (n : ℕ) (xs ys : List ℕ) → length xs ≡ 4 → length ys ≡ 4
    → list_all (λ p. g p.0 p.1) (zip (take n xs) ys) ≡ all_of (take n (of_four (λ k. g (get_or xs k 0) (get_or ys k 0))))
zip_all_four g n xs ys e f =
    ap (list_all (λ p. g p.0 p.1)) (zip_take n xs ys) ∙ all_map (λ p. g p.0 p.1) n (zip xs ys) ∙ ap (λ (l : List Bool). all_of (take n l)) (zip_four g xs ys e f)

sum_map : (n : ℕ) (xs : List ℕ) → sum_by (λ x. x / 8) (take n xs) ≡ sum_of (take n (map (λ x. x / 8) xs))
sum_map zero xs = refl
sum_map (suc n) [] = refl
sum_map (suc n) (x ∷ xs) = sum_by-cons (λ x. x / 8) x (take n xs) ∙ ap (λ (k : ℕ). x / 8 + k) (sum_map n xs)

pub sum_four : (n : ℕ) (xs : List ℕ) → length xs ≡ 4 → sum_by (λ x. x / 8) (take n xs) ≡ sum_of (take n (of_four (λ k. get_or xs k 0 / 8)))
sum_four n xs e = sum_map n xs ∙ ap (λ (l : List ℕ). sum_of (take n l)) (map_four (λ x. x / 8) xs e)

pub take_few : (n : ℕ) (xs : List ℕ) → length xs ≡ 4 → length (take n xs) ≤ 4
take_few n xs e = omega (arith, length-take n xs)
