-- The choice of a preset, step by step.
use mathlib.Core.Path.{◌≡◌, refl, ap, ◌∙◌}
use mathlib.Core.Bool.{Bool, true, false}
use mathlib.Core.List.{List, [], ◌∷◌}
use Prim.Native.Nat.{ℕ, zero, suc, ◌+◌, ◌-◌, ◌≤◌, ◌<◌}
use native.Mathlib.Omega.{arith}
use borrow.Author.Tests.{le-leb, lt-leb}
use lib.Dec.{T, leb, leb→le, lit<}
use lib.ListN.{length, get_or, drop}
use lib.Seq.{drop-cons}
use Rattle.std.specs.List.{AllWithin, HoldsAt}
use Rattle.tables.specs.Divisor.{quality_factors}
use Rattle.tables.specs.Quality.{Chosen, pick_chosen, choose_from, quality_preset}
use Rattle.tables.proofs.Every.{every_from, every}

pub factors_length : length quality_factors ≡ 25
unfolding quality_factors
factors_length = refl

sized : ℕ → Bool
sized i = leb (get_or quality_factors i 0) 64

all_sized : T (every_from sized 0 25)
unfolding sized quality_factors
all_sized = tt

pub factor_high : (f : List ℕ) (i : ℕ) → f ≡ quality_factors → i < 25 → get_or f i 0 ≤ 64
unfolding sized
factor_high f i e h = rw e (leb→le (get_or quality_factors i 0) 64 (every sized 25 all_sized i h))

-- what is left to choose from at i
abbrev pub choice_at : ℕ → ℕ → Chosen
choice_at q i = choose_from q i (drop i quality_factors)

choice_taken : (q i : ℕ) → i < 25 → 100 ≤ get_or quality_factors i 0 + q → choice_at q i ≡ record { quality = 100 - get_or quality_factors i 0; index = i }
unfolding choose_from
choice_taken q i h t =
    let e : drop i quality_factors ≡ get_or quality_factors i 0 ∷ drop (suc i) quality_factors = drop-cons quality_factors i 0 (rw factors_length h) in
    rw (e, le-leb 100 (get_or quality_factors i 0 + q) t)

choice_passed : (q i : ℕ) → i < 25 → get_or quality_factors i 0 + q < 100 → choice_at q i ≡ choice_at q (suc i)
unfolding choose_from
choice_passed q i h t =
    let e : drop i quality_factors ≡ get_or quality_factors i 0 ∷ drop (suc i) quality_factors = drop-cons quality_factors i 0 (rw factors_length h) in
    rw (e, lt-leb 100 (get_or quality_factors i 0 + q) t)

-- no factor before i reaches 100 - q
passed_all : (q i : ℕ) → i ≤ 25 → ((k : ℕ) → k < i → get_or quality_factors k 0 + q < 100) → quality_preset q ≡ choice_at q i
unfolding quality_preset
passed_all q zero h p = refl
passed_all q (suc i) h p = passed_all q i (omega arith) (λ k l. p k (omega arith)) ∙ choice_passed q i h (p i (omega arith))

pub choice_none : (q i : ℕ) → 25 ≤ i → i ≤ 25 → choice_at q i ≡ record { quality = q; index = 0 }
unfolding choose_from quality_factors
choice_none q i h k =
    let e : i ≡ 25 = omega arith in
    rw e refl

-- what a search for the first factor that reaches least finds
module _ (f : List ℕ) (q least : ℕ) (e : f ≡ quality_factors) (l : least ≡ 100 - q) where
  below : (i : ℕ) → AllWithin (λ m. m < least) f 0 i → (k : ℕ) → k < i → get_or quality_factors k 0 + q < 100
  below i p k h =
      let a : get_or f k 0 < least = p k 0 (omega arith) h in
      let b : get_or f k 0 + q < 100 = omega arith in
      rw e at b

  pub found_one : (i : ℕ) → i < length f → HoldsAt (λ m. least ≤ m) f i → AllWithin (λ m. m < least) f 0 i → quality_preset q ≡ record { quality = 100 - get_or f i 0; index = i }
  found_one i h t p =
      let s : length f ≡ 25 = ap length e ∙ factors_length in
      let a : least ≤ get_or f i 0 = t 0 in
      let b : 100 ≤ get_or f i 0 + q = omega arith in
      passed_all q i (omega arith) (below i p) ∙ rw e (choice_taken q i (omega arith) (rw e at b))

  pub found_none : AllWithin (λ m. m < least) f 0 (length f) → quality_preset q ≡ record { quality = q; index = 0 }
  found_none p =
      let s : length f ≡ 25 = ap length e ∙ factors_length in
      passed_all q 25 (omega arith) (below 25 (rw s at p)) ∙ choice_none q 25 (omega arith) (omega arith)

pick_below : (b : Bool) (x y : Chosen) → x.index < 25 → y.index < 25 → (pick_chosen b x y).index < 25
pick_below true x y h k = h
pick_below false x y h k = k

choose_below : (q i : ℕ) (ms : List ℕ) → i + length ms ≤ 25 → (choose_from q i ms).index < 25
unfolding choose_from
choose_below q i [] h = lit< tt
choose_below q i (m ∷ ms) h =
    pick_below (leb 100 (m + q)) (record { quality = 100 - m; index = i }) (choose_from q (suc i) ms) (omega arith) (choose_below q (suc i) ms (omega arith))

-- what is chosen is a preset
pub preset_below : (q : ℕ) → (quality_preset q).index < 25
unfolding quality_preset
preset_below q = choose_below q 0 quality_factors (omega (arith, factors_length))
