-- The preset of a quality (`quality_preset` of layout.rs). Document 01: "quality_preset is taken for 0 to 255."
use Rattle.std.specs.Prelude.{Bool, true, false, List, [], ◌∷◌, ℕ, suc, ◌+◌, ◌-◌, leb}
use Rattle.tables.specs.Divisor.{quality_factors}

-- the quality that is in force, and its preset
pub record Chosen : Type 0 where
  pub quality : ℕ
  pub index : ℕ

abbrev pub pick_chosen : Bool → Chosen → Chosen → Chosen
pick_chosen true a b = a
pick_chosen false a b = b

-- the first preset from i on whose factor is at least 100 - q; where there is none, preset 0 with the quality unchanged
unfoldable pub choose_from : ℕ → ℕ → List ℕ → Chosen
choose_from q i [] = record { quality = q; index = 0 }
choose_from q i (m ∷ ms) = pick_chosen (leb 100 (m + q)) (record { quality = 100 - m; index = i }) (choose_from q (suc i) ms)

unfoldable pub quality_preset : ℕ → Chosen
quality_preset q = choose_from q 0 quality_factors
