use Rattle.std.proofs.Common.{◌≡◌, ℕ, ◌<◌, ◌∙◌, ap, List, [], ◌∷◌, length, get_or, map, ℤ, arith, rules}
use mir.Syntax.{w16}
use mir.Facts.{to_z-of_z}
use Rattle.scalar.specs.Scalar.{adds_of}
use Rattle.scalar.specs.Tab.{tab, lane}
use Rattle.scalar.proofs.Laws.{back}
use Rattle.scalar.proofs.Fill.{list_tab, tab_ext}
use Rattle.sample.specs.Depth.{is_ten}
use Rattle.sample.specs.Numbers.{sample_of}
use Rattle.sample.proofs.Lists.{samples_length, samples_at}
use Rattle.idct.proofs.Bounds.{level_samples}
use Rattle.idct.proofs.samples.Goals as goal

-- samples by their numbers
by_numbers : {A : Type 0} {number : A → ℕ} {samples : List A → List ℕ} (lists : (xs : List A) → samples xs ≡ map number xs) (n : ℕ) (f : ℕ → ℕ) (xs : List A)
    → length xs ≡ n → ((k : ℕ) (other : A) → k < n → number (get_or xs k other) ≡ f k) → samples xs ≡ tab n f
by_numbers {A} {number} {samples} lists n f xs l h =
    list_tab n (samples xs) 0 (samples_length lists xs ∙ l) ∙ tab_ext n (λ k i. let e = some xs k (omega arith) in samples_at lists xs k e (omega arith) ∙ h k e i)
  where
    some : (ys : List A) (k : ℕ) → k < length ys → A
    some [] k i = absurd (omega arith)
    some (y ∷ ys) k i = y

pub returns : goal.returns
returns g c =
    let ten = is_ten g.S.Sample.depth in
    let v = c.args.v in
    let at = λ (z : ℤ) (i : ℕ). sample_of ten (adds_of (lane v i) z) in
    by_numbers g.met.S.Sample.lists 64 (at (back w16 c.args.level)) c.each.result (search rules) c.each.ensures
    ∙ ap (λ (z : ℤ). tab 64 (at z)) (to_z-of_z c.ranges.level)
    ∙ level_samples ten c.args.level v
