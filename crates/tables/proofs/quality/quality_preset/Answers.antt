use Rattle.std.proofs.Common.{◌≡◌, ◌<◌, ◌≤◌, length, sym, ap, arith, rules, tests}
use Rattle.std.proofs.lemmas.Iterator.{IsFirst-from_position, YieldsList-from_slice}
use Rattle.tables.specs.Quality.{Chosen}
use Rattle.tables.proofs.Presets.{factor_high, found_one, found_none}
use Rattle.tables.proofs.quality.quality_preset.Goals.{In-Some, In-None}
use Rattle.tables.proofs.quality.quality_preset.Goals as goal

pub overflow_sub-result : goal.overflow_sub-result
overflow_sub-result c =
    omega (arith, factor_high c.quality_factors-factors.result c.in-Some.index c.quality_factors-factors.ensures (search rules))

pub returns-in-Some : goal.returns-in-Some
returns-in-Some c =
    let f = c.quality_factors-factors.result in
    let least = c.from-least.result in
    let h = IsFirst-from_position _ _ c.position.result (λ m. least ≤ m) (λ m. m < least) c.position.ensures.ran (YieldsList-from_slice f cc) (λ x q k. search (rules, tests)) (λ x q k. search (rules, tests)) in
    let k = rw c.in-Some.is at h in
    let e = found_one f c.args.q least c.quality_factors-factors.ensures (search rules) c.in-Some.index k.0 k.1 k.2 in
    (sym (ap (λ (x : Chosen). x.quality) e), sym (ap (λ (x : Chosen). x.index) e))

pub returns-in-None : goal.returns-in-None
returns-in-None c =
    let f = c.quality_factors-factors.result in
    let least = c.from-least.result in
    let h = IsFirst-from_position _ _ c.position.result (λ m. least ≤ m) (λ m. m < least) c.position.ensures.ran (YieldsList-from_slice f cc) (λ x q k. search (rules, tests)) (λ x q k. search (rules, tests)) in
    let k = rw c.in-None.is at h in
    let e = found_none f c.args.q least c.quality_factors-factors.ensures (search rules) k in
    (sym (ap (λ (x : Chosen). x.quality) e), sym (ap (λ (x : Chosen). x.index) e))
