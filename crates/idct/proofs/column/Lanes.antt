-- Lane k of the column pass on rows is column k: rows and numbers go through the same steps.
use mathlib.Core.Path.{◌≡◌, ◌∙◌, ap, refl}
use mathlib.Core.List.{List}
use Prim.Native.Nat.{ℕ, ◌<◌}
use lib.IntN.{ℤ, pos}
use Rattle.scalar.specs.Scalar.{adds_of, subs_of, mulhi_of, or_of, sra_of}
use Rattle.scalar.specs.Tab.{tab, lane}
use Rattle.scalar.proofs.Fill.{get_d_tab}
use Rattle.lanes.specs.Lanes.{mm_set1_epi16, mm_adds_epi16, mm_subs_epi16, mm_mulhi_epi16, mm_or_si128, mm_srai_epi16}
use Rattle.idct.specs.declared.Four.{Four}
use Rattle.idct.specs.column.Steps.{Stage, ◌▸◌, tg1, tg2, tg3, cos4, inverse_odd_of, inverse_even_of}
use Rattle.idct.specs.column.Rows.{inverse_odd_rows, inverse_even_rows}

-- x is lane k of the row a
pub record Lane (k : ℕ) (a : List ℤ) (x : ℤ) : Type 0 where
  pub small : k < 8
  pub eq : lane a k ≡ x

pub self : {k : ℕ} → k < 8 → (a : List ℤ) → Lane k a (lane a k)
self h a = record { small = h; eq = refl }

splat : {k : ℕ} → k < 8 → (v : ℤ) → Lane k (mm_set1_epi16 v) v
unfolding mm_set1_epi16
splat {k} h v = record { small = h; eq = get_d_tab 8 (λ i. v) k (pos 0) h }

-- an operation on two rows
each : {k : ℕ} (f : ℤ → ℤ → ℤ) {a b : List ℤ} {x y : ℤ} → Lane k a x → Lane k b y → lane (tab 8 (λ i. f (lane a i) (lane b i))) k ≡ f x y
each {k} f {a} {b} p q = get_d_tab 8 (λ i. f (lane a i) (lane b i)) k (pos 0) p.small ∙ ap (λ (v : ℤ). f v (lane b k)) p.eq ∙ ap (f _) q.eq

pub adds : {k : ℕ} {a b : List ℤ} {x y : ℤ} → Lane k a x → Lane k b y → Lane k (mm_adds_epi16 a b) (adds_of x y)
unfolding mm_adds_epi16
adds p q = record { small = p.small; eq = each adds_of p q }

pub subs : {k : ℕ} {a b : List ℤ} {x y : ℤ} → Lane k a x → Lane k b y → Lane k (mm_subs_epi16 a b) (subs_of x y)
unfolding mm_subs_epi16
subs p q = record { small = p.small; eq = each subs_of p q }

mulhi : {k : ℕ} {a b : List ℤ} {x y : ℤ} → Lane k a x → Lane k b y → Lane k (mm_mulhi_epi16 a b) (mulhi_of x y)
unfolding mm_mulhi_epi16
mulhi p q = record { small = p.small; eq = each mulhi_of p q }

or16 : {k : ℕ} {a b : List ℤ} {x y : ℤ} → Lane k a x → Lane k b y → Lane k (mm_or_si128 a b) (or_of x y)
unfolding mm_or_si128
or16 p q = record { small = p.small; eq = each or_of p q }

pub srai : {k : ℕ} (n : ℕ) {a : List ℤ} {x : ℤ} → Lane k a x → Lane k (mm_srai_epi16 a n) (sra_of x n)
unfolding mm_srai_epi16
srai {k} n {a} p = record { small = p.small; eq = get_d_tab 8 (λ i. sra_of (lane a i) n) k (pos 0) p.small ∙ ap (λ (v : ℤ). sra_of v n) p.eq }

-- the lanes k of four rows are four numbers
pub record Same (k : ℕ) (r : Four) (o : Stage) : Type 0 where
  pub e0 : Lane k r.r0 o.h0
  pub e1 : Lane k r.r1 o.h1
  pub e2 : Lane k r.r2 o.h2
  pub e3 : Lane k r.r3 o.h3

-- a row that only the rows name
left : {k : ℕ} {a : List ℤ} {x : ℤ} (f : List ℤ → Four) {z : Stage} → Lane k a x → ((b : List ℤ) → Lane k b x → Same k (f b) z) → Same k (a ▸ f) z
unfolding ◌▸◌
left {k} {a} f e g = g a e

-- a row and a number, each under its name
both : {k : ℕ} {a : List ℤ} {x : ℤ} (f : List ℤ → Four) (g : ℤ → Stage) → Lane k a x → ((b : List ℤ) (y : ℤ) → Lane k b y → Same k (f b) (g y)) → Same k (a ▸ f) (x ▸ g)
unfolding ◌▸◌
both {k} {a} {x} f g e s = s a x e

pub odd_lanes : (k : ℕ) → k < 8 → (x1 x3 x5 x7 : List ℤ) → Same k (inverse_odd_rows x1 x3 x5 x7) (inverse_odd_of (lane x1 k) (lane x3 k) (lane x5 k) (lane x7 k))
unfolding inverse_odd_rows inverse_odd_of
odd_lanes k h x1 x3 x5 x7 =
    left _ (splat h tg1) (λ tan1' tan1e.
    left _ (splat h tg3) (λ tan3' tan3e.
    left _ (splat h cos4) (λ cos4' cos4e.
    left _ (splat h (pos 1)) (λ one' onee.
    both _ _ (mulhi (self h x5) tan3e) (λ m5' m5'' m5e.
    both _ _ (mulhi tan3e (self h x3)) (λ m3' m3'' m3e.
    both _ _ (mulhi (self h x7) tan1e) (λ m7' m7'' m7e.
    both _ _ (adds m5e (self h x5)) (λ a5' a5'' a5e.
    both _ _ (mulhi tan1e (self h x1)) (λ m1' m1'' m1e.
    both _ _ (adds m3e (self h x3)) (λ a3' a3'' a3e.
    both _ _ (adds a5e (self h x3)) (λ s35' s35'' s35e.
    both _ _ (subs (self h x5) a3e) (λ d35' d35'' d35e.
    both _ _ (subs m1e (self h x7)) (λ d17' d17'' d17e.
    both _ _ (adds m7e (self h x1)) (λ s17' s17'' s17e.
    both _ _ (adds s35e s17e) (λ t0' t0'' t0e.
    both _ _ (adds t0e onee) (λ o0' o0'' o0e.
    both _ _ (subs s17e s35e) (λ u' u'' ue.
    both _ _ (subs d17e d35e) (λ v0' v0'' v0e.
    both _ _ (adds v0e onee) (λ v' v'' ve.
    both _ _ (adds d17e d35e) (λ o3' o3'' o3e.
    both _ _ (adds ue ve) (λ p' p'' pe.
    both _ _ (mulhi cos4e pe) (λ mp' mp'' mpe.
    both _ _ (subs ue ve) (λ q' q'' qe.
    both _ _ (mulhi cos4e qe) (λ mq' mq'' mqe.
    both _ _ (adds pe mpe) (λ p1' p1'' p1e.
    both _ _ (or16 p1e onee) (λ o1' o1'' o1e.
    both _ _ (adds mqe qe) (λ q1' q1'' q1e.
    both _ _ (or16 q1e onee) (λ o2' o2'' o2e.
    record { e0 = o0e; e1 = o1e; e2 = o2e; e3 = o3e }))))))))))))))))))))))))))))

pub even_lanes : (round corr : ℤ) (k : ℕ) → k < 8 → (x0 x2 x4 x6 : List ℤ)
    → Same k (inverse_even_rows round corr x0 x2 x4 x6) (inverse_even_of round corr (lane x0 k) (lane x2 k) (lane x4 k) (lane x6 k))
unfolding inverse_even_rows inverse_even_of
even_lanes round corr k h x0 x2 x4 x6 =
    left _ (splat h tg2) (λ tan2' tan2e.
    left _ (splat h round) (λ rnd' rnde.
    left _ (splat h corr) (λ cor' core.
    both _ _ (mulhi (self h x6) tan2e) (λ m6' m6'' m6e.
    both _ _ (mulhi tan2e (self h x2)) (λ m2' m2'' m2e.
    both _ _ (adds m6e (self h x2)) (λ s26' s26'' s26e.
    both _ _ (subs m2e (self h x6)) (λ d26' d26'' d26e.
    both _ _ (adds (self h x4) (self h x0)) (λ s04' s04'' s04e.
    both _ _ (subs (self h x0) (self h x4)) (λ d04' d04'' d04e.
    both _ _ (adds s04e s26e) (λ a0' a0'' a0e.
    both _ _ (adds a0e rnde) (λ e0' e0'' e0e.
    both _ _ (subs s04e s26e) (λ a3' a3'' a3e.
    both _ _ (adds d04e d26e) (λ a1' a1'' a1e.
    both _ _ (adds a1e rnde) (λ e1' e1'' e1e.
    both _ _ (subs d04e d26e) (λ a2' a2'' a2e.
    both _ _ (adds a2e core) (λ e2' e2'' e2e.
    both _ _ (adds a3e core) (λ e3' e3'' e3e.
    record { e0 = e0e; e1 = e1e; e2 = e2e; e3 = e3e })))))))))))))))))
