-- An operation on rows is the operation on each lane: one law for each, and the straight lines of calls of the column pass.
use mathlib.Core.Path.{◌≡◌, refl, ap, ◌∙◌}
use mathlib.Core.List.{List}
use Prim.Native.Nat.{ℕ, ◌+◌, ◌<◌}
use lib.IntN.{ℤ, pos}
use Rattle.scalar.specs.Scalar.{adds_of, subs_of, mulhi_of, sll_of, or_of}
use Rattle.scalar.specs.Tab.{tab, lane}
use Rattle.scalar.proofs.Fill.{get_d_tab, tab_ext}
use Rattle.lanes.specs.Lanes.{mm_set1_epi16, mm_adds_epi16, mm_subs_epi16, mm_mulhi_epi16, mm_slli_epi16, mm_or_si128}
use Rattle.fdct.specs.column.Steps.{◌▸◌, tan1, tan2, tan3, sqrt2, rounder, butterfly_of, forward_even_of, forward_odd_of}
use Rattle.fdct.specs.column.Rows.{butterfly_rows, forward_even_rows, forward_odd_rows}
use Rattle.fdct.specs.declared.column.SideRows.{SideRows}
use Rattle.fdct.specs.declared.column.EvenRows.{EvenRows}
use Rattle.fdct.specs.declared.column.OddRows.{OddRows}

-- lane k of x is f k
record Row (x : List ℤ) (f : ℕ → ℤ) : Type 0 where
  at : (k : ℕ) → k < 8 → lane x k ≡ f k

-- x is the row of the f k
record Made (x : List ℤ) (f : ℕ → ℤ) : Type 0 where
  eq : x ≡ tab 8 f

self : (x : List ℤ) → Row x (lane x)
self x = record { at = λ k h. refl }

row : {x : List ℤ} {f : ℕ → ℤ} → Made x f → Row x f
row {f} m = record { at = λ k h. ap (λ (l : List ℤ). lane l k) m.eq ∙ get_d_tab 8 f k (pos 0) h }

adds : {a b r : List ℤ} {f g : ℕ → ℤ} → Row a f → Row b g → r ≡ mm_adds_epi16 a b → Made r (λ k. adds_of (f k) (g k))
unfolding mm_adds_epi16
adds {b} {f} p q e = record { eq = e ∙ tab_ext 8 (λ k h. ap (λ (z : ℤ). adds_of z (lane b k)) (p.at k h) ∙ ap (adds_of (f k)) (q.at k h)) }

subs : {a b r : List ℤ} {f g : ℕ → ℤ} → Row a f → Row b g → r ≡ mm_subs_epi16 a b → Made r (λ k. subs_of (f k) (g k))
unfolding mm_subs_epi16
subs {b} {f} p q e = record { eq = e ∙ tab_ext 8 (λ k h. ap (λ (z : ℤ). subs_of z (lane b k)) (p.at k h) ∙ ap (subs_of (f k)) (q.at k h)) }

mulhi : {a b r : List ℤ} {f g : ℕ → ℤ} → Row a f → Row b g → r ≡ mm_mulhi_epi16 a b → Made r (λ k. mulhi_of (f k) (g k))
unfolding mm_mulhi_epi16
mulhi {b} {f} p q e = record { eq = e ∙ tab_ext 8 (λ k h. ap (λ (z : ℤ). mulhi_of z (lane b k)) (p.at k h) ∙ ap (mulhi_of (f k)) (q.at k h)) }

or16 : {a b r : List ℤ} {f g : ℕ → ℤ} → Row a f → Row b g → r ≡ mm_or_si128 a b → Made r (λ k. or_of (f k) (g k))
unfolding mm_or_si128
or16 {b} {f} p q e = record { eq = e ∙ tab_ext 8 (λ k h. ap (λ (z : ℤ). or_of z (lane b k)) (p.at k h) ∙ ap (or_of (f k)) (q.at k h)) }

sll : {a r : List ℤ} {f : ℕ → ℤ} (n : ℕ) → Row a f → r ≡ mm_slli_epi16 a n → Made r (λ k. sll_of (f k) n)
unfolding mm_slli_epi16
sll n p e = record { eq = e ∙ tab_ext 8 (λ k h. ap (λ (z : ℤ). sll_of z n) (p.at k h)) }

splat : {r : List ℤ} (v : ℤ) → r ≡ mm_set1_epi16 v → Made r (λ k. v)
unfolding mm_set1_epi16
splat v e = record { eq = e }

pub eq4 : {A B : Type 0} (f : A → A → A → A → B) {a b c d a' b' c' d' : A} → a ≡ a' → b ≡ b' → c ≡ c' → d ≡ d' → f a b c d ≡ f a' b' c' d'
eq4 f p q r s = rw (p, q, r, s) refl

pub eq8 : {A B : Type 0} (f : A → A → A → A → A → A → A → A → B) {a b c d i j k l a' b' c' d' i' j' k' l' : A}
    → a ≡ a' → b ≡ b' → c ≡ c' → d ≡ d' → i ≡ i' → j ≡ j' → k ≡ k' → l ≡ l' → f a b c d i j k l ≡ f a' b' c' d' i' j' k' l'
eq8 f p q r s t u v w = rw (p, q, r, s, t, u, v, w) refl

unfoldable pub make_side_rows : List ℤ → List ℤ → List ℤ → List ℤ → List ℤ → List ℤ → List ℤ → List ℤ → SideRows
make_side_rows tp03 tp12 tm03 tm12 d0 d1 d2 d3 = record { tp03 = tp03; tp12 = tp12; tm03 = tm03; tm12 = tm12; d0 = d0; d1 = d1; d2 = d2; d3 = d3 }

pub butterfly_law : (x0 x1 x2 x3 x4 x5 x6 x7 : List ℤ) {d0 s0 d2 s2 d3 s3 d1 s1 tm03 tm12 s3Twice s2Twice tp03 tp12 : List ℤ}
    → d0 ≡ mm_subs_epi16 x0 x7 → s0 ≡ mm_adds_epi16 x7 x0 → d2 ≡ mm_subs_epi16 x2 x5 → s2 ≡ mm_adds_epi16 x5 x2 → d3 ≡ mm_subs_epi16 x3 x4 → s3 ≡ mm_adds_epi16 x4 x3 → d1 ≡ mm_subs_epi16 x1 x6 → s1 ≡ mm_adds_epi16 x6 x1 → tm03 ≡ mm_subs_epi16 s0 s3 → tm12 ≡ mm_subs_epi16 s1 s2 → s3Twice ≡ mm_adds_epi16 s3 s3 → s2Twice ≡ mm_adds_epi16 s2 s2 → tp03 ≡ mm_adds_epi16 s3Twice tm03 → tp12 ≡ mm_adds_epi16 s2Twice tm12
    → make_side_rows tp03 tp12 tm03 tm12 d0 d1 d2 d3 ≡ butterfly_rows x0 x1 x2 x3 x4 x5 x6 x7
unfolding make_side_rows butterfly_rows butterfly_of ◌▸◌
butterfly_law x0 x1 x2 x3 x4 x5 x6 x7 d0i s0i d2i s2i d3i s3i d1i s1i tm03i tm12i s3Twicei s2Twicei tp03i tp12i =
    let d0e = subs (self x0) (self x7) d0i in
    let s0e = adds (self x7) (self x0) s0i in
    let d2e = subs (self x2) (self x5) d2i in
    let s2e = adds (self x5) (self x2) s2i in
    let d3e = subs (self x3) (self x4) d3i in
    let s3e = adds (self x4) (self x3) s3i in
    let d1e = subs (self x1) (self x6) d1i in
    let s1e = adds (self x6) (self x1) s1i in
    let tm03e = subs (row s0e) (row s3e) tm03i in
    let tm12e = subs (row s1e) (row s2e) tm12i in
    let s3Twicee = adds (row s3e) (row s3e) s3Twicei in
    let s2Twicee = adds (row s2e) (row s2e) s2Twicei in
    let tp03e = adds (row s3Twicee) (row tm03e) tp03i in
    let tp12e = adds (row s2Twicee) (row tm12e) tp12i in
    eq8 make_side_rows tp03e.eq tp12e.eq tm03e.eq tm12e.eq d0e.eq d1e.eq d2e.eq d3e.eq

unfoldable pub make_even_rows : List ℤ → List ℤ → List ℤ → List ℤ → EvenRows
make_even_rows c0 c2 c4 c6 = record { c0 = c0; c2 = c2; c4 = c4; c6 = c6 }

pub even_law : (shift : ℕ) (tp03 tp12 tm03 tm12 : List ℤ) {tan2r one p03 p12 m03 m12 c4 p12Twice c0 m03Tan2 c6Even m12Tan2 c2Even c2 c6 : List ℤ}
    → tan2r ≡ mm_set1_epi16 tan2 → one ≡ mm_set1_epi16 rounder → p03 ≡ mm_slli_epi16 tp03 shift → p12 ≡ mm_slli_epi16 tp12 shift → m03 ≡ mm_slli_epi16 tm03 shift → m12 ≡ mm_slli_epi16 tm12 shift → c4 ≡ mm_subs_epi16 p03 p12 → p12Twice ≡ mm_adds_epi16 p12 p12 → c0 ≡ mm_adds_epi16 p12Twice c4 → m03Tan2 ≡ mm_mulhi_epi16 tan2r m03 → c6Even ≡ mm_subs_epi16 m03Tan2 m12 → m12Tan2 ≡ mm_mulhi_epi16 tan2r m12 → c2Even ≡ mm_adds_epi16 m12Tan2 m03 → c2 ≡ mm_or_si128 c2Even one → c6 ≡ mm_or_si128 c6Even one
    → make_even_rows c0 c2 c4 c6 ≡ forward_even_rows shift tp03 tp12 tm03 tm12
unfolding make_even_rows forward_even_rows forward_even_of ◌▸◌
even_law shift tp03 tp12 tm03 tm12 tan2ri onei p03i p12i m03i m12i c4i p12Twicei c0i m03Tan2i c6Eveni m12Tan2i c2Eveni c2i c6i =
    let tan2re = splat tan2 tan2ri in
    let onee = splat rounder onei in
    let p03e = sll shift (self tp03) p03i in
    let p12e = sll shift (self tp12) p12i in
    let m03e = sll shift (self tm03) m03i in
    let m12e = sll shift (self tm12) m12i in
    let c4e = subs (row p03e) (row p12e) c4i in
    let p12Twicee = adds (row p12e) (row p12e) p12Twicei in
    let c0e = adds (row p12Twicee) (row c4e) c0i in
    let m03Tan2e = mulhi (row tan2re) (row m03e) m03Tan2i in
    let c6Evene = subs (row m03Tan2e) (row m12e) c6Eveni in
    let m12Tan2e = mulhi (row tan2re) (row m12e) m12Tan2i in
    let c2Evene = adds (row m12Tan2e) (row m03e) c2Eveni in
    let c2e = or16 (row c2Evene) (row onee) c2i in
    let c6e = or16 (row c6Evene) (row onee) c6i in
    eq4 make_even_rows c0e.eq c2e.eq c4e.eq c6e.eq

unfoldable pub make_odd_rows : List ℤ → List ℤ → List ℤ → List ℤ → OddRows
make_odd_rows c1 c3 c5 c7 = record { c1 = c1; c3 = c3; c5 = c5; c7 = c7 }

pub odd_law : (shift : ℕ) (d0 d1 d2 d3 : List ℤ) {sqrt2r tan1r tan3r one x2 x1 x3 x0 diff x2Twice sum tp65Even tm65 tp65 tm465 tm765 tp765 tp465 tm465Tan3 tmp3 tmp4 tm765Tan3 tmp5 tmp6 c1 c3 c5 c7 : List ℤ}
    → sqrt2r ≡ mm_set1_epi16 sqrt2 → tan1r ≡ mm_set1_epi16 tan1 → tan3r ≡ mm_set1_epi16 tan3 → one ≡ mm_set1_epi16 rounder → x2 ≡ mm_slli_epi16 d2 (shift + 1) → x1 ≡ mm_slli_epi16 d1 (shift + 1) → x3 ≡ mm_slli_epi16 d3 shift → x0 ≡ mm_slli_epi16 d0 shift → diff ≡ mm_subs_epi16 x1 x2 → x2Twice ≡ mm_adds_epi16 x2 x2 → sum ≡ mm_adds_epi16 x2Twice diff → tp65Even ≡ mm_mulhi_epi16 sum sqrt2r → tm65 ≡ mm_mulhi_epi16 diff sqrt2r → tp65 ≡ mm_or_si128 tp65Even one → tm465 ≡ mm_subs_epi16 x3 tm65 → tm765 ≡ mm_subs_epi16 x0 tp65 → tp765 ≡ mm_adds_epi16 tp65 x0 → tp465 ≡ mm_adds_epi16 tm65 x3 → tm465Tan3 ≡ mm_mulhi_epi16 tm465 tan3r → tmp3 ≡ mm_adds_epi16 tm465Tan3 tm465 → tmp4 ≡ mm_mulhi_epi16 tp465 tan1r → tm765Tan3 ≡ mm_mulhi_epi16 tm765 tan3r → tmp5 ≡ mm_adds_epi16 tm765Tan3 tm765 → tmp6 ≡ mm_mulhi_epi16 tp765 tan1r → c1 ≡ mm_adds_epi16 tmp4 tp765 → c3 ≡ mm_subs_epi16 tm765 tmp3 → c5 ≡ mm_adds_epi16 tm465 tmp5 → c7 ≡ mm_subs_epi16 tmp6 tp465
    → make_odd_rows c1 c3 c5 c7 ≡ forward_odd_rows shift d0 d1 d2 d3
unfolding make_odd_rows forward_odd_rows forward_odd_of ◌▸◌
odd_law shift d0 d1 d2 d3 sqrt2ri tan1ri tan3ri onei x2i x1i x3i x0i diffi x2Twicei sumi tp65Eveni tm65i tp65i tm465i tm765i tp765i tp465i tm465Tan3i tmp3i tmp4i tm765Tan3i tmp5i tmp6i c1i c3i c5i c7i =
    let sqrt2re = splat sqrt2 sqrt2ri in
    let tan1re = splat tan1 tan1ri in
    let tan3re = splat tan3 tan3ri in
    let onee = splat rounder onei in
    let x2e = sll (shift + 1) (self d2) x2i in
    let x1e = sll (shift + 1) (self d1) x1i in
    let x3e = sll shift (self d3) x3i in
    let x0e = sll shift (self d0) x0i in
    let diffe = subs (row x1e) (row x2e) diffi in
    let x2Twicee = adds (row x2e) (row x2e) x2Twicei in
    let sume = adds (row x2Twicee) (row diffe) sumi in
    let tp65Evene = mulhi (row sume) (row sqrt2re) tp65Eveni in
    let tm65e = mulhi (row diffe) (row sqrt2re) tm65i in
    let tp65e = or16 (row tp65Evene) (row onee) tp65i in
    let tm465e = subs (row x3e) (row tm65e) tm465i in
    let tm765e = subs (row x0e) (row tp65e) tm765i in
    let tp765e = adds (row tp65e) (row x0e) tp765i in
    let tp465e = adds (row tm65e) (row x3e) tp465i in
    let tm465Tan3e = mulhi (row tm465e) (row tan3re) tm465Tan3i in
    let tmp3e = adds (row tm465Tan3e) (row tm465e) tmp3i in
    let tmp4e = mulhi (row tp465e) (row tan1re) tmp4i in
    let tm765Tan3e = mulhi (row tm765e) (row tan3re) tm765Tan3i in
    let tmp5e = adds (row tm765Tan3e) (row tm765e) tmp5i in
    let tmp6e = mulhi (row tp765e) (row tan1re) tmp6i in
    let c1e = adds (row tmp4e) (row tp765e) c1i in
    let c3e = subs (row tm765e) (row tmp3e) c3i in
    let c5e = adds (row tm465e) (row tmp5e) c5i in
    let c7e = subs (row tmp6e) (row tp465e) c7i in
    eq4 make_odd_rows c1e.eq c3e.eq c5e.eq c7e.eq
