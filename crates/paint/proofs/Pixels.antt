-- A block's stores, a row of eight at a time.
use mathlib.Core.Path.{◌≡◌, refl, sym, ◌∙◌, ap}
use mathlib.Core.Bool.{Bool, true, false}
use mathlib.Core.List.{List, [], ◌∷◌, map}
use Prim.Native.Nat.{ℕ, ◌+◌, ◌*◌, ◌/◌, ◌%◌, ◌<◌, ◌≤◌}
use native.Mathlib.Nat.{div-add-mod', mul-le-mul_right}
use native.Mathlib.Omega.{arith}
use lib.Arith.{digits_div, digits_mod}
use lib.Dec.{ltb}
use lib.IntN.{ℤ}
use lib.ListN.{length, get_or, set, replicate, get_or-replicate}
use borrow.Author.Tests.{lt-ltb, le-ltb}
use Rattle.std.proofs.lemmas.List.{get_or-map}
use Rattle.paint.specs.Paint.{over, pick_n, both, store_block, sample_or, sample_in_block, Stored}
use Rattle.sample.specs.Numbers.{sample_of}
use Rattle.paint.specs.Samples.{flat_number, flat_sample, flat_sample_of}
use Rattle.paint.specs.row.Row.{put_row}
use Rattle.paint.proofs.Over.{by_eq, by_lt, over_set, by_no_place, over_ext, map_over, length_over}

-- the first k samples of the block are stored at the corner
abbrev pub painted : {A : Type 0} → ℕ → (ℕ → A) → ℕ → ℕ → A → A
painted stride f k n x = pick_n (both (ltb (n % stride) 8) (ltb (n / stride * 8 + n % stride) k)) (f (n / stride * 8 + n % stride)) x

-- place n is the one of row i and column j where its row and column are these
place : (stride n i j : ℕ) → n / stride ≡ i → n % stride ≡ j → n ≡ i * stride + j
place stride n i j e f = sym (div-add-mod' n stride) ∙ rw (e, f)

-- one sample more changes no other place
other : {A : Type 0} (stride : ℕ) (s : ℕ → A) (i j m n : ℕ) (x : A) → j < 8 → m ≡ i * 8 + j → (n ≡ i * stride + j → ⊥) → painted stride s m n x ≡ painted stride s (m + 1) n x
other stride s i j m n x hj hm ne =
    by_lt (n % stride) 8
    (λ h.
    by_lt (n / stride * 8 + n % stride) m
    (λ k. simp (lt-ltb _ _ h, lt-ltb (n / stride * 8 + n % stride) m k, lt-ltb (n / stride * 8 + n % stride) (m + 1) (omega arith)))
    (λ k.
    by_eq (n / stride * 8 + n % stride) m
    (λ e. absurd (ne (place stride n i j (omega arith) (omega arith))))
    (λ d. simp (le-ltb (n / stride * 8 + n % stride) m k, le-ltb (n / stride * 8 + n % stride) (m + 1) (omega arith)))))
    (λ h. simp (le-ltb _ _ h))

-- where n's column is below 8, its place in the block is below 64 just where its row is below 8
whole : {A : Type 0} (stride : ℕ) (s : ℕ → A) (n : ℕ) (x : A) → painted stride s 64 n x ≡ pick_n (both (ltb (n % stride) 8) (ltb (n / stride) 8)) (s (n / stride * 8 + n % stride)) x
whole stride s n x =
    by_lt (n % stride) 8
    (λ h.
    by_lt (n / stride) 8
    (λ k. simp (lt-ltb _ _ h, lt-ltb _ _ k, lt-ltb (n / stride * 8 + n % stride) 64 (omega arith)))
    (λ k. simp (lt-ltb _ _ h, le-ltb _ _ k, le-ltb (n / stride * 8 + n % stride) 64 (omega arith))))
    (λ h. simp (le-ltb _ _ h))

-- samples that are the same below 64 make the same block
same : {A : Type 0} (stride : ℕ) (s t : ℕ → A) → ((i : ℕ) → i < 64 → s i ≡ t i) → (n : ℕ) (x : A) → painted stride s 64 n x ≡ painted stride t 64 n x
same stride s t e n x =
    by_lt (n % stride) 8
    (λ h.
    by_lt (n / stride * 8 + n % stride) 64
    (λ k. simp (lt-ltb _ _ h, lt-ltb _ _ k) (e (n / stride * 8 + n % stride) k))
    (λ k. simp (lt-ltb _ _ h, le-ltb _ _ k)))
    (λ h. simp (le-ltb _ _ h))

pub put_all_lem : {A : Type 0} (stride : ℕ) (s : ℕ → A) (l : List A) → over (painted stride s 64) 0 l ≡ store_block stride s l
unfolding store_block
put_all_lem stride s l =
    over_ext (painted stride s 64) (λ n x. pick_n (both (ltb (n % stride) 8) (ltb (n / stride) 8)) (s (n / stride * 8 + n % stride)) x) 0 l (λ n x. whole stride s n x)

pub store_ext : {A : Type 0} (stride : ℕ) (s t : ℕ → A) (l : List A) → ((i : ℕ) → i < 64 → s i ≡ t i) → store_block stride s l ≡ store_block stride t l
store_ext stride s t l e = sym (put_all_lem stride s l) ∙ over_ext (painted stride s 64) (painted stride t 64) 0 l (same stride s t e) ∙ put_all_lem stride t l

pub store_length : {A : Type 0} (stride : ℕ) (s : ℕ → A) (l : List A) → length (store_block stride s l) ≡ length l
store_length stride s l = ap length (sym (put_all_lem stride s l)) ∙ length_over (painted stride s 64) 0 l

module _ {A : Type 0} (d : A) (stride : ℕ) (p l : List A) (wide : 8 ≤ stride) (room : 7 * stride + 8 ≤ length l) where
  pub put_none : l ≡ over (painted stride (sample_or p d) 0) 0 l
  put_none =
      by_no_place d (painted stride (sample_or p d) 0) l
      (λ n h. by_lt (n % stride) 8 (λ k. simp (lt-ltb _ _ k, le-ltb (n / stride * 8 + n % stride) 0 (omega arith))) (λ k. simp (le-ltb _ _ k)))

  pub inside : (i j : ℕ) → i < 8 → j < 8 → i * stride + j < length l
  inside i j hi hj = omega (arith, mul-le-mul_right {m = i} {n = 7} stride (omega arith))

  step : (i j q m k : ℕ) → i < 8 → j < 8 → q ≡ i * stride + j → m ≡ i * 8 + j → k ≡ m + 1
      → set (over (painted stride (sample_or p d) m) 0 l) q (get_or p m d) ≡ over (painted stride (sample_or p d) k) 0 l
  step i j q m k hi hj eq em ek =
      let w : q / stride ≡ i = rw eq (digits_div i (omega arith)) in
      let r : q % stride ≡ j = rw eq (digits_mod i (omega arith)) in
      let u : i * 8 + j < m + 1 = omega arith in
      rw ek
      (over_set d (painted stride (sample_or p d) m) (painted stride (sample_or p d) (m + 1)) l q (get_or p m d) (rw eq (inside i j hi hj))
      (rw (w, r, ← em) (simp (lt-ltb _ _ hj, lt-ltb m (m + 1) (omega arith))))
      (λ n h ne. other stride (sample_or p d) i j m n (get_or l n d) hj em (λ e. ne (e ∙ sym eq))))

  -- one row of eight
  pub put_row_lem : (i : ℕ) (y : List A) {z : List A} → i < 8 → y ≡ over (painted stride (sample_or p d) (i * 8)) 0 l → z ≡ put_row d y (i * stride) p (i * 8)
      → z ≡ over (painted stride (sample_or p d) ((i + 1) * 8)) 0 l
  put_row_lem i y {z} hi ey ez =
      let c1 : set y (i * stride) (get_or p (i * 8) d) ≡ over (painted stride (sample_or p d) (i * 8 + 1)) 0 l =
      rw ey (step i 0 (i * stride) (i * 8) (i * 8 + 1) hi (omega arith) (omega arith) (omega arith) refl) in
      let c2 = ap (λ (x : List A). set x (i * stride + 1) (get_or p (i * 8 + 1) d)) c1 ∙ step i 1 (i * stride + 1) (i * 8 + 1) (i * 8 + 2) hi (omega arith) refl refl (omega arith) in
      let c3 = ap (λ (x : List A). set x (i * stride + 2) (get_or p (i * 8 + 2) d)) c2 ∙ step i 2 (i * stride + 2) (i * 8 + 2) (i * 8 + 3) hi (omega arith) refl refl (omega arith) in
      let c4 = ap (λ (x : List A). set x (i * stride + 3) (get_or p (i * 8 + 3) d)) c3 ∙ step i 3 (i * stride + 3) (i * 8 + 3) (i * 8 + 4) hi (omega arith) refl refl (omega arith) in
      let c5 = ap (λ (x : List A). set x (i * stride + 4) (get_or p (i * 8 + 4) d)) c4 ∙ step i 4 (i * stride + 4) (i * 8 + 4) (i * 8 + 5) hi (omega arith) refl refl (omega arith) in
      let c6 = ap (λ (x : List A). set x (i * stride + 5) (get_or p (i * 8 + 5) d)) c5 ∙ step i 5 (i * stride + 5) (i * 8 + 5) (i * 8 + 6) hi (omega arith) refl refl (omega arith) in
      let c7 = ap (λ (x : List A). set x (i * stride + 6) (get_or p (i * 8 + 6) d)) c6 ∙ step i 6 (i * stride + 6) (i * 8 + 6) (i * 8 + 7) hi (omega arith) refl refl (omega arith) in
      ez
      ∙ ap (λ (x : List A). set x (i * stride + 7) (get_or p (i * 8 + 7) d)) c7
      ∙ step i 7 (i * stride + 7) (i * 8 + 7) ((i + 1) * 8) hi (omega arith) refl refl (omega arith)

-- the first i rows of the block p are stored: the loop's invariant
abbrev pub RowsStored : {A : Type 0} → ℕ → List A → ℕ → List A → List A → Type 0
RowsStored {A} stride p i l m = (d : A) → m ≡ over (painted stride (sample_or p d) (i * 8)) 0 l

-- one sample, 64 times
pub all_same : (v i : ℕ) → i < 64 → sample_in_block (replicate 64 v) i ≡ v
all_same v i h = get_or-replicate 64 i v 0 h

pub flat_block_lem : (stride : ℕ) (l : List ℕ) {v w : ℕ} → v ≡ w → store_block stride (sample_in_block (replicate 64 v)) l ≡ store_block stride (λ i. w) l
flat_block_lem stride l {v} {w} e = store_ext stride (sample_in_block (replicate 64 v)) (λ i. w) l (λ i h. all_same v i h ∙ e)

-- ---- a block stored, as a function of its elements sees it
module _ {A B : Type 0} (h : A → B) (stride : ℕ) where
  pick_map : (t : Bool) (x y : A) → h (pick_n t x y) ≡ pick_n t (h x) (h y)
  pick_map true x y = refl
  pick_map false x y = refl

  pub map_store : (s : ℕ → A) (l : List A) → map h (store_block stride s l) ≡ store_block stride (λ i. h (s i)) (map h l)
  unfolding store_block
  map_store s l =
      map_over h (λ n x. pick_n (both (ltb (n % stride) 8) (ltb (n / stride) 8)) (s (n / stride * 8 + n % stride)) x)
      (λ n x. pick_n (both (ltb (n % stride) 8) (ltb (n / stride) 8)) (h (s (n / stride * 8 + n % stride))) x) 0 l
      (λ n x. pick_map (both (ltb (n % stride) 8) (ltb (n / stride) 8)) (s (n / stride * 8 + n % stride)) x)

  -- the block p, which has all 64
  pub map_stored : (p l : List A) {m : List A} (other : B) → length p ≡ 64 → Stored stride p l m → map h m ≡ store_block stride (sample_or (map h p) other) (map h l)
  map_stored [] l other e f = absurd (omega (arith, e))
  map_stored (x ∷ xs) l {m} other e f =
      ap (map h) (f x) ∙ map_store (sample_or (x ∷ xs) x) l
      ∙ store_ext stride (λ i. h (sample_or (x ∷ xs) x i)) (sample_or (map h (x ∷ xs)) other) (map h l)
      (λ i k. sym (get_or-map h (x ∷ xs) i x other (omega arith)))

  -- one sample, 64 times
  pub map_flat : (v : A) (w : B) (l : List A) {m : List A} → h v ≡ w → Stored stride (replicate 64 v) l m → map h m ≡ store_block stride (λ i. w) (map h l)
  map_flat v w l {m} e f =
      ap (map h) (f v) ∙ map_store (sample_or (replicate 64 v) v) l
      ∙ store_ext stride (λ i. h (sample_or (replicate 64 v) v i)) (λ i. w) (map h l) (λ i k. ap h (get_or-replicate 64 i v v k) ∙ e)

-- the sample of a flat block's number
pub flat_is : (ten : Bool) (level dc : ℤ) → sample_of ten (flat_number level dc) ≡ flat_sample_of ten level dc
unfolding flat_sample
flat_is false level dc = refl
flat_is true level dc = refl

-- ---- a block of samples stored, as the definitions see it; `lists` is the law of the trait Sample
module _ {A : Type 0} {number : A → ℕ} {samples : List A → List ℕ} (lists : (xs : List A) → samples xs ≡ map number xs) where
  pub samples_stored : (stride : ℕ) (p l : List A) {m : List A} → length p ≡ 64 → Stored stride p l m → samples m ≡ store_block stride (sample_in_block (samples p)) (samples l)
  samples_stored stride p l {m} e f = rw (lists m, lists p, lists l) (map_stored number stride p l 0 e f)

  pub samples_flat : (stride : ℕ) (v : A) (l : List A) {m : List A} {w : ℕ} → number v ≡ w → Stored stride (replicate 64 v) l m → samples m ≡ store_block stride (λ i. w) (samples l)
  samples_flat stride v l {m} {w} e f = rw (lists m, lists l) (map_flat number stride v w l e f)
