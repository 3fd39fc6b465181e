-- Document 01: "Each block is decoded into the part of the lent rows that begins at its corner; the rest of the rows stays."
use Rattle.std.specs.Prelude.{◌≡◌, Bool, true, false, List, [], ◌∷◌, ℕ, suc, ◌+◌, ◌*◌, ◌/◌, ◌%◌, ◌≤◌, ltb, get_or}
use Rattle.ask.specs.Limits.{stride_max}

-- each element made anew from its place, counted from n, and what stood there
unfoldable pub over : {A : Type 0} → (ℕ → A → A) → ℕ → List A → List A
over f n [] = []
over f n (x ∷ xs) = f n x ∷ over f (suc n) xs

abbrev pub pick_n : {A : Type 0} → Bool → A → A → A
pick_n true a b = a
pick_n false a b = b

abbrev pub both : Bool → Bool → Bool
both true b = b
both false b = false

-- the sample of a block at place i; `other` stands where the block has none
abbrev pub sample_or : {A : Type 0} → List A → A → ℕ → A
sample_or p other i = get_or p i other

abbrev pub sample_in_block : List ℕ → ℕ → ℕ
sample_in_block p i = get_or p i 0

-- the rows from the block's corner on, with its 8 by 8 samples stored: place n is in row n / stride and column n % stride
unfoldable pub store_block : {A : Type 0} → ℕ → (ℕ → A) → List A → List A
store_block stride samples rows =
    over (λ n x. pick_n (both (ltb (n % stride) 8) (ltb (n / stride) 8)) (samples (n / stride * 8 + n % stride)) x) 0 rows

-- the block p stored, whatever stands for a sample that it does not have
abbrev pub Stored : {A : Type 0} → ℕ → List A → List A → List A → Type 0
Stored {A} stride p rows rows' = (other : A) → rows' ≡ store_block stride (sample_or p other) rows

-- the rows from a block's corner on have room for it: seven strides and eight samples, at a stride that the questions leave
pub record Corner (stride room : ℕ) : Type 0 where
  pub wide : 8 ≤ stride
  pub legal : stride ≤ stride_max
  pub room_for_block : 7 * stride + 8 ≤ room
