-- A preset's numbers, place by place.
use mathlib.Core.Path.{◌≡◌, ◌∙◌}
use mathlib.Core.List.{List}
use Prim.Native.Nat.{ℕ, ◌+◌, ◌*◌, ◌/◌, ◌%◌, ◌<◌}
use native.Mathlib.Omega.{arith}
use lib.Arith.{digits_div, digits_mod}
use lib.Dec.{lit<}
use lib.ListN.{get_or}
use Rattle.scalar.proofs.Fill.{get_d_tab}
use Rattle.tables.specs.Divisor.{divisor, divisors_of}
use Rattle.tables.specs.Entries.{number_at, correction_at, reciprocal_at, scale_at, encode_at, encode_of}

-- what a preset's copied numbers are, place by place
module _ (p i : ℕ) (k : List ℕ) (e : k ≡ encode_of p) (h : i < 64) where
  number_of : (m kind : ℕ) → m ≡ kind * 64 + i → kind < 3 → get_or k m 0 ≡ number_at kind p i
  unfolding encode_of
  number_of m kind f g =
      let a : m / 64 ≡ kind = rw f (digits_div kind h) in
      let b : m % 64 ≡ i = rw f (digits_mod kind h) in
      rw e (get_d_tab 192 (encode_at p) m 0 (omega arith) ∙ rw (a, b))

  pub encode_correction : get_or k i 0 ≡ correction_at p i
  encode_correction = number_of i 0 (omega arith) (lit< tt)

  pub encode_reciprocal : get_or k (64 + i) 0 ≡ reciprocal_at p i
  encode_reciprocal = number_of (64 + i) 1 (omega arith) (lit< tt)

  pub encode_scale : get_or k (128 + i) 0 ≡ scale_at p i
  encode_scale = number_of (128 + i) 2 (omega arith) (lit< tt)

pub divisors_at : (p i : ℕ) (d : List ℕ) → d ≡ divisors_of p → i < 64 → get_or d i 0 ≡ divisor p i
unfolding divisors_of
divisors_at p i d e h = rw e (get_d_tab 64 (divisor p) i 0 h)
