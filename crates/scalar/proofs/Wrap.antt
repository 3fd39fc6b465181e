-- 32-bit sums that wrap: a wrap inside a sum that wraps changes nothing.
use Rattle.std.proofs.Common.{◌≡◌}
use lib.IntN.{ℤ, neg_ℤ, ◌+ℤ◌}
use Rattle.std.specs.Int.{w32}
use Rattle.std.proofs.lemmas.Int.{int_wrap-add_left, int_wrap-add_right, int_wrap-sub_right}
use Rattle.scalar.specs.Scalar.{wrap32}
use Rattle.scalar.proofs.Methods.{wrap32_is}

-- the first or the second part of a sum wrapped, and the number subtracted
pub wrap_l : (a c : ℤ) → wrap32 (wrap32 a +ℤ c) ≡ wrap32 (a +ℤ c)
wrap_l a c = rw (← wrap32_is (wrap32 a +ℤ c), ← wrap32_is (a +ℤ c), ← wrap32_is a) (int_wrap-add_left w32 a c)

pub wrap_r : (a c : ℤ) → wrap32 (a +ℤ wrap32 c) ≡ wrap32 (a +ℤ c)
wrap_r a c = rw (← wrap32_is (a +ℤ wrap32 c), ← wrap32_is (a +ℤ c), ← wrap32_is c) (int_wrap-add_right w32 a c)

pub wrap_neg : (a c : ℤ) → wrap32 (a +ℤ neg_ℤ (wrap32 c)) ≡ wrap32 (a +ℤ neg_ℤ c)
wrap_neg a c = rw (← wrap32_is (a +ℤ neg_ℤ (wrap32 c)), ← wrap32_is (a +ℤ neg_ℤ c), ← wrap32_is c) (int_wrap-sub_right w32 a c)
