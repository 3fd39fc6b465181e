-- Where the constant table holds a preset's numbers.
use mathlib.Core.Path.{◌≡◌, ◌∙◌}
use Prim.Native.Nat.{ℕ, ◌+◌, ◌*◌, ◌/◌, ◌%◌, ◌<◌}
use native.Mathlib.Omega.{arith}
use lib.Arith.{digits_div, digits_mod}
use lib.ListN.{get_or}
use Rattle.scalar.proofs.Fill.{get_d_tab}
use Rattle.tables.specs.Entries.{number_at, encode_at, entry_at, constant_table}

-- the number of a kind
entry_of : (p y k : ℕ) → p < 25 → y < 64 → k < 3 → get_or constant_table (p * 192 + y * 3 + k) 0 ≡ number_at k p y
unfolding constant_table
entry_of p y k hp hy hk =
    let by3 : p * 192 + y * 3 + k ≡ (p * 64 + y) * 3 + k = omega arith in
    let by192 : p * 192 + y * 3 + k ≡ p * 192 + (y * 3 + k) = omega arith in
    let e : (p * 192 + y * 3 + k) % 3 ≡ k = rw by3 (digits_mod (p * 64 + y) hk) in
    let e2 : (p * 192 + y * 3 + k) / 192 ≡ p = rw by192 (digits_div p (omega arith)) in
    let e3 : (p * 192 + y * 3 + k) / 3 ≡ p * 64 + y = rw by3 (digits_div (p * 64 + y) hk) in
    let e4 : (p * 64 + y) % 64 ≡ y = digits_mod p hy in
    get_d_tab 4800 entry_at (p * 192 + y * 3 + k) 0 (omega arith) ∙ rw (e, e2, e3, e4)

pub entry_at_lem : (p j : ℕ) → p < 25 → j < 192 → get_or constant_table (p * 192 + j % 64 * 3 + j / 64) 0 ≡ encode_at p j
entry_at_lem p j hp hj = entry_of p (j % 64) (j / 64) hp (omega arith) (omega arith)
