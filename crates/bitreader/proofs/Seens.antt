-- What a look at a cursor's word says, whatever stream the word is of. Assumes nothing.
use mathlib.Core.Path.{◌≡◌, refl}
use mathlib.Core.List.{List}
use Prim.Native.Nat.{ℕ, suc, ◌+◌, ◌-◌, ◌*◌, ◌/◌, ◌%◌, ◌^◌, ◌≤◌, ◌<◌}
use native.Mathlib.Nat.{mod-lt}
use native.Mathlib.Omega.{arith}
use lib.Pow.{pow_pos}
use lib.Count.{count_leading_zeros, leading_le}
use Rattle.std.specs.Prelude.{Some, None}
use Rattle.bitreader.specs.Cursor.{At, SymbolGot, Seen}
use Rattle.bitreader.specs.declared.AcCursor.{AcCursor}
use Rattle.bitreader.proofs.Looks.{digits_some, digits_small, head_is, head_most, behind, zero_first, look_next, look_symbol}

-- the head, the word after it, its leading zeros, the symbol's length
abbrev head_of : AcCursor → ℕ
head_of c = c.bits / 2 ^ 63

abbrev rest_of : AcCursor → ℕ
rest_of c = (c.bits * 2 ^ head_of c) % 2 ^ 64

abbrev zeros_of : AcCursor → ℕ
zeros_of c = count_leading_zeros 64 (rest_of c)

abbrev size_of : AcCursor → ℕ
size_of c = 2 * zeros_of c + 1 + head_of c

pub zeros_most : (c : AcCursor) → zeros_of c ≤ 64
zeros_most c = leading_le 64 (rest_of c)

pub seen_none : (c : AcCursor) → c.count ≤ size_of c → Seen c None
seen_none c l = record {
  head = λ s a o. head_is s c a o;
  long = λ s a o.
      let p : 0 < c.count = omega arith in
      let h = head_most s c a p in
      zero_first s c a p (head_of c) (c.count - head_of c) (rest_of c) (zeros_of c) (behind s c a p) (omega (arith, a.most)) refl (omega (arith, h)) (omega (arith, h));
}

pub seen_some : (c : AcCursor) → c.count ≤ 64 → (n : ℕ) (k : AcCursor) → size_of c < c.count → n ≡ ((rest_of c * 2 ^ zeros_of c) % 2 ^ 64) / 2 ^ (63 - zeros_of c)
    → k.pos ≡ c.pos + size_of c → k.count ≡ c.count - size_of c → k.bits ≡ (c.bits * 2 ^ size_of c) % 2 ^ 64 → Seen c (Some (record { run = head_of c; num = n; c = k }))
seen_some c most n k l en kp kc kb =
    let few : zeros_of c < 32 = omega arith in
    let t : rest_of c < 2 ^ 64 = mod-lt (c.bits * 2 ^ head_of c) (pow_pos 64) in
    let above : 0 < n = digits_some (rest_of c) (zeros_of c) n t refl few en in
    let low : n < 2 ^ 56 = digits_small (rest_of c) (zeros_of c) n t refl few en in
    record {
      symbol = λ s a. whole s a above low;
      some = omega (arith, kp);
      near = omega (arith, kp);
      count = omega (arith, kc);
      more = above;
      small = low;
    }
  where
    whole : (s : List ℕ) → At s c → 0 < n → n < 2 ^ 56 → SymbolGot s c (record { run = head_of c; num = n; c = k })
    whole s a above low =
        let p : 0 < c.count = omega arith in
        let h = behind s c a p in
        let m : c.count - head_of c ≤ 64 = omega arith in
        let f : zeros_of c + suc (zeros_of c) ≤ c.count - head_of c = omega arith in
        let g : size_of c ≤ c.count = omega arith in
        record {
          next = look_next s c a p (head_of c) (c.count - head_of c) (rest_of c) (zeros_of c) h m refl n k f g en kp kc kb above low;
          answer = look_symbol s c a p (head_of c) (c.count - head_of c) (rest_of c) (zeros_of c) h m refl n k f g en kp kc kb refl;
        }
