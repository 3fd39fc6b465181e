-- Laws of the cursor and of one look at its bits. Assumes nothing.
use mathlib.Core.Path.{◌≡◌, refl, sym, ap, ap₂, ◌∙◌, subst}
use mathlib.Core.Bool.{Bool, true, false}
use mathlib.Core.List.{List}
use Prim.Native.Nat.{ℕ, suc, ◌+◌, ◌-◌, ◌*◌, ◌/◌, ◌%◌, ◌^◌, ◌≤◌, ◌<◌}
use native.Mathlib.Nat.{add-zero, lt_of_lt_of_le, mod-lt, two-pow-succ, mul-le-mul_left, le-div_iff_mul-le}
use native.Mathlib.Omega.{arith}
use lib.Pow.{pow_mono, pow_pos, shl_exact, shr_lt}
use lib.Count.{count_leading_zeros, leading_length}
use Rattle.std.specs.Prelude.{Some, None, Result, Ok, Err}
use Rattle.bits.specs.Bits.{bit, bit_at, Stream, num}
use Rattle.bits.specs.Read.{zeros, read_symbol, read_dc}
use Rattle.bitreader.specs.words.Word.{Holds}
use Rattle.bitreader.specs.Cursor.{At, symbol_by, dc_by, Next, BadAt, NextSymbol, NextDc, SeenDc}
use Rattle.bitreader.specs.declared.AcCursor.{AcCursor}
use Rattle.bitreader.specs.declared.Got.{Got}
use Rattle.bitreader.specs.declared.BadCode.{BadCode}
use Rattle.bitreader.proofs.words.Num.{zeros_more, zeros_all}
use Rattle.bitreader.proofs.words.Words.{holds_top, holds_up}
use Rattle.bitreader.proofs.Leads.{lead_few, lead_many}
use Rattle.bitreader.proofs.Spans.{symbol_short, dc_short}

pub at_new : (s : List ℕ) (p w : ℕ) → Holds s p (64 - p % 8) w → At s (record { pos = p; bits = w; count = 64 - p % 8 })
at_new s p w h = record { most = omega arith; holds = h }

pub at_none : (s : List ℕ) (p : ℕ) → At s (record { pos = p; bits = 0; count = 0 })
unfolding num
at_none s p = record { most = omega arith; holds = refl }

pub at_skip : (s : List ℕ) (c r : AcCursor) (n : ℕ) → At s c → n ≤ c.count → r.pos ≡ c.pos + n → r.count ≡ c.count - n → r.bits ≡ (c.bits * 2 ^ n) % 2 ^ 64 → At s r
at_skip s c r n a h ep ec eb = record {
  most = omega (arith, a.most);
  holds = eb ∙ holds_up s c.pos c.count c.bits n a.holds a.most h ∙ ap₂ (λ (x y : ℕ). num x 0 (bit_at s) y * 2 ^ (64 - x)) (sym ec) (sym ep);
}

-- ---- a word alone

-- the digits after y leading zeros
module _ (t y n : ℕ) (h : t < 2 ^ 64) (ey : y ≡ count_leading_zeros 64 t) (few : y < 32) (en : n ≡ ((t * 2 ^ y) % 2 ^ 64) / 2 ^ (63 - y)) where
  pub digits_some : 0 < n
  digits_some =
      let l = leading_length 64 t h in
      let e : l.0 ≡ suc (63 - y) = omega (arith, l.1) in
      let p : 2 ^ l.0 ≡ 2 * 2 ^ (63 - y) = ap (λ (x : ℕ). 2 ^ x) e ∙ omega (arith, two-pow-succ (63 - y)) in
      let f : l.0 + y ≤ 64 = omega (arith, l.1) in
      let w : (t * 2 ^ y) % 2 ^ 64 ≡ t * 2 ^ y = shl_exact l.0 y 64 l.2 f in
      let u : 1 * 2 ^ (63 - y) ≤ t * 2 ^ y = omega (arith, p, l.3, mul-le-mul_left t (pow_pos y)) in
      rw (en, w) ((le-div_iff_mul-le (pow_pos (63 - y))).1 u)

  pub digits_small : n < 2 ^ 56
  digits_small =
      let e : suc y + (63 - y) ≡ 64 = omega arith in
      let wide : suc y ≤ 56 = omega arith in
      let w : (t * 2 ^ y) % 2 ^ 64 < 2 ^ (suc y + (63 - y)) = rw e (mod-lt (t * 2 ^ y) (pow_pos 64)) in
      rw en (lt_of_lt_of_le (shr_lt (suc y) (63 - y) w) (pow_mono wide))

-- ---- a word of a stream

-- y zeros at q, and the number after them
record Lead (s : Stream) (q y n : ℕ) : Type 0 where
  pub zs : y ≡ zeros 56 s q
  pub is : n ≡ num (suc y) 0 s (q + y)

lead : (s : List ℕ) (q m t y n : ℕ) → Holds s q m t → m ≤ 64 → y ≡ count_leading_zeros 64 t → y + suc y ≤ m → n ≡ ((t * 2 ^ y) % 2 ^ 64) / 2 ^ (63 - y) → Lead (bit_at s) q y n
lead s q m t y n h hi ey fit en =
    let w : count_leading_zeros 64 t < suc y = omega arith in
    let f = lead_few (suc y) m (bit_at s) q t h hi (omega arith) w in
    let e1 : 63 - y ≡ 64 - suc y = omega arith in
    record {
      zs = ey ∙ f.0 ∙ sym (zeros_more (suc y) 56 (bit_at s) q f.1 (omega arith));
      is = en ∙ ap (λ (x : ℕ). ((t * 2 ^ y) % 2 ^ 64) / 2 ^ x) e1
          ∙ holds_top s (q + y) (m - y) ((t * 2 ^ y) % 2 ^ 64) (suc y) (holds_up s q m t y h hi (omega arith)) (omega arith) (omega arith);
    }

one_bit : (s : Stream) (p : ℕ) → num 1 0 s p ≡ bit (s p)
unfolding num
one_bit s p = omega arith

pub bit_most : (b : Bool) → bit b ≤ 1
bit_most true = omega arith
bit_most false = omega arith

-- what is got at a cursor with the same place
pub next_at : (s : List ℕ) (c d : AcCursor) (g : Got) → d.pos ≡ c.pos → Next s d g → Next s c g
next_at s c d g e n = record { ready = n.ready; head = n.head ∙ ap (λ (x : ℕ). bit (bit_at s x)) e; more = n.more; small = n.small; near = omega (arith, n.near) }

-- the same of a bad code
bad_at : (s : List ℕ) (c d : AcCursor) (b : BadCode) → d.pos ≡ c.pos → BadAt s d b → BadAt s c b
bad_at s c d b e n = record { ready = n.ready; head = n.head ∙ ap (λ (x : ℕ). bit (bit_at s x)) e; stays = n.stays ∙ e }

-- a bad code at the cursor d of its place
pub bad_here : (s : List ℕ) (d : AcCursor) (r : ℕ) → At s d → r ≡ bit (bit_at s d.pos) → BadAt s d (record { run = r; c = d })
bad_here s d r a h = record { ready = a; head = h; stays = refl }

module _ (s : List ℕ) (c : AcCursor) (a : At s c) (some : 0 < c.count) where
  pub head_is : c.bits / 2 ^ 63 ≡ bit (bit_at s c.pos)
  head_is = holds_top s c.pos c.count c.bits 1 a.holds a.most some ∙ one_bit (bit_at s) c.pos

  pub head_most : c.bits / 2 ^ 63 ≤ 1
  head_most = omega (arith, head_is, bit_most (bit_at s c.pos))

  -- the bits after the head
  pub behind : Holds s (c.pos + c.bits / 2 ^ 63) (c.count - c.bits / 2 ^ 63) ((c.bits * 2 ^ (c.bits / 2 ^ 63)) % 2 ^ 64)
  behind = holds_up s c.pos c.count c.bits (c.bits / 2 ^ 63) a.holds a.most (omega (arith, head_most))

  -- the word t of the m bits after e of the head
  module _ (e m t y : ℕ) (h : Holds s (c.pos + e) m t) (hi : m ≤ 64) (ey : y ≡ count_leading_zeros 64 t) where
    pub zero_first : 0 < m → 0 < y → bit_at s (c.pos + e) ≡ false
    zero_first lo l =
        let z : zeros 1 (bit_at s) (c.pos + e) ≡ 1 = lead_many 1 m (bit_at s) (c.pos + e) t h hi lo (omega arith) in
        ap (bit_at s) (sym (add-zero (c.pos + e))) ∙ zeros_all 1 (bit_at s) (c.pos + e) 0 (omega arith)

    module _ (n : ℕ) (k : AcCursor) (fit : y + suc y ≤ m) (all : 2 * y + 1 + c.bits / 2 ^ 63 ≤ c.count) (en : n ≡ ((t * 2 ^ y) % 2 ^ 64) / 2 ^ (63 - y))
        (kp : k.pos ≡ c.pos + (2 * y + 1 + c.bits / 2 ^ 63)) (kc : k.count ≡ c.count - (2 * y + 1 + c.bits / 2 ^ 63)) (kb : k.bits ≡ (c.bits * 2 ^ (2 * y + 1 + c.bits / 2 ^ 63)) % 2 ^ 64) where
      found : Lead (bit_at s) (c.pos + e) y n
      found = lead s (c.pos + e) m t y n h hi ey fit en

      pub look_next : 0 < n → n < 2 ^ 56 → Next s c (record { run = c.bits / 2 ^ 63; num = n; c = k })
      look_next o l = record {
        ready = at_skip s c k (2 * y + 1 + c.bits / 2 ^ 63) a all kp kc kb;
        head = head_is;
        more = o;
        small = l;
        near = omega (arith, a.most);
      }

      pub look_symbol : e ≡ c.bits / 2 ^ 63 → symbol_by n (c.bits / 2 ^ 63) k.pos ≡ read_symbol (bit_at s) c.pos
      look_symbol ee =
          symbol_short (bit_at s) c.pos (c.bits / 2 ^ 63) y n k.pos head_is (found.zs ∙ ap (λ (x : ℕ). zeros 56 (bit_at s) (c.pos + x)) ee) (omega arith)
          (found.is ∙ ap (λ (x : ℕ). num (suc y) 0 (bit_at s) (c.pos + x + y)) ee) kp

      pub look_dc : e ≡ 0 → dc_by n (c.bits / 2 ^ 63) k.pos ≡ read_dc (bit_at s) c.pos
      look_dc ee =
          let e0 : c.pos + e ≡ c.pos = omega arith in
          dc_short (bit_at s) c.pos (c.bits / 2 ^ 63) y n k.pos head_is (found.zs ∙ ap (zeros 56 (bit_at s)) e0) (omega arith)
          (found.is ∙ ap (λ (x : ℕ). num (suc y) 0 (bit_at s) (x + y)) e0) kp

-- the same of a whole answer
pub symbol_at : (s : List ℕ) (c d : AcCursor) (o : Result Got BadCode) → d.pos ≡ c.pos → NextSymbol s d o → NextSymbol s c o
symbol_at s c d (Err b) e n = (bad_at s c d b e n.0, n.1 ∙ ap (read_symbol (bit_at s)) e)
symbol_at s c d (Ok g) e n = record { next = next_at s c d g e n.next; answer = n.answer ∙ ap (read_symbol (bit_at s)) e }

pub dc_at : (s : List ℕ) (c d : AcCursor) (o : Result Got BadCode) → d.pos ≡ c.pos → NextDc s d o → NextDc s c o
dc_at s c d (Err b) e n = (bad_at s c d b e n.0, n.1 ∙ ap (read_dc (bit_at s)) e)
dc_at s c d (Ok g) e n = record { next = next_at s c d g e n.next; answer = n.answer ∙ ap (read_dc (bit_at s)) e }

-- ---- a look at the DC stream
module _ (c : AcCursor) (many : 31 < c.count) where
  here : (s : List ℕ) → At s c → Holds s (c.pos + 0) c.count c.bits
  here s a = subst (λ (x : ℕ). Holds s x c.count c.bits) (sym (add-zero c.pos)) a.holds

  pub dc_none : 14 < count_leading_zeros 64 c.bits → SeenDc c None
  dc_none l s a = ap (bit_at s) (sym (add-zero c.pos)) ∙ zero_first s c a (omega arith) 0 c.count c.bits (count_leading_zeros 64 c.bits) (here s a) a.most refl (omega arith) (omega arith)

  pub dc_some : (y n : ℕ) (k : AcCursor) → c.bits < 2 ^ 64 → y ≡ count_leading_zeros 64 c.bits → y ≤ 14 → n ≡ ((c.bits * 2 ^ y) % 2 ^ 64) / 2 ^ (63 - y)
      → k.pos ≡ c.pos + (2 * y + 1 + c.bits / 2 ^ 63) → k.count ≡ c.count - (2 * y + 1 + c.bits / 2 ^ 63) → k.bits ≡ (c.bits * 2 ^ (2 * y + 1 + c.bits / 2 ^ 63)) % 2 ^ 64
      → SeenDc c (Some (record { run = c.bits / 2 ^ 63; num = n; c = k }))
  dc_some y n k lt ey few en kp kc kb s a =
      let o : 0 < c.count = omega arith in
      let above : 0 < n = digits_some c.bits y n lt ey (omega arith) en in
      let low : n < 2 ^ 56 = digits_small c.bits y n lt ey (omega arith) en in
      let all : 2 * y + 1 + c.bits / 2 ^ 63 ≤ c.count = omega (arith, head_most s c a o) in
      let fit : y + suc y ≤ c.count = omega arith in
      record {
        next = look_next s c a o 0 c.count c.bits y (here s a) a.most ey n k fit all en kp kc kb above low;
        answer = look_dc s c a o 0 c.count c.bits y (here s a) a.most ey n k fit all en kp kc kb refl;
      }
