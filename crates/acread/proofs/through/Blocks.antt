-- One block more of a plane.
use mathlib.Core.Path.{◌≡◌, refl, sym, ap, ap₂, ◌∙◌}
use mathlib.Core.Bool.{Bool, true, false, not, cond}
use mathlib.Core.List.{[], ◌∷◌}
use Prim.Native.Nat.{ℕ, suc}
use native.Mathlib.Omega.{arith}
use lib.Dec.{ltb}
use Rattle.ask.specs.Ask.{refused, accepted}
use Rattle.bits.specs.Bits.{Stream, bytes_for}
use Rattle.calls.specs.ReadPlane.{Places, bad_places, places, read_places, BlockRead, Blocks, bad_blocks, blocks, block_then, by_places, read_blocks}
use Rattle.acread.specs.Block.{Ends, bad_ends, ends, ends_of}
use Rattle.acread.specs.Block.{flat_byte}
use Rattle.acread.specs.through.Through.{block_ends, good_ends, reports_of, ac_end}
use Rattle.ask.specs.Numbers.{no_code}

never : {q r : ℕ} → bad_ends ≡ ends q r → ⊥
never e = let z : ◌≡◌ {A = ℕ} 0 1 = cc in omega arith

then_block : (b : BlockRead) (x : Blocks) → block_ends (block_then b x) ≡ block_ends x
then_block b bad_blocks = refl
then_block b (blocks bs q r) = refl

by_end : (f : Bool) (x : Places) (next : ℕ → ℕ → Blocks) (q r : ℕ) → ends_of x ≡ ends q r → block_ends (by_places f x next) ≡ block_ends (next q r)
by_end f bad_places next q r e = absurd (never e)
by_end f (places cs a b) next q r e =
    let g : a ≡ q = cc in
    let h : b ≡ r = cc in
    then_block (record { symbol_read = f; coeffs = cs }) (next a b) ∙ ap₂ (λ (m n : ℕ). block_ends (next m n)) g h

by_bad : (f : Bool) (x : Places) (next : ℕ → ℕ → Blocks) → ends_of x ≡ bad_ends → block_ends (by_places f x next) ≡ bad_ends
by_bad f bad_places next e = refl
by_bad f (places cs a b) next e = absurd (never (sym e))

then_reports : (b : BlockRead) (x : Blocks) → good_ends (block_ends x) ≡ true → reports_of (block_then b x) ≡ cond (not b.symbol_read) 1 0 ∷ reports_of x
then_reports b bad_blocks e = absurd (let z : ◌≡◌ {A = ℕ} 0 1 = cc in omega arith)
then_reports b (blocks bs q r) e = refl

by_reports : (f : Bool) (x : Places) (next : ℕ → ℕ → Blocks) (q r : ℕ) → ends_of x ≡ ends q r → good_ends (block_ends (next q r)) ≡ true
    → reports_of (by_places f x next) ≡ cond (not f) 1 0 ∷ reports_of (next q r)
by_reports f bad_places next q r e k = absurd (never e)
by_reports f (places cs a b) next q r e k =
    let g : a ≡ q = cc in
    let h : b ≡ r = cc in
    let w : next a b ≡ next q r = ap₂ next g h in
    ap (λ (x : Blocks). reports_of (block_then (record { symbol_read = f; coeffs = cs }) x)) w ∙ then_reports (record { symbol_read = f; coeffs = cs }) (next q r) k

module _ (s : Stream) (n p r q m : ℕ) (e : ends_of (read_places 64 s p r) ≡ ends q m) where
  pub block_next : block_ends (read_blocks (suc n) s p r) ≡ block_ends (read_blocks n s q m)
  unfolding read_blocks
  block_next = by_end (ltb r 64) (read_places 64 s p r) (λ a b. read_blocks n s a b) q m e

  pub report_next : good_ends (block_ends (read_blocks n s q m)) ≡ true → reports_of (read_blocks (suc n) s p r) ≡ flat_byte r ∷ reports_of (read_blocks n s q m)
  unfolding read_blocks
  report_next k = by_reports (ltb r 64) (read_places 64 s p r) (λ a b. read_blocks n s a b) q m e k

pub block_bad : (s : Stream) (n p r : ℕ) → ends_of (read_places 64 s p r) ≡ bad_ends → block_ends (read_blocks (suc n) s p r) ≡ bad_ends
unfolding read_blocks
block_bad s n p r e = by_bad (ltb r 64) (read_places 64 s p r) (λ a b. read_blocks n s a b) e

pub none_left : (s : Stream) (p r : ℕ) → (block_ends (read_blocks 0 s p r) ≡ ends p r) × (reports_of (read_blocks 0 s p r) ≡ [])
unfolding read_blocks
none_left s p r = (refl, refl)

-- the answer of a read-through
pub end_bad : (x : Blocks) → block_ends x ≡ bad_ends → refused no_code ≡ ac_end x
end_bad bad_blocks e = refl
end_bad (blocks bs q r) e = absurd (never (sym e))

pub end_at : (x : Blocks) (q r : ℕ) → block_ends x ≡ ends q r → accepted (bytes_for q) ≡ ac_end x
end_at bad_blocks q r e = absurd (never e)
end_at (blocks bs a b) q r e =
    let g : q ≡ a = cc in
    ap (λ (n : ℕ). accepted (bytes_for n)) g

pub not_good : (x : Blocks) → good_ends (block_ends x) ≡ false → refused no_code ≡ ac_end x
not_good bad_blocks e = refl
not_good (blocks bs q r) e = absurd (let z : ◌≡◌ {A = ℕ} 0 1 = cc in omega arith)

pub bad_good : {e : Ends} → e ≡ bad_ends → good_ends e ≡ true → ⊥
bad_good {e = bad_ends} f g = let z : ◌≡◌ {A = ℕ} 0 1 = cc in omega arith
bad_good {e = ends q r} f g = never (sym f)
