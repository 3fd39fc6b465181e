-- A look into the table: the places of its symbols, one or two, are filled.
use mathlib.Core.Path.{◌≡◌, refl, sym, ap, ◌∙◌, subst}
use mathlib.Core.List.{List, [], ◌∷◌}
use Prim.Native.Nat.{ℕ, zero, suc, ◌+◌, ◌-◌, ◌*◌, ◌/◌, ◌%◌, ◌^◌, ◌≤◌, ◌<◌}
use native.Mathlib.Omega.{arith}
use lib.IntN.{ℤ, pos}
use lib.ListN.{set}
use Rattle.bits.specs.Bits.{bit_at, num}
use Rattle.bitreader.specs.Cursor.{At}
use Rattle.bitreader.specs.declared.AcCursor.{AcCursor}
use Rattle.bitreader.proofs.Looks.{at_none, at_skip}
use Rattle.bitreader.proofs.words.Words.{holds_top}
use Rattle.tables.specs.Zigzag.{zigzag_at}
use Rattle.acpairs.specs.Pairs.{look_of}
use Rattle.acpairs.specs.Parts.{taken_of, before_last, places_of, first_value, last_value, Sym, a_value_lem, a_run_lem, Held, none, one, two}
use Rattle.acpairs.proofs.Held.{held}
use Rattle.acpairs.proofs.Entry.{entry_bits}
use Rattle.acplaces.specs.Going.{Going, Onward}
use Rattle.bitreader.specs.declared.Stop.{Stop}
use Rattle.acplaces.proofs.Going.{bare, going_zero, by_value, by_run}

set_twice : (l : List ℤ) (i : ℕ) (v : ℤ) → set (set l i v) i v ≡ set l i v
set_twice [] i v = refl
set_twice (x ∷ l) zero v = refl
set_twice (x ∷ l) (suc i) v = ap (λ (t : List ℤ). x ∷ t) (set_twice l i v)

module _ (s : List ℕ) (p r : ℕ) (c : AcCursor) (place : ℕ) (nat : List ℤ) (i : Going s p r c place nat) where
  -- a symbol's places, the first of which is stored whatever it is
  by_sym : (d : AcCursor) → At s d → d.pos ≤ c.pos + 112 → place < 64 → (m : ℕ) (v : ℤ) → m < 2 ^ 56 → Sym (bit_at s) c.pos d.pos m v → (j : ℕ) → j ≡ zigzag_at place
      → Going s p r d (place + m) (set nat j v)
  by_sym d a h b m v f (a_value_lem n x em ev) j e = rw em (by_value s p r c place nat i b d a h n (sym x) ev e)
  by_sym d a h b m v f (a_run_lem x z ev) j e =
      rw (e, ev) (by_run s p r c place (set nat (zigzag_at place) (pos 0)) (going_zero s p r c place nat i b) b d a h m (sym x) z f)

-- the places of an entry's symbols: the cursor d is behind them
module _ (s : List ℕ) (p r : ℕ) (c : AcCursor) (place : ℕ) (nat : List ℤ) (i : Going s p r c place nat) (e : ℕ) (last : place + before_last e < 64)
    (d : AcCursor) (a : At s d) (dp : d.pos ≡ c.pos + taken_of e) where
  by_entry : Held (bit_at s) c.pos e
      → Going s p r d (place + places_of e) (set (set nat (zigzag_at place) (first_value e)) (zigzag_at (place + before_last e)) (last_value e))
  by_entry (none h) = absurd (omega (arith, last, h))
  by_entry (one z h b w x) =
      let e0 : place + before_last e ≡ place = omega (arith, b) in
      let y : Sym (bit_at s) c.pos d.pos (places_of e) (first_value e) = subst (λ (q : ℕ). Sym (bit_at s) c.pos q (places_of e) (first_value e)) (sym dp) x in
      rw (e0, w) (rw (set_twice nat (zigzag_at place) (first_value e)) (by_sym s p r c place nat i d a (omega (arith, dp, h)) (omega (arith, last)) (places_of e) (first_value e) (omega arith) y (zigzag_at place) refl))
  by_entry (two n z h k b m x y) =
      let e0 : place + places_of e ≡ place + before_last e + (places_of e - before_last e) = omega (arith, m) in
      let j = by_sym s p r c place nat i (bare (c.pos + n)) (at_none s (c.pos + n)) (omega (arith, h, k)) (omega (arith, last)) (before_last e) (first_value e) (omega (arith, last)) x (zigzag_at place) refl in
      let y' : Sym (bit_at s) (c.pos + n) d.pos (places_of e - before_last e) (last_value e) = subst (λ (q : ℕ). Sym (bit_at s) (c.pos + n) q (places_of e - before_last e) (last_value e)) (sym dp) y in
      rw e0 (by_sym s p r (bare (c.pos + n)) (place + before_last e) (set nat (zigzag_at place) (first_value e)) j d a (omega (arith, dp, h, k)) last (places_of e - before_last e) (last_value e) (omega arith) y' (zigzag_at (place + before_last e)) refl)

-- one look more
module _ (a : Stop) (nat₀ : List ℤ) (c : AcCursor) (place : ℕ) (nat : List ℤ) (i : Onward a nat₀ (record { c = c; place = place }) nat) (e : ℕ) (many : 10 ≤ c.count)
    (ee : e ≡ look_of (c.bits / 2 ^ 54)) (last : place + before_last e < 64) (d : AcCursor) (dp : d.pos ≡ c.pos + taken_of e) (dc : d.count ≡ c.count - taken_of e)
    (db : d.bits ≡ (c.bits * 2 ^ taken_of e) % 2 ^ 64) (low : c.bits / 2 ^ 54 < 1024) where
  bits : (0 < taken_of e) × (taken_of e ≤ 10) × (0 < places_of e)
  bits = subst (λ (x : ℕ). (0 < taken_of x) × (taken_of x ≤ 10) × (0 < places_of x)) (sym ee)
      (entry_bits (c.bits / 2 ^ 54) low (subst (λ (x : ℕ). before_last x < 64) ee (omega (arith, last))))

  pub look_onward : {x y : ℕ} → x ≡ zigzag_at place → y ≡ zigzag_at (place + before_last e) → {v w : ℤ} → v ≡ first_value e → w ≡ last_value e
      → Onward a nat₀ (record { c = d; place = place + places_of e }) (set (set nat x v) y w)
  look_onward {x} {y} ex ey {v} {w} ev ew = record {
    goes = λ s p r g.
        let j = i.goes s p r g in
        let k : c.bits / 2 ^ 54 ≡ num 10 0 (bit_at s) c.pos = holds_top s c.pos c.count c.bits 10 j.holds.holds j.holds.most many in
        let h : Held (bit_at s) c.pos e = subst (Held (bit_at s) c.pos) (sym (ee ∙ ap look_of k)) (held (bit_at s) c.pos) in
        rw (ex, ey, ev, ew)
        (by_entry s p r c place nat j e last d (at_skip s c d (taken_of e) j.holds (omega (arith, many, bits.1)) dp dc db) dp h);
    on = omega (arith, i.on);
    none = λ q. absurd (omega (arith, q, dp, bits.0, i.up));
    some = λ q. omega (arith, bits.2, i.on);
    up = omega (arith, dp, i.up);
  }
