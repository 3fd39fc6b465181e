-- A look into the table: its symbols, one or two, are read.
use mathlib.Core.Path.{◌≡◌, sym, ap, ◌∙◌, subst}
use mathlib.Core.List.{List}
use Prim.Native.Nat.{ℕ, ◌+◌, ◌-◌, ◌*◌, ◌/◌, ◌%◌, ◌^◌, ◌≤◌, ◌<◌}
use native.Mathlib.Omega.{arith}
use lib.IntN.{ℤ}
use Rattle.bits.specs.Bits.{bit_at, num}
use Rattle.bitreader.specs.Cursor.{At}
use Rattle.bitreader.specs.declared.AcCursor.{AcCursor}
use Rattle.bitreader.proofs.Looks.{at_none, at_skip}
use Rattle.bitreader.proofs.words.Words.{holds_top}
use Rattle.calls.specs.ReadPlane.{read_places}
use Rattle.acpairs.specs.Pairs.{look_of}
use Rattle.acpairs.specs.Parts.{taken_of, before_last, places_of, first_value, last_value, Sym, a_value_lem, a_run_lem, Held, none, one, two}
use Rattle.acpairs.proofs.Held.{held}
use Rattle.acpairs.proofs.Entry.{some, look_less}
use Rattle.acread.specs.Block.{ends_of}
use Rattle.acread.specs.Going.{Going, Onward}
use Rattle.bitreader.specs.declared.Stop.{Stop}
use Rattle.acread.proofs.Turn.{value_turn, run_turn}

module _ (s : List ℕ) (p r : ℕ) (c : AcCursor) (place : ℕ) (i : Going s p r c place) (b : place < 64) (d : AcCursor) (a : At s d) (h : d.pos ≤ c.pos + 112) where
  -- a symbol of m places
  by_sym : (m : ℕ) (v : ℤ) → m < 2 ^ 56 → Sym (bit_at s) c.pos d.pos m v → Going s p r d (place + m)
  by_sym m v f x = record {
    same = i.same ∙ go x;
    holds = a;
    step = omega (arith, h, i.step, some x);
    near = omega (arith, h, i.step);
    few = omega (arith, f);
  }
    where
      go : Sym (bit_at s) c.pos d.pos m v
          → ends_of (read_places (64 - place) (bit_at s) c.pos (place - 64)) ≡ ends_of (read_places (64 - (place + m)) (bit_at s) d.pos (place + m - 64))
      go (a_value_lem n x em ev) = rw em (value_turn (bit_at s) place c.pos n d.pos b (sym x))
      go (a_run_lem x z ev) = run_turn (bit_at s) place c.pos m d.pos b z (sym x)

-- the symbols of an entry: the cursor d is behind them
module _ (s : List ℕ) (p r : ℕ) (c : AcCursor) (place : ℕ) (i : Going s p r c place) (e : ℕ) (last : place + before_last e < 64)
    (d : AcCursor) (a : At s d) (dp : d.pos ≡ c.pos + taken_of e) where
  by_entry : Held (bit_at s) c.pos e → Going s p r d (place + places_of e)
  by_entry (none h) = absurd (omega (arith, last, h))
  by_entry (one z h b w x) =
      by_sym s p r c place i (omega (arith, last)) d a (omega (arith, dp, h)) (places_of e) (first_value e) (omega arith)
      (subst (λ (q : ℕ). Sym (bit_at s) c.pos q (places_of e) (first_value e)) (sym dp) x)
  by_entry (two n z h k b m x y) =
      let between : AcCursor = record { pos = c.pos + n; bits = 0; count = 0 } in
      let e0 : place + places_of e ≡ place + before_last e + (places_of e - before_last e) = omega (arith, m) in
      let j = by_sym s p r c place i (omega (arith, last)) between (at_none s (c.pos + n)) (omega (arith, h, k)) (before_last e) (first_value e) (omega (arith, last)) x in
      rw e0 (by_sym s p r between (place + before_last e) j last d a (omega (arith, dp, h, k)) (places_of e - before_last e) (last_value e) (omega arith)
      (subst (λ (q : ℕ). Sym (bit_at s) (c.pos + n) q (places_of e - before_last e) (last_value e)) (sym dp) y))

-- nothing read
pub onward_none : (a : Stop) → Onward a a
onward_none a = record { goes = λ s p r g. g; on = omega arith }

-- one look more
pub look_onward : (a : Stop) (c : AcCursor) (place : ℕ) → Onward a (record { c = c; place = place }) → (e : ℕ) → 10 ≤ c.count
    → c.bits / 2 ^ 54 < 1024 → e ≡ look_of (c.bits / 2 ^ 54) → place + before_last e < 64 → (d : AcCursor) → d.pos ≡ c.pos + taken_of e
    → d.count ≡ c.count - taken_of e → d.bits ≡ (c.bits * 2 ^ taken_of e) % 2 ^ 64 → {m : ℕ} → m ≡ places_of e
    → Onward a (record { c = d; place = place + m })
look_onward a c place i e many low ee last d dp dc db {m} em = record {
  goes = λ s p r g.
      let j = i.goes s p r g in
      let k : c.bits / 2 ^ 54 ≡ num 10 0 (bit_at s) c.pos = holds_top s c.pos c.count c.bits 10 j.holds.holds j.holds.most many in
      let h : Held (bit_at s) c.pos e = subst (Held (bit_at s) c.pos) (sym (ee ∙ ap look_of k)) (held (bit_at s) c.pos) in
      let n = look_less (c.bits / 2 ^ 54) e low ee place last in
      rw em (by_entry s p r c place j e last d (at_skip s c d (taken_of e) j.holds (omega (arith, many, n.1)) dp dc db) dp h);
  on = omega (arith, i.on);
}
