-- One symbol more of a block, and its end.
use mathlib.Core.Path.{◌≡◌, refl, sym, ap, ◌∙◌}
use mathlib.Core.Bool.{true}
use mathlib.Core.List.{List, [], ◌∷◌, ◌++◌, append_assoc}
use Prim.Native.Nat.{ℕ, suc, ◌+◌, ◌-◌, ◌^◌, ◌≤◌, ◌<◌}
use native.Mathlib.Omega.{arith}
use lib.IntN.{ℤ, pos}
use lib.ListN.{length, set, replicate, length-append, length-replicate, length-set, replicate-append-replicate}
use lib.Seq.{set_at}
use Rattle.bits.specs.Bits.{bit_at}
use Rattle.bits.specs.Read.{run, value, read_symbol}
use Rattle.bits.specs.Signed.{signed_of}
use Rattle.std.specs.Prelude.{Result, Ok, Err, IsOk}
use Rattle.bitreader.specs.Cursor.{At, SymbolGot, NextSymbol}
use Rattle.bitreader.specs.declared.AcCursor.{AcCursor}
use Rattle.bitreader.specs.declared.Got.{Got}
use Rattle.bitreader.specs.declared.BadCode.{BadCode}
use Rattle.bitreader.proofs.Looks.{at_none}
use Rattle.calls.specs.ReadPlane.{places, read_places}
use Rattle.tables.specs.Zigzag.{zigzag_at}
use Rattle.quant.specs.Quantise.{scan_of}
use Rattle.quant.proofs.Blocks.{scan_length}
use Rattle.acplaces.specs.Places.{good_places, Placed}
use Rattle.acplaces.specs.Going.{behind, Going, Onward}
use Rattle.bitreader.specs.declared.Stop.{Stop}
use Rattle.acplaces.proofs.Scan.{scan_zero, scan_set}
use Rattle.acplaces.proofs.Symbols.{behind_good, value_by, run_by, zeros_first, value_turn, run_turn, some, over}

-- a cursor that holds no bits
abbrev pub bare : ℕ → AcCursor
bare q = record { pos = q; bits = 0; count = 0 }

pub going_start : (s : List ℕ) (p r : ℕ) → r < 2 ^ 57 → Going s p r (bare p) r (replicate 64 (pos 0))
going_start s p r f =
    let e : (64 - (64 - r)) + (64 - r) ≡ 64 = omega arith in
    record {
      got = replicate (64 - (64 - r)) (pos 0);
      same = zeros_first (bit_at s) (64 - (64 - r)) 64 p r refl;
      scan = scan_zero ∙ ap (λ (n : ℕ). replicate n (pos 0)) (sym e) ∙ sym (replicate-append-replicate (64 - (64 - r)) (64 - r) (pos 0));
      count = refl;
      holds = at_none s p;
      step = omega arith;
      near = omega arith;
      few = f;
    }

pub going_same : {s : List ℕ} {p r : ℕ} {c : AcCursor} {place place' : ℕ} {nat nat' : List ℤ} → nat' ≡ nat → place' ≡ place → Going s p r c place nat → Going s p r c place' nat'
going_same e f i = rw (e, f) i

module _ (s : List ℕ) (p r : ℕ) (c : AcCursor) (place : ℕ) (nat : List ℤ) (i : Going s p r c place nat) where
  -- another cursor at the same bit
  pub going_at : (d : AcCursor) → At s d → d.pos ≡ c.pos → Going s p r d place nat
  going_at d a e = record {
    got = i.got;
    same = i.same ∙ ap (λ (q : ℕ). behind i.got (read_places (64 - place) (bit_at s) q (place - 64))) (sym e);
    scan = i.scan;
    count = i.count;
    holds = a;
    step = omega (arith, e, i.step);
    near = omega (arith, e, i.near);
    few = i.few;
  }

  got_count : place < 64 → length i.got ≡ place
  got_count b =
      omega (arith, scan_length nat, ap length i.scan, length-append i.got (replicate (64 - place) (pos 0)), length-replicate (64 - place) (pos 0))

  -- a number put in the place of a zero
  put_here : place < 64 → (v : ℤ) → scan_of (set nat (zigzag_at place) v) ≡ i.got ++ (v ∷ replicate (64 - (place + 1)) (pos 0))
  put_here b v =
      let k : 64 - place ≡ suc (64 - (place + 1)) = omega arith in
      scan_set nat place v i.count b
      ∙ ap (λ (l : List ℤ). set l place v) (i.scan ∙ ap (λ (x : ℕ). i.got ++ replicate x (pos 0)) k)
      ∙ set_at i.got (pos 0) (replicate (64 - (place + 1)) (pos 0)) v place (got_count b)

  -- a zero over a zero
  pub going_zero : place < 64 → Going s p r c place (set nat (zigzag_at place) (pos 0))
  going_zero b =
      let k : suc (64 - (place + 1)) ≡ 64 - place = omega arith in
      record {
        got = i.got;
        same = i.same;
        scan = put_here b (pos 0) ∙ ap (λ (x : ℕ). i.got ++ replicate x (pos 0)) k;
        count = length-set nat (zigzag_at place) (pos 0) ∙ i.count;
        holds = i.holds;
        step = i.step;
        near = i.near;
        few = i.few;
      }

  module _ (b : place < 64) (d : AcCursor) (a : At s d) (h : d.pos ≤ c.pos + 112) (n : ℕ) where
    pub by_value : value n d.pos ≡ read_symbol (bit_at s) c.pos → {v : ℤ} → v ≡ signed_of n → {j : ℕ} → j ≡ zigzag_at place
        → Going s p r d (place + 1) (set nat j v)
    by_value x {v} e {j} f = record {
      got = i.got ++ (v ∷ []);
      same = i.same
          ∙ value_turn (bit_at s) i.got place c.pos n d.pos b x
          ∙ ap (λ (y : ℤ). behind (i.got ++ (y ∷ [])) (read_places (64 - (place + 1)) (bit_at s) d.pos (place + 1 - 64))) (sym e);
      scan = ap (λ (y : ℕ). scan_of (set nat y v)) f ∙ put_here b v ∙ sym (append_assoc i.got (v ∷ []) (replicate (64 - (place + 1)) (pos 0)));
      count = length-set nat j v ∙ i.count;
      holds = a;
      step = omega (arith, h, i.step);
      near = omega (arith, h, i.step);
      few = omega arith;
    }

    pub by_run : run n d.pos ≡ read_symbol (bit_at s) c.pos → 0 < n → n < 2 ^ 56 → Going s p r d (place + n) nat
    by_run x z y =
        let k : 64 - place ≡ ((64 - place) - (64 - (place + n))) + (64 - (place + n)) = omega arith in
        record {
          got = i.got ++ replicate ((64 - place) - (64 - (place + n))) (pos 0);
          same = i.same ∙ run_turn (bit_at s) i.got place c.pos n d.pos b ((64 - place) - (64 - (place + n))) refl z x;
          scan = i.scan ∙ ap (λ (x : ℕ). i.got ++ replicate x (pos 0)) k
              ∙ ap (λ (l : List ℤ). i.got ++ l) (sym (replicate-append-replicate ((64 - place) - (64 - (place + n))) (64 - (place + n)) (pos 0)))
              ∙ sym (append_assoc i.got (replicate ((64 - place) - (64 - (place + n))) (pos 0)) (replicate (64 - (place + n)) (pos 0)));
          count = i.count;
          holds = a;
          step = omega (arith, h, i.step);
          near = omega (arith, h, i.step);
          few = omega (arith, y);
        }

  -- no bad code in the block: there is a symbol here
  pub going_some : place < 64 → good_places (read_places 64 (bit_at s) p r) ≡ true → (o : Result Got BadCode) → NextSymbol s c o → IsOk o
  going_some b e (Err x) n =
      absurd (some (bit_at s) place c.pos b n.1 (behind_good i.got (read_places (64 - place) (bit_at s) c.pos (place - 64)) (sym (ap good_places i.same) ∙ e)))
  going_some b e (Ok g) n = refl

  module _ (g : Got) (b : place < 64) (n : SymbolGot s c g) where
    pub going_value : g.run ≡ 0 → {v : ℤ} → v ≡ signed_of g.num → {j : ℕ} → j ≡ zigzag_at place
        → Going s p r g.c (place + 1) (set nat j v)
    going_value h = by_value b g.c n.next.ready n.next.near g.num (sym (value_by g.num g.run g.c.pos h) ∙ n.answer)

    pub going_run : (g.run ≡ 0 → ⊥) → Going s p r g.c (place + g.num) nat
    going_run h = by_run b g.c n.next.ready n.next.near g.num (sym (run_by g.num g.run g.c.pos h) ∙ n.answer) n.next.more n.next.small

  pub going_over : 64 ≤ place → Placed s p r (record { at = c.pos; pending = place - 64 }) nat
  going_over b =
      let k : 64 - place ≡ 0 = omega arith in
      record {
        answer = i.same ∙ ap (behind i.got) (over (bit_at s) place c.pos b)
            ∙ ap (λ (l : List ℤ). places l c.pos (place - 64)) (sym (i.scan ∙ ap (λ (x : ℕ). i.got ++ replicate x (pos 0)) k));
        near = i.near;
        few = omega (arith, i.few);
        count = i.count;
      }

pub going_bare : {s : List ℕ} {p r : ℕ} {c : AcCursor} {place : ℕ} {nat : List ℤ} → Going s p r c place nat → Going s p r (bare c.pos) place nat
going_bare {s} {p} {r} {c} {place} {nat} i = going_at s p r c place nat i (bare c.pos) (at_none s c.pos) refl

-- nothing read
pub onward_none : (a : Stop) (nat : List ℤ) → Onward a nat a nat
onward_none a nat = record {
  goes = λ s p r g. g;
  on = omega arith;
  none = λ _. refl;
  some = λ h. absurd (omega (arith, h));
  up = omega arith;
}
