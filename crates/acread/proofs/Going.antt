-- The loop over a block's symbols: what is still to be read from here ends where the whole block ends.
use mathlib.Core.Path.{◌≡◌, sym, ap, ◌∙◌}
use mathlib.Core.List.{List}
use Prim.Native.Nat.{ℕ, zero, suc, ◌+◌, ◌-◌, ◌^◌, ◌≤◌, ◌<◌}
use native.Mathlib.Omega.{arith}
use Rattle.bits.specs.Bits.{bit_at}
use Rattle.bits.specs.Read.{bad_symbol, read_symbol}
use Rattle.bitreader.specs.Cursor.{At, SymbolGot}
use Rattle.bitreader.specs.declared.AcCursor.{AcCursor}
use Rattle.bitreader.specs.declared.Got.{Got}
use Rattle.calls.specs.ReadPlane.{read_places}
use Rattle.acread.specs.Block.{span_of, ends_of, BlockEnded}
use Rattle.acread.specs.Going.{Going}
use Rattle.std.specs.Prelude.{Some, None}
use Rattle.acread.proofs.Turn.{start, turn, stop, over}

pub going_start : (s : List ℕ) (c : AcCursor) (r : ℕ) → At s c → r < 2 ^ 57 → Going s c.pos r c r
going_start s c r a f = record { same = start (bit_at s) c.pos r; holds = a; step = omega arith; near = omega arith; few = f }

pub going_same : {s : List ℕ} {p r : ℕ} {c c' : AcCursor} {place place' : ℕ} → c' ≡ c → place' ≡ place → Going s p r c place → Going s p r c' place'
going_same e f i = rw (e, f) i

span_few : (h n : ℕ) → 0 < n → n < 2 ^ 56 → (0 < span_of h n) × (span_of h n < 2 ^ 56)
span_few zero n z f = (omega arith, omega arith)
span_few (suc h) n z f = (z, f)

-- what a symbol adds to the place
pub span_some : (s : List ℕ) (c : AcCursor) (g : Got) → SymbolGot s c g → (0 < span_of g.run g.num) × (span_of g.run g.num < 2 ^ 56)
span_some s c g n = span_few g.run g.num n.next.more n.next.small

pub going_turn : (s : List ℕ) (p r : ℕ) (c : AcCursor) (place : ℕ) (g : Got) {w : ℕ} → Going s p r c place → place < 64 → SymbolGot s c g
    → w ≡ span_of g.run g.num → Going s p r g.c (place + w)
going_turn s p r c place g {w} i b n e =
    let f = span_some s c g n in
    record {
      same = i.same ∙ turn (bit_at s) place c.pos g.num g.run g.c.pos b n.next.more n.answer ∙ ap (λ (x : ℕ). ends_of (read_places (64 - (place + x)) (bit_at s) g.c.pos (place + x - 64))) (sym e);
      holds = n.next.ready;
      step = omega (arith, n.next.near, i.step);
      near = omega (arith, n.next.near, i.step);
      few = omega arith;
    }

pub going_bad : (s : List ℕ) (p r : ℕ) (c : AcCursor) (place : ℕ) → Going s p r c place → place < 64 → bad_symbol ≡ read_symbol (bit_at s) c.pos → BlockEnded s p r None
going_bad s p r c place i b n =
    record {
      answer = sym (i.same ∙ stop (bit_at s) place c.pos b n);
      ready = λ d e. absurd (let x : ◌≡◌ {A = ℕ} 0 1 = cc in omega arith);
    }

pub going_over : (s : List ℕ) (p r : ℕ) (c : AcCursor) (place : ℕ) → Going s p r c place → 64 ≤ place → BlockEnded s p r (Some (record { c = c; pending = place - 64 }))
going_over s p r c place i b =
    record {
      answer = sym (i.same ∙ over (bit_at s) place c.pos b);
      ready = λ d e.
          let x : record { c = c; pending = place - 64 } ≡ d = cc in
          rw (← x) (record { holds = i.holds; near = i.near; few = omega (arith, i.few) });
    }

-- a block that the zeros still to come fill
pub flat_ended : (s : List ℕ) (c : AcCursor) (r : ℕ) → At s c → r < 2 ^ 57 → 64 ≤ r → BlockEnded s c.pos r (Some (record { c = c; pending = r - 64 }))
flat_ended s c r a f b = going_over s c.pos r c r (going_start s c r a f) b
