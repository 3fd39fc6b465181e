-- `judge::stream_good`: clean by the scan, or plane by plane.
use mathlib.Core.Path.{◌≡◌, refl, sym, ap, ◌∙◌}
use mathlib.Core.List.{List}
use Prim.Native.Nat.{ℕ, ◌<◌}
use native.Mathlib.Omega.{arith}
use Rattle.std.proofs.Common.{rules}
use lib.ListN.{length, get_or}
use Rattle.calls.specs.Views.{stride_by}
use Rattle.judge.specs.Good.{stream_plane, first_strides, good_in_turn}
use Rattle.judge.proofs.Clean.{spans, clean}
use Rattle.judge.proofs.Turns.{clean_good, turns_over, turns_bad, turns_next, first_length, first_at, strides_taken}
use Rattle.judge.proofs.stream_good.Goals as goal

pub returns-then-no_six_zeros : goal.returns-then-no_six_zeros
returns-then-no_six_zeros c =
    let a = c.args in
    sym
    (clean_good (stream_plane a.dc a.bytes.now) a.from (clean a.dc a.bytes.now (λ j. search rules) a.from (sym c.no_six_zeros.ensures ∙ c.if-no_six_zeros.true))
    (first_strides a.f) a.from (omega arith))

pub returns-in_default : goal.returns-in_default
returns-in_default c =
    let a = c.args in
    let l = c.loop-stride in
    let s = c.strides-stride-items.result.now in
    let e : s ≡ first_strides a.f = c.strides-stride-items.ensures ∙ strides_taken a.f (omega arith) in
    sym (turns_bad (stream_plane a.dc a.bytes.now) s a.from l.stride-index l.at l.invariant.1 (get_or s l.stride-index 0) c.loop-stride-test.true refl c.in_default.ensures)
    ∙ ap (λ (x : List ℕ). good_in_turn (stream_plane a.dc a.bytes.now) x a.from) e

pub loop-stride-preserved : goal.loop-stride-preserved
loop-stride-preserved c =
    let a = c.args in
    let l = c.loop-stride in
    let k = l.stride-index in
    let s = c.strides-stride-items.result.now in
    let e : s ≡ first_strides a.f = c.strides-stride-items.ensures ∙ strides_taken a.f (omega arith) in
    let n : length s ≡ a.f.count = ap (λ (x : List ℕ). length x) e ∙ first_length a.f c.requires.1.0 in
    let h : k < a.f.count = omega (arith, n, c.loop-stride-test.true) in
    let w : get_or s k 0 ≡ stride_by a.f k = ap (λ (x : List ℕ). get_or x k 0) e ∙ sym (first_at a.f c.requires.1.0 k h) in (
      omega arith,
      turns_next (stream_plane a.dc a.bytes.now) s a.from k l.at l.invariant.1 (get_or s k 0) c.loop-stride-test.true refl (spans a.dc a.bytes.now)
          (omega (arith, w, c.requires.1.1 k h)) c.in-Ok.ensures,
    )

pub returns : goal.returns
returns c =
    let a = c.args in
    let l = c.loop-stride in
    let s = c.strides-stride-items.result.now in
    let e : s ≡ first_strides a.f = c.strides-stride-items.ensures ∙ strides_taken a.f (omega arith) in
    sym (turns_over (stream_plane a.dc a.bytes.now) s a.from l.stride-index l.at l.invariant.1 (omega arith))
    ∙ ap (λ (x : List ℕ). good_in_turn (stream_plane a.dc a.bytes.now) x a.from) e
