-- A reading call on a slice: what the verdict leaves, and its answer.
use mathlib.Core.Path.{◌≡◌, refl}
use mathlib.Core.List.{List}
use Prim.Native.Nat.{ℕ, ◌<◌}
use Rattle.calls.specs.Arguments.{Call, planes_lent, PerStream, Buffers, lengths_of}
use Rattle.calls.proofs.Legal.{reading_legal}
use Rattle.calls.specs.Told.{refusal, acceptance}
use Rattle.calls.proofs.Told.{told_refused, told_accepted}
use Rattle.slice.specs.Calls.{rows_of, Decoded, decode}
use Rattle.questions.specs.answers.Read.{read_told}
use Rattle.judge.proofs.verdict.Laws.{passed, refused_is, accepted_is}
use Rattle.decoder.specs.Storing.{SliceGood, SliceStored}

module _ (c : Call) (b : Buffers) (at : PerStream) {n : ℕ} (e : n ≡ (decode c b at).number) where
  pub may_store : n ≡ 0 → SliceGood c b at
  may_store z =
      let p = passed c b at e z in
      let l = reading_legal c (lengths_of b) at p.asked in
      record { legal = l.legal; dc_start = l.dc_start; ac_start = l.ac_start; good = p.good }

  pub slice_refused : 0 < n → refusal (record { number = n; at = at; rows = rows_of (planes_lent c) }) ≡ read_told (decode c b at)
  slice_refused h = told_refused (λ (k : Decoded). k.number) (refused_is c b at e h) h

  pub slice_accepted : {end : PerStream} {rows : List (List ℕ)} → n ≡ 0 → SliceStored c b at end rows → acceptance (record { number = 0; at = end; rows = rows }) ≡ read_told (decode c b at)
  slice_accepted z s = told_accepted (λ (k : Decoded). k.number) (accepted_is c b at (passed c b at e z) s.ends s.stored) refl
