-- The answers of the coding calls from their numbers.
use mathlib.Core.Path.{◌≡◌, refl, sym, ap, ◌∙◌}
use mathlib.Core.List.{List, append-nil}
use Prim.Native.Nat.{ℕ, zero, suc, ◌+◌, ◌<◌}
use native.Mathlib.Omega.{arith}
use lib.ListN.{length}
use Rattle.bits.specs.Lay.{lay}
use Rattle.ask.specs.Ask.{first_no}
use Rattle.calls.specs.Arguments.{Settings, Plane, Call, one_plane, settings_of, planes_of, PerStream, Buffers, lengths_of}
use Rattle.calls.specs.Streams.{dc_stream, ac_stream}
use Rattle.slice.specs.Plane.{coefficients}
use Rattle.slice.specs.Room.{coding_questions}
use Rattle.calls.specs.Told.{refusal, acceptance}
use Rattle.calls.proofs.Told.{told_refused, told_accepted}
use Rattle.slice.specs.Calls.{Coded, own_streams, encode}
use Rattle.slice.proofs.Legal.{coding_legal}
use Rattle.encplane.specs.Coding.{PlaneOk, PlaneDone}
use Rattle.questions.specs.answers.Code.{code_told}
use Rattle.encoder.specs.Coding.{SliceOk, SliceDone}

abbrev pub coded : ℕ → PerStream → Buffers → Coded
coded n at b = record { number = n; at = at; buffers = b }

-- ---- any call
module _ (c : Call) (b : Buffers) (at : PerStream) where
  abbrev pub number : ℕ
  number = first_no (coding_questions c (lengths_of b) at)

  same_refused : {n : ℕ} → n ≡ number → 0 < n → coded n at b ≡ encode c b at
  unfolding encode
  same_refused {n = zero} e h = absurd (omega arith)
  same_refused {n = suc n} e h = rw (← e) refl

  pub refused_is : {n : ℕ} → n ≡ number → 0 < n → refusal (coded n at b) ≡ code_told (encode c b at)
  refused_is e h = told_refused (λ (k : Coded). k.number) (same_refused e h) h

  pub slice_ok : number ≡ 0 → SliceOk c b at
  slice_ok e =
      let k = coding_legal c (lengths_of b) at e in
      record {
        which = k.legal.which;
        planes_ok = record { settings = k.legal.settings; planes = k.legal.planes; dc_room = k.dc_room; ac_room = k.ac_room };
      }

  same_slice : {n : ℕ} {r : PerStream} {b' : Buffers} → n ≡ number → n ≡ 0 → SliceDone c b at r b' → coded 0 r b' ≡ encode c b at
  unfolding encode
  same_slice e h p =
      rw (sym e ∙ h)
      (λ i. record { number = 0; at = record { dc = p.dc_end_lem i; ac = p.ac_end_lem i }; buffers = record { dc_bytes = p.dc_bytes_lem i; ac_bytes = p.ac_bytes_lem i } })

  pub slice_is : {n : ℕ} {r : PerStream} {b' : Buffers} → n ≡ number → n ≡ 0 → SliceDone c b at r b' → acceptance (coded 0 r b') ≡ code_told (encode c b at)
  slice_is e h p = told_accepted (λ (k : Coded). k.number) (same_slice e h p) refl

-- ---- one plane
module _ (σ : Settings) (p : Plane) (b : Buffers) (at : PerStream) where
  pub plane_ok : number (one_plane σ p) b at ≡ 0 → PlaneOk σ p b at
  plane_ok e =
      let k = coding_legal (one_plane σ p) (lengths_of b) at e in
      record {
        settings = k.legal.settings;
        plane = k.legal.planes.0;
        dc_room = omega (arith, k.dc_room);
        ac_room = omega (arith, k.ac_room);
      }

  -- the streams of a plane are those of a list of it alone
  alone : {r : PerStream} {b' : Buffers} → PlaneDone σ p b at r b' → SliceDone (one_plane σ p) b at r b'
  unfolding own_streams
  alone d =
      let nd = append-nil (dc_stream σ.shift (coefficients σ p)) in
      let na = append-nil (ac_stream (coefficients σ p)) in
      record {
        dc_bytes_lem = d.dc_bytes_lem ∙ ap (lay b.dc_bytes at.dc) (sym nd);
        dc_end_lem = d.dc_end_lem ∙ ap (λ (l : List ℕ). at.dc + length l) (sym nd);
        ac_bytes_lem = d.ac_bytes_lem ∙ ap (lay b.ac_bytes at.ac) (sym na);
        ac_end_lem = d.ac_end_lem ∙ ap (λ (l : List ℕ). at.ac + length l) (sym na);
      }

  pub plane_is : {n : ℕ} {r : PerStream} {b' : Buffers} → n ≡ number (one_plane σ p) b at → n ≡ 0 → PlaneDone σ p b at r b' → acceptance (coded 0 r b') ≡ code_told (encode (one_plane σ p) b at)
  plane_is e h d = slice_is (one_plane σ p) b at e h (alone d)
