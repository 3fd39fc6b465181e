-- Laws of the parts that are handed back: shown rows and streams.
use mathlib.Core.Path.{◌≡◌, refl, sym}
use mathlib.Core.List.{List, [], ◌∷◌}
use Prim.Native.Nat.{ℕ, zero, suc, ◌*◌}
use lib.Dec.{eqb}
use lib.ListN.{length, take, drop}
use Rattle.ask.specs.Ask.{Answer, refused, accepted, first_no, asked, by_number}
use Rattle.ask.specs.Refusals.{number_of}
use Rattle.ask.specs.declared.refusal.Refusal.{Refusal}
use Rattle.ask.proofs.Asked.{asked_no, asked_yes}
use Rattle.layout.specs.Geometry.{size_question, of_size}
use Rattle.layout.proofs.Laws.{no_size_lem}
use Rattle.shown.specs.Shown.{shown_questions, shown_of, shown_part, slice_rows, slice_samples, picked, was_accepted}
use Rattle.parser.specs.Frame.{View, bytes_of, viewed_as, view_handed}
use Rattle.outs.specs.frame.Outs.{handed, handed_by, view_parts, empty_part}
use Rattle.vmx.specs.Frames.{shown_at, part_of}

module _ (stride slice verdict new held : ℕ) where
  pub shown_refused : (e : Refusal) → number_of e ≡ first_no (shown_questions stride slice new held) → shown_at stride slice verdict new held ≡ refused (number_of e)
  unfolding shown_at
  shown_refused e k = sym (asked_no _ _ e k)

  pub shown_there : 0 ≡ first_no (shown_questions stride slice new held) → shown_at stride slice verdict new held ≡ accepted (record { from_new = eqb verdict 0; offset = slice * (16 * stride); size = 16 * stride })
  unfolding shown_at
  shown_there k = asked_yes _ _ k

-- the rows at the place that is named are the rows that the pictures' own call hands back
pub shown_part_lem : (stride slice verdict : ℕ) (new held : List ℕ) → shown_part (shown_of stride slice verdict new held) ≡ part_of (shown_at stride slice verdict (length new) (length held)) new held
unfolding shown_of shown_at asked
shown_part_lem stride slice verdict new held = go (first_no (shown_questions stride slice (length new) (length held)))
  where
    go : (n : ℕ) → shown_part (by_number n (accepted (slice_rows stride slice (picked (was_accepted verdict) new held)))) ≡ part_of (by_number n (accepted (record { from_new = was_accepted verdict; offset = slice * slice_samples stride; size = slice_samples stride }))) new held
    go zero = refl
    go (suc n) = refl

-- the number, and the bytes at the offset and of the length that the exported call hands out, are those that the inner one hands back
pub stream_part_lem : (f : List ℕ) (a : Answer View)
    → view_handed (bytes_of f a) ≡ (let h = handed_by a view_parts empty_part in viewed_as h.number (take h.places.size (drop h.places.offset f)))
stream_part_lem f (refused n) = refl
stream_part_lem f (accepted v) = refl

-- a call that question 9 refuses
pub size_refused : {A P : Type 0} (w h n : ℕ) (a : A) (parts : A → P) (was : P) (e : Refusal)
    → n ≡ number_of e → number_of e ≡ first_no (size_question w h ∷ []) → handed n was ≡ handed_by (of_size w h a) parts was
size_refused w h n a parts was e p k = rw (← no_size_lem w h a e k, p)
