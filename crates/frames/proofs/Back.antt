-- A frame that was written is read back: header, streams and their bytes.
use mathlib.Core.Path.{◌≡◌, refl, sym, ap, ap₂, ◌∙◌}
use mathlib.Core.List.{List, [], ◌∷◌, ◌++◌, append_assoc}
use Prim.Native.Nat.{ℕ, suc, ◌+◌, ◌*◌, ◌/◌, ◌%◌, ◌≤◌, ◌<◌}
use native.Mathlib.Nat.{add-zero, div-div-eq-div-mul}
use native.Mathlib.Omega.{arith}
use lib.ListN.{length, get_or, take, drop, length-append}
use lib.Seq.{get_or-append-add, drop-append-add, take-append_seam}
use Rattle.ask.specs.Ask.{accepted}
use Rattle.parser.specs.streams.Streams.{length_at, one_stream, streams}
use Rattle.parser.specs.Frame.{stream_part, nth_stream}
use Rattle.parser.proofs.streams.Laws.{one_whole, turn}
use Rattle.parser.proofs.Laws.{nth_yes}
use Rattle.builder.specs.streams.Put.{length_word, stream_bytes, all_streams}
use Rattle.frames.specs.Whole.{Within}
use Rattle.frames.proofs.Put.{stream_length}

-- ---- a length word
word_is : (n : ℕ) → n < 4294967296 → n % 256 + 256 * (n / 256 % 256 + 256 * (n / 65536 % 256 + 256 * (n / 16777216 % 256))) ≡ n
word_is n h =
    let x : n / 256 / 256 ≡ n / 65536 = div-div-eq-div-mul n 256 256 in
    let y : n / 65536 / 256 ≡ n / 16777216 = div-div-eq-div-mul n 65536 256 in
    let p : n / 65536 % 256 + 256 * (n / 16777216 % 256) ≡ n / 65536 = omega arith in
    let q : n / 256 % 256 + 256 * (n / 65536) ≡ n / 256 = omega arith in
    rw p (rw q (omega arith))

length_is : (pre : List ℕ) (n : ℕ) (l : List ℕ) → n < 4294967296 → length_at (pre ++ (length_word n ++ l)) (length pre) ≡ n
unfolding length_at
length_is pre n l h =
    let f = length_word n ++ l in
    let a : get_or (pre ++ f) (length pre) 0 ≡ n % 256 = ap (λ (k : ℕ). get_or (pre ++ f) k 0) (sym (add-zero (length pre))) ∙ get_or-append-add pre f 0 0 in
    let b : get_or (pre ++ f) (length pre + 1) 0 ≡ n / 256 % 256 = get_or-append-add pre f 1 0 in
    let c : get_or (pre ++ f) (length pre + 2) 0 ≡ n / 65536 % 256 = get_or-append-add pre f 2 0 in
    let d : get_or (pre ++ f) (length pre + 3) 0 ≡ n / 16777216 % 256 = get_or-append-add pre f 3 0 in
    rw (a, b, c, d) (word_is n h)

-- ---- one stream, wherever it lies
module _ (limit : ℕ) (small : limit < 4294967296) (pre s post : List ℕ) (h : length s ≤ limit) where
  abbrev there : List ℕ
  there = pre ++ (stream_bytes s ++ post)

  its_length : length_at there (length pre) ≡ length s
  unfolding stream_bytes
  its_length =
      ap (λ (l : List ℕ). length_at (pre ++ l) (length pre)) (append_assoc (length_word (length s)) s post) ∙ length_is pre (length s) (s ++ post) (omega arith)

  pub one_read : one_stream limit there (length pre) ≡ accepted (length pre + (4 + length s))
  one_read =
      let i = length-append pre (stream_bytes s ++ post) in
      let j = length-append (stream_bytes s) post in
      let k = stream_length s in
      one_whole limit there (length pre) (omega arith) (omega (arith, its_length)) (omega (arith, its_length))
      ∙ ap accepted (omega (arith, its_length))

  -- "the stream is handed back as that part of the caller's frame"
  pub its_bytes : take (stream_part there (length pre)).size (drop (stream_part there (length pre)).offset there) ≡ s
  unfolding stream_bytes
  its_bytes =
      ap (λ (n : ℕ). take n (drop (length pre + 4) there)) its_length
      ∙ ap (take (length s)) (drop-append-add pre (stream_bytes s ++ post) 4 ∙ refl)
      ∙ take-append_seam s post

-- ---- all streams of a kind
pub streams_read : (limit : ℕ) → limit < 4294967296 → (pre : List ℕ) (ss : List (List ℕ)) (post : List ℕ) → Within limit ss
    → streams (length ss) limit (pre ++ (all_streams ss ++ post)) (length pre) ≡ accepted (length pre + length (all_streams ss))
unfolding streams all_streams
streams_read limit small pre [] post w = ap accepted (sym (add-zero (length pre)))
streams_read limit small pre (s ∷ ss) post w =
    let f : pre ++ ((stream_bytes s ++ all_streams ss) ++ post) ≡ pre ++ (stream_bytes s ++ (all_streams ss ++ post)) = ap (λ (l : List ℕ). pre ++ l) (append_assoc (stream_bytes s) (all_streams ss) post) in
    let g : pre ++ (stream_bytes s ++ (all_streams ss ++ post)) ≡ (pre ++ stream_bytes s) ++ (all_streams ss ++ post) = sym (append_assoc pre (stream_bytes s) (all_streams ss ++ post)) in
    let p : length pre + (4 + length s) ≡ length (pre ++ stream_bytes s) = omega (arith, length-append pre (stream_bytes s), stream_length s) in
    ap (λ (l : List ℕ). streams (suc (length ss)) limit l (length pre)) f
    ∙ turn (length ss) limit (pre ++ (stream_bytes s ++ (all_streams ss ++ post))) (length pre) (length pre + (4 + length s)) (one_read limit small pre s (all_streams ss ++ post) w.0)
    ∙ ap₂ (λ (l : List ℕ) (q : ℕ). streams (length ss) limit l q) g p
    ∙ streams_read limit small (pre ++ stream_bytes s) ss post w.1
    ∙ ap accepted (omega (arith, length-append pre (stream_bytes s), length-append (stream_bytes s) (all_streams ss)))

-- ---- the stream of one slice
pub nth_read : (limit : ℕ) → limit < 4294967296 → (pre : List ℕ) (before : List (List ℕ)) (s post : List ℕ) → Within limit before → length s ≤ limit
    → nth_stream (length before) limit (pre ++ (all_streams before ++ (stream_bytes s ++ post))) (length pre)
    ≡ accepted (stream_part (pre ++ (all_streams before ++ (stream_bytes s ++ post))) (length (pre ++ all_streams before)))
nth_read limit small pre before s post w h =
    let f = pre ++ (all_streams before ++ (stream_bytes s ++ post)) in
    let g : f ≡ (pre ++ all_streams before) ++ (stream_bytes s ++ post) = sym (append_assoc pre (all_streams before) (stream_bytes s ++ post)) in
    let p : length pre + length (all_streams before) ≡ length (pre ++ all_streams before) = sym (length-append pre (all_streams before)) in
    nth_yes (length before) limit f (length pre) (streams_read limit small pre before (stream_bytes s ++ post) w ∙ ap accepted p)
    (ap (λ (l : List ℕ). one_stream limit l (length (pre ++ all_streams before))) g ∙ one_read limit small (pre ++ all_streams before) s post h)

-- and its bytes are the stream
pub nth_bytes : (limit : ℕ) → limit < 4294967296 → (pre : List ℕ) (before : List (List ℕ)) (s post : List ℕ) → length s ≤ limit
    → let f = pre ++ (all_streams before ++ (stream_bytes s ++ post)) in
    take (stream_part f (length (pre ++ all_streams before))).size (drop (stream_part f (length (pre ++ all_streams before))).offset f) ≡ s
nth_bytes limit small pre before s post h =
    let g : pre ++ (all_streams before ++ (stream_bytes s ++ post)) ≡ (pre ++ all_streams before) ++ (stream_bytes s ++ post) = sym (append_assoc pre (all_streams before) (stream_bytes s ++ post)) in
    ap (λ (f : List ℕ). take (stream_part f (length (pre ++ all_streams before))).size (drop (stream_part f (length (pre ++ all_streams before))).offset f)) g
    ∙ its_bytes limit small (pre ++ all_streams before) s post h
