-- Laws of frame reading, over the definitions.
use mathlib.Core.Path.{◌≡◌, refl, sym, ap, ◌∙◌}
use mathlib.Core.Bool.{Bool, true, false}
use mathlib.Core.List.{List, [], ◌∷◌}
use Prim.Native.Nat.{ℕ, zero, suc, ◌+◌, ◌-◌, ◌≤◌, ◌<◌}
use native.Mathlib.Omega.{arith}
use native.Mathlib.Nat.{zero-add}
use lib.Dec.{ltb}
use lib.ListN.{length}
use borrow.Author.Tests.{lt-ltb, le-ltb, ltb-true, ltb-false}
use Rattle.ask.specs.Ask.{Answer, refused, accepted, ask, first_no, asked, and_then}
use Rattle.ask.specs.Numbers.{no_turn}
use Rattle.ask.specs.Refusals.{number_of}
use Rattle.ask.specs.declared.refusal.Refusal.{Refusal}
use Rattle.ask.proofs.Asked.{asked_no}
use Rattle.layout.specs.Geometry.{slice_count, max_dc_len, max_ac_len}
use Rattle.layout.specs.Views.{is_ac}
use Rattle.parser.proofs.streams.Laws.{streams_inside}
use Rattle.parser.specs.streams.Streams.{one_stream, streams}
use Rattle.parser.proofs.head.Laws.{begins_inside}
use Rattle.parser.specs.head.Header.{format_at, header_length, header_questions, FrameRead, frame_read}
use Rattle.parser.specs.Frame.{dc_streams, ac_there_at, ac_streams, parse_of, View, stream_part, wanted, nth_stream, kind_view, view_of}
use Rattle.layout.specs.declared.Kind.{Kind}
use Rattle.layout.specs.declared.Kind.TheVariants as kind

-- ---- the frame
module _ (f : List ℕ) {q : ℕ} where
  ac_none : length f ≤ q → ac_there_at f q ≡ false
  ac_none l = le-ltb q (length f) l

  ac_some : q < length f → ac_there_at f q ≡ true
  ac_some l = lt-ltb q (length f) l

module _ (w h : ℕ) (f : List ℕ) where
  pub frame_no : (e : Refusal) → number_of e ≡ first_no (header_questions w h f) → refused (number_of e) ≡ parse_of w h f
  unfolding parse_of
  frame_no e k =
      asked_no _ (and_then (dc_streams w h f) (λ q. and_then (ac_streams (ac_there_at f q) w h f q) (λ r. accepted (frame_read h f (ac_there_at f q))))) e k

  module _ (e : first_no (header_questions w h f) ≡ 0) where
    pub dc_no : {n : ℕ} → dc_streams w h f ≡ refused n → parse_of w h f ≡ refused n
    unfolding parse_of asked
    dc_no d = rw (e, d)

    pub dc_only : {q : ℕ} → dc_streams w h f ≡ accepted q → length f ≤ q → parse_of w h f ≡ accepted (frame_read h f false)
    unfolding parse_of asked
    dc_only d l = rw (e, d, ac_none f l)

    pub ac_no : {q n : ℕ} → dc_streams w h f ≡ accepted q → q < length f → streams (slice_count h) (max_ac_len w) f q ≡ refused n → parse_of w h f ≡ refused n
    unfolding parse_of asked
    ac_no d l k = rw (e, d, ac_some f l, k)

    pub ac_too : {q n : ℕ} → dc_streams w h f ≡ accepted q → q < length f → streams (slice_count h) (max_ac_len w) f q ≡ accepted n → parse_of w h f ≡ accepted (frame_read h f true)
    unfolding parse_of asked
    ac_too d l k = rw (e, d, ac_some f l, k)

-- the code's walks are the definitions' walks
module _ (w h : ℕ) (f : List ℕ) {slices : ℕ} {a : Answer ℕ} where
  pub dc_walk : {w' h' limit at : ℕ} → w' ≡ w → h' ≡ h → slices ≡ slice_count h' → limit ≡ max_dc_len w' → at ≡ format_at f → a ≡ streams slices limit f (at + 3) → a ≡ dc_streams w h f
  dc_walk u v p q r e = rw (← u, ← v, ← p, ← q, ← r) e

  pub ac_walk : (q : ℕ) {w' h' limit : ℕ} → w' ≡ w → h' ≡ h → slices ≡ slice_count h' → limit ≡ max_ac_len w' → a ≡ streams slices limit f q → a ≡ streams (slice_count h) (max_ac_len w) f q
  ac_walk q u v p r e = rw (← u, ← v, ← p, ← r) e

pub dc_inside : (w h : ℕ) (f : List ℕ) {q : ℕ} → 5 ≤ length f → dc_streams w h f ≡ accepted q → q ≤ length f
dc_inside w h f k e = streams_inside (slice_count h) (max_dc_len w) f (header_length f) (begins_inside f refl k) e

-- ---- k streams, then the others
streams_cut : (k m limit : ℕ) (f : List ℕ) (p : ℕ) → streams (k + m) limit f p ≡ and_then (streams k limit f p) (λ q. streams m limit f q)
unfolding streams
streams_cut zero m limit f p = ap (λ (n : ℕ). streams n limit f p) (zero-add m)
streams_cut (suc k) m limit f p =
    let s : suc k + m ≡ suc (k + m) = omega arith in
    ap (λ (n : ℕ). streams n limit f p) s ∙ go (one_stream limit f p) (λ q. streams_cut k m limit f q)
  where
    go : (a : Answer ℕ) → ((q : ℕ) → streams (k + m) limit f q ≡ and_then (streams k limit f q) (λ r. streams m limit f r)) → and_then a (λ q. streams (k + m) limit f q) ≡ and_then (and_then a (λ q. streams k limit f q)) (λ r. streams m limit f r)
    go (refused x) next = refl
    go (accepted q) next = next q

module _ (n limit : ℕ) (f : List ℕ) (p : ℕ) {k : ℕ} (h : k ≤ n) where
  cut : streams n limit f p ≡ and_then (streams k limit f p) (λ q. streams (n - k) limit f q)
  cut =
      let s : n ≡ k + (n - k) = omega arith in
      ap (λ (m : ℕ). streams m limit f p) s ∙ streams_cut k (n - k) limit f p

  pub past : {q : ℕ} → streams k limit f p ≡ accepted q → streams n limit f p ≡ streams (n - k) limit f q
  past e = cut ∙ ap (λ (a : Answer ℕ). and_then a (λ q. streams (n - k) limit f q)) e

  pub past_no : {m : ℕ} → streams k limit f p ≡ refused m → streams n limit f p ≡ refused m
  past_no e = cut ∙ ap (λ (a : Answer ℕ). and_then a (λ q. streams (n - k) limit f q)) e

-- ---- a stream after n others
module _ (n limit : ℕ) (f : List ℕ) (p : ℕ) where
  pub nth_from : {q : ℕ} → streams n limit f p ≡ accepted q → nth_stream 0 limit f q ≡ nth_stream n limit f p
  unfolding nth_stream streams
  nth_from e = rw e

  pub nth_yes : {q r : ℕ} → streams n limit f p ≡ accepted q → one_stream limit f q ≡ accepted r → nth_stream n limit f p ≡ accepted (stream_part f q)
  unfolding nth_stream
  nth_yes e d = rw (e, d)

-- ---- the views of both kinds
module _ (w h : ℕ) (f : List ℕ) (slice : ℕ) where
  pub dc_nth : {w' limit at : ℕ} {a : Answer View} → w' ≡ w → limit ≡ max_dc_len w' → at ≡ format_at f → a ≡ nth_stream slice limit f (at + 3) → a ≡ kind_view false w h f slice
  dc_nth u p q e = rw (← u, ← p, ← q) e

  pub ac_nth : (q : ℕ) {w' limit : ℕ} {a : Answer View} → w' ≡ w → limit ≡ max_ac_len w' → a ≡ nth_stream slice limit f q → dc_streams w h f ≡ accepted q → a ≡ kind_view true w h f slice
  ac_nth q u p e d = rw (d, ← u, ← p) e

-- ---- question 14 and the view
module _ (w h : ℕ) (f : List ℕ) (ac : Bool) (slice : ℕ) where
  pub view_no : {n : ℕ} → parse_of w h f ≡ refused n → view_of w h f ac slice ≡ refused n
  unfolding view_of
  view_no e = rw e

  module _ {r : FrameRead} (e : parse_of w h f ≡ accepted r) where
    pub view_beyond : slice_count h ≤ slice → view_of w h f ac slice ≡ refused no_turn
    unfolding view_of asked first_no
    view_beyond k = rw (e, le-ltb slice (slice_count h) k)

    pub view_unwanted : slice < slice_count h → wanted ac r ≡ false → view_of w h f ac slice ≡ refused no_turn
    unfolding view_of asked first_no
    view_unwanted k d = rw (e, lt-ltb slice (slice_count h) k, d)

    pub view_yes : slice < slice_count h → wanted ac r ≡ true → view_of w h f ac slice ≡ kind_view ac w h f slice
    unfolding view_of asked first_no
    view_yes k d = rw (e, lt-ltb slice (slice_count h) k, d)

-- question 14 about the slice alone
module _ (slice n : ℕ) (a : Answer View) where
  pub slice_no : n ≤ slice → asked (ask (ltb slice n) no_turn ∷ []) a ≡ refused no_turn
  unfolding asked first_no
  slice_no k = rw (le-ltb slice n k)

  pub slice_yes : slice < n → asked (ask (ltb slice n) no_turn ∷ []) a ≡ a
  unfolding asked first_no
  slice_yes k = rw (lt-ltb slice n k)

-- the view of a kind that the code names, n being the slice count as the code has it
module _ (w h : ℕ) (f : List ℕ) (slice : ℕ) {h' n : ℕ} {r : FrameRead} (u : h' ≡ h) (c : n ≡ slice_count h') (e : parse_of w h f ≡ accepted r) where
  count : n ≡ slice_count h
  count = rw (← u) c

  either : {A : Type 0} → (slice < n → A) → (n ≤ slice → A) → A
  either {A} below above = go (ltb slice n) refl
    where
      go : (b : Bool) → ltb slice n ≡ b → A
      go true x = below (ltb-true slice n x)
      go false x = above (ltb-false slice n x)

  beyond : (ac : Bool) → n ≤ slice → view_of w h f ac slice ≡ refused no_turn
  beyond ac g = let k = count in view_beyond w h f ac slice e (omega arith)

  kind_view_lem : (ac : Bool) {a : Answer View} → wanted ac r ≡ true → (slice < n → a ≡ kind_view ac w h f slice) → asked (ask (ltb slice n) no_turn ∷ []) a ≡ view_of w h f ac slice
  kind_view_lem ac {a} d v =
      let k = count in
      either
      (λ l. slice_yes slice n a l ∙ v l ∙ sym (view_yes w h f ac slice e (omega arith) d))
      (λ g. slice_no slice n a g ∙ sym (beyond ac g))

  pub dc_wanted : {k : Kind} {a : Answer View} → k ≡ kind.Dc → (slice < n → a ≡ kind_view false w h f slice) → asked (ask (ltb slice n) no_turn ∷ []) a ≡ view_of w h f (is_ac k) slice
  dc_wanted d v = rw d (kind_view_lem false refl v)

  pub ac_wanted : {k : Kind} {a : Answer View} → k ≡ kind.Ac → r.ac_there ≡ true → (slice < n → a ≡ kind_view true w h f slice) → asked (ask (ltb slice n) no_turn ∷ []) a ≡ view_of w h f (is_ac k) slice
  ac_wanted d t v = rw d (kind_view_lem true t v)

  pub ac_missing : {k : Kind} → k ≡ kind.Ac → r.ac_there ≡ false → refused no_turn ≡ view_of w h f (is_ac k) slice
  ac_missing d t =
      let k = count in
      rw d (sym (either (λ l. view_unwanted w h f true slice e (omega arith) t) (beyond true)))
