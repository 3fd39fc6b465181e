-- Laws of length words and walks, over the definitions.
use mathlib.Core.Path.{◌≡◌, refl, sym, ap, ◌∙◌}
use mathlib.Core.Bool.{Bool, true, false}
use mathlib.Core.List.{List}
use Prim.Native.Nat.{ℕ, zero, suc, ◌+◌, ◌-◌, ◌≤◌, ◌<◌}
use native.Mathlib.Omega.{arith}
use lib.Dec.{leb}
use lib.ListN.{length}
use borrow.Author.Tests.{le-leb, lt-leb, leb-true, leb-false}
use Rattle.ask.specs.Ask.{Answer, refused, accepted, first_no, asked, and_then}
use Rattle.ask.specs.Numbers.{no_bytes, no_limit}
use Rattle.parser.specs.streams.Streams.{length_at, one_stream, streams}

-- ---- answers
pub never : {n q : ℕ} → refused n ≡ accepted q → ⊥
never g = cc

pub same : {a b : ℕ} → accepted a ≡ accepted b → a ≡ b
same g = cc

-- ---- one stream
module _ (limit : ℕ) (f : List ℕ) (p : ℕ) where
  pub one_cut : length f < p + 4 → one_stream limit f p ≡ refused no_bytes
  unfolding one_stream asked first_no
  one_cut h = rw (lt-leb (p + 4) (length f) h)

  pub one_long : p + 4 ≤ length f → limit < length_at f p → one_stream limit f p ≡ refused no_limit
  unfolding one_stream asked first_no
  one_long h k = rw (le-leb (p + 4) (length f) h, lt-leb (length_at f p) limit k)

  pub one_short : p + 4 ≤ length f → length_at f p ≤ limit → length f < p + 4 + length_at f p → one_stream limit f p ≡ refused no_bytes
  unfolding one_stream asked first_no
  one_short h k l =
      rw (le-leb (p + 4) (length f) h, le-leb (length_at f p) limit k, lt-leb (p + 4 + length_at f p) (length f) l)

  pub one_whole : p + 4 ≤ length f → length_at f p ≤ limit → p + 4 + length_at f p ≤ length f → one_stream limit f p ≡ accepted (p + 4 + length_at f p)
  unfolding one_stream asked first_no
  one_whole h k l =
      rw (le-leb (p + 4) (length f) h, le-leb (length_at f p) limit k, le-leb (p + 4 + length_at f p) (length f) l)

  -- an accepted stream lies in the frame
  pub one_inside : (q : ℕ) → one_stream limit f p ≡ accepted q → q ≤ length f
  one_inside q e = go (leb (p + 4) (length f)) refl (leb (length_at f p) limit) refl (leb (p + 4 + length_at f p) (length f)) refl
    where
      go : (a : Bool) → leb (p + 4) (length f) ≡ a → (b : Bool) → leb (length_at f p) limit ≡ b → (d : Bool) → leb (p + 4 + length_at f p) (length f) ≡ d → q ≤ length f
      go false x b y d z = absurd (never (sym (one_cut (leb-false _ _ x)) ∙ e))
      go true x false y d z = absurd (never (sym (one_long (leb-true _ _ x) (leb-false _ _ y)) ∙ e))
      go true x true y false z = absurd (never (sym (one_short (leb-true _ _ x) (leb-true _ _ y) (leb-false _ _ z)) ∙ e))
      go true x true y true z =
          let g : q ≡ p + 4 + length_at f p = same (sym e ∙ one_whole (leb-true _ _ x) (leb-true _ _ y) (leb-true _ _ z)) in
          omega (arith, leb-true (p + 4 + length_at f p) (length f) z)

-- ---- a turn of the walk: `left` streams are still to come
pub turn : (left limit : ℕ) (f : List ℕ) (p q : ℕ) → one_stream limit f p ≡ accepted q → streams (suc left) limit f p ≡ streams left limit f q
unfolding streams
turn left limit f p q e = rw e

pub stop : (left limit : ℕ) (f : List ℕ) (p n : ℕ) → one_stream limit f p ≡ refused n → streams (suc left) limit f p ≡ refused n
unfolding streams
stop left limit f p n e = rw e

-- ---- the walk, by the count of streams passed
module _ (n limit : ℕ) (f : List ℕ) (p : ℕ) where
  pub next_turn_lem : (k at : ℕ) {q : ℕ} → k < n → streams n limit f p ≡ streams (n - k) limit f at → one_stream limit f at ≡ accepted q → streams n limit f p ≡ streams (n - (k + 1)) limit f q
  next_turn_lem k at {q} h e t =
      let s : n - k ≡ suc (n - (k + 1)) = omega arith in
      e ∙ ap (λ (x : ℕ). streams x limit f at) s ∙ turn (n - (k + 1)) limit f at q t

  pub next_stop : (k at : ℕ) {m : ℕ} → k < n → streams n limit f p ≡ streams (n - k) limit f at → one_stream limit f at ≡ refused m → streams n limit f p ≡ refused m
  next_stop k at {m} h e t =
      let s : n - k ≡ suc (n - (k + 1)) = omega arith in
      e ∙ ap (λ (x : ℕ). streams x limit f at) s ∙ stop (n - (k + 1)) limit f at m t

  pub walk_start : streams n limit f p ≡ streams (n - 0) limit f p
  walk_start =
      let s : n ≡ n - 0 = omega arith in
      ap (λ (x : ℕ). streams x limit f p) s

  pub walked : (k at : ℕ) → n ≤ k → streams n limit f p ≡ streams (n - k) limit f at → streams n limit f p ≡ accepted at
  unfolding streams
  walked k at h e =
      let s : n - k ≡ 0 = omega arith in
      e ∙ ap (λ (x : ℕ). streams x limit f at) s

-- ---- the streams lie in the frame
abbrev Within : List ℕ → Answer ℕ → Type 0
Within f (refused m) = Unit {0}
Within f (accepted q) = q ≤ length f

streams_within : (n limit : ℕ) (f : List ℕ) (p : ℕ) → p ≤ length f → Within f (streams n limit f p)
unfolding streams
streams_within zero limit f p h = h
streams_within (suc n) limit f p h = go (one_stream limit f p) refl (λ q k. streams_within n limit f q k)
  where
    go : (a : Answer ℕ) → one_stream limit f p ≡ a → ((q : ℕ) → q ≤ length f → Within f (streams n limit f q)) → Within f (and_then a (λ q. streams n limit f q))
    go (refused m) x next = tt
    go (accepted r) x next = next r (one_inside limit f p r x)

pub streams_inside : (n limit : ℕ) (f : List ℕ) (p : ℕ) {q : ℕ} → p ≤ length f → streams n limit f p ≡ accepted q → q ≤ length f
streams_inside n limit f p h e = rw e at (streams_within n limit f p h)

-- where an accepted stream ends
pub one_end : (limit : ℕ) (f : List ℕ) (p : ℕ) {q : ℕ} → one_stream limit f p ≡ accepted q → q ≡ p + 4 + length_at f p
one_end limit f p {q} e = go (leb (p + 4) (length f)) refl (leb (length_at f p) limit) refl (leb (p + 4 + length_at f p) (length f)) refl
  where
    go : (a : Bool) → leb (p + 4) (length f) ≡ a → (b : Bool) → leb (length_at f p) limit ≡ b → (d : Bool) → leb (p + 4 + length_at f p) (length f) ≡ d → q ≡ p + 4 + length_at f p
    go false x b y d z = absurd (never (sym (one_cut limit f p (leb-false _ _ x)) ∙ e))
    go true x false y d z = absurd (never (sym (one_long limit f p (leb-true _ _ x) (leb-false _ _ y)) ∙ e))
    go true x true y false z = absurd (never (sym (one_short limit f p (leb-true _ _ x) (leb-true _ _ y) (leb-false _ _ z)) ∙ e))
    go true x true y true z = same (sym e ∙ one_whole limit f p (leb-true _ _ x) (leb-true _ _ y) (leb-true _ _ z))
