-- Laws of tables of views, over the definitions.
use mathlib.Core.Path.{◌≡◌, refl, sym, ap, ap₂, ◌∙◌}
use mathlib.Core.List.{List, [], ◌∷◌, ◌++◌}
use Prim.Native.Nat.{ℕ, zero, suc, ◌+◌, ◌-◌, ◌*◌, ◌≤◌, ◌<◌}
use native.Mathlib.Omega.{arith}
use native.Mathlib.Numerals.{add-one}
use lib.ListN.{length, take, drop, replicate, length-append, take-append-drop}
use Rattle.std.proofs.lemmas.List.{replicate-append-replicate}
use lib.Seq.{drop-drop, length-take-le}
use Rattle.ask.specs.Ask.{Answer, refused, accepted, and_then}
use Rattle.ask.specs.Numbers.{no_turn}
use Rattle.bits.specs.Lay.{lay}
use Rattle.bits.proofs.LayLaw.{lay_none, lay_lay, lay_drop}
use Rattle.parser.specs.streams.Streams.{length_at, one_stream, streams}
use Rattle.parser.proofs.streams.Laws.{one_end}
use Rattle.parser.specs.Frame.{View, nth_stream}
use Rattle.parser.proofs.Laws.{nth_yes}
use Rattle.views.specs.walk.Table.{numbers_of, views_of}

-- ---- views
pub two_numbers : (a : Answer View) → length (numbers_of a) ≡ 2
two_numbers (refused n) = refl
two_numbers (accepted v) = refl

pub views_length : (view : ℕ → Answer View) (n : ℕ) → length (views_of view n) ≡ 2 * n
unfolding views_of
views_length view zero = refl
views_length view (suc n) =
    omega (arith, length-append (views_of view n) (numbers_of (view n)), views_length view n, two_numbers (view n))

pub views_same : (u v : ℕ → Answer View) (n : ℕ) → ((i : ℕ) → i < n → u i ≡ v i) → views_of u n ≡ views_of v n
unfolding views_of
views_same u v zero h = refl
views_same u v (suc n) h =
    ap₂ (λ (a b : List ℕ). a ++ b) (views_same u v n (λ i k. h i (omega arith))) (ap numbers_of (h n (omega arith)))

-- a view more
pub one_more : (l : List ℕ) (i : ℕ) (view : ℕ → Answer View) (k : ℕ) {x y xs : List ℕ} {j : ℕ} → i ≤ length l → j ≡ i + 2 * k → numbers_of (view k) ≡ xs
    → x ≡ lay l i (views_of view k) → y ≡ lay x j xs → y ≡ lay l i (views_of view (k + 1))
unfolding views_of
one_more l i view k {xs = xs} h p q e f =
    let n = views_length view k in
    let m : i + 2 * k ≡ i + length (views_of view k) = omega arith in
    f ∙ ap₂ (λ (z : List ℕ) (j : ℕ). lay z j xs) e (p ∙ m) ∙ lay_lay l i (views_of view k) h xs
    ∙ ap (λ (r : List ℕ). lay l i (views_of view k ++ r)) (sym q)
    ∙ ap (λ (n : ℕ). lay l i (views_of view n)) (sym (add-one k))

pub no_view : (l : List ℕ) (i : ℕ) (view : ℕ → Answer View) → l ≡ lay l i (views_of view 0)
unfolding views_of
no_view l i view = sym (lay_none l i)

-- views of streams that are not there: zeros
no_views_are : (n : ℕ) → views_of (λ _. refused no_turn) n ≡ replicate (2 * n) 0
unfolding views_of
no_views_are zero = refl
no_views_are (suc n) =
    let e : 2 * n + 2 ≡ 2 * suc n = omega arith in
    ap (λ (l : List ℕ). l ++ (0 ∷ 0 ∷ [])) (no_views_are n) ∙ replicate-append-replicate (2 * n) 2 0 ∙ ap (λ (k : ℕ). replicate k 0) e

pub zeros_laid : (l : List ℕ) (i n : ℕ) {x : List ℕ} {m : ℕ} → x ≡ replicate m 0 → m ≡ 2 * n → take i l ++ (x ++ drop (i + 2 * n - i) (drop i l)) ≡ lay l i (views_of (λ _. refused no_turn) n)
unfolding lay
zeros_laid l i n {x} {m} e k =
    let j : i + (i + 2 * n - i) ≡ i + length (views_of (λ _. refused no_turn) n) = omega (arith, views_length (λ _. refused no_turn) n) in
    ap₂ (λ (y r : List ℕ). take i l ++ (y ++ r)) (e ∙ ap (λ (h : ℕ). replicate h 0) k ∙ sym (no_views_are n))
    (drop-drop (i + 2 * n - i) i l ∙ ap (λ (h : ℕ). drop h l) j)

-- ---- numbers copied over what was stored: as if nothing had been stored
pub over : (t : List ℕ) (i : ℕ) (xs ys : List ℕ) → i + length xs ≤ length ys → i ≤ length t → lay (lay t i xs) 0 ys ≡ lay t 0 ys
unfolding lay
over t i xs ys r s =
    let e : length ys ≡ i + length xs + (length ys - (i + length xs)) = omega arith in
    let m : ℕ = length ys - (i + length xs) in
    let z : 0 + length ys ≡ length ys = omega arith in
    let d : drop (length ys) (lay t i xs) ≡ drop (length ys) t =
    ap (λ (n : ℕ). drop n (lay t i xs)) e ∙ sym (drop-drop m (i + length xs) (lay t i xs)) ∙ ap (drop m) (lay_drop t i xs s)
    ∙ drop-drop m (i + length xs) t ∙ ap (λ (n : ℕ). drop n t) (sym e) in
    ap (λ (n : ℕ). ys ++ drop n (lay t i xs)) z ∙ ap (λ (l : List ℕ). ys ++ l) d ∙ ap (λ (n : ℕ). ys ++ drop n t) (sym z)

-- where they are those that stood there, all is as it was
pub as_before : (t h : List ℕ) (m : ℕ) → m ≤ length t → take m h ≡ take m t → lay t 0 (take m h) ≡ t
unfolding lay
as_before t h m r e =
    let z : 0 + length (take m t) ≡ m = omega (arith, length-take-le m t r) in
    ap (lay t 0) e ∙ ap (λ (n : ℕ). take m t ++ drop n t) z ∙ take-append-drop m t

-- ---- the walk, a stream more
walk_suc : (k limit : ℕ) (f : List ℕ) (p : ℕ) {at q : ℕ} → streams k limit f p ≡ accepted at → one_stream limit f at ≡ accepted q → streams (suc k) limit f p ≡ accepted q
unfolding streams
walk_suc zero limit f p {at} {q} e d = step (cc)
  where
    step : p ≡ at → and_then (one_stream limit f p) (λ x. accepted x) ≡ accepted q
    step s = rw (s, d)
walk_suc (suc k) limit f p {at} {q} e d = by (one_stream limit f p) refl (λ s x. walk_suc k limit f s x d)
  where
    by : (a : Answer ℕ) → one_stream limit f p ≡ a → ((s : ℕ) → streams k limit f s ≡ accepted at → streams (suc k) limit f s ≡ accepted q) → and_then (one_stream limit f p) (λ x. streams (suc k) limit f x) ≡ accepted q
    by (refused m) x next = absurd (cc (rw x at e))
    by (accepted s) x next = rw x (next s (rw x at e))

pub walk_on : (k limit : ℕ) (f : List ℕ) (p : ℕ) {at q : ℕ} → streams k limit f p ≡ accepted at → one_stream limit f at ≡ accepted q → streams (k + 1) limit f p ≡ accepted q
walk_on k limit f p e d = ap (λ (n : ℕ). streams n limit f p) (add-one k) ∙ walk_suc k limit f p e d

-- the view of the stream after k others
pub view_there : (k limit : ℕ) (f : List ℕ) (p : ℕ) {at q : ℕ} → streams k limit f p ≡ accepted at → one_stream limit f at ≡ accepted q
    → numbers_of (nth_stream k limit f p) ≡ (at + 4) ∷ (q - (at + 4)) ∷ []
view_there k limit f p {at} {q} e d =
    let s : length_at f at ≡ q - (at + 4) = omega (arith, one_end limit f at d) in
    ap numbers_of (nth_yes k limit f p e d) ∙ ap (λ (n : ℕ). (at + 4) ∷ n ∷ []) s
