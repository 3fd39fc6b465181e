-- A walk that stores the views of the streams it passes.
use mathlib.Core.Path.{◌≡◌, refl, sym, ap, ◌∙◌}
use mathlib.Core.Bool.{Bool, true, false}
use mathlib.Core.List.{List, [], ◌∷◌}
use Prim.Native.Nat.{ℕ, ◌+◌, ◌-◌, ◌*◌, ◌≤◌, ◌<◌}
use native.Mathlib.Omega.{arith}
use lib.Dec.{leb}
use lib.ListN.{length, take}
use lib.Seq.{length-take-le}
use borrow.Author.Tests.{leb-true, leb-false}
use Rattle.ask.specs.Limits.{ac_read_max}
use Rattle.ask.specs.Ask.{Answer, refused, accepted}
use Rattle.bits.specs.Lay.{lay}
use Rattle.bits.proofs.LayLaw.{lay_length}
use Rattle.parser.specs.streams.Streams.{length_at, one_stream, streams}
use Rattle.parser.proofs.streams.Laws.{one_cut, one_long, one_inside, one_end, next_turn_lem, next_stop, walked, walk_start, never}
use Rattle.parser.specs.Frame.{View, nth_stream}
use Rattle.views.specs.walk.Table.{views_of}
use Rattle.views.specs.walk.Walk.{walk_left, Walks}
use Rattle.views.proofs.walk.Laws.{views_length, one_more, no_view, over, walk_on, view_there}

-- an accepted stream is within its limit
pub one_within : (limit : ℕ) (f : List ℕ) (p : ℕ) {q : ℕ} → one_stream limit f p ≡ accepted q → q - (p + 4) ≤ limit
one_within limit f p {q} e = go (leb (p + 4) (length f)) refl (leb (length_at f p) limit) refl
  where
    go : (a : Bool) → leb (p + 4) (length f) ≡ a → (b : Bool) → leb (length_at f p) limit ≡ b → q - (p + 4) ≤ limit
    go false x b y = absurd (never (sym (one_cut limit f p (leb-false _ _ x)) ∙ e))
    go true x false y = absurd (never (sym (one_long limit f p (leb-true _ _ x) (leb-false _ _ y)) ∙ e))
    go true x true y = omega (arith, one_end limit f p e, leb-true (length_at f p) limit y)

-- after k of the n streams, at `at`: the table as it is then
pub record Walking (f : List ℕ) (n limit p from : ℕ) (table t : List ℕ) (at k : ℕ) : Type 0 where
  pub turn : k ≤ n
  pub inside : at ≤ length f
  pub small : at ≤ 5 + (from + k) * (ac_read_max + 4)
  pub so_far : streams k limit f p ≡ accepted at
  pub to_come : streams n limit f p ≡ streams (n - k) limit f at
  pub room : length t ≡ length table
  pub stored : t ≡ lay table (2 * from) (views_of (λ i. nth_stream i limit f p) k)

module _ (f : List ℕ) (n limit p from : ℕ) (table held : List ℕ) (c : Walks f n limit p from table held) where
  pub begins : Walking f n limit p from table table p 0
  unfolding streams
  begins =
      record {
        turn = omega arith;
        inside = c.inside;
        small = omega (arith, c.small);
        so_far = refl;
        to_come = walk_start n limit f p;
        room = refl;
        stored = no_view table (2 * from) (λ i. nth_stream i limit f p);
      }

  module _ {t : List ℕ} {at k : ℕ} (w : Walking f n limit p from table t at k) where
    pub goes_on_lem : {q i : ℕ} {t' : List ℕ} → k < n → i ≡ 2 * (from + k) → one_stream limit f at ≡ accepted q → t' ≡ lay t i ((at + 4) ∷ (q - (at + 4)) ∷ [])
        → Walking f n limit p from table t' q (k + 1)
    goes_on_lem {q} {i} {t'} less here e g =
        let v : ℕ → Answer View = λ i. nth_stream i limit f p in
        let s : t' ≡ lay table (2 * from) (views_of v (k + 1)) = one_more table (2 * from) v k (omega (arith, c.room)) (omega arith) (view_there k limit f p w.so_far e) w.stored g in
        record {
          turn = omega arith;
          inside = one_inside limit f at q e;
          small = omega (arith, w.small, c.short, one_within limit f at e, one_end limit f at e);
          so_far = walk_on k limit f p w.so_far e;
          to_come = next_turn_lem n limit f p k at less w.to_come e;
          room = ap length s ∙ lay_length table (2 * from) (views_of v (k + 1)) (omega (arith, c.room, views_length v (k + 1)));
          stored = s;
        }

    pub stops : {m : ℕ} → k < n → one_stream limit f at ≡ refused m → streams n limit f p ≡ refused m
    stops less e = next_stop n limit f p k at less w.to_come e

    pub undone : {t' : List ℕ} → k < n → t' ≡ lay t 0 (take (2 * (from + n)) held) → t' ≡ lay table 0 (take (2 * (from + n)) held)
    undone less g =
        let v : ℕ → Answer View = λ i. nth_stream i limit f p in
        g ∙ ap (λ (l : List ℕ). lay l 0 (take (2 * (from + n)) held)) w.stored
        ∙ over table (2 * from) (views_of v k) (take (2 * (from + n)) held)
        (omega (arith, views_length v k, length-take-le (2 * (from + n)) held c.holds))
        (omega (arith, c.room))

    pub ends : n ≤ k → streams n limit f p ≡ accepted at
    ends done = walked n limit f p k at done w.to_come

    pub stores : n ≤ k → t ≡ walk_left (streams n limit f p) table held from n (views_of (λ i. nth_stream i limit f p) n)
    stores done =
        let all : k ≡ n = omega (arith, w.turn) in
        rw (ends done) (w.stored ∙ ap (λ (m : ℕ). lay table (2 * from) (views_of (λ i. nth_stream i limit f p) m)) all)
