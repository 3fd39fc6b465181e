-- Laws of the table of all views, over the definitions.
use mathlib.Core.Path.{◌≡◌, refl, sym, ap, ap₂, ◌∙◌}
use mathlib.Core.Bool.{true, false}
use mathlib.Core.List.{List, ◌++◌}
use Prim.Native.Nat.{ℕ, zero, suc, ◌+◌, ◌*◌, ◌≤◌, ◌<◌}
use native.Mathlib.Omega.{arith}
use lib.ListN.{length, take, drop}
use lib.Seq.{length-take-le, take-append-le, take-take}
use Rattle.ask.specs.Ask.{Answer, refused, accepted, first_no}
use Rattle.ask.specs.Limits.{width_max, height_max, ac_read_max, slices_max}
use Rattle.ask.specs.Numbers.{no_turn}
use Rattle.bits.specs.Lay.{lay}
use Rattle.bits.proofs.LayLaw.{lay_length, lay_lay}
use Rattle.layout.specs.Geometry.{slice_count, max_dc_len, max_ac_len}
use Rattle.parser.specs.streams.Streams.{one_stream, streams}
use Rattle.parser.proofs.streams.Laws.{one_end}
use Rattle.parser.specs.head.Header.{format_at, header_length, header_questions, LegalFrame}
use Rattle.parser.proofs.head.Laws.{begins_inside, format_small}
use Rattle.parser.specs.Frame.{dc_streams, parse_of, View, nth_stream, kind_view, view_of}
use Rattle.parser.proofs.Laws.{dc_inside, dc_no, dc_only, ac_no, ac_too, view_yes, view_unwanted}
use Rattle.views.specs.walk.Table.{views_of}
use Rattle.views.specs.walk.Walk.{walk_left, Walks}
use Rattle.views.proofs.walk.Laws.{views_length, views_same, over, as_before}
use Rattle.views.proofs.walk.Walk.{one_within}
use Rattle.views.specs.both.Table.{all_views, table_left}
use Rattle.views.specs.both.Views.{TableHeld}

-- ---- where the streams end at most
pub streams_short : (n limit : ℕ) (f : List ℕ) (p : ℕ) {q : ℕ} → limit ≤ ac_read_max → streams n limit f p ≡ accepted q → q ≤ p + n * (ac_read_max + 4)
unfolding streams
streams_short zero limit f p {q} h e = let g : p ≡ q = cc in omega arith
streams_short (suc n) limit f p {q} h e = by (one_stream limit f p) refl (λ s x. streams_short n limit f s h x)
  where
    by : (a : Answer ℕ) → one_stream limit f p ≡ a → ((s : ℕ) → streams n limit f s ≡ accepted q → q ≤ s + n * (ac_read_max + 4)) → q ≤ p + suc n * (ac_read_max + 4)
    by (refused m) x next = absurd (cc (rw x at e))
    by (accepted s) x next = omega (arith, next s (rw x at e), one_end limit f p x, one_within limit f p x)

-- ---- small numbers
pub dc_short : (w : ℕ) {limit : ℕ} → limit ≡ max_dc_len w → w ≤ width_max → limit ≤ ac_read_max
dc_short w e h = omega arith

pub ac_short : (w : ℕ) {limit : ℕ} → limit ≡ max_ac_len w → w ≤ width_max → limit ≤ ac_read_max
ac_short w e h = omega arith

pub few : (h : ℕ) {slices : ℕ} → slices ≡ slice_count h → h ≤ height_max → slices ≤ slices_max
few h e k = omega arith

-- what the walks ask
module _ (w h : ℕ) (f table held : List ℕ) (ok : LegalFrame w h f) {slices : ℕ} (n : slices ≡ slice_count h) (r : 4 * slice_count h ≤ length table) (s : 4 * slice_count h ≤ length held) where
  pub dc_walks : {limit at : ℕ} → limit ≡ max_dc_len w → at ≡ format_at f → Walks f slices limit (at + 3) 0 table held
  dc_walks {limit} l a =
      let m = few h n ok.high in
      record {
        inside = begins_inside f a ok.five;
        short = dc_short w l ok.wide;
        small = omega (arith, format_small f);
        slices = omega arith;
        room = omega arith;
        holds = omega arith;
      }

  pub ac_walks : {limit q : ℕ} → limit ≡ max_ac_len w → dc_streams w h f ≡ accepted q → Walks f slices limit q slices table held
  ac_walks {limit} l d =
      let m = few h n ok.high in
      let x = streams_short (slice_count h) (max_dc_len w) f (header_length f) (dc_short w refl ok.wide) d in
      record {
        inside = dc_inside w h f ok.five d;
        short = ac_short w l ok.wide;
        small = omega (arith, format_small f);
        slices = omega arith;
        room = omega arith;
        holds = omega arith;
      }

-- the code's numbers are the definitions'
module _ (w h : ℕ) (f table held t : List ℕ) {slices limit : ℕ} (n : slices ≡ slice_count h) where
  pub dc_left : {at : ℕ} → limit ≡ max_dc_len w → at ≡ format_at f → t ≡ walk_left (streams slices limit f (at + 3)) table held 0 slices (views_of (λ i. nth_stream i limit f (at + 3)) slices)
      → t ≡ walk_left (dc_streams w h f) table held 0 (slice_count h) (views_of (λ i. nth_stream i (max_dc_len w) f (header_length f)) (slice_count h))
  dc_left l a e = rw (n, l, a) at e

  pub ac_left : (q : ℕ) → limit ≡ max_ac_len w → t ≡ walk_left (streams slices limit f q) table held slices slices (views_of (λ i. nth_stream i limit f q) slices)
      → t ≡ walk_left (streams (slice_count h) (max_ac_len w) f q) table held (slice_count h) (slice_count h) (views_of (λ i. nth_stream i (max_ac_len w) f q) (slice_count h))
  ac_left q l e = rw (n, l) at e

pub none_left : (h : ℕ) (t : List ℕ) {slices : ℕ} {x : List ℕ} → slices ≡ slice_count h → x ≡ lay t (2 * slices) (views_of (λ _. refused no_turn) slices) → x ≡ lay t (2 * slice_count h) (views_of (λ _. refused no_turn) (slice_count h))
none_left h t n e = rw n at e

-- numbers held by copying them
pub holding : (h : ℕ) (table place : List ℕ) {n : ℕ} {held : List ℕ} → 4 * slice_count h ≤ n → n ≤ length place → n ≤ length table → held ≡ lay place 0 (take n table) → TableHeld h table held
unfolding lay
holding h table place {n} {held} r s u e =
    let l : length (take n table) ≡ n = length-take-le n table u in
    let k : length held ≡ length place = ap length e ∙ lay_length place 0 (take n table) (omega arith) in
    record {
      long = omega arith;
      same = ap (take (4 * slice_count h)) e ∙ take-append-le (4 * slice_count h) (take n table) (drop (0 + length (take n table)) place) (omega arith)
          ∙ take-take (4 * slice_count h) n table r;
    }

-- ---- what the walks leave
module _ (w h : ℕ) (f : List ℕ) (yes : first_no (header_questions w h f) ≡ 0) (table held : List ℕ) (r : 4 * slice_count h ≤ length table) (kept : TableHeld h table held) where
  -- a part of what is held, put back
  put_back : (m : ℕ) → m ≤ 4 * slice_count h → lay table 0 (take m held) ≡ table
  put_back m k =
      as_before table held m (omega arith)
      (sym (take-take m (4 * slice_count h) held k) ∙ ap (take m) kept.same ∙ take-take m (4 * slice_count h) table k)

  pub no_dc : (views : List ℕ) {m : ℕ} {t : List ℕ} → dc_streams w h f ≡ refused m → t ≡ walk_left (dc_streams w h f) table held 0 (slice_count h) views → t ≡ table_left (parse_of w h f) table (all_views w h f)
  no_dc views d e = rw (dc_no w h f yes d) (rw d at e ∙ put_back (2 * (0 + slice_count h)) (omega arith))

  module _ {q : ℕ} (d : dc_streams w h f ≡ accepted q) {t : List ℕ} (e : t ≡ walk_left (dc_streams w h f) table held 0 (slice_count h) (views_of (λ i. nth_stream i (max_dc_len w) f (header_length f)) (slice_count h))) where
    dc_there : t ≡ lay table 0 (views_of (λ i. nth_stream i (max_dc_len w) f (header_length f)) (slice_count h))
    dc_there = rw d at e

    pub no_ac : (views : List ℕ) {m : ℕ} {x : List ℕ} → q < length f → streams (slice_count h) (max_ac_len w) f q ≡ refused m
        → x ≡ walk_left (streams (slice_count h) (max_ac_len w) f q) t held (slice_count h) (slice_count h) views → x ≡ table_left (parse_of w h f) table (all_views w h f)
    no_ac views l a k =
        let v : ℕ → Answer View = λ i. nth_stream i (max_dc_len w) f (header_length f) in
        let n : ℕ = 2 * (slice_count h + slice_count h) in
        rw (ac_no w h f yes d l a)
        (rw a at k ∙ ap (λ (t : List ℕ). lay t 0 (take n held)) dc_there
        ∙ over table 0 (views_of v (slice_count h)) (take n held) (omega (arith, views_length v (slice_count h), length-take-le n held (omega (arith, kept.long)))) (omega arith)
        ∙ put_back n (omega arith))

    joined : (ac : ℕ → Answer View) {x : List ℕ} → x ≡ lay t (2 * slice_count h) (views_of ac (slice_count h))
        → ((i : ℕ) → i < slice_count h → view_of w h f false i ≡ nth_stream i (max_dc_len w) f (header_length f)) → ((i : ℕ) → i < slice_count h → view_of w h f true i ≡ ac i)
        → x ≡ lay table 0 (all_views w h f)
    unfolding all_views
    joined ac k a b =
        let v : ℕ → Answer View = λ i. nth_stream i (max_dc_len w) f (header_length f) in
        let j : 2 * slice_count h ≡ 0 + length (views_of v (slice_count h)) = omega (arith, views_length v (slice_count h)) in
        k ∙ ap₂ (λ (l : List ℕ) (i : ℕ). lay l i (views_of ac (slice_count h))) dc_there j
        ∙ lay_lay table 0 (views_of v (slice_count h)) (omega arith) (views_of ac (slice_count h))
        ∙ ap₂ (λ (c d : List ℕ). lay table 0 (c ++ d)) (sym (views_same (view_of w h f false) v (slice_count h) a)) (sym (views_same (view_of w h f true) ac (slice_count h) b))

    pub only_dc_lem : {x : List ℕ} → length f ≤ q → x ≡ lay t (2 * slice_count h) (views_of (λ _. refused no_turn) (slice_count h)) → x ≡ table_left (parse_of w h f) table (all_views w h f)
    only_dc_lem l k =
        let p = dc_only w h f yes d l in
        rw p (joined (λ _. refused no_turn) k (λ i b. view_yes w h f false i p b refl) (λ i b. view_unwanted w h f true i p b refl))

    pub both : {x : List ℕ} {p : ℕ} → q < length f → streams (slice_count h) (max_ac_len w) f q ≡ accepted p
        → x ≡ walk_left (streams (slice_count h) (max_ac_len w) f q) t held (slice_count h) (slice_count h) (views_of (λ i. nth_stream i (max_ac_len w) f q) (slice_count h)) → x ≡ table_left (parse_of w h f) table (all_views w h f)
    both l a k =
        let p = ac_too w h f yes d l a in
        rw p (joined (λ i. nth_stream i (max_ac_len w) f q) (rw a at k) (λ i b. view_yes w h f false i p b refl) (λ i b. view_yes w h f true i p b refl ∙ found i))
      where
        found : (i : ℕ) → kind_view true w h f i ≡ nth_stream i (max_ac_len w) f q
        found i = rw d
