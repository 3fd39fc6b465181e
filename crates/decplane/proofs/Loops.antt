-- The two loops over blocks.
use mathlib.Core.Path.{◌≡◌, refl, ap, ap₂, ◌∙◌, subst}
use mathlib.Core.Bool.{true}
use mathlib.Core.List.{List, ◌++◌, map}
use Prim.Native.Nat.{ℕ, zero, suc, ◌+◌, ◌-◌, ◌*◌, ◌/◌, ◌^◌, ◌≤◌, ◌<◌}
use native.Mathlib.Nat.{add-mul, one-mul, mul-le-mul_right}
use native.Mathlib.Omega.{arith}
use lib.ListN.{length, get_or, take, drop}
use Rattle.ask.specs.Limits.{stride_max}
use Rattle.bits.specs.Bits.{bytes_for}
use Rattle.sample.proofs.Lists.{samples_length, samples_take, samples_drop, samples_append}
use Rattle.paint.specs.Paint.{store_block, sample_in_block, Corner}
use Rattle.calls.specs.Arguments.{Settings, Plane, plane, PerStream, Buffers}
use Rattle.calls.specs.ReadPlane.{BlockRead}
use Rattle.calls.specs.Grid.{columns_of, blocks_of}
use Rattle.slice.specs.Plane.{block_samples}
use Rattle.planes.proofs.Laws.{corner_fits, part_is, part_long}
use Rattle.blockread.specs.On.{Begun, read_on, good_plane, block_of, Ready, NextBlock}
use Rattle.blockread.specs.declared.Stand.{Stand}
use Rattle.blockread.specs.declared.BlockGot.{BlockGot}
use Rattle.slice.specs.FirstBlocks.{sample_in, painted_rows}
use Rattle.slice.proofs.Painting.{painted_none, painted_length, painted_next, painted_all}
use Rattle.decplane.specs.Storing.{plane_in, blocks_got, PlaneGood, PlaneStored}
use Rattle.decplane.proofs.Going.{Going, going_start, good_next, going_next, block_here, going_over}

-- the blocks that the streams hold for a plane
abbrev got : Settings → Plane → Buffers → PerStream → List BlockRead
got σ p b at = blocks_got (plane_in σ p b at)

-- m blocks of the plane p were read, from these positions on, and painted
pub record Sofar (σ : Settings) (p : Plane) (b : Buffers) (at : PerStream) (m : ℕ) (s : Stand) (rows : List ℕ) : Type 0 where
  pub going : Going σ.shift (blocks_of p.stride) b.dc_bytes b.ac_bytes at.dc at.ac m s
  pub painted : rows ≡ painted_rows σ.depth σ.preset p (got σ p b at) m

-- the blocks in front of the one in block row j and block column k, n in a row
abbrev in_front : ℕ → ℕ → ℕ → ℕ
in_front n j k = j * n + k

abbrev pub Behind : Settings → Plane → Buffers → PerStream → ℕ → ℕ → Stand → List ℕ → Type 0
Behind σ p b at j k s rows = Sofar σ p b at (in_front (columns_of p.stride) j k) s rows

-- the outer loop, from the stand s0 on, and the inner loop, from the stand s0 and the rows rows0 on: whatever positions and rows were given
abbrev pub Rows : Settings → Plane → Buffers → Stand → ℕ → Stand → List ℕ → Type 0
Rows σ p b s0 j s rows = (at : PerStream) → PlaneGood σ p b at → Behind σ p b at 0 0 s0 p.samples → Behind σ p b at j 0 s rows

abbrev pub Row : Settings → ℕ → ℕ → Buffers → ℕ → Stand → List ℕ → ℕ → Stand → List ℕ → Type 0
Row σ place stride b j s0 rows0 k s rows =
    (at : PerStream) (l : List ℕ) → PlaneGood σ (plane place stride l) b at → Behind σ (plane place stride l) b at j 0 s0 rows0
    → Behind σ (plane place stride l) b at j k s rows

below : (n j k : ℕ) → j < 2 → k < n → in_front n j k < 2 * n
below n zero k h l = omega arith
below n (suc zero) k h l = omega arith
below n (suc (suc j)) k h l = absurd (omega arith)

at_row : (n j k : ℕ) → k ≡ n → in_front n j k ≡ in_front n (j + 1) 0
at_row n j k e = omega (arith, add-mul j 1 n, one-mul n)

at_end : (n j : ℕ) → j ≡ 2 → in_front n j 0 ≡ 2 * n
at_end n j e = omega (arith, ap (λ (x : ℕ). x * n) e)

-- samples of any kind: the rows from a corner on, and the rows with others in their place. `lists` is the law of the trait Sample
module _ {A : Type 0} {number : A → ℕ} {samples : List A → List ℕ} (lists : (xs : List A) → samples xs ≡ map number xs) where
  samples_part : (c : ℕ) (rows : List A) → samples (take (length rows - c) (drop c rows)) ≡ take (length (samples rows) - c) (drop c (samples rows))
  samples_part c rows = rw (samples_take lists (length rows - c) (drop c rows), samples_drop lists c rows, samples_length lists rows) refl

  samples_back : (c : ℕ) (rows y : List A) → samples (take c rows ++ (y ++ drop (length rows - c) (drop c rows))) ≡ take c (samples rows) ++ (samples y ++ drop (length (samples rows) - c) (drop c (samples rows)))
  samples_back c rows y =
      samples_append lists (take c rows) (y ++ drop (length rows - c) (drop c rows))
      ∙ ap₂ (λ (l m : List ℕ). l ++ m) (samples_take lists c rows)
      (samples_append lists y (drop (length rows - c) (drop c rows))
      ∙ ap (λ (l : List ℕ). samples y ++ l) (rw (samples_drop lists (length rows - c) (drop c rows), samples_drop lists c rows, samples_length lists rows) refl))

module _ {σ : Settings} {p : Plane} {b : Buffers} {at : PerStream} where
  moved : {m n : ℕ} {s : Stand} {rows : List ℕ} → m ≡ n → Sofar σ p b at m s rows → Sofar σ p b at n s rows
  moved {m} {n} {s} {rows} e i = subst (λ (x : ℕ). Sofar σ p b at x s rows) e i

  pub begun : (s : Stand) → Begun b.dc_bytes at s → Behind σ p b at 0 0 s p.samples
  begun s e =
      moved {m = 0} (omega arith)
      (record {
        going = going_start σ.shift (blocks_of p.stride) b.dc_bytes b.ac_bytes at.dc at.ac s e.ready e.dc_at_lem e.ac_at_lem e.none_pending e.none_before;
        painted = painted_none p.stride (sample_in σ.depth σ.preset p.place (got σ p b at)) p.samples;
      })

  pub as_long : {m : ℕ} {s : Stand} {rows : List ℕ} → Sofar σ p b at m s rows → length rows ≡ length p.samples
  as_long {m} i = ap length i.painted ∙ painted_length p.stride (sample_in σ.depth σ.preset p.place (got σ p b at)) m p.samples

  near : {m : ℕ} {s : Stand} {rows : List ℕ} → m ≤ 1920 → at.dc < 2 ^ 30 → at.ac < 2 ^ 30 → Sofar σ p b at m s rows → (s.dc.pos < 2 ^ 58) × (s.ac < 2 ^ 58)
  near h x y i = (omega (arith, i.going.dc_near), omega (arith, i.going.ac_near))

  -- what reading the next block asks
  pub asks : (j k : ℕ) {s : Stand} {rows : List ℕ} → PlaneGood σ p b at → j < 2 → k < columns_of p.stride → Behind σ p b at j k s rows
      → Ready b.dc_bytes s × (s.dc.pos < 2 ^ 58) × (s.ac < 2 ^ 58) × (σ.shift < 16) × (good_plane (read_on σ.shift 1 b.dc_bytes b.ac_bytes s) ≡ true)
  asks j k {s} o hj hk i =
      let h = below (columns_of p.stride) j k hj hk in
      let n = near (omega (arith, h, o.plane.stride_le)) o.dc_start o.ac_start i in
      (i.going.ready, n.0, n.1, omega (arith, o.settings.shift_le), good_next σ.shift (blocks_of p.stride) b.dc_bytes b.ac_bytes at.dc at.ac (in_front (columns_of p.stride) j k) s o.good h i.going)

  -- its corner, with eight rows after it
  pub inside : (j k : ℕ) {s : Stand} {rows : List ℕ} {c : ℕ} → PlaneGood σ p b at → j < 2 → k < columns_of p.stride → c ≡ 8 * j * p.stride + 8 * k
      → Behind σ p b at j k s rows → c + (7 * p.stride + 8) ≤ length rows
  inside j k o hj hk e i = omega (arith, corner_fits j k p.stride hj hk, o.plane.rows_long, as_long i)

  -- the corner is a small number
  pub corner_small : (j k : ℕ) {c : ℕ} → PlaneGood σ p b at → j < 2 → k < columns_of p.stride → c ≡ 8 * j * p.stride + 8 * k → c < 16 * stride_max
  corner_small j k o hj hk e = omega (arith, corner_fits j k p.stride hj hk, o.plane.stride_le)

  -- what painting it asks of the rows xs from its corner on
  pub room : (j k : ℕ) {s : Stand} {rows : List ℕ} {c : ℕ} {A : Type 0} (xs : List A) → length rows ≡ length xs → PlaneGood σ p b at → j < 2 → k < columns_of p.stride → c ≡ 8 * j * p.stride + 8 * k
      → Behind σ p b at j k s rows → Corner p.stride (length (take (length xs - c) (drop c xs)))
  room j k {s} {rows} {c} xs l o hj hk e i =
      record {
        wide = o.plane.wide;
        legal = o.plane.stride_le;
        room_for_block = rw (part_is xs c) (part_long xs c p.stride (omega (arith, l, inside j k o hj hk e i)));
      }

  -- one block, y in the place of the rows from its corner on
  pub next : (j k : ℕ) {c : ℕ} {s : Stand} (g : BlockGot) (rows : List ℕ) {y : List ℕ} → PlaneGood σ p b at → j < 2 → k < columns_of p.stride
      → NextBlock σ.shift b.dc_bytes b.ac_bytes s g → c ≡ 8 * j * p.stride + 8 * k
      → y ≡ store_block p.stride (sample_in_block (block_samples σ.depth σ.preset p.place (block_of g))) (take (length rows - c) (drop c rows))
      → Behind σ p b at j k s rows → Behind σ p b at j (k + 1) g.next (take c rows ++ (y ++ drop (length rows - c) (drop c rows)))
  next j k {c} {s} g rows {y} o hj hk x ec ey i =
      let n = blocks_of p.stride in
      let m = in_front (columns_of p.stride) j k in
      let h : m < n = below (columns_of p.stride) j k hj hk in
      let e : m + 1 ≡ in_front (columns_of p.stride) j (k + 1) = omega arith in
      moved e
      (record {
        going = going_next σ.shift n b.dc_bytes b.ac_bytes at.dc at.ac m s g o.good h i.going x;
        painted =
            painted_next p.stride j k o.plane.eights hk hj (sample_in σ.depth σ.preset p.place (got σ p b at)) (sample_in_block (block_samples σ.depth σ.preset p.place (block_of g)))
            (λ q l. ap (λ (z : List ℕ). get_or z q 0) (block_here σ.shift n b.dc_bytes b.ac_bytes at.dc at.ac (block_samples σ.depth σ.preset p.place) m s g o.good h i.going x))
            m c p.samples rows y refl ec (omega (arith, corner_fits j k p.stride hj hk, o.plane.rows_long)) i.painted ey;
      })

  -- the same on samples of any kind; `lists` is the law of the trait Sample
  module _ {A : Type 0} {number : A → ℕ} {samples : List A → List ℕ} (lists : (xs : List A) → samples xs ≡ map number xs) where
    pub next_samples : (j k : ℕ) {c : ℕ} {s : Stand} (g : BlockGot) (rows : List A) {y : List A} → PlaneGood σ p b at → j < 2 → k < columns_of p.stride
        → NextBlock σ.shift b.dc_bytes b.ac_bytes s g → c ≡ 8 * j * p.stride + 8 * k
        → samples y ≡ store_block p.stride (sample_in_block (block_samples σ.depth σ.preset p.place (block_of g))) (samples (take (length rows - c) (drop c rows)))
        → Behind σ p b at j k s (samples rows) → Behind σ p b at j (k + 1) g.next (samples (take c rows ++ (y ++ drop (length rows - c) (drop c rows))))
    next_samples j k {c} {s} g rows {y} o hj hk x ec ey i =
        rw (samples_back lists c rows y)
        (next j k g (samples rows) o hj hk x ec
        (ey ∙ ap (λ (l : List ℕ). store_block p.stride (sample_in_block (block_samples σ.depth σ.preset p.place (block_of g))) l) (samples_part lists c rows)) i)

  -- a block row
  pub next_row : (j k : ℕ) {s : Stand} {rows : List ℕ} → k ≡ columns_of p.stride → Behind σ p b at j k s rows → Behind σ p b at (j + 1) 0 s rows
  next_row j k e i = moved (at_row (columns_of p.stride) j k e) i

  -- all of them
  pub ended : (j : ℕ) {s : Stand} {rows : List ℕ} → PlaneGood σ p b at → j ≤ 2 → Behind σ p b at j 0 s rows
      → (s.dc.pos < 2 ^ 58) × (s.ac < 2 ^ 58)
  ended j o h i = near (omega (arith, mul-le-mul_right {m = j} {n = 2} (p.stride / 8) h, o.plane.stride_le)) o.dc_start o.ac_start i

  pub done : (j : ℕ) {s : Stand} {rows : List ℕ} {r : PerStream} → PlaneGood σ p b at → j ≡ 2 → Behind σ p b at j 0 s rows
      → r.dc ≡ bytes_for s.dc.pos → r.ac ≡ bytes_for s.ac → PlaneStored σ p b at r rows
  done j {s} {rows} {r} o e i ed ea =
      let n = blocks_of p.stride in
      let f : Sofar σ p b at n s rows = moved (at_end (columns_of p.stride) j e) i in
      record {
        ends = rw (ed, ea) (going_over σ.shift n b.dc_bytes b.ac_bytes at.dc at.ac n s (omega arith) f.going);
        stored = f.painted ∙ painted_all σ.depth σ.preset p o.plane.eights (got σ p b at);
        dc_near = omega (arith, f.going.dc_near, o.plane.stride_le);
        ac_near = omega (arith, f.going.ac_near, o.plane.stride_le);
      }
