-- Rows on which the first blocks of a plane are painted. Document 01, 'Plane and slice'.
use Rattle.std.specs.Prelude.{Bool, ◌&&◌, cond, List, [], map, ℕ, ◌*◌, ltb, get_or}
use Rattle.paint.specs.Paint.{over}
use Rattle.calls.specs.Arguments.{Depth, Plane}
use Rattle.calls.specs.ReadPlane.{BlockRead}
use Rattle.slice.specs.Plane.{block_at, within_block, block_samples}

-- the sample at i once the first m blocks are painted, `sample` by block and place in it: that of its block, or what stood there
abbrev pub painted_at : ℕ → (ℕ → ℕ → ℕ) → ℕ → ℕ → ℕ → ℕ
painted_at stride sample m i old = cond (ltb i (16 * stride) && ltb (block_at stride i) m) (sample (block_at stride i) (within_block stride i)) old

-- "Blocks go left to right, upper eight rows first": the rows with the first m blocks painted
unfoldable pub first_blocks : ℕ → (ℕ → ℕ → ℕ) → ℕ → List ℕ → List ℕ
first_blocks stride sample m rows = over (painted_at stride sample m) 0 rows

-- sample x of block n among the blocks read
abbrev pub sample_in : Depth → ℕ → ℕ → List BlockRead → ℕ → ℕ → ℕ
sample_in depth preset place blocks n x = get_or (get_or (map (block_samples depth preset place) blocks) n []) x 0

-- the plane's rows with the first m of its blocks painted
abbrev pub painted_rows : Depth → ℕ → Plane → List BlockRead → ℕ → List ℕ
painted_rows depth preset p blocks m = first_blocks p.stride (sample_in depth preset p.place blocks) m p.samples
