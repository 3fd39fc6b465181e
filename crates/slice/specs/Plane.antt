-- A plane's coefficients, and the rows made from what was read. Document 01, 'Plane and slice'.
use Rattle.std.specs.Prelude.{Bool, true, false, cond, List, [], ◌∷◌, ◌++◌, map, ℕ, zero, suc, ◌+◌, ◌*◌, ◌/◌, ◌%◌, ℤ, pos, ltb, get_or, replicate}
use Rattle.scalar.specs.Tab.{tab}
pub use Rattle.sample.specs.Numbers.{lane_of}
use Rattle.fdct.specs.Forward.{forward_of}
use Rattle.quant.specs.Quantise.{quantise_of, scan_of, natural_of, dequantise_of}
use Rattle.idct.specs.Inverse.{inverse_of, samples_of}
use Rattle.paint.specs.Paint.{over}
use Rattle.paint.specs.Samples.{flat_sample}
use Rattle.calls.specs.Arguments.{Depth, eight, ten, is_ten, Settings, Plane}
use Rattle.calls.specs.Grid.{columns_of, level}
use Rattle.calls.specs.Streams.{dc_of}
use Rattle.calls.specs.ReadPlane.{BlockRead}

-- where the sample of a row and a column lies
abbrev pub sample_index : ℕ → ℕ → ℕ → ℕ
sample_index stride row column = row * stride + column

abbrev pub sample_at : Plane → ℕ → ℕ → ℕ
sample_at p row column = get_or p.samples (sample_index p.stride row column) 0

-- the block that the sample at i lies in, blocks "left to right, upper eight rows first", and its place among that block's 64
abbrev pub block_at : ℕ → ℕ → ℕ
block_at stride i = i / stride / 8 * columns_of stride + i % stride / 8

abbrev pub within_block : ℕ → ℕ → ℕ
within_block stride i = i / stride % 8 * 8 + i % stride % 8

-- the lanes of the block in block row j and block column k, row by row
unfoldable pub lanes_at : Depth → Plane → ℕ → ℕ → List ℤ
lanes_at depth p j k = tab 64 (λ i. lane_of depth (sample_at p (8 * j + i / 8) (8 * k + i % 8)))

-- the sample at i: that of its block, or after the 16 rows what stood there
abbrev pub sample_from : List (List ℕ) → ℕ → ℕ → ℕ → ℕ
sample_from blocks stride i old = cond (ltb i (16 * stride)) (get_or (get_or blocks (block_at stride i) []) (within_block stride i) 0) old

-- "A plane's coefficients are those after forward transform and quantiser", in scan order: by depth, preset and plane alone
unfoldable pub block_coefficients : Depth → ℕ → Plane → ℕ → ℕ → List ℤ
block_coefficients depth preset p j k = scan_of (quantise_of preset (forward_of (is_ten depth) (level depth p.place) (lanes_at depth p j k)))

-- "Blocks go left to right, upper eight rows first."
unfoldable pub coefficients_at : Depth → ℕ → Plane → List (List ℤ)
coefficients_at depth preset p = tab (columns_of p.stride) (block_coefficients depth preset p 0) ++ tab (columns_of p.stride) (block_coefficients depth preset p 1)

abbrev pub coefficients : Settings → Plane → List (List ℤ)
coefficients σ p = coefficients_at σ.depth σ.preset p

-- the 64 samples of a block by the inverse transform
unfoldable pub transformed : Depth → ℕ → ℕ → BlockRead → List ℕ
transformed depth preset place b =
    samples_of (is_ten depth) (inverse_of (is_ten depth) (level depth place) (dequantise_of (is_ten depth) preset (natural_of b.coeffs)))

unfoldable pub filled_flat : ℕ → BlockRead → List ℕ
filled_flat place b = replicate 64 (flat_sample (level eight place) (dc_of b.coeffs))

-- "An 8-bit block is filled flat when no AC symbol was read for it; otherwise the inverse transform runs. A 10-bit block is always transformed."
unfoldable pub block_samples : Depth → ℕ → ℕ → BlockRead → List ℕ
block_samples eight preset place b = cond b.symbol_read (transformed eight preset place b) (filled_flat place b)
block_samples ten preset place b = transformed ten preset place b

-- "Each block is decoded into the part of the lent rows that begins at its corner; the rest of the rows stays."
unfoldable pub reconstruct_at : Depth → ℕ → Plane → List BlockRead → List ℕ
reconstruct_at depth preset p blocks = over (sample_from (map (block_samples depth preset p.place) blocks) p.stride) 0 p.samples

abbrev pub reconstruct : Settings → Plane → List BlockRead → List ℕ
reconstruct σ p blocks = reconstruct_at σ.depth σ.preset p blocks
