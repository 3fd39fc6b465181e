-- One block painted into the rows from its corner on. Document 01, 'Plane and slice'.
use Rattle.std.specs.Prelude.{◌≡◌, Bool, List, ℕ, ℤ}
use Rattle.tables.specs.Divisor.{divisors_of}
use Rattle.quant.specs.Quantise.{scan_of}
use Rattle.paint.specs.Paint.{store_block, sample_in_block}
use Rattle.calls.specs.Arguments.{Depth, ten}
use Rattle.calls.specs.ReadPlane.{BlockRead}
use Rattle.calls.specs.Grid.{level}
use Rattle.slice.specs.Plane.{block_samples}

-- a block read, by its coefficients in natural order
abbrev pub natural : Bool → List ℤ → BlockRead
natural symbol_read nat = record { symbol_read = symbol_read; coeffs = scan_of nat }

-- "Each block is decoded into the part of the lent rows that begins at its corner": its samples, whatever preset has the divisors q and whatever place the level v
abbrev pub Painted : Depth → ℕ → List ℕ → ℤ → BlockRead → List ℕ → List ℕ → Type 0
Painted depth stride q v b rows rows' =
    (preset place : ℕ) → q ≡ divisors_of preset → v ≡ level depth place → rows' ≡ store_block stride (sample_in_block (block_samples depth preset place b)) rows

-- "A 10-bit block is always transformed": painted the same whether a symbol was read for it or not
abbrev pub PaintedAlways : ℕ → List ℕ → ℤ → List ℤ → List ℕ → List ℕ → Type 0
PaintedAlways stride q v nat rows rows' = (symbol_read : Bool) → Painted ten stride q v (natural symbol_read nat) rows rows'
