-- What sample a number of the inverse transform becomes, and which sample fills a flat block.
use Rattle.std.specs.Prelude.{Bool, true, false, ℕ, ℤ, pos}
use Rattle.scalar.specs.Scalar.{add_of, sra_of, packus_of}
unfoldable pub use Rattle.sample.specs.Numbers.{ten_of}
pub use Rattle.sample.specs.Numbers.{sample_of}

-- the number of a block without AC symbols: its DC plus 4, shifted right by 3, plus the level (16-bit sums that wrap)
abbrev pub flat_number : ℤ → ℤ → ℤ
flat_number level dc = add_of (sra_of (add_of dc (pos 4)) 3) level

-- its sample: the number clamped
unfoldable pub flat_sample : ℤ → ℤ → ℕ
flat_sample level dc = packus_of (flat_number level dc)

-- the same at each depth (true: 10-bit)
abbrev pub flat_sample_of : Bool → ℤ → ℤ → ℕ
flat_sample_of false level dc = flat_sample level dc
flat_sample_of true level dc = ten_of (flat_number level dc)
