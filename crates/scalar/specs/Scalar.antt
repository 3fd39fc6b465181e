-- What one lane of each operation means: the definitions of the modules of scalar, passed on.
unfoldable pub use Rattle.scalar.specs.cuts.Cuts.{sat16, wrap16, wrap32, packus_of}
pub use Rattle.scalar.specs.cuts.Cuts.{mod_z}
unfoldable pub use Rattle.scalar.specs.sums.Sums.{adds_of, subs_of, add_of}
unfoldable pub use Rattle.scalar.specs.products.Products.{mulhi_of, mulhiu_of, mullo_of}
unfoldable pub use Rattle.scalar.specs.shifts.Bits.{sra_of, sll_of, or_of}
unfoldable pub use Rattle.scalar.specs.signs.Signs.{abs_of, sign_of, min_of, max_of}
unfoldable pub use Rattle.scalar.specs.wide.Wide.{add32_of, sub32_of, madd_of}
