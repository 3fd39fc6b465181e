-- "Is added back modulo 65,536": wrapping addition of the words of two numbers of 16 bits is their sum, wrapped.
use Rattle.std.proofs.Common.{◌≡◌, ◌+◌, ◌%◌, ℤ, sym, ◌∙◌, ap₂, to_z-of_z, w16, SFits, to_z, of_z}
use mir.Facts.{Fits-of_z}
use Rattle.scalar.specs.Scalar.{add_of}
use Rattle.calls.proofs.Residues.{add_patterns}

pub add_words : (a b : ℤ) → SFits w16 a → SFits w16 b → to_z w16 ((of_z w16 a + of_z w16 b) % 65536) ≡ add_of a b
add_words a b h k = sym (add_patterns (of_z w16 a) (of_z w16 b) (Fits-of_z h).fits (Fits-of_z k).fits) ∙ ap₂ add_of (to_z-of_z h) (to_z-of_z k)
