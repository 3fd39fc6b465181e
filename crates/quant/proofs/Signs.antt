-- Laws of magnitudes and signs that others cite, passed on.
pub use Rattle.quant.proofs.one.Signs.{neg_small}
