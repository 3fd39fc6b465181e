pub mod Samples
pub mod Witness
pub mod RustAnswers
pub mod WitnessTen
