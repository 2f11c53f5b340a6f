pub mod Corrections
pub mod Alignments
