pub mod Bounds
pub mod LineLemmas
pub mod TokenLemmas
pub mod OperandLemmas
pub mod InstrLemmas
