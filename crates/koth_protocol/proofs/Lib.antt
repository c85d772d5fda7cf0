mod Cuts
mod MatchLines
mod ProtocolRows
mod Readings
mod RowLines
pub use Rattle.koth_text.proofs.KindNames
