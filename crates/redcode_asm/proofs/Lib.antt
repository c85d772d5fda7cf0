pub mod Rows
pub mod Bounds
pub mod Fitting
pub mod LoadLemmas
pub mod AssemblyLemmas
pub mod Shown
pub mod RoundTrip
pub mod Limits
