-- What is answered of a hill elsewhere.
pub mod Remote
