-- What a client sends.
pub mod Sending
-- What is answered.
pub mod Coming
