-- The lines of the replies.
pub mod Reply
-- What commands answer, one after another, and the hill that they leave.
pub mod Transcript
-- How a session goes and ends, and what the device holds then: what `session` promises.
pub mod Sessions
-- How it ends if each source is assembled within a number of steps.
pub mod Within
-- What its streams tell of it: what `koth session` promises.
pub mod Spoken
-- What came from a peer, and which command of it is due.
pub mod Inbox
-- What a peer is given to send.
pub mod Outbox
-- One session as a value: what came of it, what was carried out, and what is to be sent.
pub mod Peer
-- The store that judges submissions, and the submission to it that is under way.
pub mod Judge
-- Many sessions on one store: whose turn it is, and what each call leaves as it is.
pub mod Peers
-- Of private contracts alone: how a session over two streams stands between its commands.
pub mod Streams
-- What a session is in the life of its device.
pub mod Lives
