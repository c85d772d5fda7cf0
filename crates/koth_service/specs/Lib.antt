-- What happens on sockets, and what each call of them adds.
pub mod Noted
-- What a browser is answered.
pub mod Answering
-- How one peer, and one browser, stands in a service.
pub mod Session
-- What all peers of a service share: the time, whose turn it is, and the shares of the submission and of browsers.
pub mod Rounds
-- What happens in a service: on the sockets, and the commands and answers to browsers in between. And how it stands
-- then.
pub mod Moment
-- What may happen in a service.
pub mod History
-- What the device holds during a service, in words of the sources that earn its hill, and what a service is in the
-- life of its device.
pub mod Held
-- How the sessions of peers, the connections of browsers and the store stand by a history.
pub mod Standing
-- How a service begins, how its hill is opened again, and what it has done by its end.
pub mod Services
-- Of private contracts alone: a peer that may be disconnected for another.
pub mod Places
-- What a host writes of what happens.
pub mod Told
-- Of private contracts alone: connections of browsers by their numbers, and how they go on.
pub mod Connections
