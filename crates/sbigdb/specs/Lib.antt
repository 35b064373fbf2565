-- In reading order.
-- The command as its parser reads it.
pub mod Usage
-- The limits of its numbers.
pub mod Limits
-- What its words name.
pub mod Reads
-- Where what a row of a bench arms strikes in its script.
pub mod Strikes
-- Where a session begins.
pub mod Begins
-- Payload files as lines of a script.
pub mod Tellings
-- A talk over a debugged board: its parts.
pub mod Talks
-- The stop reply.
pub mod Stops
-- Texts.
pub mod Texts
-- What is replied.
pub mod Replies
-- Which harts a `vCont` moves.
pub mod Resumes
-- How the lists and the talk change.
pub mod Kept
-- How the history changes.
pub mod Moved
-- A whole answer.
pub mod Answers
-- What is heard in an input.
pub mod Hearings
-- What is sent for it.
pub mod Responses
