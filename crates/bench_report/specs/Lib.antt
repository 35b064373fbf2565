-- In reading order.
-- The bench as a model: disk, board, payloads, fault state.
pub mod Bench
-- What a line has the bench do.
pub mod Deeds
-- What a line says, and the bench after one thing that happened.
pub mod Happens
-- A durable command: its receipt, or the number with which it is refused.
pub mod Commands
-- Turns and calls of harts.
pub mod Turns
-- A format, and a power-on.
pub mod PowerOns
-- What a line shows of memory and harts, and what it arms.
pub mod Looks
pub mod Armings
-- Deeds that ask nothing of the disk and of no hart.
pub mod Asides
-- Gate and records of its disk, by the commands that it keeps.
pub mod Sides
-- What a line that examines the disk may answer.
pub mod Examined
-- What each line of a script may answer, and the bench after it; whole runs.
pub mod Steps
-- The reports of a script.
pub mod Reports
-- A report that shows by its lines that memory was never refused and the disk never failed.
pub mod FailureFree
-- Which of some commands in a row took effect.
pub mod Taken
-- The prefix law, in the words of the report alone.
pub mod Prefix
-- Without failures: each power-on finds what all acknowledged commands make.
pub mod AllFound
-- What of both a whole report keeps.
pub mod Laws
-- A power-on at any point of a run, and the board that goes on with an image.
pub mod Resumes
-- What the layers below say of a disk in memory and of a board over it.
pub mod Views
-- How the code's disk and board stand for the bench of the model.
pub mod Agree
-- Turns of a hart, as the relation of a line has them.
pub mod Rows
-- How a bench that is run line by line stands for the bench of the model.
pub mod Lives
-- What a line does and tells that is run as far as no armed cut strikes.
pub mod Uncut
