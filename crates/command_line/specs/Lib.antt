-- In reading order.
-- Why a command line asks for no work.
pub mod Kinds
-- The command of a program.
pub mod Programs
-- What its parser makes of words.
pub mod Parses
-- An option without a value.
pub mod Flags
-- Options with a value, and those of the payload files.
pub mod Options
-- Why a program ends with a fault.
pub mod Faults
-- A writer that knows whether its reader is gone.
pub mod Pipes
-- The fault of what was done over files.
pub mod Told
