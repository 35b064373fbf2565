-- In reading order.
-- Turns that are dealt to harts, and the orders that they make.
pub mod Deals
pub mod Orders
-- From what a schedule is drawn.
pub mod Generators
-- A schedule that is shrunk.
pub mod Shrunk
-- What is told of two lines that differ.
pub mod Told
-- A line that ran, against the script's own run.
pub mod Compared
pub mod RunSoFar
pub mod Numbers
pub mod Schedules
-- What the runs stand on, and what several threads write of them.
pub mod Drawable
pub mod Drawn
