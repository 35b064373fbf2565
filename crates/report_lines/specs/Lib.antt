-- In reading order.
-- The exact text of each line of a report, of an answer, and of whole reports.
pub mod Texts
-- What was written and counted so far.
pub mod Counts
-- In reading order.
-- The text of an inspection.
pub mod InspectionTexts
-- What any content is to an open and to an examiner.
pub mod Contents
-- What stands on a disk: what an examiner says, and what an open finds.
pub mod Sights
-- The memory of the image that stands on a disk.
pub mod Memories
