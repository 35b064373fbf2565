-- The happenings of the code as events.
use Rattle.model_board.specs.Events.{Event, Turn, Refused, Wake, Cut, PowerOn}
use Rattle.board_space.specs.declared.happenings.Happening.{Happening}
use Rattle.board_space.specs.declared.happenings.Happening.TheVariants as happenings

abbrev pub event_of : Happening → Event
event_of (happenings.Turn hart) = Turn hart
event_of (happenings.Refused hart down) = Refused hart down
event_of happenings.Wake = Wake
event_of happenings.Cut = Cut
event_of happenings.PowerOn = PowerOn
