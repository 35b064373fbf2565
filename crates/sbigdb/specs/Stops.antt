-- The stop reply. Source: "Debugging with GDB", appendix "GDB Remote Serial Protocol", "Stop Reply Packets".
use Rattle.std.specs.Prelude.{ℕ, ◌+◌, Bool, false, List, [], ◌∷◌, ◌++◌, if◌then◌else◌}
use Rattle.std.specs.Fmt.{digits}
use Rattle.debug_session.specs.Packets.{digit_of}
use Rattle.debug_session.specs.declared.halts.HaltReason.{HaltReason}
use Rattle.debug_session.specs.declared.halts.HaltReason.TheVariants.{Stepped, Point, Watched, Ended, Off, Idle, Spent, AtLine, Interrupted, Begin}
use Rattle.debug_session.specs.declared.halts.Stop.{Stop}
use Rattle.debug_session.specs.declared.stops.Watchpoint.{Watchpoint}
use Rattle.debug_session.specs.declared.stops.WatchKind.{WatchKind}
use Rattle.debug_session.specs.declared.stops.WatchKind.TheVariants as kinds
use lib.Chars.{codes}

-- GDB's number of the signal: 2 SIGINT, 5 SIGTRAP, 32 SIGPWR, 0 none
abbrev pub signal_text : HaltReason → List ℕ
signal_text Stepped = codes "05"
signal_text Point = codes "05"
signal_text (Watched w) = codes "05"
signal_text Begin = codes "05"
signal_text Ended = codes "20"
signal_text Off = codes "20"
signal_text Idle = codes "00"
signal_text Spent = codes "00"
signal_text AtLine = codes "00"
signal_text Interrupted = codes "02"

-- a watchpoint by its kind and its first address
abbrev pub watch_word : WatchKind → List ℕ
watch_word kinds.Changes = codes "watch"
watch_word kinds.Reads = codes "rwatch"
watch_word kinds.Accesses = codes "awatch"

abbrev pub watch_text : Watchpoint → List ℕ
watch_text w = watch_word w.kind ++ (codes ":" ++ (digits 16 false w.address ++ codes ";"))

-- the reason, where GDB has a word for it, and takes `swbreak` where that is one
abbrev pub reason_text : HaltReason → Bool → List ℕ
reason_text Point takes = if takes then codes "swbreak:;" else []
reason_text (Watched w) takes = watch_text w
reason_text Begin takes = codes "replaylog:begin;"
reason_text _ takes = []

abbrev pub stop_text : Stop → Bool → List ℕ
stop_text stop takes =
    codes "T" ++ (signal_text stop.halt ++ (codes "thread:" ++ (digit_of (stop.hart + 1) ∷ (codes ";" ++ reason_text stop.halt takes))))
