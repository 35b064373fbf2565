-- Running forward ends at the first halt.
use Rattle.std.specs.Prelude.{◌≡◌, ◌⊎◌, ◌+◌, ◌&&◌, ℕ, Bool, true, false, List, [], ◌∷◌, ◌++◌, Option, Some, None, map, bytes_eq, nat_lt, not, if◌then◌else◌}
use Rattle.board_model.specs.Shapes.{Size}
use Rattle.machine.specs.Machine.{Machine}
use Rattle.sbi.specs.declared.words.Word.{Word}
use Rattle.sbi.specs.declared.words.Word.TheVariants as words
use Rattle.sbi_calls.specs.declared.words.Did.{Did}
use Rattle.sbi_calls.specs.declared.words.Did.TheVariants as dids
use Rattle.script_lang.specs.declared.line.Line.{Line}
use Rattle.script_lang.specs.declared.line.Line.TheVariants as lines
use Rattle.debug_session.specs.Pasts.{moments}
use Rattle.bench_report.specs.Bench.{Bench}
use Rattle.bench_report.specs.declared.rows.TurnRow.{TurnRow}
use Rattle.bench_report.specs.declared.rows.TurnRow.TheVariants as rows
use Rattle.bench_report.specs.Rows.{IsWithin, RowMoves, is_off, made_in}
use Rattle.debug_session.specs.declared.timeline.Timeline.{Timeline}
use Rattle.debug_session.specs.Ats.{IsLeft, MadeTurns}
use Rattle.debug_session.specs.Lives.{machine_of, memory_in, pc_in, stands_in}
use Rattle.debug_session.specs.Loads.{LoadsNext}
use Rattle.debug_session.specs.Passes.{machine_left}
use Rattle.debug_session.specs.declared.loads.Load.{Load}
use Rattle.debug_session.specs.declared.halts.HaltReason.{HaltReason}
use Rattle.debug_session.specs.declared.halts.HaltReason.TheVariants as halts
use Rattle.debug_session.specs.declared.stops.SeenBytes.{SeenBytes}
use Rattle.debug_session.specs.declared.stops.Stops.{Stops}
use Rattle.debug_session.specs.declared.stops.Watchpoint.{Watchpoint}
use Rattle.debug_session.specs.declared.stops.WatchKind.{WatchKind}
use Rattle.debug_session.specs.declared.stops.WatchKind.TheVariants as kinds

-- ---- what is watched
abbrev pub bytes_seen : Option (List ℕ) → List ℕ
bytes_seen None = []
bytes_seen (Some bytes) = bytes

abbrev pub seen_by : Option Machine → Watchpoint → List ℕ
seen_by m w = bytes_seen (memory_in w.address w.count m)

-- what a watchpoint of that kind minds
abbrev pub minds_changes : WatchKind → Bool
minds_changes kinds.Changes = true
minds_changes kinds.Reads = false
minds_changes kinds.Accesses = true

abbrev pub minds_reads : WatchKind → Bool
minds_reads kinds.Changes = false
minds_reads kinds.Reads = true
minds_reads kinds.Accesses = true

-- one of its bytes at least is read
abbrev pub is_read : Watchpoint → Option Load → Bool
is_read w None = false
is_read w (Some load) = nat_lt w.address (load.address + load.count) && nat_lt load.address (w.address + w.count)

-- its bytes are as they were, where it minds that; and none of them is read, where it minds that
abbrev pub is_kept : Watchpoint → List ℕ → List ℕ → Bool
is_kept w was now = if minds_changes w.kind then bytes_eq was now else true

abbrev pub is_unread : Watchpoint → Option Load → Bool
is_unread w load = if minds_reads w.kind then not (is_read w load) else true

abbrev pub is_quiet : Option Load → Watchpoint → List ℕ → List ℕ → Bool
is_quiet load w was now = is_kept w was now && is_unread w load

-- the first of these that a turn touches, which reads that
abbrev pub touched_in : Option Machine → Option Machine → Option Load → List Watchpoint → Option Watchpoint
touched_in before now load [] = None
touched_in before now load (w ∷ more) =
    if is_quiet load w (seen_by before w) (seen_by now w) then touched_in before now load more else Some w

-- ---- a turn after which nothing halts
abbrev pub is_dozing : Did → Bool
is_dozing dids.Dozing = true
is_dozing did = false

-- the board dozes, or its life is over
abbrev pub halts_all : Word → Bool
halts_all (words.Goes did) = is_dozing did
halts_all (words.Over end) = true

abbrev pub ends_all : TurnRow → Bool
ends_all rows.Off = false
ends_all (rows.Made n word) = halts_all word
ends_all (rows.Lost n) = true

-- hart h stands at a breakpoint
abbrev pub is_at_point : Stops → ℕ → Bench → Bool
is_at_point stops h b = stands_in stops.points.items (pc_in h (machine_left b.power))

-- the first watchpoint that a turn touches, which reads that
abbrev pub touched_by : Stops → Option Load → Bench → Bench → Option Watchpoint
touched_by stops load b new = touched_in (machine_left b.power) (machine_left new.power) load stops.watches.items

-- The first watchpoint that a turn of hart h touches, if it touches one. It reads what the hart's next turn reads before it.
abbrev pub Touches : Stops → ℕ → Bench → Bench → Option Watchpoint → Type 0
Touches stops h b new found = (load : Option Load) → LoadsNext (machine_left b.power) h load → touched_by stops load b new ≡ found

-- it touches none
abbrev pub KeepsWatched : Stops → ℕ → Bench → Bench → Type 0
KeepsWatched stops h b new = Touches stops h b new None

-- A turn of hart h: the life goes on, the hart stands at no breakpoint, and no watchpoint is touched.
abbrev pub PassesBy : Size → Stops → ℕ → Bench → Bench → Type 0
PassesBy size stops h b new =
    (word : Word) × RowMoves size h (rows.Made 1 word) b new × (halts_all word ≡ false)
    × (is_at_point stops h new ≡ false) × KeepsWatched stops h b new

-- such turns, each of the hart that stands in the list
abbrev pub PassAll : Size → Stops → List ℕ → Bench → Bench → Type 0
PassAll size stops [] b new = new ≡ b
PassAll size stops (h ∷ more) b new = (mid : Bench) × PassesBy size stops h b mid × PassAll size stops more mid new

-- ---- why all halts
-- a turn may be why
abbrev pub is_of_turn : HaltReason → Bool
is_of_turn halts.Ended = true
is_of_turn halts.Point = true
is_of_turn (halts.Watched w) = true
is_of_turn halt = false

abbrev pub IsWhy : HaltReason → Stops → ℕ → TurnRow → Bench → Bench → Type 0
IsWhy halts.Ended stops h row b new = ends_all row ≡ true
IsWhy halts.Point stops h row b new = is_at_point stops h new ≡ true
IsWhy (halts.Watched w) stops h row b new = Touches stops h b new (Some w)
IsWhy halt stops h row b new = ⊥

-- Turns of these harts, one after another. Where a turn is why all halts, it is the last, of hart h; nothing halts after any
-- other.
abbrev pub RanBy : Bool → Size → Stops → ℕ → HaltReason → List ℕ → Bench → Bench → Type 0
RanBy false size stops h halt harts b new = PassAll size stops harts b new
RanBy true size stops h halt harts b new =
    (before : List ℕ) × (mid : Bench) × (row : TurnRow) × (harts ≡ before ++ h ∷ []) × PassAll size stops before b mid
    × (made_in row ≡ 1) × RowMoves size h row mid new × IsWhy halt stops h row mid new

abbrev pub RanTo : Size → Stops → ℕ → Option HaltReason → List ℕ → Bench → Bench → Type 0
RanTo size stops h None harts b new = PassAll size stops harts b new
RanTo size stops h (Some halt) harts b new = RanBy (is_of_turn halt) size stops h halt harts b new

abbrev pub one_turn : ℕ → Line
one_turn h = lines.Turn h 1

-- Turns became part of the history, up to the first halt; where a turn is why, it is one of hart h.
pub record ToHalt (size : Size) (stops : Stops) (h : ℕ) (halt : Option HaltReason) (old new : Timeline) : Type 0 where
  pub harts : List ℕ
  pub grew : moments new.history ≡ moments old.history ++ map one_turn harts
  pub ran : (b : Bench) → IsLeft size old b → (after : Bench) × RanTo size stops h halt harts b after × IsLeft size new after

-- ---- how the code finds it
-- why all halts after a row, by where the hart stands then
abbrev pub halt_after : TurnRow → Bool → Bool → Option HaltReason
halt_after rows.Off rests stands = if rests then None else Some halts.Off
halt_after (rows.Lost n) rests stands = Some halts.Ended
halt_after (rows.Made n word) rests stands =
    if halts_all word then Some halts.Ended else (if stands then Some halts.Point else None)

-- and where a watchpoint is touched, by the first that is
abbrev pub watch_or : Option HaltReason → Option Watchpoint → Option HaltReason
watch_or halt None = halt
watch_or halt (Some w) = Some (halts.Watched w)

abbrev pub halt_seen : Option HaltReason → Option Watchpoint → Option HaltReason
halt_seen None touched = watch_or None touched
halt_seen (Some halts.Point) touched = watch_or (Some halts.Point) touched
halt_seen (Some halt) touched = Some halt

-- what is watched, with the bytes that were seen of it
abbrev pub seen_all : Option Machine → List Watchpoint → List (Watchpoint × List ℕ)
seen_all m watches = map (λ w. (w, seen_by m w)) watches

-- the first of that which a turn touched, which read that
abbrev pub touched_since : Option Machine → Option Load → List (Watchpoint × List ℕ) → Option Watchpoint
touched_since now load [] = None
touched_since now load (was ∷ more) =
    if is_quiet load was.0 was.1 (seen_by now was.0) then touched_since now load more else Some was.0

-- what the code has seen, as pairs of a watchpoint and its bytes
abbrev pub seen_in : List SeenBytes → List (Watchpoint × List ℕ)
seen_in all = map (λ was. (was.watch, was.bytes.items)) all

-- whatever the next turn of hart h reads, it touches as much of what was seen as one that reads that
abbrev pub ReadsAs : Option Machine → ℕ → List (Watchpoint × List ℕ) → Option Load → Type 0
ReadsAs m h before found =
    (now : Option Machine) (load : Option Load) → LoadsNext m h load → touched_since now load before ≡ touched_since now found before

-- what was seen tells what a turn touches, from that machine on
abbrev pub TellsTouched : Option Machine → List Watchpoint → List (Watchpoint × List ℕ) → Type 0
TellsTouched m watches before =
    (now : Option Machine) (load : Option Load) → touched_since now load before ≡ touched_in m now load watches

-- a row of a hart to the first that halts there
abbrev pub Stretched : Size → ℕ → ℕ → List ℕ → ℕ → Bool → Option HaltReason → Timeline → Timeline → Type 0
Stretched size h most points made rests halt old new =
    (row : TurnRow) × MadeTurns size h points row rests old new × (made ≡ made_in row) × IsWithin most row
    × (is_off row ≡ true → rests ≡ false → (most ≡ 0) ⊎ (pc_in h (machine_of new.bench) ≡ None))
    × (halt ≡ halt_after row rests (stands_in points (pc_in h (machine_of new.bench))))
