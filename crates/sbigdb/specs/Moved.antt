-- How a request changes the history of a session.
use Rattle.std.specs.Prelude.{◌≡◌, ◌⊎◌, ◌≤◌, ◌+◌, ℕ, Bool, true, false, List, [], ◌∷◌, ◌++◌, Option, Some, None, Result, Ok, Err, option_and_then, length, nat_lt, if◌then◌else◌, bytes_eq, slice_index_or, replicate}
use Rattle.std.specs.Bool.{MatchBool}
use Rattle.hex.specs.Hex.{decode_of}
use Rattle.debug_session.specs.Pasts.{IsBack, NoRow}
use Rattle.report_lines.specs.declared.printed.Answer.{Answer}
use Rattle.report_lines.specs.Texts.{answer_text, report_text}
use Rattle.board_model.specs.Shapes.{Size}
use Rattle.board_model.specs.declared.refusal.Refusal.{Refusal}
use Rattle.sbigdb.specs.Resumes.{IsAskedBy}
use Rattle.sbigdb.specs.Texts.{HandOver, board_line, hart_lines, when_text}
use Rattle.sbigdb.specs.Stops.{stop_text}
use Rattle.sbigdb.specs.Talks.{hart_in, last_in, runs_in, selected_in, session_in, takes_in}
use Rattle.sbigdb.specs.declared.talk.Talk.{Talk}
use Rattle.debug_session.specs.Backs.{BackTo, StaysBack}
use Rattle.debug_session.specs.Firsts.{ToHalt}
use Rattle.debug_session.specs.Sessions.{history_of, plan_of, size_of, stops_of, timeline_of}
use Rattle.debug_session.specs.Steps.{IsStep, Went}
use Rattle.debug_session.specs.Texts.{history_text}
use Rattle.debug_session.specs.Turns.{WentTo, turns_made}
use Rattle.debug_session.specs.Withins.{StepsWithin, within_plan}
use Rattle.debug_session.specs.declared.halts.HaltReason.TheVariants as halts
use Rattle.debug_session.specs.declared.halts.Stop.{Stop}
use Rattle.debug_session.specs.declared.session.Session.{Session}
use Rattle.debug_session.specs.declared.stops.Stops.{Stops}
use Rattle.debug_session.specs.Ats.{Ran}
use Rattle.debug_session.specs.declared.timeline.Timeline.{Timeline}
use Rattle.debug_session.specs.Fields.{stripped}
use Rattle.sbigdb.specs.declared.asked.VCont.{VCont}
use Rattle.sbigdb.specs.declared.asked.VCont.TheVariants as asked
use Rattle.sbigdb.specs.declared.acts.Course.{Course}
use Rattle.sbigdb.specs.declared.acts.Course.TheVariants as courses
use Rattle.debug_session.specs.declared.requests.Move.{Move}
use Rattle.debug_session.specs.declared.requests.Move.TheVariants as moves
use Rattle.debug_session.specs.declared.requests.GdbRequest.{GdbRequest}
use Rattle.debug_session.specs.declared.requests.GdbRequest.TheVariants as asks
use Rattle.script_lang.specs.Scripts.{Script, script_of}
use Rattle.script_lang.specs.Words.{decoded, number_of}
use Rattle.script_lang.specs.declared.line.Line.{Line}
use lib.Chars.{codes}

-- ---- on and back, to that stop

-- One turn of hart h, or none; the stop is that hart's.
abbrev pub SteppedOnce : {C : Type 0} → ℕ → Stop → Session C → Session C → Type 0
SteppedOnce h stop old new =
    (stop.hart ≡ h) × IsStep (size_of old) h stop.halt (timeline_of old) (timeline_of new)
    × ToHalt (size_of old) (stops_of old) h (Some stop.halt) (timeline_of old) (timeline_of new)

-- Harts went on, of those that may, and no other, to the first halt. Where a turn is why, the stop is its hart's.
abbrev pub WentOn : {C : Type 0} → List Bool → Stop → Session C → Session C → Type 0
WentOn harts stop old new =
    ((n : ℕ) × (n ≤ (plan_of old).most) × Went (λ h. slice_index_or harts h false ≡ true) n (size_of old) (timeline_of old) (timeline_of new))
    × ToHalt (size_of old) (stops_of old) stop.hart (Some stop.halt) (timeline_of old) (timeline_of new)

-- One hart went on while its pc lay from the first address on and before the end, to the first halt; the stop is its.
abbrev pub WentAlone : {C : Type 0} → ℕ → ℕ → ℕ → Stop → Session C → Session C → Type 0
WentAlone h first end stop old new =
    (stop.hart ≡ h) × ((n : ℕ) × (n ≤ (plan_of old).most) × Went (λ g. g ≡ h) n (size_of old) (timeline_of old) (timeline_of new))
    × ToHalt (size_of old) (stops_of old) h (Some stop.halt) (timeline_of old) (timeline_of new)
    × StepsWithin (size_of old) (within_plan first end (plan_of old)) h stop.halt (timeline_of old) (timeline_of new)

-- back before the last turn of hart h, which made none where nothing changed
abbrev pub WentBack : {C : Type 0} → ℕ → Stop → Session C → Session C → Type 0
WentBack h stop old new =
    (stop.hart ≡ h) × (((stop.halt ≡ halts.Stepped) × IsBack h (history_of old) (history_of new))
    ⊎ ((stop.halt ≡ halts.Begin) × NoRow h (history_of old) × (timeline_of new ≡ timeline_of old)))

-- back to the last halt; where nothing changed no turn was made, or the debugger asked for it
abbrev pub WentFarBack : {C : Type 0} → ℕ → Stop → Session C → Session C → Type 0
WentFarBack h stop old new =
    BackTo (size_of old) (stops_of old) stop (timeline_of old) (timeline_of new)
    ⊎ StaysBack stop h (timeline_of old) (timeline_of new)

-- any of these, of hart h or from it on
abbrev pub Took : {C : Type 0} → Course → ℕ → Stop → Session C → Session C → Type 0
Took courses.Step h stop old new = SteppedOnce h stop old new
Took (courses.StepWithin first end) h stop old new = WentAlone h first end stop old new
Took (courses.Go harts) h stop old new = WentOn harts stop old new
Took courses.StepBack h stop old new = WentBack h stop old new
Took courses.GoBack h stop old new = WentFarBack h stop old new

-- ---- what is told of it

-- the stop, whose hart is shown and selected then
abbrev pub IsTold : {C : Type 0} → Talk C → Talk C → List ℕ → Type 0
IsTold old new text =
    (text ≡ stop_text (last_in new) (takes_in old)) × (hart_in new ≡ (last_in new).hart) × (selected_in new ≡ (last_in new).hart)

-- no stop
abbrev pub IsUntold : {C : Type 0} → Talk C → Talk C → Type 0
IsUntold old new = (last_in new ≡ last_in old) × (hart_in new ≡ hart_in old) × (selected_in new ≡ selected_in old)

-- ---- vCont

-- what is asked was done, and nothing else
abbrev pub WentAs : {C : Type 0} → VCont → Talk C → Talk C → List ℕ → Type 0
WentAs asked.Nothing old new text = (timeline_of (session_in new) ≡ timeline_of (session_in old)) × (text ≡ codes "E01") × IsUntold old new
WentAs (asked.Step h) old new text = IsTold old new text × SteppedOnce h (last_in new) (session_in old) (session_in new)
WentAs (asked.StepWithin h first end) old new text =
    IsTold old new text × WentAlone h first end (last_in new) (session_in old) (session_in new)
WentAs (asked.Go harts) old new text = IsTold old new text × WentOn harts (last_in new) (session_in old) (session_in new)

abbrev pub ResumedBy : {C : Type 0} → Option (List ℕ) → Talk C → Talk C → List ℕ → Type 0
ResumedBy actions old new text = (what : VCont) × IsAskedBy (size_of (session_in old)) actions what × WentAs what old new text

-- ---- monitor

-- the bytes that pairs of digits write
abbrev pub hexed : List ℕ → Option (List ℕ)
hexed word = decoded (decode_of word)

abbrev pub just_one : List Line → Option Line
just_one [] = None
just_one (line ∷ []) = Some line
just_one (line ∷ other ∷ more) = None

abbrev pub line_of_script : Result Script Refusal → Option Line
line_of_script (Err e) = None
line_of_script (Ok script) = just_one script.lines

-- the line that a text is, after the board line
abbrev pub line_in : Size → List ℕ → Option Line
line_in size text = line_of_script (script_of (board_line size ++ text))

-- it asks for help, which is a fixed text
abbrev pub is_help : List ℕ → Bool
is_help text = if bytes_eq text [] then true else bytes_eq text (codes "help")

-- the line was run and noted, and its report is said; what is none changes nothing
abbrev pub LineRan : Option Line → Size → Timeline → Timeline → List ℕ → Type 0
LineRan None size old new said = new ≡ old
LineRan (Some line) size old new said = (answer : Answer) × Ran size line answer old new × (said ≡ answer_text answer)

-- the history as a script; a comment after it says so where it is longer than a script may be
abbrev pub ended_text : ℕ → List ℕ → List ℕ
ended_text lines text =
    if nat_lt 65535 lines
    then (text ++ codes "\n") ++ codes "# this is longer than a script may be: 65,535 lines after the board line\n"
    else text ++ codes "\n"

abbrev pub script_text : Size → List (List ℕ) → List Line → List ℕ
script_text size begins past = ended_text (length past) (history_text size begins past)

-- the number of turns to which `goto` is to go, where a text says one
abbrev pub goto_in : List ℕ → Option ℕ
goto_in text = option_and_then number_of (stripped (codes "goto ") text)

-- All harts went on until the history had n turns, or to the first halt before. What the turns report is said, and where the
-- history stands then.
abbrev pub WentForth : ℕ → Size → Stops → ℕ → Timeline → Timeline → List ℕ → Type 0
WentForth n size stops h old new said =
    ((k : ℕ) × (turns_made old.history + k ≤ n) × Went (λ g. slice_index_or (replicate 8 true) g false ≡ true) k size old new)
    × ((stop : Stop) × ToHalt size stops stop.hart (Some stop.halt) old new)
    × ((answers : List Answer) × (said ≡ report_text answers ++ when_text h new.history))

-- back to before the turn that came after n others, and where the history stands then; or on, where none did
abbrev pub WentOver : ℕ → Size → Stops → ℕ → Timeline → Timeline → List ℕ → Type 0
WentOver n size stops h old new said =
    (WentTo n true old new × (said ≡ when_text h new.history))
    ⊎ ((turns_made old.history ≤ n) × WentForth n size stops h old new said)

-- `goto` goes back or on to a turn; any other text is a line, or none
abbrev pub GotoOr : Option ℕ → List ℕ → Size → Stops → ℕ → Timeline → Timeline → List ℕ → Type 0
GotoOr None text size stops h old new said = LineRan (line_in size text) size old new said
GotoOr (Some n) text size stops h old new said = WentOver n size stops h old new said

-- The debugger's own words but `goto` change nothing: `script` says the history, `harts` where each hart stands, and `when` where
-- the history does.
abbrev pub TextSaid : List ℕ → Size → Stops → ℕ → Timeline → Timeline → List ℕ → Type 0
TextSaid text size stops h old new said =
    MatchBool (bytes_eq text (codes "script")) ((new ≡ old) × (said ≡ script_text size old.begins old.history))
    (MatchBool (is_help text) (new ≡ old)
    (MatchBool (bytes_eq text (codes "harts")) ((new ≡ old) × (said ≡ hart_lines size.harts old.bench))
    (MatchBool (bytes_eq text (codes "when")) ((new ≡ old) × (said ≡ when_text h old.history))
    (GotoOr (goto_in text) text size stops h old new said))))

-- what is said goes to the console, and then comes `OK`
abbrev pub HexSaid : Option (List ℕ) → Size → Stops → ℕ → Timeline → Timeline → List (List ℕ) → List ℕ → Type 0
HexSaid None size stops h old new told text = (new ≡ old) × (told ≡ []) × (text ≡ codes "E01")
HexSaid (Some line) size stops h old new told text =
    (said : List ℕ) × HandOver said told × TextSaid line size stops h old new said × (text ≡ codes "OK")

abbrev pub MonitoredBy : Option (List ℕ) → Size → Stops → ℕ → Timeline → Timeline → List (List ℕ) → List ℕ → Type 0
MonitoredBy None size stops h old new told text = (new ≡ old) × (told ≡ []) × (text ≡ [])
MonitoredBy (Some word) size stops h old new told text = HexSaid (hexed word) size stops h old new told text

-- ---- any request

-- how what may move the board changes the history, by its packet, what goes to the console, and what is told last
abbrev pub MovedBy : {C : Type 0} → Move → List ℕ → Talk C → Talk C → List (List ℕ) → List ℕ → Type 0
MovedBy moves.Step packet old new told text =
    IsTold old new text × SteppedOnce (runs_in old) (last_in new) (session_in old) (session_in new)
MovedBy moves.Go packet old new told text =
    IsTold old new text × WentOn (replicate 8 true) (last_in new) (session_in old) (session_in new)
MovedBy moves.StepBack packet old new told text =
    IsTold old new text × WentBack (runs_in old) (last_in new) (session_in old) (session_in new)
MovedBy moves.GoBack packet old new told text =
    IsTold old new text × WentFarBack (runs_in old) (last_in new) (session_in old) (session_in new)
MovedBy moves.Resume packet old new told text = ResumedBy (stripped (codes "vCont;") packet) old new text
MovedBy moves.Monitor packet old new told text =
    IsUntold old new × MonitoredBy (stripped (codes "qRcmd,") packet) (size_of (session_in old)) (stops_of (session_in old)) (selected_in old)
    (timeline_of (session_in old)) (timeline_of (session_in new)) told text

-- What looks changes neither the bench nor its history. What moves the board tells the console first, and its stop last.
abbrev pub Moved : {C : Type 0} → GdbRequest → List ℕ → Talk C → Talk C → List (List ℕ) → Type 0
Moved (asks.Look look) packet old new payloads = timeline_of (session_in new) ≡ timeline_of (session_in old)
Moved (asks.Move move) packet old new payloads =
    (told : List (List ℕ)) × (text : List ℕ) × (payloads ≡ told ++ text ∷ []) × MovedBy move packet old new told text
