-- What a packet asks. Source: "Debugging with GDB", appendix "GDB Remote Serial Protocol", "Packets" and "General Query
-- Packets".
use Rattle.std.specs.Prelude.{ℕ, Bool, true, false, List, [], ◌∷◌, Option, Some, None, ◌==◌, ◌&&◌, nat_le, if◌then◌else◌, bytes_eq}
use Rattle.debug_session.specs.Fields.{stripped, number_of, two_numbers}
use Rattle.debug_session.specs.declared.requests.Object.{Object}
use Rattle.debug_session.specs.declared.requests.Object.TheVariants as objects
use Rattle.debug_session.specs.declared.requests.GdbLook.TheVariants as looks
use Rattle.debug_session.specs.declared.requests.Watching.{Watching}
use Rattle.debug_session.specs.declared.requests.Watching.TheVariants as watch
use Rattle.debug_session.specs.declared.requests.Move.TheVariants as moves
use Rattle.debug_session.specs.declared.requests.GdbRequest.{GdbRequest}
use Rattle.debug_session.specs.declared.requests.GdbRequest.TheVariants as asks
use lib.Chars.{codes}

-- what has nothing after it
abbrev pub alone : GdbRequest → List ℕ → GdbRequest
alone asked [] = asked
alone asked (b ∷ more) = asks.Look looks.Unknown

-- what a number says, where it is one
abbrev pub by_number : (ℕ → GdbRequest) → Option ℕ → GdbRequest
by_number asked None = asks.Look looks.Malformed
by_number asked (Some n) = asked n

abbrev pub by_numbers : (ℕ → ℕ → GdbRequest) → Option (ℕ × ℕ) → GdbRequest
by_numbers asked None = asks.Look looks.Malformed
by_numbers asked (Some n) = asked n.0 n.1

-- what stands after a prefix, or else that other request
abbrev pub or_other : (List ℕ → GdbRequest) → GdbRequest → Option (List ℕ) → GdbRequest
or_other asked other None = other
or_other asked other (Some rest) = asked rest

-- 0 and -1 mean any thread
abbrev pub is_any : List ℕ → Bool
is_any word = if bytes_eq word (codes "0") then true else bytes_eq word (codes "-1")

-- H of any thread: by `c` the one that is selected runs from then on
abbrev pub unchosen : ℕ → GdbRequest
unchosen kind = if kind == 99 then (asks.Look looks.RunSelected) else (asks.Look looks.AnyThread)

-- H of a thread: by `g` it is shown from then on, and by `c` it runs
abbrev pub chosen_thread : ℕ → ℕ → GdbRequest
chosen_thread kind t =
    if kind == 103 then asks.Look (looks.Show t) else
    (if kind == 99 then asks.Look (looks.Run t) else asks.Look (looks.IsAlive t))

abbrev pub chosen : ℕ → List ℕ → GdbRequest
chosen kind thread = if is_any thread then unchosen kind else by_number (chosen_thread kind) (number_of thread)

abbrev pub choice : List ℕ → GdbRequest
choice [] = asks.Look looks.Unknown
choice (kind ∷ thread) = chosen kind thread

-- Z and z: 0 and 1 are breakpoints; 2 is a watch on writes, 3 on reads, and 4 on both
abbrev pub watching : ℕ → Option Watching
watching kind =
    if kind == 50 then Some watch.Writes else
    (if kind == 51 then Some watch.Reads else
    (if kind == 52 then Some watch.Accesses else None))

abbrev pub watch_or_point : Bool → Option Watching → ℕ → ℕ → GdbRequest
watch_or_point true (Some what) address count = asks.Look (looks.SetWatch what address count)
watch_or_point false (Some what) address count = asks.Look (looks.ClearWatch what address count)
watch_or_point true None address count = asks.Look (looks.SetPoint address)
watch_or_point false None address count = asks.Look (looks.ClearPoint address)

abbrev pub point_at : Bool → ℕ → ℕ → ℕ → GdbRequest
point_at sets kind address count = watch_or_point sets (watching kind) address count

abbrev pub is_point : ℕ → Bool
is_point kind = nat_le 48 kind && nat_le kind 52

abbrev pub placed : Bool → ℕ → List ℕ → GdbRequest
placed sets kind place = if is_point kind then by_numbers (point_at sets kind) (two_numbers place) else (asks.Look looks.Unknown)

abbrev pub point : Bool → List ℕ → GdbRequest
point sets [] = asks.Look looks.Unknown
point sets (kind ∷ rest) = or_other (placed sets kind) (asks.Look looks.Unknown) (stripped (codes ",") rest)

-- qXfer: a part of an object, by its offset and its length
abbrev pub part : Object → List ℕ → GdbRequest
part object place = by_numbers (λ offset count. asks.Look (looks.Part object offset count)) (two_numbers place)

abbrev pub transfer : List ℕ → GdbRequest
transfer object =
    or_other (part objects.Description)
    (or_other (part objects.MemoryMap)
    (or_other (part objects.Threads) (asks.Look looks.Unknown) (stripped (codes "threads:read::") object))
    (stripped (codes "memory-map:read::") object))
    (stripped (codes "features:read:target.xml:") object)

-- q, where it is one of the words without arguments, of which qAttached may have one
abbrev pub plain_query : List ℕ → GdbRequest
plain_query word =
    if bytes_eq word (codes "C") then (asks.Look looks.CurrentThread) else
    (if bytes_eq word (codes "fThreadInfo") then (asks.Look looks.FirstThreads) else
    (if bytes_eq word (codes "sThreadInfo") then (asks.Look looks.MoreThreads) else
    or_other (λ process. (asks.Look looks.IsAttached)) (asks.Look looks.Unknown) (stripped (codes "Attached") word)))

abbrev pub query : List ℕ → GdbRequest
query word =
    or_other (λ offers. (asks.Look looks.Supports))
    (or_other transfer
    (or_other (λ line. (asks.Move moves.Monitor)) (plain_query word) (stripped (codes "Rcmd,") word))
    (stripped (codes "Xfer:") word))
    (stripped (codes "Supported") word)

-- v
abbrev pub verbose : List ℕ → GdbRequest
verbose word =
    if bytes_eq word (codes "Cont?") then (asks.Look looks.Actions) else
    or_other (λ actions. (asks.Move moves.Resume))
    (or_other (λ process. (asks.Look looks.Detach)) (asks.Look looks.Unknown) (stripped (codes "Kill") word))
    (stripped (codes "Cont;") word)

-- b
abbrev pub backward : List ℕ → GdbRequest
backward word =
    if bytes_eq word (codes "s") then (asks.Move moves.StepBack) else
    (if bytes_eq word (codes "c") then (asks.Move moves.GoBack) else (asks.Look looks.Unknown))

-- Q
abbrev pub setting : List ℕ → GdbRequest
setting word = if bytes_eq word (codes "StartNoAckMode") then (asks.Look looks.NoAcks) else (asks.Look looks.Unknown)

-- the letters that ask for what stands: ? g p m H T
abbrev pub looked : ℕ → List ℕ → GdbRequest → GdbRequest
looked letter rest other =
    if letter == 63 then alone (asks.Look looks.Reason) rest else
    (if letter == 103 then alone (asks.Look looks.Registers) rest else
    (if letter == 112 then by_number (λ n. asks.Look (looks.Register n)) (number_of rest) else
    (if letter == 109 then by_numbers (λ a n. asks.Look (looks.Memory a n)) (two_numbers rest) else
    (if letter == 72 then choice rest else
    (if letter == 84 then by_number (λ n. asks.Look (looks.IsAlive n)) (number_of rest) else other)))))

-- the letters that move the board: s c b
abbrev pub moved : ℕ → List ℕ → GdbRequest → GdbRequest
moved letter rest other =
    if letter == 115 then alone (asks.Move moves.Step) rest else
    (if letter == 99 then alone (asks.Move moves.Go) rest else
    (if letter == 98 then backward rest else other))

-- the letters that write registers or memory: G P M
abbrev pub is_write : ℕ → Bool
is_write letter =
    if letter == 71 then true else (if letter == 80 then true else letter == 77)

-- the letters of the talk itself: Z z D k q v Q
abbrev pub talk : ℕ → List ℕ → GdbRequest
talk letter rest =
    if letter == 90 then point true rest else
    (if letter == 122 then point false rest else
    (if letter == 68 then (asks.Look looks.Detach) else
    (if letter == 107 then (asks.Look looks.Kill) else
    (if letter == 113 then query rest else
    (if letter == 118 then verbose rest else
    (if letter == 81 then setting rest else (asks.Look looks.Unknown)))))))

abbrev pub by_letter : ℕ → List ℕ → GdbRequest
by_letter letter rest =
    if is_write letter then (asks.Look looks.Write) else looked letter rest (moved letter rest (talk letter rest))

-- what a packet asks
abbrev pub request_of : List ℕ → GdbRequest
request_of [] = asks.Look looks.Unknown
request_of (letter ∷ rest) = by_letter letter rest
