-- What is replied to a request, of a bench with a board of that size whose hart h is shown. Source:
-- "Debugging with GDB", appendix "GDB Remote Serial Protocol", "Packets" and "General Query Packets".
use Rattle.std.specs.Prelude.{◌≡◌, ⊤, ℕ, ◌+◌, ◌-◌, List, [], ◌∷◌, ◌++◌, Option, Some, None, false, nat_lt, nat_le, ◌&&◌, length, ◌==◌, if◌then◌else◌}
use Rattle.std.specs.Fmt.{digits}
use Rattle.board_model.specs.Shapes.{Size}
use Rattle.debug_session.specs.Lives.{machine_of, memory_in, register_in}
use Rattle.bench_report.specs.declared.live.LiveBench.{LiveBench}
use Rattle.debug_session.specs.Packets.{digit_of}
use Rattle.sbigdb.specs.Talks.{hart_or}
use Rattle.sbigdb.specs.Texts.{threads_object}
use Rattle.debug_session.specs.Replies.{memory_map_text, pairs_of, part_text, register_text, registers_text, threads_text}
use Rattle.debug_session.specs.declared.requests.GdbLook.{GdbLook}
use Rattle.debug_session.specs.declared.requests.GdbLook.TheVariants as looks
use Rattle.debug_session.specs.declared.requests.Object.{Object}
use Rattle.debug_session.specs.declared.requests.Object.TheVariants as objects
use Rattle.debug_session.specs.declared.requests.GdbRequest.{GdbRequest}
use Rattle.debug_session.specs.declared.requests.GdbRequest.TheVariants as asks
use lib.Chars.{codes}

-- the hart of a thread, whose number is one more
abbrev pub hart_named : Size → ℕ → Option ℕ
hart_named size thread = if nat_lt 0 thread && nat_le thread size.harts then Some (thread - 1) else None

-- whether there is that thread
abbrev pub by_hart : Option ℕ → List ℕ
by_hart None = codes "E01"
by_hart (Some h) = codes "OK"

abbrev pub thread_reply : Size → ℕ → List ℕ
thread_reply size thread = by_hart (hart_named size thread)

-- one register by its value; there are 42
abbrev pub register_reply : ℕ → Option ℕ → List ℕ
register_reply n value = if nat_lt n 42 then register_text n value else codes "E01"

-- bytes of memory, where all of them are there; that none were asked for is an error, since no text would mean that `m` is unknown
abbrev pub memory_reply : Option (List ℕ) → List ℕ
memory_reply None = codes "E0e"
memory_reply (Some bytes) = if length bytes == 0 then codes "E01" else pairs_of bytes

-- a part of an object of qXfer; of the description, which is fixed, a part of some text
abbrev pub IsPart : Object → Size → LiveBench → ℕ → ℕ → List ℕ → Type 0
IsPart objects.Description size b offset count text = (whole : List ℕ) × (text ≡ part_text whole offset count)
IsPart objects.MemoryMap size b offset count text = text ≡ part_text (memory_map_text size) offset count
IsPart objects.Threads size b offset count text = text ≡ part_text (threads_object size b) offset count

abbrev pub SaysPart : Object → Size → LiveBench → ℕ → ℕ → Option (List ℕ) → Type 0
SaysPart object size b offset count None = ⊥
SaysPart object size b offset count (Some text) = IsPart object size b offset count text

-- a payload with that text
abbrev pub Says : List ℕ → Option (List ℕ) → Type 0
Says text out = out ≡ Some text

-- what this stub can; a packet of it has at most that many bytes
abbrev pub features_text : List ℕ
features_text =
    codes "PacketSize=" ++ (digits 16 false 16384 ++ codes ";QStartNoAckMode+;qXfer:features:read+;qXfer:memory-map:read+;qXfer:threads:read+;ReverseStep+;ReverseContinue+;vContSupported+;swbreak+")

-- what a request that moves nothing is replied, where `stands` is the stop reply of why nothing runs
abbrev pub IsLookReply : GdbLook → Size → ℕ → LiveBench → List ℕ → Option (List ℕ) → Type 0
IsLookReply looks.Reason size h b stands out = Says stands out
IsLookReply looks.Registers size h b stands out = Says (registers_text 42 (λ n. register_in h n (machine_of b))) out
IsLookReply (looks.Register n) size h b stands out = Says (register_reply n (register_in h n (machine_of b))) out
IsLookReply (looks.Memory address count) size h b stands out = Says (memory_reply (memory_in address count (machine_of b))) out
IsLookReply (looks.Show thread) size h b stands out = Says (thread_reply size thread) out
IsLookReply (looks.Run thread) size h b stands out = Says (thread_reply size thread) out
IsLookReply looks.RunSelected size h b stands out = Says (codes "OK") out
IsLookReply looks.AnyThread size h b stands out = Says (codes "OK") out
IsLookReply (looks.IsAlive thread) size h b stands out = Says (thread_reply size thread) out
IsLookReply (looks.SetPoint address) size h b stands out = Says (codes "OK") out
IsLookReply (looks.ClearPoint address) size h b stands out = Says (codes "OK") out
IsLookReply (looks.SetWatch what address count) size h b stands out = Says (codes "OK") out
IsLookReply (looks.ClearWatch what address count) size h b stands out = Says (codes "OK") out
IsLookReply looks.Write size h b stands out = Says (codes "E01") out
IsLookReply looks.Supports size h b stands out = Says features_text out
IsLookReply (looks.Part object offset count) size h b stands out = SaysPart object size b offset count out
IsLookReply looks.CurrentThread size h b stands out = Says (codes "QC" ++ digit_of (h + 1) ∷ []) out
IsLookReply looks.IsAttached size h b stands out = Says (codes "1") out
IsLookReply looks.FirstThreads size h b stands out = Says (threads_text size.harts) out
IsLookReply looks.MoreThreads size h b stands out = Says (codes "l") out
IsLookReply looks.NoAcks size h b stands out = Says (codes "OK") out
IsLookReply looks.Actions size h b stands out = Says (codes "vCont;c;C;s;S;r") out
IsLookReply looks.Detach size h b stands out = Says (codes "OK") out
IsLookReply looks.Kill size h b stands out = out ≡ None
IsLookReply looks.Malformed size h b stands out = Says (codes "E01") out
IsLookReply looks.Unknown size h b stands out = Says [] out

-- it is one payload, or none
abbrev pub IsReply : GdbLook → Size → ℕ → LiveBench → List ℕ → List (List ℕ) → Type 0
IsReply look size h b stands [] = IsLookReply look size h b stands None
IsReply look size h b stands (text ∷ more) = (more ≡ []) × IsLookReply look size h b stands (Some text)

-- the payloads that a request is replied with; those of one that moves the board are the console's and the stop's
abbrev pub Replied : GdbRequest → Size → ℕ → LiveBench → List ℕ → List (List ℕ) → Type 0
Replied (asks.Look look) size h b stands out = IsReply look size h b stands out
Replied (asks.Move move) size h b stands out = ⊤

-- the hart that is shown after a request that moves nothing
abbrev pub hart_shown : GdbLook → Size → ℕ → ℕ
hart_shown (looks.Show thread) size h = hart_or (hart_named size thread) h
hart_shown look size h = h

-- the hart that is shown after any request; after one that moves the board it is the stop's
abbrev pub Shown : GdbRequest → Size → ℕ → ℕ → Type 0
Shown (asks.Look look) size old new = new ≡ hart_shown look size old
Shown (asks.Move move) size old new = ⊤
