-- A hart's turns on a thread of its own: each turn's own steps on the tables and what came of it, whatever
-- the other threads do between two of them. Source: docs/THREADS.md; docs/BOARD.md, "A turn of a hart".
use Rattle.std.specs.Prelude.{◌≡◌, ◌⊎◌, ◌<◌, ◌==◌, ◌&&◌, ℕ, zero, suc, Bool, true, false, List, [], Option, Some, None, Result, Ok, Err, is_some, is_none}
use Rattle.board_model.specs.Durable.{ends_life as ends_the_life}
use Rattle.board_model.specs.Views.{change_in}
use Rattle.board_model.specs.declared.durable.Entry.{Entry}
use Rattle.board_model.specs.Shapes.{Size}
use Rattle.board_model.specs.declared.durable.Reason.{Reason}
use Rattle.hart.specs.State.{ArchState, answered, started as fresh}
use Rattle.hsm.specs.Words.{HartView}
use Rattle.hsm.specs.declared.view.Stage.TheVariants.{Running}
use Rattle.hsm.specs.declared.view.Action.TheVariants.{Quieted, Unquieted}
use Rattle.hsm.specs.Rule.{HasNoted}
use Rattle.hsm.specs.Outcomes.{after_quiet}
use Rattle.sbi_abi.specs.Answers.{error_of}
use Rattle.sbi_abi.specs.Calls.{call_of}
use Rattle.sbi_abi.specs.declared.call.Call.{Call}
use Rattle.sbi_abi.specs.declared.call.Call.TheVariants as calls
use Rattle.sbi_abi.specs.declared.ret.SbiError.{SbiError}
use Rattle.sbi_abi.specs.declared.ret.SbiError.TheVariants.{Failed, Denied, NotSupported}
use Rattle.sbi_calls.specs.Both.{Known}
use Rattle.sbi_calls.specs.declared.words.Did.TheVariants.{Idle, Resumed, Next, Dozing}
use Rattle.sbi_calls.specs.declared.words.Turned.{Turned}
use Rattle.sbi_calls.specs.declared.words.Turned.TheVariants.{Made, Durable}
use Rattle.hart_threads.specs.Called.{AsksDoze, IsToldBy}
use Rattle.susp.specs.Checks.{IsChecked}
use Rattle.susp.specs.Dozes.{dozing}
use Rattle.susp.specs.Sleeps.{AreUnclaimed}
use Rattle.susp.specs.declared.buses.Doze.{Doze}
use Rattle.susp.specs.declared.sleeps.Sleep.{Sleep}
use Rattle.susp.specs.declared.sleeps.Sleep.TheVariants.{ToDisk}
use Rattle.sbi.specs.Resets.{reset_of}
use Rattle.sbi.specs.declared.resets.ResetType.{ResetType}
use Rattle.sbi.specs.Words.{life_goes_on, word_of_sleep}
use Rattle.sbi.specs.declared.words.LifeEnd.TheVariants as ends
use Rattle.sbi.specs.declared.words.Word.{Word}
use Rattle.sbi.specs.declared.words.Word.TheVariants.{Goes, Over}
use Rattle.turns.specs.Own.{TurnOwn, ResumesOwn}
use Rattle.tallies.specs.declared.book_views.PartView.{PartView}
use Rattle.hart_threads.specs.Bused.{TakesBus, TurnsBus, CallsBus}
use Rattle.hart_threads.specs.Dozes.{is_woken, doze_left}
use Rattle.hart_threads.specs.declared.bus_turns.BusTurn.{BusTurn}
use Rattle.susp.specs.declared.buses.Bus.{Bus}
use Rattle.hart_threads.specs.declared.loops.Why.{Why}
use Rattle.hart_threads.specs.declared.loops.Why.TheVariants as whys

-- ---- the errors that a call may find
-- a reset: that of its arguments; where these are in order that the store refused it
abbrev pub ResetFinds : Result (ResetType × Reason) SbiError → SbiError → Type 0
ResetFinds (Err wrong) e = e ≡ wrong
ResetFinds (Ok asked) e = e ≡ Failed

-- a suspension, whose arguments were checked so: that of its arguments, with nothing done on the hart table;
-- or one look, which found another hart that was not STOPPED, or else to disk the store refused, and the quiet ended
abbrev pub SleepFinds : ℕ → ℕ → Result (Sleep × ℕ) SbiError → SbiError → List HartView → List HartView → Type 0
SleepFinds harts by (Err wrong) e vs vs' = (e ≡ wrong) × (vs' ≡ vs)
SleepFinds harts by (Ok asked) e vs vs' =
    (found : ℕ) × (mid : List HartView) × HasNoted by (after_quiet harts by found) (Quieted found) vs mid
    × (((AreUnclaimed harts by found → ⊥) × (e ≡ Denied) × (vs' ≡ mid))
    ⊎ (AreUnclaimed harts by found × (e ≡ Failed) × (asked.0 ≡ ToDisk)
    × ((later : ℕ) × HasNoted by Running (Unquieted later) mid vs')))

abbrev pub Finds : Size → Call → ℕ → SbiError → List HartView → List HartView → Type 0
Finds size (calls.SystemReset kind number) by e vs vs' = ResetFinds (reset_of kind number) e × (vs' ≡ vs)
Finds size (calls.SystemSuspend kind address value) by e vs vs' =
    (asked : Result (Sleep × ℕ) SbiError) × IsChecked size kind address asked × SleepFinds size.harts by asked e vs vs'
Finds size call by e vs vs' = (e ≡ NotSupported) × (vs' ≡ vs)

-- ---- a call that comes to a durable command, made in one hold of the bus and of the store
-- the hart found an error, and goes on
abbrev pub FindsOnce : Size → Call → ArchState → ArchState → Known → Known → Type 0
FindsOnce size call s t k k' =
    (e : SbiError) × Finds size call s.id e k.harts k'.harts × (t ≡ answered s (error_of (Err e)) 0)
    × (k'.pairs ≡ k.pairs)

-- its board sleeps: every other hart was STOPPED at its one look; it stands where it stood, and is quiet
abbrev pub SleepsOnce : Size → ArchState → ArchState → Known → Known → Type 0
SleepsOnce size s t k k' =
    (found : ℕ) × AreUnclaimed size.harts s.id found
    × HasNoted s.id (after_quiet size.harts s.id found) (Quieted found) k.harts k'.harts
    × (t ≡ s) × (k'.pairs ≡ k.pairs)

-- What such a call came to, and what is said of it: an error that the hart found, with which it goes on; a board that
-- sleeps in its RAM or to its disk; or a reset, with the hart where it stood. Nothing else is said. On the board's size.
abbrev pub HeldOnce : Size → Call → ArchState → ArchState → Known → Known → Word → Type 0
HeldOnce size call s t k k' word =
    (FindsOnce size call s t k k' × (word ≡ Goes Next))
    ⊎ ((sleep : Sleep) × SleepsOnce size s t k k' × (word ≡ word_of_sleep sleep))
    ⊎ ((kind : ResetType) × (t ≡ s) × (k' ≡ k) × (word ≡ Over (ends.Reset kind)))

-- the doze of which the hart then keeps a copy: the one that its call asked for, with the arguments in order on the
-- board's size; after any other call none
abbrev pub IsDozeBy : Size → Call → ℕ → Word → Option Doze → Type 0
IsDozeBy size call by (Goes Dozing) doze =
    (site : ℕ) × (opaque : ℕ) × AsksDoze size call site opaque × (doze ≡ Some (dozing by site opaque))
IsDozeBy size call by word doze = doze ≡ None

-- ---- a turn
-- a hart, what its seats know, its copy of its doze, and its part of the history of the bus, between two of its turns
pub record Seated : Type 0 where
  pub hart : ArchState
  pub known : Known
  pub doze : Option Doze
  pub took : PartView BusTurn

abbrev pub seated : ArchState → Known → Option Doze → PartView BusTurn → Seated
seated s k doze took = record { hart = s; known = k; doze = doze; took = took }

-- what comes of what the hart did: a durable call is made, which the hart's part of the history has as that of this hart with this answer,
-- and it has the receipt of its command where that was acknowledged; anything else is the turn's word
abbrev pub ComesOnce : Size → Turned → Seated → Seated → Word → Option (ℕ × Entry) → Type 0
ComesOnce size Durable a b word told =
    HeldOnce size (call_of a.hart) a.hart b.hart a.known b.known word
    × IsToldBy size (call_of a.hart) a.hart.id word told
    × IsDozeBy size (call_of a.hart) a.hart.id word b.doze × CallsBus a.hart b.hart word b.doze a.took b.took
ComesOnce size (Made did) a b word told = (b ≡ a) × (word ≡ Goes did) × (told ≡ None)

-- a turn of a hart that does not doze, with the memory as its one hold of the bus found it and as it left it, which its part of the
-- history has
abbrev pub OwnOnce : Size → Seated → Seated → Word → Option (ℕ × Entry) → Type 0
OwnOnce size a b word told =
    (found : List ℕ) × (left : List ℕ) × (did : Turned) × (mid : Seated)
    × (own : TurnOwn size a.hart found mid.hart left a.known mid.known did) × ComesOnce size did mid b word told
    × (mid.doze ≡ a.doze) × TurnsBus own.0 a.took mid.took found left

-- A turn of a hart that dozes, by what its one look at the bus found: nothing, until its doze was woken. Then it begins
-- again at the address of its own copy, with that opaque value; it has taken what was pending for it, and its quiet has
-- ended.
abbrev pub DozeOnce : Bool → Doze → Seated → Seated → Word → Type 0
DozeOnce false d a b word = (b ≡ record a { took = b.took }) × (word ≡ Goes Idle)
DozeOnce true d a b word =
    (b.hart ≡ fresh a.hart.id d.at.address d.at.opaque) × ResumesOwn a.hart.id a.known b.known × (b.doze ≡ None)
    × (word ≡ Goes Resumed)

-- and what the look found of the bus and left there: the memory stays, and a doze that was woken is over
abbrev pub LookOnce : Doze → Seated → Seated → Word → Type 0
LookOnce d a b word =
    (found : Bus) × (left : Bus) × TakesBus found left a.took b.took
    × (left ≡ record found { doze = doze_left (is_woken a.hart.id found.doze) found.doze })
    × DozeOnce (is_woken a.hart.id found.doze) d a b word

-- one turn of the hart, by its copy of its doze: no receipt comes of a turn in a doze
abbrev pub TurnOnceBy : Option Doze → Size → Seated → Seated → Word → Option (ℕ × Entry) → Type 0
TurnOnceBy None size a b word told = OwnOnce size a b word told
TurnOnceBy (Some d) size a b word told = LookOnce d a b word × (told ≡ None)

abbrev pub TurnOnce : Size → Seated → Seated → Word → Option (ℕ × Entry) → Type 0
TurnOnce size a b word told = TurnOnceBy a.doze size a b word told

-- ---- the turns of a loop
-- so many turns, after each of which the life went on: the gate let each begin, and heard of each
abbrev pub TurnsOn : Size → (ℕ → Bool → Type 0) → (ℕ → Type 0) → ℕ → Seated → Seated → Type 0
TurnsOn size answers hears zero a b = b ≡ a
TurnsOn size answers hears (suc n) a b =
    (mid : Seated) × (word : Word) × TurnsOn size answers hears n a mid × TurnOnce size mid b word None
    × (life_goes_on word ≡ true) × answers n true × hears n

-- A loop of at most so many turns made that many, and ended so: by the life's end, which its last turn told; by what
-- ended all loops, before it had made all; by the gate, which said so before then; or with the last of them.
abbrev pub LoopOnce : Size → (ℕ → Bool → Type 0) → (ℕ → Type 0) → ℕ → ℕ → Seated → Seated → Why
    → Option (ℕ × Entry) → Type 0
LoopOnce size answers hears turns made a b whys.Life told =
    (n : ℕ) × (mid : Seated) × (word : Word) × (made ≡ suc n)
    × TurnsOn size answers hears n a mid × TurnOnce size mid b word told × (life_goes_on word ≡ false)
    × answers n true × hears n
LoopOnce size answers hears turns made a b whys.Closed told =
    TurnsOn size answers hears made a b × (made < turns) × (told ≡ None)
LoopOnce size answers hears turns made a b whys.Gate told =
    TurnsOn size answers hears made a b × (made < turns) × (told ≡ None) × answers made false
LoopOnce size answers hears turns made a b whys.Turns told =
    TurnsOn size answers hears made a b × (made ≡ turns) × (told ≡ None)

-- a command that ends the life
abbrev pub is_end : Entry → Bool
is_end entry = ends_the_life (change_in entry [])

-- the receipt that a loop has, if it has one, is that of such a command
abbrev pub ends_life : Option (ℕ × Entry) → Bool
ends_life None = true
ends_life (Some t) = is_end t.1

-- What a loop has that ended for that reason after so many turns: the receipt of the command by which its hart ended the life, and no other
-- loop has one; what ended all loops; the gate, where one may end a loop; or all turns that each hart is given.
abbrev pub has_ended : ℕ → Bool → ℕ → Bool → Option (ℕ × Entry) → Why → Bool
has_ended turns gated made shut told whys.Life = is_some told
has_ended turns gated made shut told whys.Closed = is_none told && shut
has_ended turns gated made shut told whys.Gate = is_none told && gated
has_ended turns gated made shut told whys.Turns = is_none told && (made == turns)
