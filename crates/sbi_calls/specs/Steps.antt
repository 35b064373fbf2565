-- A call's own steps, and its ending by what they found, whatever the other threads do. Source:
-- docs/TABLES.md, docs/SBI.md.
use Rattle.std.specs.Prelude.{◌≡◌, ℕ, zero, suc, Bool, List, Ok, Err}
use Rattle.board_model.specs.Shapes.{Size}
use Rattle.hart.specs.State.{ArchState}
use Rattle.hsm.specs.declared.view.Stage.{Stage}
use Rattle.hsm.specs.declared.view.Stage.TheVariants.{Out, Suspended}
use Rattle.hsm.specs.declared.view.Action.{Action}
use Rattle.hsm.specs.declared.view.Action.TheVariants.{Looked, Stopped as DidStop, Suspended as DidSuspend}
use Rattle.hsm.specs.Rule.{HasNoted as HartHasNoted}
use Rattle.hsm.specs.Calls.{code_of, state_in_word, stage_of, Starts}
use Rattle.ipi.specs.Ledger.{HasNoted, PendingView}
use Rattle.ipi.specs.declared.view.IpiAction.TheVariants.{Raised}
use Rattle.sbi_abi.specs.Calls.{call_of}
use Rattle.board_model.specs.HartSets.{Has}
use Rattle.sbi_calls.specs.declared.requests.Request.TheVariants.{Value, Start, Stop, Status, Suspend, SuspendAfresh, Send, Command}
use Rattle.sbi_calls.specs.declared.endings.Ending.{Ending}
use Rattle.sbi_calls.specs.declared.endings.Ending.TheVariants.{Answers, Stops, Suspends, SuspendsAfresh, Defers}
use Rattle.sbi_calls.specs.declared.words.Turned.{Turned}
use Rattle.sbi_calls.specs.Both.{Known}
use Rattle.sbi_calls.specs.Requests.{Checked, request_of}
use Rattle.sbi_calls.specs.Answers.{start_answer, Ends}

-- one step of the hart in the hart table
abbrev pub OneStep : ℕ → Stage → Action → Known → Known → Type 0
OneStep by st x k k' = HartHasNoted by st x k.harts k'.harts × (k'.pairs ≡ k.pairs)

-- one raise for a target of the set, none for another hart
abbrev pub SendsTo : ℕ → ℕ → ℕ → List PendingView → List PendingView → Type 0
SendsTo by targets target ds ds' =
    (Has target targets → (found : ℕ) × HasNoted by (Raised target found) ds ds')
    × ((Has target targets → ⊥) → ds' ≡ ds)

-- one raise for each target of the set below n, in rising order
abbrev pub Sends : ℕ → ℕ → ℕ → List PendingView → List PendingView → Type 0
Sends by targets zero ds ds' = ds' ≡ ds
Sends by targets (suc n) ds ds' = (mid : List PendingView) × Sends by targets n ds mid × SendsTo by targets n mid ds'

-- on a board of so many harts
abbrev pub Does : ℕ → ℕ → Checked → Known → Known → Ending → Type 0
Does harts by (Err e) k k' end = (k' ≡ k) × (end ≡ Answers (Err e))
Does harts by (Ok (Value v)) k k' end = (k' ≡ k) × (end ≡ Answers (Ok v))
Does harts by (Ok (Start h a o)) k k' end =
    (granted : Bool) × Starts by h a o k.harts granted k'.harts × (k'.pairs ≡ k.pairs)
    × (end ≡ Answers (start_answer granted))
Does harts by (Ok Stop) k k' end = (found : ℕ) × OneStep by Out (DidStop found) k k' × (end ≡ Stops)
Does harts by (Ok (Status h)) k k' end =
    (found : ℕ) × OneStep by (stage_of by k.harts) (Looked found) k k'
    × (end ≡ Answers (Ok (code_of (state_in_word h found))))
Does harts by (Ok Suspend) k k' end = (found : ℕ) × OneStep by Suspended (DidSuspend found) k k' × (end ≡ Suspends)
Does harts by (Ok (SuspendAfresh a o)) k k' end =
    (found : ℕ) × OneStep by Suspended (DidSuspend found) k k' × (end ≡ SuspendsAfresh a o)
Does harts by (Ok (Send targets)) k k' end =
    (k'.harts ≡ k.harts) × Sends by targets harts k.pairs k'.pairs × (end ≡ Answers (Ok 0))
Does harts by (Ok Command) k k' end = (k' ≡ k) × (end ≡ Defers)

-- the call at which the hart stood made its own steps, and ended by what they found
abbrev pub Calls : Size → ArchState → ArchState → Known → Known → Turned → Type 0
Calls size old new k k' word =
    (end : Ending) × Does size.harts old.id (request_of size (call_of old)) k k' end × Ends end old new word
