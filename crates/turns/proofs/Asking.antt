-- A hart that is told to stand at a durable call: its seats know what they knew before the call, and it is
-- STARTED.
use Rattle.std.proofs.Common.{◌≡◌, ℕ, List, Ok, Err, refl, sym, ap, ◌∙◌, subst}
use Rattle.board_model.specs.Shapes.{Size}
use Rattle.hart.specs.{State.ArchState, declared.Outcome.Outcome}
use Rattle.hart.specs.declared.Outcome.TheVariants as outcomes
use Rattle.hsm.specs.{Words.HartView, declared.view.Stage.TheVariants.Running, Rule.stands}
use Rattle.sbi_abi.specs.Calls.{call_of}
use Rattle.sbi_calls.specs.declared.requests.Request.TheVariants.{Value, Start, Stop, Status, Suspend, SuspendAfresh, Send, Command}
use Rattle.sbi_calls.specs.{declared.{endings.Ending.Ending, tables.{Tables.Tables, Seats.Seats}}, Both.{Known, GivesBack, Acts, known}}
use Rattle.sbi_calls.specs.{Requests.{Checked, request_of}, Answers.Ends, Steps.Does, declared.words.Turned.{Turned, TheVariants.Durable}}
use Rattle.sbi_calls.specs.declared.endings.Ending.TheVariants as endings
use Rattle.turns.specs.Own.{FinishesOwn}

-- ---- a call that is told durable was left to the firmware
deferred : (end : Ending) (u v : ArchState) → Ends end u v Durable → end ≡ endings.Defers
deferred (endings.Answers a) u v p = let z = p.1 in let n : ⊥ = cc in absurd n
deferred endings.Stops u v p = let z = p.1 in let n : ⊥ = cc in absurd n
deferred endings.Suspends u v p = let z = p.1 in let n : ⊥ = cc in absurd n
deferred (endings.SuspendsAfresh a o) u v p = let z = p.1 in let n : ⊥ = cc in absurd n
deferred endings.Defers u v p = refl

-- and then it made no step
still : (harts by : ℕ) (asked : Checked) (k k' : Known) (end : Ending) → Does harts by asked k k' end → end ≡ endings.Defers → k' ≡ k
still harts by (Err e) k k' end p d = p.0
still harts by (Ok (Value n)) k k' end p d = p.0
still harts by (Ok (Start h a o)) k k' end p d = let z = sym p.3 ∙ d in let n : ⊥ = cc in absurd n
still harts by (Ok Stop) k k' end p d = let z = sym p.2 ∙ d in let n : ⊥ = cc in absurd n
still harts by (Ok (Status h)) k k' end p d = let z = sym p.2 ∙ d in let n : ⊥ = cc in absurd n
still harts by (Ok Suspend) k k' end p d = let z = sym p.2 ∙ d in let n : ⊥ = cc in absurd n
still harts by (Ok (SuspendAfresh a o)) k k' end p d = let z = sym p.2 ∙ d in let n : ⊥ = cc in absurd n
still harts by (Ok (Send targets)) k k' end p d = let z = sym p.2 ∙ d in let n : ⊥ = cc in absurd n
still harts by (Ok Command) k k' end p d = p.0

knew : (size : Size) (o : Outcome) (u v : ArchState) (k k' : Known) → FinishesOwn size o u v k k' Durable → k' ≡ k
knew size outcomes.Next u v k k' p = p.0
knew size outcomes.TakePending u v k k' p = let z = p.2 in let n : ⊥ = cc in absurd n
knew size outcomes.Ecall u v k k' p = still size.harts u.id (request_of size (call_of u)) k k' p.0 p.1 (deferred p.0 u v p.2)

-- ---- so the hart acts as before
pub asks : (size : Size) (o : Outcome) (u v : ArchState) (t : Tables) (by : ℕ) (s s' : Seats) (word : Turned) → FinishesOwn size o u v (known s) (known s') word → GivesBack t by s s' → Acts by Running s → word ≡ Durable → Acts by Running s'
asks size o u v t by s s' word own gives acts e =
    let same = knew size o u v (known s) (known s') (subst (λ (w : Turned). FinishesOwn size o u v (known s) (known s') w) e own) in
    (subst (λ (vs : List HartView). stands by Running vs) (sym (ap (λ (k : Known). k.harts) same)) acts.0, gives.pairs.each by ∙ acts.1)
