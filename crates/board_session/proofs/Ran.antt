-- A session of a board that was on.
use Rattle.std.proofs.{Common.{◌≡◌, ◌⊎◌, ◌≤◌, ℕ, Bool, List, Option, Some, inl, inr, arith, subst, sym}, Math.Logic.∥∥₁_map}
use Rattle.board_model.specs.{Durable.{DurableState, Change}, Shapes.Size, declared.{boot_mode.BootMode.BootMode, durable.Entry.Entry}}
use Rattle.disk.specs.Facts.{Content, Facts}
use Rattle.board.specs.{Begins.IsBegun, Moments.commands_by}
use Rattle.machine.specs.Machine.{Machine}
use Rattle.hart_threads.specs.{Heard.Hearing, declared.ends.HartEnd.HartEnd}
use Rattle.board_session.specs.{Commands.party, Dialogues.{DialogueEnds, Talks, Written, dialogue_ends}, declared.talks.Left.Left}
use Rattle.board_session.specs.Histories.{HasHistory}
use Rattle.board_session.specs.Sessions.{RunsOver, Begins, IsOfLife, TalksIf, AreOfLife, RanOver, LeftBefore, said_since}

-- what is said of the time before the boot says less
or_else : (A B P : Type 0) → (A → B) → A ⊎ P → B ⊎ P
or_else A B P f (inl a) = inl (f a)
or_else A B P f (inr p) = inr p

-- a life that has ended so, with the history of its bus
abbrev HasEnded : Size → DurableState → List Change → ℕ → (ℕ → Content → Type 0) → ℕ → List ℕ → List (ℕ × Entry) → Hearing → Facts → Machine → ℕ → Option Left → List HartEnd → Type 0
HasEnded size found issued failures earlier moment moments console heard disk machine turns left ends =
    (life : IsOfLife size found issued failures earlier moment moments console heard.doubt disk) × AreOfLife life.acknowledged.harts life.journal left ends
    × HasHistory size machine turns life.journal life.doubt heard.woken left ends

weaker : (size : Size) (found : DurableState) (issued : List Change) (failures : ℕ) (earlier said : ℕ → Content → Type 0) (moment from : ℕ) (moments : List ℕ) (console : List (ℕ × Entry)) (heard : Hearing) (disk : Facts) (machine : Machine) (turns : ℕ) (left : Option Left) (ends : List HartEnd)
    → from ≤ moment → ((t : ℕ) (c : Content) → t ≤ from → earlier t c → said t c)
    → HasEnded size found issued failures earlier moment moments console heard disk machine turns left ends
    → HasEnded size found issued failures said from moments console heard disk machine turns left ends
weaker size found issued failures earlier said moment from moments console heard disk machine turns left ends le says (life, ended, history) = (
  record {
    journal = life.journal;
    acknowledged = life.acknowledged;
    begun = life.begun;
    taken = life.taken;
    doubt = life.doubt;
    leaves = life.leaves;
    allowed = life.allowed;
    reads = life.reads;
    failed = life.failed;
    asked = life.asked;
    kept = record {
      first = (life.kept.first.0, (let first = life.kept.first.1 in omega (arith, le, first)));
      many = life.kept.many;
      passed = life.kept.passed;
      ever = λ t c before is. ∥∥₁_map (life.kept.ever t c (omega (arith, before, le)) is) (or_else (earlier t c) (said t c) _ (says t c before));
      kept = life.kept.kept;
    };
  },
  ended,
  history,
)

-- a life under its other names
named : (z size : Size) (s found : DurableState) (issued commands : List Change) (failures before : ℕ) (said : ℕ → Content → Type 0) (from : ℕ) (moments : List ℕ) (console : List (ℕ × Entry)) (heard : Hearing) (disk : Facts) (board machine : Machine) (turns : ℕ) (left : Option Left) (ends : List HartEnd)
    → z ≡ size → s ≡ found → issued ≡ commands → failures ≡ before → board ≡ machine
    → HasEnded z s issued failures said from moments console heard disk board turns left ends → HasEnded size found commands before said from moments console heard disk machine turns left ends
named z size s found issued commands failures before said from moments console heard disk board machine turns left ends sized was made opened same ended =
    let Named : Size → DurableState → List Change → ℕ → Machine → Type 0 = λ y t cs n b. HasEnded y t cs n said from moments console heard disk b turns left ends in
    subst (λ (x : Size). Named x found commands before machine) sized
    (subst (λ (x : DurableState). Named z x commands before machine) was
    (subst (λ (x : List Change). Named z s x before machine) made
    (subst (λ (x : ℕ). Named z s issued x machine) opened
    (subst (λ (x : Machine). Named z s issued failures x) same ended))))

-- what is of the life of the store that the board gave up is of the one that it had
pub ran_over : (new : Bool) (shape : Size) (mode : BootMode) (payloads : List (List ℕ)) (turns : ℕ) (old disk : Facts) (moments : List ℕ) (left : Option Left) (a : DialogueEnds) (input : Option (List ℕ)) (output : Written) (heard : Hearing) (ends : List HartEnd) (size z : Size) (found s : DurableState) (issued : List Change) (machine board : Machine) (failures : ℕ) (earlier : ℕ → Content → Type 0) (moment : ℕ)
    → said_since new old ≤ moment → ((t : ℕ) (c : Content) → t ≤ said_since new old → earlier t c → LeftBefore new old size found (commands_by mode found) t c)
    → z ≡ size → s ≡ found → issued ≡ commands_by mode found → board ≡ machine → failures ≡ old.failures → RunsOver new shape mode payloads old.content → Begins new shape old.content size found → IsBegun mode size payloads found machine
    → (console : List (ℕ × Entry)) → HasEnded z s issued failures earlier moment moments console heard disk board turns left ends
    → TalksIf s issued left a (dialogue_ends input output (party console heard)) → RanOver new shape mode payloads turns old disk moments left a input output heard ends
ran_over new shape mode payloads turns old disk moments left a input output heard ends size z found s issued machine board failures earlier moment le says sized was made same opened allowed begins powered console life talks =
    let kept = named z size s found issued (commands_by mode found) failures old.failures (LeftBefore new old size found (commands_by mode found)) (said_since new old) moments console heard disk board machine turns left ends sized was made opened same
    (weaker z s issued failures earlier (LeftBefore new old size found (commands_by mode found)) moment (said_since new old) moments console heard disk board turns left ends le says life) in
    record {
      allowed = allowed;
      size = size;
      found = found;
      begins = begins;
      machine = machine;
      powered = powered;
      console = console;
      life = kept.0;
      talks =
          subst (λ (x : DurableState). TalksIf x (commands_by mode found) left a (dialogue_ends input output (party console heard))) was
          (subst (λ (x : List Change). TalksIf s x left a (dialogue_ends input output (party console heard))) made talks);
      history = kept.2;
      ended = kept.1;
    }

-- what the console did is told with why it left, with what it was given and with what it gave back
pub talked : (found : DurableState) (issued : List Change) (left : Left) (a a' b b' : DialogueEnds) (o : Option Left) → o ≡ Some left → a ≡ a' → b' ≡ b → Talks found issued left a b → TalksIf found issued o a' b'
talked found issued left a a' b b' o is given same talks =
    subst (λ (x : Option Left). TalksIf found issued x a' b') (sym is)
    (subst (λ (x : DialogueEnds). Talks found issued left a' x) (sym same) (subst (λ (x : DialogueEnds). Talks found issued left x b) given talks))
