-- Calls that come to a durable command. Source: SBI specification 2.0, chapters 10 and 13; docs/SBI.md.
use Rattle.std.specs.Prelude.{◌≡◌, ℕ, Result, Ok, Err}
use Rattle.board_model.specs.Durable.{Reset}
use Rattle.board_model.specs.declared.durable.Reason.{Reason}
use Rattle.board_model.specs.declared.refusal.Refusal.{Refusal}
use Rattle.disk.specs.declared.device.Disk.{Ghosts}
use Rattle.disk.specs.declared.device.Lane.{Ghosts as Lanes}
use Rattle.hart.specs.State.{ArchState, answered}
use Rattle.hsm.specs.Views.{listed}
use Rattle.store.specs.Lives.{Applied}
use Rattle.store.specs.declared.stores.Store.{Store}
use Rattle.sbi_abi.specs.Answers.{error_of}
use Rattle.sbi_abi.specs.declared.call.Call.{Call}
use Rattle.sbi_abi.specs.declared.call.Call.TheVariants as calls
use Rattle.sbi_abi.specs.declared.ret.SbiError.{SbiError}
use Rattle.sbi_abi.specs.declared.ret.SbiError.TheVariants.{Failed, NotSupported}
use Rattle.sbi_calls.specs.declared.tables.Seats.{Seats}
use Rattle.sbi_calls.specs.Both.{Known, TableState, IsTable}
use Rattle.store.specs.Asked.{Asked}
use Rattle.susp.specs.Sleeps.{Sleeps, SleepsAlone}
use Rattle.susp.specs.declared.buses.Bus.{Bus}
use Rattle.susp.specs.declared.sleeps.Sleep.{Sleep}
use Rattle.sbi.specs.declared.resets.ResetType.{ResetType}
use Rattle.sbi_calls.specs.declared.words.Did.TheVariants.{Next}
use Rattle.sbi.specs.declared.words.LifeEnd.TheVariants as ends
use Rattle.sbi.specs.declared.words.Word.{Word}
use Rattle.sbi.specs.declared.words.Word.TheVariants.{Goes, Over}
use Rattle.sbi.specs.Words.{word_of_sleep}
use Rattle.sbi.specs.Resets.{reset_of}

-- the hart finds the error, and goes on
abbrev pub Refuses : SbiError → ArchState → ArchState → Word → Type 0
Refuses e s t word = (t ≡ answered s (error_of (Err e)) 0) × (word ≡ Goes Next)

-- what a reset comes to: acknowledged, it does not return; refused by the store, it is answered -1
abbrev pub EndsReset : ResetType → Result ℕ Refusal → ArchState → ArchState → Word → Type 0
EndsReset kind (Ok n) s t word = (t ≡ s) × (word ≡ Over (ends.Reset kind))
EndsReset kind (Err e) s t word = Refuses Failed s t word

-- and a suspend, by how the board sleeps or the error that it was refused with
abbrev pub EndsSleep : Result Sleep SbiError → ArchState → ArchState → Word → Type 0
EndsSleep (Ok sleep) s t word = (t ≡ s) × (word ≡ word_of_sleep sleep)
EndsSleep (Err e) s t word = Refuses e s t word

module _ {D L : Type 0} {g : Ghosts D L} {l : Lanes L} where
  -- a reset whose arguments were checked so
  abbrev pub MakesReset : Result (ResetType × Reason) SbiError → ArchState → ArchState → Store D L g l
      → Store D L g l → Word → Type 0
  MakesReset (Err e) s t old new word = Refuses e s t word × (new ≡ old)
  MakesReset (Ok reset) s t old new word =
      (r : Result ℕ Refusal) × Asked Applied old (Reset reset.1) r new × EndsReset reset.0 r s t word

  -- a suspend with this bus: its own steps, whatever other harts do
  abbrev pub MakesSleep : ℕ → ℕ → ℕ → ℕ → ArchState → ArchState → Known → Known → Bus → Bus → Store D L g l
      → Store D L g l → Word → Type 0
  MakesSleep harts kind address opaque s t k k' bus bus' old new word =
      (fell : Result Sleep SbiError) × Sleeps harts s.id kind address opaque k.harts bus old fell k'.harts bus' new
      × (k'.pairs ≡ k.pairs) × EndsSleep fell s t word

  -- the call at which the hart s stands, which then is t
  abbrev pub MakesHeld : ℕ → Call → ArchState → ArchState → Known → Known → Bus → Bus → Store D L g l
      → Store D L g l → Word → Type 0
  MakesHeld harts (calls.SystemReset kind reason) s t k k' bus bus' old new word =
      MakesReset (reset_of kind reason) s t old new word × (k' ≡ k) × (bus' ≡ bus)
  MakesHeld harts (calls.SystemSuspend kind address opaque) s t k k' bus bus' old new word =
      MakesSleep harts kind address opaque s t k k' bus bus' old new word
  MakesHeld harts call s t k k' bus bus' old new word =
      Refuses NotSupported s t word × (new ≡ old) × (k' ≡ k) × (bus' ≡ bus)

  -- ---- with the one seat of all harts: by the states of the tables, which stay
  abbrev pub SleepsIn : ℕ → ℕ → ℕ → ℕ → ArchState → ArchState → TableState → Bus → Bus → Store D L g l
      → Store D L g l → Word → Type 0
  SleepsIn harts kind address opaque s t x bus bus' old new word =
      (fell : Result Sleep SbiError)
      × SleepsAlone harts s.id kind address opaque (listed x.states) bus old fell bus' new
      × EndsSleep fell s t word

  abbrev pub SleptAlone : ℕ → ℕ → ℕ → ℕ → ArchState → ArchState → Seats → Seats → Bus → Bus → Store D L g l
      → Store D L g l → Word → Type 0
  SleptAlone harts kind address opaque s t seats seats' bus bus' old new word = (x : TableState) → IsTable harts seats x
      → SleepsIn harts kind address opaque s t x bus bus' old new word × IsTable harts seats' x

  abbrev pub HeldIn : ℕ → Call → ArchState → ArchState → TableState → Bus → Bus → Store D L g l → Store D L g l
      → Word → Type 0
  HeldIn harts (calls.SystemReset kind reason) s t x bus bus' old new word =
      MakesReset (reset_of kind reason) s t old new word × (bus' ≡ bus)
  HeldIn harts (calls.SystemSuspend kind address opaque) s t x bus bus' old new word =
      SleepsIn harts kind address opaque s t x bus bus' old new word
  HeldIn harts call s t x bus bus' old new word = Refuses NotSupported s t word × (new ≡ old) × (bus' ≡ bus)

  abbrev pub HeldAlone : ℕ → Call → ArchState → ArchState → Seats → Seats → Bus → Bus → Store D L g l
      → Store D L g l → Word → Type 0
  HeldAlone harts call s t seats seats' bus bus' old new word =
      (x : TableState) → IsTable harts seats x → HeldIn harts call s t x bus bus' old new word × IsTable harts seats' x
