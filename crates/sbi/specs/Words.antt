-- What is said of a turn or a call of a hart, where the store is at hand. Source: SBI specification 2.0, chapter 13;
-- docs/BOARD.md; docs/SBI.md.
use Rattle.std.specs.Prelude.{Bool, true, false}
use Rattle.hsm.specs.declared.view.Stage.{Stage}
use Rattle.hsm.specs.declared.view.Stage.TheVariants.{Running, Quiet}
use Rattle.sbi_calls.specs.Words.{stage_of, ends_row}
use Rattle.sbi_calls.specs.declared.words.Did.TheVariants.{Dozing}
use Rattle.susp.specs.declared.sleeps.Sleep.{Sleep}
use Rattle.susp.specs.declared.sleeps.Sleep.TheVariants.{ToRam, ToDisk}
use Rattle.sbi.specs.declared.words.LifeEnd.TheVariants.{Asleep, Reset}
use Rattle.sbi.specs.declared.words.Word.{Word}
use Rattle.sbi.specs.declared.words.Word.TheVariants.{Goes, Over}

-- what is told of a board that sleeps: in its RAM the life goes on
abbrev pub word_of_sleep : Sleep → Word
word_of_sleep ToRam = Goes Dozing
word_of_sleep ToDisk = Over Asleep

-- where the hart of a durable call then stands in the hart table
abbrev pub stage_told : Word → Stage
stage_told (Goes did) = stage_of did
stage_told (Over Asleep) = Quiet
stage_told (Over (Reset kind)) = Running

-- the life goes on
abbrev pub life_goes_on : Word → Bool
life_goes_on (Goes did) = true
life_goes_on (Over end) = false

-- no turn of the hart follows in a line: it stopped, the board dozes, or the life is over
abbrev pub ends : Word → Bool
ends (Goes did) = ends_row did
ends (Over end) = true
