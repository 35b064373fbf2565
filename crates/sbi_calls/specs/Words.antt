-- What a hart did, by what follows from it. Source: docs/BOARD.md, "A turn of a hart".
use Rattle.std.specs.Prelude.{Bool, true, false}
use Rattle.hsm.specs.declared.view.Stage.{Stage}
use Rattle.hsm.specs.declared.view.Stage.TheVariants as stages
use Rattle.sbi_calls.specs.declared.words.Did.{Did}
use Rattle.sbi_calls.specs.declared.words.Did.TheVariants.{Next, Suspended, Stopped, Dozing}
use Rattle.sbi_calls.specs.declared.words.Turned.{Turned}
use Rattle.sbi_calls.specs.declared.words.Turned.TheVariants.{Made, Durable}

-- a call after which that is said was answered
abbrev pub is_answered : Did → Bool
is_answered Next = true
is_answered did = false

-- the board then sleeps in its RAM
abbrev pub is_doze : Did → Bool
is_doze Dozing = true
is_doze did = false

-- no turn of the hart follows in a line: it stopped, or the board dozes
abbrev pub ends_row : Did → Bool
ends_row Stopped = true
ends_row Dozing = true
ends_row did = false

-- where a hart that made a call then stands in the hart table: the hart of a doze is quiet
abbrev pub stage_of : Did → Stage
stage_of Suspended = stages.Suspended
stage_of Stopped = stages.Out
stage_of Dozing = stages.Quiet
stage_of did = stages.Running

-- and one that stands at a durable call is STARTED
abbrev pub stage_by : Turned → Stage
stage_by (Made did) = stage_of did
stage_by Durable = stages.Running
