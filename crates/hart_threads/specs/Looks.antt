-- The doze of which a hart keeps a copy. Source: SBI specification 2.0, chapter 13; docs/THREADS.md,
-- "A doze".
use Rattle.std.specs.Prelude.{Bool, true, false, Option, None}
use Rattle.sbi_calls.specs.Words.{is_doze}
use Rattle.sbi.specs.declared.words.Word.{Word}
use Rattle.sbi.specs.declared.words.Word.TheVariants.{Goes, Over}
use Rattle.susp.specs.declared.buses.Doze.{Doze}

-- the doze of which a hart keeps a copy once a durable call of it was made: the one that the bus then has, where
-- the board dozes
abbrev pub doze_if : Bool → Option Doze → Option Doze
doze_if false found = None
doze_if true found = found

abbrev pub doze_by : Word → Option Doze → Option Doze
doze_by (Goes did) found = doze_if (is_doze did) found
doze_by (Over end) found = None
