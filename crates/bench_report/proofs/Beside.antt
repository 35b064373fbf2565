-- What is known of a deed that asks nothing of the disk and of no hart, by what is said of it and what it does.
use Rattle.std.{specs.Prelude.⊤, proofs.Common.{◌≡◌, Bool, true, false, List, ℕ, Option, Some, None, refl}}
use Rattle.board_model.specs.Durable.{DurableState}
use Rattle.susp.specs.Dozes.{can_wake}
use Rattle.report_lines.specs.declared.printed.Printed.{Printed}
use Rattle.report_lines.specs.declared.printed.Printed.TheVariants as printed
use Rattle.bench_report.specs.{Bench.BenchLife, Prefix.{Nothing, LineImplies, is_format_ok}}
use Rattle.bench_report.specs.Deeds.{Aside, CutPower, CallWake, WritePast, Beside, IsByFirmwareAlone}
use Rattle.bench_report.specs.Asides.{Effect, CutsPower, SetsDoze, WritesPast, wakes, aside}

-- it leaves the disk to the firmware
abbrev pub OfFirmware : Effect → Type 0
OfFirmware WritesPast = ⊥
OfFirmware e = ⊤

-- the board whose doze is set is the one that is on
abbrev pub FitsPower : Option BenchLife → Effect → Type 0
FitsPower p (SetsDoze doze life) = p ≡ Some life
FitsPower p e = ⊤

-- what is said tells of no command
abbrev pub TellsNothing : Printed → Effect → Type 0
TellsNothing said CutsPower = said ≡ printed.Cut
TellsNothing said e = (s t : DurableState) (up : Bool) → t ≡ s → LineImplies Nothing said s up t up

pub record IsAside (act : Aside) (p : Option BenchLife) (did : Printed × Effect) : Type 0 where
  pub firmware : IsByFirmwareAlone (Beside act) → OfFirmware did.1
  pub fits : FitsPower p did.1
  pub tells : TellsNothing did.0 did.1
  pub no_format : is_format_ok did.0 ≡ false

waking : (can : Bool) (life : BenchLife) → IsAside CallWake (Some life) (wakes can life)
waking true life = record { firmware = λ by. tt; fits = refl; tells = λ s t up e. (e, refl); no_format = refl }
waking false life = record { firmware = λ by. tt; fits = tt; tells = λ s t up e. (e, refl); no_format = refl }

pub is_aside : (act : Aside) (p : Option BenchLife) (payloads : List (List ℕ)) → IsAside act p (aside act p payloads)
is_aside CallWake (Some life) payloads = waking (can_wake life.machine.doze) life
is_aside WritePast None payloads = record { firmware = λ by. by; fits = tt; tells = λ s t up e. (e, refl); no_format = refl }
is_aside CutPower p payloads = record { firmware = λ by. tt; fits = tt; tells = refl; no_format = refl }
is_aside act None payloads = record { firmware = λ by. tt; fits = tt; tells = λ s t up e. (e, refl); no_format = refl }
is_aside act (Some life) payloads = record { firmware = λ by. tt; fits = tt; tells = λ s t up e. (e, refl); no_format = refl }
