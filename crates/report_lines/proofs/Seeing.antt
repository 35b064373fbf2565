-- Why a disk is not seen.
use Rattle.std.{proofs.Common.{subst, arith}, specs.Prelude.IfErr}
use Rattle.board_model.specs.{Shapes.Size, declared.refusal.Refusal.Refusal}
use Rattle.board_model.specs.declared.refusal.Refusal.TheVariants.{NotFormatted, BadShape, BadRecord, Device, Memory}
use Rattle.disk.specs.Facts.{Content, Facts}
use Rattle.store.specs.{Leaves.ReadsAlone, Opens.{IsBoard, ReadsAs, OpenRefused}, Standing.StandsFor}
use Rattle.report_lines.specs.Sights.{SeeRefused, unrecorded}

pub stands_board : (c : Content) (size : Size) → ((s : _) × StandsFor c size s) → IsBoard size c
unfolding StandsFor
stands_board c size (s, stands) = (stands.2.board, stands.2.enough)

-- what an open refuses, but for that of the record
pub open_refused : (disk new : Facts) (e : Refusal) → OpenRefused disk e new → IfErr (unrecorded e) (λ f. SeeRefused disk f new)
open_refused disk new NotFormatted why = why
open_refused disk new BadShape why = why
open_refused disk new BadRecord why = tt
open_refused disk new Device why = why
open_refused disk new Memory why = (why.0, stands_board disk.content why.0 (why.1, why.2))
open_refused disk new e why = absurd why

-- a refusal after the inspection
pub refused_later : (disk mid new : Facts) (e : Refusal) → ReadsAlone disk mid → SeeRefused mid e new → SeeRefused disk e new
refused_later disk mid new NotFormatted first why = subst (λ c. ReadsAs c NotFormatted) first.content why
refused_later disk mid new BadShape first why = subst (λ c. ReadsAs c BadShape) first.content why
refused_later disk mid new Device first why = omega (arith, first.no_fewer, why)
refused_later disk mid new Memory first why = (why.0, subst (λ c. IsBoard why.0 c) first.content why.1)
refused_later disk mid new e first why = absurd why
