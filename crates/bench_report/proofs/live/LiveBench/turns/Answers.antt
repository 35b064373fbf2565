use Rattle.std.proofs.Common.{◌∙◌, inl, inr, refl, sym, subst}
use Rattle.bench_report.specs.{declared.power.Power.Power, Agree.Agrees}
use Rattle.bench_report.proofs.Lives.{did_from, lost_did, lost_row, made_did, made_row, stays, still_row}
use Rattle.script_lang.specs.declared.line.Line.TheVariants as lines
use Rattle.bench_report.proofs.live.LiveBench.turns.Goals as goal

pub returns-then-is_still_on-clause-reported : goal.returns-then-is_still_on-clause-reported
returns-then-is_still_on-clause-reported g c = λ size b was.
    let row = still_row size c.args.hart c.args.count c.in-Some.made c.in-Some.word b c.args.self.now.power c.in_place.new.power c.args.self.now.payloads (c.in-Some.ensures.reported size b) was
    (c.is_still_on.ensures.on c.if-is_still_on.true) (c.is_still_on.ensures.reported c.if-is_still_on.true size) in
    (row.0, row.1, row.2, row.3)

pub returns-then-is_still_on-clause-well : goal.returns-then-is_still_on-clause-well
returns-then-is_still_on-clause-well g c = λ enough size b was.
    let row = still_row size c.args.hart c.args.count c.in-Some.made c.in-Some.word b c.args.self.now.power c.in_place.new.power c.args.self.now.payloads (c.in-Some.ensures.reported size b) was
    (c.is_still_on.ensures.on c.if-is_still_on.true) (c.is_still_on.ensures.reported c.if-is_still_on.true size) in
    (row.0, row.1, row.2, row.3, row.4 (c.refused_suspension-self.ensures.enough enough))

pub returns-then-settle-clause-reported : goal.returns-then-settle-clause-reported
returns-then-settle-clause-reported g c = λ size b was.
    let row = lost_row size c.args.hart c.args.count c.in-Some.made c.in-Some.word b c.args.self.now.power c.in_place.new.power c.args.self.now.payloads (c.in-Some.ensures.reported size b) was
    c.args.self.now.fill c.settle.result c.settle.new.self.power c.settle.new.self.payloads c.settle.ensures.payloads c.settle.ensures.settled c.if-settle.true in
    (row.0, row.1, row.2, row.3)

pub returns-then-settle-clause-well : goal.returns-then-settle-clause-well
returns-then-settle-clause-well g c = λ enough size b was.
    let row = lost_row size c.args.hart c.args.count c.in-Some.made c.in-Some.word b c.args.self.now.power c.in_place.new.power c.args.self.now.payloads (c.in-Some.ensures.reported size b) was
    c.args.self.now.fill c.settle.result c.settle.new.self.power c.settle.new.self.payloads c.settle.ensures.payloads c.settle.ensures.settled c.if-settle.true in
    (row.0, row.1, row.2, row.3, row.4 (c.refused_suspension-self.ensures.enough (sym c.settle.ensures.memory ∙ enough)))

pub returns-else-settle-clause-reported : goal.returns-else-settle-clause-reported
returns-else-settle-clause-reported g c = λ size b was.
    let row = made_row size c.args.hart c.args.count c.in-Some.made c.in-Some.word b c.args.self.now.power c.in_place.new.power c.args.self.now.payloads (c.in-Some.ensures.reported size b) was
    c.args.self.now.fill c.settle.result c.settle.new.self.power c.settle.new.self.payloads c.settle.ensures.payloads c.settle.ensures.settled c.if-settle.false in
    (row.0, row.1, row.2, row.3)

pub returns-else-settle-clause-well : goal.returns-else-settle-clause-well
returns-else-settle-clause-well g c = λ enough size b was.
    let row = made_row size c.args.hart c.args.count c.in-Some.made c.in-Some.word b c.args.self.now.power c.in_place.new.power c.args.self.now.payloads (c.in-Some.ensures.reported size b) was
    c.args.self.now.fill c.settle.result c.settle.new.self.power c.settle.new.self.payloads c.settle.ensures.payloads c.settle.ensures.settled c.if-settle.false in
    (row.0, row.1, row.2, row.3, row.4 (c.refused_suspension-self.ensures.enough (sym c.settle.ensures.memory ∙ enough)))

pub returns-in_default-clause-reported : goal.returns-in_default-clause-reported
returns-in_default-clause-reported g c = λ size b was.
    let A : Power → Type 0 = λ p. Agrees size b p in
    (b, refl, inl (c.in_default.ensures.reported size b was.0, was.2), (subst A (sym c.in_default.ensures.none) was.0, was.1, was.2))

pub returns-in_default-clause-well : goal.returns-in_default-clause-well
returns-in_default-clause-well g c = λ enough size b was.
    let A : Power → Type 0 = λ p. Agrees size b p in
    (b, refl, inl (c.in_default.ensures.reported size b was.0, was.2), (subst A (sym c.in_default.ensures.none) was.0, was.1, was.2), refl)

pub returns-then-is_still_on-clause-does : goal.returns-then-is_still_on-clause-does
returns-then-is_still_on-clause-does g c = λ size b was.
    let went = c.in-Some.ensures.reported size b was.0 in
    let agrees = stays size c.in-Some.word went.0 c.in_place.new.power (c.is_still_on.ensures.on c.if-is_still_on.true) went.5 in
    made_did size c.args.hart c.args.count c.in-Some.made c.in-Some.word c.args.self.now.fill b c.args.self.now.power c.in_place.new.power c.in_place.new.power went
    (c.is_still_on.ensures.reported c.if-is_still_on.true size went.0 agrees)

pub returns-then-settle-clause-does : goal.returns-then-settle-clause-does
returns-then-settle-clause-does g c = λ size b was.
    let went = c.in-Some.ensures.reported size b was.0 in
    let told = c.settle.ensures.settled size went.0 went.5 in
    did_from size (lines.Turn c.args.hart c.args.count) c.args.self.now.fill _ b _ c.args.self.now.power c.settle.new.self.power c.settle.ensures.fill
    (lost_did size c.args.hart c.args.count c.in-Some.made c.in-Some.word c.args.self.now.fill b c.args.self.now.power c.in_place.new.power c.settle.new.self.power went (sym told.0 ∙ c.if-settle.true)
    (told.3 c.if-settle.true))

pub returns-else-settle-clause-does : goal.returns-else-settle-clause-does
returns-else-settle-clause-does g c = λ size b was.
    let went = c.in-Some.ensures.reported size b was.0 in
    let told = c.settle.ensures.settled size went.0 went.5 in
    did_from size (lines.Turn c.args.hart c.args.count) c.args.self.now.fill _ b _ c.args.self.now.power c.settle.new.self.power c.settle.ensures.fill
    (made_did size c.args.hart c.args.count c.in-Some.made c.in-Some.word c.args.self.now.fill b c.args.self.now.power c.in_place.new.power c.settle.new.self.power went (sym told.0 ∙ c.if-settle.false))

pub returns-in_default-clause-does : goal.returns-in_default-clause-does
returns-in_default-clause-does g c = λ size b was.
    (inl (b, c.in_default.ensures.reported size b was.0, was.2), tt, tt, tt, inr tt)
