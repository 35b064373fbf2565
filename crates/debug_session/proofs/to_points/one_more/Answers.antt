use Rattle.std.proofs.Common.{Option, sym, ap, ◌∙◌, subst}
use Rattle.machine.specs.Machine.{Machine}
use Rattle.bench_report.specs.{Bench.Bench, Lives.Shows}
use Rattle.debug_session.{specs.Lives.{machine_of, pc_in, stands_in}, proofs.{Passed.{more_done, off_row, shown_machine}, Rests.idle_stays}}
use Rattle.debug_session.proofs.Nexts.{rests_halts, rests_goes, halts_rests, halts_goes, goes_rests, goes_halts, then_fits, then_within, then_busy, then_goes, then_ended, then_stands}
use Rattle.debug_session.proofs.to_points.one_more.Goals as goal

pub returns-then-is_idle-clause-reported : goal.returns-then-is_idle-clause-reported
returns-then-is_idle-clause-reported g c = λ size b mid was shows goes still.
    let next = c.turns-next in
    let did = next.ensures.reported size mid shows in
    let stays = idle_stays c.idle_turns_change_nothing.ensures size c.args.hart next.result mid did.0 (sym c.is_idle.ensures ∙ c.if-is_idle.true) next.ensures.range did.1 in
    let P : Bench → Type 0 = λ x. Shows size x next.new.self in
    (mid, was, subst P stays.0 did.3, λ e. stays.1, goes, λ e. absurd (rests_goes e))

pub returns-then-not-goes_on-clause-reported : goal.returns-then-not-goes_on-clause-reported
returns-then-not-goes_on-clause-reported g c = λ size b mid was shows goes still.
    let next = c.turns-next in
    let did = next.ensures.reported size mid shows in
    let all = more_done size c.args.hart c.args.points.now c.rows_join.ensures c.args.row next.result c.then.result b mid did.0 c.then.ensures c.requires.goes c.requires.some was goes still next.ensures.range did.1 in
    (did.0, all.0, did.3, λ e. absurd (halts_rests e), all.1, λ e. absurd (halts_goes e))

pub returns-then-stands_at-clause-reported : goal.returns-then-stands_at-clause-reported
returns-then-stands_at-clause-reported g c = λ size b mid was shows goes still.
    let next = c.turns-next in
    let did = next.ensures.reported size mid shows in
    let all = more_done size c.args.hart c.args.points.now c.rows_join.ensures c.args.row next.result c.then-then-stands_at.result b mid did.0 c.then-then-stands_at.ensures c.requires.goes c.requires.some was goes still next.ensures.range did.1 in
    (did.0, all.0, did.3, λ e. absurd (halts_rests e), all.1, λ e. absurd (halts_goes e))

pub returns-clause-reported : goal.returns-clause-reported
returns-clause-reported g c = λ size b mid was shows goes still.
    let next = c.turns-next in
    let did = next.ensures.reported size mid shows in
    let all = more_done size c.args.hart c.args.points.now c.rows_join.ensures c.args.row next.result c.then-2.result b mid did.0 c.then-2.ensures c.requires.goes c.requires.some was goes still next.ensures.range did.1 in
    let bench = next.new.self in
    let left = ap (λ (m : Option Machine). stands_in c.args.points.now (pc_in c.args.hart m)) (shown_machine size did.0 bench.power bench.payloads did.3) in
    (did.0, all.0, did.3, λ e. absurd (goes_rests e), all.1, λ e. sym left ∙ sym c.stands_at.ensures ∙ c.if-stands_at.false)

pub returns-then-is_idle-clause-within : goal.returns-then-is_idle-clause-within
returns-then-is_idle-clause-within g c = λ most less within. within

pub returns-then-is_idle-clause-busy : goal.returns-then-is_idle-clause-busy
returns-then-is_idle-clause-busy g c = c.requires.busy

pub returns-then-is_idle-clause-goes : goal.returns-then-is_idle-clause-goes
returns-then-is_idle-clause-goes g c = λ e. absurd (rests_goes e)

pub returns-then-is_idle-clause-halts : goal.returns-then-is_idle-clause-halts
returns-then-is_idle-clause-halts g c = λ e. absurd (rests_halts e)

pub returns-then-is_idle-clause-sound : goal.returns-then-is_idle-clause-sound
returns-then-is_idle-clause-sound g c = c.turns-next.ensures.sound

pub returns-then-is_idle-clause-fill : goal.returns-then-is_idle-clause-fill
returns-then-is_idle-clause-fill g c = c.turns-next.ensures.fill

pub returns-then-not-goes_on-clause-within : goal.returns-then-not-goes_on-clause-within
returns-then-not-goes_on-clause-within g c = then_within c.args.row c.turns-next.result c.then.result c.then.ensures c.turns-next.ensures.range

pub returns-then-not-goes_on-clause-busy : goal.returns-then-not-goes_on-clause-busy
returns-then-not-goes_on-clause-busy g c = then_busy c.args.row c.turns-next.result c.then.result c.then.ensures c.requires.busy (sym c.is_idle.ensures ∙ c.if-is_idle.false)

pub returns-then-not-goes_on-clause-goes : goal.returns-then-not-goes_on-clause-goes
returns-then-not-goes_on-clause-goes g c = λ e. absurd (halts_goes e)

pub returns-then-not-goes_on-clause-halts : goal.returns-then-not-goes_on-clause-halts
returns-then-not-goes_on-clause-halts g c = λ e size b shows. then_ended c.args.hart c.args.points.now c.args.row c.turns-next.result c.then.result (machine_of c.turns-next.new.self) c.then.ensures (sym c.goes_on.ensures ∙ c.if-not-goes_on.true) (λ off. off_row size c.args.hart 1 c.turns-next.result b c.turns-next.new.self off (c.turns-next.ensures.reported size b shows))

pub returns-then-not-goes_on-clause-sound : goal.returns-then-not-goes_on-clause-sound
returns-then-not-goes_on-clause-sound g c = c.turns-next.ensures.sound

pub returns-then-not-goes_on-clause-fill : goal.returns-then-not-goes_on-clause-fill
returns-then-not-goes_on-clause-fill g c = c.turns-next.ensures.fill

pub returns-then-stands_at-clause-within : goal.returns-then-stands_at-clause-within
returns-then-stands_at-clause-within g c = then_within c.args.row c.turns-next.result c.then-then-stands_at.result c.then-then-stands_at.ensures c.turns-next.ensures.range

pub returns-then-stands_at-clause-busy : goal.returns-then-stands_at-clause-busy
returns-then-stands_at-clause-busy g c = then_busy c.args.row c.turns-next.result c.then-then-stands_at.result c.then-then-stands_at.ensures c.requires.busy (sym c.is_idle.ensures ∙ c.if-is_idle.false)

pub returns-then-stands_at-clause-goes : goal.returns-then-stands_at-clause-goes
returns-then-stands_at-clause-goes g c = λ e. absurd (halts_goes e)

pub returns-then-stands_at-clause-halts : goal.returns-then-stands_at-clause-halts
returns-then-stands_at-clause-halts g c = λ e size b shows. then_stands c.args.hart c.args.points.now c.args.row c.turns-next.result c.then-then-stands_at.result (machine_of c.turns-next.new.self) c.then-then-stands_at.ensures (sym c.goes_on.ensures ∙ c.if-not-goes_on.false) (sym c.stands_at.ensures ∙ c.if-stands_at.true)

pub returns-then-stands_at-clause-sound : goal.returns-then-stands_at-clause-sound
returns-then-stands_at-clause-sound g c = c.turns-next.ensures.sound

pub returns-then-stands_at-clause-fill : goal.returns-then-stands_at-clause-fill
returns-then-stands_at-clause-fill g c = c.turns-next.ensures.fill

pub returns-clause-within : goal.returns-clause-within
returns-clause-within g c = then_within c.args.row c.turns-next.result c.then-2.result c.then-2.ensures c.turns-next.ensures.range

pub returns-clause-busy : goal.returns-clause-busy
returns-clause-busy g c = then_busy c.args.row c.turns-next.result c.then-2.result c.then-2.ensures c.requires.busy (sym c.is_idle.ensures ∙ c.if-is_idle.false)

pub returns-clause-goes : goal.returns-clause-goes
returns-clause-goes g c = λ e. then_goes c.args.row c.turns-next.result c.then-2.result c.then-2.ensures (sym c.goes_on.ensures ∙ c.if-not-goes_on.false) c.turns-next.ensures.range

pub returns-clause-halts : goal.returns-clause-halts
returns-clause-halts g c = λ e. absurd (goes_halts e)

pub returns-clause-sound : goal.returns-clause-sound
returns-clause-sound g c = c.turns-next.ensures.sound

pub returns-clause-fill : goal.returns-clause-fill
returns-clause-fill g c = c.turns-next.ensures.fill

pub then-requires : goal.then-requires
then-requires g c = then_fits c.args.row c.turns-next.result c.requires.few c.turns-next.ensures.range

pub then-requires-then-stands_at : goal.then-requires-then-stands_at
then-requires-then-stands_at g c = then_fits c.args.row c.turns-next.result c.requires.few c.turns-next.ensures.range

pub then-requires-2 : goal.then-requires-2
then-requires-2 g c = then_fits c.args.row c.turns-next.result c.requires.few c.turns-next.ensures.range
