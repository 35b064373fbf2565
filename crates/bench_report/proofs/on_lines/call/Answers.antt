use Rattle.std.proofs.Common.{◌≡◌, Option, true≢false, refl, sym, subst}
use Rattle.machine.specs.{Machine.{Machine, hart_at}, Shows.{HasHart, called_line}}
use Rattle.sbi.specs.declared.words.Word.{Word}
use Rattle.bench_report.{specs.{declared.power.Power.TheVariants.On, Views.machine_in}, proofs.Lines.{on_calls, call_lacks, Follows}}
use Rattle.bench_report.proofs.on_lines.call.Goals as goal

pub returns-in-None : goal.returns-in-None
returns-in-None g c = λ size b h.
    let P : Machine → Type 0 = λ m. HasHart m c.args.hart in
    let has : HasHart (machine_in c.args.board) c.args.hart = subst P c.machine.ensures (c.if-not-has.ensures.0 refl) in
    let new = c.call-said.new.self in
    let S : Machine → Type 0 = λ m. c.called-line.result ≡ called_line c.args.hart (hart_at m c.args.hart) c.call-said.result in
    let line : S (machine_in new) = subst S c.machine-2.ensures c.called-line.ensures in
    let F : Option Word → Type 0 = λ o. Follows size b c.args.board new c.args.hart c.args.words c.call-said.result c.called-line.result (On new) h has line o in
    on_calls size b c.args.board new c.args.hart c.args.words c.call-said.result c.called-line.result (On new) h has line c.call-said.ensures.calls
    (subst F (sym c.in-None.is) (λ x is. is))

pub returns-in-Some : goal.returns-in-Some
returns-in-Some g c = λ size b h.
    let P : Machine → Type 0 = λ m. HasHart m c.args.hart in
    let has : HasHart (machine_in c.args.board) c.args.hart = subst P c.machine.ensures (c.if-not-has.ensures.0 refl) in
    let new = c.call-said.new.self in
    let S : Machine → Type 0 = λ m. c.called-line.result ≡ called_line c.args.hart (hart_at m c.args.hart) c.call-said.result in
    let line : S (machine_in new) = subst S c.machine-2.ensures c.called-line.ensures in
    let F : Option Word → Type 0 = λ o. Follows size b c.args.board new c.args.hart c.args.words c.call-said.result c.called-line.result c.after.result h has line o in
    on_calls size b c.args.board new c.args.hart c.args.words c.call-said.result c.called-line.result c.after.result h has line c.call-said.ensures.calls
    (subst F (sym c.in-Some.is) (λ x is. c.after.ensures.reported size x is, c.after.ensures.on))

pub returns-then-not-has : goal.returns-then-not-has
returns-then-not-has g c = λ size b h.
    let P : Machine → Type 0 = λ m. HasHart m c.args.hart → ⊥ in
    call_lacks size b c.args.board c.args.hart c.args.words h (subst P c.machine.ensures (λ has. true≢false (sym (c.if-not-has.ensures.1 has))))
