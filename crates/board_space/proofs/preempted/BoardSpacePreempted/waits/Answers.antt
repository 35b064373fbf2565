use Rattle.std.proofs.Common.{◌≡◌, false, ℕ, Bool, ap, sym, subst, ◌∙◌}
use Rattle.state_space.specs.Systems.{Stay}
use Rattle.board_space.{specs.{Covering.StandsAll, Few.WaitsAt, Settings.{Setting, asked_of}}, proofs.Covered.{all_stays, exact_stands}}
use Rattle.board_space.proofs.preempted.BoardSpacePreempted.waits.Goals as goal

pub waits_at-requires-clause-known : goal.waits_at-requires-clause-known
waits_at-requires-clause-known c = let known = c.requires.known in (known.1.0, known.1.1)

pub returns-in-Some-clause-stays : goal.returns-in-Some-clause-stays
returns-in-Some-clause-stays c =
    subst (λ (l : Bool). Stay (StandsAll c.args.self.now.leaves c.args.self.now.rows) (StandsAll l c.waits_at.new.self.rows)) (sym (ap (λ (t : Setting). t.leaves) c.waits_at.ensures.setting))
    (all_stays c.args.self.now.leaves c.args.self.now.rows c.waits_at.new.self.rows c.waits_at.ensures.stay)

pub returns-in-Some-clause-waits : goal.returns-in-Some-clause-waits
returns-in-Some-clause-waits c is b stands =
    let none : c.args.self.now.leaves ≡ false = sym c.leaves_out.ensures ∙ c.if-leaves_out.false in
    let at = exact_stands c.args.self.now.leaves c.args.self.now.rows c.args.row.now b none stands in
    subst (λ (t : Setting). WaitsAt t.asked c.args.process b) (sym c.waits_at.ensures.setting)
    (subst (λ (n : ℕ). WaitsAt (asked_of c.args.self.now) n b) c.in-Some.ensures.some.0 (c.waits_at.ensures.waits is b at))

pub returns-in-Some-clause-goes : goal.returns-in-Some-clause-goes
returns-in-Some-clause-goes c is b stands waits =
    let none : c.args.self.now.leaves ≡ false = sym c.leaves_out.ensures ∙ c.if-leaves_out.false in
    let at = exact_stands c.args.self.now.leaves c.args.self.now.rows c.args.row.now b none stands in
    c.waits_at.ensures.goes is b at
    (subst (λ (n : ℕ). WaitsAt (asked_of c.args.self.now) n b) (sym c.in-Some.ensures.some.0)
    (subst (λ (t : Setting). WaitsAt t.asked c.args.process b) c.waits_at.ensures.setting waits))
