use Rattle.std.{proofs.Common.{◌≡◌, ◌∙◌, sym, subst, ap}, specs.Option.is_some}
use Rattle.machine.specs.Machine.{Machine}
use Rattle.model_board.specs.{Boards.{Board, Life, On}, Plain.{Sized, status_of}, declared.powers.Status.TheVariants.{Off, Ended}}
use Rattle.model_board.specs.Events.{IsEnd}
use Rattle.board_space.{specs.Space.IsFor, proofs.Covered.{on_for, same_off, same_ended}}
use Rattle.board_space.proofs.Ends.{ended_ends, off_goes, life_of_on, doze_goes, rest_ends, move_goes}
use Rattle.board_space.proofs.space.BoardSpace.is_end.Goals as goal

pub returns-in-Ended-clause-ends : goal.returns-in-Ended-clause-ends
returns-in-Ended-clause-ends c is b stands =
    let at = c.put.ensures.stands stands.0 stands.1 in
    let same : b ≡ stands.0 = same_ended c.args.self.now.leaves stands.0 b (subst (λ (d : Board). Ended ≡ status_of d) at c.in-Ended.ensures) stands.2 in
    subst (λ (d : Board). IsEnd d) (at ∙ sym same) (ended_ends c.put.new.board.board c.in-Ended.ensures)

pub returns-in-Off-clause-goes : goal.returns-in-Off-clause-goes
returns-in-Off-clause-goes c is b stands end =
    let at = c.put.ensures.stands stands.0 stands.1 in
    let same : b ≡ stands.0 = same_off c.args.self.now.leaves stands.0 b (subst (λ (d : Board). Off ≡ status_of d) at c.in-Off.ensures) stands.2 in
    off_goes c.put.new.board.board c.in-Off.ensures (subst (λ (d : Board). IsEnd d) (same ∙ sym at) end)

pub returns-then-is_some-clause-goes : goal.returns-then-is_some-clause-goes
returns-then-is_some-clause-goes c is b stands end =
    let life = life_of_on c.put.new.board.board c.in-On.ensures in
    let l : Life = life.0 in
    let on : c.machine-sized.result.now ≡ l.machine = c.machine-sized.ensures.on l life.1 in
    let here : stands.0 ≡ On l = sym (c.put.ensures.stands stands.0 stands.1) ∙ life.1 in
    let dozes : c.rest.result.doze ≡ l.machine.doze = sym (ap (λ (s : Sized). s.machine.doze) c.rest.ensures.rest) ∙ ap (λ (m : Machine). m.doze) (sym c.machine-sized.ensures.machine ∙ on) in
    let other = on_for c.args.self.now.leaves l b (subst (λ (d : Board). IsFor c.args.self.now.leaves d b) here stands.2) in
    doze_goes other.0 (c.if-is_some.ensures ∙ ap (λ (o : _). is_some o) (dozes ∙ sym other.2)) (subst (λ (d : Board). IsEnd d) other.1 end)

pub returns-else-is_some-clause-ends : goal.returns-else-is_some-clause-ends
returns-else-is_some-clause-ends c is b stands =
    let life = life_of_on c.put.new.board.board c.in-On.ensures in
    let l : Life = life.0 in
    let on : c.machine-sized.result.now ≡ l.machine = c.machine-sized.ensures.on l life.1 in
    let here : stands.0 ≡ On l = sym (c.put.ensures.stands stands.0 stands.1) ∙ life.1 in
    let dozes : c.rest.result.doze ≡ l.machine.doze = sym (ap (λ (s : Sized). s.machine.doze) c.rest.ensures.rest) ∙ ap (λ (m : Machine). m.doze) (sym c.machine-sized.ensures.machine ∙ on) in
    let size : l.machine.size ≡ c.args.self.now.shape = ap (λ (m : Machine). m.size) (sym on ∙ c.machine-sized.ensures.machine) ∙ (c.put.ensures.based.size ∙ c.args.self.now.size) in
    let other = on_for c.args.self.now.leaves l b (subst (λ (d : Board). IsFor c.args.self.now.leaves d b) here stands.2) in
    subst (λ (d : Board). IsEnd d) (sym other.1)
    (rest_ends other.0 c.args.self.now.shape (c.if-is_some.ensures ∙ ap (λ (o : _). is_some o) (dozes ∙ sym other.2)) (other.3 ∙ size)
    (c.rests.ensures.rests is stands.0 (On other.0) stands.1 (subst (λ (d : Board). IsFor c.args.self.now.leaves stands.0 d) other.1 stands.2)))

pub returns-else-is_some-clause-goes : goal.returns-else-is_some-clause-goes
returns-else-is_some-clause-goes c is b stands end =
    let life = life_of_on c.put.new.board.board c.in-On.ensures in
    let l : Life = life.0 in
    let on : c.machine-sized.result.now ≡ l.machine = c.machine-sized.ensures.on l life.1 in
    let here : stands.0 ≡ On l = sym (c.put.ensures.stands stands.0 stands.1) ∙ life.1 in
    let size : l.machine.size ≡ c.args.self.now.shape = ap (λ (m : Machine). m.size) (sym on ∙ c.machine-sized.ensures.machine) ∙ (c.put.ensures.based.size ∙ c.args.self.now.size) in
    let other = on_for c.args.self.now.leaves l b (subst (λ (d : Board). IsFor c.args.self.now.leaves d b) here stands.2) in
    move_goes other.0 c.args.self.now.shape (other.3 ∙ size)
    (c.rests.ensures.moves is stands.0 (On other.0) stands.1 (subst (λ (d : Board). IsFor c.args.self.now.leaves stands.0 d) other.1 stands.2))
    (subst (λ (d : Board). IsEnd d) other.1 end)

pub returns-then-moves-clause-goes : goal.returns-then-moves-clause-goes
returns-then-moves-clause-goes c is b stands end = c.requires.moves c.if-moves.true b stands end
