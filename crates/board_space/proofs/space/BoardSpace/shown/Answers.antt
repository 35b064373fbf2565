use Rattle.std.{proofs.Common.{◌≡◌, ◌∙◌, List, ℕ, sym, subst, ap}, specs.Prelude.slice_range}
use Rattle.model_board.specs.{Boards.{Board, Life, On, Ended}, Plain.Sized, Rests.with_rest}
use Rattle.board_space.{specs.{Shown.Shows, declared.outcomes.Outcome.TheVariants.{Rests, Ends}}, proofs.Covered.shows_for}
use Rattle.board_space.proofs.Ends.{life_of_on, standing_of_ended, ended_reason}
use Rattle.board_space.proofs.space.BoardSpace.shown.Goals as goal

pub returns-in_ok-bytes-in-On-clause-shows : goal.returns-in_ok-bytes-in-On-clause-shows
returns-in_ok-bytes-in-On-clause-shows c b stands =
    let life = life_of_on c.put.new.board.board c.in-On.ensures in
    let l : Life = life.0 in
    let on : c.machine-machine.result.now ≡ l.machine = c.machine-machine.ensures.on l life.1 in
    let here : stands.0 ≡ On l = sym (c.put.ensures.stands stands.0 stands.1) ∙ life.1 in
    let memory : l.machine.memory ≡ c.bytes-ram.result.now = cc in
    let copied : c.in_ok-bytes-in-On.bytes.items ≡ slice_range c.bytes-ram.result.now c.args.from c.args.to = c.in_ok-bytes-in-On.ensures.items_if_clones_equal (λ x y same. same) in
    shows_for c.args.self.now.leaves c.args.from c.args.to (Rests c.in_ok-bytes-in-On.bytes) stands.0 b stands.2
    (subst (λ (d : Board). Shows c.args.from c.args.to (Rests c.in_ok-bytes-in-On.bytes) d) (sym here)
    (ap (λ (m : List ℕ). slice_range m c.args.from c.args.to) memory ∙ sym copied))

pub returns-in-Ended-clause-shows : goal.returns-in-Ended-clause-shows
returns-in-Ended-clause-shows c b stands =
    let ended = standing_of_ended c.put.new.board.board c.in-Ended.ensures in
    let here : stands.0 ≡ Ended ended.0 = sym (c.put.ensures.stands stands.0 stands.1) ∙ ended.1 in
    shows_for c.args.self.now.leaves c.args.from c.args.to (Ends c.rest-rest.result.reason) stands.0 b stands.2
    (subst (λ (d : Board). Shows c.args.from c.args.to (Ends c.rest-rest.result.reason) d) (sym here) (ended_reason c.rest-rest.result.power c.rest-rest.result.reason c.rest-rest.result.down (with_rest c.rest-rest.result c.put.new.board.machine) ended.0
    (sym (ap (λ (s : Sized). s.board) c.rest-rest.ensures.rest) ∙ ended.1)))
