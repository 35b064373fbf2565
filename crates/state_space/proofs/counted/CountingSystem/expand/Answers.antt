use Rattle.std.{proofs.Common.{◌≡◌, ◌-◌, ℕ, List, length, take, drop, sym, ap, subst}, specs.Prelude.slice_index}
use Rattle.state_space.specs.{Counted.{AreCounted, StandsCounted, counted_rules}, Successors.{found_count, found_event, found_row}}
use Rattle.state_space.{specs.Systems.{IsExpanded, UnlessHalts}, proofs.{Spending.{after_one, expanded_counted}, Priced.lifted}}
use Rattle.state_space.proofs.counted.CountingSystem.expand.Goals as goal

pub returns-clause-successors : goal.returns-clause-successors
returns-clause-successors g c b stands =
    let s = g.S.System in
    let counts = g.S.Counts.is_counted in
    let row = c.args.row.now in
    let tail : take (length row - 1) (drop 1 row) ≡ stands.0 = after_one row b.left stands.0 stands.1 in
    let at : s.stands c.args.self.now.system (take (length row - 1) (drop 1 row)) b.state = subst (λ (r : List ℕ). s.stands c.args.self.now.system r b.state) (sym tail) stands.2 in
    let left = ap (λ (r : List ℕ). slice_index r 0) stands.1 in
    subst
    (λ x. UnlessHalts c.in_ok-said.said (IsExpanded (counted_rules (s.rules (s.setting x)) counts c.add_all.new.self.most) (StandsCounted (s.stands x)) (found_count c.add_all.new.found) (found_event c.add_all.new.found) (found_row c.add_all.new.found) b))
    (sym c.add_all.ensures.same.0)
    (lifted c.in_ok-said.said _ _
    (λ inner. expanded_counted (s.rules (s.setting c.expand.new.self)) counts c.add_all.new.self.most (s.stands c.expand.new.self) b c.expand.new.found c.add_all.new.found inner (subst (λ (n : ℕ). AreCounted counts n c.expand.new.found c.add_all.new.found (found_count c.expand.new.found)) left c.in_ok-add_all-in_default.ensures.listed))
    (c.in_ok-said.ensures.successors b.state at))
