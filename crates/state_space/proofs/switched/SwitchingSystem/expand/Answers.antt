use Rattle.std.{proofs.Common.{◌≡◌, ◌-◌, ℕ, List, length, take, drop, sym, ap, subst}, specs.Prelude.slice_index}
use Rattle.state_space.specs.{Bounded.Waits, Successors.{found_count, found_event, found_row}, Systems.{IsExpanded, UnlessHalts}}
use Rattle.state_space.{specs.Switched.{IsSaid, StandsWithin, within_rules}, proofs.Priced.{after_two, expanded_within, lifted}}
use Rattle.state_space.proofs.switched.SwitchingSystem.expand.Goals as goal

pub returns-clause-successors : goal.returns-clause-successors
returns-clause-successors g c b stands =
    let s = g.S.System in
    let p = g.S.Preempted in
    let row = c.args.row.now in
    let tail : take (length row - 2) (drop 2 row) ≡ stands.0 = after_two row b.budget stands.0 stands.1 in
    let at : s.stands c.args.self.now.system (take (length row - 2) (drop 2 row)) b.state = subst (λ (r : List ℕ). s.stands c.args.self.now.system r b.state) (sym tail) stands.2 in
    let last = ap (λ (r : List ℕ). slice_index r 0) stands.1 in
    let left = ap (λ (r : List ℕ). slice_index r 1) stands.1 in
    let said =
    subst (λ t. IsSaid (Waits (s.rules t).steps p.turn p.most) c.in_ok-is_free.is_free b.budget b.state) (sym c.expand.ensures.setting)
    (c.in_ok-is_free.ensures.said b.budget b.state last at) in
    subst
    (λ x. UnlessHalts c.in_ok-said.said (IsExpanded (within_rules (s.rules (s.setting x)) p.by (Waits (s.rules (s.setting x)).steps p.turn p.most) c.add_all.new.self.switches) (StandsWithin (s.stands x)) (found_count c.add_all.new.found) (found_event c.add_all.new.found) (found_row c.add_all.new.found) b))
    (sym c.add_all.ensures.same.0)
    (lifted c.in_ok-said.said _ _
    (λ inner. expanded_within (s.rules (s.setting c.expand.new.self)) p.by (Waits (s.rules (s.setting c.expand.new.self)).steps p.turn p.most) c.add_all.new.self.switches (s.stands c.expand.new.self) c.in_ok-is_free.is_free b.budget b.state c.expand.new.found c.add_all.new.found said inner (c.in_ok-add_all-in_default.ensures.listed b.budget last left))
    (c.in_ok-said.ensures.successors b.state ((c.is_free.ensures.stays _ b.state b.state at).0 at)))
