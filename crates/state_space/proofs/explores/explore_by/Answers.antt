use Rattle.std.proofs.Common.{length, ap, ◌∙◌}
use Rattle.state_space.proofs.Grown.{searched_first}
use Rattle.state_space.proofs.explores.explore_by.Goals as goal

pub rows-init : goal.rows-init
rows-init g c = record {
  setting = c.start.ensures.setting;
  searched = searched_first (g.S.System.rules (g.S.System.setting c.start.new.self)) (g.S.System.stands c.start.new.self) c.in_ok-graph.graph c.in_ok-start.start.items
      c.in_ok-graph.ensures.one (c.in_ok-graph.ensures.start ∙ c.deref.ensures.value) c.in_ok-graph.ensures.none c.in_ok-graph.ensures.whole c.in_ok-start.ensures.first;
  width = c.in_ok-graph.ensures.width ∙ ap length c.deref.ensures.value ∙ c.in_ok-start.ensures.width;
  found_width = c.new-found.ensures.width ∙ c.len.ensures ∙ c.in_ok-start.start.ok.0 ∙ c.in_ok-start.ensures.width;
  workers = c.in_ok-workers.ensures;
}
