use Rattle.std.{proofs.Common.{◌≡◌, Some, ap}, specs.Prelude.option_map}
use Rattle.board_model.specs.Views.{change_in}
use Rattle.store.specs.{Standing.memory_in, declared.doubts.Doubt.Doubt}
use Rattle.store.proofs.stores.Store.in_doubt.Goals as goal

pub returns : goal.returns
returns g c =
    let s = c.args.self.now in
    let content = (g.D.Disk.facts s.disk).content in
    let there : s.doubt ≡ Some c.in_ok-doubt.doubt = c.in_ok-doubt.was in
    (memory_in s.shape c.in_ok-doubt.doubt.next content, ap (option_map (λ (x : Doubt). change_in x.entry (memory_in s.shape x.next content))) there)
