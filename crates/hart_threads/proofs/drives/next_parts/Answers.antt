use Rattle.std.proofs.{Common.{◌≡◌, [], Some, sym, vec_len}, lemmas.List.Elements.All-pop}
use Rattle.hart_threads.{specs.declared.shared.HartParts.HartParts, proofs.Numbered.last_of}
use Rattle.hart_threads.proofs.drives.next_parts.Goals as goal

pub returns-clause-told : goal.returns-clause-told
returns-clause-told g c = (All-pop (λ (p : HartParts _). p.receipts.told ≡ []) c.args.parts.now.items c.pop.new.self.items (Some c.in-Some.last) c.in-Some.ensures.items c.requires.fresh).1

pub returns-clause-fresh : goal.returns-clause-fresh
returns-clause-fresh g c = (All-pop (λ (p : HartParts _). p.receipts.told ≡ []) c.args.parts.now.items c.pop.new.self.items (Some c.in-Some.last) c.in-Some.ensures.items c.requires.fresh).0

pub returns-clause-run : goal.returns-clause-run
returns-clause-run g c = (last_of (λ (p : HartParts _). p.run) c.args.parts.now.items c.pop.new.self.items c.in-Some.last (vec_len c.args.parts.now) (vec_len c.pop.new.self) c.in-Some.ensures.items (sym c.pop.new.self.ok.0) c.args.parts.now.ok.0 c.requires.runs).1

pub returns-clause-runs : goal.returns-clause-runs
returns-clause-runs g c = (last_of (λ (p : HartParts _). p.run) c.args.parts.now.items c.pop.new.self.items c.in-Some.last (vec_len c.args.parts.now) (vec_len c.pop.new.self) c.in-Some.ensures.items (sym c.pop.new.self.ok.0) c.args.parts.now.ok.0 c.requires.runs).0
