use Rattle.std.proofs.{Common.{ℕ, ap, ◌∙◌, arith, if◌then◌else◌}, lemmas.List.get_or_read}
use Rattle.model_board.{specs.Plain.raised, proofs.Plains.{one_sent, all_sent, still_tables}}
use Rattle.model_board.proofs.tables.PlainTables.send.Goals as goal

pub loop-target-preserved : goal.loop-target-preserved
loop-target-preserved c =
    let x = c.loop-target.invariant.sent in
    record {
      states = c.loop-target.invariant.states;
      sent = one_sent _ _ _ _ _ _ _ _ x (omega (arith, x.long)) (rw c.unwrap-hart.ensures at c.new.ensures.some).0 c.contains.ensures.0 c.contains.ensures.1
          (c.raised.ensures ∙ ap (λ (v : ℕ). if c.contains.result then raised c.args.by v else v) (get_or_read c.loop-target.self-inside.pending.items c.loop-target.target c.index-senders.result.now (omega (arith, x.long)) c.index-senders.ensures 0));
    }

pub invariant_of-self : goal.invariant_of-self
invariant_of-self c =
    rw c.loop-target.invariant.states (still_tables c.self.inside.states.items c.self.inside.pending.items c.loop-target.self-inside.pending.items c.args.self.now c.args.by c.args.targets c.loop-target.target c.self.view_is c.self.invariant c.requires c.loop-target.invariant.sent (omega arith))

pub returns-clause-pairs : goal.returns-clause-pairs
returns-clause-pairs c =
    rw c.loop-target.invariant.states (all_sent c.self.inside.states.items c.self.inside.pending.items c.loop-target.self-inside.pending.items c.args.self.now c.args.by c.args.targets c.loop-target.target c.self.view_is c.self.invariant c.requires c.loop-target.invariant.sent (omega arith))
