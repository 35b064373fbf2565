use Rattle.std.proofs.Common.{◌≡◌, ℕ, subst, arith}
use Rattle.ipi.specs.Seating.{harts_of, pending_view_of_seat, pending_views_in}
use Rattle.sbi_calls.{specs.Steps.Sends, proofs.Raised.{sent_next, sends_next, sent_last, same_then}}
use Rattle.sbi_calls.proofs.sends.send_all.Goals as goal

pub loop-number-preserved : goal.loop-number-preserved
loop-number-preserved c =
    let n = harts_of c.args.tables.now.pending in
    let before = c.args.pending in
    let mid = c.loop-number.pending in
    let after = c.send_one-pending.result in
    let at = (rw c.unwrap-target.ensures at c.new.ensures.some).0 in record {
      seat = c.send_one-pending.ensures.seat;
      same = same_then (pending_view_of_seat before) (pending_view_of_seat mid) (pending_view_of_seat after) c.loop-number.invariant.same c.send_one-pending.ensures.same;
      sends = sends_next c.args.by c.args.targets c.loop-number.number c.unwrap-target.result (pending_views_in before) (pending_views_in mid) (pending_views_in after) at c.loop-number.invariant.sends c.send_one-pending.ensures.sends;
      sent = sent_next n c.args.by c.args.targets c.loop-number.number c.unwrap-target.result (pending_view_of_seat before) (pending_view_of_seat mid) (pending_view_of_seat after) at c.loop-number.invariant.sent c.send_one-pending.ensures.alone;
    }

pub returns-clause-sends : goal.returns-clause-sends
returns-clause-sends c =
    let a = c.loop-number-test.false in let b = c.loop-number.auto.number-end in let d = c.from-count.ensures in let e = c.harts.ensures.value in
    let last : c.loop-number.number ≡ harts_of c.args.tables.now.pending = omega arith in
    subst (λ (k : ℕ). Sends c.args.by c.args.targets k (pending_views_in c.args.pending) (pending_views_in c.loop-number.pending)) last c.loop-number.invariant.sends

pub returns-clause-alone : goal.returns-clause-alone
returns-clause-alone c =
    let a = c.loop-number-test.false in let b = c.loop-number.auto.number-end in let d = c.from-count.ensures in let e = c.harts.ensures.value in
    let last : c.loop-number.number ≡ harts_of c.args.tables.now.pending = omega arith in
    sent_last (harts_of c.args.tables.now.pending) c.args.by c.args.targets c.loop-number.number (pending_view_of_seat c.args.pending) (pending_view_of_seat c.loop-number.pending) last c.loop-number.invariant.sent
