use Rattle.std.{proofs.Common.{ℕ, ◌+◌, List}, specs.{Prelude.OnSome, Option.option_map_or, Io.KnownBytes.Appends}}
use Rattle.std.specs.Iterator.{IsFinite, size}
use Rattle.debug_session.specs.{Ats.IsAt, Sessions.{size_of, timeline_of}}
use Rattle.sbigdb.{specs.Talks.session_in, proofs.Responses.GoesOn}
use Rattle.sbigdb.proofs.streams.answers.Given as goal

abbrev pub invariant-loop-next : goal.invariant-loop-next
invariant-loop-next g l = record {
  at : IsAt (size_of (session_in l.talk)) (timeline_of (session_in l.talk));
  can : OnSome l.next (g.I.Iterator.can_next l.heard);
  ends : IsFinite (g.I.Iterator.remaining l.heard);
  sent : (sent : List ℕ) × GoesOn g.I.Iterator.next_gives l.fn.first l.next l.fn.heard l.heard l.fn.talk l.talk sent × Appends (g.W.Write.contents l.fn.out) (g.W.Write.contents l.out) sent;
}

-- what the input may give yet, and what it gave last
abbrev pub decreases-loop-next : goal.decreases-loop-next
decreases-loop-next g l = option_map_or (λ _. size (g.I.Iterator.remaining l.heard) + 1) l.next 0
