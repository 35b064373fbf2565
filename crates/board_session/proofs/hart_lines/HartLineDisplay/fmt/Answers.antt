use Rattle.board_session.proofs.hart_lines.HartLineDisplay.fmt.Goals as goal

pub returns-clause-writes : goal.returns-clause-writes
returns-clause-writes g c =
    let p = c.place_of-place.ensures in
    let t = c.trap_of-trap.ensures in
    let l = c.loop_end_of-last.ensures in
    rw (p.number, p.state, p.dozing, t.pc, t.scause, t.sepc, t.stval, l.made, l.why, l.over) at c.writeln.ensures.writes
