use Rattle.std.{proofs.Common.{ℕ, List, [], ◌∷◌, sym, subst}, specs.Io.KnownBytes.Consumes}
use Rattle.board_session.{specs.{declared.lines.ByteRead.ByteRead, Lines.FindsByte}, proofs.Reading.{Reading, one_more, fed, ended, failed}}
use Rattle.board_session.proofs.lines.next_line.Goals as goal

pub returns-then-byte-eq10 : goal.returns-then-byte-eq10
returns-then-byte-eq10 g c =
    let old = g.I.Read.remaining c.args.input.now in
    let mid = g.I.Read.remaining c.loop.input in
    let new = g.I.Read.remaining c.next_byte.new.input in
    let came = subst (λ (f : ByteRead). FindsByte mid new f) c.in-Byte.is c.next_byte.ensures in
    fed old mid new c.loop.line.items c.loop.invariant (subst (λ (b : ℕ). Consumes mid new (b ∷ [])) c.if-byte-eq10.true came)

pub returns-in-End : goal.returns-in-End
returns-in-End g c =
    let old = g.I.Read.remaining c.args.input.now in
    let mid = g.I.Read.remaining c.loop.input in
    let new = g.I.Read.remaining c.next_byte.new.input in
    let found = subst (λ (f : ByteRead). FindsByte mid new f) c.in-End.is c.next_byte.ensures in
    ended old mid new c.loop.line.items c.loop.invariant found.0 found.1

pub returns-in-Failure : goal.returns-in-Failure
returns-in-Failure g c =
    let old = g.I.Read.remaining c.args.input.now in
    let mid = g.I.Read.remaining c.loop.input in
    let new = g.I.Read.remaining c.next_byte.new.input in
    failed old mid new c.loop.line.items c.loop.invariant (subst (λ (f : ByteRead). FindsByte mid new f) c.in-Failure.is c.next_byte.ensures)

pub loop-preserved : goal.loop-preserved
loop-preserved g c =
    let old = g.I.Read.remaining c.args.input.now in
    let mid = g.I.Read.remaining c.loop.input in
    let new = g.I.Read.remaining c.next_byte.new.input in
    let came = subst (λ (f : ByteRead). FindsByte mid new f) c.in-Byte.is c.next_byte.ensures in
    let more = one_more old mid new c.loop.line.items c.in-Byte.byte c.loop.invariant came c.if-byte-eq10.false in
    subst (λ (xs : List ℕ). Reading old new xs) (sym c.keep.ensures) more
