use Rattle.std.proofs.Common.{◌≡◌, sym, ◌∙◌}
use Rattle.hsm.specs.{Rule.IsSite, States.start_pending, Views.state_in}
use Rattle.hsm.proofs.Copying.{read_as, started_is, stopped_is, suspended_is, pending_of, some_of, address_is, opaque_is}
use Rattle.hsm.specs.declared.state.State.TheVariants as codes
use Rattle.hsm.proofs.standings.standing_of.Goals as goal

pub returns-in-Started-clause-standing : goal.returns-in-Started-clause-standing
returns-in-Started-clause-standing c =
    let x = state_in c.args.seat.now.me.0 c.args.hart in
    let says = (c.peek-found.ensures.tells (state_in c.args.seat.now.me.0) c.requires.shown c.args.hart c.requires.hart).0 in
    started_is x (read_as c.peek-found.result c.args.hart x codes.Started c.in-Started.ensures says)

pub returns-in-Stopped-clause-standing : goal.returns-in-Stopped-clause-standing
returns-in-Stopped-clause-standing c =
    let x = state_in c.args.seat.now.me.0 c.args.hart in
    let says = (c.peek-found.ensures.tells (state_in c.args.seat.now.me.0) c.requires.shown c.args.hart c.requires.hart).0 in
    stopped_is x (read_as c.peek-found.result c.args.hart x codes.Stopped c.in-Stopped.ensures says)

pub returns-in-Suspended-clause-standing : goal.returns-in-Suspended-clause-standing
returns-in-Suspended-clause-standing c =
    let x = state_in c.args.seat.now.me.0 c.args.hart in
    let says = (c.peek-found.ensures.tells (state_in c.args.seat.now.me.0) c.requires.shown c.args.hart c.requires.hart).0 in
    suspended_is x (read_as c.peek-found.result c.args.hart x codes.Suspended c.in-Suspended.ensures says)

pub unwrap-address-requires : goal.unwrap-address-requires
unwrap-address-requires c =
    let view = c.args.seat.now.me.0 in
    let x = state_in view c.args.hart in
    let says = (c.peek-found.ensures.tells (state_in view) c.requires.shown c.args.hart c.requires.hart).0 in
    let pends = pending_of x (read_as c.peek-found.result c.args.hart x codes.StartPending c.in-StartPending.ensures says) in
    let told = address_is c.args.table.now.table.shared.key.harts c.args.hart view c.requires.shown pends c.peek-found.new.seat.me.0 c.peek_address-site.result c.peek-found.ensures.same c.peek_address-site.ensures.start in
    some_of c.new.result (IsSite c.peek_address-site.result) c.new.ensures.none told.1

pub returns-in-StartPending-clause-standing : goal.returns-in-StartPending-clause-standing
returns-in-StartPending-clause-standing c =
    let harts = c.args.table.now.table.shared.key.harts in
    let view = c.args.seat.now.me.0 in
    let x = state_in view c.args.hart in
    let says = (c.peek-found.ensures.tells (state_in view) c.requires.shown c.args.hart c.requires.hart).0 in
    let pends = pending_of x (read_as c.peek-found.result c.args.hart x codes.StartPending c.in-StartPending.ensures says) in
    let told = address_is harts c.args.hart view c.requires.shown pends c.peek-found.new.seat.me.0 c.peek_address-site.result c.peek-found.ensures.same c.peek_address-site.ensures.start in
    let opaque : c.peek_opaque-opaque.result ≡ pends.1 = opaque_is harts c.args.hart view c.requires.shown pends c.peek_address-site.new.seat.me.0 c.peek_opaque-opaque.result (c.peek_address-site.ensures.same ∙ c.peek-found.ensures.same) c.peek_opaque-opaque.ensures.start in
    let address : c.unwrap-address.result ≡ pends.0 = (rw c.unwrap-address.ensures at c.new.ensures.some).0 ∙ told.0 in
    let is : x ≡ start_pending pends.0 pends.1 = pends.2 in
    rw (address, opaque) (sym is)
