use Rattle.std.{proofs.Common.{◌≡◌, ◌≢◌, ◌+◌, ◌*◌, ◌<◌, sym, eq-eqb, ne_eqb, arith}, specs.Int.bit_at}
use Rattle.hsm.specs.declared.view.{Stage.TheVariants.{Claiming, Half, Stored, Running}, Action.TheVariants.{Claimed, Wrote, Armed}}
use Rattle.hsm.proofs.{Alone.{Goes, goes, goes_on}, Bits.{set_bit, clear_bit}}
use Rattle.hsm.proofs.Starting.{stays_running, claims_it, start_refused, start_granted}
use Rattle.hsm.proofs.calls.start.Goals.{Then-contains, Else-contains, After-put_address, After-put_opaque, After-arm}
use Rattle.tallies.specs.Notes.{HasNoted}
use Rattle.hsm.proofs.calls.start.Goals as goal

-- ---- the claim found the target claimed
taken : (c : Then-contains) → bit_at c.claim-found.result c.args.target ≢ 0
taken c = λ z.
    let t = c.args.target in
    let few = c.args.table.now.few in
    let lt : t < 8 = let own = c.requires.target in omega arith in
    let one = set_bit c.contains.result c.claimed_in.result t c.claim-found.result t c.contains.ensures (c.claimed_in.ensures.bits t lt) c.if-contains.true in
    omega arith

refused : (c : Then-contains) → HasNoted c.args.by Running (Claimed c.args.target c.value-site.result c.args.opaque c.claim-found.result) c.args.seat.me.0.harts c.claim-found.new.seat.me.0.harts
refused c =
    stays_running c.args.by c.args.target c.value-site.result c.args.opaque c.claim-found.result c.args.seat.me.0 c.claim-found.new.seat.me.0 c.claim-found.ensures.told (taken c)

stays : (c : Then-contains) → Goes c.args.by Running c.args.seat.me.0 c.claim-found.new.seat.me.0
stays c =
    goes c.args.table.now.table.shared.key.harts c.args.by Running Running (Claimed c.args.target c.value-site.result c.args.opaque c.claim-found.result) c.args.seat.me.0 c.claim-found.new.seat.me.0 (refused c) c.requires.acts

pub returns-then-contains-clause-stands : goal.returns-then-contains-clause-stands
returns-then-contains-clause-stands c = (stays (goal.at.returns-then-contains-clause-stands c).Then-contains).own

pub returns-then-contains-clause-others : goal.returns-then-contains-clause-others
returns-then-contains-clause-others c = (stays (goal.at.returns-then-contains-clause-others c).Then-contains).others

pub returns-then-contains-clause-steps : goal.returns-then-contains-clause-steps
returns-then-contains-clause-steps c =
    let at = (goal.at.returns-then-contains-clause-steps c).Then-contains in
    rw (← c.value-site.ensures.value) (c.claim-found.result, sym (ne_eqb (bit_at c.claim-found.result c.args.target) 0 (taken at)), refused at)

pub returns-then-contains-clause-alone : goal.returns-then-contains-clause-alone
returns-then-contains-clause-alone c = λ states shown.
    let at = (goal.at.returns-then-contains-clause-alone c).Then-contains in
    rw (← c.value-site.ensures.value)
    (start_refused c.args.table.now.table.shared.key.harts c.args.by c.args.target c.value-site.result c.args.opaque c.claim-found.result c.args.seat.me.0 c.claim-found.new.seat.me.0
    c.claim-found.ensures.told (taken at) c.requires.acts c.requires.target c.claim-found.ensures.tells states shown)

-- ---- it found it unclaimed: two stores, and the target is armed
clear : (c : Else-contains) → bit_at c.claim-found.result c.args.target ≡ 0
clear c =
    let t = c.args.target in
    let few = c.args.table.now.few in
    let lt : t < 8 = let own = c.requires.target in omega arith in
    clear_bit c.contains.result c.claimed_in.result t c.claim-found.result t c.contains.ensures (c.claimed_in.ensures.bits t lt) c.if-contains.false

granted : (c : Else-contains) → HasNoted c.args.by (Claiming c.args.target c.value-site.result c.args.opaque) (Claimed c.args.target c.value-site.result c.args.opaque c.claim-found.result) c.args.seat.me.0.harts c.claim-found.new.seat.me.0.harts
granted c =
    claims_it c.args.by c.args.target c.value-site.result c.args.opaque c.claim-found.result c.args.seat.me.0 c.claim-found.new.seat.me.0 c.claim-found.ensures.told (clear c)

claims : (c : Else-contains) → Goes c.args.by (Claiming c.args.target c.value-site.result c.args.opaque) c.args.seat.me.0 c.claim-found.new.seat.me.0
claims c =
    let t = c.args.target in
    let a = c.value-site.result in
    let o = c.args.opaque in
    goes c.args.table.now.table.shared.key.harts c.args.by Running (Claiming t a o) (Claimed t a o c.claim-found.result) c.args.seat.me.0 c.claim-found.new.seat.me.0 (granted c) c.requires.acts

addresses : (c : After-put_address) → Goes c.args.by (Claiming c.args.target c.value-site.result c.args.opaque) c.args.seat.me.0 c.claim-found.new.seat.me.0
    → Goes c.args.by (Half c.args.target c.value-site.result c.args.opaque) c.args.seat.me.0 c.put_address.new.seat.me.0
addresses c gone =
    let t = c.args.target in
    let a = c.value-site.result in
    let o = c.args.opaque in
    goes_on c.args.table.now.table.shared.key.harts c.args.by (Claiming t a o) (Half t a o) (Wrote (1 + 2 * t) a) c.args.seat.me.0 c.claim-found.new.seat.me.0 c.put_address.new.seat.me.0 gone c.put_address.ensures.told

stores : (c : After-put_opaque) → Goes c.args.by (Half c.args.target c.value-site.result c.args.opaque) c.args.seat.me.0 c.put_address.new.seat.me.0
    → Goes c.args.by (Stored c.args.target c.value-site.result c.args.opaque) c.args.seat.me.0 c.put_opaque.new.seat.me.0
stores c gone =
    let t = c.args.target in
    let a = c.value-site.result in
    let o = c.args.opaque in
    goes_on c.args.table.now.table.shared.key.harts c.args.by (Half t a o) (Stored t a o) (Wrote (2 + 2 * t) o) c.args.seat.me.0 c.put_address.new.seat.me.0 c.put_opaque.new.seat.me.0 gone c.put_opaque.ensures.told

arms : (c : After-arm) → Goes c.args.by (Stored c.args.target c.value-site.result c.args.opaque) c.args.seat.me.0 c.put_opaque.new.seat.me.0 → Goes c.args.by Running c.args.seat.me.0 c.arm.new.seat.me.0
arms c gone =
    goes_on c.args.table.now.table.shared.key.harts c.args.by (Stored c.args.target c.value-site.result c.args.opaque) Running (Armed c.args.target) c.args.seat.me.0 c.put_opaque.new.seat.me.0 c.arm.new.seat.me.0 gone c.arm.ensures.told

pub put_address-requires-clause-acts : goal.put_address-requires-clause-acts
put_address-requires-clause-acts c = (claims (goal.at.put_address-requires-clause-acts c).Else-contains).own

pub put_opaque-requires-clause-acts : goal.put_opaque-requires-clause-acts
put_opaque-requires-clause-acts c = let at = goal.at.put_opaque-requires-clause-acts c in (addresses at.After-put_address (claims at.Else-contains)).own

pub arm-requires-clause-acts : goal.arm-requires-clause-acts
arm-requires-clause-acts c = let at = goal.at.arm-requires-clause-acts c in (stores at.After-put_opaque (addresses at.After-put_address (claims at.Else-contains))).own

pub returns-clause-stands : goal.returns-clause-stands
returns-clause-stands c = let at = goal.at.returns-clause-stands c in (arms at.After-arm (stores at.After-put_opaque (addresses at.After-put_address (claims at.Else-contains)))).own

pub returns-clause-others : goal.returns-clause-others
returns-clause-others c = let at = goal.at.returns-clause-others c in (arms at.After-arm (stores at.After-put_opaque (addresses at.After-put_address (claims at.Else-contains)))).others

pub returns-clause-steps : goal.returns-clause-steps
returns-clause-steps c =
    let at = (goal.at.returns-clause-steps c).Else-contains in
    rw (← c.value-site.ensures.value) (
      c.claim-found.result,
      sym (eq-eqb (bit_at c.claim-found.result c.args.target) 0 (clear at)),
      (c.claim-found.new.seat.me.0.harts, c.put_address.new.seat.me.0.harts, c.put_opaque.new.seat.me.0.harts, granted at, c.put_address.ensures.told, c.put_opaque.ensures.told, c.arm.ensures.told),
    )

pub returns-clause-alone : goal.returns-clause-alone
returns-clause-alone c = λ states shown.
    let at = (goal.at.returns-clause-alone c).Else-contains in
    rw (← c.value-site.ensures.value)
    (start_granted c.args.table.now.table.shared.key.harts c.args.by c.args.target c.value-site.result c.args.opaque c.claim-found.result c.args.seat.me.0 c.claim-found.new.seat.me.0 c.put_address.new.seat.me.0 c.put_opaque.new.seat.me.0 c.arm.new.seat.me.0
    c.claim-found.ensures.told c.put_address.ensures.told c.put_opaque.ensures.told c.arm.ensures.told (clear at) c.requires.acts c.requires.target c.claim-found.ensures.tells states shown)
