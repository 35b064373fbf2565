use Rattle.std.{proofs.Common.{◌≡◌, refl, sym, subst, ℕ, ◌+◌, ◌*◌, ◌<◌, false, None, arith}, specs.Int.bit_at}
use Rattle.hsm.specs.declared.view.{Stage.TheVariants.{Out, Ready, Addressed, Loaded, Running}, Action.TheVariants.{Looked, Read, Entered}}
use Rattle.hsm.specs.{States.{HartState, Shows, change_at, entry, begin}, Calls.{is_ready, FindsNone, EntersAs}}
use Rattle.hsm.proofs.{Alone.{Goes, goes, goes_on}, Bits.{set_bit, clear_bit}, calls.try_enter_beside.Given.Over}
use Rattle.hsm.proofs.Entering.{unarmed, armed_ready, gone_in, stays_out, gets_ready, enters_none, enters_some}
use Rattle.hsm.proofs.calls.try_enter_beside.Goals.{After-poll-found, Then-not-contains, Then-contains, Else-contains, After-read_address-site, After-read_opaque-opaque, After-enter}
use Rattle.tallies.specs.Notes.{HasNoted}
use Rattle.hsm.proofs.calls.try_enter_beside.Goals as goal

-- ---- the look did not find the hart ready
not_armed : (g : Over) (c : Then-not-contains g) → is_ready c.args.by c.poll-found.result ≡ false
not_armed g c =
    let h = c.args.by in
    let few = c.args.table.now.few in
    let lt : h < 8 = let own = c.requires.1.1 in omega arith in
    let found = c.poll-found.result in
    let zero = clear_bit c.contains.result c.armed_in.result h found (8 + h) c.contains.ensures (c.armed_in.ensures h lt) c.if-not-contains.true in
    unarmed h found (λ e. omega arith)

entered : (g : Over) (c : Then-contains g) → is_ready c.args.by c.poll-found.result ≡ false
entered g c =
    let h = c.args.by in
    let few = c.args.table.now.few in
    let lt : h < 8 = let own = c.requires.1.1 in omega arith in
    let found = c.poll-found.result in
    let one = set_bit c.contains-2.result c.entered_in.result h found (16 + h) c.contains-2.ensures (c.entered_in.ensures h lt) c.if-contains.true in
    gone_in h found (λ e. omega arith)

waits : (g : Over) (c : After-poll-found g) → is_ready c.args.by c.poll-found.result ≡ false → Goes c.args.by Out c.args.seat.me.0 c.poll-found.new.seat.me.0
waits g c z =
    let h = c.args.by in
    let found = c.poll-found.result in
    let c0 = c.args.seat.me.0 in
    let c1 = c.poll-found.new.seat.me.0 in
    goes c.args.table.now.table.shared.key.harts h Out Out (Looked found) c0 c1 (stays_out h found c0 c1 c.poll-found.ensures.told z) c.requires.1.0

waits_alone : (g : Over) (c : After-poll-found g) → is_ready c.args.by c.poll-found.result ≡ false
    → (states : ℕ → HartState) → Shows c.args.table.now.table.shared.key.harts c.args.seat.me.0 states
    → (None ≡ entry (states c.args.by)) × Shows c.args.table.now.table.shared.key.harts c.poll-found.new.seat.me.0 (change_at c.args.by begin states)
waits_alone g c z states shown =
    enters_none c.args.table.now.table.shared.key.harts c.args.by c.poll-found.result c.args.seat.me.0 c.poll-found.new.seat.me.0 c.poll-found.ensures.told z c.requires.1.0 c.requires.1.1 c.poll-found.ensures.tells states shown

waits_steps : (g : Over) (c : After-poll-found g) → is_ready c.args.by c.poll-found.result ≡ false → FindsNone c.args.by c.args.seat.me.0.harts c.poll-found.new.seat.me.0.harts
waits_steps g c z = (c.poll-found.result, z, stays_out c.args.by c.poll-found.result c.args.seat.me.0 c.poll-found.new.seat.me.0 c.poll-found.ensures.told z)

pub returns-then-not-contains-clause-steps : goal.returns-then-not-contains-clause-steps
returns-then-not-contains-clause-steps g c = let at = goal.at.returns-then-not-contains-clause-steps g c in waits_steps g at.After-poll-found (not_armed g at.Then-not-contains)

pub returns-then-contains-clause-steps : goal.returns-then-contains-clause-steps
returns-then-contains-clause-steps g c = let at = goal.at.returns-then-contains-clause-steps g c in waits_steps g at.After-poll-found (entered g at.Then-contains)

pub returns-then-not-contains-clause-stands : goal.returns-then-not-contains-clause-stands
returns-then-not-contains-clause-stands g c = let at = goal.at.returns-then-not-contains-clause-stands g c in (waits g at.After-poll-found (not_armed g at.Then-not-contains)).own

pub returns-then-not-contains-clause-others : goal.returns-then-not-contains-clause-others
returns-then-not-contains-clause-others g c = let at = goal.at.returns-then-not-contains-clause-others g c in (waits g at.After-poll-found (not_armed g at.Then-not-contains)).others

pub returns-then-not-contains-clause-alone : goal.returns-then-not-contains-clause-alone
returns-then-not-contains-clause-alone g c = let at = goal.at.returns-then-not-contains-clause-alone g c in waits_alone g at.After-poll-found (not_armed g at.Then-not-contains)

pub returns-then-contains-clause-stands : goal.returns-then-contains-clause-stands
returns-then-contains-clause-stands g c = let at = goal.at.returns-then-contains-clause-stands g c in (waits g at.After-poll-found (entered g at.Then-contains)).own

pub returns-then-contains-clause-others : goal.returns-then-contains-clause-others
returns-then-contains-clause-others g c = let at = goal.at.returns-then-contains-clause-others g c in (waits g at.After-poll-found (entered g at.Then-contains)).others

pub returns-then-contains-clause-alone : goal.returns-then-contains-clause-alone
returns-then-contains-clause-alone g c = let at = goal.at.returns-then-contains-clause-alone g c in waits_alone g at.After-poll-found (entered g at.Then-contains)

-- ---- it did: two loads and the entry
-- what it found of the two bits
armed : (g : Over) (c : Else-contains g) → bit_at c.poll-found.result (8 + c.args.by) ≡ 1
armed g c =
    let few = c.args.table.now.few in
    let lt : c.args.by < 8 = let own = c.requires.1.1 in omega arith in
    set_bit c.contains.result c.armed_in.result c.args.by c.poll-found.result (8 + c.args.by) c.contains.ensures (c.armed_in.ensures c.args.by lt) c.if-not-contains.false

waiting : (g : Over) (c : Else-contains g) → bit_at c.poll-found.result (16 + c.args.by) ≡ 0
waiting g c =
    let few = c.args.table.now.few in
    let lt : c.args.by < 8 = let own = c.requires.1.1 in omega arith in
    clear_bit c.contains-2.result c.entered_in.result c.args.by c.poll-found.result (16 + c.args.by) c.contains-2.ensures (c.entered_in.ensures c.args.by lt) c.if-contains.false

looked : (g : Over) (c : Else-contains g) → HasNoted c.args.by Ready (Looked c.poll-found.result) c.args.seat.me.0.harts c.poll-found.new.seat.me.0.harts
looked g c = gets_ready c.args.by c.poll-found.result c.args.seat.me.0 c.poll-found.new.seat.me.0 c.poll-found.ensures.told (armed g c) (waiting g c)

ready : (g : Over) (c : Else-contains g) → Goes c.args.by Ready c.args.seat.me.0 c.poll-found.new.seat.me.0
ready g c = goes c.args.table.now.table.shared.key.harts c.args.by Out Ready (Looked c.poll-found.result) c.args.seat.me.0 c.poll-found.new.seat.me.0 (looked g c) c.requires.1.0

addressed : (g : Over) (c : After-read_address-site g) → Goes c.args.by Ready c.args.seat.me.0 c.poll-found.new.seat.me.0 → Goes c.args.by (Addressed c.read_address-site.result) c.args.seat.me.0 c.read_address-site.new.seat.me.0
addressed g c gone =
    let a = c.read_address-site.result in
    goes_on c.args.table.now.table.shared.key.harts c.args.by Ready (Addressed a) (Read (1 + 2 * c.args.by) a) c.args.seat.me.0 c.poll-found.new.seat.me.0 c.read_address-site.new.seat.me.0 gone c.read_address-site.ensures.told

loaded : (g : Over) (c : After-read_opaque-opaque g) → Goes c.args.by (Addressed c.read_address-site.result) c.args.seat.me.0 c.read_address-site.new.seat.me.0
    → Goes c.args.by (Loaded c.read_address-site.result c.read_opaque-opaque.result) c.args.seat.me.0 c.read_opaque-opaque.new.seat.me.0
loaded g c gone =
    let a = c.read_address-site.result in
    let o = c.read_opaque-opaque.result in
    goes_on c.args.table.now.table.shared.key.harts c.args.by (Addressed a) (Loaded a o) (Read (2 + 2 * c.args.by) o) c.args.seat.me.0 c.read_address-site.new.seat.me.0 c.read_opaque-opaque.new.seat.me.0 gone c.read_opaque-opaque.ensures.told

enters : (g : Over) (c : After-enter g) → Goes c.args.by (Loaded c.read_address-site.result c.read_opaque-opaque.result) c.args.seat.me.0 c.read_opaque-opaque.new.seat.me.0 → Goes c.args.by Running c.args.seat.me.0 c.enter.new.seat.me.0
enters g c gone =
    let a = c.read_address-site.result in
    let o = c.read_opaque-opaque.result in
    goes_on c.args.table.now.table.shared.key.harts c.args.by (Loaded a o) Running (Entered c.args.by a o g.beside) c.args.seat.me.0 c.read_opaque-opaque.new.seat.me.0 c.enter.new.seat.me.0 gone c.enter.ensures.told

pub read_address-site-requires-clause-acts : goal.read_address-site-requires-clause-acts
read_address-site-requires-clause-acts g c = (ready g (goal.at.read_address-site-requires-clause-acts g c).Else-contains).own

pub read_opaque-opaque-requires-clause-acts : goal.read_opaque-opaque-requires-clause-acts
read_opaque-opaque-requires-clause-acts g c =
    let at = goal.at.read_opaque-opaque-requires-clause-acts g c in (addressed g at.After-read_address-site (ready g at.Else-contains)).own

pub enter-requires-clause-acts : goal.enter-requires-clause-acts
enter-requires-clause-acts g c =
    let at = goal.at.enter-requires-clause-acts g c in (loaded g at.After-read_opaque-opaque (addressed g at.After-read_address-site (ready g at.Else-contains))).own

pub returns-clause-stands : goal.returns-clause-stands
returns-clause-stands g c =
    let at = goal.at.returns-clause-stands g c in (enters g at.After-enter (loaded g at.After-read_opaque-opaque (addressed g at.After-read_address-site (ready g at.Else-contains)))).own

pub returns-clause-others : goal.returns-clause-others
returns-clause-others g c =
    let at = goal.at.returns-clause-others g c in (enters g at.After-enter (loaded g at.After-read_opaque-opaque (addressed g at.After-read_address-site (ready g at.Else-contains)))).others

pub returns-clause-alone : goal.returns-clause-alone
returns-clause-alone g c = λ states shown.
    let at = goal.at.returns-clause-alone g c in
    let a = c.read_address-site.result in
    let same : c.unwrap-address.result ≡ a = (rw c.unwrap-address.ensures at c.new.ensures.some).0 in
    rw same
    (enters_some c.args.table.now.table.shared.key.harts c.args.by c.poll-found.result a c.read_opaque-opaque.result g.beside c.args.seat.me.0 c.poll-found.new.seat.me.0 c.read_address-site.new.seat.me.0 c.read_opaque-opaque.new.seat.me.0 c.enter.new.seat.me.0
    (looked g at.Else-contains) c.read_address-site.ensures.told c.read_opaque-opaque.ensures.told c.enter.ensures.told c.requires.1.0 c.enter.ensures.open states shown)

pub poll-found-requires-clause-named : goal.poll-found-requires-clause-named
poll-found-requires-clause-named g c = (refl, refl)

pub poll-found-requires-clause-seat : goal.poll-found-requires-clause-seat
poll-found-requires-clause-seat g c = c.requires.0

pub poll-found-requires-clause-acts : goal.poll-found-requires-clause-acts
poll-found-requires-clause-acts g c = c.requires.1.0

pub returns-then-not-contains-clause-seat : goal.returns-then-not-contains-clause-seat
returns-then-not-contains-clause-seat g c = c.poll-found.ensures.seat

pub returns-then-contains-clause-seat : goal.returns-then-contains-clause-seat
returns-then-contains-clause-seat g c = c.poll-found.ensures.seat

pub read_address-site-requires-clause-named : goal.read_address-site-requires-clause-named
read_address-site-requires-clause-named g c = refl

pub read_address-site-requires-clause-seat : goal.read_address-site-requires-clause-seat
read_address-site-requires-clause-seat g c = c.poll-found.ensures.seat

pub read_address-site-requires-clause-by : goal.read_address-site-requires-clause-by
read_address-site-requires-clause-by g c = c.requires.1.1

pub read_opaque-opaque-requires-clause-named : goal.read_opaque-opaque-requires-clause-named
read_opaque-opaque-requires-clause-named g c = (refl, refl)

pub read_opaque-opaque-requires-clause-seat : goal.read_opaque-opaque-requires-clause-seat
read_opaque-opaque-requires-clause-seat g c = c.read_address-site.ensures.seat

pub read_opaque-opaque-requires-clause-by : goal.read_opaque-opaque-requires-clause-by
read_opaque-opaque-requires-clause-by g c = c.requires.1.1

pub enter-requires-clause-named : goal.enter-requires-clause-named
enter-requires-clause-named g c = (refl, refl, refl, refl)

pub enter-requires-clause-seat : goal.enter-requires-clause-seat
enter-requires-clause-seat g c = c.read_opaque-opaque.ensures.seat

pub enter-requires-clause-by : goal.enter-requires-clause-by
enter-requires-clause-by g c = c.requires.1.1

pub returns-clause-seat : goal.returns-clause-seat
returns-clause-seat g c = c.enter.ensures.seat

pub returns-clause-steps : goal.returns-clause-steps
returns-clause-steps g c =
    let at = goal.at.returns-clause-steps g c in
    let same : c.unwrap-address.result ≡ c.read_address-site.result = (rw c.unwrap-address.ensures at c.new.ensures.some).0 in
    subst (λ (a : ℕ). EntersAs c.args.by c.args.seat.me.0.harts a c.read_opaque-opaque.result g.beside c.enter.new.seat.me.0.harts) (sym same) (
      c.poll-found.result,
      c.poll-found.new.seat.me.0.harts,
      c.read_address-site.new.seat.me.0.harts,
      c.read_opaque-opaque.new.seat.me.0.harts,
      armed_ready c.args.by c.poll-found.result (armed g at.Else-contains) (waiting g at.Else-contains),
      looked g at.Else-contains,
      c.read_address-site.ensures.told,
      c.read_opaque-opaque.ensures.told,
      c.enter.ensures.told,
    )
