use Rattle.std.proofs.Common.{◌≡◌, ◌∙◌, ◌+◌, ◌++◌, ℕ, List, [], ◌∷◌, Err, Some, length, false, inl, inr, refl, sym, ap, subst, rules, arith}
use Rattle.std.proofs.lemmas.List.{length-map}
use Rattle.board_model.specs.{Durable.Change, Views.change_in, declared.durable.Entry.Entry}
use Rattle.disk.specs.Facts.{Lent}
use Rattle.store.{specs.{Commits.IsUp, Entries.drop_image, Standing.memory_in, declared.doubts.Doubt.Doubt}, proofs.Entering.one_longer}
use Rattle.store.proofs.{Found.{keeps_up, keeps_doubt, of_no_doubt, of_one_doubt}, Applies.{Issues, told, none_maps, life_is, issues}}
use Rattle.store.proofs.{Answering.{wrote, goes_to, refused_so}, Going.{going_plain, going_image}, stores.Store.issue.Given.Over}
use Rattle.store.proofs.stores.Store.issue.Goals.{After-commit}
use Rattle.store.proofs.stores.Store.issue.Goals as goal

issued : (g : Over) (c : After-commit g)
    → Issues (g.D.Disk.facts c.args.self.now.disk) (g.D.Disk.facts c.commit.new.disk) c.args.self.now.shape c.args.self.now.side c.args.self.now.opened c.args.self.now.current c.args.next c.args.self.now.journal c.args.entry
issued g c =
    let s = c.args.self.now in
    let next = c.args.next in
    let up = s.kept.up c.requires.up in
    let range = c.requires.follows.in_range (up _ (g.met.D.Disk.may_keep _)).selects.is.0 in
    issues (g.D.Disk.facts s.disk) (g.D.Disk.facts c.commit.new.disk) s.shape s.side s.opened s.current next s.journal c.args.entry c.requires.follows c.commit.ensures.called.content s.folded
    up range (c.commit.ensures.commits.any_moment s.shape s.current up range)

-- ---- committed
pub invariant_of-self : goal.invariant_of-self
invariant_of-self g c =
    let did = issued g (goal.at.invariant_of-self g c).After-commit in
    let s = c.args.self.now in
    let b = g.D.Disk.facts c.commit.new.disk in
    let none = c.requires.up in
    let plain = s.plain c.requires.reaches.0 in
    record {
      kept = keeps_up b s.shape c.other-self.result c.args.next s.doubt (ap (λ (l : Lent). l.lanes) c.commit.ensures.called.lent ∙ s.kept.none_out) c.other-self.ensures.range none
          (subst (λ (k : ℕ). IsUp b s.shape k c.args.next) (sym c.other-self.ensures.value) (c.in-Ok.ensures.commits.done s.shape s.current did.up did.range));
      folded = rw c.push.ensures (did.folded_with plain);
      doubted = of_no_doubt _ s.doubt none;
      plain = λ goes. rw c.push.ensures (going_plain s.journal c.args.entry plain (sym (c.ends_life-ends.ensures []) ∙ goes));
      same_image = λ goes keeps. going_image s.shape s.current s.opened c.args.next s.journal c.args.entry c.requires.follows (s.same_image c.requires.reaches.0) (subst (λ (es : List Entry). drop_image es ≡ false) c.push.ensures keeps);
      few = (let same = length-map s.journal (λ e. change_in e (memory_in s.shape s.current (g.D.Disk.facts s.disk).content)) in let long = one_longer s.journal c.args.entry c.push.new.self c.push.ensures in omega (arith, same, long, c.requires.reaches.1));
      failed = of_no_doubt _ s.doubt none;
      legal = rw c.push.ensures (did.legal_with plain s.legal c.requires.reaches.2);
      allowed = of_no_doubt _ s.doubt none;
      counted = omega (arith, s.counted, c.commit.ensures.no_fewer);
    }

pub returns-in-Ok-clause-answered : goal.returns-in-Ok-clause-answered
returns-in-Ok-clause-answered g c =
    let did = issued g (goal.at.returns-in-Ok-clause-answered g c).After-commit in
    let s = c.args.self.now in
    let a = g.D.Disk.facts s.disk in
    let b = g.D.Disk.facts c.commit.new.disk in
    let next = c.args.next in
    let journal : told (memory_in s.shape next b.content) c.push.new.self ≡ told (memory_in s.shape s.current a.content) s.journal ++ change_in c.args.entry (memory_in s.shape next a.content) ∷ [] =
    ap (told (memory_in s.shape next b.content)) c.push.ensures ∙ did.journal_with (s.plain c.requires.reaches.0) in
    let place : c.new.result ≡ length (told (memory_in s.shape s.current a.content) s.journal) + 1 = (let same = length-map s.journal (λ e. change_in e (memory_in s.shape s.current a.content)) in let long = one_longer s.journal c.args.entry c.push.new.self c.push.ensures in search rules) in
    record {
      life = (c.requires.reaches, place, life_is _ _ _ _ _ _ _ _ did.found journal (none_maps Doubt _ _ s.doubt c.requires.up) (c.ends_life-ends.ensures _));
      leaves = goes_to _ _ _ _ _ _ did.any_moment (did.done (c.in-Ok.ensures.commits.done s.shape s.current did.up did.range));
      written = wrote a b s.shape s.side next s.kept.known (did.up a.content (g.met.D.Disk.may_keep _)).selects.gate did.range c.requires.follows.version c.in-Ok.ensures.commits.written;
      cause = c.in-Ok.ensures.called.cause.ok;
      counts = c.in-Ok.ensures.called.failures.ok;
    }

-- ---- not committed: the journal stays, and what was kept of the store is kept
pub invariant_of-self-in-Err-Unchanged-clause-kept : goal.invariant_of-self-in-Err-Unchanged-clause-kept
invariant_of-self-in-Err-Unchanged-clause-kept g c =
    let did = issued g (goal.at.invariant_of-self-in-Err-Unchanged-clause-kept g c).After-commit in
    let s = c.args.self.now in
    keeps_up _ s.shape s.side s.current s.doubt (ap (λ (l : Lent). l.lanes) c.commit.ensures.called.lent ∙ s.kept.none_out) s.kept.known c.requires.up (c.commit.ensures.commits.same (c.in-Err-Unchanged.is ∙ ap Err c.in-Err-Unchanged.field-0-is) s.shape s.current did.up)

pub invariant_of-self-in-Err-Unchanged-clause-folded : goal.invariant_of-self-in-Err-Unchanged-clause-folded
invariant_of-self-in-Err-Unchanged-clause-folded g c = (issued g (goal.at.invariant_of-self-in-Err-Unchanged-clause-folded g c).After-commit).folded

pub invariant_of-self-in-Err-Unchanged-clause-legal : goal.invariant_of-self-in-Err-Unchanged-clause-legal
invariant_of-self-in-Err-Unchanged-clause-legal g c = (issued g (goal.at.invariant_of-self-in-Err-Unchanged-clause-legal g c).After-commit).legal c.args.self.now.legal

pub invariant_of-self-in-Err-InDoubt-clause-kept : goal.invariant_of-self-in-Err-InDoubt-clause-kept
invariant_of-self-in-Err-InDoubt-clause-kept g c =
    let did = issued g (goal.at.invariant_of-self-in-Err-InDoubt-clause-kept g c).After-commit in
    let s = c.args.self.now in
    keeps_doubt _ s.shape s.side s.current _ (ap (λ (l : Lent). l.lanes) c.commit.ensures.called.lent ∙ s.kept.none_out) s.kept.known (c.commit.ensures.commits.doubt (c.in-Err-InDoubt.is ∙ ap Err c.in-Err-InDoubt.field-0-is) s.shape s.current did.up did.range)

pub invariant_of-self-in-Err-InDoubt-clause-folded : goal.invariant_of-self-in-Err-InDoubt-clause-folded
invariant_of-self-in-Err-InDoubt-clause-folded g c = (issued g (goal.at.invariant_of-self-in-Err-InDoubt-clause-folded g c).After-commit).folded

pub invariant_of-self-in-Err-InDoubt-clause-legal : goal.invariant_of-self-in-Err-InDoubt-clause-legal
invariant_of-self-in-Err-InDoubt-clause-legal g c = (issued g (goal.at.invariant_of-self-in-Err-InDoubt-clause-legal g c).After-commit).legal c.args.self.now.legal

pub invariant_of-self-in-Err-InDoubt-clause-doubted : goal.invariant_of-self-in-Err-InDoubt-clause-doubted
invariant_of-self-in-Err-InDoubt-clause-doubted g c = of_one_doubt _ _ (c.requires.follows.state (g.D.Disk.facts c.commit.new.disk).content)

pub invariant_of-self-in-Err-InDoubt-clause-allowed : goal.invariant_of-self-in-Err-InDoubt-clause-allowed
invariant_of-self-in-Err-InDoubt-clause-allowed g c = of_one_doubt _ _ ((issued g (goal.at.invariant_of-self-in-Err-InDoubt-clause-allowed g c).After-commit).allowed c.requires.reaches.2)

pub returns-in-Err-Unchanged-clause-answered : goal.returns-in-Err-Unchanged-clause-answered
returns-in-Err-Unchanged-clause-answered g c =
    let did = issued g (goal.at.returns-in-Err-Unchanged-clause-answered g c).After-commit in
    let s = c.args.self.now in
    refused_so _ _ _ _ (inl (refl, c.requires.reaches, life_is _ _ _ _ _ _ _ _ did.found did.journal_still (none_maps Doubt _ _ s.doubt c.requires.up) refl)) did.any_moment (
      did.undone (c.commit.ensures.commits.same (c.in-Err-Unchanged.is ∙ ap Err c.in-Err-Unchanged.field-0-is) s.shape s.current did.up),
      did.still (c.commit.ensures.commits.still (c.in-Err-Unchanged.is ∙ ap Err c.in-Err-Unchanged.field-0-is) s.shape s.current did.up),
    ) c.in-Err-Unchanged.ensures.called.cause.err (omega (arith, c.in-Err-Unchanged.ensures.called.failures.err))

pub returns-in-Err-InDoubt-clause-answered : goal.returns-in-Err-InDoubt-clause-answered
returns-in-Err-InDoubt-clause-answered g c =
    let did = issued g (goal.at.returns-in-Err-InDoubt-clause-answered g c).After-commit in
    let s = c.args.self.now in
    refused_so _ _ _ _ (inr (inl (refl, c.requires.reaches, life_is _ _ _ _ _ _ _ _ did.found did.journal_still (ap (λ (x : Change). Some x) did.change) refl))) did.any_moment
    (did.either s.kept.known (c.commit.ensures.commits.doubt (c.in-Err-InDoubt.is ∙ ap Err c.in-Err-InDoubt.field-0-is) s.shape s.current did.up did.range)) c.in-Err-InDoubt.ensures.called.cause.err (omega (arith, c.in-Err-InDoubt.ensures.called.failures.err))

-- ---- whatever is answered
pub returns-in-Ok-clause-stays : goal.returns-in-Ok-clause-stays
returns-in-Ok-clause-stays g c = record { board = refl; length = c.commit.ensures.called.content.as_long; none_out = ap (λ (l : Lent). l.lanes) c.commit.ensures.called.lent ∙ c.args.self.now.kept.none_out; no_fewer = c.commit.ensures.no_fewer; opened = refl }

pub returns-in-Ok-clause-memory : goal.returns-in-Ok-clause-memory
returns-in-Ok-clause-memory g c = refl

pub returns-in-Err-Unchanged-clause-stays : goal.returns-in-Err-Unchanged-clause-stays
returns-in-Err-Unchanged-clause-stays g c = record { board = refl; length = c.commit.ensures.called.content.as_long; none_out = ap (λ (l : Lent). l.lanes) c.commit.ensures.called.lent ∙ c.args.self.now.kept.none_out; no_fewer = c.commit.ensures.no_fewer; opened = refl }

pub returns-in-Err-Unchanged-clause-memory : goal.returns-in-Err-Unchanged-clause-memory
returns-in-Err-Unchanged-clause-memory g c = refl

pub returns-in-Err-InDoubt-clause-stays : goal.returns-in-Err-InDoubt-clause-stays
returns-in-Err-InDoubt-clause-stays g c = record { board = refl; length = c.commit.ensures.called.content.as_long; none_out = ap (λ (l : Lent). l.lanes) c.commit.ensures.called.lent ∙ c.args.self.now.kept.none_out; no_fewer = c.commit.ensures.no_fewer; opened = refl }

pub returns-in-Err-InDoubt-clause-memory : goal.returns-in-Err-InDoubt-clause-memory
returns-in-Err-InDoubt-clause-memory g c = refl

pub returns-in-Ok-clause-few : goal.returns-in-Ok-clause-few
returns-in-Ok-clause-few g c = tt

pub returns-in-Ok-clause-calls : goal.returns-in-Ok-clause-calls
returns-in-Ok-clause-calls g c = c.in-Ok.ensures.called.calls.ok

pub returns-in-Err-Unchanged-clause-few : goal.returns-in-Err-Unchanged-clause-few
returns-in-Err-Unchanged-clause-few g c = inl refl

pub returns-in-Err-Unchanged-clause-calls : goal.returns-in-Err-Unchanged-clause-calls
returns-in-Err-Unchanged-clause-calls g c = tt

pub returns-in-Err-InDoubt-clause-few : goal.returns-in-Err-InDoubt-clause-few
returns-in-Err-InDoubt-clause-few g c = inr refl

pub returns-in-Err-InDoubt-clause-calls : goal.returns-in-Err-InDoubt-clause-calls
returns-in-Err-InDoubt-clause-calls g c = tt

-- what stays of the store, where nothing was committed
pub invariant_of-self-in-Err-Unchanged-clause-plain : goal.invariant_of-self-in-Err-Unchanged-clause-plain
invariant_of-self-in-Err-Unchanged-clause-plain g c = c.args.self.now.plain

pub invariant_of-self-in-Err-Unchanged-clause-same_image : goal.invariant_of-self-in-Err-Unchanged-clause-same_image
invariant_of-self-in-Err-Unchanged-clause-same_image g c = c.args.self.now.same_image

pub invariant_of-self-in-Err-Unchanged-clause-few : goal.invariant_of-self-in-Err-Unchanged-clause-few
invariant_of-self-in-Err-Unchanged-clause-few g c = c.args.self.now.few

pub invariant_of-self-in-Err-Unchanged-clause-counted : goal.invariant_of-self-in-Err-Unchanged-clause-counted
invariant_of-self-in-Err-Unchanged-clause-counted g c = omega (arith, c.args.self.now.counted, c.commit.ensures.no_fewer)

pub invariant_of-self-in-Err-InDoubt-clause-plain : goal.invariant_of-self-in-Err-InDoubt-clause-plain
invariant_of-self-in-Err-InDoubt-clause-plain g c = c.args.self.now.plain

pub invariant_of-self-in-Err-InDoubt-clause-same_image : goal.invariant_of-self-in-Err-InDoubt-clause-same_image
invariant_of-self-in-Err-InDoubt-clause-same_image g c = c.args.self.now.same_image

pub invariant_of-self-in-Err-InDoubt-clause-few : goal.invariant_of-self-in-Err-InDoubt-clause-few
invariant_of-self-in-Err-InDoubt-clause-few g c = c.args.self.now.few

pub invariant_of-self-in-Err-InDoubt-clause-counted : goal.invariant_of-self-in-Err-InDoubt-clause-counted
invariant_of-self-in-Err-InDoubt-clause-counted g c = omega (arith, c.args.self.now.counted, c.commit.ensures.no_fewer)

pub invariant_of-self-in-Err-Unchanged-clause-doubted : goal.invariant_of-self-in-Err-Unchanged-clause-doubted
invariant_of-self-in-Err-Unchanged-clause-doubted g c = of_no_doubt _ c.args.self.now.doubt c.requires.up

pub invariant_of-self-in-Err-Unchanged-clause-failed : goal.invariant_of-self-in-Err-Unchanged-clause-failed
invariant_of-self-in-Err-Unchanged-clause-failed g c = of_no_doubt _ c.args.self.now.doubt c.requires.up

pub invariant_of-self-in-Err-Unchanged-clause-allowed : goal.invariant_of-self-in-Err-Unchanged-clause-allowed
invariant_of-self-in-Err-Unchanged-clause-allowed g c = of_no_doubt _ c.args.self.now.doubt c.requires.up
