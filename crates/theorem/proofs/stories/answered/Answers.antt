use Rattle.std.proofs.Common.{sym, subst}
use Rattle.store.specs.Views.{view_of}
use Rattle.theorem.specs.{Story.Now, Told.{IsOn, Answers}, declared.asks.Asked.Asked}
use Rattle.theorem.proofs.stories.answered.Goals as goal

pub returns-in-Command : goal.returns-in-Command
returns-in-Command g c = λ w on.
    let size = c.args.shape.now in
    let P : Asked → Type 0 = λ a. (v : Now) × Answers size w a c.command_seen.result v × IsOn size v (view_of c.command_seen.new.store) in
    subst P (sym c.in-Command.is) (c.command_seen.ensures size w on)

pub returns-in-Suspend : goal.returns-in-Suspend
returns-in-Suspend g c = λ w on.
    let size = c.args.shape.now in
    let P : Asked → Type 0 = λ a. (v : Now) × Answers size w a c.suspension_seen.result v × IsOn size v (view_of c.suspension_seen.new.store) in
    subst P (sym c.in-Suspend.is) (c.suspension_seen.ensures size w on)

pub returns-in-Load : goal.returns-in-Load
returns-in-Load g c = λ w on.
    let size = c.args.shape.now in
    let P : Asked → Type 0 = λ a. (v : Now) × Answers size w a c.load_seen.result v × IsOn size v (view_of c.load_seen.new.store) in
    subst P (sym c.in-Load.is) (c.load_seen.ensures w on)

pub returns-in-Resume : goal.returns-in-Resume
returns-in-Resume g c = λ w on.
    let size = c.args.shape.now in
    let P : Asked → Type 0 = λ a. (v : Now) × Answers size w a c.resume_seen.result v × IsOn size v (view_of c.resume_seen.new.store) in
    subst P (sym c.in-Resume.is) (c.resume_seen.ensures w on)
