use Rattle.std.proofs.{Common.{◌∙◌, Ok, arith}, lemmas.Result.{err_from_is_err_and, IfOk-from_err}}
use Rattle.disk.specs.{Calls.MakesCalls, Facts.{Content, Facts, Stays}, FaultState.FaultState, Moments.{called_then, called_fewer}}
use Rattle.store.proofs.Called.{called_with}
use Rattle.store.proofs.inspects.read_records.Goals as goal

-- still the same content
goes : (p q s : Content) → Stays p q → Stays q s → Stays p s
goes p q s one two = two ∙ one

-- two reads, and the third one answered or failed
read_twice : {T E : Type 0} (a b c : Facts) (x y z : FaultState) (t u : T) → MakesCalls {T = T} {E = E} 1 Stays a b x y (Ok t) → MakesCalls {T = T} {E = E} 1 Stays b c y z (Ok u)
    → MakesCalls {T = T} {E = E} 2 Stays a c x z (Ok u)
read_twice a b c x y z t u one two = called_then 1 1 Stays a b c x y z t (Ok u) goes one two

all_read : {T U E : Type 0} (a b c d : Facts) (x y z w : FaultState) (t u v : T) (r : U) → MakesCalls {T = T} {E = E} 1 Stays a b x y (Ok t) → MakesCalls {T = T} {E = E} 1 Stays b c y z (Ok u)
    → MakesCalls {T = T} {E = E} 1 Stays c d z w (Ok v) → MakesCalls {T = U} {E = E} 3 Stays a d x w (Ok r)
all_read a b c d x y z w t u v r one two three = called_with 3 Stays a d x w v r (called_then 2 1 Stays a c d x z w u (Ok v) goes (read_twice a b c x y z t u one two) three)

pub returns-in_err-read_sector-clause-called : goal.returns-in_err-read_sector-clause-called
returns-in_err-read_sector-clause-called g c =
    let p = err_from_is_err_and c.from_residual.result c.from_residual.ensures.1 in
    rw (p.1, p.2) (called_fewer 1 3 Stays _ _ _ _ _ _ (omega arith) c.in_err-read_sector.ensures.called)

pub returns-in_err-first-clause-called : goal.returns-in_err-first-clause-called
returns-in_err-first-clause-called g c =
    let p = err_from_is_err_and c.from_residual-in_err-first.result c.from_residual-in_err-first.ensures.1 in
    rw (p.1, p.2)
    (called_fewer 2 3 Stays _ _ _ _ _ _ (omega arith) (called_then 1 1 Stays _ _ _ _ _ _ _ _ goes c.in_ok-read_sector.ensures.called c.in_err-first.ensures.called))

pub returns-in_err-second-clause-called : goal.returns-in_err-second-clause-called
returns-in_err-second-clause-called g c =
    let p = err_from_is_err_and c.from_residual-in_err-second.result c.from_residual-in_err-second.ensures.1 in
    rw (p.1, p.2)
    (called_fewer 3 3 Stays _ _ _ _ _ _ (omega arith)
    (called_then 2 1 Stays _ _ _ _ _ _ _ _ goes (read_twice _ _ _ _ _ _ _ _ c.in_ok-read_sector.ensures.called c.in_ok-first.ensures.called) c.in_err-second.ensures.called))

pub returns-then-number-eq0-clause-called : goal.returns-then-number-eq0-clause-called
returns-then-number-eq0-clause-called g c = all_read _ _ _ _ _ _ _ _ _ _ _ _ c.in_ok-read_sector.ensures.called c.in_ok-first.ensures.called c.in_ok-second.ensures.called

pub returns-else-number-eq0-clause-called : goal.returns-else-number-eq0-clause-called
returns-else-number-eq0-clause-called g c = all_read _ _ _ _ _ _ _ _ _ _ _ _ c.in_ok-read_sector.ensures.called c.in_ok-first.ensures.called c.in_ok-second.ensures.called

pub returns-in_err-read_sector-clause-gate : goal.returns-in_err-read_sector-clause-gate
returns-in_err-read_sector-clause-gate g c = IfOk-from_err c.from_residual.result _ c.from_residual.ensures.0

pub returns-in_err-read_sector-clause-live : goal.returns-in_err-read_sector-clause-live
returns-in_err-read_sector-clause-live g c = IfOk-from_err c.from_residual.result _ c.from_residual.ensures.0

pub returns-in_err-read_sector-clause-other : goal.returns-in_err-read_sector-clause-other
returns-in_err-read_sector-clause-other g c = IfOk-from_err c.from_residual.result _ c.from_residual.ensures.0

pub returns-in_err-first-clause-gate : goal.returns-in_err-first-clause-gate
returns-in_err-first-clause-gate g c = IfOk-from_err c.from_residual-in_err-first.result _ c.from_residual-in_err-first.ensures.0

pub returns-in_err-first-clause-live : goal.returns-in_err-first-clause-live
returns-in_err-first-clause-live g c = IfOk-from_err c.from_residual-in_err-first.result _ c.from_residual-in_err-first.ensures.0

pub returns-in_err-first-clause-other : goal.returns-in_err-first-clause-other
returns-in_err-first-clause-other g c = IfOk-from_err c.from_residual-in_err-first.result _ c.from_residual-in_err-first.ensures.0

pub returns-in_err-second-clause-gate : goal.returns-in_err-second-clause-gate
returns-in_err-second-clause-gate g c = IfOk-from_err c.from_residual-in_err-second.result _ c.from_residual-in_err-second.ensures.0

pub returns-in_err-second-clause-live : goal.returns-in_err-second-clause-live
returns-in_err-second-clause-live g c = IfOk-from_err c.from_residual-in_err-second.result _ c.from_residual-in_err-second.ensures.0

pub returns-in_err-second-clause-other : goal.returns-in_err-second-clause-other
returns-in_err-second-clause-other g c = IfOk-from_err c.from_residual-in_err-second.result _ c.from_residual-in_err-second.ensures.0
