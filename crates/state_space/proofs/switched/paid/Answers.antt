use Rattle.std.proofs.Common.{◌+◌, ℕ, Option, ⊎_elim, inl, inr, sym, subst, arith}
use Rattle.state_space.proofs.Priced.{IsPaid, none_paid, own_paid, other_paid}
use Rattle.state_space.proofs.switched.paid.Goals as goal

pub returns-in_default-clause-some : goal.returns-in_default-clause-some
returns-in_default-clause-some c =
    subst (λ (who : Option ℕ). IsPaid c.args.is_free c.args.last c.args.left who 0 c.args.left) (sym c.in_default.is)
    (none_paid c.args.is_free c.args.last c.args.left)

pub returns-then-is_free-clause-some : goal.returns-then-is_free-clause-some
returns-then-is_free-clause-some c =
    subst (λ (who : Option ℕ). IsPaid c.args.is_free c.args.last c.args.left who (c.in-Some.process + 1) c.args.left) (sym c.in-Some.is)
    (own_paid c.args.is_free c.args.last c.args.left c.in-Some.process (⊎_elim (λ x. inl x) (λ x. inr x.1) c.then-is_free.either))

pub returns-clause-some : goal.returns-clause-some
returns-clause-some c =
    subst (λ (who : Option ℕ). IsPaid c.args.is_free c.args.last c.args.left who (c.in-Some.process + 1) c.in_ok-checked_sub.field-0) (sym c.in-Some.is)
    (other_paid c.args.is_free c.args.last c.args.left c.in-Some.process c.in_ok-checked_sub.field-0 c.if-is_free.false c.if-last-number.false
    (omega (arith, c.in_ok-checked_sub.ensures)))
