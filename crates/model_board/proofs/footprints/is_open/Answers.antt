use Rattle.std.proofs.Common.{◌∙◌, sym, refl, true≢false}
use Rattle.hart.specs.declared.csr.Csr.TheVariants.{Sstatus, Sie}
use Rattle.model_board.proofs.Touching.{status_open, sie_open}
use Rattle.model_board.proofs.footprints.is_open.Goals as goal

pub returns-then-has_bit-clause-opened : goal.returns-then-has_bit-clause-opened
returns-then-has_bit-clause-opened c = λ e. (
  sym (status_open c.args.hart.now _ (c.has_bit.ensures Sstatus refl)) ∙ c.if-has_bit.true,
  sym (sie_open c.args.hart.now _ (c.has_bit-then-has_bit.ensures Sie refl)) ∙ e,
)

pub returns-then-has_bit-clause-closed : goal.returns-then-has_bit-clause-closed
returns-then-has_bit-clause-closed c = λ e o. true≢false (sym o.1 ∙ (sym (sie_open c.args.hart.now _ (c.has_bit-then-has_bit.ensures Sie refl)) ∙ e))

pub returns-else-has_bit-clause-closed : goal.returns-else-has_bit-clause-closed
returns-else-has_bit-clause-closed c = λ e o. true≢false (sym o.0 ∙ (sym (status_open c.args.hart.now _ (c.has_bit.ensures Sstatus refl)) ∙ e))
