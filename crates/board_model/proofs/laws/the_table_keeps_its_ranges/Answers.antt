use Rattle.board_model.proofs.Table.{of_table, stays_valid}
use Rattle.board_model.proofs.laws.the_table_keeps_its_ranges.Goals as goal

pub returns-clause-refused : goal.returns-clause-refused
returns-clause-refused c = of_table

pub returns-clause-stays : goal.returns-clause-stays
returns-clause-stays c = stays_valid
