use Rattle.image.proofs.WholeAreas.{both_ways, in_words_page}
use Rattle.image.proofs.laws.reads_where_whole.Goals as goal

pub returns-clause-whole : goal.returns-clause-whole
returns-clause-whole c size serial counts area board wide are is = both_ways size serial counts area board wide are is

pub returns-clause-pages : goal.returns-clause-pages
returns-clause-pages c size serial counts area board wide are is whole = in_words_page size serial counts area board wide are is whole
