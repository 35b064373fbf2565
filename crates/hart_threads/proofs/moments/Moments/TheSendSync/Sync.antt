-- What contracts alone remember is no data, so any threads may share it.
use denote.Memory.{part_of, raw_all}
use denote.Param.Send.{IsSync, cell_keyless}
use Rattle.hart_threads.specs.contracts.moments.Moments.{the_row}

pub sync : IsSync the_row
unfolding part_of
sync = record { shared = λ d b o κ. λ q vs. (cell_keyless q (raw_all the_row.mir) vs b o, ((λ vss. (tt, ((λ uss. (tt, tt)), tt))), tt)) }
