-- How the orders are bounded, by what is given.
use Rattle.std.proofs.Common.{ℕ, Option}
use lib.Chars.{codes}
use Rattle.board_space.specs.declared.bounds.Bound.{Bound}
use Rattle.clap.specs.{Words.first_value, declared.parser.matches.Found.Found}
use Rattle.kernel_check.specs.Options.{IsBoundBy, IsBounded, IsGiven}

pub bounded : (f : Found) (preemptions lives : Option ℕ) (bound : Bound) → IsGiven 0 1000 (first_value f (codes "preemptions")) preemptions → IsGiven 1 1000 (first_value f (codes "lives")) lives → IsBoundBy preemptions lives bound → IsBounded f bound
bounded f preemptions lives bound few powered by = record {
  preemptions = preemptions;
  lives = lives;
  few = few;
  powered = powered;
  by = by;
}
