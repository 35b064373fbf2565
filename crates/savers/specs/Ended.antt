-- A ticket that has ended.
use Rattle.std.specs.Prelude.{ℕ, List}
use Rattle.savers.specs.declared.ended.Drawn.{Drawn}

-- All that was drawn from it, in the order in which its seats were joined.
abbrev pub numbers_of : Drawn → List ℕ
numbers_of d = d.last.value.me.0.drawn
