-- A writer that knows whether its reader is gone.
use Rattle.std.specs.Prelude.{◌≡◌, ◌⊎◌, ◌↔◌, ℕ, Bool, List, Option, IsTrue}
use Rattle.std.specs.IoError.{error_kind}
use Rattle.std.specs.declared.io.Error.{Error}
use Rattle.std.specs.declared.io.ErrorKind.TheVariants.{BrokenPipe}
use Rattle.command_line.specs.declared.pipe.Pipe.{Pipe}

-- what it writes to
abbrev pub pipe_inner : {W : Type 0} → Pipe W → W
pipe_inner p = p.inner

-- whether a write failed since nobody reads
abbrev pub is_closed_pipe : {W : Type 0} → Pipe W → Bool
is_closed_pipe p = p.closed

-- the bytes that it was given, where they are known
abbrev pub pipe_contents : {W : Type 0} → (W → Option (List ℕ)) → Pipe W → Option (List ℕ)
pipe_contents contents p = contents (pipe_inner p)

-- after this error its reader is gone exactly where it was gone before, or the error says so
abbrev pub ClosesBy : {W : Type 0} → Error → Pipe W → Pipe W → Type 0
ClosesBy e old now = IsTrue (is_closed_pipe now) ↔ (IsTrue (is_closed_pipe old) ⊎ (error_kind e ≡ BrokenPipe))
