-- How the code's script shows that of the specification.
use Rattle.script_lang.specs.Scripts.{Script}
use Rattle.script_lang.specs.declared.scripts.Script as code

abbrev pub view : code.Script → Script
view script = record { size = script.shape; lines = script.lines.items }
