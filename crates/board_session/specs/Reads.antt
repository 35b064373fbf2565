-- The options that the values of a command line give. Source: docs/CONSOLE.md, "The command line".
use Rattle.std.specs.Prelude.{◌≡◌, true, false, map, Some, option_and_then, string_bytes}
use Rattle.std.specs.Option.{option_map}
use Rattle.clap.specs.Facts.{is_present}
use Rattle.clap.specs.Words.{first_value, one_text}
use Rattle.clap.specs.declared.parser.matches.Found.{Found}
use Rattle.command_line.specs.Options.{path_named, payload_paths}
use Rattle.script_lang.specs.Lines.{mode_of}
use Rattle.script_lang.specs.Words.{number_of}
use Rattle.board_session.specs.declared.given.Options.{Options}
use lib.Chars.{codes}

-- Each option is what the value of its name says. A number is given where the words have it, and not by its default
-- alone.
pub record ReadsOptions (f : Found) (o : Options) : Type 0 where
  pub disk : path_named (first_value f (codes "disk")) ≡ Some (string_bytes o.disk)
  pub mode : option_and_then mode_of (first_value f (codes "mode")) ≡ Some o.mode
  pub new : one_text f (codes "new") ≡ Some (codes "true") → o.new ≡ true
  pub old : one_text f (codes "new") ≡ Some (codes "false") → o.new ≡ false
  pub synced : one_text f (codes "sync") ≡ Some (codes "true") → o.sync ≡ true
  pub at_the_end : one_text f (codes "sync") ≡ Some (codes "false") → o.sync ≡ false
  pub told : one_text f (codes "tell") ≡ Some (codes "true") → o.tell ≡ true
  pub untold : one_text f (codes "tell") ≡ Some (codes "false") → o.tell ≡ false
  pub harts : option_and_then number_of (first_value f (codes "harts")) ≡ Some o.shape.harts
  pub pages : option_and_then number_of (first_value f (codes "pages")) ≡ Some o.shape.pages
  pub lanes : option_and_then number_of (first_value f (codes "lanes")) ≡ Some o.shape.lanes
  pub block : option_and_then number_of (first_value f (codes "block")) ≡ Some o.block.bytes
  pub harts_given : o.given.harts ≡ is_present f (codes "harts")
  pub pages_given : o.given.pages ≡ is_present f (codes "pages")
  pub lanes_given : o.given.lanes ≡ is_present f (codes "lanes")
  pub turns : option_and_then number_of (first_value f (codes "turns")) ≡ Some o.turns
  pub payloads : map (option_map string_bytes) o.payloads ≡ payload_paths f
