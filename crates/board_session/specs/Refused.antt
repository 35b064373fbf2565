-- Which words are no command line of the program, although the command's parser takes them. Source: docs/CONSOLE.md, "The
-- command line".
use Rattle.std.specs.Prelude.{ℕ, List, IsTrue}
use Rattle.board_files.specs.Blocks.{is_block_size}
use Rattle.board_model.specs.Shapes.{IsSize}
use Rattle.board_session.specs.Limits.{AreTurns}
use Rattle.board_session.specs.Parses.{AreParsed}
use Rattle.board_session.specs.Reads.{ReadsOptions}
use Rattle.board_session.specs.declared.given.Options.{Options}
use Rattle.clap.specs.declared.parser.matches.Found.{Found}

-- no options are what these values say
abbrev pub GivesNone : Found → Type 0
GivesNone f = (o : Options) → ReadsOptions f o → IsSize o.shape → IsTrue (is_block_size o.block.bytes) → AreTurns o.turns → ⊥

-- their values give no options
abbrev pub AreNoOptions : List (List ℕ) → Type 0
AreNoOptions words = (f : Found) × AreParsed words f × GivesNone f
