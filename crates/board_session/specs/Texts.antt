-- The answers of the console, as they are printed.
-- Source: docs/CONSOLE.md, "The console".
use Rattle.std.specs.Prelude.{ℕ, List, ◌++◌, Ok, Err}
use Rattle.std.specs.Fmt.{decimal}
use Rattle.board_model.specs.ConsoleCommands.{word_of}
use Rattle.board_model.specs.Texts.{state_text}
use Rattle.board_model.specs.Views.{number_of_refusal}
use Rattle.board_session.specs.declared.reply.Reply.{Reply}
use Rattle.board_session.specs.declared.reply.Reply.TheVariants as answers
use lib.Chars.{codes}

abbrev pub reply_text : Reply → List ℕ
reply_text (answers.Acknowledged command n) = word_of command ++ codes " ok " ++ decimal n
reply_text (answers.Refused command e) = word_of command ++ codes " refused " ++ decimal (number_of_refusal e)
reply_text (answers.State d) = codes "state " ++ state_text d
reply_text (answers.Wake (Ok done)) = codes "wake ok"
reply_text (answers.Wake (Err e)) = codes "wake refused " ++ decimal (number_of_refusal e)
reply_text answers.Quit = codes "quit"
reply_text answers.Unknown = codes "?"
