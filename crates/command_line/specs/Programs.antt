-- The command of a program, as its parser reads it. Source: docs/CONSOLE.md, "The command line".
use Rattle.std.specs.Prelude.{true}
use Rattle.clap.specs.Words.{App, Text, new_app}

-- by its name alone, with a version
abbrev pub named_app : Text → App
named_app name = record (new_app name) { top = record (new_app name).top { has_version = true } }
