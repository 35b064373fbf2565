-- What a holder of a shared store heard beside its receipts. Source: docs/THREADS.md, "Receipts".
use Rattle.std.specs.Prelude.{ℕ, ◌+◌, ◌%◌, ◌^◌, Bool, true, Option, Some, None, Result, Ok, Err}
use Rattle.board_model.specs.declared.durable.Command.{Command}
use Rattle.board_model.specs.declared.durable.Durable.{Durable}
use Rattle.board_model.specs.declared.durable.Entry.{Entry}
use Rattle.board_model.specs.declared.refusal.Refusal.{Refusal}
use Rattle.board_model.specs.declared.refusal.Refusal.TheVariants.{Down}

-- how many commands were refused, and the last of them with its refusal; the one of them that is in doubt; how often the
-- state was shown, and the last that was; how often the board was woken
pub record Hearing : Type 0 where
  pub refused : ℕ
  pub refusal : Option (Command × Refusal)
  pub doubt : Option Command
  pub shown : ℕ
  pub state : Option Durable
  pub woken : ℕ

abbrev pub heard_nothing : Hearing
heard_nothing = record { refused = 0; refusal = None; doubt = None; shown = 0; state = None; woken = 0 }

-- a count that begins anew at 2^64
abbrev pub one_more : ℕ → ℕ
one_more n = (n + 1) % 2 ^ 64

-- The command in doubt, once a command was refused: that one where the refusal is 6 and newly put it in doubt. Where an
-- earlier command of the life is in doubt, 6 puts none there.
abbrev pub doubt_after : Bool → Command → Refusal → Option Command → Option Command
doubt_after true command Down doubt = Some command
doubt_after newly command e doubt = doubt

abbrev pub after_refusal : Bool → Command → Refusal → Hearing → Hearing
after_refusal newly command e h = record {
  refused = one_more h.refused;
  refusal = Some (command, e);
  doubt = doubt_after newly command e h.doubt;
  shown = h.shown;
  state = h.state;
  woken = h.woken;
}

abbrev pub after_look : Durable → Hearing → Hearing
after_look state h = record {
  refused = h.refused;
  refusal = h.refusal;
  doubt = h.doubt;
  shown = one_more h.shown;
  state = Some state;
  woken = h.woken;
}

-- a call of the wake-up device woke the board, or was refused: then nothing is heard of it
abbrev pub after_waking : Result (Unit {0}) Refusal → Hearing → Hearing
after_waking (Ok done) h = record h { woken = one_more h.woken }
after_waking (Err e) h = h

-- a command that is acknowledged has a receipt, and one that is refused is heard of here
abbrev pub heard_by : Bool → Command → Result (ℕ × Entry) Refusal → Hearing → Hearing
heard_by newly command (Ok t) h = h
heard_by newly command (Err e) h = after_refusal newly command e h
