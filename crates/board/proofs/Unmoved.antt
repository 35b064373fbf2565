-- A boot that is refused before it issued anything leaves the life as the open made it.
use Rattle.std.proofs.Common.{◌≡◌, ◌∙◌, List, [], Option, None, refl, sym, ap, arith}
use Rattle.disk.specs.Moments.{passes_none}
use Rattle.board_model.specs.{Durable.{DurableState, Change}, declared.{boot_mode.BootMode.BootMode, refusal.Refusal.Refusal}}
use Rattle.store.specs.{Lives.{Life, begun}, Answers.StoreView}
use Rattle.board.specs.{Moments.{commands_by, gone_before}, Readies.{IsOpen, IsUnissued}, Unbooted.{doubt_by, IsLifeLeft}}
use Rattle.board.proofs.{Moments.{IsNow, untouched_moments}, Refused.IsQuiet}

abbrev in_doubt_of : DurableState → Option Change → Life
in_doubt_of s doubt = record (begun s) { doubt = doubt }

-- none of its commands was issued
pub none_issued : (cs : List Change) (e : Refusal) (s : DurableState) (life : Life) → life ≡ begun s → doubt_by e cs ≡ None → IsLifeLeft cs e s life
none_issued cs e s life is calm = record {
  done = [];
  later = cs;
  parts = refl;
  refused = λ none. none;
  is = is ∙ ap (in_doubt_of s) (sym calm);
  by_disk = λ device down. refl;
}

pub unmoved : (mode : BootMode) (e : Refusal) (old : StoreView) → IsNow old.disk → IsOpen old → IsQuiet e → IsUnissued mode old e old
unmoved mode e old now opened quiet = record {
  size = refl;
  life = none_issued (commands_by mode old.life.found) e old.life.found old.life opened.begins (quiet.no_doubt (commands_by mode old.life.found));
  any_moment = untouched_moments old.disk old.disk old.size old.life.found (gone_before e (commands_by mode old.life.found)) now (passes_none old.disk);
  opened = refl;
  length = refl;
  no_fewer = omega arith;
  cause = quiet.no_cause old.fault_state;
  counts = quiet.no_failure old.disk.failures;
}
