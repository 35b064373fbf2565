-- What is seen of the calls of an open store.
use Rattle.std.proofs.Common.{◌≡◌, ◌∙◌, ℕ, List, Option, Some, None, Result, Err, inl, refl, sym, subst}
use Rattle.board_model.specs.{Durable.{Change, Suspend}, Shapes.Size, Views.change_of, declared.durable.Command.Command}
use Rattle.board_model.specs.declared.refusal.Refusal.{Refusal, TheVariants.Down}
use Rattle.board_model.specs.declared.durable.Command.TheVariants as commands
use Rattle.disk.specs.{declared.{device.{Disk.Ghosts, Lane.{Ghosts as Lanes}}}}
use Rattle.store.specs.{Asked.Asked, Follows.FitsBoard, Lives.{Applied, Suspended}, Views.{view_of, size_of_store, doubt_of}}
use Rattle.store.specs.declared.stores.Store.{Store}
use Rattle.theorem.{specs.{Story.{Now, Fits, Commands}, Told.{IsOn, seen_of}}, proofs.Issued.{issued, suspended}}

pub fits_command : (size : Size) (c : Command) → Fits size (change_of c)
fits_command size (commands.Slot n) = tt
fits_command size (commands.Reset r) = tt
fits_command size commands.Consume = tt
fits_command size commands.Discard = tt
fits_command size (commands.Tries n boots) = tt
fits_command size commands.Good = tt
fits_command size commands.Attempt = tt

module _ {D L : Type 0} {g : Ghosts D L} {l : Lanes L} (size : Size) (w : Now) (old new : Store D L g l) (on : IsOn size w (view_of old)) where
  -- a command is in doubt, and so this one is refused
  refused_down : (c d : Change) (r : Result ℕ Refusal) → doubt_of old ≡ Some d → r ≡ Err Down → new ≡ old → (v : Now) × Commands size w c (seen_of r) v × IsOn size v (view_of new)
  refused_down c d r doubt is same =
      subst (λ (x : Result ℕ Refusal). (v : Now) × Commands size w c (seen_of x) v × IsOn size v (view_of new)) (sym is)
      (w, inl ((d, on.doubt ∙ doubt), refl), subst (λ (s : Store D L g l). IsOn size w (view_of s)) (sym same) on)

  by_doubt : (c : Change) (r : Result ℕ Refusal) (o : Option Change) → doubt_of old ≡ o → Fits size c → Asked Applied old c r new → (v : Now) × Commands size w c (seen_of r) v × IsOn size v (view_of new)
  by_doubt c r None calm fits asked =
      let did = asked.answered calm in
      issued size w (view_of old) (view_of new) c on calm asked.stays.board fits r did.life did.cause
  by_doubt c r (Some d) doubt fits asked = let down = asked.down d doubt in refused_down c d r doubt down.0 down.1

  pub commanded : (c : Change) (r : Result ℕ Refusal) → Fits size c → Asked Applied old c r new → (v : Now) × Commands size w c (seen_of r) v × IsOn size v (view_of new)
  commanded c r fits asked = by_doubt c r (doubt_of old) refl fits asked

  suspends_by : (hart address opaque : ℕ) (memory : List ℕ) (r : Result ℕ Refusal) (o : Option Change) → doubt_of old ≡ o
      → Asked (Suspended (FitsBoard (size_of_store old) memory hart address)) old (Suspend hart address opaque memory) r new
      → (v : Now) × Commands size w (Suspend hart address opaque memory) (seen_of r) v × IsOn size v (view_of new)
  suspends_by hart address opaque memory r None calm asked =
      let did = asked.answered calm in
      suspended size w (view_of old) (view_of new) hart address opaque memory on calm asked.stays.board r did.life did.cause
  suspends_by hart address opaque memory r (Some d) doubt asked =
      let down = asked.down d doubt in
      refused_down (Suspend hart address opaque memory) d r doubt down.0 down.1

  pub suspends : (hart address opaque : ℕ) (memory : List ℕ) (r : Result ℕ Refusal)
      → Asked (Suspended (FitsBoard (size_of_store old) memory hart address)) old (Suspend hart address opaque memory) r new
      → (v : Now) × Commands size w (Suspend hart address opaque memory) (seen_of r) v × IsOn size v (view_of new)
  suspends hart address opaque memory r asked = suspends_by hart address opaque memory r (doubt_of old) refl asked
