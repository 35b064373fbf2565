-- The record that names an area is in its range.
use Rattle.std.proofs.Common.{◌≡◌, ◌+◌, ◌^◌, ◌<◌, zero, suc, ℕ, slice_index, Option, Some, None, subst, arith}
use Rattle.board_model.specs.Shapes.{Size, IsSize, IsValidAddress}
use Rattle.layout.specs.{Records.{IsInRange, IsSaved}, declared.{records.Record.Record, saved.Saved.Saved}}
use Rattle.store.{specs.{Follows.{durable_after, suspended}, declared.saving.Resumption.Resumption}, proofs.Renewing.trial_in_two}
use Rattle.planned_store.{specs.{declared.commits.Selected.Selected, Saves.{free_side, counts_of}}, proofs.SavingArea.are_counts}

pub free_two : (image : Option Saved) → free_side image < 2
free_two None = omega arith
free_two (Some t) = omega arith

module _ (from : Selected) (at : Resumption) (board : IsSize from.shape) (was : IsInRange from.shape from.live) where
  abbrev size : Size
  size = from.shape

  abbrev live : Record
  live = from.live

  abbrev area : ℕ
  area = free_side live.image

  abbrev next : Record
  next = suspended (durable_after live at) area (counts_of size)

  saved_small : (i : ℕ) → i < 4 → slice_index (counts_of size) i < 256 ^ 4
  saved_small zero lt = omega (arith, board)
  saved_small (suc zero) lt = omega (arith, board)
  saved_small (suc (suc zero)) lt = omega (arith, board)
  saved_small (suc (suc (suc zero))) lt = omega (arith, board)
  saved_small (suc (suc (suc (suc i)))) lt = absurd (omega (arith, lt))

  pub saved_range : at.hart < size.harts → IsValidAddress size at.address → live.next + 1 < 2 ^ 64 → at.opaque < 2 ^ 64 → IsInRange size next
  saved_range hart address serial opaque = record {
    slot = was.slot;
    image = λ x is. subst (IsSaved size (live.next + 1)) (saved_is x is) (record {
      serial = omega arith;
      area = free_two live.image;
      hart = hart;
      address = address;
      counts = are_counts size board;
      fit = (omega (arith, serial), (omega (arith, free_two live.image), (omega (arith, hart, board), (omega (arith, address.1, board), (omega (arith, opaque), (saved_small 0 (omega arith), (saved_small 1 (omega arith), (saved_small 2 (omega arith), (saved_small 3 (omega arith), tt)))))))));
    });
    trial = trial_in_two live.version live.trial was.trial;
    fit = (omega arith, (was.fit.1.0, (was.fit.1.1.0, (omega arith, (omega (arith, serial), tt)))));
  }
    where
      saved_is : (x : Saved) → next.image ≡ Some x → record { head = record { serial = live.next; hart = at.hart; address = at.address; opaque = at.opaque }; area = area; counts = counts_of size } ≡ x
      saved_is x is = cc
