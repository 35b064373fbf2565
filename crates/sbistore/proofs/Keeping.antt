-- The open store is kept where none of its numbers and bytes has changed.
use Rattle.std.proofs.Common.{◌≡◌, ◌∙◌}
use Rattle.planned_store.specs.declared.stores.OpenStore.{OpenStore}
use Rattle.sbistore.specs.{Ends.Keeps, declared.state.Sbistore.Sbistore}

pub record SameStore (s t : Sbistore) : Type 0 where
  pub opened : t.opened ≡ s.opened
  pub harts : t.harts ≡ s.harts
  pub pages : t.pages ≡ s.pages
  pub lanes : t.lanes ≡ s.lanes
  pub side : t.side ≡ s.side
  pub live : t.live ≡ s.live
  pub receipts : t.receipts ≡ s.receipts
  pub over : t.over ≡ s.over
  pub down : t.down ≡ s.down

pub kept_on : (life : OpenStore) (s t : Sbistore) → Keeps life s → SameStore s t → Keeps life t
kept_on life s t kept same = record {
  opened = same.opened ∙ kept.opened;
  selected = record {
    shape = record {
      valid = kept.selected.shape.valid;
      harts = same.harts ∙ kept.selected.shape.harts;
      pages = same.pages ∙ kept.selected.shape.pages;
      lanes = same.lanes ∙ kept.selected.shape.lanes;
    };
    side = same.side ∙ kept.selected.side;
    known = kept.selected.known;
    live = same.live ∙ kept.selected.live;
    range = kept.selected.range;
  };
  receipts = same.receipts ∙ kept.receipts;
  over = same.over ∙ kept.over;
  down = same.down ∙ kept.down;
}
