-- A row stands for one board.
use Rattle.std.proofs.Common.{ℕ, List, ◌≡◌, ◌+◌, ◌*◌, ◌/◌, ◌<◌, ◌≤◌, length, sym, ap, subst, ◌∙◌, arith}
use Rattle.std.specs.Prelude.{slice_index, Option}
use Rattle.std.proofs.lemmas.List.{get_or_default, ext_get_or}
use Rattle.board_model.specs.Shapes.{Size, ram_bytes_of}
use Rattle.hart.specs.State.{ArchState, never_started}
use Rattle.machine.specs.Machine.{Machine}
use Rattle.model_board.specs.Boards.{Board}
use Rattle.model_board.specs.Plain.{board_shown}
use Rattle.model_board.specs.Rests.{table_copied}
use Rattle.model_board.specs.declared.rests.Rest.{Rest}
use Rattle.sbi_calls.specs.Both.{TableState}
use Rattle.susp.specs.declared.buses.Doze.{Doze}
use Rattle.board_space.specs.Layouts.{tracked_of, size_of}
use Rattle.board_space.specs.Tracked.{IsTracked}
use Rattle.board_space.specs.Rows.{IsMachine, Stands}
use Rattle.board_space.specs.declared.board_rows.BoardRows.{BoardRows}
use Rattle.board_space.specs.declared.row_layout.Layout.{Layout}
use Rattle.board_space.specs.OneMemory.{one_memory}
use Rattle.board_space.specs.Records.{IsAt}

pub one_at : {T : Type 0} (xs : List T) (n : ℕ) (x y : T) → IsAt xs n x → IsAt xs n y → x ≡ y
one_at xs n x y a b = a.1 ∙ (get_or_default xs n x y a.0 ∙ sym b.1)

same_machine : (m n : Machine) → m.size ≡ n.size → m.memory ≡ n.memory → m.doze ≡ n.doze → m.harts ≡ n.harts → m.table ≡ n.table → m ≡ n
same_machine m n size memory doze harts table =
    ap (λ (x : Size). record m { size = x }) size
    ∙ ap (λ (x : List ℕ). record m { size = n.size; memory = x }) memory
    ∙ ap (λ (x : Option Doze). record m { size = n.size; memory = n.memory; doze = x }) doze
    ∙ ap (λ (x : List ArchState). record m { size = n.size; memory = n.memory; doze = n.doze; harts = x }) harts
    ∙ ap (λ (x : TableState). record n { table = x }) table

-- a word that is told lies in RAM
pub told_within : (layout : Layout) (m : List ℕ) (i : ℕ) → length m ≡ length layout.base.items → IsTracked (tracked_of layout) (i / 8) → 8 * (i / 8) + 8 ≤ length m
told_within layout m i long t =
    let e : 8 * (i / 8) + 8 ≤ ram_bytes_of layout.shape = layout.within (i / 8) t in
    omega (arith, e, long, layout.whole)

module _ (rows : BoardRows) (row : List ℕ) (rest : Rest) (m n : Machine) (a : IsMachine rows row rest m) (b : IsMachine rows row rest n) where
  size : m.size ≡ n.size
  size = a.size ∙ sym b.size

  many : length m.harts ≡ length n.harts
  many = a.many ∙ (ap (λ (s : Size). s.harts) size ∙ sym b.many)

  harts : m.harts ≡ n.harts
  harts =
      ext_get_or (never_started 0) m.harts n.harts many
      (λ h low.
      let there : h < (size_of rows.layout).harts = subst (λ (k : ℕ). h < k) (a.many ∙ ap (λ (s : Size). s.harts) a.size) low in
      let beside : h < length n.harts = subst (λ (k : ℕ). h < k) many low in
      get_or_default m.harts h (never_started 0) (never_started h) low
      ∙ (one_at rows.harts.records.items (slice_index row (1 + h)) _ _ (a.harts h there) (b.harts h there)
      ∙ get_or_default n.harts h (never_started h) (never_started 0) beside))

  pub one_machine : m ≡ n
  one_machine =
      same_machine m n size (one_memory rows.layout rows.words row m.memory n.memory a.memory b.memory (λ i low t. told_within rows.layout m.memory i a.memory.based.long t)) (a.doze ∙ sym b.doze) harts
      (a.table ∙ (ap (λ (s : Size). table_copied s.harts rest.tables) size ∙ sym b.table))

pub one_rest : (rows : BoardRows) (row : List ℕ) (b c : Board) (x : Stands rows row b) (y : Stands rows row c) → x.rest ≡ y.rest
one_rest rows row b c x y = one_at rows.rests.records.items (slice_index row 0) x.rest y.rest x.rested y.rested

pub one_board : (rows : BoardRows) (row : List ℕ) (b c : Board) → Stands rows row b → Stands rows row c → b ≡ c
one_board rows row b c x y =
    let e : x.rest ≡ y.rest = one_rest rows row b c x y in
    let same : x.machine ≡ y.machine = one_machine rows row y.rest x.machine y.machine (subst (λ (r : Rest). IsMachine rows row r x.machine) e x.is) y.is in
    x.shown ∙ (ap (λ (r : Rest). board_shown r.power r.reason r.down x.machine) e ∙ (ap (λ (n : Machine). board_shown y.rest.power y.rest.reason y.rest.down n) same ∙ sym y.shown))
