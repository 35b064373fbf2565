-- A store over a disk of the same content, with the same journal.
use Rattle.std.proofs.Common.{◌≡◌, Bool, List, Option, None, Some, is_some, map, true, false, option_map, refl, subst, sym}
use Rattle.board_model.specs.{Durable.{after, fold, refusal_of}, Shapes.Size, Views.change_in, declared.durable.Entry.Entry}
use Rattle.disk.specs.Facts.{Content}
use Rattle.layout.specs.declared.records.Record.{Record}
use Rattle.store.specs.{Lives.Life, Standing.{state_of, memory_in}, Taken.are_taken, declared.doubts.Doubt.Doubt}

-- the life that these make
abbrev pub life_from : Size → Record → Record → Option Doubt → Bool → Content → List Entry → Life
life_from size opened current doubt over c entries = record {
  found = state_of size opened c;
  journal = map (λ e. change_in e (memory_in size current c)) entries;
  doubt = option_map (λ x. change_in x.entry (memory_in size x.next c)) doubt;
  over = over;
}

-- stores of the same fields over disks of the same content are in the same life
pub same_life : (size z : Size) (opened o current n : Record) (doubt x : Option Doubt) (over v : Bool) (c d : Content) (entries es : List Entry)
    → z ≡ size → o ≡ opened → n ≡ current → x ≡ doubt → v ≡ over → d ≡ c → es ≡ entries
    → life_from z o n x v d es ≡ life_from size opened current doubt over c entries
same_life size z opened o current n doubt x over v c d entries es shape found now in_doubt ended content items =
    rw shape (rw found (rw now (rw in_doubt (rw ended (rw content (rw items refl))))))

module _ (size : Size) (opened current : Record) (c d : Content) (same : d ≡ c) (entries copies : List Entry) (items : copies ≡ entries) where
  pub still_folded : fold (state_of size opened c) (map (λ e. change_in e (memory_in size current c)) entries) ≡ state_of size current c
      → fold (state_of size opened d) (map (λ e. change_in e (memory_in size current d)) copies) ≡ state_of size current d
  still_folded folded =
      subst (λ (m : Content). fold (state_of size opened m) (map (λ e. change_in e (memory_in size current m)) copies) ≡ state_of size current m) (sym same)
      (subst (λ (es : List Entry). fold (state_of size opened c) (map (λ e. change_in e (memory_in size current c)) es) ≡ state_of size current c) (sym items) folded)

  pub still_legal : are_taken (state_of size opened c) (map (λ e. change_in e (memory_in size current c)) entries) ≡ true
      → are_taken (state_of size opened d) (map (λ e. change_in e (memory_in size current d)) copies) ≡ true
  still_legal legal =
      subst (λ (m : Content). are_taken (state_of size opened m) (map (λ e. change_in e (memory_in size current m)) copies) ≡ true) (sym same)
      (subst (λ (es : List Entry). are_taken (state_of size opened c) (map (λ e. change_in e (memory_in size current c)) es) ≡ true) (sym items) legal)

  pub still_doubted : (x : Doubt) → state_of size x.next c ≡ after (state_of size current c) (change_in x.entry (memory_in size x.next c))
      → state_of size x.next d ≡ after (state_of size current d) (change_in x.entry (memory_in size x.next d))
  still_doubted x doubted =
      subst (λ (m : Content). state_of size x.next m ≡ after (state_of size current m) (change_in x.entry (memory_in size x.next m))) (sym same) doubted

  pub still_allowed : (x : Doubt) → refusal_of (state_of size current c) (change_in x.entry (memory_in size x.next c)) ≡ None
      → refusal_of (state_of size current d) (change_in x.entry (memory_in size x.next d)) ≡ None
  still_allowed x allowed =
      subst (λ (m : Content). refusal_of (state_of size current m) (change_in x.entry (memory_in size x.next m)) ≡ None) (sym same) allowed

pub none_of : {X : Type 0} (o : Option X) → false ≡ is_some o → o ≡ None
none_of None is = refl
none_of (Some x) is = absurd (let no : ⊥ = cc in no)
