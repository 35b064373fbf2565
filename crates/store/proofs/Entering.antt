-- An entry is added to a journal.
use Rattle.std.proofs.{Common.{◌≡◌, ◌∙◌, ◌++◌, ◌+◌, length, List, [], ◌∷◌, Option, Some, None, true, refl, ap}, lemmas.List.length-append}
use Rattle.board_model.specs.declared.durable.Entry.{Entry}
use Rattle.board_model.specs.declared.durable.Entry.TheVariants as entries
use Rattle.store.specs.{Entries.are_plain, Journals.{command_in, entries_in}, declared.{journals.Kept.Kept, saving.Resumption.Resumption}}

-- where no suspension stands
pub command_more : (ks : List Kept) (k : Kept) (at : Option Resumption) → are_plain (entries_in ks at) ≡ true → entries_in (ks ++ k ∷ []) at ≡ entries_in ks at ++ entries.Command (command_in k) ∷ []
command_more [] k None plain = refl
command_more [] k (Some at) plain = cc
command_more (c ∷ ks) k at plain = ap (λ (es : List Entry). entries.Command (command_in c) ∷ es) (command_more ks k at plain)

pub suspension_more : (ks : List Kept) (at : Option Resumption) (r : Resumption) → are_plain (entries_in ks at) ≡ true
    → entries_in ks (Some r) ≡ entries_in ks at ++ entries.Suspend r.hart r.address r.opaque ∷ []
suspension_more [] None r plain = refl
suspension_more [] (Some at) r plain = cc
suspension_more (c ∷ ks) at r plain = ap (λ (es : List Entry). entries.Command (command_in c) ∷ es) (suspension_more ks at r plain)

pub one_longer : (es : List Entry) (e : Entry) (more : List Entry) → more ≡ es ++ e ∷ [] → length more ≡ length es + 1
one_longer es e more is = ap (λ (l : List Entry). length l) is ∙ length-append es (e ∷ [])
