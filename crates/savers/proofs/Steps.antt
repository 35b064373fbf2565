-- Each step keeps the rule of a ticket.
use Rattle.std.proofs.Common.{◌≡◌, ◌≢◌, ◌∙◌, ℕ, ◌+◌, ◌-◌, ◌%◌, ◌^◌, ◌<◌, ◌≤◌, List, [], ◌∷◌, ◌++◌, length, refl, sym, ap, arith, length-set, length-append, get_or-set_same}
use Rattle.std.{specs.Prelude.{slice_index, slice_set}, proofs.{Math.Nat.mod-eq_of_lt, lemmas.Bool.Decides.nat_tests}}
use mathlib.Core.Option.{some, none}
use lib.ListN.{get_elem?}
use Rattle.atomic_table.specs.Table.{State, Me, step, keeps, Allows, Splits, Joins}
use Rattle.tallies.proofs.Totals.{total-set, at_most_total, two_at_most_total, total_alone, total_split, total_join}
use Rattle.savers.specs.declared.view.TicketView.{TicketView}
use Rattle.savers.specs.Draws.{times, once_below, ticket_view, all_draws, share_of, draws_each, AreDrawnOnce, DrawsNext, without_part, new_part, together, spent_view}

pub times-append : (x : ℕ) (xs ys : List ℕ) → times x (xs ++ ys) ≡ times x xs + times x ys
times-append x [] ys = omega arith
times-append x (y ∷ xs) ys = let h = times-append x xs ys in omega arith

-- a draw is the next number
next_once : (x n : ℕ) → times x (n ∷ []) + once_below x n ≡ once_below x (n + 1)
next_once x n = grind (arith, nat_tests)

abbrev left_of : TicketView → ℕ
left_of v = v.left

abbrev pub drew : ℕ → TicketView → ℕ
drew x v = times x v.drawn

module _ (slots id : ℕ) (me : Me (Unit {0}) TicketView) where
  pub draws : 0 < me.0.left → Allows AreDrawnOnce slots id me 0 (λ n. (n + 1) % 2 ^ 64) (DrawsNext (step slots 0 1 0 none) me)
  draws may s kept _ at _ =
      let v = me.0 in
      let w = slice_index s.words 0 in
      let v' : TicketView = ticket_view (v.left - 1) (v.drawn ++ w ∷ []) in
      let budget = kept.left in
      let low = at_most_total left_of s.views id v at in
      let wide = kept.wide in
      let next : (w + 1) % 2 ^ 64 ≡ w + 1 = mod-eq_of_lt (omega arith) in
      let word : slice_index (slice_set s.words 0 ((w + 1) % 2 ^ 64)) 0 ≡ w + 1 = get_or-set_same s.words 0 ((w + 1) % 2 ^ 64) 0 (omega arith) ∙ next in (
        v',
        keeps,
        tt,
        record {
          wide = length-set s.words 0 ((w + 1) % 2 ^ 64) ∙ kept.wide;
          once = λ x.
              let a = total-set (drew x) s.views id v v' at in
              let o = kept.once x in
              let t = times-append x v.drawn (w ∷ []) in
              let n = next_once x w in
              let e = ap (λ (k : ℕ). once_below x k) word in
              omega arith;
          left = (let a = total-set left_of s.views id v v' at in omega arith);
          all = (let a = total-set share_of s.views id v v' at in let p = kept.all in let l = length-append v.drawn (w ∷ []) in omega arith);
        },
        (refl, refl),
      )

pub splits : (id : ℕ) (v : TicketView) → draws_each ≤ v.left → Splits AreDrawnOnce id v (without_part v) (new_part v)
splits id v room s kept at = record {
  wide = kept.wide;
  once = λ x. total_split (drew x) s.views id v (without_part v) (new_part v) at (omega arith) ∙ kept.once x;
  left = (let a = total_split left_of s.views id v (without_part v) (new_part v) at (omega arith) in let b = kept.left in omega arith);
  all = total_split share_of s.views id v (without_part v) (new_part v) at (omega arith) ∙ kept.all;
}

pub joins : (id : ℕ) (v : TicketView) (other : ℕ) (w : TicketView) → Joins AreDrawnOnce id v other w (together v w) spent_view
joins id v other w s kept at ne there = record {
  wide = kept.wide;
  once = λ x. total_join (drew x) s.views id other v w (together v w) spent_view at there (times-append x v.drawn w.drawn) refl ∙ kept.once x;
  left = (let a = total_join left_of s.views id other v w (together v w) spent_view at there refl refl in let b = kept.left in omega arith);
  all = total_join share_of s.views id other v w (together v w) spent_view at there (let l = length-append v.drawn w.drawn in omega arith) refl ∙ kept.all;
}

-- a ticket_view that has nothing and may have nothing
none_drawn : (x : ℕ) (v : TicketView) → share_of v ≡ 0 → times x v.drawn ≡ 0
none_drawn x v is = by_list v.drawn (omega arith)
  where
    by_list : (xs : List ℕ) → length xs ≡ 0 → times x xs ≡ 0
    by_list [] e = refl
    by_list (y ∷ ys) e = absurd (omega arith)

-- who has all draws has drawn all, each once
pub ended : (s : State (Unit {0}) TicketView) (id : ℕ) (v : TicketView) → AreDrawnOnce s → get_elem? s.views id ≡ some v → share_of v ≡ all_draws → (x : ℕ) → times x v.drawn ≡ once_below x (length v.drawn)
ended s id v kept at all x =
    let p = kept.all in
    let none_else : (j : ℕ) (u : TicketView) → j ≢ id → get_elem? s.views j ≡ some u → share_of u ≡ 0 = λ j u ne there. let two = two_at_most_total share_of s.views id j v u ne at there in omega arith in
    let mine = total_alone (drew x) s.views id v at (λ j u ne there. none_drawn x u (none_else j u ne there)) in
    let rest = total_alone left_of s.views id v at (λ j u ne there. let n = none_else j u ne there in omega arith) in
    let budget = kept.left in
    let word : slice_index s.words 0 ≡ length v.drawn = omega arith in
    sym mine ∙ (kept.once x ∙ ap (λ (n : ℕ). once_below x n) word)
