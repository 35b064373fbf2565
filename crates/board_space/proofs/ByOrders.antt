-- What a search tells of the orders that are asked for, whether or not they are bounded.
use Rattle.std.proofs.Common.{◌≡◌, ℕ, ◌<◌, ◌≤◌, Bool, List, [], None, refl, sym, subst}
use Rattle.model_board.specs.{Boards.Board, Events.{Event, Turn, Refused, Wake, Cut, PowerOn, IsEnd, GoesOn}, Maps.Map}
use Rattle.state_space.specs.{declared.graph.Graph.Graph, Bounded.{Budget, PaysBy}, Counted.{Spends, StandsCounted}, Switched.StandsWithin}
use Rattle.state_space.specs.{Deads.{IsMarked, Reaches}, Graphs.{count_of, expanded_of, event_of, row_at, IsFound, StepOf}, Systems.Moves}
use Rattle.state_space.{specs.{Orders.{Runs, Leads, Only, CanEnd}, Ways.IsWay}, proofs.AllOrders.leads_by}
use Rattle.state_space.proofs.Tells.{row_reached, stepped, stepped_out, way_moves}
use Rattle.board_space.specs.{Few.{IsLastBy, RunsBy, WaitsAt, few_rules, hart_of_number, is_power_on_number, life_rules}, Moving.Moving}
use Rattle.board_space.{specs.{Searches.{StandsBy, IsSearchBy, IsFollowed}, declared.bounds.Bound.Bound}, proofs.EventNumbers.small}
use Rattle.board_space.specs.Space.{Asked, Happens, number_of, KeepsEach, Settles, GoesBy, board_rules, start_of}
use Rattle.board_space.{specs.declared.bounds.Bound.TheVariants.{Unbounded, Preemptions, PowerOns}, proofs.Searching.{inner_run, life_run}}
use Rattle.board_space.proofs.Stuck.{goes_by, run_leads, no_end}
use Rattle.board_space.proofs.ByLives as lives
use Rattle.board_space.proofs.Every as every
use Rattle.board_space.proofs.Few as few

module _ (moving : Moving) (asked : Asked) (map : Map) (stands : List ℕ → Board → Type 0) (graph : Graph) where
  pub ends_by : (bound : Bound) → IsSearchBy asked map bound stands graph → expanded_of graph ≡ count_of graph → asked.size.harts ≤ 8 → (events : List Event) (last : Board) → RunsBy asked bound events last → IsEnd last → IsFound (StandsBy bound stands) graph last
  ends_by Unbounded by all low events last run end =
      (every.meets moving asked map stands graph by all events last run).ended end
  ends_by (Preemptions switches) by all low events last run end =
      few.few_ends moving asked map switches stands graph by all low events last run end
  ends_by (PowerOns most) by all low events last run end =
      lives.lives_ends moving asked map most stands graph by all low events last run end

  pub no_dead_end_by : (bound : Bound) (goals : List Bool) → IsSearchBy asked map bound stands graph → expanded_of graph ≡ count_of graph → asked.size.harts ≤ 8 → ((k : ℕ) → IsMarked goals k → (b : Board) → StandsBy bound stands (row_at graph k) b → IsLastBy bound b) → ((k : ℕ) → k < count_of graph → Reaches (GoesBy asked) graph goals k) → (events : List Event) (last : Board) → RunsBy asked bound events last → CanEnd (Happens asked) GoesOn (IsLastBy bound) last
  no_dead_end_by Unbounded goals by all low lasts reach events last run =
      every.no_dead_end moving asked map stands graph by all goals lasts reach events last run
  no_dead_end_by (Preemptions switches) goals by all low lasts reach events last run =
      few.few_no_dead_end moving asked map switches stands graph by all low goals lasts reach events last run
  no_dead_end_by (PowerOns most) goals by all low lasts reach events last run =
      lives.lives_go_on moving asked map most stands graph by all low goals lasts reach events last run

  pub reached_by : (bound : Bound) → IsSearchBy asked map bound stands graph → (k : ℕ) → k < count_of graph → (b : Board) × StandsBy bound stands (row_at graph k) b × Leads (Happens asked) (start_of asked) b
  reached_by Unbounded by k within =
      let first = by.start in
      let led = row_reached (board_rules asked map) stands graph by k within in
      (led.0, led.1, run_leads moving asked map led.2.0 first.0 led.0 first.1 led.2.1)
  reached_by (Preemptions switches) by k within =
      let first = by.start in
      let led = row_reached (few_rules asked map switches) (StandsWithin stands) graph by k within in
      (led.0.state, (led.0.budget, led.1), run_leads moving asked map led.2.0 first.0.state led.0.state first.1.0 (inner_run asked map switches led.2.0 first.0 led.0 led.2.1))
  reached_by (PowerOns most) by k within =
      let first = by.start in
      let led = row_reached (life_rules asked map most) (StandsCounted stands) graph by k within in
      (led.0.state, (led.0.left, led.1), run_leads moving asked map led.2.0 first.0.state led.0.state first.1.0 (life_run asked map most led.2.0 first.0 led.0 led.2.1))

module _ (asked : Asked) (map : Map) (stands : List ℕ → Board → Type 0) (graph : Graph) where
  pub ways_by : (bound : Bound) → IsSearchBy asked map bound stands graph → (way : List ℕ) (row : ℕ) → IsWay graph way row → (first : Board) × (b : Board) × Settles asked.size map (start_of asked) first × Runs (Moves (board_rules asked map)) way first b × StandsBy bound stands (row_at graph row) b
  ways_by Unbounded by way row is = way_moves (board_rules asked map) stands graph by way row is
  ways_by (Preemptions switches) by way row is =
      let led = way_moves (few_rules asked map switches) (StandsWithin stands) graph by way row is in
      (led.0.state, led.1.state, led.2.0, inner_run asked map switches way led.0 led.1 led.3, (led.1.budget, led.4))
  ways_by (PowerOns most) by way row is =
      let led = way_moves (life_rules asked map most) (StandsCounted stands) graph by way row is in
      (led.0.state, led.1.state, led.2.0, life_run asked map most way led.0 led.1 led.3, (led.1.left, led.4))

  -- ---- rows that reach no goal
  module _ (goals : List Bool) (low : asked.size.harts ≤ 8) where
    abbrev Followed : Bound → Type 0
    Followed bound = (k : ℕ) → k < count_of graph → (IsMarked goals k → ⊥) → IsFollowed asked.size.harts bound stands graph k

    abbrev pub IsLost : ℕ → Type 0
    IsLost k = (k < count_of graph) × (Reaches (GoesBy asked) graph goals k → ⊥)

    abbrev pub Lost : Bound → Board → Type 0
    Lost bound b = (k : ℕ) × IsLost k × StandsBy bound stands (row_at graph k) b

    here : (bound : Bound) → Followed bound → (k : ℕ) → IsLost k → IsFollowed asked.size.harts bound stands graph k
    here bound followed k lost = followed k lost.0 (λ goal. lost.1 (k, ([], refl), goal))

    -- a step from a lost row leads to a lost one
    lost_on : (i j k : ℕ) → IsLost j → StepOf graph i j k → k < count_of graph → GoesBy asked (event_of graph i) → IsLost k
    lost_on i j k lost step within goes = (
      within,
      λ reaches. lost.1 (reaches.0, leads_by (Only (λ n. GoesBy asked (event_of graph n)) (StepOf graph)) i j k reaches.0 (goes, step) reaches.1, reaches.2),
    )

    pub lost_kept : (bound : Bound) → Followed bound → IsSearchBy asked map bound stands graph → (b : Board) → Lost bound b → (e : Event) → KeepsEach asked map e b
    lost_kept Unbounded followed by b lost = (by.expanded lost.0 b (here Unbounded followed lost.0 lost.1).expanded lost.2).keeps
    lost_kept (Preemptions switches) followed by b lost =
        (by.expanded lost.0 (record { state = b; budget = lost.2.0 }) (here (Preemptions switches) followed lost.0 lost.1).expanded lost.2.1).keeps
    lost_kept (PowerOns most) followed by b lost =
        (by.expanded lost.0 (record { state = b; left = lost.2.0 }) (here (PowerOns most) followed lost.0 lost.1).expanded lost.2.1).keeps

    pub lost_other : (bound : Bound) → Followed bound → IsSearchBy asked map bound stands graph → (b : Board) → Lost bound b → IsEnd b → ⊥
    lost_other Unbounded followed by b lost end =
        let at = here Unbounded followed lost.0 lost.1 in
        at.goes ((by.ends lost.0 b at.expanded lost.2).1 end)
    lost_other (Preemptions switches) followed by b lost end =
        let at = here (Preemptions switches) followed lost.0 lost.1 in
        at.goes ((by.ends lost.0 (record { state = b; budget = lost.2.0 }) at.expanded lost.2.1).1 end)
    lost_other (PowerOns most) followed by b lost end =
        let at = here (PowerOns most) followed lost.0 lost.1 in
        at.goes ((by.ends lost.0 (record { state = b; left = lost.2.0 }) at.expanded lost.2.1).1 end)

    -- what an event costs can be paid, where a turn of each hart is among the steps
    paid : (switches : ℕ) → Followed (Preemptions switches) → IsSearchBy asked map (Preemptions switches) stands graph → (k : ℕ) (b : Board) (w : Budget) → IsLost k → StandsWithin stands (row_at graph k) (record { state = b; budget = w }) → (e : Event) (c : Board) → GoesOn e → Happens asked e b c → (v : Budget) × PaysBy (WaitsAt asked) (hart_of_number (number_of e)) b w v
    paid switches followed by k b w lost has (Turn h) c goes did =
        let turn = (here (Preemptions switches) followed k lost).turns h did.0.0 in
        let to = stepped (few_rules asked map switches) (StandsWithin stands) graph by turn.0 k turn.1 (record { state = b; budget = w }) turn.2 has in
        (to.1.0.budget, subst (λ (n : ℕ). PaysBy (WaitsAt asked) (hart_of_number n) b w to.1.0.budget) turn.3 to.1.1.1)
    paid switches followed by k b w lost has (Refused h down) c goes did = absurd goes
    paid switches followed by k b w lost has Wake c goes did = (record { last = None; left = w.left }, refl)
    paid switches followed by k b w lost has Cut c goes did = absurd goes
    paid switches followed by k b w lost has PowerOn c goes did = (record { last = None; left = w.left }, refl)

    -- an event costs nothing, where the board is not off
    spent : (most : ℕ) → Followed (PowerOns most) → (k : ℕ) (b : Board) (left : ℕ) → IsLost k → StandsCounted stands (row_at graph k) (record { state = b; left = left }) → (e : Event) (c : Board) → GoesOn e → Happens asked e b c → Spends (is_power_on_number (number_of e)) left left
    spent most followed k b left lost has (Turn h) c goes did = lives.spends_by (Turn h) left left (small asked (Turn h) low did.0) refl
    spent most followed k b left lost has (Refused h down) c goes did = absurd goes
    spent most followed k b left lost has Wake c goes did = refl
    spent most followed k b left lost has Cut c goes did = absurd goes
    spent most followed k b left lost has PowerOn c goes did =
        absurd ((here (PowerOns most) followed k lost).stays b (left, has) (lives.powered_away asked.payload asked.size b c did.1))

    pub lost_next : (bound : Bound) → Followed bound → IsSearchBy asked map bound stands graph → (b : Board) → Lost bound b → (e : Event) (c : Board) → GoesOn e → Happens asked e b c → (to : Board) × Settles asked.size map c to × Lost bound to
    lost_next Unbounded followed by b lost e c goes did =
        let k : ℕ = lost.0 in
        let out = stepped_out (board_rules asked map) stands graph by k b (here Unbounded followed k lost.1).expanded lost.2 (number_of e) c (e, refl, did) in
        let on : IsLost out.1 = lost_on out.0 k out.1 lost.1 out.3 out.5 (subst (GoesBy asked) (sym out.4) (goes_by asked e low did.0 goes)) in
        (out.2, out.6, (out.1, on, out.7))
    lost_next (Preemptions switches) followed by b lost e c goes did =
        let k : ℕ = lost.0 in
        let w : Budget = lost.2.0 in
        let pays = paid switches followed by k b w lost.1 lost.2.1 e c goes did in
        let out = stepped_out (few_rules asked map switches) (StandsWithin stands) graph by k (record { state = b; budget = w }) (here (Preemptions switches) followed k lost.1).expanded lost.2.1 (number_of e) (record { state = c; budget = pays.0 }) ((e, refl, did), pays.1) in
        let on : IsLost out.1 = lost_on out.0 k out.1 lost.1 out.3 out.5 (subst (GoesBy asked) (sym out.4) (goes_by asked e low did.0 goes)) in
        (out.2.state, out.6.0, (out.1, on, (out.2.budget, out.7)))
    lost_next (PowerOns most) followed by b lost e c goes did =
        let k : ℕ = lost.0 in
        let left : ℕ = lost.2.0 in
        let spends = spent most followed k b left lost.1 lost.2.1 e c goes did in
        let out = stepped_out (life_rules asked map most) (StandsCounted stands) graph by k (record { state = b; left = left }) (here (PowerOns most) followed k lost.1).expanded lost.2.1 (number_of e) (record { state = c; left = left }) ((e, refl, did), spends) in
        let on : IsLost out.1 = lost_on out.0 k out.1 lost.1 out.3 out.5 (subst (GoesBy asked) (sym out.4) (goes_by asked e low did.0 goes)) in
        (out.2.state, out.6.0, (out.1, on, (out.2.left, out.7)))

    pub lost_by : Moving → (bound : Bound) → Followed bound → IsSearchBy asked map bound stands graph → (b : Board) → Lost bound b → CanEnd (Happens asked) GoesOn IsEnd b → ⊥
    lost_by moving bound followed by b lost can =
        no_end moving asked map (Lost bound) (lost_kept bound followed by) (lost_other bound followed by) (lost_next bound followed by) b lost can
