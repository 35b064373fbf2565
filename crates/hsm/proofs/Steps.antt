-- The steps of the table, on what the words say.
use Rattle.std.proofs.Common.{◌≡◌, ◌≢◌, ℕ, ◌+◌, ◌-◌, ◌<◌, ◌≤◌, Bool, true, false, if◌then◌else◌, ◌==◌, eqb, List, set, refl, sym, ap, ◌∙◌, subst, arith, eq-eqb, ne_eqb}
use Rattle.std.specs.Int.{bit_at}
use mathlib.Core.Logic.{dite}
use mathlib.Core.Option.{some}
use native.Mathlib.Decide.{ℕ_discrete}
use lib.ListN.{get_elem?}
use Rattle.hsm.specs.declared.view.{Stage.{Stage, TheVariants.{Out, Loaded, Running, Claiming, Half, Stored}}, Action.Action}
use Rattle.hsm.{specs.declared.view.Action.TheVariants.{Claimed, Wrote, Armed, Entered, Stopped}, proofs.Words.{Any, But, Leaves}}
use Rattle.hsm.{specs.Words.{HartView, HartSeatView, WordBits, Same}, proofs.Next.{Place, carry, mine, under, after, next, in_flight_same}}
use Rattle.hsm.specs.Rule.{Grants, granted, claim_of, entry_of, is_pending, in_flight, flights, Fits, Sound}
use Rattle.tallies.{specs.{Sums.total, Rules.AreSeated, Notes.hart_notes}, proofs.Totals.at_most_total}

in_flight_other : (t u a o : ℕ) → t ≢ u → in_flight u (Claiming t a o) ≡ 0
in_flight_other t u a o ne = rw (ne_eqb t u ne) refl

pending_same : (m m' : WordBits) (g : Grants) (t a o : ℕ) → m'.claimed t ≡ m.claimed t → m'.entered t ≡ m.entered t → is_pending m g t a o ≡ is_pending m' g t a o
pending_same m m' g t a o cl en = rw (cl, en) refl

nothing : (p q : Bool) (n : ℕ) → n ≡ 0 → ◌≡◌ {A = ℕ} (if p then (if q then n else 0) else 0) 0
nothing true true n e = e
nothing true false n e = refl
nothing false q n e = refl

not_pending : (m : WordBits) (g : Grants) (t a o : ℕ) → m.claimed t ≤ m.entered t → is_pending m g t a o ≡ 0
not_pending m g t a o le = nothing (eqb (g.address t) a) (eqb (g.opaque t) o) (m.claimed t - m.entered t) (omega arith)

module _ (harts : ℕ) (m : WordBits) (g : Grants) (views : List HartSeatView) (seated : AreSeated harts views) (sound : Sound harts m g views) (id : ℕ) (c : HartSeatView) (at : get_elem? views id ≡ some c)
    (h : ℕ) (m' : WordBits) where
  -- nothing changes but what the hart knows
  pub idle : (st st' : Stage) (x : Action) (p : Place h st c.harts) → Same harts m m' → ((t : ℕ) → in_flight t st' ≡ in_flight t st) → ((t a o : ℕ) → claim_of t a o x ≡ entry_of t a o x) → Fits harts m g h st'
      → Sound harts m' g (set views id (after harts m g views seated sound id c at h st p st' x))
  idle st st' x p same flies weighs fit =
      next harts m g views seated sound id c at h st p m' g st' x
      (λ k lt. let o = sound.order k lt in let a = same.claimed k lt in let b = same.armed k lt in let d = same.entered k lt in let e = same.suspended k lt in (omega arith, omega arith, omega arith, omega arith))
      (λ t lt. let f = flies t in let a = same.claimed t lt in let b = same.armed t lt in omega arith)
      (λ t a o lt. let w = weighs t a o in let e = pending_same m m' g t a o (same.claimed t lt) (same.entered t lt) in omega arith)
      (λ t lt ar en. let e = sound.armed t lt (sym (same.armed t lt) ∙ ar) (sym (same.entered t lt) ∙ en) in (same.address t lt ∙ e.0, same.opaque t lt ∙ e.1))
      (still h st' (under harts m g views seated sound id c at h st p) fit)
      (λ v ne lt excl f. still v.hart v.stage lt f)
      (let k = sound.settled in (k.0, k.1, same.claimed k.0 k.1 ∙ (k.2 ∙ sym (same.entered k.0 k.1))))
    where
      still : (k : ℕ) (s : Stage) → k < harts → Fits harts m g k s → Fits harts m' g k s
      still k s lt f = carry harts m m' g g k s (same.entered k lt) (same.suspended k lt) (λ ar. (same.armed k lt ∙ ar, same.address k lt, same.opaque k lt))
          (λ t tl _. (refl, refl, same.address t tl, same.opaque t tl)) (λ q t tl ne. same.claimed t tl ∙ q t tl ne) f

  -- a claim that found the target unclaimed
  pub claims : (p : Place h Running c.harts) (t a o found : ℕ) → t < harts → m.claimed t ≡ 0 → bit_at found t ≡ 0
      → m'.claimed t ≡ 1 → Leaves harts (But t) Any Any Any Any Any m m'
      → Sound harts m' (granted g t a o) (set views id (after harts m g views seated sound id c at h Running p (Claiming t a o) (Claimed t a o found)))
  claims p t a o found tl clear word cl' left =
      next harts m g views seated sound id c at h Running p m' (granted g t a o) (Claiming t a o) (Claimed t a o found)
      (λ k lt. let d = sound.order k lt in let b = left.armed k lt tt in let e = left.entered k lt tt in let f = left.suspended k lt tt in dite (ℕ_discrete k t)
      (λ is. let z : m'.claimed k ≡ 1 = ap m'.claimed is ∙ cl' in let y : m.claimed k ≡ 0 = ap m.claimed is ∙ clear in (omega arith, omega arith, omega arith, omega arith))
      (λ ne. let z = left.claimed k lt ne in (omega arith, omega arith, omega arith, omega arith)))
      (λ u lt. let b = left.armed u lt tt in dite (ℕ_discrete u t)
      (λ is. let z : m'.claimed u ≡ 1 = ap m'.claimed is ∙ cl' in let y : m.claimed u ≡ 0 = ap m.claimed is ∙ clear in
      let f : in_flight u (Claiming t a o) ≡ 1 = ap (λ (n : ℕ). in_flight n (Claiming t a o)) is ∙ in_flight_same t a o in omega arith)
      (λ ne. let z = left.claimed u lt ne in let f = in_flight_other t u a o (λ e. ne (sym e)) in omega arith))
      (λ u b d lt. dite (ℕ_discrete u t)
      (λ is. subst (λ (n : ℕ). claim_of n b d (Claimed t a o found) + is_pending m g n b d ≡ 0 + is_pending m' (granted g t a o) n b d) (sym is) (balanced b d))
      (λ ne.
      let z : claim_of u b d (Claimed t a o found) ≡ 0 = rw (ne_eqb t u (λ e. ne (sym e))) refl in
      let y : is_pending m' (granted g t a o) u b d ≡ is_pending m g u b d = rw (ne_eqb u t ne, left.claimed u lt ne, left.entered u lt tt) refl in
      omega arith))
      (λ u lt w e. dite (ℕ_discrete u t)
      (λ is. let d = sound.order u lt in let y : m.claimed u ≡ 0 = ap m.claimed is ∙ clear in let b = left.armed u lt tt in absurd (omega arith))
      (λ ne. let s = sound.armed u lt (sym (left.armed u lt tt) ∙ w) (sym (left.entered u lt tt) ∙ e) in
      (left.address u lt tt ∙ (s.0 ∙ sym (else_address u ne)), left.opaque u lt tt ∙ (s.1 ∙ sym (else_opaque u ne)))))
      (let f = mine harts m g views seated sound id c at h Running p in let un = under harts m g views seated sound id c at h Running p in
      (left.entered h un tt ∙ f.0, left.suspended h un tt ∙ f.1, tl, (here_address, here_opaque)))
      (λ v ne lt excl f. carry harts m m' g (granted g t a o) v.hart v.stage (left.entered v.hart lt tt) (left.suspended v.hart lt tt)
      (λ w. (left.armed v.hart lt tt ∙ w, left.address v.hart lt tt, left.opaque v.hart lt tt))
      (λ u ul w.
      let not_t : u ≢ t = λ is.
      let z = excl t (let y = sound.flying t tl in let d = sound.order t tl in omega arith) in
      let y : in_flight t v.stage ≡ 1 = ap (λ (n : ℕ). in_flight n v.stage) (sym is) ∙ w in omega arith in
      (else_address u not_t, else_opaque u not_t, left.address u ul tt, left.opaque u ul tt))
      (λ q. let f = mine harts m g views seated sound id c at h Running p in let un = under harts m g views seated sound id c at h Running p in let d = sound.order h un in
      let z = q h un (λ e. ne (sym e)) in absurd (omega arith))
      f)
      (let f = mine harts m g views seated sound id c at h Running p in let un = under harts m g views seated sound id c at h Running p in let d = sound.order h un in let e = left.entered h un tt in (
        h,
        un,
        dite (ℕ_discrete h t)
            (λ is. let z : m'.claimed h ≡ 1 = ap m'.claimed is ∙ cl' in omega arith)
            (λ ne. let z = left.claimed h un ne in omega arith),
      ))
    where
      here_address : (granted g t a o).address t ≡ a
      here_address = rw (eq-eqb t t refl) refl

      here_opaque : (granted g t a o).opaque t ≡ o
      here_opaque = rw (eq-eqb t t refl) refl

      else_address : (u : ℕ) → u ≢ t → (granted g t a o).address u ≡ g.address u
      else_address u ne = rw (ne_eqb u t ne) refl

      else_opaque : (u : ℕ) → u ≢ t → (granted g t a o).opaque u ≡ g.opaque u
      else_opaque u ne = rw (ne_eqb u t ne) refl

      balanced : (b d : ℕ) → claim_of t b d (Claimed t a o found) + is_pending m g t b d ≡ 0 + is_pending m' (granted g t a o) t b d
      balanced b d =
          let none_yet = not_pending m g t b d (omega arith) in
          let ord = sound.order t tl in
          let e = left.entered t tl tt in
          let one : m'.claimed t - m'.entered t ≡ 1 = omega arith in
          let x : claim_of t b d (Claimed t a o found) ≡ (if a == b then (if o == d then 1 else 0) else 0) = rw (eq-eqb t t refl, word) refl in
          let y : is_pending m' (granted g t a o) t b d ≡ (if a == b then (if o == d then 1 else 0) else 0) = rw (eq-eqb t t refl, one) refl in
          omega arith

  -- the start in flight of the hart is the only one of its target
  lone : (st : Stage) (p : Place h st c.harts) (t : ℕ) → t < harts → in_flight t st ≡ 1 → (m.armed t ≡ 0) × (m.claimed t ≡ 1) × (total (flights t) views ≡ in_flight t st)
  lone st p t tl one =
      let y = sound.flying t tl in
      let d = sound.order t tl in
      let a = sum_has st p t in
      (omega arith, omega arith, omega arith)
    where
      sum_has : (s : Stage) (q : Place h s c.harts) (u : ℕ) → in_flight u s ≤ total (flights u) views
      sum_has s q u =
          let a = at_most_total (flights u) views id c at in
          let b = at_most_total (λ (v : HartView). in_flight u v.stage) c.harts q.k (hart_notes h s q.actions q.places) q.there in
          omega arith

  -- an argument of the start in flight is stored
  puts : (t w n : ℕ) (st st' : Stage) (p : Place h st c.harts) → t < harts → in_flight t st ≡ 1 → ((u : ℕ) → in_flight u st' ≡ in_flight u st) → Fits harts m' g h st' → Leaves harts Any Any Any Any (But t) (But t) m m'
      → Sound harts m' g (set views id (after harts m g views seated sound id c at h st p st' (Wrote w n)))
  puts t w n st st' p tl one flies fit left =
      let l = lone st p t tl one in
      next harts m g views seated sound id c at h st p m' g st' (Wrote w n)
      (λ k lt. let d = sound.order k lt in let x = left.claimed k lt tt in let b = left.armed k lt tt in let e = left.entered k lt tt in let y = left.suspended k lt tt in (omega arith, omega arith, omega arith, omega arith))
      (λ u lt. let f = flies u in let x = left.claimed u lt tt in let b = left.armed u lt tt in omega arith)
      (λ u b d lt. ap (λ (k : ℕ). 0 + k) (pending_same m m' g u b d (left.claimed u lt tt) (left.entered u lt tt)))
      (λ u lt x e.
      let s = sound.armed u lt (sym (left.armed u lt tt) ∙ x) (sym (left.entered u lt tt) ∙ e) in
      let ne : u ≢ t = λ is. let y : m'.armed u ≡ m.armed t = left.armed u lt tt ∙ ap m.armed is in omega arith in
      (left.address u lt ne ∙ s.0, left.opaque u lt ne ∙ s.1))
      fit
      (λ v ne lt excl old. carry harts m m' g g v.hart v.stage (left.entered v.hart lt tt) (left.suspended v.hart lt tt)
      (λ x. let apart : v.hart ≢ t = λ is. let y : m.armed v.hart ≡ m.armed t = ap m.armed is in omega arith in (left.armed v.hart lt tt ∙ x, left.address v.hart lt apart, left.opaque v.hart lt apart))
      (λ u ul x.
      let z = excl t l.2 in
      let apart : u ≢ t = λ is. let y : in_flight t v.stage ≡ 1 = ap (λ (k : ℕ). in_flight k v.stage) (sym is) ∙ x in omega arith in
      (refl, refl, left.address u ul apart, left.opaque u ul apart))
      (λ q u ul apart. left.claimed u ul tt ∙ q u ul apart)
      old)
      (let k = sound.settled in (k.0, k.1, left.claimed k.0 k.1 tt ∙ (k.2 ∙ sym (left.entered k.0 k.1 tt))))

  -- the address of the claim
  pub puts_address : (t a o w : ℕ) (p : Place h (Claiming t a o) c.harts) → m'.address t ≡ a → Leaves harts Any Any Any Any (But t) (But t) m m'
      → Sound harts m' g (set views id (after harts m g views seated sound id c at h (Claiming t a o) p (Half t a o) (Wrote w a)))
  puts_address t a o w p is left =
      let f = mine harts m g views seated sound id c at h (Claiming t a o) p in
      let un = under harts m g views seated sound id c at h (Claiming t a o) p in
      puts t w a (Claiming t a o) (Half t a o) p f.2 (in_flight_same t a o) (λ u. refl) (left.entered h un tt ∙ f.0, left.suspended h un tt ∙ f.1, f.2, f.3, is) left

  -- and its opaque value
  pub puts_opaque : (t a o w : ℕ) (p : Place h (Half t a o) c.harts) → m'.address t ≡ m.address t → m'.opaque t ≡ o → Leaves harts Any Any Any Any (But t) (But t) m m'
      → Sound harts m' g (set views id (after harts m g views seated sound id c at h (Half t a o) p (Stored t a o) (Wrote w o)))
  puts_opaque t a o w p still is left =
      let f = mine harts m g views seated sound id c at h (Half t a o) p in
      let un = under harts m g views seated sound id c at h (Half t a o) p in
      puts t w o (Half t a o) (Stored t a o) p f.2 (in_flight_same t a o) (λ u. refl) (left.entered h un tt ∙ f.0, left.suspended h un tt ∙ f.1, f.2, f.3, still ∙ f.4, is) left

  -- another hart, where the grants and the arguments stay
  carried : (k : ℕ) (st : Stage) → ((u : ℕ) → u < harts → Any u → m'.address u ≡ m.address u) → ((u : ℕ) → u < harts → Any u → m'.opaque u ≡ m.opaque u)
      → k < harts → m'.entered k ≡ m.entered k → m'.suspended k ≡ m.suspended k → (m.armed k ≡ 1 → m'.armed k ≡ 1)
      → (((u : ℕ) → u < harts → u ≢ k → m.claimed u ≡ 0) → (u : ℕ) → u < harts → u ≢ k → m'.claimed u ≡ 0) → Fits harts m g k st → Fits harts m' g k st
  carried k st ad op lt en su ar cl old = carry harts m m' g g k st en su (λ x. (ar x, ad k lt tt, op k lt tt)) (λ u ul x. (refl, refl, ad u ul tt, op u ul tt)) cl old

  -- the target is armed
  pub arms : (t a o : ℕ) (p : Place h (Stored t a o) c.harts)
      → m'.armed t ≡ 1 → Leaves harts Any (But t) Any Any Any Any m m'
      → Sound harts m' g (set views id (after harts m g views seated sound id c at h (Stored t a o) p Running (Armed t)))
  arms t a o p ar' left =
      let f = mine harts m g views seated sound id c at h (Stored t a o) p in
      let un = under harts m g views seated sound id c at h (Stored t a o) p in
      let l = lone (Stored t a o) p t f.2 (in_flight_same t a o) in
      next harts m g views seated sound id c at h (Stored t a o) p m' g Running (Armed t)
      (λ k lt. let d = sound.order k lt in let x = left.claimed k lt tt in let e = left.entered k lt tt in let y = left.suspended k lt tt in dite (ℕ_discrete k t)
      (λ is. let z : m'.armed k ≡ 1 = ap m'.armed is ∙ ar' in let w : m.claimed k ≡ 1 = ap m.claimed is ∙ l.1 in (omega arith, omega arith, omega arith, omega arith))
      (λ ne. let z = left.armed k lt ne in (omega arith, omega arith, omega arith, omega arith)))
      (λ u lt. let x = left.claimed u lt tt in dite (ℕ_discrete u t)
      (λ is. let z : m'.armed u ≡ 1 = ap m'.armed is ∙ ar' in let w : m.armed u ≡ 0 = ap m.armed is ∙ l.0 in
      let y : in_flight u (Stored t a o) ≡ 1 = ap (λ (n : ℕ). in_flight n (Claiming t a o)) is ∙ in_flight_same t a o in omega arith)
      (λ ne. let z = left.armed u lt ne in let y : in_flight u (Stored t a o) ≡ 0 = in_flight_other t u a o (λ e. ne (sym e)) in omega arith))
      (λ u b d lt. ap (λ (n : ℕ). 0 + n) (pending_same m m' g u b d (left.claimed u lt tt) (left.entered u lt tt)))
      (λ u lt x e. dite (ℕ_discrete u t)
      (λ is. (left.address u lt tt ∙ (ap m.address is ∙ (f.4 ∙ (sym f.3.0 ∙ ap g.address (sym is)))), left.opaque u lt tt ∙ (ap m.opaque is ∙ (f.5 ∙ (sym f.3.1 ∙ ap g.opaque (sym is))))))
      (λ ne. let s = sound.armed u lt (sym (left.armed u lt ne) ∙ x) (sym (left.entered u lt tt) ∙ e) in (left.address u lt tt ∙ s.0, left.opaque u lt tt ∙ s.1)))
      (left.entered h un tt ∙ f.0, left.suspended h un tt ∙ f.1)
      (λ v ne lt excl old. carried v.hart v.stage left.address left.opaque lt (left.entered v.hart lt tt) (left.suspended v.hart lt tt)
      (λ x. dite (ℕ_discrete v.hart t) (λ is. ap m'.armed is ∙ ar') (λ apart. left.armed v.hart lt apart ∙ x))
      (λ q u ul apart. left.claimed u ul tt ∙ q u ul apart)
      old)
      (let k = sound.settled in (k.0, k.1, left.claimed k.0 k.1 tt ∙ (k.2 ∙ sym (left.entered k.0 k.1 tt))))

  -- the hart enters
  pub enters : (a o : ℕ) (ps : List ℕ) (p : Place h (Loaded a o) c.harts)
      → m'.entered h ≡ 1 → Leaves harts Any Any (But h) Any Any Any m m'
      → Sound harts m' g (set views id (after harts m g views seated sound id c at h (Loaded a o) p Running (Entered h a o ps)))
  enters a o ps p en' left =
      let f = mine harts m g views seated sound id c at h (Loaded a o) p in
      let un = under harts m g views seated sound id c at h (Loaded a o) p in
      let ord = sound.order h un in
      let gr = sound.armed h un f.0 f.1 in
      let ga : g.address h ≡ a = sym gr.0 ∙ f.2 in
      let go : g.opaque h ≡ o = sym gr.1 ∙ f.3 in
      next harts m g views seated sound id c at h (Loaded a o) p m' g Running (Entered h a o ps)
      (λ k lt. let d = sound.order k lt in let x = left.claimed k lt tt in let b = left.armed k lt tt in let y = left.suspended k lt tt in dite (ℕ_discrete k h)
      (λ is. let z : m'.entered k ≡ 1 = ap m'.entered is ∙ en' in let w : m.armed k ≡ 1 = ap m.armed is ∙ f.0 in (omega arith, omega arith, omega arith, omega arith))
      (λ ne. let z = left.entered k lt ne in (omega arith, omega arith, omega arith, omega arith)))
      (λ u lt. let x = left.claimed u lt tt in let b = left.armed u lt tt in omega arith)
      (λ u b d lt. dite (ℕ_discrete u h)
      (λ is. subst (λ (n : ℕ). 0 + is_pending m g n b d ≡ entry_of n b d (Entered h a o ps) + is_pending m' g n b d) (sym is)
      (let x = left.claimed h un tt in
      let gone = not_pending m' g h b d (omega arith) in
      let one : m.claimed h - m.entered h ≡ 1 = omega arith in
      let y : is_pending m g h b d ≡ (if a == b then (if o == d then 1 else 0) else 0) = rw (ga, go, one) refl in
      let z : entry_of h b d (Entered h a o ps) ≡ (if a == b then (if o == d then 1 else 0) else 0) = rw (eq-eqb h h refl) refl in
      omega arith))
      (λ ne.
      let z : entry_of u b d (Entered h a o ps) ≡ 0 = rw (ne_eqb h u (λ e. ne (sym e))) refl in
      let y = pending_same m m' g u b d (left.claimed u lt tt) (left.entered u lt ne) in
      omega arith))
      (λ u lt x e.
      let ne : u ≢ h = λ is. let z : m'.entered u ≡ 1 = ap m'.entered is ∙ en' in omega arith in
      let s = sound.armed u lt (sym (left.armed u lt tt) ∙ x) (sym (left.entered u lt ne) ∙ e) in
      (left.address u lt tt ∙ s.0, left.opaque u lt tt ∙ s.1))
      (let y = left.suspended h un tt in (en', omega arith))
      (λ v ne lt excl old. carried v.hart v.stage left.address left.opaque lt (left.entered v.hart lt ne) (left.suspended v.hart lt tt) (λ x. left.armed v.hart lt tt ∙ x)
      (λ q u ul apart. left.claimed u ul tt ∙ q u ul apart)
      old)
      (let x = left.claimed h un tt in let armed = f.0 in (h, un, omega arith))

  -- the hart stops
  pub stops : (found : ℕ) (p : Place h Running c.harts)
      → (m'.claimed h ≡ 0) × (m'.armed h ≡ 0) × (m'.entered h ≡ 0) × (m'.suspended h ≡ 0)
      → Leaves harts (But h) (But h) (But h) (But h) Any Any m m'
      → Sound harts m' g (set views id (after harts m g views seated sound id c at h Running p Out (Stopped found)))
  stops found p none left =
      let f = mine harts m g views seated sound id c at h Running p in
      let un = under harts m g views seated sound id c at h Running p in
      let ord = sound.order h un in
      next harts m g views seated sound id c at h Running p m' g Out (Stopped found)
      (λ k lt. let d = sound.order k lt in dite (ℕ_discrete k h)
      (λ is. let z : m'.claimed k ≡ 0 = ap m'.claimed is ∙ none.0 in let w : m'.armed k ≡ 0 = ap m'.armed is ∙ none.1 in let x : m'.entered k ≡ 0 = ap m'.entered is ∙ none.2 in let y : m'.suspended k ≡ 0 = ap m'.suspended is ∙ none.3 in
      (omega arith, omega arith, omega arith, omega arith))
      (λ ne. let z = left.claimed k lt ne in let w = left.armed k lt ne in let x = left.entered k lt ne in let y = left.suspended k lt ne in (omega arith, omega arith, omega arith, omega arith)))
      (λ u lt. dite (ℕ_discrete u h)
      (λ is. let z : m'.claimed u ≡ 0 = ap m'.claimed is ∙ none.0 in let w : m'.armed u ≡ 0 = ap m'.armed is ∙ none.1 in
      let x : m.claimed u ≡ m.claimed h = ap m.claimed is in let y : m.armed u ≡ m.armed h = ap m.armed is in omega arith)
      (λ ne. let z = left.claimed u lt ne in let w = left.armed u lt ne in omega arith))
      (λ u b d lt. dite (ℕ_discrete u h)
      (λ is.
      let x : m.claimed u ≡ m.claimed h = ap m.claimed is in let y : m.entered u ≡ m.entered h = ap m.entered is in
      let z : m'.claimed u ≡ 0 = ap m'.claimed is ∙ none.0 in
      let before = not_pending m g u b d (omega arith) in let now = not_pending m' g u b d (omega arith) in omega arith)
      (λ ne. ap (λ (n : ℕ). 0 + n) (pending_same m m' g u b d (left.claimed u lt ne) (left.entered u lt ne))))
      (λ u lt x e.
      let ne : u ≢ h = λ is. let z : m'.armed u ≡ 0 = ap m'.armed is ∙ none.1 in omega arith in
      let s = sound.armed u lt (sym (left.armed u lt ne) ∙ x) (sym (left.entered u lt ne) ∙ e) in
      (left.address u lt tt ∙ s.0, left.opaque u lt tt ∙ s.1))
      none.2
      (λ v ne lt excl old. carried v.hart v.stage left.address left.opaque lt (left.entered v.hart lt ne) (left.suspended v.hart lt ne) (λ x. left.armed v.hart lt ne ∙ x)
      (λ q u ul apart. dite (ℕ_discrete u h) (λ is. ap m'.claimed is ∙ none.0) (λ differ. left.claimed u ul differ ∙ q u ul apart))
      old)
      (h, un, none.0 ∙ sym none.2)

  -- the suspended bit of the hart changes
  pub turns : (st st' : Stage) (x : Action) (p : Place h st c.harts) → ((t : ℕ) → in_flight t st' ≡ in_flight t st) → ((t a o : ℕ) → claim_of t a o x ≡ entry_of t a o x)
      → m.entered h ≡ 1 → m'.suspended h ≤ 1 → Fits harts m' g h st'
      → Leaves harts Any Any Any (But h) Any Any m m'
      → Sound harts m' g (set views id (after harts m g views seated sound id c at h st p st' x))
  turns st st' x p flies weighs runs most fit left =
      let un = under harts m g views seated sound id c at h st p in
      next harts m g views seated sound id c at h st p m' g st' x
      (λ k lt. let d = sound.order k lt in let z = left.claimed k lt tt in let b = left.armed k lt tt in let e = left.entered k lt tt in dite (ℕ_discrete k h)
      (λ is. let w : m'.suspended k ≡ m'.suspended h = ap m'.suspended is in let y : m.entered k ≡ 1 = ap m.entered is ∙ runs in (omega arith, omega arith, omega arith, omega arith))
      (λ ne. let w = left.suspended k lt ne in (omega arith, omega arith, omega arith, omega arith)))
      (λ u lt. let f = flies u in let z = left.claimed u lt tt in let b = left.armed u lt tt in omega arith)
      (λ u b d lt. let w = weighs u b d in let e = pending_same m m' g u b d (left.claimed u lt tt) (left.entered u lt tt) in omega arith)
      (λ u lt y e. let s = sound.armed u lt (sym (left.armed u lt tt) ∙ y) (sym (left.entered u lt tt) ∙ e) in (left.address u lt tt ∙ s.0, left.opaque u lt tt ∙ s.1))
      fit
      (λ v ne lt excl old. carried v.hart v.stage left.address left.opaque lt (left.entered v.hart lt tt) (left.suspended v.hart lt ne) (λ y. left.armed v.hart lt tt ∙ y)
      (λ q u ul apart. left.claimed u ul tt ∙ q u ul apart)
      old)
      (let k = sound.settled in (k.0, k.1, left.claimed k.0 k.1 tt ∙ (k.2 ∙ sym (left.entered k.0 k.1 tt))))
