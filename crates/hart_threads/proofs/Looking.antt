-- A turn of a hart in whose doze its board is, by what its look at the bus found.
use Rattle.std.proofs.Common.{◌≡◌, ◌∙◌, ℕ, Bool, true, false, Some, None, refl, sym, ap, subst}
use Rattle.hart.specs.State.{ArchState, started as fresh}
use Rattle.sbi_calls.specs.{Both.Known, declared.words.Did.TheVariants.{Idle, Resumed}}
use Rattle.susp.specs.declared.buses.{Bus.Bus, Doze.Doze}
use Rattle.tallies.specs.declared.book_views.PartView.{PartView}
use Rattle.turns.specs.Own.{ResumesOwn}
use Rattle.sbi.specs.declared.words.Word.TheVariants.{Goes}
use Rattle.hart_threads.specs.{Bused.TakesBus, Dozes.{is_woken, doze_left}, Threads.{seated, DozeOnce, LookOnce}}
use Rattle.hart_threads.specs.declared.bus_turns.BusTurn.{BusTurn}

-- what the look left of the bus
left_so : (by h : ℕ) (found left : Bus) (w : Bool) → by ≡ h → w ≡ is_woken by found.doze → left.ram ≡ found.ram → left.doze ≡ doze_left w found.doze → left ≡ record found { doze = doze_left (is_woken h found.doze) found.doze }
left_so by h found left w e is ram doze =
    let dozes : left.doze ≡ doze_left (is_woken h found.doze) found.doze = doze ∙ ap (λ (x : Bool). doze_left x found.doze) (is ∙ ap (λ (k : ℕ). is_woken k found.doze) e) in
    λ i. record { ram = ram i; doze = dozes i }

-- it was not woken
pub idle_once : (by : ℕ) (found left : Bus) (w : Bool) (d : Doze) (s : ArchState) (k : Known) (p p' : PartView BusTurn) → by ≡ s.id → w ≡ is_woken by found.doze → w ≡ false → left.ram ≡ found.ram → left.doze ≡ doze_left w found.doze → TakesBus found left p p'
    → LookOnce d (seated s k (Some d) p) (seated s k (Some d) p') (Goes Idle)
idle_once by found left w d s k p p' e is asleep ram doze takes =
    let so : false ≡ is_woken s.id found.doze = sym asleep ∙ is ∙ ap (λ (h : ℕ). is_woken h found.doze) e in (
      found,
      left,
      takes,
      left_so by s.id found left w e is ram doze,
      subst (λ (x : Bool). DozeOnce x d (seated s k (Some d) p) (seated s k (Some d) p') (Goes Idle)) so (refl, refl),
    )

-- it was
pub woken_once : (by : ℕ) (found left : Bus) (w : Bool) (d : Doze) (s t : ArchState) (k k' : Known) (p p' : PartView BusTurn) → by ≡ s.id → w ≡ is_woken by found.doze → w ≡ true → left.ram ≡ found.ram → left.doze ≡ doze_left w found.doze → TakesBus found left p p'
    → t ≡ fresh s.id d.at.address d.at.opaque → ResumesOwn s.id k k' → LookOnce d (seated s k (Some d) p) (seated t k' None p') (Goes Resumed)
woken_once by found left w d s t k k' p p' e is called ram doze takes begins own =
    let so : true ≡ is_woken s.id found.doze = sym called ∙ is ∙ ap (λ (h : ℕ). is_woken h found.doze) e in (
      found,
      left,
      takes,
      left_so by s.id found left w e is ram doze,
      subst (λ (x : Bool). DozeOnce x d (seated s k (Some d) p) (seated t k' None p') (Goes Resumed)) so (begins, own, refl, refl),
    )
