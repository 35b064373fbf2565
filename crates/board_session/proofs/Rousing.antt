-- What a call of the wake-up device comes to.
use Rattle.std.proofs.Common.{◌≡◌, ◌↔◌, ◌∙◌, Bool, true, false, List, ℕ, Option, Result, Ok, Err, IsOk, OnOk, IfErr, refl, sym, ap, subst}
use Rattle.board_model.specs.declared.refusal.Refusal.{Refusal, TheVariants.NotDozing}
use Rattle.susp.specs.{Dozes.{can_wake, after_wake}, declared.buses.{Bus.Bus, Doze.Doze}}
use Rattle.board_session.specs.Wakes.{WakesIf, Wakes, MayWake}

not_true : (b : Bool) → (b ≡ true → ⊥) → false ≡ b
not_true true never = absurd (never refl)
not_true false never = refl

woken_bus : (old new : Bus) → new.ram ≡ old.ram → new.doze ≡ after_wake old.doze → new ≡ record old { doze = after_wake old.doze }
woken_bus old new ram doze =
    ap (λ (m : List ℕ). let b : Bus = record { ram = m; doze = new.doze } in b) ram
    ∙ ap (λ (o : Option Doze). let b : Bus = record { ram = old.ram; doze = o } in b) doze

pub wakes : (r : Result (Unit {0}) Refusal) (old new : Bus) → IsOk r ↔ (can_wake old.doze ≡ true) → new.ram ≡ old.ram → OnOk r (new.doze ≡ after_wake old.doze) → IfErr r (λ e. (e ≡ NotDozing) × (new ≡ old)) → Wakes old new r
wakes (Ok done) old new ok ram woken refused =
    subst (λ (b : Bool). WakesIf b old new (Ok done)) (sym (ok.0 refl)) (refl, woken_bus old new ram woken)
wakes (Err e) old new ok ram woken refused =
    let asleep : false ≡ can_wake old.doze = not_true (can_wake old.doze) (λ can. let is : ◌≡◌ {A = Bool} false true = ok.1 can in let n : ⊥ = cc in n) in
    subst (λ (b : Bool). WakesIf b old new (Err e)) asleep (ap (λ (x : Refusal). let r : Result (Unit {0}) Refusal = Err x in r) refused.0, refused.1)

pub may : (r : Result (Unit {0}) Refusal) (old new : Bus) → IfErr r (λ e. (e ≡ NotDozing) × (new ≡ old)) → MayWake r
may (Ok done) old new refused = tt
may (Err e) old new refused = refused.0
