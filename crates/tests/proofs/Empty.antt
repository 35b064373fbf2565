-- A life in which no reset and no suspension was asked for, and a bus on which no board dozes.
use Rattle.std.proofs.Common.{◌≡◌, List, [], None, sym, subst}
use Rattle.board_model.specs.Durable.{Change}
use Rattle.hart_threads.{specs.{Bused.begun_bus, LifeEnds.{AllEndAs, IsEndedAs}}, proofs.LifeEnding.none_end}
use Rattle.store.specs.Lives.{Life}
use Rattle.susp.specs.declared.buses.Bus.{Bus}

pub none_ended : (P Q : Change → Type 0) (life : Life) → life.journal ≡ [] → life.doubt ≡ None → IsEndedAs P Q life
none_ended P Q life empty up = record {
  journal = subst (λ (cs : List Change). AllEndAs P cs) (sym empty) (none_end P);
  doubt = λ c e. let no : ⊥ = cc in absurd no;
}

pub awake_bus : (bus : Bus) → bus.doze ≡ None → bus ≡ begun_bus bus.ram
awake_bus bus none = λ i. record { ram = bus.ram; doze = none i }
