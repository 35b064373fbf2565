-- What the derived comparison of the lines of a machine finds equal is the same.
use Rattle.std.proofs.Common.{◌≡◌, false, true, refl, rules}
use Rattle.sbi.proofs.Alike.{equal-word}
use Rattle.machine.specs.declared.line.MachineLine.{MachineLine}
use Rattle.machine.specs.declared.line.MachineLine.TheVariants as lines
use Rattle.machine.specs.contracts.line.MachineLinePartialEq.TheImpl as line

never : {X : Type 0} → false ≡ true → X
never e = absurd (let no : ⊥ = cc in no)

pub equal-line : (a b : MachineLine) → line.ghosts.eq a b ≡ true → a ≡ b
equal-line (lines.Turn h k w) (lines.Turn i l v) same = search (rules, same, equal-word w v)
equal-line (lines.Answered h x y) (lines.Answered i u v) same = search (rules, same)
equal-line (lines.Called h w) (lines.Called i v) same = search (rules, same, equal-word w v)
equal-line (lines.NotStarted h) (lines.NotStarted i) same = search (rules, same)
equal-line (lines.Reg h r x) (lines.Reg i s y) same = search (rules, same)
equal-line (lines.Pc h x) (lines.Pc i y) same = search (rules, same)
equal-line (lines.Csr h r x) (lines.Csr i s y) same = search (rules, same)
equal-line (lines.Pending x) (lines.Pending y) same = search (rules, same)
equal-line (lines.Mem x) (lines.Mem y) same = search (rules, same)
equal-line (lines.Payload s n) (lines.Payload t m) same = search (rules, same)
equal-line lines.Busy lines.Busy same = refl
equal-line lines.Off lines.Off same = refl
equal-line a b same = never same
