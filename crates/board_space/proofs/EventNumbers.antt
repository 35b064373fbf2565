-- Events on a board of at most eight harts have numbers of their own.
use Rattle.std.proofs.Common.{◌≡◌, ℕ, ◌<◌, ◌≤◌, true, false, refl, ap, arith}
use Rattle.model_board.specs.Events.{Event, Turn, Refused, Wake, Cut, PowerOn}
use Rattle.board_space.specs.Space.{Asked, IsOne, IsSmall, number_of}

pub small : (asked : Asked) (e : Event) → asked.size.harts ≤ 8 → IsOne asked e → IsSmall e
small asked (Turn h) few one = omega (arith, one.0)
small asked (Refused h down) few one = omega (arith, one.0)
small asked Wake few one = tt
small asked Cut few one = tt
small asked PowerOn few one = tt

pub below : (e : Event) → IsSmall e → number_of e < 27
below (Turn h) x = omega arith
below (Refused h false) x = omega arith
below (Refused h true) x = omega arith
below Wake x = omega arith
below Cut x = omega arith
below PowerOn x = omega arith

pub same_event : (e f : Event) → IsSmall e → IsSmall f → number_of e ≡ number_of f → e ≡ f
same_event (Turn g) (Turn h) x y is = ap (λ (n : ℕ). Turn n) (omega arith)
same_event (Turn g) (Refused h false) x y is = absurd (omega arith)
same_event (Turn g) (Refused h true) x y is = absurd (omega arith)
same_event (Turn g) Wake x y is = absurd (omega arith)
same_event (Turn g) Cut x y is = absurd (omega arith)
same_event (Turn g) PowerOn x y is = absurd (omega arith)
same_event (Refused g false) (Turn h) x y is = absurd (omega arith)
same_event (Refused g false) (Refused h false) x y is = ap (λ (n : ℕ). Refused n false) (omega arith)
same_event (Refused g false) (Refused h true) x y is = absurd (omega arith)
same_event (Refused g false) Wake x y is = absurd (omega arith)
same_event (Refused g false) Cut x y is = absurd (omega arith)
same_event (Refused g false) PowerOn x y is = absurd (omega arith)
same_event (Refused g true) (Turn h) x y is = absurd (omega arith)
same_event (Refused g true) (Refused h false) x y is = absurd (omega arith)
same_event (Refused g true) (Refused h true) x y is = ap (λ (n : ℕ). Refused n true) (omega arith)
same_event (Refused g true) Wake x y is = absurd (omega arith)
same_event (Refused g true) Cut x y is = absurd (omega arith)
same_event (Refused g true) PowerOn x y is = absurd (omega arith)
same_event Wake (Turn h) x y is = absurd (omega arith)
same_event Wake (Refused h false) x y is = absurd (omega arith)
same_event Wake (Refused h true) x y is = absurd (omega arith)
same_event Wake Wake x y is = refl
same_event Wake Cut x y is = absurd (omega arith)
same_event Wake PowerOn x y is = absurd (omega arith)
same_event Cut (Turn h) x y is = absurd (omega arith)
same_event Cut (Refused h false) x y is = absurd (omega arith)
same_event Cut (Refused h true) x y is = absurd (omega arith)
same_event Cut Wake x y is = absurd (omega arith)
same_event Cut Cut x y is = refl
same_event Cut PowerOn x y is = absurd (omega arith)
same_event PowerOn (Turn h) x y is = absurd (omega arith)
same_event PowerOn (Refused h false) x y is = absurd (omega arith)
same_event PowerOn (Refused h true) x y is = absurd (omega arith)
same_event PowerOn Wake x y is = absurd (omega arith)
same_event PowerOn Cut x y is = absurd (omega arith)
same_event PowerOn PowerOn x y is = refl
