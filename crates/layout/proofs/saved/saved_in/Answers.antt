use Rattle.std.proofs.Common.{◌≡◌, ◌∙◌, ◌<◌, ℕ, zero, suc, List, Some, length, slice_index, true≢false, sym, ap, subst, arith}
use Rattle.std.proofs.lemmas.List.{ext_get_or}
use Rattle.board_model.specs.Shapes.{IsValidAddress}
use Rattle.layout.specs.{Records.AreCounts, declared.saved.Saved.Saved}
use Rattle.layout.proofs.saved.saved_in.Goals.{then-next-serial-via-then-next-serial, then-next-serial-via-else-next-serial+then-not-are_counts}
use Rattle.layout.proofs.saved.saved_in.Goals as goal

-- four numbers are the same as four others
same_four : (xs ys : List ℕ) → length xs ≡ 4 → length ys ≡ 4 → slice_index xs 0 ≡ slice_index ys 0 → slice_index xs 1 ≡ slice_index ys 1 → slice_index xs 2 ≡ slice_index ys 2 → slice_index xs 3 ≡ slice_index ys 3 → xs ≡ ys
same_four xs ys long also a b c d = ext_get_or 0 xs ys (long ∙ sym also) (λ k lt. each k (omega (arith, lt, long)))
  where
    each : (k : ℕ) → k < 4 → slice_index xs k ≡ slice_index ys k
    each zero lt = a
    each (suc zero) lt = b
    each (suc (suc zero)) lt = c
    each (suc (suc (suc zero))) lt = d
    each (suc (suc (suc (suc k)))) lt = absurd (omega (arith, lt))

-- the numbers make what is kept of an image
saved_is : (s : Saved) (serial hart address opaque area : ℕ) (counts : List ℕ) → serial ≡ s.head.serial → hart ≡ s.head.hart → address ≡ s.head.address → opaque ≡ s.head.opaque → area ≡ s.area → counts ≡ s.counts
    → ◌≡◌ {A = Saved} (record { head = record { serial = serial; hart = hart; address = address; opaque = opaque }; area = area; counts = counts }) s
saved_is s serial hart address opaque area counts a b c d e f =
    ap (λ (x : ℕ). made x hart address opaque area counts) a
    ∙ ap (λ (x : ℕ). made s.head.serial x address opaque area counts) b ∙ ap (λ (x : ℕ). made s.head.serial s.head.hart x opaque area counts) c
    ∙ ap (λ (x : ℕ). made s.head.serial s.head.hart s.head.address x area counts) d ∙ ap (λ (x : ℕ). made s.head.serial s.head.hart s.head.address s.head.opaque x counts) e
    ∙ ap (λ (x : List ℕ). made s.head.serial s.head.hart s.head.address s.head.opaque s.area x) f
  where
    made : ℕ → ℕ → ℕ → ℕ → ℕ → List ℕ → Saved
    made serial hart address opaque area counts = record { head = record { serial = serial; hart = hart; address = address; opaque = opaque }; area = area; counts = counts }

pub returns-in_err-area-clause-exact : goal.returns-in_err-area-clause-exact
returns-in_err-area-clause-exact c s saved stands = absurd (omega (arith, c.in_err-area.ensures.none, c.u32_at.ensures, stands.area, saved.area))

pub returns-in_err-hart-clause-exact : goal.returns-in_err-hart-clause-exact
returns-in_err-hart-clause-exact c s saved stands = absurd (omega (arith, c.in_err-hart.ensures.none, c.u32_at-2.ensures, stands.hart, saved.hart))

pub returns-in_err-area-clause-in_range : goal.returns-in_err-area-clause-in_range
returns-in_err-area-clause-in_range c = rw c.from_residual.ensures tt

pub returns-in_err-hart-clause-in_range : goal.returns-in_err-hart-clause-in_range
returns-in_err-hart-clause-in_range c = rw c.from_residual-in_err-hart.ensures tt

pub returns-in_err-address-clause-in_range : goal.returns-in_err-address-clause-in_range
returns-in_err-address-clause-in_range c = rw c.from_residual-in_err-address.ensures tt

pub returns-in_err-address-clause-exact : goal.returns-in_err-address-clause-exact
returns-in_err-address-clause-exact c s saved stands = absurd (c.in_err-address.ensures.none (subst (λ (a : ℕ). IsValidAddress c.args.shape.now a) (sym (c.u64_at.ensures ∙ stands.address)) saved.address))

pub returns-then-next-serial-clause-exact : goal.returns-then-next-serial-clause-exact
returns-then-next-serial-clause-exact c s saved stands =
    elim c.then-next-serial.branch [
      | then-next-serial-via-then-next-serial w ↦ absurd (omega (arith, w.if-next-serial.true, c.u64_at-serial.ensures, stands.serial, saved.serial))
      | then-next-serial-via-else-next-serial+then-not-are_counts w ↦ (let counts = same_four c.counts_in-counts.result s.counts c.counts_in-counts.ensures.four saved.counts.four (c.counts_in-counts.ensures.zero ∙ stands.zero) (c.counts_in-counts.ensures.one ∙ stands.one) (c.counts_in-counts.ensures.two ∙ stands.two) (c.counts_in-counts.ensures.three ∙ stands.three) in
          absurd (true≢false (sym (w.are_counts.ensures.1 (subst (λ (l : List ℕ). AreCounts c.args.shape.now l) (sym counts) saved.counts)) ∙ w.if-not-are_counts.true)))
    ]

pub returns-clause-exact : goal.returns-clause-exact
returns-clause-exact c s saved stands =
    ap Some (saved_is s c.u64_at-serial.result c.in_ok-hart.hart c.in_ok-address.address c.u64_at-opaque.result c.in_ok-area.area c.counts_in-counts.result
    (c.u64_at-serial.ensures ∙ stands.serial) (c.in_ok-hart.ensures.some.0 ∙ c.u32_at-2.ensures ∙ stands.hart) (c.in_ok-address.ensures.some.0 ∙ c.u64_at.ensures ∙ stands.address) (c.u64_at-opaque.ensures ∙ stands.opaque)
    (c.in_ok-area.ensures.some.0 ∙ c.u32_at.ensures ∙ stands.area) (same_four c.counts_in-counts.result s.counts c.counts_in-counts.ensures.four saved.counts.four (c.counts_in-counts.ensures.zero ∙ stands.zero) (c.counts_in-counts.ensures.one ∙ stands.one) (c.counts_in-counts.ensures.two ∙ stands.two) (c.counts_in-counts.ensures.three ∙ stands.three)))
