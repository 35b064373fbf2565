-- What a disk of the same content and the same log has.
use Rattle.std.proofs.Common.{◌≡◌, ℕ, ◌∙◌, Bool, if◌then◌else◌, refl, sym, ap, subst}
use Rattle.disk.specs.{Facts.{Content, Facts, Lent, Unchanged}, WriteLog.{WriteLog, sim_facts, synced}}
use Rattle.simdisk.specs.{declared.latest.Latest.Latest, Latest.latest_of}

is_unchanged : (f : Facts) → Unchanged f f
is_unchanged f = record {
  content = refl;
  moment = refl;
  failures = refl;
  calls = refl;
  lent = refl;
  now = λ c. ((λ x. x), (λ x. x));
  since = λ t c. ((λ x. x), (λ x. x));
}

pub same_facts : (now now' : Content) (r r' : WriteLog) (failures calls : ℕ) (lent : Lent) → now' ≡ now → r' ≡ r
    → Unchanged (sim_facts now (synced r) r failures calls lent) (sim_facts now' (synced r') r' failures calls lent)
same_facts now now' r r' failures calls lent content log =
    let old = sim_facts now (synced r) r failures calls lent in
    subst (λ (q : WriteLog). Unchanged old (sim_facts now' (synced q) q failures calls lent)) (sym log)
    (subst (λ (m : Content). Unchanged old (sim_facts m (synced r) r failures calls lent)) (sym content) (is_unchanged old))

pub same_latest : (a b : Latest) (c d : Content) → b.as_read ≡ a.as_read → b.sectors.items ≡ a.sectors.items → d ≡ c → latest_of b d ≡ latest_of a c
same_latest a b c d read sectors content =
    ap (λ (x : Bool). if x then d else b.sectors.items) read ∙ (ap (λ (s : Content). if a.as_read then d else s) sectors ∙ ap (λ (s : Content). if a.as_read then s else a.sectors.items) content)
