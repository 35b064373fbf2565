use Rattle.std.proofs.Common.{[], length, Option, None, refl, sym, subst}
use Rattle.board_model.specs.Durable.{Change}
use Rattle.hart_threads.{specs.{Doubts.IsDoubtOf, Since.AreKept}, proofs.Keeping.begun_kept}
use Rattle.store.specs.{Leaves.LeavesOnly, Views.{disk_of, doubt_of, found_state, journal_of, life_of, now_state, size_of_store}}
use Rattle.board_session.proofs.{Backing.{at_once, none_later}, Powering.{kept_reads, life_kept, life_leaves}}
use Rattle.board_session.proofs.life_end.disk_at_once.Goals as goal

pub returns-clause-life : goal.returns-clause-life
returns-clause-life g c =
    let store = c.args.store in
    let o = c.into_disk.ensures in
    let disk = g.D.Disk.facts c.into_disk.result in
    let size = size_of_store store in
    let left = life_leaves (doubt_of store) disk size (now_state store) (λ up. o.up (now_state store) (up, refl)) (λ d down. o.down (now_state store) _ (d, down, refl, refl)) in (
      record {
        journal = journal_of store;
        acknowledged = at_once size (journal_of store) c.requires.few;
        begun = ([], none_later (journal_of store));
        taken = c.requires.taken;
        doubt = doubt_of store;
        leaves = left;
        allowed = o.allowed;
        reads = kept_reads disk size (life_kept (doubt_of store) disk size (now_state store) left) (g.met.D.Disk.may_keep c.into_disk.result);
        failed = o.failed;
        kept = subst (λ d. AreKept size (found_state store) (disk_of store).since (disk_of store).moment (length (journal_of store)) (journal_of store) (doubt_of store) (g.D.Disk.facts d) c.first-moments.result.at) (sym o.disk)
            (begun_kept size (found_state store) (disk_of store).since (disk_of store).moment (journal_of store) (life_of store) (disk_of store) c.first-moments.result.at refl (λ t x is. is) refl c.requires.up (g.met.D.Disk.only_now _)
            (subst (λ d. LeavesOnly (g.D.Disk.facts d) size (now_state store)) o.disk (o.up (now_state store) (c.requires.up, refl))) c.first-moments.ensures);
        asked = subst (λ (x : Option Change). IsDoubtOf size x None) (sym c.requires.up) tt;
      },
      refl,
      refl,
    )
