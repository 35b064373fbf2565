use Rattle.std.proofs.Common.{◌≡◌, ◌∙◌, ◌<◌, ◌∷◌, [], List, ℕ, length, get_or, ap, refl, subst, sym, arith, rules}
use Rattle.std.proofs.lemmas.List.{get_or_default}
use Rattle.disk.specs.{Facts.Content, WriteLog.{laid_over, synced}}
use Rattle.simdisk.{specs.{declared.fill.Fill.TheVariants.New, History.{log_of, Stands}, Latest.latest_of}, proofs.Epochs.fits_synced}
use Rattle.simdisk.{specs.Pokes.{bytes_put, poked, poked_log}, proofs.AfterPoke.{fills_poked, agrees_poked, crash_poked}}
use Rattle.simdisk.proofs.sim.SimDisk.poke.Goals as goal

-- what the sector holds, which was read from the content
read_so : (content : Content) (k offset : ℕ) (bytes read bytes' : List ℕ) → k < length content → read ≡ get_or content k read → bytes' ≡ bytes_put offset bytes read → bytes' ≡ poked k offset bytes content
read_so content k offset bytes read bytes' lt is stands = stands ∙ ap (λ (old : List ℕ). bytes_put offset bytes old) (is ∙ sym (get_or_default content k [] read lt))

pub invariant_of-self-2 : goal.invariant_of-self-2
invariant_of-self-2 c =
    let s = c.args.self.now in
    let k = c.args.sector in
    let v = c.put_bytes.new.sector in
    let r = log_of s.history in
    let r' = log_of c.set_sector.new.self in
    let anew : r' ≡ poked_log k v r = c.in_ok-set_sector.ensures.log in
    let lt : k < length s.content.items = search rules in
    let old : k < length (synced r) = rw (← s.agrees.as_long) lt in
    let laid : c.overwrite.new.content.items ≡ laid_over (k, v ∷ []) s.content.items = c.overwrite.ensures.put in
    record {
      stands = c.in_ok-set_sector.ensures.apart c.overwrite.new.content.items (c.overwrite.ensures.written.elsewhere.as_long ∙ ap (λ (x : Content). length x) (sym c.deref.ensures.value));
      agrees = agrees_poked k v r r' anew old s.content.items c.overwrite.new.content.items s.agrees laid;
      newest = fills_poked k v r r' anew old (fits_synced s.history) New ∙ ap (λ (x : Content). laid_over (k, v ∷ []) x) s.newest
          ∙ sym (c.write.ensures.written s.content.items) ∙ ap (λ (x : Content). latest_of c.write.new.self x) (sym laid);
      room = rw c.overwrite.ensures.written.elsewhere.as_long (c.write.ensures.as_long (length s.content.items) s.room);
      few = s.few;
      few_calls = s.few_calls;
      within = rw c.overwrite.ensures.written.elsewhere.as_long s.within;
      noted = λ some. absurd (omega (arith, some, c.requires));
    }

pub returns-clause-stands : goal.returns-clause-stands
returns-clause-stands c within =
    let s = c.args.self.now in
    let k = c.args.sector in
    let r = log_of s.history in
    let r' = log_of c.set_sector.new.self in
    let is : c.put_bytes.new.sector ≡ poked k c.args.offset c.args.bytes.now s.content.items = read_so s.content.items k c.args.offset c.args.bytes.now c.index.result.now c.put_bytes.new.sector within.0 c.index.ensures c.put_bytes.ensures in
    let anew : r' ≡ poked_log k (poked k c.args.offset c.args.bytes.now s.content.items) r = rw (← is) c.in_ok-set_sector.ensures.log in
    record {
      content = rw (← is) c.overwrite.ensures.put;
      crash = crash_poked k (poked k c.args.offset c.args.bytes.now s.content.items) r r' anew (rw (← s.agrees.as_long) within.0);
    }

pub returns-clause-fills : goal.returns-clause-fills
returns-clause-fills c within =
    let s = c.args.self.now in
    let k = c.args.sector in
    let r = log_of s.history in
    let r' = log_of c.set_sector.new.self in
    let is : c.put_bytes.new.sector ≡ poked k c.args.offset c.args.bytes.now s.content.items = read_so s.content.items k c.args.offset c.args.bytes.now c.index.result.now c.put_bytes.new.sector within.0 c.index.ensures c.put_bytes.ensures in
    let anew : r' ≡ poked_log k (poked k c.args.offset c.args.bytes.now s.content.items) r = rw (← is) c.in_ok-set_sector.ensures.log in
    fills_poked k (poked k c.args.offset c.args.bytes.now s.content.items) r r' anew (rw (← s.agrees.as_long) within.0) (fits_synced s.history)

pub returns-clause-log : goal.returns-clause-log
returns-clause-log c within =
    let s = c.args.self.now in
    let k = c.args.sector in
    let is : c.put_bytes.new.sector ≡ poked k c.args.offset c.args.bytes.now s.content.items = read_so s.content.items k c.args.offset c.args.bytes.now c.index.result.now c.put_bytes.new.sector within.0 c.index.ensures c.put_bytes.ensures in
    rw (← is) c.in_ok-set_sector.ensures.log

pub returns-clause-lent : goal.returns-clause-lent
returns-clause-lent c = refl

pub returns-clause-as_long : goal.returns-clause-as_long
returns-clause-as_long c = c.overwrite.ensures.written.elsewhere.as_long

pub returns-clause-armed : goal.returns-clause-armed
returns-clause-armed c = refl

pub returns-clause-refused : goal.returns-clause-refused
returns-clause-refused c = tt

pub returns-in_err-set_sector-clause-lent : goal.returns-in_err-set_sector-clause-lent
returns-in_err-set_sector-clause-lent c = refl

pub returns-in_err-set_sector-clause-as_long : goal.returns-in_err-set_sector-clause-as_long
returns-in_err-set_sector-clause-as_long c = refl

pub returns-in_err-set_sector-clause-armed : goal.returns-in_err-set_sector-clause-armed
returns-in_err-set_sector-clause-armed c = refl

pub set_sector-requires-clause-stands : goal.set_sector-requires-clause-stands
set_sector-requires-clause-stands c = subst (λ (k : Content). Stands k c.args.self.now.history) (sym c.deref.ensures.value) c.args.self.now.stands
