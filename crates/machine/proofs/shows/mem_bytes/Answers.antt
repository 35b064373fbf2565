use Rattle.std.proofs.{Common.{rules, ◌≡◌, ◌∙◌, drop, length, replicate, refl}, lemmas.List.drop-replicate}
use Rattle.machine.proofs.shows.mem_bytes.Goals as goal

pub returns : goal.returns
returns c =
    let back : c.split_at_mut-head.result.1.now ≡ drop (length c.args.from.now) (replicate 64 0) = search rules in
    let zeros = back ∙ drop-replicate (length c.args.from.now) 64 0 in
    let copied : c.copy_from_slice.new.self ≡ c.args.from.now = search rules in
    rw copied (rw zeros refl)
