use Rattle.std.proofs.Common.{◌≡◌, ◌+◌, ◌++◌, [], All, length, map, vec_len, vec_capacity}
use Rattle.tallies.specs.Books.{fresh_from}
use Rattle.hart_threads.specs.Views.{bus_in, bus_parts, inside, moments_with, parts_with}
use Rattle.hart_threads.proofs.unshared.Unshared.hand_out_all.Given as goal

-- how many have gone off
abbrev pub invariant-loop-made : goal.invariant-loop-made
invariant-loop-made g l = record {
  store : inside l.self ≡ inside l.fn.self;
  moments : moments_with l.self ≡ moments_with l.fn.self;
  fresh : All (λ d. d.told ≡ []) (parts_with l.self);
  told : All (λ d. d.receipts.told ≡ []) l.parts.items;
  bus : bus_in l.bus ≡ bus_in l.fn.bus;
  runs : map (λ d. d.run) l.parts.items ++ bus_parts l.bus ≡ fresh_from 2 l.count;
  off : length (parts_with l.self) + vec_len l.parts ≡ length (parts_with l.fn.self);
  made : vec_len l.parts ≡ l.made;
  room : vec_capacity l.parts ≡ l.count;
}
