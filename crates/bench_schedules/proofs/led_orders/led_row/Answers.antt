use Rattle.bench_schedules.proofs.Deals.{all_dealt, goes_on_twice}
use Rattle.bench_schedules.proofs.led_orders.led_row.Goals as goal

pub returns : goal.returns
returns c =
    record {
      order = all_dealt c.new-deal.result c.deal_row.new.deal c.rest.new.self c.turns_named-turns.result c.args.row.now c.new-deal.ensures.left c.new-deal.ensures.lines
          (goes_on_twice _ _ _ c.in_ok-dealt.ensures c.in_ok-deal_row.ensures) c.in_ok-rest.ensures.goes_on c.in_ok-rest.ensures.dealt c.turns_named-turns.ensures.named c.turns_named-turns.ensures.others;
    }
