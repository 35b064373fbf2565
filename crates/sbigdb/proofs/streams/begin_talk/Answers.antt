use Rattle.sbigdb.proofs.Responses.{begun}
use Rattle.sbigdb.proofs.streams.begin_talk.Goals as goal

pub returns-clause-begins : goal.returns-clause-begins
returns-clause-begins g c =
    let told = c.args.told in
    let session = c.in_ok-session.ensures in
    let talk = c.new-talk.ensures in
    begun c.args.setting.shape.now c.args.plan told.begins told.lines.items c.in_ok-session.session c.new-talk.result talk.session session.at session.size session.noted session.begins session.plan session.points session.watches talk.first talk.runner talk.selected talk.acknowledges talk.ongoing talk.sent
