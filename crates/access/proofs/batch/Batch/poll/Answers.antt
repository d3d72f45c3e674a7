use Rattle.std.proofs.Common.{◌∙◌, sym}
use Rattle.access.proofs.PollingLemmas.{polled_more, room_after, tried_next}
use Rattle.access.proofs.ReplyLemmas.{servers_role}
use Rattle.access.proofs.batch.Batch.poll.Goals as goal

pub sockets-preserved : goal.sockets-preserved
sockets-preserved c =
    let was = c.sockets.invariant in
    let made = c.receive-attempt in
    let proto = c.in-Some.proto in
    let bound = c.requires.bound in
    let own = servers_role proto c.server-socket.result.now c.args.sockets.now.listen4 c.args.sockets.now.listen6 bound.listen4.role bound.listen6.role c.server-socket.ensures.v4 c.server-socket.ensures.v6 in
    let next = sym c.next.ensures ∙ c.in-Some.is in
    let got = made.ensures.received in
    let tried = tried_next proto _ got.0 made.result c.sockets.polling c.tried.new.self c.sockets.self.taken made.new.self c.sockets.history.entries made.new.history.entries
    next own got.1 got.2 c.tried.ensures in
    record {
      same = made.ensures.same ∙ was.same;
      most = was.most;
      first = was.first;
      room = room_after proto got.0 made.result c.sockets.polling c.tried.new.self c.sockets.self.taken made.new.self c.args.self.now.most next got.2 c.tried.ensures was.room;
      polled = polled_more c.args.self.now.most c.args.self.now.first proto _ _ _ _ _ _ _ was.polled tried;
    }
