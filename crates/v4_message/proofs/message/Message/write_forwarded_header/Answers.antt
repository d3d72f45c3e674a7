use Rattle.std.proofs.Common.{◌++◌, ap, subst, ◌∙◌}
use Rattle.v4_message.specs.Header.{IsSized, header_bytes}
use Rattle.v4_message.specs.Layout.{MAGIC_COOKIE}
use Rattle.v4_message.specs.Spelling.{MessageValue}
use Rattle.v4_message.proofs.Headers.{forwarded, sized_at}
use Rattle.v4_message.proofs.message.Message.write_forwarded_header.Goals as goal

pub returns-then-len-gt-MAX_DATAGRAM-clause-sized :
    goal.returns-then-len-gt-MAX_DATAGRAM-clause-sized
returns-then-len-gt-MAX_DATAGRAM-clause-sized c =
    let P : MessageValue → Type 0 = λ m. IsSized m.header in
    subst P c.self.view_is (sized_at c.self.inside.bytes.now c.self.invariant.fits c.self.invariant.long)

pub returns-clause-ok : goal.returns-clause-ok
returns-clause-ok c =
    let bytes = c.self.inside.bytes.now in
    let read = c.self.invariant in
    rw (c.append-5.ensures.bytes, c.append-4.ensures.bytes, c.append-3.ensures.bytes, c.append-2.ensures.bytes, c.append.ensures.bytes)
    (forwarded c.args.out.now bytes c.args.hops c.args.giaddr.0 read.fits read.long read.cookie read.ethernet
    ∙ ap (λ (m : MessageValue). c.args.out.now ++ (header_bytes (record m.header { hops = c.args.hops; giaddr = c.args.giaddr.0 }) ++ MAGIC_COOKIE)) c.self.view_is)

pub returns-clause-sized : goal.returns-clause-sized
returns-clause-sized c =
    let P : MessageValue → Type 0 = λ m. IsSized m.header in
    subst P c.self.view_is (sized_at c.self.inside.bytes.now c.self.invariant.fits c.self.invariant.long)
