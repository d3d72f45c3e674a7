use Rattle.std.proofs.Common.{[], ◌∷◌}
use Rattle.v4_message.specs.Layout.{MAGIC_COOKIE}
use Rattle.v4_message.proofs.Headers.{gathered}
use Rattle.v4_message.proofs.header.Header.write.Goals as goal

pub returns-clause-ok : goal.returns-clause-ok
returns-clause-ok c =
    let h = c.args.self.now in
    rw (c.append-12.ensures.bytes, c.append-11.ensures.bytes, c.append-10.ensures.bytes, c.append-9.ensures.bytes, c.append-8.ensures.bytes, c.append-7.ensures.bytes, c.append-6.ensures.bytes, c.append-5.ensures.bytes, c.append-4.ensures.bytes, c.to_be_bytes.ensures, c.append-3.ensures.bytes, c.append-2.ensures.bytes, c.append.ensures.bytes)
    (gathered c.args.out.now (h.op ∷ 1 ∷ 6 ∷ h.hops ∷ []) h.xid h.secs _ h.ciaddr.0 h.yiaddr.0 h.siaddr.0 h.giaddr.0 h.chaddr.now h.sname.now h.file.now MAGIC_COOKIE)
