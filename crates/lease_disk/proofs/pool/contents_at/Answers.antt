use Rattle.std.proofs.Common.{rules}
use Rattle.lease_disk.proofs.Books.{contents_all}
use Rattle.lease_disk.proofs.pool.contents_at.Goals as goal

pub returns : goal.returns
returns g c = contents_all g.S.Slot.live _ _ g.S.Slot.FREE c.loop-i.slots c.args.entries.now c.loop-i.i c.loop-i.invariant.size (search rules) (search rules) c.seconds-seconds.ensures.value c.loop-i.invariant.each
