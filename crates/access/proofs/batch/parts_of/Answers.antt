use Rattle.std.proofs.Common.{◌≤◌, ◌<◌, length, rules}
use Rattle.std.proofs.lemmas.List.Elements.{All-get_or}
use Rattle.access.specs.declared.datagrams.Datagram.{Datagram}
use Rattle.access.proofs.ReplyLemmas.{no_datagram}
use Rattle.access.proofs.batch.parts_of.Goals as goal

pub bytes-requires : goal.bytes-requires
bytes-requires c =
    let within : c.parts.index < length c.args.taken.now = search rules in
    All-get_or (λ (one : Datagram). one.len ≤ 1281) c.args.taken.now c.parts.index no_datagram within c.requires.fits
