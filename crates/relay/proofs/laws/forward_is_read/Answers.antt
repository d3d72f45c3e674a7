use Rattle.std.proofs.Common.{◌≡◌, ◌<◌, ◌^◌, length, take, drop, refl, ap, ◌∙◌, arith}
use Rattle.std.proofs.lemmas.List.{length-take-le, length-drop}
use Rattle.v6_message.specs.RelayReading.{relay_of}
use Rattle.v6_message.proofs.Allowed.{relay_allowed}
use Rattle.relay.specs.Up6.{relay_forward}
use Rattle.relay.proofs.Relay6Lemmas.{up6_sent}
use Rattle.relay.proofs.laws.forward_is_read.Goals as goal

pub returns : goal.returns
returns c = record {
  read = λ part frame datagram sound came.
      let sent = up6_sent part frame datagram came in
      let peer : length (take 16 frame) ≡ 16 = length-take-le 16 frame (omega (arith, sent.0)) in
      let message : length (drop 16 frame) < 2 ^ 16 = omega (arith, sent.1, length-drop 16 frame) in
      let id : length part.id < 2 ^ 16 = omega (arith, sound.id.most) in
      let m = relay_forward part (take 16 frame) (drop 16 frame) in
      ap relay_of sent.2
      ∙ c.written_relay_is_read.ensures.read m sound.link6_size peer (omega arith, id, (omega arith, message, tt)) (relay_allowed m.options (omega arith) (omega arith));
  id = λ part peer message. refl;
  message = λ part peer message. refl;
}
