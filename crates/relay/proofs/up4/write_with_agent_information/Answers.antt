use Rattle.std.proofs.Common.{ℕ, ◌+◌, ◌≤◌, List, ◌++◌, length, ap, ◌∙◌, arith}
use Rattle.std.proofs.lemmas.List.{length-append}
use Rattle.std.proofs.lemmas.Result.{on_ok_weaker}
use Rattle.v4_options.specs.Spelling.{spelling}
use Rattle.v4_message.specs.Layout.{MAGIC_COOKIE}
use Rattle.v4_message.specs.Header.{HeaderValue, header_bytes}
use Rattle.v4_message.proofs.Lengths.{length-message_bytes}
use Rattle.relay.proofs.Relay4Lemmas.{length-front, forwarded_sized, written_pieces}
use Rattle.relay.proofs.up4.write_with_agent_information.Goals as goal

pub returns-clause-ok : goal.returns-clause-ok
returns-clause-ok c =
    on_ok_weaker c.push.result
    (λ e. written_pieces c.args.part.now c.args.message.now c.hops.result c.gateway4.result c.args.out.now c.write_forwarded_header.new.out c.write.new.out c.put_agent_information.new.out c.push.new.self
    c.gateway4.ensures.value c.hops.ensures c.requires.empty c.in_ok-write_forwarded_header.ensures.ok (c.in_ok-write.ensures.ok ∙ ap (λ (os : List (ℕ × List ℕ)). c.write_forwarded_header.new.out ++ spelling os) c.options.ensures) c.in_ok-put_agent_information.ensures.ok e)
    c.push.ensures.ok

pub returns-clause-room : goal.returns-clause-room
returns-clause-room c = λ fits.
    let sized = c.write_forwarded_header.ensures.sized in
    let header : HeaderValue = record c.args.message.now.header { hops = c.hops.result + 1; giaddr = c.gateway4.result.0 } in
    let room : length c.put_agent_information.new.out + 1 ≤ 1280 =
    omega (
      arith,
      ap length c.requires.empty,
      ap length c.in_ok-write_forwarded_header.ensures.ok,
      length-append c.args.out.now (header_bytes header ++ MAGIC_COOKIE),
      length-front header (forwarded_sized c.args.message.now.header (c.hops.result + 1) c.gateway4.result.0 sized (omega (arith, c.gateway4.type_inv))),
      ap length c.in_ok-write.ensures.ok,
      length-append c.write_forwarded_header.new.out (spelling c.options.result.now),
      ap (λ (os : List (ℕ × List ℕ)). length (spelling os)) c.options.ensures,
      c.put_agent_information.ensures.len,
      length-message_bytes c.args.message.now sized,
    ) in
    c.push.ensures.full.1 room
