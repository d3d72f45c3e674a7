use Rattle.std.proofs.Common.{◌≡◌, ◌+◌, ◌≤◌, ℕ, ◌++◌, List, length, ap, arith}
use Rattle.std.proofs.lemmas.List.{length-append}
use Rattle.v4_options.specs.Codes.{RELAY_AGENT_INFORMATION}
use Rattle.v4_options.specs.Spelling.{spelling, without}
use Rattle.v4_options.proofs.Lengths.{length-without}
use Rattle.v4_message.specs.Layout.{MAGIC_COOKIE}
use Rattle.v4_message.specs.Header.{header_bytes}
use Rattle.v4_message.proofs.Lengths.{length-message_bytes}
use Rattle.relay.proofs.Relay4Lemmas.{length-front}
use Rattle.relay.proofs.down4.write_without_agent_information.Goals as goal

pub returns-in_err-write_without-clause-room : goal.returns-in_err-write_without-clause-room
returns-in_err-write_without-clause-room c = λ fits.
    let options = c.options.result.now in
    let same : length (spelling options) ≡ length (spelling c.args.reply.now.options) = ap (λ (os : List (ℕ × List ℕ)). length (spelling os)) c.options.ensures in
    let room : length c.write_header.new.out + length (spelling (without RELAY_AGENT_INFORMATION options)) ≤ 1280 =
    omega (
      arith,
      ap length c.requires.empty,
      ap length c.in_ok-write_header.ensures.ok,
      length-append c.args.out.now (header_bytes c.args.reply.now.header ++ MAGIC_COOKIE),
      length-front c.args.reply.now.header c.write_header.ensures.sized,
      length-message_bytes c.args.reply.now c.write_header.ensures.sized,
      length-without RELAY_AGENT_INFORMATION options,
    ) in
    absurd (cc (c.in_err-write_without.ensures.full.1 room))

pub returns-in_err-push-clause-room : goal.returns-in_err-push-clause-room
returns-in_err-push-clause-room c = λ fits.
    let options = c.options.result.now in
    let same : length (spelling options) ≡ length (spelling c.args.reply.now.options) = ap (λ (os : List (ℕ × List ℕ)). length (spelling os)) c.options.ensures in
    let room : length c.write_without.new.out + 1 ≤ 1280 =
    omega (
      arith,
      ap length c.requires.empty,
      ap length c.in_ok-write_header.ensures.ok,
      length-append c.args.out.now (header_bytes c.args.reply.now.header ++ MAGIC_COOKIE),
      length-front c.args.reply.now.header c.write_header.ensures.sized,
      ap length c.in_ok-write_without.ensures.ok,
      length-append c.write_header.new.out (spelling (without RELAY_AGENT_INFORMATION options)),
      length-message_bytes c.args.reply.now c.write_header.ensures.sized,
      length-without RELAY_AGENT_INFORMATION options,
    ) in
    absurd (cc (c.in_err-push.ensures.full.1 room))
