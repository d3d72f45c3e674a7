use Rattle.std.proofs.Common.{◌≡◌, ap, ◌∙◌, [], ◌∷◌, ◌++◌, append_assoc, rules}
use Rattle.v4_options.specs.Spelling.{spelling}
use Rattle.v4_message.specs.Layout.{MAGIC_COOKIE}
use Rattle.v4_message.specs.Header.{header_bytes}
use Rattle.wire.specs.Padding.{padded_to}
use Rattle.replies.specs.Reply4.{reply4_bytes, reply_header, reply_options}
use Rattle.replies.proofs.reply4.write4.Goals as goal

pub returns-clause-bytes : goal.returns-clause-bytes
unfolding reply4_bytes
returns-clause-bytes c =
    let m = c.args.request.now in
    let r = c.args.reply in
    let parts : c.put_options.new.out ++ 255 ∷ [] ≡ header_bytes (reply_header m r) ++ (MAGIC_COOKIE ++ (spelling (reply_options c.args.part.now m r) ++ 255 ∷ [])) =
    rw (c.put_options.ensures.bytes, c.put_header.ensures.bytes) (simp append_assoc) in
    c.put_end.ensures.bytes ∙ ap (padded_to 300) parts

pub returns-clause-fits : goal.returns-clause-fits
returns-clause-fits c = search rules
