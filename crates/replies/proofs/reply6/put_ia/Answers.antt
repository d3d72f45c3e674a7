use Rattle.std.proofs.Common.{◌≡◌, [], ◌∷◌, ◌++◌, length, map, sym, ◌∙◌, append-nil}
use Rattle.v6_options.specs.Spelling.{spelling}
use Rattle.replies.specs.Reply6.{address_option}
use Rattle.replies.proofs.ReadBack6.{addresses_length}
use Rattle.replies.proofs.reply6.put_ia.Goals as goal

pub returns-in-Given-clause-bytes : goal.returns-in-Given-clause-bytes
returns-in-Given-clause-bytes c =
    let zeroed = c.in-Given.zeroed.items in
    let addresses = spelling (map (address_option 0) zeroed ++ address_option c.args.lease c.in-Given.leased ∷ []) in
    let size : length addresses ≡ c.addresses_len.result =
    addresses_length zeroed c.args.lease c.in-Given.leased c.put_addresses.ensures.whole.1 c.put_addresses.ensures.whole.2 ∙ sym c.addresses_len.ensures.value in
    rw c.in-Given.is (simp append-nil (simp c.from.ensures at (c.put_addresses.ensures.bytes ∙ c.put_ia_head-in-Given.ensures.bytes addresses size)))
