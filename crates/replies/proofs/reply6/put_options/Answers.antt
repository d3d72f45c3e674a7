use Rattle.std.proofs.Common.{◌≡◌, ℕ, List, ◌∷◌, ◌++◌, append_assoc}
use Rattle.v6_options.specs.Spelling.{option, spelling}
use Rattle.v6_message.proofs.Lists.{spelling-append}
use Rattle.replies.specs.Reply6.{ia_options, status_options}
use Rattle.replies.proofs.reply6.put_options.Goals as goal

-- Options of the four parts, appended one after the other.
parts-append : (out client server : List ℕ) (status ia : List (ℕ × List ℕ))
    → (((out ++ option 1 client) ++ option 2 server) ++ spelling status) ++ spelling ia ≡ out ++ spelling ((1, client) ∷ (2, server) ∷ (status ++ ia))
parts-append out client server status ia = rw (spelling-append status ia) (simp append_assoc)

pub returns-clause-bytes : goal.returns-clause-bytes
returns-clause-bytes c =
    simp (c.put_ia.ensures.bytes, c.put_status_of_all.ensures.bytes, c.put-2.ensures.bytes, c.put.ensures.bytes, c.as_slice.ensures.value, c.duid.ensures.value, c.duid-2.ensures.value, c.lease.ensures, c.iaid.ensures)
    (parts-append c.args.out.now c.args.client.now.duid c.args.part.now.duid (status_options c.args.reply.now.status) (ia_options c.args.part.now.lease c.args.client.now.iaid c.args.reply.now.ia))
