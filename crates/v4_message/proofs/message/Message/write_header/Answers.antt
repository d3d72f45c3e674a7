use Rattle.std.proofs.Common.{ℕ, List, ◌++◌, ap, subst, ◌∙◌, arith}
use Rattle.std.proofs.lemmas.List.{length-take-le}
use Rattle.v4_message.specs.Header.{IsSized, header_bytes}
use Rattle.v4_message.specs.Layout.{MAGIC_COOKIE}
use Rattle.v4_message.specs.Spelling.{MessageValue}
use Rattle.v4_message.proofs.Headers.{front, sized_at}
use Rattle.v4_message.proofs.message.Message.write_header.Goals as goal

pub returns-then-len-gt-MAX_DATAGRAM-clause-sized :
    goal.returns-then-len-gt-MAX_DATAGRAM-clause-sized
returns-then-len-gt-MAX_DATAGRAM-clause-sized c =
    let P : MessageValue → Type 0 = λ m. IsSized m.header in
    subst P c.self.view_is (sized_at c.self.inside.bytes.now c.self.invariant.fits c.self.invariant.long)

pub append-requires : goal.append-requires
append-requires c = omega (arith, length-take-le 240 c.self.inside.bytes.now c.self.invariant.long)

pub returns-clause-ok : goal.returns-clause-ok
returns-clause-ok c =
    let read = c.self.invariant in
    c.append.ensures.bytes
    ∙ ap (λ (t : List ℕ). c.args.out.now ++ t) (front c.self.inside.bytes.now read.fits read.long read.cookie read.ethernet)
    ∙ ap (λ (m : MessageValue). c.args.out.now ++ (header_bytes m.header ++ MAGIC_COOKIE)) c.self.view_is

pub returns-clause-sized : goal.returns-clause-sized
returns-clause-sized c =
    let P : MessageValue → Type 0 = λ m. IsSized m.header in
    subst P c.self.view_is (sized_at c.self.inside.bytes.now c.self.invariant.fits c.self.invariant.long)
