use Rattle.std.proofs.Common.{◌≡◌, ◌∙◌, ◌+◌, true, nat_lt, Some, ap}
use Rattle.std.proofs.lemmas.Bool.{lt-ltb}
use Rattle.types.specs.Addr.{number6, addr6}
use Rattle.types.specs.Pool6.{Pool6Value}
use Rattle.types.specs.declared.addr.Addr6.{Addr6}
use Rattle.config.specs.CircuitPart.{pool6_of}
use Rattle.lease_log.proofs.look.address6.Goals as goal

pub returns : goal.returns
returns c =
    let part = c.args.part.now in
    let first : c.first.result ≡ (pool6_of part).first = c.first.ensures.value ∙ ap (λ (p : Pool6Value). p.first) c.pool6-pool.ensures in
    let count : c.from.result ≡ part.count6 = c.from.ensures ∙ c.count.ensures.value ∙ ap (λ (p : Pool6Value). p.count) c.pool6-pool.ensures in
    let number : c.number.result ≡ number6 (pool6_of part).first = c.number.ensures.value ∙ ap number6 first in
    let inside : nat_lt c.args.slot c.from.result ≡ true = lt-ltb c.args.slot c.from.result c.if-slot-from.false in
    let within = rw count at inside in
    rw within (ap (λ (a : Addr6). Some a) (c.from_number.ensures.address ∙ ap (λ n. addr6 (n + c.args.slot)) number))
