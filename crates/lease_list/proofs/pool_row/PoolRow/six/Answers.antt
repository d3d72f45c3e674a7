use Rattle.std.proofs.Common.{◌≡◌, ◌∙◌, ◌+◌, ◌-◌, List, ap, ap₂}
use Rattle.std.specs.Prelude.{ℕ, string_bytes}
use Rattle.std.specs.Net.Addr.{segments_of}
use Rattle.std.specs.Net.Text.{ipv6_text}
use Rattle.types.specs.Addr.{number6, addr6}
use Rattle.types.specs.declared.addr.Addr6.{Addr6}
use Rattle.types.specs.declared.dest.Proto.TheVariants.{V6}
use Rattle.lease_list.specs.declared.pool.Usage.{Usage}
use Rattle.lease_list.specs.Pool.{PoolTexts, usage_of}
use Rattle.lease_list.proofs.pool_row.PoolRow.six.Goals as goal

pub returns : goal.returns
returns c =
    let pool = c.args.pool in
    let text : Addr6 → List ℕ = λ address. ipv6_text (segments_of address.0) in
    let made : List ℕ → List ℕ → Usage → PoolTexts = λ first last usage. record { circuit = c.args.circuit.now; proto = V6; first = first; last = last; usage = usage } in
    let highest = addr6 (number6 pool.first + (pool.count - 1)) in
    let first : string_bytes c.in_ok-first.first ≡ text pool.first = c.in_ok-first.ensures ∙ ap text c.first.ensures.value in
    let last : string_bytes c.in_ok-last.last ≡ text highest = c.in_ok-last.ensures ∙ ap text c.last6.ensures in
    let usage : c.usage_of-usage.result ≡ usage_of V6 pool.count c.args.leases.now = c.usage_of-usage.ensures ∙ ap (λ count. usage_of V6 count c.args.leases.now) c.count.ensures.value in
    ap₂ (λ f l. made f l c.usage_of-usage.result) first last ∙ ap (made (text pool.first) (text highest)) usage
