-- Addresses that frames towards clients reach, and the first of them.
use Rattle.std.proofs.Common.{inl, inr, ◌≡◌, ◌∙◌, ◌<◌, ◌≤◌, ◌+◌, ◌-◌, ◌*◌, ◌/◌, ◌%◌, ◌⊎◌, ℕ, zero, suc, true, List, length, sym, ap, subst, arith}
use Rattle.std.specs.Prelude.{Some, option_map, slice_get}
use Rattle.std.specs.Str.{bytes_eq}
use Rattle.std.proofs.lemmas.Bool.{cases_eq}
use Rattle.std.proofs.lemmas.List.{length-map}
use Rattle.std.proofs.lemmas.Option.{same_Some, slice_get-map, slice_get_within}
use Rattle.std.proofs.lemmas.Slice.Eq.{bytes_eq-Decides}
use Rattle.types.specs.Addr.{is_unspecified}
use Rattle.types.specs.declared.addr.Addr4.{Addr4}
use Rattle.types.specs.declared.addr.Source.{Source}
use Rattle.types.specs.declared.dest.Proto.TheVariants.{V4, V6}
use Rattle.settings.specs.Settings.{Settings}
use Rattle.settings.specs.declared.settings.RelayConfig.{RelayConfig}
use Rattle.sockets.specs.Sockets.{local_port}
use Rattle.sockets.specs.Warnings.{IsClientsAddress, ReceivesSomeClients, addresses_of}

-- the circuit is told by the port
pub receives_at : (port circuits : ℕ) (at : Source) → (at.addr ≡ (local_port 0).addr) ⊎ (is_unspecified at.addr.0 ≡ true)
    → port ≤ at.port → at.port - port < 4 * circuits → 2 ≤ (at.port - port) % 4 → ReceivesSomeClients port circuits at
receives_at port circuits at here after before last = elim (cases_eq ((at.port - port) % 4) 2) [
  | inl four ↦ ((at.port - port) / 4, omega (arith, before), (V4, omega (arith, after, four), here))
  | inr other ↦ ((at.port - port) / 4, omega (arith, before), (V6, omega (arith, after, last, other), here))
]

pub same_address : (a : Addr4) (bytes : List ℕ) → bytes_eq a.0 bytes ≡ true → a ≡ record { 0 = bytes }
same_address a bytes is = ap (λ (b : List ℕ). record { 0 = b }) ((bytes_eq-Decides a.0 bytes).0 is)

-- the relays' addresses stand behind the server's two
pub relay_address : (config : Settings) (place : ℕ) (relay : RelayConfig) → 2 ≤ place → slice_get config.relays (place - 2) ≡ Some relay
    → slice_get (addresses_of config) place ≡ Some relay.source
relay_address config zero relay later there = absurd (omega (arith, later))
relay_address config (suc zero) relay later there = absurd (omega (arith, later))
relay_address config (suc (suc n)) relay later there =
    let source : RelayConfig → Source = λ (relay : RelayConfig). relay.source in
    let back : suc (suc n) - 2 ≡ n = omega arith in
    slice_get-map source config.relays n ∙ ap (option_map source) (subst (λ k. slice_get config.relays k ≡ Some relay) back there)

-- one more address that they do not reach
pub none_before : (config : Settings) (port n : ℕ) (at : Source) → slice_get (addresses_of config) n ≡ Some at → ¬ ReceivesSomeClients port (length config.circuits) at
    → ((m : ℕ) (other : Source) → m < n → ¬ IsClientsAddress config port m other) → (m : ℕ) (other : Source) → m < n + 1 → ¬ IsClientsAddress config port m other
none_before config port n at here never before m other less clients = elim (cases_eq m n) [
  | inl same ↦
      let is : other ≡ at = same_Some other at (sym clients.0 ∙ ap (slice_get (addresses_of config)) same ∙ here) in
      never (subst (λ (a : Source). ReceivesSomeClients port (length config.circuits) a) is clients.1)
  | inr earlier ↦ before m other (omega (arith, less, earlier)) clients
]

-- no address stands behind the relays'
pub none_later : (config : Settings) (port n : ℕ) → 2 + length config.relays ≤ n → ((m : ℕ) (other : Source) → m < n → ¬ IsClientsAddress config port m other)
    → (m : ℕ) (other : Source) → ¬ IsClientsAddress config port m other
none_later config port n end before m other clients =
    let within = slice_get_within (addresses_of config) m other clients.0 in
    let count = length-map config.relays (λ (relay : RelayConfig). relay.source) in
    before m other (omega (arith, within, count, end)) clients
