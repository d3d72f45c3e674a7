use Rattle.std.proofs.Common.{◌≡◌, ◌<◌, ◌↔◌, map, length, true, sym, ap, subst, ◌∙◌, arith, rules}
use Rattle.std.specs.Prelude.{Some, None, is_some, nat_lt, option_map, slice_get}
use Rattle.std.proofs.lemmas.List.{length-map}
use Rattle.circuit_server.specs.CircuitServerValue.{open_book}
use Rattle.circuit_server.specs.Ticked.{state_at, server_state}
use Rattle.dispatch.specs.ServerValue.{ServerValue, books_in, with_states}
use Rattle.dispatch.proofs.ServerLemmas.{open_at, none_past}
use Rattle.dispatch.proofs.TickLemmas.{shown_at, still_open}
use Rattle.dispatch.proofs.WithStates.{get_with, server, size_with, there_is}
use Rattle.dispatch.proofs.server.Server.is_open.Goals as goal

pub returns-then-index-len : goal.returns-then-index-len
returns-then-index-len c =
    let parts = c.self.inside.circuits.circuits in
    let ticked = c.self.inside.ticked in
    let servers = c.self.inside.servers.items in
    let states = map (state_at ticked) servers in
    let k = c.index-index.result in
    let among : k < length servers = search rules in
    let within : k < length states = subst (λ n. k < n) (sym (length-map servers (state_at ticked))) among in
    let at = there_is parts k (omega (arith, within, c.self.invariant.0.size)) in
    let s = server at.0 (server_state states k) in
    let its = get_with parts states k at.0 None s at.1 within in
    let shown = shown_at ticked servers k c.index.result.now among c.index.ensures in
    let seen = open_at (with_states parts states) k s c.is_open.result (omega (arith, within, c.self.invariant.0.size, size_with parts states))
    (sym its) (c.is_open.ensures ∙ sym (ap (λ state. is_some (option_map open_book state)) shown ∙ still_open ticked c.index.result.now)) in
    subst (λ n. (c.is_open.result ≡ true) ↔ (slice_get (map is_some (books_in c.args.self.now)) n ≡ Some true)) c.index-index.ensures.value
    (subst (λ (v : ServerValue). (c.is_open.result ≡ true) ↔ (slice_get (map is_some (books_in v)) k ≡ Some true)) c.self.view_is seen)

pub returns-else-index-len : goal.returns-else-index-len
returns-else-index-len c =
    let parts = c.self.inside.circuits.circuits in
    let servers = c.self.inside.servers.items in
    let states = map (state_at c.self.inside.ticked) servers in
    let k = c.index-index.result in
    let all : length servers ≡ c.len.result = search rules in
    let seen = none_past (with_states parts states) k c.len.result (omega (arith, all, length-map servers (state_at c.self.inside.ticked), c.self.invariant.0.size, size_with parts states)) c.if-index-len.false in
    subst (λ n. (nat_lt k c.len.result ≡ true) ↔ (slice_get (map is_some (books_in c.args.self.now)) n ≡ Some true)) c.index-index.ensures.value
    (subst (λ (v : ServerValue). (nat_lt k c.len.result ≡ true) ↔ (slice_get (map is_some (books_in v)) k ≡ Some true)) c.self.view_is seen)
