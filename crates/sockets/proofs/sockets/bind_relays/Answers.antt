use Rattle.std.proofs.Common.{◌≡◌, ◌∙◌, refl, length, map, sym, ap, subst, rules}
use Rattle.std.specs.Prelude.{Some, option_map, slice_get}
use Rattle.std.proofs.lemmas.Option.{same_Some, slice_get-map}
use Rattle.types.specs.declared.addr.Source.{Source}
use Rattle.settings.specs.declared.settings.RelayConfig.{RelayConfig}
use Rattle.udp.specs.declared.history.Role.TheVariants as role
use Rattle.sockets.specs.Sockets.{AreRelaySockets, IsBound, IsRelaySocket, Refuses, WasRefused}
use Rattle.sockets.proofs.RefusedLemmas.{refused_one}
use Rattle.sockets.proofs.RelayLemmas.{pushed}
use Rattle.sockets.proofs.sockets.bind_relays.Goals as goal

pub relays-preserved : goal.relays-preserved
relays-preserved g c =
    let config = c.args.config.now in
    let source : RelayConfig → Source = λ (relay : RelayConfig). relay.source in
    let was = c.relays.invariant in
    let items = c.relays.relays.items in
    let next = c.in_ok-socket.socket in
    let here = c.relay.result.now in
    let number : c.at-relay.result ≡ length items = c.at-relay.ensures ∙ sym was.count in
    let found : slice_get (map source config.relays) (length items) ≡ Some here.source =
    slice_get-map source config.relays (length items) ∙ ap (option_map source) (subst (λ n. slice_get config.relays n ≡ Some here) number c.relay.ensures.value) in
    record {
      index = search rules;
      end = was.end;
      sound = was.sound;
      count = search rules;
      own = subst (AreRelaySockets (map source config.relays) c.args.history.now.id) (sym c.in-Ok-push.ensures.items)
          (pushed (λ r at socket. IsBound socket (role.Relay r) at c.args.history.now.id) (map source config.relays) items next was.own
          (λ at there. subst (λ a. IsBound next (role.Relay (length items)) a c.args.history.now.id) (same_Some here.source at (sym found ∙ there))
          (subst (λ n. IsBound next (role.Relay n) here.source c.args.history.now.id) number (subst (IsBound next (role.Relay c.at-relay.result) here.source) was.same c.in_ok-socket.ensures.bound))));
      same = search rules;
      silent = search rules;
    }

pub returns-in_err-socket-clause-refused : goal.returns-in_err-socket-clause-refused
returns-in_err-socket-clause-refused g c =
    let relays = c.args.config.now.relays in
    let at = c.relay.result.now.source in
    let is : IsRelaySocket relays at = (c.at-relay.result, c.relay.result.now, c.relay.ensures.value, refl) in
    let refused : Refuses (λ at. IsRelaySocket relays at × WasRefused c.args.history.now.entries c.bind.new.history.entries at) c.in_err-socket.field-0.0 =
    refused_one (IsRelaySocket relays) at _ _ _ _ is c.relays.invariant.silent c.in_err-socket.ensures.refused in
    search rules
