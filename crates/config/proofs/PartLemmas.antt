-- A circuit's part, from the values that a configuration keeps.
use Rattle.std.proofs.Common.{◌≡◌, ◌+◌, ◌-◌, ◌%◌, ◌^◌, ℕ, zero, suc, Bool, true, false, List, [], ◌∷◌, ◌++◌, length, take, refl, sym, ap, subst, ◌∙◌, arith}
use Rattle.std.specs.Prelude.{Option, None, Some, All, slice_get, option_map}
use Rattle.std.specs.Int.{w32, from_be_bytes}
use Rattle.std.proofs.Math.Nat.{zero-mod}
use Rattle.std.specs.List.{position}
use Rattle.std.proofs.lemmas.List.Quantifiers.{position-Some}
use Rattle.std.proofs.lemmas.List.{take_more}
use Rattle.std.proofs.lemmas.List.Elements.{All-append, All-cons, All-get_or, All-nil}
use Rattle.std.proofs.lemmas.Option.{slice_get-map, slice_get_within, get_or_from_slice_get}
use Rattle.std.proofs.lemmas.Slice.Eq.{bytes_eq-Decides}
use Rattle.types.specs.Addr.{number4, is_unspecified}
use Rattle.types.specs.declared.addr.Addr4.{Addr4}
use Rattle.types.specs.declared.addr.Source.{Source}
use Rattle.config.specs.CircuitPart.{CircuitPart, IsPart, part_of, source_at, parts_of, part_in}
use Rattle.config.specs.Rules.{IsHost, IsOnSubnet, IsSound}
use Rattle.settings.specs.Settings.{Settings, IsServerWithinLimits, IsWithinLimits}
use Rattle.settings.specs.declared.settings.CircuitConfig.{CircuitConfig}
use Rattle.settings.specs.declared.settings.RelayConfig.{RelayConfig}
use Rattle.settings.specs.declared.settings.ServerConfig.{ServerConfig}

-- what holds of each element holds of the one at an index
pub all_at : {X : Type 0} (P : X → Type 0) (xs : List X) (i : ℕ) (x : X) → slice_get xs i ≡ Some x → All P xs → P x
all_at P xs i x there each = subst P (get_or_from_slice_get xs i x x there) (All-get_or P xs i x (slice_get_within xs i x there) each)

-- 0.0.0.0 is the number 0
unspecified_is_zero : (address : Addr4) → is_unspecified address.0 ≡ true → number4 address ≡ 0
unspecified_is_zero address unspecified = ap (from_be_bytes w32) ((bytes_eq-Decides address.0 (0 ∷ 0 ∷ 0 ∷ 0 ∷ [])).0 unspecified)

-- a host's other bits are not all 0, so its address is not 0.0.0.0
host_is_given : (prefix : ℕ) (address : Addr4) → IsHost prefix (number4 address) (number4 address) → is_unspecified address.0 ≡ false
host_is_given prefix address host = by_test (is_unspecified address.0) refl
  where
    by_test : (test : Bool) → is_unspecified address.0 ≡ test → test ≡ false
    by_test false same = refl
    by_test true same = absurd (host.not_first (ap (λ n. n % 2 ^ (32 - prefix)) (unspecified_is_zero address same) ∙ zero-mod (2 ^ (32 - prefix))))

-- each circuit's gateway is given
pub gateway_is_given : (settings : Settings) (c : ℕ) (circuit : CircuitConfig)
    → slice_get settings.circuits c ≡ Some circuit → IsSound settings → is_unspecified circuit.gateway4.0 ≡ false
gateway_is_given settings c circuit there sound =
    host_is_given circuit.prefix4 circuit.gateway4 (all_at IsOnSubnet settings.circuits c circuit there sound.rules.subnets).gateway4

source_there : (relays : List RelayConfig) (n : ℕ) (relay : RelayConfig) → slice_get relays n ≡ Some relay → source_at relays n ≡ relay.source
source_there [] n relay there = absurd cc
source_there (r ∷ rs) zero relay there = let same : r ≡ relay = cc in ap (λ x. x.source) same
source_there (r ∷ rs) (suc n) relay there = source_there rs n relay there

-- the part of a circuit that is there, and whose relay is, from copies of the values
pub part_there : (settings : Settings) (c : ℕ) (circuit copy : CircuitConfig) (relay : RelayConfig) (server : ServerConfig) (duid : List ℕ)
    → slice_get settings.circuits c ≡ Some circuit → slice_get settings.relays circuit.relay ≡ Some relay
    → copy ≡ circuit → server ≡ settings.server → duid ≡ server.duid.items
    → part_in settings c ≡ Some (part_of copy relay.source server.listen4 server.listen6 duid)
part_there settings c circuit copy relay server duid there behind copied servers duids =
    slice_get-map (λ (x : CircuitConfig). part_of x (source_at settings.relays x.relay) settings.server.listen4 settings.server.listen6 settings.server.duid.items) settings.circuits c
    ∙ ap (option_map (λ (x : CircuitConfig). part_of x (source_at settings.relays x.relay) settings.server.listen4 settings.server.listen6 settings.server.duid.items)) there
    ∙ λ i. Some (part_of (sym copied i) (source_there settings.relays circuit.relay relay behind i) (sym servers i).listen4 (sym servers i).listen6 ((ap (λ (s : ServerConfig). s.duid.items) (sym servers) ∙ sym duids) i))

-- a part of a configuration keeps what the circuit's values keep
pub is_part : (settings : Settings) (c : ℕ) (circuit copy : CircuitConfig) (relay : Source) (server : ServerConfig) (duid : List ℕ)
    → slice_get settings.circuits c ≡ Some circuit → copy ≡ circuit → IsWithinLimits settings.relays circuit → IsSound settings → length circuit.gateway4.0 ≡ 4 → length circuit.link6.0 ≡ 16
    → duid ≡ server.duid.items → IsServerWithinLimits server
    → IsPart (part_of copy relay server.listen4 server.listen6 duid)
is_part settings c circuit copy relay server duid there copied limits sound size4 size6 duids within =
    let size = ap length duids in
    let P : CircuitConfig → Type 0 = λ x. IsPart (part_of x relay server.listen4 server.listen6 duid) in
    subst P (sym copied) (record {
      id = limits.id;
      pool4 = limits.pool4;
      pool6 = record { least = limits.least_count6; most = limits.most_count6; no_wrap = limits.no_wrap6; shortest = limits.pool4.shortest; longest = limits.pool4.longest };
      gateway4_size = size4;
      gateway4 = gateway_is_given settings c circuit there sound;
      link6_size = size6;
      least_duid = omega (arith, size, within.least_duid);
      most_duid = omega (arith, size, within.most_duid);
    })

-- one part more
next_part : (settings : Settings) (c : ℕ) (part : CircuitPart) → part_in settings c ≡ Some part → take (c + 1) (parts_of settings) ≡ take c (parts_of settings) ++ part ∷ []
next_part settings c part there =
    take_more (parts_of settings) c part (slice_get_within (parts_of settings) c part there)
    ∙ ap (λ x. take c (parts_of settings) ++ x ∷ []) (get_or_from_slice_get (parts_of settings) c part part there)

pub one_part_more : (settings : Settings) (c : ℕ) (parts new : List CircuitPart) (part : CircuitPart)
    → parts ≡ take c (parts_of settings) → part_in settings c ≡ Some part → new ≡ parts ++ part ∷ [] → new ≡ take (c + 1) (parts_of settings)
one_part_more settings c parts new part before there pushed = pushed ∙ ap (λ ps. ps ++ part ∷ []) before ∙ sym (next_part settings c part there)

pub one_sound_more : (settings : Settings) (c : ℕ) (part : CircuitPart)
    → part_in settings c ≡ Some part → IsPart part → All IsPart (take c (parts_of settings)) → All IsPart (take (c + 1) (parts_of settings))
one_sound_more settings c part there sound before =
    subst (All IsPart) (sym (next_part settings c part there)) (All-append IsPart (take c (parts_of settings)) (part ∷ []) before (All-cons IsPart part [] sound (All-nil IsPart)))

-- ---- finding a circuit

pub never : {X : Type 0} (xs : List X) → position (λ x. false) xs ≡ None
never [] = refl
never (x ∷ xs) = by_result (position (λ y. false) (x ∷ xs)) refl
  where
    by_result : (r : Option ℕ) → position (λ y. false) (x ∷ xs) ≡ r → r ≡ None
    by_result None same = refl
    by_result (Some i) same = let h = (position-Some (λ y. false) (x ∷ xs) i x same).1 in absurd cc
