-- One text has one configuration, or faults of one number.
use Rattle.std.proofs.Common.{◌≡◌, ◌≢◌, ◌⊎◌, inl, inr, ◌-◌, ◌<◌, ◌≤◌, ℕ, zero, suc, List, [], ◌∷◌, length, get_or, Option, Some, None, option_map, refl, ap, sym, subst, ◌∙◌, arith}
use Rattle.std.specs.Prelude.{All, AllPairs, slice_get, ⊤}
use Rattle.std.specs.Int.{w32, w128, from_be_bytes}
use Rattle.std.proofs.lemmas.Option.{slice_get_within, same_Some, slice_get-get_or}
use Rattle.settings.specs.declared.limit_fault.LimitFault.{LimitFault}
use Rattle.settings.specs.declared.limit_fault.LimitFault.TheVariants.{Relays, Circuits, Server, Relay, Circuit}
use Rattle.settings.specs.declared.limit_fault.CircuitLimit.{CircuitLimit}
use Rattle.settings.specs.declared.limit_fault.CircuitLimit.TheVariants.{Number, Form, PastLast4, PastLast6}
use Rattle.settings.specs.declared.names.ServerKey.{ServerKey}
use Rattle.settings.specs.declared.names.ServerKey.TheVariants.{Listen4, Listen6, Duid}
use Rattle.settings.specs.declared.names.RelayKey.{RelayKey}
use Rattle.settings.specs.declared.names.RelayKey.TheVariants.{Name, Source as SourceKey}
use Rattle.settings.specs.declared.names.CircuitKey.{CircuitKey}
use Rattle.settings.specs.declared.names.CircuitKey.TheVariants.{Id, Relay as RelayOf, Region, Lease, Gateway4, Prefix4, First4, Count4, Dns, Link6, First6, Count6}
use Rattle.settings.specs.declared.settings.ServerConfig.{ServerConfig}
use Rattle.settings.specs.declared.settings.RelayConfig.{RelayConfig}
use Rattle.settings.specs.declared.settings.CircuitConfig.{CircuitConfig}
use Rattle.toml.specs.Data.{Members}
use Rattle.toml.specs.Parse.{parse_document}
use Rattle.settings.specs.declared.names.CircuitRef.{CircuitRef}
use Rattle.settings.specs.declared.names.TableName.TheVariants.{Server as ServerTable, Relay as RelayTable, Circuit as CircuitTable}
use Rattle.settings.specs.declared.fault.Location.{Location}
use Rattle.settings.specs.declared.fault.Location.TheVariants.{Table, Server as AtServer, Relay as AtRelay, Circuit as AtCircuit}
use Rattle.settings.specs.declared.fault.SameName.{SameName}
use Rattle.settings.specs.declared.fault.SameName.TheVariants.{Ids, Names, Sources, Listens, Listen4 as RelayListen4, Listen6 as RelayListen6}
use Rattle.settings.specs.declared.fault.ConfigFault.{ConfigFault}
use Rattle.settings.specs.declared.fault.ConfigFault.TheVariants.{Memory, Text, Missing, Limit, IdTwice, RegionTwice, Overlap4, Overlap6, GatewayInPool, OffSubnet}
use Rattle.types.specs.Addr.{number4, number6}
use Rattle.config.specs.Broken.{AreSame, ShareRegion, SharePool4, SharePool6, IsGatewayInPool, IsOffSubnet}
use Rattle.settings.specs.Broken.{IsEntry, IsEntryOf, HasServerKey, HasRelayKey, HasCircuitKey, RelayLacks, CircuitLacks, IsMissing, IsServerUnfit, IsRelayUnfit, IsCircuitUnfit, IsUnfit}
use Rattle.settings.specs.Fault.{number_of}
use Rattle.settings.specs.Keys.{AllThere, HasServerKeys, HasRelayKeys, HasCircuitKeys, HasAll}
use Rattle.settings.specs.Field.{Field, Missing, Other, Value, HasValue}
use Rattle.config.specs.Rules.{IsInPool4, IsInPool6, IsOnSubnet, NamesDiffer, RegionsDiffer, Pools4Apart, Pools6Apart, GatewaysOutside, OnSubnets, KeepsRules}
use Rattle.settings.specs.Settings.{Settings}
use Rattle.settings.specs.Tables.{ServerKeys, RelayKeys, CircuitKeys, Tables, tables_of}
use Rattle.config.specs.Valid.{IsValid, BreaksRule, IsLeastRule, IsConfig, IsFaultOf}
use Rattle.settings.specs.Read.{EachReads, IsRead}
use Rattle.settings.specs.Values.{IsNameAt, IsServer, IsRelay, IsCircuit}
use Rattle.settings.proofs.ReadLemmas.{entry_there, reads_length}
use Rattle.settings.proofs.SameLemmas.{meet, same_address, same_address6, same_number, same_name, same_id, same_duid, same_source, same_addresses}

-- rule 43: what is unfit is not read

server_unfit : (keys : ServerKeys) (key : ServerKey) (server : ServerConfig) → IsServerUnfit keys key → IsServer keys server → ⊥
server_unfit keys Listen4 server unfit h = unfit server.listen4 h.listen4
server_unfit keys Listen6 server unfit h = unfit server.listen6 h.listen6
server_unfit keys Duid server unfit h = unfit server.duid.items h.duid

relay_unfit : (keys : RelayKeys) (key : RelayKey) (relay : RelayConfig) → IsRelayUnfit keys key → IsRelay keys relay → ⊥
relay_unfit keys Name relay unfit h = unfit relay.name.items h.name
relay_unfit keys SourceKey relay unfit h = unfit relay.source h.source

circuit_unfit : (relays : List RelayConfig) (keys : CircuitKeys) (limit : CircuitLimit) (c : CircuitConfig) → IsCircuitUnfit keys limit → IsCircuit relays keys c → ⊥
circuit_unfit relays keys (Number Region n) c unfit h = unfit.outside c.region h.region
circuit_unfit relays keys (Number Lease n) c unfit h = unfit.outside c.lease h.lease
circuit_unfit relays keys (Number Prefix4 n) c unfit h = unfit.outside c.prefix4 h.prefix4
circuit_unfit relays keys (Number Count4 n) c unfit h = unfit.outside c.count4 h.count4
circuit_unfit relays keys (Number Count6 n) c unfit h = unfit.outside c.count6 h.count6
circuit_unfit relays keys (Number Id n) c unfit h = absurd unfit
circuit_unfit relays keys (Number RelayOf n) c unfit h = absurd unfit
circuit_unfit relays keys (Number Gateway4 n) c unfit h = absurd unfit
circuit_unfit relays keys (Number First4 n) c unfit h = absurd unfit
circuit_unfit relays keys (Number Dns n) c unfit h = absurd unfit
circuit_unfit relays keys (Number Link6 n) c unfit h = absurd unfit
circuit_unfit relays keys (Number First6 n) c unfit h = absurd unfit
circuit_unfit relays keys (Form Id) c unfit h = unfit c.id h.id
circuit_unfit relays keys (Form RelayOf) c unfit h = absurd unfit
circuit_unfit relays keys (Form Region) c unfit h = absurd unfit
circuit_unfit relays keys (Form Lease) c unfit h = absurd unfit
circuit_unfit relays keys (Form Gateway4) c unfit h = unfit c.gateway4 h.gateway4
circuit_unfit relays keys (Form Prefix4) c unfit h = absurd unfit
circuit_unfit relays keys (Form First4) c unfit h = unfit c.first4 h.first4
circuit_unfit relays keys (Form Count4) c unfit h = absurd unfit
circuit_unfit relays keys (Form Dns) c unfit h = unfit c.dns.items h.few_dns h.dns
circuit_unfit relays keys (Form Link6) c unfit h = unfit c.link6 h.link6
circuit_unfit relays keys (Form First6) c unfit h = unfit c.first6 h.first6
circuit_unfit relays keys (Form Count6) c unfit h = absurd unfit
circuit_unfit relays keys PastLast4 c unfit h =
    let first = ap (from_be_bytes w32) (same_address keys.first4 unfit.first c.first4 unfit.first_is h.first4) in
    let count = same_number keys.count4 _ _ unfit.count c.count4 unfit.count_is h.count4 in
    omega (arith, unfit.past, h.no_wrap4)
circuit_unfit relays keys PastLast6 c unfit h =
    let first = ap (from_be_bytes w128) (same_address6 keys.first6 unfit.first c.first6 unfit.first_is h.first6) in
    let count = same_number keys.count6 _ _ unfit.count c.count6 unfit.count_is h.count6 in
    omega (arith, unfit.past, h.no_wrap6)

-- an entry that is there is read as some value
reads_entry : {A B : Type 0} (P : A → B → Type 0) (fs : List (Field A)) (bs : List B) (n : ℕ) (a : A) → EachReads P fs bs → slice_get fs n ≡ Some (Value a) → (b : B) × P a b
reads_entry P [] bs n a h e = absurd (cc)
reads_entry P (f ∷ fs) [] n a h e = absurd h
reads_entry P (f ∷ fs) (b ∷ bs) zero a h e =
    let same : f ≡ Value a = same_Some f (Value a) e in
    (b, subst (λ q. HasValue q (λ x. P x b)) same h.0)
reads_entry P (f ∷ fs) (b ∷ bs) (suc n) a h e = reads_entry P fs bs n a h.1 e

-- a number from 1 on is not outside its limits
outside : (count most n : ℕ) → count ≡ n → 1 ≤ count → count ≤ most → (n < 1) ⊎ (most < n) → ⊥
outside count most n is least_one few (inl none) = omega (arith, is, none)
outside count most n is least_one few (inr many) = omega (arith, is, many)

pub unfit_is_unread : (t : Tables) (limit : LimitFault) (s : Settings) → IsUnfit t limit → IsRead t s → ⊥
unfit_is_unread t (Relays n) s unfit h =
    meet t.relays (λ entries. (length entries ≡ n) × ((n < 1) ⊎ (8 < n))) (λ entries. EachReads IsRelay entries s.relays) ⊥ (λ entries u r. outside (length s.relays) 8 n (sym (reads_length IsRelay entries s.relays r) ∙ u.0) h.some_relay h.few_relays u.1) unfit h.relays
unfit_is_unread t (Circuits n) s unfit h =
    meet t.circuits (λ entries. (length entries ≡ n) × ((n < 1) ⊎ (1024 < n))) (λ entries. EachReads (IsCircuit s.relays) entries s.circuits) ⊥ (λ entries u r. outside (length s.circuits) 1024 n (sym (reads_length (IsCircuit s.relays) entries s.circuits r) ∙ u.0) h.some_circuit h.few_circuits u.1) unfit h.circuits
unfit_is_unread t (Server key) s unfit h =
    meet t.server (λ keys. IsServerUnfit keys key) (λ keys. IsServer keys s.server) ⊥ (λ keys u r. server_unfit keys key s.server u r) unfit h.server
unfit_is_unread t (Relay number key) s unfit h =
    meet t.relays (λ entries. (keys : RelayKeys) × IsEntry entries number (Value keys) × IsRelayUnfit keys key) (λ entries. EachReads IsRelay entries s.relays) ⊥ (λ entries u r.
    let read = reads_entry IsRelay entries s.relays (number - 1) u.0 r u.1.there in
    relay_unfit u.0 key read.0 u.2 read.1) unfit h.relays
unfit_is_unread t (Circuit circuit limit) s unfit h =
    meet t.circuits (λ entries. (keys : CircuitKeys) × IsEntryOf entries circuit (Value keys) × IsCircuitUnfit keys limit) (λ entries. EachReads (IsCircuit s.relays) entries s.circuits) ⊥ (λ entries u r.
    let read = reads_entry (IsCircuit s.relays) entries s.circuits (circuit.number - 1) u.0 r u.1.is.there in
    circuit_unfit s.relays u.0 limit read.0 u.2 read.1) unfit h.circuits

-- rule 42: what lacks a table or a key has not all

has_server_key : (keys : ServerKeys) → HasServerKeys keys → (key : ServerKey) → HasServerKey keys key
has_server_key keys h Listen4 = h.listen4
has_server_key keys h Listen6 = h.listen6
has_server_key keys h Duid = h.duid

has_relay_key : (keys : RelayKeys) → HasRelayKeys keys → (key : RelayKey) → HasRelayKey keys key
has_relay_key keys h Name = h.name
has_relay_key keys h SourceKey = h.source

has_circuit_key : (relays : List (Field RelayKeys)) (keys : CircuitKeys) → HasCircuitKeys relays keys → (key : CircuitKey) → HasCircuitKey relays keys key
has_circuit_key relays keys h Id = h.id
has_circuit_key relays keys h RelayOf = h.relay
has_circuit_key relays keys h Region = h.region
has_circuit_key relays keys h Lease = h.lease
has_circuit_key relays keys h Gateway4 = h.gateway4
has_circuit_key relays keys h Prefix4 = h.prefix4
has_circuit_key relays keys h First4 = h.first4
has_circuit_key relays keys h Count4 = h.count4
has_circuit_key relays keys h Dns = h.dns
has_circuit_key relays keys h Link6 = h.link6
has_circuit_key relays keys h First6 = h.first6
has_circuit_key relays keys h Count6 = h.count6

-- what holds of a field's value does so of what follows from it
weaker : {A : Type 0} (f : Field A) (P Q : A → Type 0) → ((a : A) → P a → Q a) → HasValue f P → HasValue f Q
weaker Missing P Q so h = h
weaker Other P Q so h = h
weaker (Value a) P Q so h = so a h

relay_lacks : (entries : List (Field RelayKeys)) (number : ℕ) (key : RelayKey) → RelayLacks entries number key → AllThere HasRelayKeys entries → ⊥
relay_lacks entries number key lacks all =
    lacks.2 (weaker lacks.0 HasRelayKeys (λ keys. HasRelayKey keys key) (λ keys has. has_relay_key keys has key) (entry_there HasRelayKeys entries (number - 1) lacks.0 all lacks.1.there))

circuit_lacks : (relays : List (Field RelayKeys)) (entries : List (Field CircuitKeys)) (circuit : CircuitRef) (key : CircuitKey) → CircuitLacks relays entries circuit key → AllThere (HasCircuitKeys relays) entries → ⊥
circuit_lacks relays entries circuit key lacks all =
    lacks.2 (weaker lacks.0 (HasCircuitKeys relays) (λ keys. HasCircuitKey relays keys key) (λ keys has. has_circuit_key relays keys has key) (entry_there (HasCircuitKeys relays) entries (circuit.number - 1) lacks.0 all lacks.1.is.there))

missing_lacks : (t : Tables) (location : Location) → IsMissing t location → HasAll t → ⊥
missing_lacks t (Table ServerTable) lacks h = lacks (weaker t.server HasServerKeys (λ _. ⊤) (λ _ _. tt) h.server)
missing_lacks t (Table RelayTable) lacks h = lacks (weaker t.relays (AllThere HasRelayKeys) (λ _. ⊤) (λ _ _. tt) h.relays)
missing_lacks t (Table CircuitTable) lacks h =
    meet t.relays (AllThere HasRelayKeys) (λ relays. HasValue t.circuits (AllThere (HasCircuitKeys relays))) ⊥ (λ relays _ circuits. lacks (weaker t.circuits (AllThere (HasCircuitKeys relays)) (λ _. ⊤) (λ _ _. tt) circuits)) h.relays h.circuits
missing_lacks t (AtServer key) lacks h = meet t.server (λ keys. HasServerKey keys key → ⊥) HasServerKeys ⊥ (λ keys l has. l (has_server_key keys has key)) lacks h.server
missing_lacks t (AtRelay number key) lacks h =
    meet t.relays (λ entries. RelayLacks entries number key) (AllThere HasRelayKeys) ⊥ (λ entries l all. relay_lacks entries number key l all) lacks h.relays
missing_lacks t (AtCircuit circuit key) lacks h =
    meet t.relays (λ relays. HasValue t.circuits (λ entries. CircuitLacks relays entries circuit key)) (λ relays. HasValue t.circuits (AllThere (HasCircuitKeys relays))) ⊥ (λ relays ls alls.
    meet t.circuits (λ entries. CircuitLacks relays entries circuit key) (AllThere (HasCircuitKeys relays)) ⊥ (λ entries l all. circuit_lacks relays entries circuit key l all) ls alls) lacks h.circuits

-- one text's settings

one_server : (keys : ServerKeys) (s t : ServerConfig) → IsServer keys s → IsServer keys t → s ≡ t
one_server keys s t h k =
    let listen4 = same_source keys.listen4 s.listen4 t.listen4 h.listen4 k.listen4 in
    let listen6 = same_source keys.listen6 s.listen6 t.listen6 h.listen6 k.listen6 in
    let duid = same_duid keys.duid s.duid.items t.duid.items h.duid k.duid in
    λ i. record { listen4 = listen4 i; listen6 = listen6 i; duid = record { items = duid i } }

one_relay : (keys : RelayKeys) (r q : RelayConfig) → IsRelay keys r → IsRelay keys q → r ≡ q
one_relay keys r q h k =
    let name = same_name keys.name r.name.items q.name.items h.name k.name in
    let source = same_source keys.source r.source q.source h.source k.source in
    λ i. record { name = record { items = name i }; source = source i }

-- what all names differ of is found at one index
element : {X : Type 0} (f : X → List ℕ) (xs : List X) (i : ℕ) (name : List ℕ) (found : Option X) → slice_get xs i ≡ found → option_map f found ≡ Some name → (x : X) × (slice_get xs i ≡ Some x) × (f x ≡ name)
element f xs i name None is h = absurd (cc)
element f xs i name (Some x) is h = (x, is, same_Some _ _ h)

read_at : {X : Type 0} (xs : List X) (i : ℕ) (x d : X) → slice_get xs i ≡ Some x → get_or xs i d ≡ x
read_at xs i x d h = same_Some _ _ (sym (slice_get-get_or xs i d (slice_get_within xs i x h)) ∙ h)

names_apart : {X : Type 0} (f : X → List ℕ) (xs : List X) (i j : ℕ) (name : List ℕ) → AllPairs (λ x y. f x ≢ f y) xs → i < j → option_map f (slice_get xs i) ≡ Some name → option_map f (slice_get xs j) ≡ Some name → ⊥
names_apart f xs i j name differ less h k =
    let a = element f xs i name (slice_get xs i) refl h in
    let b = element f xs j name (slice_get xs j) refl k in
    differ i j a.0 less (slice_get_within xs j b.0 b.1) (ap f (read_at xs i a.0 a.0 a.1) ∙ a.2 ∙ sym b.2 ∙ sym (ap f (read_at xs j b.0 a.0 b.1)))

one_index : (relays : List RelayConfig) (i j : ℕ) (name : List ℕ) → AllPairs (λ r q. r.name.items ≢ q.name.items) relays → IsNameAt relays i name → IsNameAt relays j name → i ≡ j
one_index relays i j name differ h k =
    let f : RelayConfig → List ℕ = λ r. r.name.items in
    let before : i < j → ⊥ = λ less. names_apart f relays i j name differ less h k in
    let behind : j < i → ⊥ = λ less. names_apart f relays j i name differ less k h in
    omega arith

one_circuit : (relays : List RelayConfig) → AllPairs (λ r q. r.name.items ≢ q.name.items) relays → (keys : CircuitKeys) (c d : CircuitConfig) → IsCircuit relays keys c → IsCircuit relays keys d → c ≡ d
one_circuit relays differ keys c d h k =
    let id = same_id keys.id c.id d.id h.id k.id in
    let relay = meet keys.relay (IsNameAt relays c.relay) (IsNameAt relays d.relay) (c.relay ≡ d.relay) (λ name x y. one_index relays c.relay d.relay name differ x y) h.relay k.relay in
    let region = same_number keys.region _ _ c.region d.region h.region k.region in
    let lease = same_number keys.lease _ _ c.lease d.lease h.lease k.lease in
    let gateway4 = same_address keys.gateway4 c.gateway4 d.gateway4 h.gateway4 k.gateway4 in
    let prefix4 = same_number keys.prefix4 _ _ c.prefix4 d.prefix4 h.prefix4 k.prefix4 in
    let first4 = same_address keys.first4 c.first4 d.first4 h.first4 k.first4 in
    let count4 = same_number keys.count4 _ _ c.count4 d.count4 h.count4 k.count4 in
    let dns = same_addresses keys.dns c.dns.items d.dns.items h.dns k.dns in
    let link6 = same_address6 keys.link6 c.link6 d.link6 h.link6 k.link6 in
    let first6 = same_address6 keys.first6 c.first6 d.first6 h.first6 k.first6 in
    let count6 = same_number keys.count6 _ _ c.count6 d.count6 h.count6 k.count6 in
    λ i. record {
      id = id i;
      relay = relay i;
      region = region i;
      lease = lease i;
      gateway4 = record { 0 = gateway4 i };
      prefix4 = prefix4 i;
      first4 = record { 0 = first4 i };
      count4 = count4 i;
      dns = record { items = dns i };
      link6 = record { 0 = link6 i };
      first6 = record { 0 = first6 i };
      count6 = count6 i;
    }

one_each_reads : {A B : Type 0} (P : A → B → Type 0) → ((a : A) (b c : B) → P a b → P a c → b ≡ c) → (fs : List (Field A)) (bs cs : List B) → EachReads P fs bs → EachReads P fs cs → bs ≡ cs
one_each_reads P one [] [] [] h k = refl
one_each_reads P one [] (b ∷ bs) cs h k = absurd h
one_each_reads P one [] [] (c ∷ cs) h k = absurd k
one_each_reads P one (f ∷ fs) [] cs h k = absurd h
one_each_reads P one (f ∷ fs) (b ∷ bs) [] h k = absurd k
one_each_reads P one (f ∷ fs) (b ∷ bs) (c ∷ cs) h k =
    let head = meet f (λ a. P a b) (λ a. P a c) (b ≡ c) (λ a x y. one a b c x y) h.0 k.0 in
    let tail = one_each_reads P one fs bs cs h.1 k.1 in
    λ i. head i ∷ tail i

-- where the relays' names differ, the settings of a text are one
pub one_settings : (t : Tables) (a b : Settings) → IsRead t a → IsRead t b → NamesDiffer a → a ≡ b
one_settings t a b h k differ =
    let server = meet t.server (λ keys. IsServer keys a.server) (λ keys. IsServer keys b.server) (a.server ≡ b.server) (λ keys x y. one_server keys a.server b.server x y) h.server k.server in
    let relays = meet t.relays (λ es. EachReads IsRelay es a.relays) (λ es. EachReads IsRelay es b.relays) (a.relays ≡ b.relays) (λ es x y. one_each_reads IsRelay one_relay es a.relays b.relays x y) h.relays k.relays in
    let theirs = subst (λ rs. HasValue t.circuits (λ es. EachReads (IsCircuit rs) es b.circuits)) (sym relays) k.circuits in
    let circuits = meet t.circuits (λ es. EachReads (IsCircuit a.relays) es a.circuits) (λ es. EachReads (IsCircuit a.relays) es b.circuits) (a.circuits ≡ b.circuits) (λ es x y. one_each_reads (IsCircuit a.relays) (one_circuit a.relays differ.names) es a.circuits b.circuits x y) h.circuits theirs in
    λ i. record { server = server i; relays = relays i; circuits = circuits i }

-- rules 44 to 49: what a fault names breaks its rule

-- two entries of which the first stands before the second
pub two : {X : Type 0} (R : X → X → Type 0) (xs : List X) (m n : ℕ) (x y : X) → AllPairs R xs → m < n → IsEntry xs m x → IsEntry xs n y → R x y
two R xs m n x y all less a b =
    let one = all (m - 1) (n - 1) x (omega (arith, a.counted, b.counted)) (slice_get_within xs (n - 1) y b.there) in
    subst (λ q. R q y) (read_at xs (m - 1) x x a.there) (subst (R _) (read_at xs (n - 1) y x b.there) one)

pub one_of : {X : Type 0} (P : X → Type 0) (xs : List X) (n : ℕ) (x : X) → All P xs → IsEntry xs n x → P x
one_of P xs n x all a = subst P (read_at xs (n - 1) x x a.there) (all (n - 1) x (slice_get_within xs (n - 1) x a.there))

breaks_names : (s : Settings) (same : SameName) → AreSame s same → NamesDiffer s → ⊥
breaks_names s (Ids first second) h names = two (λ c d. c.id ≢ d.id) s.circuits first.number second.number h.one h.other names.ids h.ordered h.one_is.entry h.other_is.entry h.related
breaks_names s (Names first second) h names = two (λ r q. r.name.items ≢ q.name.items) s.relays first second h.one h.other names.names h.ordered h.one_is h.other_is h.related
breaks_names s (Sources first second) h names = two (λ r q. r.source ≢ q.source) s.relays first second h.one h.other names.sources h.ordered h.one_is h.other_is h.related
breaks_names s Listens h names = names.listens h
breaks_names s (RelayListen4 number) h names = one_of (λ r. r.source ≢ s.server.listen4) s.relays number h.relay names.not_listen4 h.is h.same
breaks_names s (RelayListen6 number) h names = one_of (λ r. r.source ≢ s.server.listen6) s.relays number h.relay names.not_listen6 h.is h.same

breaks_regions : (s : Settings) (first second : CircuitRef) → ShareRegion s first second → RegionsDiffer s → ⊥
breaks_regions s first second h differ = two (λ c d. c.region ≢ d.region) s.circuits first.number second.number h.one h.other differ h.ordered h.one_is.entry h.other_is.entry h.related

breaks_pools4 : (s : Settings) (first second : CircuitRef) → SharePool4 s first second → Pools4Apart s → ⊥
breaks_pools4 s first second h apart =
    two (λ c d. (n : ℕ) → IsInPool4 c n → IsInPool4 d n → ⊥) s.circuits first.number second.number h.one h.other apart h.ordered h.one_is.entry h.other_is.entry h.related.0 h.related.1 h.related.2

breaks_pools6 : (s : Settings) (first second : CircuitRef) → SharePool6 s first second → Pools6Apart s → ⊥
breaks_pools6 s first second h apart =
    two (λ c d. (n : ℕ) → IsInPool6 c n → IsInPool6 d n → ⊥) s.circuits first.number second.number h.one h.other apart h.ordered h.one_is.entry h.other_is.entry h.related.0 h.related.1 h.related.2

breaks_gateways : (s : Settings) (circuit : CircuitRef) (key : CircuitKey) (owner : CircuitRef) → IsGatewayInPool s circuit key owner → GatewaysOutside s → ⊥
breaks_gateways s circuit Gateway4 owner h outside =
    let mine = one_of (λ c. All (λ d. IsInPool4 d (number4 c.gateway4) → ⊥) s.circuits) s.circuits circuit.number h.one outside.four h.one_is.entry in
    one_of (λ d. IsInPool4 d (number4 h.one.gateway4) → ⊥) s.circuits owner.number h.other mine h.other_is.entry h.related
breaks_gateways s circuit Link6 owner h outside =
    let mine = one_of (λ c. All (λ d. IsInPool6 d (number6 c.link6) → ⊥) s.circuits) s.circuits circuit.number h.one outside.six h.one_is.entry in
    one_of (λ d. IsInPool6 d (number6 h.one.link6) → ⊥) s.circuits owner.number h.other mine h.other_is.entry h.related
breaks_gateways s circuit Id owner h outside = absurd h
breaks_gateways s circuit RelayOf owner h outside = absurd h
breaks_gateways s circuit Region owner h outside = absurd h
breaks_gateways s circuit Lease owner h outside = absurd h
breaks_gateways s circuit Prefix4 owner h outside = absurd h
breaks_gateways s circuit First4 owner h outside = absurd h
breaks_gateways s circuit Count4 owner h outside = absurd h
breaks_gateways s circuit Dns owner h outside = absurd h
breaks_gateways s circuit First6 owner h outside = absurd h
breaks_gateways s circuit Count6 owner h outside = absurd h

breaks_subnets : (s : Settings) (named : CircuitRef) (key : CircuitKey) → IsOffSubnet s named key → OnSubnets s → ⊥
breaks_subnets s named Gateway4 h on = h.holds (one_of IsOnSubnet s.circuits named.number h.circuit on h.is.entry).gateway4
breaks_subnets s named First4 h on = h.holds.2 ((one_of IsOnSubnet s.circuits named.number h.circuit on h.is.entry).pool4 h.holds.0 h.holds.1)
breaks_subnets s named First6 h on = h.holds.2 ((one_of IsOnSubnet s.circuits named.number h.circuit on h.is.entry).pool6 h.holds.0 h.holds.1)
breaks_subnets s named Id h on = absurd h
breaks_subnets s named RelayOf h on = absurd h
breaks_subnets s named Region h on = absurd h
breaks_subnets s named Lease h on = absurd h
breaks_subnets s named Prefix4 h on = absurd h
breaks_subnets s named Count4 h on = absurd h
breaks_subnets s named Dns h on = absurd h
breaks_subnets s named Link6 h on = absurd h
breaks_subnets s named Count6 h on = absurd h

-- Which of the rules 44 to 49 are kept: all those below a number.
pub record KeepsBelow (s : Settings) (number : ℕ) : Type 0 where
  pub names : 44 < number → NamesDiffer s
  pub regions : 45 < number → RegionsDiffer s
  pub pools4 : 46 < number → Pools4Apart s
  pub pools6 : 47 < number → Pools6Apart s
  pub gateways : 48 < number → GatewaysOutside s
  pub subnets : 49 < number → OnSubnets s

-- a valid configuration keeps all of them
pub keeps_all : (s : Settings) → KeepsRules s → KeepsBelow s 52
keeps_all s h = record { names = λ _. h.names; regions = λ _. h.regions; pools4 = λ _. h.pools4; pools6 = λ _. h.pools6; gateways = λ _. h.gateways; subnets = λ _. h.subnets }

-- the least broken rule: those below are kept
keeps_below : (s : Settings) (fault : ConfigFault) → IsLeastRule s fault → KeepsBelow s (number_of fault)
keeps_below s (IdTwice same) h = record { names = λ l. absurd (omega arith); regions = λ l. absurd (omega arith); pools4 = λ l. absurd (omega arith); pools6 = λ l. absurd (omega arith); gateways = λ l. absurd (omega arith); subnets = λ l. absurd (omega arith) }
keeps_below s (RegionTwice a b) h = record { names = λ _. h.0; regions = λ l. absurd (omega arith); pools4 = λ l. absurd (omega arith); pools6 = λ l. absurd (omega arith); gateways = λ l. absurd (omega arith); subnets = λ l. absurd (omega arith) }
keeps_below s (Overlap4 a b) h = record { names = λ _. h.0; regions = λ _. h.1.0; pools4 = λ l. absurd (omega arith); pools6 = λ l. absurd (omega arith); gateways = λ l. absurd (omega arith); subnets = λ l. absurd (omega arith) }
keeps_below s (Overlap6 a b) h = record { names = λ _. h.0; regions = λ _. h.1.0; pools4 = λ _. h.1.1; pools6 = λ l. absurd (omega arith); gateways = λ l. absurd (omega arith); subnets = λ l. absurd (omega arith) }
keeps_below s (GatewayInPool a key b) h = record { names = λ _. h.0; regions = λ _. h.1.0; pools4 = λ _. h.1.1; pools6 = λ _. h.1.2; gateways = λ l. absurd (omega arith); subnets = λ l. absurd (omega arith) }
keeps_below s (OffSubnet a key) h = record { names = λ _. h.0; regions = λ _. h.1.regions; pools4 = λ _. h.1.pools4; pools6 = λ _. h.1.pools6; gateways = λ _. h.1.gateways; subnets = λ l. absurd (omega arith) }
keeps_below s fault h = absurd h.1

-- and the rule itself is not
pub breaks_its : (s : Settings) (fault : ConfigFault) (number : ℕ) → IsLeastRule s fault → KeepsBelow s number → number_of fault < number → ⊥
breaks_its s (IdTwice same) number h keeps less = breaks_names s same h (keeps.names less)
breaks_its s (RegionTwice a b) number h keeps less = breaks_regions s a b h.1 (keeps.regions less)
breaks_its s (Overlap4 a b) number h keeps less = breaks_pools4 s a b h.1.1 (keeps.pools4 less)
breaks_its s (Overlap6 a b) number h keeps less = breaks_pools6 s a b h.1.2 (keeps.pools6 less)
breaks_its s (GatewayInPool a key b) number h keeps less = breaks_gateways s a key b h.1.3 (keeps.gateways less)
breaks_its s (OffSubnet a key) number h keeps less = breaks_subnets s a key h.2 (keeps.subnets less)
breaks_its s fault number h keeps less = absurd h.1

one_document : (text : List ℕ) (d e : Members) → parse_document text ≡ Some d → parse_document text ≡ Some e → d ≡ e
one_document text d e h k = same_Some d e (sym h ∙ k)

pub one_config : (text : List ℕ) (a b : Settings) → IsConfig text a → IsConfig text b → a ≡ b
one_config text a b h k =
    let same = one_document text k.0 h.0 k.1 h.1 in
    one_settings (tables_of h.0) a b h.2.read (subst (λ d. IsValid (tables_of d) b) same k.2).read h.2.rules.names

-- What a text keeps of the rules below a number.
pub record Passes (text : List ℕ) (number : ℕ) : Type 0 where
  pub parses : 41 < number → (doc : Members) × (parse_document text ≡ Some doc)
  pub all : (doc : Members) → parse_document text ≡ Some doc → 42 < number → HasAll (tables_of doc)
  pub read : (doc : Members) → parse_document text ≡ Some doc → 43 < number → (s : Settings) × IsRead (tables_of doc) s × KeepsBelow s number

-- a fact on the document of a text
on_document : (P : Members → Type 0) (text : List ℕ) (d e : Members) → parse_document text ≡ Some d → parse_document text ≡ Some e → P d → P e
on_document P text d e h k p = subst P (one_document text d e h k) p

passes_valid : (text : List ℕ) (s : Settings) → IsConfig text s → Passes text 52
passes_valid text s h = record {
  parses = λ _. (h.0, h.1);
  all = λ doc e _. on_document (λ d. HasAll (tables_of d)) text h.0 doc h.1 e h.2.all;
  read = λ doc e _. (s, on_document (λ d. IsRead (tables_of d) s) text h.0 doc h.1 e h.2.read, keeps_all s h.2.rules);
}

passes_rule : (text : List ℕ) (fault : ConfigFault) (doc : Members) → parse_document text ≡ Some doc → BreaksRule (tables_of doc) fault → Passes text (number_of fault)
passes_rule text fault doc parsed h = record {
  parses = λ _. (doc, parsed);
  all = λ d e _. on_document (λ x. HasAll (tables_of x)) text doc d parsed e h.all;
  read = λ d e _. (h.settings, on_document (λ x. IsRead (tables_of x) h.settings) text doc d parsed e h.read, keeps_below h.settings fault h.broken);
}

passes : (text : List ℕ) (fault : ConfigFault) → fault ≢ Memory → IsFaultOf text fault → Passes text (number_of fault)
passes text Memory other h = absurd (other refl)
passes text (Text error) other h = record { parses = λ l. absurd (omega arith); all = λ d e l. absurd (omega arith); read = λ d e l. absurd (omega arith) }
passes text (Missing location) other h = record { parses = λ _. (h.0, h.1); all = λ d e l. absurd (omega arith); read = λ d e l. absurd (omega arith) }
passes text (Limit limit) other h = record {
  parses = λ _. (h.0, h.1);
  all = λ d e _. on_document (λ x. HasAll (tables_of x)) text h.0 d h.1 e h.2.all;
  read = λ d e l. absurd (omega arith);
}
passes text fault other h = passes_rule text fault h.0 h.1 h.2

-- a text that passes a rule has no fault of it
clash_rule : (text : List ℕ) (fault : ConfigFault) (n : ℕ) (doc : Members) → parse_document text ≡ Some doc → BreaksRule (tables_of doc) fault → Passes text n → 44 ≤ number_of fault → number_of fault < n → ⊥
clash_rule text fault n doc parsed h p from less =
    let read = p.read doc parsed (omega arith) in
    let same = one_settings (tables_of doc) read.0 h.settings read.1 h.read (read.2.names (omega arith)) in
    breaks_its h.settings fault n h.broken (subst (λ s. KeepsBelow s n) same read.2) less

clash : (text : List ℕ) (fault : ConfigFault) (n : ℕ) → fault ≢ Memory → IsFaultOf text fault → Passes text n → number_of fault < n → ⊥
clash text Memory n other h p less = absurd (other refl)
clash text (Text error) n other h p less = let e = sym h ∙ (p.parses less).1 in absurd (cc)
clash text (Missing location) n other h p less = missing_lacks (tables_of h.0) location h.2 (p.all h.0 h.1 less)
clash text (Limit limit) n other h p less =
    let read = p.read h.0 h.1 less in
    unfit_is_unread (tables_of h.0) limit read.0 h.2.broken read.1
clash text fault n other h p less = clash_rule text fault n h.0 h.1 h.2 p (omega arith) less

-- each number is one of the rules'
pub number_below : (fault : ConfigFault) → number_of fault < 52
number_below Memory = omega arith
number_below fault = omega arith

pub not_both : (text : List ℕ) (s : Settings) (fault : ConfigFault) → IsConfig text s → fault ≢ Memory → IsFaultOf text fault → ⊥
not_both text s fault h other broken = clash text fault 52 other broken (passes_valid text s h) (number_below fault)

pub same_fault_number : (text : List ℕ) (f g : ConfigFault) → f ≢ Memory → g ≢ Memory → IsFaultOf text f → IsFaultOf text g → number_of f ≡ number_of g
same_fault_number text f g other_f other_g h k =
    let before : number_of f < number_of g → ⊥ = clash text f (number_of g) other_f h (passes text g other_g k) in
    let behind : number_of g < number_of f → ⊥ = clash text g (number_of f) other_g k (passes text f other_f h) in
    omega arith
