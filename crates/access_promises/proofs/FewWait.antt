-- Only a few datagrams wait, and those at the server are from relays.
use Rattle.std.proofs.Common.{◌≡◌, ◌∙◌, ℕ, suc, ◌+◌, ◌<◌, ◌≤◌, Bool, true, false, cond, List, [], ◌∷◌, ◌++◌, length, refl, sym, ap, ap₂, subst, arith}
use Rattle.std.specs.Prelude.{◌≢◌, Option, Some, None, All, slice_get, ◌||◌}
use Rattle.std.proofs.lemmas.List.Elements.{All-append, All-cons, All-nil}
use Rattle.types.specs.Addr.{same_source}
use Rattle.types.specs.declared.addr.Source.{Source}
use Rattle.types.specs.declared.dest.Proto.{Proto}
use Rattle.types.specs.declared.dest.Proto.TheVariants.{V4, V6}
use Rattle.settings.specs.Settings.{Settings}
use Rattle.settings.specs.declared.settings.RelayConfig.{RelayConfig}
use Rattle.config.specs.Rules.{NamesDiffer}
use Rattle.config.specs.Topology.{Topology, is_relay, is_server, listen, topology_of}
use Rattle.config.proofs.PartLemmas.{all_at}
use Rattle.config.proofs.TopologyLemmas.{is_known, of_map, same_is_one, same_source_self}
use Rattle.sockets.specs.Sockets.{client_port}
use Rattle.udp.specs.History.{Sent}
use Rattle.udp.specs.declared.history.Role.{Role}
use Rattle.udp.specs.declared.history.Role.TheVariants.{Circuit, Server, Relay}
use Rattle.access_promises.specs.Waiting.{Underway, address_of, is_at}
use Rattle.access_promises.proofs.Queues.{Queues, after}

-- ---- addresses

pub by_false : (b : Bool) → (b ≡ true → ⊥) → b ≡ false
by_false true never = absurd (never refl)
by_false false never = refl

pub not_both : (b : Bool) → b ≡ false → b ≡ true → ⊥
not_both true fails holds = absurd cc
not_both false fails holds = absurd cc

pub differ : (a b : Source) → a ≢ b → same_source a b ≡ false
differ a b apart = by_false (same_source a b) (λ same. apart (same_is_one a b same))

pub differ_back : (a b : Source) → same_source a b ≡ false → same_source b a ≡ false
differ_back a b apart = by_false (same_source b a) (λ same. not_both (same_source a b) apart (subst (λ (s : Source). same_source a s ≡ true) (sym (same_is_one b a same)) (same_source_self a)))

neither : (a b : Bool) → (a || b) ≡ false → (a ≡ false) × (b ≡ false)
neither true b none = absurd cc
neither false b none = (refl, none)

-- the addresses of server, relays and clients
pub record AreApart (topology : Topology) (port : ℕ) : Type 0 where
  pub listens : same_source topology.listen4 topology.listen6 ≡ false
  pub relays : (r : ℕ) (at : Source) (proto : Proto) → slice_get topology.relays r ≡ Some at → same_source (listen topology proto) at ≡ false
  pub from_server : (c : ℕ) (proto own : Proto) → c < length topology.circuits → same_source (listen topology own) (client_port port c proto) ≡ false
  pub from_relays : (c : ℕ) (proto : Proto) (r : ℕ) (at : Source) → c < length topology.circuits → slice_get topology.relays r ≡ Some at → same_source at (client_port port c proto) ≡ false

no_relay : (topology : Topology) (to : Source) (r : ℕ) (at : Source) → is_relay topology to ≡ false → slice_get topology.relays r ≡ Some at → same_source at to ≡ false
no_relay topology to r at none there = by_false (same_source at to) (λ same. not_both (is_relay topology to) none (subst (λ (s : Source). is_relay topology s ≡ true) (same_is_one at to same) (is_known topology r at there)))

no_server : (topology : Topology) (to : Source) (own : Proto) → is_server topology to ≡ false → same_source (listen topology own) to ≡ false
no_server topology to V4 none = differ_back to topology.listen4 (neither (same_source to topology.listen4) (same_source to topology.listen6) none).0
no_server topology to V6 none = differ_back to topology.listen6 (neither (same_source to topology.listen4) (same_source to topology.listen6) none).1

pub are_apart : (settings : Settings) (port : ℕ) → NamesDiffer settings
    → ((c : ℕ) (proto : Proto) → c < length (topology_of settings).circuits → (is_relay (topology_of settings) (client_port port c proto) ≡ false) × (is_server (topology_of settings) (client_port port c proto) ≡ false))
    → AreApart (topology_of settings) port
are_apart settings port names apart = record {
  listens = differ settings.server.listen4 settings.server.listen6 names.listens;
  relays = not_listen;
  from_server = λ c proto own below. no_server (topology_of settings) (client_port port c proto) own (apart c proto below).1;
  from_relays = λ c proto r at below there. no_relay (topology_of settings) (client_port port c proto) r at (apart c proto below).0 there;
} where
  not_listen : (r : ℕ) (at : Source) (proto : Proto) → slice_get (topology_of settings).relays r ≡ Some at → same_source (listen (topology_of settings) proto) at ≡ false
  not_listen r at V4 there =
      let its = of_map (λ (relay : RelayConfig). relay.source) settings.relays r at there in
      differ settings.server.listen4 at (λ same. all_at (λ (relay : RelayConfig). relay.source ≢ settings.server.listen4) settings.relays r its.0 its.1 names.not_listen4 (sym (same ∙ its.2)))
  not_listen r at V6 there =
      let its = of_map (λ (relay : RelayConfig). relay.source) settings.relays r at there in
      differ settings.server.listen6 at (λ same. all_at (λ (relay : RelayConfig). relay.source ≢ settings.server.listen6) settings.relays r its.0 its.1 names.not_listen6 (sym (same ∙ its.2)))

-- ---- queues

abbrev pub IsFromRelay : Topology → Option Source → Type 0
IsFromRelay topology from = (r : ℕ) × (at : Source) × (slice_get topology.relays r ≡ Some at) × (from ≡ Some at)

abbrev pub IsOurs : Topology → Underway → Type 0
IsOurs topology datagram = IsFromRelay topology datagram.from

-- So many wait at most at the server's two sockets, and at each relay's.
pub record FewWait (topology : Topology) (up down : ℕ) (q : Queues) : Type 0 where
  pub at_server : length (q (Server V4)) + length (q (Server V6)) ≤ up
  pub at_relays : (r : ℕ) (at : Source) → slice_get topology.relays r ≡ Some at → length (q (Relay r)) ≤ down
  pub ours : (proto : Proto) → All (IsOurs topology) (q (Server proto))

pub few_more : (topology : Topology) (up down more_up more_down : ℕ) → up ≤ more_up → down ≤ more_down → (q : Queues) → FewWait topology up down q → FewWait topology more_up more_down q
few_more topology up down more_up more_down at_up at_down q few = record {
  at_server = let least = few.at_server in omega (arith, least, at_up);
  at_relays = λ r at there. let least = few.at_relays r at there in omega (arith, least, at_down);
  ours = few.ours;
}

-- ---- one more, or none

pub length_more : {A : Type 0} (xs : List A) (x : A) → length (xs ++ x ∷ []) ≡ suc (length xs)
length_more [] x = refl
length_more (y ∷ xs) x = ap suc (length_more xs x)

abbrev and_one : {A : Type 0} → Bool → List A → A → List A
and_one more xs x = cond more (xs ++ x ∷ []) xs

at_most_one : {A : Type 0} (more : Bool) (xs : List A) (x : A) → length (and_one more xs x) ≤ suc (length xs)
at_most_one true xs x = let one = length_more xs x in omega (arith, one)
at_most_one false xs x = omega arith

none_more : {A : Type 0} (more : Bool) (xs : List A) (x : A) → more ≡ false → and_one more xs x ≡ xs
none_more true xs x fails = absurd cc
none_more false xs x fails = refl

all_more : {A : Type 0} (P : A → Type 0) (more : Bool) (xs : List A) (x : A) → All P xs → P x → All P (and_one more xs x)
all_more P true xs x all one = All-append P xs (x ∷ []) all (All-cons P x [] one (All-nil P))
all_more P false xs x all one = all

-- ---- what a sending changes

module _ (topology : Topology) (port : ℕ) (apart : AreApart topology port) where
  -- to an address of no socket
  elsewhere : (from : Role) (to : Source) (bytes : List ℕ) (accepted : Bool) (q : Queues) → ((socket : Role) → is_at (address_of topology socket) to ≡ false) → (socket : Role) → after topology (Sent from to bytes accepted) q socket ≡ q socket
  elsewhere from to bytes true q apart_from socket = none_more (is_at (address_of topology socket) to) (q socket) (record { from = address_of topology from; bytes = bytes }) (apart_from socket)
  elsewhere from to bytes false q apart_from socket = refl

  no_client : (c : ℕ) (proto : Proto) → c < length topology.circuits → (socket : Role) → is_at (address_of topology socket) (client_port port c proto) ≡ false
  no_client c proto below (Server own) = apart.from_server c proto own below
  no_client c proto below (Circuit k own) = refl
  no_client c proto below (Relay r) = by (slice_get topology.relays r) refl where
    by : (there : Option Source) → slice_get topology.relays r ≡ there → is_at there (client_port port c proto) ≡ false
    by None is = refl
    by (Some at) is = apart.from_relays c proto r at below is

  -- a frame to a client
  pub sent_down : (from : Role) (c : ℕ) (proto : Proto) (bytes : List ℕ) (accepted : Bool) (q : Queues) → c < length topology.circuits → after topology (Sent from (client_port port c proto) bytes accepted) q ≡ q
  sent_down from c proto bytes accepted q below = λ i. λ socket. elsewhere from (client_port port c proto) bytes accepted q (no_client c proto below) socket i

  -- a datagram from a relay to the server
  one_at_server : (proto : Proto) (x : Underway) (q : Queues)
      → length (and_one (same_source topology.listen4 (listen topology proto)) (q (Server V4)) x) + length (and_one (same_source topology.listen6 (listen topology proto)) (q (Server V6)) x) ≤ suc (length (q (Server V4)) + length (q (Server V6)))
  one_at_server V4 x q =
      let four = at_most_one (same_source topology.listen4 topology.listen4) (q (Server V4)) x in
      let six = ap length (none_more (same_source topology.listen6 topology.listen4) (q (Server V6)) x (differ_back topology.listen4 topology.listen6 apart.listens)) in
      omega (arith, four, six)
  one_at_server V6 x q =
      let four = ap length (none_more (same_source topology.listen4 topology.listen6) (q (Server V4)) x apart.listens) in
      let six = at_most_one (same_source topology.listen6 topology.listen6) (q (Server V6)) x in
      omega (arith, four, six)

  same_at_relay : (proto : Proto) (x : Underway) (q : Queues) (r : ℕ) (at : Source) → slice_get topology.relays r ≡ Some at → and_one (is_at (slice_get topology.relays r) (listen topology proto)) (q (Relay r)) x ≡ q (Relay r)
  same_at_relay proto x q r at there =
      none_more (is_at (slice_get topology.relays r) (listen topology proto)) (q (Relay r)) x
      (ap (λ (o : Option Source). is_at o (listen topology proto)) there ∙ differ_back (listen topology proto) at (apart.relays r at proto there))

  pub sent_up : (up down r : ℕ) (at : Source) (proto : Proto) (bytes : List ℕ) (accepted : Bool) (q : Queues) → slice_get topology.relays r ≡ Some at
      → FewWait topology up down q → FewWait topology (suc up) down (after topology (Sent (Relay r) (listen topology proto) bytes accepted) q)
  sent_up up down r at proto bytes false q there few = few_more topology up down (suc up) down (omega arith) (omega arith) q few
  sent_up up down r at proto bytes true q there few = record {
    at_server = let least = few.at_server in let one = one_at_server proto (record { from = slice_get topology.relays r; bytes = bytes }) q in omega (arith, least, one);
    at_relays = λ k its here. subst (λ (l : List Underway). length l ≤ down) (sym (same_at_relay proto (record { from = slice_get topology.relays r; bytes = bytes }) q k its here)) (few.at_relays k its here);
    ours = λ own.
        all_more (IsOurs topology) (same_source (listen topology own) (listen topology proto)) (q (Server own)) (record { from = slice_get topology.relays r; bytes = bytes }) (few.ours own) (r, at, there, there);
  }

  -- a datagram from the server to a relay
  abbrev from_server : Proto → List ℕ → Underway
  from_server proto bytes = record { from = Some (listen topology proto); bytes = bytes }

  pub sent_back : (up down r : ℕ) (to : Source) (proto : Proto) (bytes : List ℕ) (accepted : Bool) (q : Queues) → slice_get topology.relays r ≡ Some to
      → FewWait topology up down q → FewWait topology up (suc down) (after topology (Sent (Server proto) to bytes accepted) q)
  sent_back up down r to proto bytes false q there few = few_more topology up down up (suc down) (omega arith) (omega arith) q few
  sent_back up down r to proto bytes true q there few = record {
    at_server = subst (λ n. n ≤ up) (sym (ap₂ (λ (a b : List Underway). length a + length b) (same_at V4) (same_at V6))) few.at_server;
    at_relays = λ k its here. let least = few.at_relays k its here in let one = at_most_one (is_at (slice_get topology.relays k) to) (q (Relay k)) (from_server proto bytes) in omega (arith, least, one);
    ours = λ own. subst (All (IsOurs topology)) (sym (same_at own)) (few.ours own);
  } where
    same_at : (own : Proto) → and_one (same_source (listen topology own) to) (q (Server own)) (from_server proto bytes) ≡ q (Server own)
    same_at own = none_more (same_source (listen topology own) to) (q (Server own)) (from_server proto bytes) (apart.relays r to own there)
