-- The values of the entries of a list.
use Rattle.std.specs.Prelude.{All, slice_get}
use Rattle.std.proofs.Common.{◌≡◌, ◌⊎◌, inl, inr, ℕ, zero, suc, ◌+◌, ◌-◌, ◌≤◌, ◌<◌, List, [], ◌∷◌, ◌++◌, append-nil, length, get_or, Option, Some, refl, sym, ap, subst, ◌∙◌, arith}
use Rattle.std.proofs.lemmas.List.{at_drop_all}
use Rattle.std.proofs.lemmas.Option.{same_Some}
use Rattle.toml.specs.Data.{Data, Members, as_table}
use Rattle.toml.specs.View.{view, items_view}
use Rattle.toml.specs.declared.value.Value.{Value as Code}
use Rattle.toml.proofs.Lines.{data_of_table}
use Rattle.types.specs.CircuitId.{IsCircuitId}
use Rattle.types.specs.declared.addr.Source.{Source}
use Rattle.settings.specs.declared.settings.RelayConfig.{RelayConfig}
use Rattle.settings.specs.declared.settings.CircuitConfig.{CircuitConfig}
use Rattle.settings.specs.Broken.{IsEntry}
use Rattle.settings.specs.Field.{Field, Missing, Other, Value, HasValue, field_map, table_of, each}
use Rattle.settings.specs.Keys.{AllThere, IsRelayName}
use Rattle.settings.specs.Settings.{IsRelayWithinLimits, IsWithinLimits}
use Rattle.settings.specs.Tables.{RelayKeys, CircuitKeys}
use Rattle.settings.specs.Texts.{IsSource}
use Rattle.settings.specs.Read.{EachReads}
use Rattle.settings.specs.Values.{IsName, IsId, IsNameAt, IsRelay, IsCircuit}
use Rattle.settings.proofs.EntryLemmas.{entries_from, entry_at}
use Rattle.settings.proofs.NameLemmas.{name_within}

pub length-entries : {A : Type 0} (f : Option Data → Field A) (vs : List Code) → length (each f (items_view vs)) ≡ length vs
length-entries f [] = refl
length-entries f (v ∷ vs) = ap suc (length-entries f vs)

-- what is there has a value
valued : {A : Type 0} (f : Field A) (P : A → Type 0) → HasValue f P → (a : A) × (f ≡ Value a) × P a
valued Missing P h = absurd h
valued Other P h = absurd h
valued (Value a) P h = (a, refl, h)

-- what holds of each entry holds of the one at an index
pub entry_there : {A : Type 0} (P : A → Type 0) (fs : List (Field A)) (n : ℕ) (f : Field A) → AllThere P fs → slice_get fs n ≡ Some f → HasValue f P
entry_there P [] n f h e = absurd (cc)
entry_there P (g ∷ gs) zero f h e = subst (λ q. HasValue q P) (same_Some g f e) h.0
entry_there P (g ∷ gs) (suc n) f h e = entry_there P gs n f h.1 e

-- the entry that a loop over a list has at an index
entry_is : {A : Type 0} (f : Option Data → Field A) (vs : List Code) (i : ℕ) (v : Code) → i < length vs → v ≡ get_or vs i v → slice_get (each f (items_view vs)) i ≡ Some (f (Some (view v)))
entry_is f vs i v inside is = entry_at f vs i v inside ∙ ap (λ x. Some (f (Some (view x)))) (sym is)

pub one_of_all : {A : Type 0} (P : A → Type 0) (f : Option Data → Field A) (vs : List Code) (i : ℕ) (v : Code) → i < length vs → v ≡ get_or vs i v → AllThere P (each f (items_view vs)) → HasValue (f (Some (view v))) P
one_of_all P f vs i v inside is all = entry_there P (each f (items_view vs)) i _ all (entry_is f vs i v inside is)

-- it has a value, and its number is counted from 1
pub numbered : {A : Type 0} (P : A → Type 0) (f : Option Data → Field A) (vs : List Code) (i : ℕ) (v : Code) → i < length vs → v ≡ get_or vs i v → HasValue (f (Some (view v))) P → (a : A) × IsEntry (each f (items_view vs)) (i + 1) (Value a) × (f (Some (view v)) ≡ Value a) × P a
numbered P f vs i v inside is has =
    let back : i + 1 - 1 ≡ i = omega arith in
    let value = valued (f (Some (view v))) P has in
    let there = ap (slice_get (each f (items_view vs))) back ∙ entry_is f vs i v inside is ∙ ap Some value.1 in
    (value.0, record { counted = omega arith; there = there }, value.1, value.2)

-- what holds of an entry holds of its table
pub of_table : {A : Type 0} (P : A → Type 0) (g : Members → A) (d : Data) (keys : Members) → Some keys ≡ as_table d → HasValue (field_map g (table_of (Some d))) P → P (g keys)
of_table P g d keys e h = subst (λ x. HasValue (field_map g (table_of (Some x))) P) (data_of_table d keys (sym e)) h

-- a number outside 1 to `most`
pub one_side : (n most : ℕ) → (n < 1) ⊎ ((1 ≤ n) × (most < n)) → (n < 1) ⊎ (most < n)
one_side n most (inl none) = inl none
one_side n most (inr many) = inr many.1

-- what a loop has read of the first i entries: with what the rest stands for it is what all stand for
abbrev pub ReadTo : {A B : Type 0} → (A → B → Type 0) → (Option Data → Field A) → List Code → ℕ → List B → Type 0
ReadTo P f vs i found = (rest : List _) → EachReads P (entries_from f vs i) rest → EachReads P (each f (items_view vs)) (found ++ rest)

pub each_reads_all : {A B : Type 0} (P : A → B → Type 0) (f : Option Data → Field A) (vs : List Code) (i : ℕ) (found : List B) → length vs ≤ i → ReadTo P f vs i found → EachReads P (each f (items_view vs)) found
each_reads_all P f vs i found past read =
    let none_left = at_drop_all (λ ws. each f (items_view ws)) vs i past in
    let behind = subst (λ fs. EachReads P fs []) (sym none_left) tt in
    subst (EachReads P (each f (items_view vs))) (append-nil found) (read [] behind)

pub reads_length : {A B : Type 0} (P : A → B → Type 0) (fs : List (Field A)) (bs : List B) → EachReads P fs bs → length fs ≡ length bs
reads_length P [] [] h = refl
reads_length P [] (b ∷ bs) h = absurd h
reads_length P (f ∷ fs) [] h = absurd h
reads_length P (f ∷ fs) (b ∷ bs) h = ap suc (reads_length P fs bs h.1)

-- as many values as there are entries
pub count_read : {A B : Type 0} (P : A → B → Type 0) (f : Option Data → Field A) (vs : List Code) (bs : List B) → EachReads P (each f (items_view vs)) bs → length bs ≡ length vs
count_read P f vs bs read = sym (reads_length P (each f (items_view vs)) bs read) ∙ length-entries f vs

-- a circuit that names an entry of the list of relays names the relay that the entry stands for
named_by : (f : Field (List ℕ)) (r : RelayConfig) (name : List ℕ) → f ≡ Value name → HasValue f (λ text. IsName text r.name.items) → r.name.items ≡ name
named_by Missing r name e h = absurd h
named_by Other r name e h = absurd h
named_by (Value text) r name e h = let same : text ≡ name = cc in sym h.value ∙ same

named_here : (f : Field RelayKeys) (r : RelayConfig) (name : List ℕ) → HasValue f (λ keys. IsRelay keys r) → HasValue f (λ keys. keys.name ≡ Value name) → r.name.items ≡ name
named_here Missing r name is h = absurd h
named_here Other r name is h = absurd h
named_here (Value keys) r name is h = named_by keys.name r name h is.name

named_among : (names : List (Field RelayKeys)) (relays : List RelayConfig) (name : List ℕ) → EachReads IsRelay names relays → IsRelayName names name → (index : ℕ) × (index < length relays) × IsNameAt relays index name
named_among [] relays name read h = absurd h
named_among (f ∷ fs) [] name read h = absurd read
named_among (f ∷ fs) (r ∷ rs) name read (inl h) = (0, omega arith, ap Some (named_here f r name read.0 h))
named_among (f ∷ fs) (r ∷ rs) name read (inr h) =
    let behind = named_among fs rs name read.1 h in
    (suc behind.0, omega (arith, behind.1), behind.2)

pub behind_some : (names : List (Field RelayKeys)) (relays : List RelayConfig) (f : Field (List ℕ)) → EachReads IsRelay names relays → HasValue f (IsRelayName names) → (index : ℕ) × (index < length relays) × HasValue f (IsNameAt relays index)
behind_some names relays Missing read h = absurd h
behind_some names relays Other read h = absurd h
behind_some names relays (Value name) read h = named_among names relays name read h

index_in_field : (relays : List RelayConfig) (f : Field (List ℕ)) (index : ℕ) → HasValue f (IsNameAt relays index) → index < length relays
index_in_field relays Missing index h = absurd h
index_in_field relays Other index h = absurd h
index_in_field relays (Value name) index h = name_within (λ relay. relay.name.items) relays index name h

-- a circuit's relay is one of the relays
pub relay_within : (relays : List RelayConfig) (keys : CircuitKeys) (c : CircuitConfig) → IsCircuit relays keys c → c.relay < length relays
relay_within relays keys c h = index_in_field relays keys.relay c.relay h.relay

visible_in_field : (f : Field (List ℕ)) (id : List ℕ) → HasValue f (λ text. IsId text id) → IsCircuitId id
visible_in_field Missing id h = absurd h
visible_in_field Other id h = absurd h
visible_in_field (Value text) id h = h.visible

pub within_limits : (relays : List RelayConfig) (keys : CircuitKeys) (c : CircuitConfig) → IsCircuit relays keys c → IsWithinLimits relays c
within_limits relays keys c h = record {
  id = visible_in_field keys.id c.id h.id;
  relay = relay_within relays keys c h;
  region = h.region.to;
  pool4 = record { least = h.count4.from; most = h.count4.to; no_wrap = h.no_wrap4; shortest = h.lease.from; longest = h.lease.to };
  least_prefix4 = h.prefix4.from;
  most_prefix4 = h.prefix4.to;
  few_dns = h.few_dns;
  least_count6 = h.count6.from;
  most_count6 = h.count6.to;
  no_wrap6 = h.no_wrap6;
}

-- what holds of each thing that a text can spell holds of what this text spells
spelled_so : {A B : Type 0} (f : Field A) (P : A → B → Type 0) (Q : B → Type 0) (b : B) → ((a : A) → P a b → Q b) → HasValue f (λ a. P a b) → Q b
spelled_so Missing P Q b so h = absurd h
spelled_so Other P Q b so h = absurd h
spelled_so (Value a) P Q b so h = so a h

least_port : (f : Field (List ℕ)) (s : Source) → HasValue f (λ text. IsSource text s) → 1 ≤ s.port
least_port f s h = spelled_so f IsSource (λ x. 1 ≤ x.port) s (λ text x. x.port.least) h

most_port : (f : Field (List ℕ)) (s : Source) → HasValue f (λ text. IsSource text s) → s.port ≤ 65535
most_port f s h = spelled_so f IsSource (λ x. x.port ≤ 65535) s (λ text x. omega (arith, x.port.most)) h

pub relay_within_limits : (keys : RelayKeys) (relay : RelayConfig) → IsRelay keys relay → IsRelayWithinLimits relay
relay_within_limits keys relay h = record {
  least_name = spelled_so keys.name IsName (λ name. 1 ≤ length name) relay.name.items (λ text x. x.least) h.name;
  most_name = spelled_so keys.name IsName (λ name. length name ≤ 32) relay.name.items (λ text x. x.most) h.name;
  least_port = least_port keys.source relay.source h.source;
  most_port = most_port keys.source relay.source h.source;
}

-- what follows from each reading holds of each value
all_read : {A B : Type 0} (P : A → B → Type 0) (Q : B → Type 0) → ((a : A) (b : B) → P a b → Q b) → (fs : List (Field A)) (bs : List B) → EachReads P fs bs → All Q bs
all_read P Q so [] [] h k d inside = absurd (omega (arith, inside))
all_read P Q so [] (b ∷ bs) h k d inside = absurd h
all_read P Q so (f ∷ fs) [] h k d inside = absurd h
all_read P Q so (f ∷ fs) (b ∷ bs) h zero d inside = spelled_so f P Q b (λ a p. so a b p) h.0
all_read P Q so (f ∷ fs) (b ∷ bs) h (suc k) d inside = all_read P Q so fs bs h.1 k d (omega (arith, inside))

pub all_relays_within : (fs : List (Field RelayKeys)) (relays : List RelayConfig) → EachReads IsRelay fs relays → All IsRelayWithinLimits relays
all_relays_within fs relays h = all_read IsRelay IsRelayWithinLimits relay_within_limits fs relays h

pub all_circuits_within : (relays : List RelayConfig) (fs : List (Field CircuitKeys)) (circuits : List CircuitConfig) → EachReads (IsCircuit relays) fs circuits → All (IsWithinLimits relays) circuits
all_circuits_within relays fs circuits h = all_read (IsCircuit relays) (IsWithinLimits relays) (within_limits relays) fs circuits h
