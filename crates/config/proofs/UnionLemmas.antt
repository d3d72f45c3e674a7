-- Circuits of several configurations, each id once, and what their union keeps.
use Rattle.std.proofs.Common.{◌≡◌, ◌≢◌, ℕ, zero, suc, ◌≤◌, Bool, true, false, not, ◌||◌, if◌then◌else◌, cond, List, [], ◌∷◌, ◌++◌, length, get_or, map, refl, sym, ap, ◌∙◌, subst, arith}
use Rattle.std.specs.Prelude.{All, AllPairs, filter, flat_map}
use Rattle.std.specs.List.{list_any}
use Rattle.std.specs.Str.{bytes_eq}
use Rattle.std.proofs.lemmas.Bool.Decides.{same_from_decides}
use Rattle.std.proofs.lemmas.Bool.{false≢true}
use Rattle.std.proofs.lemmas.List.{append-nil, get_or_read}
use Rattle.std.proofs.lemmas.List.Elements.{All-append, All-cons, All-filter, All-head, All-nil, All-tail, All-weaker, filter-append, filter_passes}
use Rattle.std.proofs.lemmas.List.Kept.{AllPairs-cons, AllPairs-filter}
use Rattle.std.proofs.lemmas.Slice.Eq.{bytes_eq-Decides}
use Rattle.settings.specs.declared.fault.ConfigFault.{ConfigFault}
use Rattle.settings.specs.declared.fault.ConfigFault.TheVariants.{Memory, Limit}
use Rattle.settings.specs.declared.settings.CircuitConfig.{CircuitConfig}
use Rattle.settings.specs.Settings.{Settings, IsServerWithinLimits, IsRelayWithinLimits, IsWithinLimits}
use Rattle.config.specs.Differences.{SharesServer}
use Rattle.config.specs.Rules.{CircuitsApart, IsOnSubnet, IsSound, NamesDiffer}
use Rattle.config.specs.Plans.{IsUnionFault}
use Rattle.config.specs.Union.{each_once, IsUnion}
use Rattle.config.specs.Valid.{IsLeastOfCircuits}

-- ---- one circuit more

-- whether one of the circuits has this id
abbrev has_id : List ℕ → List CircuitConfig → Bool
has_id id circuits = list_any (bytes_eq id) (map (λ c. c.id) circuits)

-- the circuits whose id is not this one's
abbrev others : CircuitConfig → List CircuitConfig → List CircuitConfig
others x circuits = filter (λ d. not (bytes_eq x.id d.id)) circuits

bytes_eq_sym : (a b : List ℕ) → bytes_eq a b ≡ bytes_eq b a
bytes_eq_sym a b =
    let back = bytes_eq-Decides b a in
    same_from_decides (bytes_eq a b) (bytes_eq b a) (bytes_eq-Decides a b) (λ h. sym (back.0 h), λ e. back.1 (sym e))

-- those of another id are among the others as before
has_id_others : (x : CircuitConfig) (id : List ℕ) → bytes_eq id x.id ≡ false → (circuits : List CircuitConfig) → has_id id (others x circuits) ≡ has_id id circuits
has_id_others x id apart [] = refl
has_id_others x id apart (d ∷ ds) = by_test (bytes_eq x.id d.id) refl (has_id_others x id apart ds)
  where
    by_test : (t : Bool) → bytes_eq x.id d.id ≡ t → has_id id (others x ds) ≡ has_id id ds → has_id id (cond (not (bytes_eq x.id d.id)) (d ∷ others x ds) (others x ds)) ≡ has_id id (d ∷ ds)
    by_test true same rest =
        let one = (bytes_eq-Decides x.id d.id).0 same in
        let away : bytes_eq id d.id ≡ false = ap (bytes_eq id) (sym one) ∙ apart in
        rw (same, away) rest
    by_test false other rest = rw other (ap (λ t. bytes_eq id d.id || t) rest)

-- one more among those of another id
others_more : (x c : CircuitConfig) (circuits : List CircuitConfig) (t there : Bool)
    → x ∷ others x (if there then circuits else circuits ++ c ∷ []) ≡ x ∷ (if there then others x circuits else others x circuits ++ cond (not (bytes_eq x.id c.id)) (c ∷ []) [])
others_more x c circuits t true = refl
others_more x c circuits t false = ap (λ l. x ∷ l) (filter-append (λ d. not (bytes_eq x.id d.id)) circuits (c ∷ []))

one_more : (x c : CircuitConfig) (rest : List CircuitConfig) (same there kept : Bool) → (same ≡ false → kept ≡ there)
    → x ∷ (if there then rest else rest ++ cond (not same) (c ∷ []) []) ≡ (if (same || kept) then x ∷ rest else x ∷ rest ++ c ∷ [])
one_more x c rest true true kept h = refl
one_more x c rest true false kept h = ap (λ l. x ∷ l) (append-nil rest)
one_more x c rest false true kept h = rw (h refl) refl
one_more x c rest false false kept h = rw (h refl) refl

-- a circuit at the end is there already, or is added
pub each_once_more : (before : List CircuitConfig) (c : CircuitConfig)
    → each_once (before ++ c ∷ []) ≡ (if has_id c.id (each_once before) then each_once before else each_once before ++ c ∷ [])
each_once_more [] c = refl
each_once_more (x ∷ xs) c =
    let rest = each_once xs in
    let swapped = bytes_eq_sym x.id c.id in
    ap (λ l. x ∷ others x l) (each_once_more xs c)
    ∙ others_more x c rest true (has_id c.id rest)
    ∙ ap (λ t. x ∷ (if has_id c.id rest then others x rest else others x rest ++ cond (not t) (c ∷ []) [])) swapped
    ∙ one_more x c (others x rest) (bytes_eq c.id x.id) (has_id c.id rest) (has_id c.id (others x rest)) (λ apart. has_id_others x c.id apart rest)

-- the answer of the index on one circuit more
not_not : (b : Bool) → not (not b) ≡ b
not_not true = refl
not_not false = refl

answer : (circuits : List CircuitConfig) (c : CircuitConfig) (ids : List (List ℕ)) (id : List ℕ) (added : Bool)
    → ids ≡ map (λ c. c.id) circuits → id ≡ c.id → added ≡ not (list_any (bytes_eq id) ids) → has_id c.id circuits ≡ not added
answer circuits c ids id added index named told =
    sym (ap not told ∙ not_not (list_any (bytes_eq id) ids) ∙ ap (λ i. list_any (bytes_eq i) ids) named ∙ ap (list_any (bytes_eq c.id)) index)

pub is_added : (before circuits : List CircuitConfig) (c : CircuitConfig) (ids : List (List ℕ)) (id : List ℕ) (added : Bool)
    → ids ≡ map (λ c. c.id) circuits → id ≡ c.id → added ≡ not (list_any (bytes_eq id) ids) → added ≡ true
    → circuits ≡ each_once before → circuits ++ c ∷ [] ≡ each_once (before ++ c ∷ [])
is_added before circuits c ids id added index named told new so_far =
    let absent : has_id c.id (each_once before) ≡ false = ap (has_id c.id) (sym so_far) ∙ answer circuits c ids id added index named told ∙ ap not new in
    ap (λ l. l ++ c ∷ []) so_far ∙ sym (each_once_more before c ∙ ap (λ t. if t then each_once before else each_once before ++ c ∷ []) absent)

pub is_there_already : (before circuits : List CircuitConfig) (c : CircuitConfig) (ids : List (List ℕ)) (id : List ℕ) (added : Bool)
    → ids ≡ map (λ c. c.id) circuits → id ≡ c.id → added ≡ not (list_any (bytes_eq id) ids) → added ≡ false
    → circuits ≡ each_once before → circuits ≡ each_once (before ++ c ∷ [])
is_there_already before circuits c ids id added index named told old so_far =
    let there : has_id c.id (each_once before) ≡ true = ap (has_id c.id) (sym so_far) ∙ answer circuits c ids id added index named told ∙ ap not old in
    so_far ∙ sym (each_once_more before c ∙ ap (λ t. if t then each_once before else each_once before ++ c ∷ []) there)

-- ---- what the union keeps

-- all have the server and the relays of the first
pub all_share : (all : List Settings) (first union : Settings) → first ≡ get_or all 0 first → AllPairs SharesServer all → union.server ≡ first.server → union.relays ≡ first.relays → All (SharesServer union) all
all_share all first union is shared server relays zero d inside =
    let head : first ≡ get_or all 0 d = get_or_read all 0 first inside is d in
    record { server = ap (λ s. s.server) (sym head) ∙ sym server; relays = ap (λ s. s.relays) (sym head) ∙ sym relays }
all_share all first union is shared server relays (suc k) d inside =
    let head : first ≡ get_or all 0 d = get_or_read all 0 first (omega (arith, inside)) is d in
    let pair = shared 0 (suc k) d (omega arith) inside in
    record { server = pair.server ∙ ap (λ s. s.server) (sym head) ∙ sym server; relays = pair.relays ∙ ap (λ s. s.relays) (sym head) ∙ sym relays }

-- what holds of each configuration's circuits does of the union's
once_all : (P : CircuitConfig → Type 0) (circuits : List CircuitConfig) → All P circuits → All P (each_once circuits)
once_all P [] h = All-nil P
once_all P (c ∷ cs) h =
    All-cons P c (others c (each_once cs)) (All-head P c cs h) (All-filter (λ d. not (bytes_eq c.id d.id)) P (each_once cs) (once_all P cs (All-tail P c cs h)))

flat_all : (P : CircuitConfig → Type 0) (all : List Settings) → All (λ s. All P s.circuits) all → All P (flat_map (λ s. s.circuits) all)
flat_all P [] h = All-nil P
flat_all P (s ∷ rest) h =
    All-append P s.circuits (flat_map (λ s. s.circuits) rest) (All-head (λ s. All P s.circuits) s rest h) (flat_all P rest (All-tail (λ s. All P s.circuits) s rest h))

union_all : (P : CircuitConfig → Type 0) (all : List Settings) (union : Settings) → IsUnion all union → All (λ s. All P s.circuits) all → All P union.circuits
union_all P all union is h = subst (All P) (sym is.circuits) (once_all P (flat_map (λ s. s.circuits) all) (flat_all P all h))

-- the ids of the union's circuits differ
another_id : (c d : CircuitConfig) → not (bytes_eq c.id d.id) ≡ true → c.id ≡ d.id → ⊥
another_id c d apart same = false≢true (sym (ap not ((bytes_eq-Decides c.id d.id).1 same)) ∙ apart)

ids_differ : (circuits : List CircuitConfig) → AllPairs (λ c d. c.id ≡ d.id → ⊥) (each_once circuits)
ids_differ [] = λ i j d less inside. absurd (omega (arith, inside))
ids_differ (c ∷ cs) =
    let test : CircuitConfig → Bool = λ d. not (bytes_eq c.id d.id) in
    let head = All-weaker (λ d. test d ≡ true) (λ d. c.id ≡ d.id → ⊥) (λ d apart. another_id c d apart) (filter test (each_once cs)) (filter_passes test (each_once cs)) in
    AllPairs-cons (λ c d. c.id ≡ d.id → ⊥) c (others c (each_once cs)) head (AllPairs-filter (λ c d. c.id ≡ d.id → ⊥) test (each_once cs) (ids_differ cs))

-- the union has a circuit where the first configuration has
some_once : (circuits more : List CircuitConfig) → 1 ≤ length circuits → 1 ≤ length (each_once (circuits ++ more))
some_once [] more some = absurd (omega (arith, some))
some_once (c ∷ cs) more some = omega arith

names_differ : (s union : Settings) → SharesServer union s → AllPairs (λ c d. c.id ≢ d.id) union.circuits → NamesDiffer s → NamesDiffer union
names_differ s union share ids names = record {
  ids = ids;
  names = subst (λ rs. AllPairs (λ r q. r.name.items ≢ q.name.items) rs) share.relays names.names;
  listens = subst (λ server. server.listen4 ≢ server.listen6) share.server names.listens;
  sources = subst (λ rs. AllPairs (λ r q. r.source ≢ q.source) rs) share.relays names.sources;
  not_listen4 = subst (λ rs. All (λ r. r.source ≢ union.server.listen4) rs) share.relays (subst (λ server. All (λ r. r.source ≢ server.listen4) s.relays) share.server names.not_listen4);
  not_listen6 = subst (λ rs. All (λ r. r.source ≢ union.server.listen6) rs) share.relays (subst (λ server. All (λ r. r.source ≢ server.listen6) s.relays) share.server names.not_listen6);
}

-- A union whose circuits are few and apart is sound: each configuration keeps rules 44 and 49.
pub union_is_sound : (all : List Settings) (union : Settings) → 1 ≤ length all → All IsSound all → IsUnion all union → length union.circuits ≤ 1024 → CircuitsApart union → IsSound union
union_is_sound [] union some sound is few apart = absurd (omega (arith, some))
union_is_sound (s ∷ rest) union some sound is few apart =
    let first = All-head IsSound s rest sound in
    let share = All-head (SharesServer union) s rest is.shared in
    let limits : All (λ plan. All (IsWithinLimits union.relays) plan.circuits) (s ∷ rest) = λ k d inside. subst (λ rs. All (IsWithinLimits rs) (get_or (s ∷ rest) k d).circuits) (is.shared k d inside).relays (sound k d inside).limits in
    let subnets : All (λ plan. All IsOnSubnet plan.circuits) (s ∷ rest) = λ k d inside. (sound k d inside).rules.subnets in
    let ids = subst (λ cs. AllPairs (λ c d. c.id ≡ d.id → ⊥) cs) (sym is.circuits) (ids_differ (flat_map (λ s. s.circuits) (s ∷ rest))) in
    let names = names_differ s union share ids first.rules.names in
    record {
      some_relay = subst (λ rs. 1 ≤ length rs) share.relays first.some_relay;
      relays = subst (λ rs. length rs ≤ 8) share.relays first.relays;
      some_circuit = subst (λ cs. 1 ≤ length cs) (sym is.circuits) (some_once s.circuits (flat_map (λ s. s.circuits) rest) first.some_circuit);
      circuits = few;
      server = subst IsServerWithinLimits share.server first.server;
      each_relay = subst (All IsRelayWithinLimits) share.relays first.each_relay;
      limits = union_all (IsWithinLimits union.relays) (s ∷ rest) union is limits;
      rules = record { names = names; regions = apart.regions; pools4 = apart.pools4; pools6 = apart.pools6; gateways = apart.gateways; subnets = union_all IsOnSubnet (s ∷ rest) union is subnets };
    }

-- a rule between the circuits of the union is broken
pub union_fault : (all : List Settings) (union : Settings) (fault : ConfigFault) → IsUnion all union → length union.circuits ≤ 1024 → IsLeastOfCircuits union fault → IsUnionFault all fault
union_fault all union Memory is few h = tt
union_fault all union (Limit limit) is few h = absurd h
union_fault all union fault is few h = (union, is, (few, h))
