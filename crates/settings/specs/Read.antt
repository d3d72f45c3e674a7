-- Which values the tables of a text stand for, and which fault they have if they stand for none.
use Rattle.std.specs.Prelude.{◌≤◌, List, [], ◌∷◌, length, ⊤}
use Rattle.settings.specs.declared.fault.ConfigFault.{ConfigFault}
use Rattle.settings.specs.declared.fault.ConfigFault.TheVariants.{Memory, Limit}
use Rattle.settings.specs.Broken.{IsUnfit}
use Rattle.settings.specs.Field.{Field, HasValue}
use Rattle.settings.specs.Settings.{Settings}
use Rattle.settings.specs.Tables.{Tables}
use Rattle.settings.specs.Values.{IsServer, IsRelay, IsCircuit}

-- the entries stand for the values, one for one
abbrev pub EachReads : {A B : Type 0} → (A → B → Type 0) → List (Field A) → List B → Type 0
EachReads P [] [] = ⊤
EachReads P (f ∷ fs) (b ∷ bs) = HasValue f (λ a. P a b) × EachReads P fs bs
EachReads P (f ∷ fs) [] = ⊥
EachReads P [] (b ∷ bs) = ⊥

-- the settings are the values at the keys, each within its limits
pub record IsRead (tables : Tables) (settings : Settings) : Type 0 where
  pub server : HasValue tables.server (λ keys. IsServer keys settings.server)
  pub relays : HasValue tables.relays (λ entries. EachReads IsRelay entries settings.relays)
  pub some_relay : 1 ≤ length settings.relays
  pub few_relays : length settings.relays ≤ 8
  pub circuits : HasValue tables.circuits (λ entries. EachReads (IsCircuit settings.relays) entries settings.circuits)
  pub some_circuit : 1 ≤ length settings.circuits
  pub few_circuits : length settings.circuits ≤ 1024

-- No values are read: the fault names one outside its limits, or is out of memory, which says nothing
-- about the tables.
abbrev pub IsUnread : Tables → ConfigFault → Type 0
IsUnread tables Memory = ⊤
IsUnread tables (Limit limit) = IsUnfit tables limit
IsUnread tables fault = ⊥
