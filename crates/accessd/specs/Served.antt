-- What the program has opened and served when it ends.
use Rattle.std.specs.Prelude.{◌≡◌, ◌≤◌, ◌+◌, ◌*◌, ◌⊎◌, ℕ, Bool, true, false, List, [], length}
use Rattle.clap.specs.Words.{Text}
use Rattle.settings.specs.Settings.{Settings}
use Rattle.config.specs.Valid.{IsConfig}
use Rattle.lease_disk.specs.FileDisk.{FileDiskValue, uncalled}
use Rattle.access.specs.Access.{AccessValue, HasServedTurns, IsOpenedAccess, StaysSetUp}
use Rattle.access.specs.Service.{HasKeptServing}
use Rattle.accessd.specs.Serving.{batch_of, most_of}
use Rattle.accessd.specs.Words.{Spells}
use Rattle.accessd.specs.declared.serving.Serving.{Serving}
use Rattle.accessd.specs.declared.serving.Serving.TheVariants.{Turns, Service}
use Rattle.accessd.specs.declared.words.AccessWords.{AccessWords}

-- The device was formatted for this configuration, by four writes for each circuit and no other, or was not called yet.
abbrev pub IsDevice : Bool → Settings → FileDiskValue → Type 0
IsDevice true config disk = disk.writes ≡ 4 * length config.circuits
IsDevice false config disk = disk ≡ uncalled disk.length

-- Relay and server were opened as these values say, over a device that they ask for, with a new history.
pub record IsOpenedBy (config : Settings) (values : AccessWords) (access : AccessValue) : Type 0 where
  pub few : length config.circuits ≤ most_of values.serving
  pub ports : values.port + 4 * length config.circuits ≤ 65536
  pub disk : FileDiskValue
  pub device : IsDevice values.format config disk
  pub opened : IsOpenedAccess config disk values.port (batch_of values.serving) [] access

-- How many turns or passes are made at this status: all turns, and of a service as many as there can be, unless it has lost its
-- file.
abbrev pub EndsAfter : Serving → ℕ → ℕ → Type 0
EndsAfter (Turns turns pause batch) status rounds = (status ≡ 0) × (rounds ≡ turns)
EndsAfter Service status rounds = ((status ≡ 0) × (rounds ≡ 18446744073709551615)) ⊎ (status ≡ 5)

-- So many turns; or passes, and each minute another try of closed circuits.
abbrev pub AreMade : Serving → ℕ → AccessValue → AccessValue → Type 0
AreMade (Turns turns pause batch) rounds old new = (now : ℕ) × HasServedTurns rounds now old new
AreMade Service rounds old new = HasKeptServing rounds old new

-- So many turns or passes were made, and nothing else was done meanwhile.
pub record HasServedAs (serving : Serving) (status : ℕ) (old new : AccessValue) : Type 0 where
  pub rounds : ℕ
  pub ends : EndsAfter serving status rounds
  pub made : AreMade serving rounds old new
  pub turns : new.turns ≡ old.turns + rounds
  pub set_up : StaysSetUp old new

-- Relay and server were opened as these values say, and then served so.
pub record HasServedBy (config : Settings) (values : AccessWords) (status : ℕ) (access : AccessValue) : Type 0 where
  pub opening : AccessValue
  pub opened : IsOpenedBy config values opening
  pub served : HasServedAs values.serving status opening access

-- They were opened over a configuration that a text is.
pub record HasServedValues (values : AccessWords) (status : ℕ) (access : AccessValue) : Type 0 where
  pub text : List ℕ
  pub config : Settings
  pub is_config : IsConfig text config
  pub served : HasServedBy config values status access

-- They were opened and served as words say.
pub record HasServedWords (status : ℕ) (access : AccessValue) : Type 0 where
  pub words : List Text
  pub values : AccessWords
  pub spelled : Spells words values
  pub served : HasServedValues values status access
