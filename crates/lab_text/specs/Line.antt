-- What a line says.
use Rattle.std.specs.Prelude.{ℕ, ◌+◌, nat_le, nat_lt, ◌==◌, Bool, true, if◌then◌else◌, List, [], ◌∷◌, length, codes, Option, Some, None}
use Rattle.std.specs.Str.{bytes_eq}
use Rattle.settings.specs.Settings.{Settings}
use Rattle.events.specs.declared.batch.BatchPart.{BatchPart}
use Rattle.events.specs.declared.comeback.Comeback.{Comeback}
use Rattle.types.specs.declared.discard.Discard.{Discard}
use Rattle.types.specs.declared.discard.Discard.TheVariants.{UnknownSource, NotServer}
use Rattle.config.specs.Topology.{topology_of, is_relay, is_server}
use Rattle.events.specs.Seen.{Seen, Frame, Up, Down}
use Rattle.lab_text.specs.Fields.{number_to, proto_of, bytes_of, byte_of, circuit_named, relay_named, source_of, named_comeback, is_named, parts_of, sync_fault_of}
use Rattle.lab_text.specs.Fields.{fields_of}
use Rattle.lab_text.specs.declared.form.Form.{Form}
use Rattle.lab_text.specs.declared.form.Form.TheVariants as form

pub data Line : Type 0 where
  -- an empty line or a comment
  Ignored : Line
  -- a line of no known form
  Bad : Line
  -- before all events every byte of this circuit's region is this one
  Fill : ℕ → ℕ → Line
  -- it is formatted in format 1
  Old : ℕ → Line
  -- these bytes stand in it from an offset on
  Load : ℕ → ℕ → List ℕ → Line
  -- this call of the device fails where it is moved to format 2 at the opening
  Move : ℕ → ℕ → Line
  -- an event of this circuit
  Named : ℕ → Seen → Line
  -- the moment passes for all circuits
  Tick : ℕ → Line
  -- this plan is in force from now on, the first is 0
  Reload : ℕ → Line
  -- the server and the disk start again, and circuits' regions come back like this
  Restart : List (ℕ × Comeback) → Line
  -- these datagrams, each of another circuit, are delivered at the server at a moment, with a fault of the shared syncs
  Batch : ℕ → ℕ → List BatchPart → Line
  -- a stray, which is dropped for this reason
  Stray : Discard → Line

-- A line is bad where a field has no value.
infixl 10 ◌>>=◌
abbrev pub ◌>>=◌ : {A : Type 0} → Option A → (A → Line) → Line
None >>= f = Bad
Some a >>= f = f a

-- What a line is about, by its first field. A restart and a batch, which have any number of fields, are none of these.
abbrev pub form_of : List ℕ → Option Form
form_of word =
    if bytes_eq word (codes "fill") then Some form.Fill
    else if bytes_eq word (codes "old") then Some form.Old
    else if bytes_eq word (codes "load") then Some form.Load
    else if bytes_eq word (codes "move") then Some form.Move
    else if bytes_eq word (codes "frame") then Some form.Frame
    else if bytes_eq word (codes "up") then Some form.Up
    else if bytes_eq word (codes "down") then Some form.Down
    else if bytes_eq word (codes "tick") then Some form.Tick
    else if bytes_eq word (codes "reload") then Some form.Reload
    else if bytes_eq word (codes "strayup") then Some form.StrayUp
    else if bytes_eq word (codes "straydown") then Some form.StrayDown
    else None

-- a line of a form by its other fields, where there are so many plans
abbrev pub line_of_form : Settings → ℕ → Form → List (List ℕ) → Line
-- `fill CID HH`: two hexadecimal digits of either case
line_of_form settings plans form.Fill (circuit ∷ digits ∷ []) = do
  c ← circuit_named settings circuit
  byte ← byte_of digits
  Fill c byte
-- `old CID`
line_of_form settings plans form.Old (circuit ∷ []) = do
  c ← circuit_named settings circuit
  Old c
-- `load CID AT HEX`: the bytes lie within the 32768 of a region
line_of_form settings plans form.Load (circuit ∷ from ∷ digits ∷ []) = do
  c ← circuit_named settings circuit
  at ← number_to 32768 from
  bytes ← bytes_of digits
  if nat_le (at + length bytes) 32768 then Load c at bytes else Bad
-- `move CID M`: the fault is 0, for none, or the call of the disk that fails, 1 to 4
line_of_form settings plans form.Move (circuit ∷ call ∷ []) = do
  c ← circuit_named settings circuit
  fault ← number_to 4 call
  Move c fault
-- `frame CID PROTO HEX`
line_of_form settings plans form.Frame (circuit ∷ protocol ∷ digits ∷ []) = do
  c ← circuit_named settings circuit
  proto ← proto_of protocol
  bytes ← bytes_of digits
  Named c (Frame proto bytes)
-- `up CID J NOW FAULT`: J is 0 to 65535, NOW is 0 to 2^40 - 1, and the fault is 0, for
-- none, or the call of the disk that fails in the save, 1 to 6
line_of_form settings plans form.Up (circuit ∷ j ∷ now ∷ fault ∷ []) = do
  c ← circuit_named settings circuit
  number ← number_to 65535 j
  moment ← number_to 1099511627775 now
  call ← number_to 6 fault
  Named c (Up number moment call)
-- `down CID J`
line_of_form settings plans form.Down (circuit ∷ j ∷ []) = do
  c ← circuit_named settings circuit
  number ← number_to 65535 j
  Named c (Down number)
-- `tick NOW`
line_of_form settings plans form.Tick (now ∷ []) = do
  moment ← number_to 1099511627775 now
  Tick moment
-- `reload K`: K is below the number of plans
line_of_form settings plans form.Reload (k ∷ []) = do
  plan ← number_to 255 k
  if nat_lt plan plans then Reload plan else Bad
-- `strayup PROTO SRC HEX NOW`: no relay sends from this source
line_of_form settings plans form.StrayUp (protocol ∷ from ∷ digits ∷ now ∷ []) = do
  proto ← proto_of protocol
  source ← source_of from
  bytes ← bytes_of digits
  moment ← number_to 1099511627775 now
  if is_relay (topology_of settings) source then Bad else Stray UnknownSource
-- `straydown RELAY SRC HEX`: the server does not send from this source
line_of_form settings plans form.StrayDown (name ∷ from ∷ digits ∷ []) = do
  relay ← relay_named settings name
  source ← source_of from
  bytes ← bytes_of digits
  if is_server (topology_of settings) source then Bad else Stray NotServer
line_of_form settings plans other fields = Bad

-- `restart` and `CID=unreadable`, `CID=HH` or `CID=HH:M` any number of times, after these. No circuit may be named twice.
unfoldable pub restart_line : Settings → List (ℕ × Comeback) → List (List ℕ) → Line
restart_line settings named [] = Restart named
restart_line settings named (field ∷ fields) = do
  next ← named_comeback settings field
  if is_named next.0 named then Bad else restart_line settings (next ∷ named) fields

-- `batch NOW SYNC` and 1 to 16 times `CID=J=FAULT`. No circuit may be named twice.
abbrev pub batch_line : Settings → List (List ℕ) → Line
batch_line settings (now ∷ sync ∷ fields) = do
  moment ← number_to 1099511627775 now
  fault ← sync_fault_of sync
  parts ← parts_of settings fields
  Batch moment fault parts
batch_line settings fields = Bad

abbrev pub line_of_found : Settings → ℕ → Option Form → List (List ℕ) → Line
line_of_found settings plans None fields = Bad
line_of_found settings plans (Some known) fields = line_of_form settings plans known fields

-- the line by its first field
abbrev pub line_for_word : Settings → ℕ → List (List ℕ) → Line
line_for_word settings plans [] = Bad
line_for_word settings plans (word ∷ fields) =
    if bytes_eq word (codes "restart") then restart_line settings [] fields
    else if bytes_eq word (codes "batch") then batch_line settings fields
    else line_of_found settings plans (form_of word) fields

-- An empty line, or one that begins with `#` (35), is ignored.
abbrev pub is_ignored : List ℕ → Bool
is_ignored [] = true
is_ignored (b ∷ bytes) = b == 35

-- a line that is not too long
abbrev pub short_line : Settings → ℕ → List ℕ → Line
short_line settings plans line = if is_ignored line then Ignored else line_for_word settings plans (fields_of line)

-- What a line says. A line of more than 8192 bytes is bad, even one that begins with `#`.
unfoldable pub line_of_text : Settings → ℕ → List ℕ → Line
line_of_text settings plans line = if nat_lt 8192 (length line) then Bad else short_line settings plans line
