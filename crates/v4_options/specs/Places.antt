-- Where a reader has met options. Only private functions cite this.
use Rattle.std.specs.Prelude.{◌≡◌, ℕ, ◌+◌, ◌<◌, ◌≤◌, ◌==◌, List, length, drop, slice_index, Option, None, Some, if◌then◌else◌}
use Rattle.std.specs.Option.{option_or}
use Rattle.v4_options.specs.Codes.{REQUESTED_ADDRESS, OPTION_OVERLOAD, MESSAGE_TYPE, SERVER_IDENTIFIER, CLIENT_IDENTIFIER, RELAY_AGENT_INFORMATION}
use Rattle.v4_options.specs.Reading.{value}
use Rattle.v4_options.specs.Spelling.{look_up}
use Rattle.v4_options.specs.declared.places.Places.{Places}

-- the value whose length stands here; none has place 0
abbrev pub value_at : List ℕ → ℕ → Option (List ℕ)
value_at bytes place = if place == 0 then None else Some (value (drop place bytes))

-- that value does not go past the last byte
abbrev pub IsWithin : List ℕ → ℕ → Type 0
IsWithin bytes place = (place < length bytes) × (place + 1 + slice_index bytes place ≤ length bytes)

-- The option that stands here, or else the first of this code in the rest of a list, is the first in the whole list.
pub record IsPlaced (bytes : List ℕ) (code place : ℕ) (rest whole : List (ℕ × List ℕ)) : Type 0 where
  pub found : option_or (value_at bytes place) (look_up code rest) ≡ look_up code whole
  pub within : 0 < place → IsWithin bytes place

pub record ArePlaced (bytes : List ℕ) (places : Places) (rest whole : List (ℕ × List ℕ)) : Type 0 where
  pub requested : IsPlaced bytes REQUESTED_ADDRESS places.requested rest whole
  pub overload : IsPlaced bytes OPTION_OVERLOAD places.overload rest whole
  pub kind : IsPlaced bytes MESSAGE_TYPE places.kind rest whole
  pub server : IsPlaced bytes SERVER_IDENTIFIER places.server rest whole
  pub client : IsPlaced bytes CLIENT_IDENTIFIER places.client rest whole
  pub agent : IsPlaced bytes RELAY_AGENT_INFORMATION places.agent rest whole
