-- The relay agent information of a message (RFC 3046): option 82 with its suboptions.
use Rattle.std.specs.Prelude.{ℕ, Bool, false, List, Option, Some, None, option_map, Result}
use Rattle.std.specs.Str.{bytes_eq}
use Rattle.v4_options.specs.Codes.{RELAY_AGENT_INFORMATION}
use Rattle.v4_options.specs.declared.fault.SuboptFault.{SuboptFault}
use Rattle.v4_options.specs.Spelling.{look_up}
use Rattle.v4_options.specs.Subreading.{suboptions_of}
use Rattle.v4_message.specs.Spelling.{MessageValue}

-- the suboptions, where there is an option 82 at all
abbrev pub agent_of : MessageValue → Option (Result (List (ℕ × List ℕ)) SuboptFault)
agent_of m = option_map suboptions_of (look_up RELAY_AGENT_INFORMATION m.options)

-- whether the option is there with this value
abbrev pub is_value : List ℕ → Option (List ℕ) → Bool
is_value value None = false
is_value value (Some other) = bytes_eq other value
