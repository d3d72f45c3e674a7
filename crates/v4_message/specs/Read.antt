-- What is true of a message that was read.
use Rattle.std.specs.Prelude.{◌≡◌, ℕ, ◌≤◌, List, [], ◌∷◌, length, Some}
use Rattle.types.specs.declared.kind4.Kind4.{Kind4}
use Rattle.types.specs.Kind4.{code_of_kind}
use Rattle.wire.specs.Bytes.{AreBytes}
use Rattle.v4_options.specs.Codes.{MESSAGE_TYPE}
use Rattle.v4_options.specs.Spelling.{look_up}
use Rattle.v4_message.specs.Header.{header_at}
use Rattle.v4_message.specs.Spelling.{IsValid, HasCookie, IsEthernet}

-- The bytes have an Ethernet header, the cookie and these options, which make a valid message, and option 53
-- is this type.
pub record IsRead (bytes : List ℕ) (options : List (ℕ × List ℕ)) (kind : Kind4) : Type 0 where
  pub fits : AreBytes bytes
  pub long : 240 ≤ length bytes
  pub cookie : HasCookie bytes
  pub ethernet : IsEthernet bytes
  pub valid : IsValid (record { header = header_at bytes; options = options })
  pub kind_is : look_up MESSAGE_TYPE options ≡ Some (code_of_kind kind ∷ [])
