-- The value of option 53 that each message type has (RFC 2132, section 9.6).
use Rattle.std.specs.Prelude.{ℕ, Option, Some, None, ◌==◌, if◌then◌else◌}
use Rattle.types.specs.declared.kind4.Kind4.{Kind4}
use Rattle.types.specs.declared.kind4.Kind4.TheVariants.{Discover, Offer, Request, Decline, Ack, Nak, Release, Inform}

abbrev pub code_of_kind : Kind4 → ℕ
code_of_kind Discover = 1
code_of_kind Offer = 2
code_of_kind Request = 3
code_of_kind Decline = 4
code_of_kind Ack = 5
code_of_kind Nak = 6
code_of_kind Release = 7
code_of_kind Inform = 8

-- the message type of a value; None where no type has it
abbrev pub kind_of_code : ℕ → Option Kind4
kind_of_code n =
    if n == 1 then Some Discover
    else if n == 2 then Some Offer
    else if n == 3 then Some Request
    else if n == 4 then Some Decline
    else if n == 5 then Some Ack
    else if n == 6 then Some Nak
    else if n == 7 then Some Release
    else if n == 8 then Some Inform
    else None
