-- The first byte of each message that a DHCPv6 client sends about its addresses (RFC 8415, section 7.3).
use Rattle.std.specs.Prelude.{ℕ, Option, Some, None, ◌==◌, if◌then◌else◌}
use Rattle.types.specs.declared.kind6.Kind6.{Kind6}
use Rattle.types.specs.declared.kind6.Kind6.TheVariants.{Solicit, Request, Confirm, Renew, Rebind, Release, Decline}

abbrev pub code_of_kind6 : Kind6 → ℕ
code_of_kind6 Solicit = 1
code_of_kind6 Request = 3
code_of_kind6 Confirm = 4
code_of_kind6 Renew = 5
code_of_kind6 Rebind = 6
code_of_kind6 Release = 8
code_of_kind6 Decline = 9

-- the message type of a first byte; None for every other type
abbrev pub kind6_of_code : ℕ → Option Kind6
kind6_of_code n =
    if n == 1 then Some Solicit
    else if n == 3 then Some Request
    else if n == 4 then Some Confirm
    else if n == 5 then Some Renew
    else if n == 6 then Some Rebind
    else if n == 8 then Some Release
    else if n == 9 then Some Decline
    else None
