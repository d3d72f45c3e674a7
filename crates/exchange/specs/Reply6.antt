-- The numbers of what a DHCPv6 server replies.
use Rattle.std.specs.Prelude.{ℕ}
use Rattle.exchange.specs.declared.request6.ReplyKind6.{ReplyKind6}
use Rattle.exchange.specs.declared.request6.ReplyKind6.TheVariants.{Advertise, Reply}
use Rattle.exchange.specs.declared.request6.Status6.{Status6}
use Rattle.exchange.specs.declared.request6.Status6.TheVariants.{Success, NoAddrsAvail, NoBinding, NotOnLink}

-- the first byte of a reply (RFC 8415, section 7.3)
abbrev pub code_of_reply6 : ReplyKind6 → ℕ
code_of_reply6 Advertise = 2
code_of_reply6 Reply = 7

-- the two bytes of a status (RFC 8415, section 21.13)
abbrev pub code_of_status6 : Status6 → ℕ
code_of_status6 Success = 0
code_of_status6 NoAddrsAvail = 2
code_of_status6 NoBinding = 3
code_of_status6 NotOnLink = 4
