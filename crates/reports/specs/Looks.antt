-- When circuits are looked at.
use Rattle.std.specs.Prelude.{ℕ, ◌==◌, ◌&&◌, Bool, true, false, not, nat_lt, if◌then◌else◌}
use Rattle.reports.specs.declared.looks.Looks.{Looks}
use Rattle.reports.specs.declared.looks.Scope.{Scope}
use Rattle.reports.specs.declared.looks.Scope.TheVariants.{All, WithTraffic, Nothing}

-- before the first look
abbrev pub no_look_yet : Bool → Looks
no_look_yet lists_leases = record { lists_leases = lists_leases; second = 0; received = 0 }

-- all circuits in each new second; in between those with traffic, where leases are listed and some datagram was received
abbrev pub scope_at : Looks → ℕ → ℕ → Scope
scope_at looks now received = if nat_lt looks.second now then All
    else (if looks.lists_leases && not (looks.received == received) then WithTraffic else Nothing)

-- whether a circuit is looked at, with or without traffic
abbrev pub includes : Scope → Bool → Bool
includes All has_traffic = true
includes WithTraffic has_traffic = has_traffic
includes Nothing has_traffic = false
