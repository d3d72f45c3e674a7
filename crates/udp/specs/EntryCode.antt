-- How the logic stores what happened at the sockets. Nothing of it has to be believed.
use Rattle.std.specs.Prelude.{◌≡◌, ℕ, Bool, true, false, cond, ◌==◌, List, [], Option, Some, None, refl}
use Rattle.std.specs.Coded.{Coded, code_by, coded_ℕ, coded_bool, coded_list, coded×}
use mathlib.Core.Path.{ap}
use Rattle.types.specs.declared.addr.Source.{Source}
use Rattle.types.specs.declared.dest.Proto.TheVariants.{V4, V6}
use Rattle.udp.specs.declared.history.Role.{Role}
use Rattle.udp.specs.declared.history.Role.TheVariants.{Circuit, Server, Relay}
use Rattle.udp.specs.History.{Entry, Took, Failed, Empty, Sent, Ticked, Refused, Read, Monotonic}

-- a socket, as two numbers
abbrev role_parts : Role → ℕ × ℕ
role_parts (Circuit c V4) = (0, c)
role_parts (Circuit c V6) = (1, c)
role_parts (Server V4) = (2, 0)
role_parts (Server V6) = (3, 0)
role_parts (Relay r) = (4, r)

abbrev role_of : ℕ × ℕ → Role
role_of p = cond (p.0 == 0) (Circuit p.1 V4) (cond (p.0 == 1) (Circuit p.1 V6) (cond (p.0 == 2) (Server V4) (cond (p.0 == 3) (Server V6) (Relay p.1))))

role_back : (role : Role) → role_of (role_parts role) ≡ role
role_back (Circuit c V4) = refl
role_back (Circuit c V6) = refl
role_back (Server V4) = refl
role_back (Server V6) = refl
role_back (Relay r) = refl

abbrev source_parts : Source → List ℕ × ℕ
source_parts s = (s.addr.0, s.port)

abbrev source_of : List ℕ × ℕ → Source
source_of p = record { addr = record { 0 = p.0 }; port = p.1 }

abbrev none : Source
none = source_of ([], 0)

-- a reading, as whether there is one, and which
abbrev reading_of : Bool → ℕ → Option ℕ
reading_of is_read time = cond is_read (Some time) None

-- which of the eight it is, its socket, the other end, the bytes, and whether they were accepted
abbrev Parts : Type 0
Parts = ℕ × ((ℕ × ℕ) × ((List ℕ × ℕ) × (List ℕ × Bool)))

abbrev entry_parts : Entry → Parts
entry_parts (Took socket from bytes) = (0, (role_parts socket, (source_parts from, (bytes, false))))
entry_parts (Failed socket) = (1, (role_parts socket, (source_parts none, ([], false))))
entry_parts (Sent socket to bytes accepted) = (2, (role_parts socket, (source_parts to, (bytes, accepted))))
entry_parts (Ticked now) = (3, ((0, now), (source_parts none, ([], false))))
entry_parts (Refused socket at) = (4, (role_parts socket, (source_parts at, ([], false))))
entry_parts (Read None) = (5, ((0, 0), (source_parts none, ([], false))))
entry_parts (Read (Some time)) = (5, ((0, time), (source_parts none, ([], true))))
entry_parts (Empty socket) = (6, (role_parts socket, (source_parts none, ([], false))))
entry_parts (Monotonic None) = (7, ((0, 0), (source_parts none, ([], false))))
entry_parts (Monotonic (Some time)) = (7, ((0, time), (source_parts none, ([], true))))

abbrev entry_of : Parts → Entry
entry_of p =
    cond (p.0 == 0) (Took (role_of p.1.0) (source_of p.1.1.0) p.1.1.1.0)
    (cond (p.0 == 1) (Failed (role_of p.1.0))
    (cond (p.0 == 2) (Sent (role_of p.1.0) (source_of p.1.1.0) p.1.1.1.0 p.1.1.1.1)
    (cond (p.0 == 3) (Ticked p.1.0.1)
    (cond (p.0 == 4) (Refused (role_of p.1.0) (source_of p.1.1.0))
    (cond (p.0 == 5) (Read (reading_of p.1.1.1.1 p.1.0.1))
    (cond (p.0 == 6) (Empty (role_of p.1.0))
    (Monotonic (reading_of p.1.1.1.1 p.1.0.1))))))))

pub entry_back : (e : Entry) → entry_of (entry_parts e) ≡ e
entry_back (Took socket from bytes) = ap (λ role. Took role from bytes) (role_back socket)
entry_back (Failed socket) = ap Failed (role_back socket)
entry_back (Sent socket to bytes accepted) = ap (λ role. Sent role to bytes accepted) (role_back socket)
entry_back (Ticked now) = refl
entry_back (Refused socket at) = ap (λ role. Refused role at) (role_back socket)
entry_back (Read None) = refl
entry_back (Read (Some time)) = refl
entry_back (Empty socket) = ap Empty (role_back socket)
entry_back (Monotonic None) = refl
entry_back (Monotonic (Some time)) = refl

abbrev parts_code : Coded Parts
parts_code = coded× coded_ℕ (coded× (coded× coded_ℕ coded_ℕ) (coded× (coded× (coded_list coded_ℕ) coded_ℕ) (coded× (coded_list coded_ℕ) coded_bool)))

abbrev pub entries_code : Coded (List Entry)
entries_code = coded_list (code_by Parts parts_code entry_parts entry_of entry_back)
