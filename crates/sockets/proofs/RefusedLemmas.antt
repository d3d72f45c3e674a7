-- A refused address, where nothing happened before it was refused.
use Rattle.std.proofs.Common.{◌≡◌, List, sym, subst}
use Rattle.types.specs.declared.addr.Source.{Source}
use Rattle.udp.specs.History.{Entry}
use Rattle.sockets.specs.Sockets.{Refuses, WasRefused}
use Rattle.sockets.specs.declared.sockets.SocketFault.{SocketFault}
use Rattle.sockets.specs.declared.sockets.SocketFault.TheVariants.{Memory, Bind}

-- one socket
pub refused_one : (Is : Source → Type 0) (at : Source) (old middle new : List Entry) (why : SocketFault) → Is at → middle ≡ old
    → Refuses (λ refused. (refused ≡ at) × WasRefused middle new at) why → Refuses (λ refused. Is refused × WasRefused old new refused) why
refused_one Is at old middle new Memory is silent refused = tt
refused_one Is at old middle new (Bind other) is silent (same, was) =
    subst (λ (a : Source). Is a × WasRefused old new a) (sym same) (is, subst (λ (m : List Entry). WasRefused m new at) silent was)

-- one of several
pub refused_some : (Was Is : Source → Type 0) (old middle new : List Entry) (why : SocketFault) → ((at : Source) → Was at → Is at) → middle ≡ old
    → Refuses (λ refused. Was refused × WasRefused middle new refused) why → Refuses (λ refused. Is refused × WasRefused old new refused) why
refused_some Was Is old middle new Memory more silent refused = tt
refused_some Was Is old middle new (Bind other) more silent (was, refused) = (more other was, subst (λ (m : List Entry). WasRefused m new other) silent refused)
