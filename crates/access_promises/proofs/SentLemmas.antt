-- What a DHCPv4 message grants depends on whether its reply leaves, and on nothing else of that.
use Rattle.std.proofs.Common.{◌≡◌, ℕ, Bool, true, false, List, [], ◌∷◌, ◌++◌}
use Rattle.std.specs.Prelude.{Option, Some, None, Result, Ok, Err, if◌then◌else◌}
use Rattle.std.specs.FinMap.{get}
use Rattle.types.specs.declared.discard.Discard.{Discard}
use Rattle.types.specs.declared.kind4.Kind4.{Kind4}
use Rattle.types.specs.declared.kind4.Kind4.TheVariants.{Discover, Offer, Request, Decline, Ack, Nak, Release, Inform}
use Rattle.exchange.specs.declared.request4.Request4.{Request4}
use Rattle.v4_message.specs.declared.fault.MessageFault.{MessageFault}
use Rattle.v4_message.specs.Spelling.{MessageValue}
use Rattle.slots.specs.Maps.{Lease}
use Rattle.bindings_v4.specs.Table4.{answer4}
use Rattle.config.specs.CircuitPart.{CircuitPart, pool4_of}
use Rattle.requests.specs.Request4.{request4_in}
use Rattle.circuit_server.specs.Server.{Book}
use Rattle.world.specs.Alone.{Effect}
use Rattle.promises.specs.Granted.{Grant, Granted4, Line, ended4, granted4, is_sent, message4_lines, request4_lines}

ends_only : (kept : Bool) (kind : Kind4) (client : List ℕ) (lease : Option Lease) (g : Grant (List ℕ)) (more : List Line) → (if kept then ended4 kind client lease else []) ≡ Granted4 g ∷ more → ⊥
ends_only false kind client lease g more same = absurd cc
ends_only true Decline client None g more same = absurd cc
ends_only true Decline client (Some l) g more same = absurd cc
ends_only true Release client None g more same = absurd cc
ends_only true Release client (Some l) g more same = absurd cc
ends_only true Discover client lease g more same = absurd cc
ends_only true Offer client lease g more same = absurd cc
ends_only true Request client lease g more same = absurd cc
ends_only true Ack client lease g more same = absurd cc
ends_only true Nak client lease g more same = absurd cc
ends_only true Inform client lease g more same = absurd cc

-- by whether it leaves
either_line : (sent leaves : Bool) (own ends : List Line) (g : Grant (List ℕ)) (more : List Line) → leaves ≡ true → (ends ≡ Granted4 g ∷ more → ⊥)
    → (if sent then own else []) ++ ends ≡ Granted4 g ∷ more → (if leaves then own else []) ++ ends ≡ Granted4 g ∷ more
either_line true true own ends g more leaves never same = same
either_line false true own ends g more leaves never same = absurd (never same)
either_line sent false own ends g more leaves never same = absurd cc

pub grants_sent : (part : CircuitPart) (e f : Effect) (b : Book) (message : Result MessageValue MessageFault) (g : Grant (List ℕ)) (more : List Line) → is_sent f ≡ true
    → message4_lines part e b message ≡ Granted4 g ∷ more → message4_lines part f b message ≡ Granted4 g ∷ more
grants_sent part e f b (Err fault) g more leaves same = absurd cc
grants_sent part e f b (Ok m) g more leaves same = by (request4_in m) same where
  by : (request : Result Request4 Discard) → request4_lines part e b request ≡ Granted4 g ∷ more → request4_lines part f b request ≡ Granted4 g ∷ more
  by (Err why) same = absurd cc
  by (Ok q) same =
      let d = answer4 (pool4_of part) b.clock b.four q in
      either_line (is_sent e) (is_sent f) (granted4 part q.key b.clock d.answer) (if d.is_kept then ended4 q.kind q.key (get b.four.bindings q.key) else []) g more leaves
      (ends_only d.is_kept q.kind q.key (get b.four.bindings q.key) g more) same
