-- Reading returns a relay message exactly where the bytes spell it, and a fault exactly where they have
-- it.
use Rattle.std.proofs.Common.{◌≡◌, ℕ, ◌+◌, ◌<◌, ◌≤◌, Bool, true, false, cond, leb, List, [], ◌∷◌, ◌++◌, length, take, drop, get_or, Option, Some, None, Result, Ok, Err, refl, sym, ap, ◌∙◌, arith, append_assoc}
use Rattle.std.specs.Prelude.{◌↔◌}
use Rattle.std.proofs.lemmas.Bool.{le-leb, lt-leb, leb-true, leb-false}
use Rattle.std.proofs.lemmas.List.{take_at, drop_at, take-append-drop, drop-drop, length-append, length-take-le, length-drop, get_or-drop}
use Rattle.v6_options.specs.Spelling.{spelling, Spells}
use Rattle.v6_options.specs.Reading.{listed, options_of}
use Rattle.v6_options.proofs.Results.{one_ok, one_err, ok_or_err}
use Rattle.v6_message.specs.declared.fault.RelayFault.{RelayFault}
use Rattle.v6_message.specs.declared.fault.RelayFault.TheVariants.{Short, Cut, Twice}
use Rattle.v6_message.specs.declared.scan.Sender.TheVariants.{Relay}
use Rattle.v6_message.specs.declared.scan.ListFault.{ListFault}
use Rattle.v6_message.specs.declared.scan.ListFault.TheVariants as list_faults
use Rattle.wire.specs.Part.{part}
use Rattle.v6_message.specs.Reading.{first_fault}
use Rattle.v6_message.specs.Relay.{RelayValue, SpellsRelay, FailsRelay, relay_header, relay_bytes}
use Rattle.v6_message.specs.RelayReading.{IsRead, relay_at, relay_or, relay_of}
use Rattle.v6_message.proofs.Fronts.{AreDecided}
use Rattle.v6_message.proofs.Lists.{Is, right, options_are, spells_none, fails_some, listed_spells, first_fault_is}

-- A relay's options are all formed.
decided : (list : List (ℕ × List ℕ)) → AreDecided Relay list
decided [] = tt
decided (o ∷ os) = ((λ e. tt, λ p. refl), decided os)

-- ---- the header

-- Bytes that begin with a header have its fields.
record Begins (bytes : List ℕ) (kind hops : ℕ) (link peer tail : List ℕ) : Type 0 where
  long : 34 ≤ length bytes
  kind_is : get_or bytes 0 0 ≡ kind
  hops_is : get_or bytes 1 0 ≡ hops
  link_is : part bytes 2 16 ≡ link
  peer_is : part bytes 18 16 ≡ peer
  behind : drop 34 bytes ≡ tail

begins : (bytes : List ℕ) (kind hops : ℕ) (link peer tail : List ℕ) → length link ≡ 16 → length peer ≡ 16 → bytes ≡ relay_header kind hops link peer ++ tail → Begins bytes kind hops link peer tail
begins bytes kind hops link peer tail l p whole =
    let all : bytes ≡ kind ∷ hops ∷ link ++ (peer ++ tail) = whole ∙ ap (λ (t : List ℕ). kind ∷ hops ∷ t) (append_assoc link peer tail) in
    let behind_link : drop 18 bytes ≡ peer ++ tail = ap (drop 18) all ∙ drop_at link (peer ++ tail) 16 l in
    record {
      long = omega (arith, ap length all, length-append link (peer ++ tail), length-append peer tail, l, p);
      kind_is = ap (λ (t : List ℕ). get_or t 0 0) all;
      hops_is = ap (λ (t : List ℕ). get_or t 1 0) all;
      link_is = ap (λ (t : List ℕ). part t 2 16) all ∙ take_at link (peer ++ tail) 16 l;
      peer_is = ap (take 16) behind_link ∙ take_at peer tail 16 p;
      behind = sym (drop-drop 16 18 bytes) ∙ ap (drop 16) behind_link ∙ drop_at peer tail 16 p;
    }

-- The bytes of a header are its fields'.
header_is : (bytes : List ℕ) → 34 ≤ length bytes → bytes ≡ relay_header (get_or bytes 0 0) (get_or bytes 1 0) (part bytes 2 16) (part bytes 18 16) ++ drop 34 bytes
header_is [] h = absurd (omega (arith, h))
header_is (a ∷ []) h = absurd (omega (arith, h))
header_is (a ∷ b ∷ more) h =
    let bytes = a ∷ b ∷ more in
    let link = take 16 more in
    let peer = take 16 (drop 16 more) in
    let first : more ≡ link ++ drop 16 more = sym (take-append-drop 16 more) in
    let second : drop 16 more ≡ peer ++ drop 16 (drop 16 more) = sym (take-append-drop 16 (drop 16 more)) in
    let third : drop 16 (drop 16 more) ≡ drop 32 more = drop-drop 16 16 more in
    ap (λ (t : List ℕ). a ∷ b ∷ t) (first ∙ ap (λ (t : List ℕ). link ++ t) (second ∙ ap (λ (t : List ℕ). peer ++ t) third) ∙ sym (append_assoc link peer (drop 32 more)))

part_len : (bytes : List ℕ) (at len : ℕ) → at + len ≤ length bytes → length (part bytes at len) ≡ len
part_len bytes at len h = length-take-le len (drop at bytes) (omega (arith, length-drop at bytes, h))

-- ---- from bytes to the result

abbrev IsRelay : List ℕ → Result RelayValue RelayFault → Type 0
IsRelay bytes (Ok m) = SpellsRelay bytes m
IsRelay bytes (Err fault) = FailsRelay fault bytes

by_fault : (bytes : List ℕ) (found : Option ListFault) → 34 ≤ length bytes → Is Relay (drop 34 bytes) found → IsRelay bytes (relay_or found bytes)
by_fault bytes None long h = record {
  whole = header_is bytes long ∙ ap (λ (t : List ℕ). relay_header (get_or bytes 0 0) (get_or bytes 1 0) (part bytes 2 16) (part bytes 18 16) ++ t) h.0.whole;
  link = part_len bytes 2 16 (omega (arith, long));
  peer = part_len bytes 18 16 (omega (arith, long));
  options = h.0.options;
  allowed = h.1;
}
by_fault bytes (Some list_faults.Cut) long h = (long, h)
by_fault bytes (Some list_faults.Twice) long h = (long, h)

drop_small : (n : ℕ) (bytes : List ℕ) → ((i : ℕ) → get_or bytes i 0 < 256) → (i : ℕ) → get_or (drop n bytes) i 0 < 256
drop_small n bytes small i = rw (get_or-drop n bytes i 0) (small (n + i))

by_length : (bytes : List ℕ) (b : Bool) → ((i : ℕ) → get_or bytes i 0 < 256) → leb 34 (length bytes) ≡ b → IsRelay bytes (cond b (relay_or (first_fault Relay (drop 34 bytes)) bytes) (Err Short))
by_length bytes true small e = by_fault bytes (first_fault Relay (drop 34 bytes)) (leb-true 34 (length bytes) e) (first_fault_is Relay (drop 34 bytes) (drop_small 34 bytes small) (decided (listed (drop 34 bytes))))
by_length bytes false small e = leb-false 34 (length bytes) e

pub read_is : (bytes : List ℕ) → ((i : ℕ) → get_or bytes i 0 < 256) → IsRelay bytes (relay_of bytes)
read_is bytes small = by_length bytes (leb 34 (length bytes)) small refl

-- ---- from what bytes spell to the result

abbrev ok : RelayValue → Result RelayValue RelayFault
ok m = Ok m

abbrev err : RelayFault → Result RelayValue RelayFault
err fault = Err fault

pub read_spells : (bytes : List ℕ) (m : RelayValue) → SpellsRelay bytes m → relay_of bytes ≡ ok m
read_spells bytes m s =
    let b = begins bytes m.kind m.hop_count m.link_address m.peer_address (spelling m.options) s.link s.peer s.whole in
    let tail : Spells (drop 34 bytes) m.options = record { whole = b.behind; options = s.options } in
    let fault = spells_none Relay (drop 34 bytes) m.options tail s.allowed (decided m.options) in
    let options : listed (drop 34 bytes) ≡ m.options = listed_spells (drop 34 bytes) m.options tail in
    let here : relay_at bytes m.options ≡ m = λ i. record { kind = b.kind_is i; hop_count = b.hops_is i; link_address = b.link_is i; peer_address = b.peer_is i; options = m.options } in
    rw (le-leb 34 (length bytes) b.long, fault, options, here) refl

pub read_fails : (bytes : List ℕ) (fault : RelayFault) → FailsRelay fault bytes → relay_of bytes ≡ err fault
read_fails bytes Short f = rw (lt-leb 34 (length bytes) f) refl
read_fails bytes Cut f = rw (le-leb 34 (length bytes) f.0, fails_some Relay (drop 34 bytes) list_faults.Cut (decided (listed (drop 34 bytes))) f.1) refl
read_fails bytes Twice f = rw (le-leb 34 (length bytes) f.0, fails_some Relay (drop 34 bytes) list_faults.Twice (decided (listed (drop 34 bytes))) f.1) refl

-- ---- what is known of a relay message that was read

abbrev none : Option ListFault
none = None

known_at : (bytes : List ℕ) (options : List (ℕ × List ℕ)) → ((i : ℕ) → get_or bytes i 0 < 256) → 34 ≤ length bytes → first_fault Relay (drop 34 bytes) ≡ none
    → right options ≡ options_of (drop 34 bytes) → IsRead bytes options
known_at bytes options small long h e = record { long = long; spelled = rw all at (read_is bytes small) } where
  all : relay_of bytes ≡ ok (relay_at bytes options)
  all = rw (le-leb 34 (length bytes) long, h, ← options_are Relay (drop 34 bytes) options h e) refl

pub known : (bytes tail : List ℕ) (options : List (ℕ × List ℕ)) → ((i : ℕ) → get_or bytes i 0 < 256) → 34 ≤ length bytes → tail ≡ drop 34 bytes → first_fault Relay tail ≡ none
    → right options ≡ options_of tail → IsRead bytes options
known bytes tail options small long behind h e = known_at bytes options small long (rw behind at h) (rw behind at e)

-- What was read spells itself once more, and reads back as the same.
pub written : (bytes : List ℕ) (m : RelayValue) → SpellsRelay bytes m → SpellsRelay (relay_bytes m) m
written bytes m s = record { whole = refl; link = s.link; peer = s.peer; options = s.options; allowed = s.allowed }

pub read_again : (bytes : List ℕ) (m : RelayValue) → SpellsRelay bytes m → relay_of (relay_bytes m) ≡ ok m
read_again bytes m s = read_spells (relay_bytes m) m (written bytes m s)

-- ---- both ways

pub spelled : (bytes : List ℕ) → ((i : ℕ) → get_or bytes i 0 < 256) → (m : RelayValue) → relay_of bytes ≡ ok m ↔ SpellsRelay bytes m
spelled bytes small m = (λ e. rw e at (read_is bytes small), read_spells bytes m)

pub fails : (bytes : List ℕ) → ((i : ℕ) → get_or bytes i 0 < 256) → (fault : RelayFault) → relay_of bytes ≡ err fault ↔ FailsRelay fault bytes
fails bytes small fault = (λ e. rw e at (read_is bytes small), read_fails bytes fault)

pub one_message : (bytes : List ℕ) (a b : RelayValue) → SpellsRelay bytes a → SpellsRelay bytes b → a ≡ b
one_message bytes a b p q = one_ok (relay_of bytes) a b (read_spells bytes a p) (read_spells bytes b q)

pub one_fault : (bytes : List ℕ) (a b : RelayFault) → FailsRelay a bytes → FailsRelay b bytes → a ≡ b
one_fault bytes a b p q = one_err (relay_of bytes) a b (read_fails bytes a p) (read_fails bytes b q)

pub never_both : (bytes : List ℕ) (m : RelayValue) (fault : RelayFault) → SpellsRelay bytes m → FailsRelay fault bytes → ⊥
never_both bytes m fault p q = ok_or_err (relay_of bytes) m fault (read_spells bytes m p) (read_fails bytes fault q)
