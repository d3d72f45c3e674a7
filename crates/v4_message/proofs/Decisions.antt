-- The tests of reading, and the facts that they decide.
use Rattle.std.proofs.Common.{◌≡◌, ℕ, ◌≤◌, Bool, true, false, cond, ◌&&◌, leb, List, [], ◌∷◌, length, get_or, Option, Some, None, refl, arith}
use Rattle.std.specs.Prelude.{IfSome, is_some, is_none, ◌==◌, ◌||◌}
use Rattle.std.specs.Bool.{Decides}
use Rattle.std.proofs.lemmas.Bool.{leb-true, le-leb}
use Rattle.std.proofs.lemmas.Bool.Decides.{Decides-eqb, Decides-and, Decides-or, Decides-like}
use Rattle.std.proofs.lemmas.Slice.Eq.{bytes_eq-Decides}
use Rattle.v4_options.specs.Codes.{REQUESTED_ADDRESS, OPTION_OVERLOAD, MESSAGE_TYPE, SERVER_IDENTIFIER}
use Rattle.v4_options.specs.Spelling.{look_up}
use Rattle.v4_message.specs.Layout.{MAGIC_COOKIE}
use Rattle.wire.specs.Part.{part}
use Rattle.v4_message.specs.Spelling.{IsOp, HasKind, AreAllowed, HasCookie, IsEthernet}
use Rattle.v4_message.specs.Reading.{has_cookie, is_ethernet, may_be_addr, are_allowed, kind_in}

pub refused : {P : Type 0} (test : Bool) → Decides test P → (P → ⊥) → test ≡ false
refused true d denied = absurd (denied (d.0 refl))
refused false d denied = refl

Decides-leb : (a b : ℕ) → Decides (leb a b) (a ≤ b)
Decides-leb a b = (leb-true a b, le-leb a b)

pub cookie : (bytes : List ℕ) → Decides (has_cookie bytes) (HasCookie bytes)
cookie bytes = bytes_eq-Decides (part bytes 236 4) MAGIC_COOKIE

pub ethernet : (bytes : List ℕ) → Decides (is_ethernet bytes) (IsEthernet bytes)
ethernet bytes = Decides-and _ _ (Decides-eqb (get_or bytes 1 0) 1) (Decides-eqb (get_or bytes 2 0) 6)

absent : (found : Option (List ℕ)) → Decides (is_none found) (found ≡ None)
absent None = (λ e. refl, λ e. refl)
absent (Some value) = (λ e. absurd cc, λ e. absurd cc)

addr : (found : Option (List ℕ)) → Decides (may_be_addr found) (IfSome found (λ value. length value ≡ 4))
addr None = (λ e. tt, λ e. refl)
addr (Some value) = Decides-eqb (length value) 4

pub allowed : (list : List (ℕ × List ℕ)) → Decides (are_allowed list) (AreAllowed list)
allowed list =
    Decides-like (are_allowed list)
    (λ h. record { overload = h.0; requested = h.1.0; server = h.1.1 })
    (λ a. (a.overload, (a.requested, a.server)))
    (Decides-and _ _ (absent (look_up OPTION_OVERLOAD list)) (Decides-and _ _ (addr (look_up REQUESTED_ADDRESS list)) (addr (look_up SERVER_IDENTIFIER list))))

pub op : (n : ℕ) → Decides (n == 1 || n == 2) (IsOp n)
op n = Decides-or _ _ (Decides-eqb n 1) (Decides-eqb n 2)

abbrev KindIs : Option (List ℕ) → Type 0
KindIs found = (code : ℕ) × (found ≡ Some (code ∷ [])) × (1 ≤ code) × (code ≤ 8)

one_byte : (code : ℕ) (b : Bool) → Decides b ((1 ≤ code) × (code ≤ 8)) → Decides (is_some (cond b (Some code) None)) (KindIs (Some (code ∷ [])))
one_byte code true d = (λ e. (code, refl, (d.0 refl).0, (d.0 refl).1), λ h. refl)
one_byte code false d = (
  λ e. absurd cc,
  λ h.
      let same : code ≡ h.0 = cc (h.1) in
      d.1 (omega (arith, h.2, same), omega (arith, h.3, same)),
)

kind_is : (found : Option (List ℕ)) → Decides (is_some (kind_in found)) (KindIs found)
kind_is None = (λ e. absurd cc, λ h. absurd (cc h.1))
kind_is (Some []) = (λ e. absurd cc, λ h. absurd (cc h.1))
kind_is (Some (code ∷ [])) = one_byte code (leb 1 code && leb code 8) (Decides-and _ _ (Decides-leb 1 code) (Decides-leb code 8))
kind_is (Some (code ∷ other ∷ more)) = (λ e. absurd cc, λ h. absurd (cc h.1))

pub kind : (list : List (ℕ × List ℕ)) → Decides (is_some (kind_in (look_up MESSAGE_TYPE list))) (HasKind list)
kind list = kind_is (look_up MESSAGE_TYPE list)

byte_found : (c code : ℕ) (b : Bool) → Decides b ((1 ≤ c) × (c ≤ 8)) → cond b (Some c) None ≡ Some code → KindIs (Some (c ∷ [])) × (c ≡ code)
byte_found c code true d e = ((c, refl, (d.0 refl).0, (d.0 refl).1), cc)
byte_found c code false d e = absurd cc

-- The message type is the one byte of option 53.
pub kind_found : (found : Option (List ℕ)) (code : ℕ) → kind_in found ≡ Some code → KindIs found × (found ≡ Some (code ∷ []))
kind_found None code e = absurd cc
kind_found (Some []) code e = absurd cc
kind_found (Some (c ∷ [])) code e =
    let h = byte_found c code (leb 1 c && leb c 8) (Decides-and _ _ (Decides-leb 1 c) (Decides-leb c 8)) e in
    let same : c ≡ code = h.1 in
    (h.0, cc)
kind_found (Some (c ∷ other ∷ more)) code e = absurd cc
