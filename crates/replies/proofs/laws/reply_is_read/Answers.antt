use Rattle.std.proofs.Common.{◌≡◌, ℕ, ◌<◌, ◌-◌, ◌^◌, false, eqb, List, [], ◌∷◌, ◌++◌, length, refl, sym, ap, subst, ◌∙◌, inr, arith}
use Rattle.std.specs.Prelude.{◌≢◌, Option, Some, None, IfSome, replicate}
use Rattle.std.proofs.lemmas.Nat.{or_lt}
use Rattle.types.specs.declared.addr.Addr4.{Addr4}
use Rattle.exchange.specs.declared.request4.Reply4.{Reply4}
use Rattle.exchange.specs.declared.request4.Reply4.TheVariants.{Offer, Ack, Inform, Nak}
use Rattle.v4_options.specs.Spelling.{look_up, AreOptions}
use Rattle.v4_message.specs.Header.{IsSized}
use Rattle.v4_message.specs.Reading.{message_of}
use Rattle.v4_message.specs.Spelling.{MessageValue, AreAllowed, HasKind, IsValid, message_bytes}
use Rattle.config.specs.CircuitPart.{CircuitPart, IsPart}
use Rattle.replies.specs.Reply4.{flags_in, ciaddr_in, yiaddr_in, reply_header, name_servers, echo, lease_options, inform_options, nak_options, reply_options, reply_message, reply4_bytes}
use Rattle.replies.proofs.laws.reply_is_read.Goals as goal

-- ---- the header

flags_fit : (request : MessageValue) (reply : Reply4) → request.header.flags < 2 ^ 16 → flags_in request reply < 2 ^ 16
flags_fit request (Offer address) h = h
flags_fit request (Ack address) h = h
flags_fit request Inform h = h
flags_fit request Nak h = or_lt 16 request.header.flags 32768 h (omega arith)

ciaddr_size : (request : MessageValue) (reply : Reply4) → length request.header.ciaddr ≡ 4 → length (ciaddr_in request reply) ≡ 4
ciaddr_size request (Offer address) h = refl
ciaddr_size request (Ack address) h = h
ciaddr_size request Inform h = h
ciaddr_size request Nak h = refl

sized : (request : MessageValue) (reply : Reply4) → IsSized request.header → length (yiaddr_in reply) ≡ 4 → IsSized (reply_header request reply)
sized request reply s address = record {
  xid = s.xid;
  secs = refl;
  flags = flags_fit request reply s.flags;
  ciaddr = ciaddr_size request reply s.ciaddr;
  yiaddr = address;
  siaddr = refl;
  giaddr = s.giaddr;
  chaddr = s.chaddr;
  sname = refl;
  file = refl;
}

-- ---- the last options: name servers and option 82, where they are there

abbrev last : List Addr4 → Option (List ℕ) → List (ℕ × List ℕ)
last dns information = name_servers dns ++ echo information

absent : (code : ℕ) → eqb 6 code ≡ false → eqb 82 code ≡ false → (dns : List Addr4) (information : Option (List ℕ)) → look_up code (last dns information) ≡ None
absent code six eighty_two [] None = refl
absent code six eighty_two [] (Some value) = rw eighty_two refl
absent code six eighty_two (address ∷ addresses) None = rw six refl
absent code six eighty_two (address ∷ addresses) (Some value) = rw (six, eighty_two) refl

-- neither the pad's code nor the end's
abbrev IsCode : ℕ → Type 0
IsCode code = (code ≢ 0) × (code ≢ 255)

is_code : (code : ℕ) → 0 < code → code < 255 → IsCode code
is_code code least most = (λ e. omega (arith, e, least), λ e. omega (arith, e, most))

is_53 : IsCode 53
is_53 = is_code 53 (omega arith) (omega arith)

is_54 : IsCode 54
is_54 = is_code 54 (omega arith) (omega arith)

is_51 : IsCode 51
is_51 = is_code 51 (omega arith) (omega arith)

is_58 : IsCode 58
is_58 = is_code 58 (omega arith) (omega arith)

is_59 : IsCode 59
is_59 = is_code 59 (omega arith) (omega arith)

is_1 : IsCode 1
is_1 = is_code 1 (omega arith) (omega arith)

is_3 : IsCode 3
is_3 = is_code 3 (omega arith) (omega arith)

is_6 : IsCode 6
is_6 = is_code 6 (omega arith) (omega arith)

is_82 : IsCode 82
is_82 = is_code 82 (omega arith) (omega arith)

last_are : (dns : List Addr4) (information : Option (List ℕ)) → AreOptions (last dns information)
last_are [] None = tt
last_are [] (Some value) = (is_82.0, is_82.1, refl, tt)
last_are (address ∷ addresses) None = (is_6.0, is_6.1, refl, tt)
last_are (address ∷ addresses) (Some value) = (is_6.0, is_6.1, refl, (is_82.0, is_82.1, refl, tt))

-- ---- all options

module _ (part : CircuitPart) (request : MessageValue) where
  new : (code : ℕ) → eqb 6 code ≡ false → eqb 82 code ≡ false → look_up code (last part.dns (look_up 82 request.options)) ≡ None
  new code six eighty_two = absent code six eighty_two part.dns (look_up 82 request.options)

  lease_are : (kind : ℕ) → AreOptions (lease_options kind part request)
  lease_are kind = (
    is_53.0,
    is_53.1,
    new 53 refl refl,
    (
      is_54.0,
      is_54.1,
      new 54 refl refl,
      (
        is_51.0,
        is_51.1,
        new 51 refl refl,
        (
          is_58.0,
          is_58.1,
          new 58 refl refl,
          (
            is_59.0,
            is_59.1,
            new 59 refl refl,
            (
              is_1.0,
              is_1.1,
              new 1 refl refl,
              (
                is_3.0,
                is_3.1,
                new 3 refl refl,
                last_are part.dns (look_up 82 request.options),
              ),
            ),
          ),
        ),
      ),
    ),
  )

  inform_are : AreOptions (inform_options part request)
  inform_are = (
    is_53.0,
    is_53.1,
    new 53 refl refl,
    (
      is_54.0,
      is_54.1,
      new 54 refl refl,
      (
        is_1.0,
        is_1.1,
        new 1 refl refl,
        (
          is_3.0,
          is_3.1,
          new 3 refl refl,
          last_are part.dns (look_up 82 request.options),
        ),
      ),
    ),
  )

  nak_are : AreOptions (nak_options part request)
  nak_are = (
    is_53.0,
    is_53.1,
    absent 53 refl refl [] (look_up 82 request.options),
    (
      is_54.0,
      is_54.1,
      absent 54 refl refl [] (look_up 82 request.options),
      last_are [] (look_up 82 request.options),
    ),
  )

  options_are : (reply : Reply4) → AreOptions (reply_options part request reply)
  options_are (Offer address) = lease_are 2
  options_are (Ack address) = lease_are 5
  options_are Inform = inform_are
  options_are Nak = nak_are

  -- no overload, no requested address, and the gateway as server identifier
  allowed : IsPart part → (list : List (ℕ × List ℕ)) → look_up 52 list ≡ None → look_up 50 list ≡ None → look_up 54 list ≡ Some part.gateway4.0 → AreAllowed list
  allowed sound list overload requested server = record {
    overload = overload;
    requested = subst (λ o. IfSome o (λ value. length value ≡ 4)) (sym requested) tt;
    server = subst (λ o. IfSome o (λ value. length value ≡ 4)) (sym server) sound.gateway4_size;
  }

  options_allowed : IsPart part → (reply : Reply4) → AreAllowed (reply_options part request reply)
  options_allowed sound (Offer address) = allowed sound (lease_options 2 part request) (new 52 refl refl) (new 50 refl refl) refl
  options_allowed sound (Ack address) = allowed sound (lease_options 5 part request) (new 52 refl refl) (new 50 refl refl) refl
  options_allowed sound Inform = allowed sound (inform_options part request) (new 52 refl refl) (new 50 refl refl) refl
  options_allowed sound Nak = allowed sound (nak_options part request) (absent 52 refl refl [] (look_up 82 request.options)) (absent 50 refl refl [] (look_up 82 request.options)) refl

  has_kind : (reply : Reply4) → HasKind (reply_options part request reply)
  has_kind (Offer address) = (2, refl, omega arith, omega arith)
  has_kind (Ack address) = (5, refl, omega arith, omega arith)
  has_kind Inform = (5, refl, omega arith, omega arith)
  has_kind Nak = (6, refl, omega arith, omega arith)

  valid : IsPart part → (reply : Reply4) → IsValid (reply_message part request reply)
  valid sound reply = record { op = inr refl; kind = has_kind reply; allowed = options_allowed sound reply }

bytes_are : (part : CircuitPart) (request : MessageValue) (reply : Reply4)
    → reply4_bytes part request reply ≡ message_bytes (reply_message part request reply) ++ replicate (300 - length (message_bytes (reply_message part request reply))) 0
unfolding reply4_bytes
bytes_are part request reply = refl

pub returns : goal.returns
returns c part request reply sound size address =
    ap message_of (bytes_are part request reply)
    ∙ c.written_is_read.ensures.read (reply_message part request reply) (replicate (300 - length (message_bytes (reply_message part request reply))) 0)
    (sized request reply size address) (valid part request sound reply) (options_are part request reply)
