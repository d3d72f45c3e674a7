-- Reading returns a message exactly where the bytes spell it, and a fault exactly where they have it.
use Rattle.std.proofs.Common.{◌≡◌, ℕ, ◌≤◌, Bool, true, false, cond, ◌&&◌, leb, List, ◌∷◌, ◌++◌, length, drop, get_or, Result, Ok, Err, refl, ap, ◌∙◌, append_assoc}
use Rattle.std.specs.Prelude.{◌↔◌, ◌==◌, ◌||◌, is_some}
use Rattle.std.specs.Bool.{Decides}
use Rattle.std.proofs.lemmas.Bool.{le-leb, lt-leb, leb-true, leb-false}
use Rattle.std.proofs.lemmas.Bool.Decides.{Decides-and}
use Rattle.wire.specs.Bytes.{AreBytes}
use Rattle.v4_options.specs.Codes.{END, MESSAGE_TYPE}
use Rattle.v4_options.specs.declared.fault.OptFault.{OptFault}
use Rattle.v4_options.specs.Spelling.{look_up, spelling, AreOptions}
use Rattle.v4_options.specs.Spelling as lists
use Rattle.v4_options.specs.Reading.{options_of}
use Rattle.v4_options.proofs.Exact as lists_exact
use Rattle.v4_options.proofs.Results.{one_ok, one_err, ok_or_err}
use Rattle.v4_message.specs.declared.fault.MessageFault.{MessageFault}
use Rattle.v4_message.specs.declared.fault.MessageFault.TheVariants.{Short, Cookie, Hardware, Options, Kind}
use Rattle.v4_message.specs.Header.{IsSized, header_at}
use Rattle.v4_message.specs.Spelling.{MessageValue, IsValid, IsOp, HasKind, AreAllowed, HasCookie, IsEthernet, HasOptions, Spells, Fails, message_bytes}
use Rattle.v4_message.specs.Reading.{has_cookie, is_ethernet, are_allowed, kind_in, with_options, message_of}
use Rattle.v4_message.proofs.Headers.{begins, sized_at, whole}
use Rattle.v4_message.proofs.Decisions.{refused, cookie, ethernet, allowed, op, kind}

-- ---- from bytes to the result

abbrev Is : List ℕ → Result MessageValue MessageFault → Type 0
Is bytes (Ok m) = Spells bytes m
Is bytes (Err fault) = Fails fault bytes

abbrev is_known : List ℕ → Bool
is_known bytes = get_or bytes 0 0 == 1 || get_or bytes 0 0 == 2

abbrev has_kind : List (ℕ × List ℕ) → Bool
has_kind list = is_some (kind_in (look_up MESSAGE_TYPE list))

abbrev message_at : List ℕ → List (ℕ × List ℕ) → MessageValue
message_at bytes list = record { header = header_at bytes; options = list }

-- The results of the first three tests.
record Head (bytes : List ℕ) : Type 0 where
  fits : AreBytes bytes
  long : 240 ≤ length bytes
  cookie : HasCookie bytes
  ethernet : IsEthernet bytes

by_kind : (bytes : List ℕ) (list : List (ℕ × List ℕ)) (b : Bool) → Head bytes → HasOptions bytes list → Decides b (IsOp (get_or bytes 0 0) × HasKind list) → Is bytes (cond b (Ok (message_at bytes list)) (Err Kind))
by_kind bytes list true h o d = record {
  tail = drop 240 bytes;
  whole = whole bytes h.fits h.long h.cookie h.ethernet;
  options = o.spelled;
  sized = sized_at bytes h.fits h.long;
  valid = record { op = (d.0 refl).0; kind = (d.0 refl).1; allowed = o.allowed };
}
by_kind bytes list false h o d = (h.long, h.cookie, h.ethernet, (list, o, λ p. absurd (cc (d.1 p))))

by_allowed : (bytes : List ℕ) (list : List (ℕ × List ℕ)) (b : Bool) → Head bytes → lists.Spells (drop 240 bytes) list → Decides b (AreAllowed list)
    → Is bytes (cond b (cond (is_known bytes && has_kind list) (Ok (message_at bytes list)) (Err Kind)) (Err Options))
by_allowed bytes list true h s d =
    by_kind bytes list (is_known bytes && has_kind list) h (record { spelled = s; allowed = d.0 refl }) (Decides-and _ _ (op (get_or bytes 0 0)) (kind list))
by_allowed bytes list false h s d = (
  h.long,
  h.cookie,
  h.ethernet,
  λ other o.
      let same = lists_exact.one_list (drop 240 bytes) other list o.spelled s in
      absurd (cc (d.1 (rw same at o.allowed))),
)

by_options : (bytes : List ℕ) (read : Result (List (ℕ × List ℕ)) OptFault) → Head bytes → options_of (drop 240 bytes) ≡ read → Is bytes (with_options bytes read)
by_options bytes (Ok list) h e = by_allowed bytes list (are_allowed list) h ((lists_exact.spelled (drop 240 bytes) list).0 e) (allowed list)
by_options bytes (Err fault) h e =
    (h.long, h.cookie, h.ethernet, λ list o. absurd (cc (e, lists_exact.read_spells (drop 240 bytes) list o.spelled)))

by_ethernet : (bytes : List ℕ) (b : Bool) → AreBytes bytes → 240 ≤ length bytes → HasCookie bytes → Decides b (IsEthernet bytes) → Is bytes (cond b (with_options bytes (options_of (drop 240 bytes))) (Err Hardware))
by_ethernet bytes true fits long has d = by_options bytes (options_of (drop 240 bytes)) (record { fits = fits; long = long; cookie = has; ethernet = d.0 refl }) refl
by_ethernet bytes false fits long has d = (long, has, λ p. absurd (cc (d.1 p)))

by_cookie : (bytes : List ℕ) (b : Bool) → AreBytes bytes → 240 ≤ length bytes → Decides b (HasCookie bytes)
    → Is bytes (cond b (cond (is_ethernet bytes) (with_options bytes (options_of (drop 240 bytes))) (Err Hardware)) (Err Cookie))
by_cookie bytes true fits long d = by_ethernet bytes (is_ethernet bytes) fits long (d.0 refl) (ethernet bytes)
by_cookie bytes false fits long d = (long, λ p. absurd (cc (d.1 p)))

by_length : (bytes : List ℕ) (b : Bool) → AreBytes bytes → leb 240 (length bytes) ≡ b
    → Is bytes (cond b (cond (has_cookie bytes) (cond (is_ethernet bytes) (with_options bytes (options_of (drop 240 bytes))) (Err Hardware)) (Err Cookie)) (Err Short))
by_length bytes true fits e = by_cookie bytes (has_cookie bytes) fits (leb-true 240 (length bytes) e) (cookie bytes)
by_length bytes false fits e = leb-false 240 (length bytes) e

pub read_is : (bytes : List ℕ) → AreBytes bytes → Is bytes (message_of bytes)
read_is bytes fits = by_length bytes (leb 240 (length bytes)) fits refl

-- ---- from what bytes spell to the result

pub read_spells : (bytes : List ℕ) (m : MessageValue) → Spells bytes m → message_of bytes ≡ Ok m
read_spells bytes m s =
    let b = begins bytes m.header s.tail s.sized s.whole in
    let options : options_of (drop 240 bytes) ≡ Ok m.options = ap options_of b.behind ∙ lists_exact.read_spells s.tail m.options s.options in
    let known : is_known bytes ≡ true = (op (get_or bytes 0 0)).1 (rw (ap (λ h. h.op) b.header) s.valid.op) in
    rw (le-leb 240 (length bytes) b.long, (cookie bytes).1 b.cookie, (ethernet bytes).1 b.ethernet, options, (allowed m.options).1 s.valid.allowed, known, (kind m.options).1 s.valid.kind, b.header) refl

pub read_fails : (bytes : List ℕ) (fault : MessageFault) → Fails fault bytes → message_of bytes ≡ Err fault
read_fails bytes Short f = rw (lt-leb 240 (length bytes) f) refl
read_fails bytes Cookie f = rw (le-leb 240 (length bytes) f.0, refused (has_cookie bytes) (cookie bytes) f.1) refl
read_fails bytes Hardware f = rw (le-leb 240 (length bytes) f.0, (cookie bytes).1 f.1, refused (is_ethernet bytes) (ethernet bytes) f.2) refl
read_fails bytes Options f = rw (le-leb 240 (length bytes) f.0, (cookie bytes).1 f.1, (ethernet bytes).1 f.2) (by_read (options_of (drop 240 bytes)) refl)
  where
    by_read : (read : Result (List (ℕ × List ℕ)) OptFault) → options_of (drop 240 bytes) ≡ read → with_options bytes read ≡ Err Options
    by_read (Ok list) e =
        let s = (lists_exact.spelled (drop 240 bytes) list).0 e in
        rw (refused (are_allowed list) (allowed list) (λ a. f.3 list (record { spelled = s; allowed = a }))) refl
    by_read (Err fault) e = refl
read_fails bytes Kind f =
    let list = f.3.0 in
    let o = f.3.1 in
    let options : options_of (drop 240 bytes) ≡ Ok list = lists_exact.read_spells (drop 240 bytes) list o.spelled in
    let neither : (is_known bytes && has_kind list) ≡ false = refused _ (Decides-and _ _ (op (get_or bytes 0 0)) (kind list)) f.3.2 in
    rw (le-leb 240 (length bytes) f.0, (cookie bytes).1 f.1, (ethernet bytes).1 f.2, options, (allowed list).1 o.allowed, neither) refl

-- ---- both ways

abbrev ok : MessageValue → Result MessageValue MessageFault
ok m = Ok m

abbrev err : MessageFault → Result MessageValue MessageFault
err fault = Err fault

pub spelled : (bytes : List ℕ) → AreBytes bytes → (m : MessageValue) → message_of bytes ≡ ok m ↔ Spells bytes m
spelled bytes fits m = (λ e. rw e at (read_is bytes fits), read_spells bytes m)

pub fails : (bytes : List ℕ) → AreBytes bytes → (fault : MessageFault) → message_of bytes ≡ err fault ↔ Fails fault bytes
fails bytes fits fault = (λ e. rw e at (read_is bytes fits), read_fails bytes fault)

pub one_message : (bytes : List ℕ) (a b : MessageValue) → Spells bytes a → Spells bytes b → a ≡ b
one_message bytes a b p q = one_ok (message_of bytes) a b (read_spells bytes a p) (read_spells bytes b q)

pub one_fault : (bytes : List ℕ) (a b : MessageFault) → Fails a bytes → Fails b bytes → a ≡ b
one_fault bytes a b p q = one_err (message_of bytes) a b (read_fails bytes a p) (read_fails bytes b q)

pub never_both : (bytes : List ℕ) (m : MessageValue) (fault : MessageFault) → Spells bytes m → Fails fault bytes → ⊥
never_both bytes m fault p q = ok_or_err (message_of bytes) m fault (read_spells bytes m p) (read_fails bytes fault q)

pub distinct : (bytes : List ℕ) (m : MessageValue) → Spells bytes m → AreOptions m.options
distinct bytes m s = lists_exact.spelled_distinct s.tail m.options s.options

-- ---- a message that was written

pub written_spells : (m : MessageValue) (rest : List ℕ) → IsSized m.header → IsValid m → AreOptions m.options → Spells (message_bytes m ++ rest) m
written_spells m rest sized valid distinct = record {
  tail = spelling m.options ++ END ∷ rest;
  whole = simp append_assoc;
  options = lists_exact.written_spells m.options rest distinct;
  sized = sized;
  valid = valid;
}

pub written_is_read : (m : MessageValue) (rest : List ℕ) → IsSized m.header → IsValid m → AreOptions m.options → message_of (message_bytes m ++ rest) ≡ ok m
written_is_read m rest sized valid distinct = read_spells (message_bytes m ++ rest) m (written_spells m rest sized valid distinct)
