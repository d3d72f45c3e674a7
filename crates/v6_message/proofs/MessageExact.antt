-- Reading returns a message exactly where the bytes spell it, and a fault exactly where they have it.
use Rattle.std.proofs.Common.{◌≡◌, ℕ, ◌≤◌, Bool, true, false, ◌||◌, cond, eqb, leb, List, [], ◌∷◌, ◌++◌, length, drop, get_or, Option, Some, None, Result, Ok, Err, refl, sym, ap, ◌∙◌, arith}
use Rattle.std.specs.Prelude.{◌↔◌}
use Rattle.std.proofs.lemmas.Bool.{le-leb, lt-leb, leb-true, leb-false, eqb-true}
use Rattle.std.proofs.lemmas.List.{take_at, drop_at, take-append-drop, length-append, length-take-le, length-drop}
use Rattle.std.specs.Option.{option_and_then}
use Rattle.v6_options.specs.Codes.{IA_NA, IA_ADDRESS}
use Rattle.v6_options.specs.Spelling.{spelling, look_up, AreOptions, Spells}
use Rattle.v6_options.specs.Reading.{listed, cut_from, options_of}
use Rattle.v6_options.proofs.Fronts.{AreSmall}
use Rattle.v6_message.specs.declared.fault.MessageFault.{MessageFault}
use Rattle.v6_message.specs.declared.fault.MessageFault.TheVariants.{Short, Cut, Twice, IaCount, AddrCount}
use Rattle.v6_message.specs.declared.scan.Sender.TheVariants.{Client}
use Rattle.v6_message.specs.declared.scan.ListFault.{ListFault}
use Rattle.v6_message.specs.declared.scan.ListFault.TheVariants as list_faults
use Rattle.wire.specs.Part.{part}
use Rattle.v6_message.specs.Layout.{IA_OPTIONS}
use Rattle.v6_message.specs.Lists.{count, first_code, second_code, IsIa, AreAllowed, AreFormed}
use Rattle.v6_message.specs.Reading.{is_formed, is_again, is_ia, fault_of, first_fault}
use Rattle.v6_options.proofs.Exact.{one_list}
use Rattle.v6_message.specs.Message.{MessageValue, HasIa, HasAtMost, HasOptions, SpellsMessage, IsReadable, FailsMessage, message_bytes}
use Rattle.v6_message.specs.Ia.{IaValue, ia_at, ia_of as read_ia}
use Rattle.v6_message.specs.MessageReading.{IsRead, message_at, with_ia, counted, message_or, message_of}
use Rattle.v6_message.proofs.Counts.{none_found, some_found}
use Rattle.v6_message.proofs.Decided.{all_decided, all_true, small_drop}
use Rattle.v6_message.proofs.Lists.{Is, right, options_are, allowed_none, fails_some, listed_spells, first_fault_is}

-- ---- the header

record Begins (bytes : List ℕ) (kind : ℕ) (id tail : List ℕ) : Type 0 where
  long : 4 ≤ length bytes
  kind_is : get_or bytes 0 0 ≡ kind
  id_is : part bytes 1 3 ≡ id
  behind : drop 4 bytes ≡ tail

begins : (bytes : List ℕ) (kind : ℕ) (id tail : List ℕ) → length id ≡ 3 → bytes ≡ kind ∷ id ++ tail → Begins bytes kind id tail
begins bytes kind id tail l all = record {
  long = omega (arith, ap length all, length-append id tail, l);
  kind_is = ap (λ (t : List ℕ). get_or t 0 0) all;
  id_is = ap (λ (t : List ℕ). part t 1 3) all ∙ take_at id tail 3 l;
  behind = ap (drop 4) all ∙ drop_at id tail 3 l;
}

header_is : (bytes : List ℕ) → 4 ≤ length bytes → bytes ≡ get_or bytes 0 0 ∷ part bytes 1 3 ++ drop 4 bytes
header_is [] h = absurd (omega (arith, h))
header_is (a ∷ more) h = ap (λ (t : List ℕ). a ∷ t) (sym (take-append-drop 3 more))

-- ---- the one IA_NA

ia_of : (list : List (ℕ × List ℕ)) (value : List ℕ) → AreFormed Client list → look_up IA_NA list ≡ Some value → IsIa value
ia_of [] value f h = absurd cc
ia_of (o ∷ os) value f h = by (eqb o.0 IA_NA) refl (ia_of os value f.1) h where
  by : (b : Bool) → eqb o.0 IA_NA ≡ b → (look_up IA_NA os ≡ Some value → IsIa value) → cond b (Some o.1) (look_up IA_NA os) ≡ Some value → IsIa value
  by true e r h =
      let same : o.1 ≡ value = cc in
      rw same at (f.0 (eqb-true o.0 IA_NA e))
  by false e r h = r h

-- The options in the one IA_NA are found in one way.
pub few_in : (list inside : List (ℕ × List ℕ)) → HasIa list inside → count IA_ADDRESS inside ≤ 4 → HasAtMost 5 list
few_in list inside i few value other found spelled =
    let same : value ≡ i.value = by (sym found ∙ i.found) in
    let behind : Spells (drop IA_OPTIONS i.value) other = rw same at spelled in
    omega (arith, few, ap (count IA_ADDRESS) (one_list (drop IA_OPTIONS i.value) other inside behind i.spelled))
  where
    by : Some value ≡ Some i.value → value ≡ i.value
    by e = cc

-- ---- from bytes to the result

abbrev IsMessage : List ℕ → Result MessageValue MessageFault → Type 0
IsMessage bytes (Ok m) = SpellsMessage bytes m × IsReadable m
IsMessage bytes (Err fault) = FailsMessage fault bytes

by_addresses : (bytes : List ℕ) (list inside : List (ℕ × List ℕ)) (b : Bool) → leb (count IA_ADDRESS inside) 4 ≡ b → HasOptions bytes list → HasIa list inside → IsMessage bytes (cond b (Ok (message_at bytes list)) (Err AddrCount))
by_addresses bytes list inside true e o i =
    let few = leb-true (count IA_ADDRESS inside) 4 e in (
      record {
        whole = header_is bytes o.long ∙ ap (λ (t : List ℕ). get_or bytes 0 0 ∷ part bytes 1 3 ++ t) o.spelled.whole;
        id = length-take-le 3 (drop 1 bytes) (omega (arith, length-drop 1 bytes, o.long));
        options = o.spelled.options;
        allowed = o.allowed;
        one = omega (arith, i.one);
        few = few_in list inside i few;
      },
      record { inside = inside; ia = i; few = few },
    )
by_addresses bytes list inside false e o i = (list, inside, o, i, leb-false (count IA_ADDRESS inside) 4 e)

by_ia : (bytes : List ℕ) (list : List (ℕ × List ℕ)) (found : Option (List ℕ)) → look_up IA_NA list ≡ found → count IA_NA list ≤ 1 → HasOptions bytes list → IsMessage bytes (with_ia found (message_at bytes list))
by_ia bytes list None e le o = (list, o, λ one. absurd (omega (arith, none_found IA_NA list e, one)))
by_ia bytes list (Some value) e le o =
    let i = ia_of list value o.allowed.formed e in
    let has : HasIa list i.list = record { one = omega (arith, some_found IA_NA list value e, le); value = value; found = e; spelled = i.spelled } in
    rw (listed_spells (drop IA_OPTIONS value) i.list i.spelled) (by_addresses bytes list i.list (leb (count IA_ADDRESS i.list) 4) refl o has)

by_count : (bytes : List ℕ) (list : List (ℕ × List ℕ)) (b : Bool) → leb (count IA_NA list) 1 ≡ b → HasOptions bytes list → IsMessage bytes (cond b (with_ia (look_up IA_NA list) (message_at bytes list)) (Err IaCount))
by_count bytes list true e o = by_ia bytes list (look_up IA_NA list) refl (leb-true (count IA_NA list) 1 e) o
by_count bytes list false e o = (list, o, λ one. absurd (omega (arith, leb-false (count IA_NA list) 1 e, one)))

by_fault : (bytes : List ℕ) (found : Option ListFault) → 4 ≤ length bytes → Is Client (drop 4 bytes) found → IsMessage bytes (message_or found bytes)
by_fault bytes None long h = by_count bytes (listed (drop 4 bytes)) (leb (count IA_NA (listed (drop 4 bytes))) 1) refl (record { long = long; spelled = h.0; allowed = h.1 })
by_fault bytes (Some list_faults.Cut) long h = (long, h)
by_fault bytes (Some list_faults.Twice) long h = (long, h)

by_length : (bytes : List ℕ) (b : Bool) → AreSmall bytes → leb 4 (length bytes) ≡ b → IsMessage bytes (cond b (message_or (first_fault Client (drop 4 bytes)) bytes) (Err Short))
by_length bytes true small e =
    let behind = small_drop 4 bytes small in
    by_fault bytes (first_fault Client (drop 4 bytes)) (leb-true 4 (length bytes) e) (first_fault_is Client (drop 4 bytes) behind (all_decided (drop 4 bytes) behind))
by_length bytes false small e = leb-false 4 (length bytes) e

pub read_is : (bytes : List ℕ) → AreSmall bytes → IsMessage bytes (message_of bytes)
read_is bytes small = by_length bytes (leb 4 (length bytes)) small refl

-- ---- from what bytes spell to the result

abbrev ok : MessageValue → Result MessageValue MessageFault
ok m = Ok m

abbrev err : MessageFault → Result MessageValue MessageFault
err fault = Err fault

-- Allowed options are counted.
to_counted : (bytes : List ℕ) (list : List (ℕ × List ℕ)) → HasOptions bytes list → message_of bytes ≡ counted (message_at bytes list)
to_counted bytes list o =
    rw (le-leb 4 (length bytes) o.long, allowed_none Client (drop 4 bytes) list o.spelled o.allowed (all_true list o.allowed.formed), listed_spells (drop 4 bytes) list o.spelled) refl

-- The fields of bytes that spell a message.
here : (bytes : List ℕ) (m : MessageValue) → SpellsMessage bytes m → Begins bytes m.kind m.transaction_id (spelling m.options)
here bytes m s = begins bytes m.kind m.transaction_id (spelling m.options) s.id s.whole

pub read_spells : (bytes : List ℕ) (m : MessageValue) → SpellsMessage bytes m → IsReadable m → message_of bytes ≡ ok m
read_spells bytes m s r =
    let b = here bytes m s in
    let o : HasOptions bytes m.options = record { long = b.long; spelled = record { whole = b.behind; options = s.options }; allowed = s.allowed } in
    let same : message_at bytes m.options ≡ m = λ i. record { kind = b.kind_is i; transaction_id = b.id_is i; options = m.options } in
    to_counted bytes m.options o
    ∙ rw (le-leb (count IA_NA m.options) 1 s.one, r.ia.found, listed_spells (drop IA_OPTIONS r.ia.value) r.inside r.ia.spelled, le-leb (count IA_ADDRESS r.inside) 4 r.few, same) refl

not_one : (list : List (ℕ × List ℕ)) (m : MessageValue) (b : Bool) (found : Option (List ℕ)) → (count IA_NA list ≡ 1 → ⊥) → leb (count IA_NA list) 1 ≡ b → look_up IA_NA list ≡ found → cond b (with_ia found m) (Err IaCount) ≡ err IaCount
not_one list m false found n e h = refl
not_one list m true None n e h = refl
not_one list m true (Some value) n e h = absurd (n (omega (arith, leb-true (count IA_NA list) 1 e, some_found IA_NA list value h)))

pub read_fails : (bytes : List ℕ) (fault : MessageFault) → AreSmall bytes → FailsMessage fault bytes → message_of bytes ≡ err fault
read_fails bytes Short small f = rw (lt-leb 4 (length bytes) f) refl
read_fails bytes Cut small f = rw (le-leb 4 (length bytes) f.0, fails_some Client (drop 4 bytes) list_faults.Cut (all_decided (drop 4 bytes) (small_drop 4 bytes small)) f.1) refl
read_fails bytes Twice small f = rw (le-leb 4 (length bytes) f.0, fails_some Client (drop 4 bytes) list_faults.Twice (all_decided (drop 4 bytes) (small_drop 4 bytes small)) f.1) refl
read_fails bytes IaCount small (list, o, n) =
    to_counted bytes list o ∙ not_one list (message_at bytes list) (leb (count IA_NA list) 1) (look_up IA_NA list) n refl refl
read_fails bytes AddrCount small (list, inside, o, i, many) =
    to_counted bytes list o
    ∙ rw (le-leb (count IA_NA list) 1 (omega (arith, i.one)), i.found, listed_spells (drop IA_OPTIONS i.value) inside i.spelled, lt-leb (count IA_ADDRESS inside) 4 many) refl

-- ---- both ways

pub spelled : (bytes : List ℕ) → AreSmall bytes → (m : MessageValue) → message_of bytes ≡ ok m ↔ (SpellsMessage bytes m × IsReadable m)
spelled bytes small m = (λ e. rw e at (read_is bytes small), λ p. read_spells bytes m p.0 p.1)

pub fails : (bytes : List ℕ) → AreSmall bytes → (fault : MessageFault) → message_of bytes ≡ err fault ↔ FailsMessage fault bytes
fails bytes small fault = (λ e. rw e at (read_is bytes small), read_fails bytes fault small)

pub one_message : (bytes : List ℕ) (a b : MessageValue) → SpellsMessage bytes a → SpellsMessage bytes b → a ≡ b
one_message bytes a b p q =
    let x = here bytes a p in
    let y = here bytes b q in
    let options : a.options ≡ b.options = one_list (drop 4 bytes) a.options b.options (record { whole = x.behind; options = p.options }) (record { whole = y.behind; options = q.options }) in
    λ i. record { kind = (sym x.kind_is ∙ y.kind_is) i; transaction_id = (sym x.id_is ∙ y.id_is) i; options = options i }

-- ---- what was written

-- What was read can be written.
pub few_addresses : (m : MessageValue) → IsReadable m → HasAtMost 5 m.options
few_addresses m r = few_in m.options r.inside r.ia r.few

pub again : (m : MessageValue) → SpellsMessage (message_bytes m) m → IsReadable m → message_of (message_bytes m) ≡ ok m
again m s r = read_spells (message_bytes m) m s r

pub read_again : (bytes : List ℕ) (m : MessageValue) → SpellsMessage bytes m → IsReadable m → message_of (message_bytes m) ≡ ok m
read_again bytes m s r = again m (record { whole = refl; id = s.id; options = s.options; allowed = s.allowed; one = s.one; few = s.few }) r

pub written : (bytes : List ℕ) (m : MessageValue) → SpellsMessage bytes m → SpellsMessage (message_bytes m) m
written bytes m s = record { whole = refl; id = s.id; options = s.options; allowed = s.allowed; one = s.one; few = s.few }

-- What was written reads back by its counts.
pub written_counted : (m : MessageValue) → length m.transaction_id ≡ 3 → AreOptions m.options → AreAllowed Client m.options → message_of (message_bytes m) ≡ counted m
written_counted m id options allowed =
    let b = begins (message_bytes m) m.kind m.transaction_id (spelling m.options) id refl in
    let o : HasOptions (message_bytes m) m.options = record { long = b.long; spelled = record { whole = b.behind; options = options }; allowed = allowed } in
    let same : message_at (message_bytes m) m.options ≡ m = λ i. record { kind = b.kind_is i; transaction_id = b.id_is i; options = m.options } in
    to_counted (message_bytes m) m.options o ∙ ap (λ (x : MessageValue). counted x) same

-- ---- the IA_NA of a message without a fault

abbrev none : Option ListFault
none = None

step : (p q : Bool) (rest : Option ListFault) → cond p (cond q (Some list_faults.Twice) rest) (Some list_faults.Cut) ≡ none → (p ≡ true) × (rest ≡ none)
step false q rest h = absurd cc
step true true rest h = absurd cc
step true false rest h = (refl, h)

pub ia_formed : (a b cut : Bool) (list : List (ℕ × List ℕ)) (value : List ℕ) → fault_of Client a b cut list ≡ none → look_up IA_NA list ≡ Some value → is_ia value ≡ true
ia_formed a b cut [] value h found = absurd cc
ia_formed a b cut (o ∷ os) value h found =
    let here = step (is_formed Client o.0 o.1) (is_again Client a b o.0) (fault_of Client (a || eqb o.0 (first_code Client)) (b || eqb o.0 (second_code Client)) cut os) h in
    by (eqb o.0 IA_NA) here.0 (ia_formed (a || eqb o.0 (first_code Client)) (b || eqb o.0 (second_code Client)) cut os value here.1) found
  where
    by : (c : Bool) → cond c (is_ia o.1) true ≡ true → (look_up IA_NA os ≡ Some value → is_ia value ≡ true) → cond c (Some o.1) (look_up IA_NA os) ≡ Some value → is_ia value ≡ true
    by true f r e =
        let same : o.1 ≡ value = cc in
        rw same at f
    by false f r e = r e

-- ---- what is known of a message that was read

formed_in : (tail : List ℕ) (options : List (ℕ × List ℕ)) (value : List ℕ) → first_fault Client tail ≡ none → right options ≡ options_of tail → look_up IA_NA options ≡ Some value → is_ia value ≡ true
formed_in tail options value h e found =
    ia_formed false false (cut_from 0 tail) (listed tail) value h (ap (look_up IA_NA) (sym (options_are Client tail options h e)) ∙ found)

pub never_none : (tail : List ℕ) (options : List (ℕ × List ℕ)) (value : List ℕ) → first_fault Client tail ≡ none → right options ≡ options_of tail → look_up IA_NA options ≡ Some value → None ≡ read_ia value → ⊥
never_none tail options value h e found n = by (rw (formed_in tail options value h e found) at n) where
  by : None ≡ Some (ia_at value (listed (drop IA_OPTIONS value))) → ⊥
  by e = absurd cc

known_at : (bytes : List ℕ) (options : List (ℕ × List ℕ)) (value : List ℕ) (ia : IaValue) → AreSmall bytes → 4 ≤ length bytes → first_fault Client (drop 4 bytes) ≡ none
    → right options ≡ options_of (drop 4 bytes) → leb (count IA_NA options) 1 ≡ true → look_up IA_NA options ≡ Some value → leb (count IA_ADDRESS (listed (drop IA_OPTIONS value))) 4 ≡ true
    → Some ia ≡ read_ia value → IsRead bytes options ia
known_at bytes options value ia small long h e one found few i = record {
  long = long;
  spelled = is.0;
  limits = is.1;
  found = ap (option_and_then read_ia) found ∙ sym i;
  few = rw inside (leb-true (count IA_ADDRESS (listed (drop IA_OPTIONS value))) 4 few);
}
  where
    all : message_of bytes ≡ ok (message_at bytes options)
    all = rw (le-leb 4 (length bytes) long, h, ← options_are Client (drop 4 bytes) options h e, one, found, few) refl

    is : SpellsMessage bytes (message_at bytes options) × IsReadable (message_at bytes options)
    is = rw all at (read_is bytes small)

    by : Some ia ≡ Some (ia_at value (listed (drop IA_OPTIONS value))) → ia.options ≡ listed (drop IA_OPTIONS value)
    by e =
        let same : ia ≡ ia_at value (listed (drop IA_OPTIONS value)) = cc in
        ap (λ (v : IaValue). v.options) same

    inside : ia.options ≡ listed (drop IA_OPTIONS value)
    inside = by (rw (formed_in (drop 4 bytes) options value h e found) at i)

pub known : (bytes tail : List ℕ) (options : List (ℕ × List ℕ)) (value : List ℕ) (ia : IaValue) → AreSmall bytes → 4 ≤ length bytes → tail ≡ drop 4 bytes → first_fault Client tail ≡ none
    → right options ≡ options_of tail → leb (count IA_NA (listed tail)) 1 ≡ true → look_up IA_NA options ≡ Some value → leb (count IA_ADDRESS (listed (drop IA_OPTIONS value))) 4 ≡ true
    → Some ia ≡ read_ia value → IsRead bytes options ia
known bytes tail options value ia small long behind h e one found few i =
    known_at bytes options value ia small long (rw behind at h) (rw behind at e) (rw (options_are Client tail options h e) one) found few i
