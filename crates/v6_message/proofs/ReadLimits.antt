-- What a message that was read keeps: 3 bytes of transaction id, and at most 4 addresses in its IA_NA.
use Rattle.std.proofs.Common.{◌≡◌, ℕ, ◌+◌, ◌≤◌, Bool, true, false, leb, List, length, drop, refl, sym, subst, arith}
use Rattle.std.specs.Prelude.{Option, Some, None, Result, Ok, Err, if◌then◌else◌}
use Rattle.std.proofs.lemmas.Bool.{leb-true}
use Rattle.std.proofs.lemmas.List.{length-drop, length-take-le}
use Rattle.v6_options.specs.Codes.{IA_ADDRESS, IA_NA}
use Rattle.v6_options.specs.Reading.{listed}
use Rattle.v6_options.specs.Spelling.{look_up}
use Rattle.v6_message.specs.declared.fault.MessageFault.{MessageFault}
use Rattle.v6_message.specs.declared.fault.MessageFault.TheVariants.{Short, IaCount, AddrCount}
use Rattle.v6_message.specs.declared.scan.ListFault.{ListFault}
use Rattle.v6_message.specs.declared.scan.ListFault.TheVariants.{Cut, Twice}
use Rattle.v6_message.specs.declared.scan.Sender.TheVariants.{Client}
use Rattle.v6_message.specs.Lists.{count}
use Rattle.v6_message.specs.Message.{MessageValue}
use Rattle.v6_message.specs.MessageReading.{message_at, message_of, message_or, with_ia}
use Rattle.v6_message.specs.Reading.{first_fault}
use Rattle.wire.specs.Part.{part}

pub part_size : (bytes : List ℕ) (at len : ℕ) → at + len ≤ length bytes → length (part bytes at len) ≡ len
part_size bytes at len within = length-take-le len (drop at bytes) (omega (arith, length-drop at bytes, within))

pub record IsReadMessage (m : MessageValue) : Type 0 where
  pub id : length m.transaction_id ≡ 3
  pub few : (value : List ℕ) → look_up IA_NA m.options ≡ Some value → count IA_ADDRESS (listed (drop 12 value)) ≤ 4

abbrev read : MessageValue → Result MessageValue MessageFault
read m = Ok m

same_message : (a b : MessageValue) → read a ≡ read b → a ≡ b
same_message a b e = cc

same_value : (v w : List ℕ) (found : Option (List ℕ)) → found ≡ Some v → found ≡ Some w → v ≡ w
same_value v w found e f = cc

module _ (bytes : List ℕ) (m : MessageValue) where
  -- the message that its bytes are, and how many addresses it has
  record IsCounted (it : MessageValue) : Type 0 where
    same : it ≡ m
    few : (value : List ℕ) → look_up IA_NA it.options ≡ Some value → count IA_ADDRESS (listed (drop 12 value)) ≤ 4

  by_addresses : (it : MessageValue) (value : List ℕ) (few : Bool) → look_up IA_NA it.options ≡ Some value → leb (count IA_ADDRESS (listed (drop 12 value))) 4 ≡ few
      → (if few then Ok it else Err AddrCount) ≡ read m → IsCounted it
  by_addresses it value true found few e = record {
    same = same_message it m e;
    few = λ other its.
        let one = same_value other value (look_up IA_NA it.options) its found in
        subst (λ (v : List ℕ). count IA_ADDRESS (listed (drop 12 v)) ≤ 4) (sym one) (leb-true (count IA_ADDRESS (listed (drop 12 value))) 4 few);
  }
  by_addresses it value false found few e = absurd cc

  by_ia : (it : MessageValue) (found : Option (List ℕ)) → look_up IA_NA it.options ≡ found → with_ia found it ≡ read m → IsCounted it
  by_ia it None is e = absurd cc
  by_ia it (Some value) is e = by_addresses it value (leb (count IA_ADDRESS (listed (drop 12 value))) 4) is refl e

  by_count : (it : MessageValue) (one : Bool) → (if one then with_ia (look_up IA_NA it.options) it else Err IaCount) ≡ read m → IsCounted it
  by_count it true e = by_ia it (look_up IA_NA it.options) refl e
  by_count it false e = absurd cc

  by_fault : (fault : Option ListFault) → 4 ≤ length bytes → message_or fault bytes ≡ read m → IsReadMessage m
  by_fault None long e =
      let it = message_at bytes (listed (drop 4 bytes)) in
      let is = by_count it (leb (count IA_NA it.options) 1) e in
      subst IsReadMessage is.same (record { id = part_size bytes 1 3 (omega (arith, long)); few = is.few })
  by_fault (Some Cut) long e = absurd cc
  by_fault (Some Twice) long e = absurd cc

  by_length : (long : Bool) → leb 4 (length bytes) ≡ long → (if long then message_or (first_fault Client (drop 4 bytes)) bytes else Err Short) ≡ read m → IsReadMessage m
  by_length true long e = by_fault (first_fault Client (drop 4 bytes)) (leb-true 4 (length bytes) long) e
  by_length false long e = absurd cc

  pub is_read_message : message_of bytes ≡ read m → IsReadMessage m
  is_read_message e = by_length (leb 4 (length bytes)) refl e
