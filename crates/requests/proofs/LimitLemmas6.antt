-- What a DHCPv6 message asks keeps the limits of its parts, since reading it tested them.
use Rattle.std.proofs.Common.{◌≡◌, ℕ, ◌≤◌, ◌==◌, Bool, true, false, leb, List, [], ◌∷◌, length, map, drop, refl, ap, subst, arith}
use Rattle.std.specs.Prelude.{All, Option, Some, None, Result, Ok, Err, slice_index, nat_lt, if◌then◌else◌, ◌&&◌}
use Rattle.std.specs.Option.{option_and_then}
use Rattle.std.specs.Result.{result_map_both}
use Rattle.std.proofs.lemmas.Bool.{leb-true}
use Rattle.std.proofs.lemmas.List.{length-map}
use Rattle.std.proofs.lemmas.List.Elements.{All-cons, All-nil}
use Rattle.types.specs.Kind6.{kind6_of_code}
use Rattle.types.specs.declared.addr.Addr6.{Addr6}
use Rattle.types.specs.declared.discard.Discard.{Discard}
use Rattle.types.specs.declared.discard.Discard.TheVariants as reason
use Rattle.types.specs.declared.kind6.Kind6.{Kind6}
use Rattle.exchange.specs.declared.request6.Request6.{Request6}
use Rattle.v6_options.specs.Codes.{CLIENT_ID, IA_ADDRESS, IA_NA}
use Rattle.v6_options.specs.Reading.{cut_from, listed}
use Rattle.v6_options.specs.Spelling.{look_up}
use Rattle.v6_message.specs.declared.fault.MessageFault.{MessageFault}
use Rattle.v6_message.specs.Ia.{AddressValue, address_at, addresses_in, ia_at, ia_of}
use Rattle.v6_message.specs.Message.{MessageValue}
use Rattle.v6_message.specs.MessageReading.{message_of}
use Rattle.v6_message.specs.Reading.{are_long, is_ia}
use Rattle.v6_message.proofs.ReadLimits.{IsReadMessage, is_read_message, part_size}
use Rattle.requests.specs.Request6.{client_request, is_duid, kind_request, read_request, request6_in, request6_of}
use Rattle.requests.proofs.RequestLemmas6.{length_addresses}

both : (a b : Bool) → (if a then b else false) ≡ true → (a ≡ true) × (b ≡ true)
both true b h = (refl, h)
both false b h = absurd cc

all_true : (a b : Bool) → (a && b) ≡ true → (a ≡ true) × (b ≡ true)
all_true true b h = (refl, h)
all_true false b h = absurd cc

-- ---- the addresses of an IA_NA

abbrev Whole : Addr6 → Type 0
Whole a = length a.0 ≡ 16

abbrev address_of : AddressValue → Addr6
address_of a = record { 0 = a.address }

whole_addresses : (options : List (ℕ × List ℕ)) → are_long options ≡ true → All Whole (map address_of (addresses_in options))
whole_addresses [] long = All-nil Whole
whole_addresses (o ∷ options) long = by_code (o.0 == IA_ADDRESS) long (whole_addresses options)
  where
    by_code : (is_address : Bool) → (if (if is_address then leb 24 (length o.1) else true) then are_long options else false) ≡ true
        → (are_long options ≡ true → All Whole (map address_of (addresses_in options)))
        → All Whole (map address_of (if is_address then address_at o.1 ∷ addresses_in options else addresses_in options))
    by_code true h rest =
        let long = both (leb 24 (length o.1)) (are_long options) h in
        let size = leb-true 24 (length o.1) long.0 in
        All-cons Whole (address_of (address_at o.1)) (map address_of (addresses_in options)) (part_size o.1 0 16 (omega (arith, size))) (rest long.1)
    by_code false h rest = rest h

formed_is_long : (long cut are : Bool) → (if long then (if cut then false else are) else false) ≡ true → are ≡ true
formed_is_long true false are h = h
formed_is_long true true are h = absurd cc
formed_is_long false cut are h = absurd cc

-- ---- what it asks

pub record IsAsked (m : MessageValue) (request : Request6) : Type 0 where
  pub id : length m.transaction_id ≡ 3
  pub least : 3 ≤ length request.key.duid
  pub most : length request.key.duid ≤ 130
  pub few : length request.listed.items ≤ 4
  pub whole : All Whole request.listed.items

abbrev asks : MessageValue → Request6 → Result (MessageValue × Request6) Discard
asks m request = Ok (m, request)

module _ (duid : List ℕ) (asked : MessageValue) (request : Request6) where
  abbrev Asks : Result (MessageValue × Request6) Discard → Type 0
  Asks r = r ≡ asks asked request

  -- the two parts of what is asked
  abbrev message_in : Result (MessageValue × Request6) Discard → MessageValue
  message_in (Ok it) = it.0
  message_in (Err why) = asked

  abbrev request_in : Result (MessageValue × Request6) Discard → Request6
  request_in (Ok it) = it.1
  request_in (Err why) = request

  same_asked : (m : MessageValue) (r : Request6) → Asks (asks m r) → (m ≡ asked) × (r ≡ request)
  same_asked m r e = (ap message_in e, ap request_in e)

  module _ (kind : Kind6) (m : MessageValue) (is : IsReadMessage m) where
    by_client : (client value : List ℕ) (fits : Bool) → look_up IA_NA m.options ≡ Some value → are_long (listed (drop 12 value)) ≡ true → is_duid client ≡ fits
        → Asks (result_map_both (λ r. (m, r)) (λ why. why) (if fits then Ok (request6_of duid kind m client (ia_at value (listed (drop 12 value)))) else Err reason.ClientKey))
        → IsAsked asked request
    by_client client value true found long fits e =
        let ia = ia_at value (listed (drop 12 value)) in
        let r = request6_of duid kind m client ia in
        let same = same_asked m r e in
        let size = all_true (leb 3 (length client)) (leb (length client) 130) fits in
        let all = length-map (addresses_in ia.options) address_of in
        let its : IsAsked m r = record {
          id = is.id;
          least = leb-true 3 (length client) size.0;
          most = leb-true (length client) 130 size.1;
          few = omega (arith, all, length_addresses ia.options, is.few value found);
          whole = whole_addresses ia.options long;
        } in
        subst (λ (n : MessageValue). IsAsked n request) same.0 (subst (λ (q : Request6). IsAsked m q) same.1 its)
    by_client client value false found long fits e = absurd cc

    by_formed : (client value : List ℕ) (formed : Bool) → look_up IA_NA m.options ≡ Some value → is_ia value ≡ formed
        → Asks (result_map_both (λ r. (m, r)) (λ why. why) (client_request duid kind m (Some client) (if formed then Some (ia_at value (listed (drop 12 value))) else None)))
        → IsAsked asked request
    by_formed client value true found formed e =
        let long = formed_is_long (leb 12 (length value)) (cut_from 0 (drop 12 value)) (are_long (listed (drop 12 value))) formed in
        by_client client value (is_duid client) found long refl e
    by_formed client value false found formed e = absurd cc

    by_parts : (client value : Option (List ℕ)) → look_up IA_NA m.options ≡ value
        → Asks (result_map_both (λ r. (m, r)) (λ why. why) (client_request duid kind m client (option_and_then ia_of value))) → IsAsked asked request
    by_parts None None found e = absurd cc
    by_parts None (Some value) found e = absurd cc
    by_parts (Some client) None found e = absurd cc
    by_parts (Some client) (Some value) found e = by_formed client value (is_ia value) found refl e

  by_read : (kind : Kind6) (message : List ℕ) (r : Result MessageValue MessageFault) → message_of message ≡ r → Asks (read_request duid kind r) → IsAsked asked request
  by_read kind message (Err fault) is e = absurd cc
  by_read kind message (Ok m) is e = by_parts kind m (is_read_message message m is) (look_up CLIENT_ID m.options) (look_up IA_NA m.options) refl e

  by_kind : (message : List ℕ) (kind : Option Kind6) → Asks (kind_request duid message kind) → IsAsked asked request
  by_kind message None e = absurd cc
  by_kind message (Some kind) e = by_read kind message (message_of message) refl e

  by_short : (message : List ℕ) (short : Bool) → Asks (if short then Err reason.Malformed else kind_request duid message (kind6_of_code (slice_index message 0))) → IsAsked asked request
  by_short message true e = absurd cc
  by_short message false e = by_kind message (kind6_of_code (slice_index message 0)) e

  pub is_asked : (message : List ℕ) → Asks (request6_in duid message) → IsAsked asked request
  is_asked message e = by_short message (nat_lt (length message) 4) e
