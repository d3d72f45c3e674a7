-- One circuit, up and down, in DHCPv6: what is too long or too short, and that what is written has room.
use Rattle.std.proofs.Common.{◌≡◌, ℕ, ◌+◌, ◌<◌, ◌≤◌, Bool, true, false, cond, List, [], ◌∷◌, length, take, drop, Some, Ok, Err, refl, sym, ap, arith}
use Rattle.std.specs.Prelude.{nat_lt, ◌==◌, ◌||◌, slice_index, is_none}
use Rattle.std.specs.Result.{is_err}
use Rattle.std.proofs.lemmas.Bool.{lt-ltb, le-ltb, ltb-false}
use Rattle.std.proofs.lemmas.List.{length-append}
use Rattle.types.specs.Kind6.{kind6_of_code}
use Rattle.types.specs.declared.discard.Discard.TheVariants as reason
use Rattle.v6_options.specs.Spelling.{look_up, option, spelling}
use Rattle.v6_message.specs.MessageReading.{message_of}
use Rattle.v6_message.specs.Relay.{RelayValue, relay_bytes, relay_header}
use Rattle.v6_message.specs.RelayReading.{relay_of}
use Rattle.config.specs.CircuitPart.{CircuitPart}
use Rattle.relay.specs.Up6.{relay_forward, message_relayed_up6, relayed_up6}
use Rattle.relay.specs.Down6.{reply_of6, relay_in_reply}

pub up6_too_long : (part : CircuitPart) (frame : List ℕ) → 1024 < length frame → relayed_up6 part frame ≡ Err reason.TooLong
unfolding relayed_up6
up6_too_long part frame h = rw (lt-ltb 1024 (length frame) h) refl

pub up6_too_short : (part : CircuitPart) (frame : List ℕ) → length frame ≤ 1024 → length frame < 20 → relayed_up6 part frame ≡ Err reason.MalformedUp
unfolding relayed_up6
up6_too_short part frame fits h = rw (le-ltb 1024 (length frame) fits, lt-ltb (length frame) 20 h) refl

pub up6_within : (part : CircuitPart) (frame peer message : List ℕ) → length frame ≤ 1024 → 20 ≤ length frame
    → peer ≡ take 16 frame → message ≡ drop 16 frame → relayed_up6 part frame ≡ message_relayed_up6 part peer message
unfolding relayed_up6
up6_within part frame peer message fits long is_peer is_message =
    rw (le-ltb 1024 (length frame) fits, le-ltb (length frame) 20 long) (λ i. message_relayed_up6 part (sym is_peer i) (sym is_message i))

-- what is sent, and the lengths of a frame that is
pub up6_sent : (part : CircuitPart) (frame datagram : List ℕ) → relayed_up6 part frame ≡ Ok datagram
    → (20 ≤ length frame) × (length frame ≤ 1024) × (datagram ≡ relay_bytes (relay_forward part (take 16 frame) (drop 16 frame)))
unfolding relayed_up6
up6_sent part frame datagram came = by_long (nat_lt 1024 (length frame)) refl came
  where
    peer : List ℕ
    peer = take 16 frame

    message : List ℕ
    message = drop 16 frame

    result : List ℕ
    result = relay_bytes (relay_forward part peer message)

    by_reading : (refused : Bool) → cond refused (Err reason.MalformedUp) (Ok result) ≡ Ok datagram → datagram ≡ result
    by_reading true h = absurd cc
    by_reading false h = let same : result ≡ datagram = cc in sym same

    read : Bool
    read = is_err (message_of message)

    of_relay : Bool
    of_relay = slice_index message 0 == 12 || slice_index message 0 == 13

    by_client : (other : Bool) → cond other (Err reason.WrongType) (cond read (Err reason.MalformedUp) (Ok result)) ≡ Ok datagram → datagram ≡ result
    by_client true h = absurd cc
    by_client false h = by_reading read h

    by_relay : (b : Bool) → cond b (Err reason.NestedRelay) (cond (is_none (kind6_of_code (slice_index message 0))) (Err reason.WrongType) (cond read (Err reason.MalformedUp) (Ok result))) ≡ Ok datagram
        → datagram ≡ result
    by_relay true h = absurd cc
    by_relay false h = by_client (is_none (kind6_of_code (slice_index message 0))) h

    by_short : (b : Bool) → nat_lt (length frame) 20 ≡ b → cond b (Err reason.MalformedUp) (message_relayed_up6 part peer message) ≡ Ok datagram → (20 ≤ length frame) × (datagram ≡ result)
    by_short true is h = absurd cc
    by_short false is h = (ltb-false (length frame) 20 is, by_relay of_relay h)

    by_long : (b : Bool) → nat_lt 1024 (length frame) ≡ b
        → cond b (Err reason.TooLong) (cond (nat_lt (length frame) 20) (Err reason.MalformedUp) (message_relayed_up6 part peer message)) ≡ Ok datagram
        → (20 ≤ length frame) × (length frame ≤ 1024) × (datagram ≡ result)
    by_long true is h = absurd cc
    by_long false is h = let rest = by_short (nat_lt (length frame) 20) refl h in (rest.0, ltb-false 1024 (length frame) is, rest.1)

pub reply6_too_long : (datagram : List ℕ) → 1280 < length datagram → reply_of6 datagram ≡ Err reason.MalformedDown
unfolding reply_of6
reply6_too_long datagram h = rw (lt-ltb 1280 (length datagram) h) refl

pub reply6_within : (datagram : List ℕ) → length datagram ≤ 1280 → reply_of6 datagram ≡ relay_in_reply (relay_of datagram)
unfolding reply_of6
reply6_within datagram h = rw (le-ltb 1280 (length datagram) h) refl

-- an option's value has no more bytes than all options
pub value_fits : (code : ℕ) (os : List (ℕ × List ℕ)) (value : List ℕ) → Some value ≡ look_up code os → length value ≤ length (spelling os)
value_fits code [] value found = absurd cc
value_fits code (o ∷ os) value found = by_code (o.0 == code) (value_fits code os value) found
  where
    whole : length (spelling (o ∷ os)) ≡ length (option o.0 o.1) + length (spelling os)
    whole = length-append (option o.0 o.1) (spelling os)

    by_code : (b : Bool) → (Some value ≡ look_up code os → length value ≤ length (spelling os))
        → Some value ≡ cond b (Some o.1) (look_up code os) → length value ≤ length (spelling (o ∷ os))
    by_code true more h = let same : value ≡ o.1 = cc in omega (arith, ap (λ (v : List ℕ). length v) same, whole)
    by_code false more h = omega (arith, whole, more h)

-- and so than the relay message with them
pub inside_fits : (m : RelayValue) (code : ℕ) (value : List ℕ) → Some value ≡ look_up code m.options → length (relay_bytes m) ≤ 1280 → length value ≤ 1280
inside_fits m code value found h =
    omega (arith, h, value_fits code m.options value found, length-append (relay_header m.kind m.hop_count m.link_address m.peer_address) (spelling m.options))
