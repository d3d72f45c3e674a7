-- One circuit, up and down: what is too long, and that what is written has room.
use Rattle.std.proofs.Common.{◌≡◌, ℕ, ◌+◌, ◌<◌, ◌≤◌, List, [], ◌∷◌, ◌++◌, length, Result, Ok, Err, refl, sym, ap, ◌∙◌, append_assoc, arith}
use Rattle.std.specs.Prelude.{IsOk, OnOk}
use Rattle.std.proofs.lemmas.Bool.{lt-ltb, le-ltb}
use Rattle.std.proofs.lemmas.List.{length-append, append-nil}
use Rattle.types.specs.declared.addr.Addr4.{Addr4}
use Rattle.types.specs.declared.discard.Discard.TheVariants as reason
use Rattle.v4_options.specs.Codes.{RELAY_AGENT_INFORMATION, END}
use Rattle.v4_options.specs.Spelling.{option, spelling}
use Rattle.v4_options.proofs.Left.{spelling-append}
use Rattle.v4_message.specs.Layout.{MAGIC_COOKIE}
use Rattle.v4_message.specs.Header.{HeaderValue, IsSized, header_bytes}
use Rattle.v4_message.specs.Reading.{message_of}
use Rattle.v4_message.specs.Spelling.{MessageValue, message_bytes}
use Rattle.v4_message.proofs.Headers.{length-header_bytes}
use Rattle.config.specs.CircuitPart.{CircuitPart}
use Rattle.relay.specs.Up4.{agent_information, with_agent_information, relayed_up4, message_relayed_up}
use Rattle.relay.specs.Down4.{reply_of, message_in_reply}

pub up_too_long : (part : CircuitPart) (frame : List ℕ) → 1024 < length frame → relayed_up4 part frame ≡ Err reason.TooLong
unfolding relayed_up4
up_too_long part frame h = rw (lt-ltb 1024 (length frame) h) refl

pub up_within : (part : CircuitPart) (frame : List ℕ) → length frame ≤ 1024 → relayed_up4 part frame ≡ message_relayed_up part (message_of frame)
unfolding relayed_up4
up_within part frame h = rw (le-ltb 1024 (length frame) h) refl

pub at_ok : {T E P : Type 0} (r : Result T E) → IsOk r → OnOk r P → P
at_ok (Ok x) h p = p
at_ok (Err e) h p = absurd cc

-- A header and the cookie.
pub length-front : (h : HeaderValue) → IsSized h → length (header_bytes h ++ MAGIC_COOKIE) ≡ 240
length-front h s = omega (arith, length-append (header_bytes h) MAGIC_COOKIE, length-header_bytes h s)

regroup : (header cookie options last end : List ℕ) → (((header ++ cookie) ++ options) ++ last) ++ end ≡ header ++ (cookie ++ ((options ++ (last ++ [])) ++ end))
regroup header cookie options last end = simp (append_assoc, append-nil)

-- The header as it goes up.
pub forwarded_sized : (h : HeaderValue) (hops : ℕ) (giaddr : List ℕ) → IsSized h → length giaddr ≡ 4 → IsSized (record h { hops = hops; giaddr = giaddr })
forwarded_sized h hops giaddr s four = record { xid = s.xid; secs = s.secs; flags = s.flags; ciaddr = s.ciaddr; yiaddr = s.yiaddr; siaddr = s.siaddr; giaddr = four; chaddr = s.chaddr; sname = s.sname; file = s.file }

-- The message with agent information, written piece by piece.
pub written_pieces : (part : CircuitPart) (m : MessageValue) (hops : ℕ) (gateway : Addr4) (old front listed marked out : List ℕ)
    → gateway ≡ part.gateway4 → hops ≡ m.header.hops → old ≡ []
    → front ≡ old ++ (header_bytes (record m.header { hops = hops + 1; giaddr = gateway.0 }) ++ MAGIC_COOKIE)
    → listed ≡ front ++ spelling m.options
    → marked ≡ listed ++ option RELAY_AGENT_INFORMATION (agent_information part)
    → out ≡ marked ++ END ∷ []
    → out ≡ message_bytes (with_agent_information part m)
written_pieces part m hops gateway old front listed marked out same_gateway same_hops none is_front is_listed is_marked is_out =
    let header : List ℕ = header_bytes (with_agent_information part m).header in
    let information : List ℕ = option RELAY_AGENT_INFORMATION (agent_information part) in
    let by_header : header_bytes (record m.header { hops = hops + 1; giaddr = gateway.0 }) ≡ header =
    λ i. header_bytes (record m.header { hops = same_hops i + 1; giaddr = (same_gateway i).0 }) in
    let at_front : front ≡ header ++ MAGIC_COOKIE = is_front ∙ λ i. none i ++ (by_header i ++ MAGIC_COOKIE) in
    let at_listed : listed ≡ (header ++ MAGIC_COOKIE) ++ spelling m.options = is_listed ∙ ap (λ (t : List ℕ). t ++ spelling m.options) at_front in
    let at_marked : marked ≡ ((header ++ MAGIC_COOKIE) ++ spelling m.options) ++ information = is_marked ∙ λ i. at_listed i ++ information in
    is_out
    ∙ ap (λ (t : List ℕ). t ++ END ∷ []) at_marked
    ∙ regroup header MAGIC_COOKIE (spelling m.options) information (END ∷ [])
    ∙ ap (λ (t : List ℕ). header ++ (MAGIC_COOKIE ++ (t ++ END ∷ []))) (sym (spelling-append m.options ((RELAY_AGENT_INFORMATION, agent_information part) ∷ [])))

-- ---- a reply, by its bytes

pub reply_too_long : (datagram : List ℕ) → 1280 < length datagram → reply_of datagram ≡ Err reason.MalformedDown
unfolding reply_of
reply_too_long datagram h = rw (lt-ltb 1280 (length datagram) h) refl

pub reply_within : (datagram : List ℕ) → length datagram ≤ 1280 → reply_of datagram ≡ message_in_reply (message_of datagram)
unfolding reply_of
reply_within datagram h = rw (le-ltb 1280 (length datagram) h) refl
