-- A reply to a DHCPv6 client spells its message: the options in its IA_NA, those after the two ids, all of them.
use Rattle.std.proofs.Common.{◌≡◌, ℕ, ◌+◌, ◌*◌, ◌/◌, ◌≤◌, leb, cond, List, [], ◌∷◌, ◌++◌, length, map, Option, Some, None, refl, ap, ◌∙◌, arith}
use Rattle.std.specs.Prelude.{All, Result, Ok, Err, drop}
use Rattle.std.specs.Int.{w16, w32, to_be_bytes}
use Rattle.std.proofs.lemmas.List.{length-append}
use Rattle.std.proofs.lemmas.List.Elements.{All-head, All-tail}
use Rattle.types.specs.Key6.{Key6Value}
use Rattle.exchange.specs.Reply6.{code_of_status6}
use Rattle.types.specs.declared.addr.Addr6.{Addr6}
use Rattle.exchange.specs.declared.request6.Reply6.{Reply6}
use Rattle.exchange.specs.declared.request6.ReplyIa.{ReplyIa}
use Rattle.exchange.specs.declared.request6.ReplyIa.TheVariants as variants
use Rattle.exchange.specs.declared.request6.Status6.{Status6}
use Rattle.v6_options.specs.Spelling.{option, spelling, look_up, AreOptions, Spells}
use Rattle.v6_options.specs.Reading.{listed}
use Rattle.v6_options.proofs.Exact.{one_list}
use Rattle.v6_message.specs.declared.fault.MessageFault.{MessageFault}
use Rattle.v6_message.specs.declared.fault.MessageFault.TheVariants.{AddrCount}
use Rattle.v6_message.specs.Ia.{ia_bytes, ia_header}
use Rattle.v6_message.specs.Lists.{count, AreLong, IsIa}
use Rattle.v6_message.specs.Message.{MessageValue, HasAtMost, SpellsMessage, message_bytes}
use Rattle.v6_message.specs.MessageReading.{counted}
use Rattle.v6_message.proofs.Allowed.{AreAllowedOptions, AreFormedOptions}
use Rattle.v6_message.proofs.Lists.{listed_spells}
use Rattle.config.specs.CircuitPart.{CircuitPart}
use Rattle.replies.specs.Reply6.{IsReplyIa, IsReplyTo, address_option, ia_options, ia_with_addresses, read_within, reply_message, reply_options, status_option, status_options}

-- the bytes of an option, and of those that follow it
behind_size : (code : ℕ) (value : List ℕ) (list : List (ℕ × List ℕ)) → length (spelling ((code, value) ∷ list)) ≡ 4 + length value + length (spelling list)
behind_size code value list =
    let all : length (spelling ((code, value) ∷ list)) ≡ length (option code value) + length (spelling list) = length-append (option code value) (spelling list) in
    omega (arith, all)

-- ---- the options in an IA_NA

-- so many addresses among them, and bytes
record AreInside (list : List (ℕ × List ℕ)) (addresses size : ℕ) : Type 0 where
  options : AreOptions list
  long : AreLong list
  count_is : count 5 list ≡ addresses
  size_is : length (spelling list) ≡ size

status_inside : (status : Status6) → AreInside (status_option status ∷ []) 0 6
status_inside status = record { options = (omega arith, omega arith, tt); long = (λ e. absurd (omega (arith, e)), tt); count_is = refl; size_is = refl }

abbrev Whole : Addr6 → Type 0
Whole a = length a.0 ≡ 16

address_inside : (lifetime : ℕ) (a : Addr6) (list : List (ℕ × List ℕ)) (n size : ℕ) → Whole a → AreInside list n size → AreInside (address_option lifetime a ∷ list) (1 + n) (28 + size)
address_inside lifetime a list n size whole h =
    let times = to_be_bytes w32 lifetime ++ to_be_bytes w32 lifetime in
    let value = a.0 ++ times in
    let long : length value ≡ 24 = omega (arith, length-append a.0 times, whole) in
    record {
      options = (omega arith, omega (arith, long), h.options);
      long = (λ e. omega (arith, long), h.long);
      count_is = ap (λ (k : ℕ). 1 + k) h.count_is;
      size_is = omega (arith, behind_size 5 value list, long, h.size_is);
    }

addresses_inside : (zeroed : List Addr6) (lease : ℕ) (leased : Addr6) → All Whole zeroed → Whole leased
    → AreInside (map (address_option 0) zeroed ++ address_option lease leased ∷ []) (1 + length zeroed) (28 * (1 + length zeroed))
addresses_inside [] lease leased all whole =
    let h = address_inside lease leased [] 0 0 whole (record { options = tt; long = tt; count_is = refl; size_is = refl }) in
    record { options = h.options; long = h.long; count_is = h.count_is; size_is = omega (arith, h.size_is) }
addresses_inside (z ∷ zs) lease leased all whole =
    let rest = map (address_option 0) zs ++ address_option lease leased ∷ [] in
    let h = address_inside 0 z rest (1 + length zs) (28 * (1 + length zs)) (All-head Whole z zs all) (addresses_inside zs lease leased (All-tail Whole z zs all) whole) in
    record { options = h.options; long = h.long; count_is = omega (arith, h.count_is); size_is = omega (arith, h.size_is) }

-- ---- the options after the two ids

-- They have neither id again, and at most one IA_NA and 5 addresses in it.
record AreBehind (list : List (ℕ × List ℕ)) (most : ℕ) : Type 0 where
  options : AreOptions list
  formed : AreFormedOptions list
  client : count 1 list ≡ 0
  server : count 2 list ≡ 0
  one : count 3 list ≤ 1
  few : HasAtMost 5 list
  size : length (spelling list) ≤ most

module _ (iaid t1 t2 : ℕ) (list : List (ℕ × List ℕ)) (n size : ℕ) (h : AreInside list n size) where
  abbrev value : List ℕ
  value = ia_bytes (record { iaid = iaid; t1 = t1; t2 = t2; options = list })

  value_size : length value ≡ 12 + size
  value_size = omega (arith, length-append (ia_header iaid t1 t2) (spelling list), h.size_is)

  spells_inside : Spells (drop 12 value) list
  spells_inside = record { whole = refl; options = h.options }

  is_ia : IsIa value
  is_ia = record { long = omega (arith, value_size); list = list; spelled = spells_inside; addresses = h.long }

  same_value : (v : List ℕ) → look_up 3 ((3, value) ∷ []) ≡ Some v → v ≡ value
  same_value v found = cc

  has_few : n ≤ 5 → HasAtMost 5 ((3, value) ∷ [])
  has_few few v inside found spelled =
      let its : Spells (drop 12 value) inside = rw (same_value v found) at spelled in
      omega (arith, few, h.count_is, ap (count 5) (one_list (drop 12 value) inside list its spells_inside))

  ia_behind : n ≤ 5 → size ≤ 140 → AreBehind ((3, value) ∷ []) 156
  ia_behind few most = record {
    options = (omega arith, omega (arith, value_size, most), tt);
    formed = (λ e. is_ia, tt);
    client = refl;
    server = refl;
    one = omega arith;
    few = has_few few;
    size = omega (arith, behind_size 3 value [], value_size, most);
  }

none_behind : AreBehind [] 156
none_behind = record { options = tt; formed = tt; client = refl; server = refl; one = omega arith; few = λ v inside found. absurd (never v found); size = omega arith } where
  never : (v : List ℕ) → look_up 3 [] ≡ Some v → ⊥
  never v found = cc

ia_options_behind : (lease iaid : ℕ) (ia : ReplyIa) → IsReplyIa ia → AreBehind (ia_options lease iaid ia) 156
ia_options_behind lease iaid variants.None is = none_behind
ia_options_behind lease iaid (variants.Status status) is = ia_behind iaid 0 0 (status_option status ∷ []) 0 6 (status_inside status) (omega arith) (omega arith)
ia_options_behind lease iaid (variants.Given zeroed leased) is =
    let few = is.0 in
    ia_behind iaid (lease / 2) (4 * lease / 5) (map (address_option 0) zeroed.items ++ address_option lease leased ∷ []) (1 + length zeroed.items) (28 * (1 + length zeroed.items))
    (addresses_inside zeroed.items lease leased is.1 is.2) (omega (arith, few)) (omega (arith, few))

-- the bytes of the addresses in an IA_NA, and of the IA_NA with them
pub addresses_length : (zeroed : List Addr6) (lease : ℕ) (leased : Addr6) → All Whole zeroed → Whole leased
    → length (spelling (map (address_option 0) zeroed ++ address_option lease leased ∷ [])) ≡ 28 * (1 + length zeroed)
addresses_length zeroed lease leased all whole = (addresses_inside zeroed lease leased all whole).size_is

pub given_length : (lease iaid : ℕ) (zeroed : List Addr6) (leased : Addr6) → All Whole zeroed → Whole leased
    → length (spelling (ia_with_addresses lease iaid zeroed leased ∷ [])) ≡ 16 + 28 * (1 + length zeroed)
given_length lease iaid zeroed leased all whole =
    let addresses = spelling (map (address_option 0) zeroed ++ address_option lease leased ∷ []) in
    let header = ia_header iaid (lease / 2) (4 * lease / 5) in
    omega (arith, behind_size 3 (header ++ addresses) [], length-append header addresses, addresses_length zeroed lease leased all whole)

status_behind : (status : Option Status6) (list : List (ℕ × List ℕ)) → AreBehind list 156 → AreBehind (status_options status ++ list) 162
status_behind None list h =
    record { options = h.options; formed = h.formed; client = h.client; server = h.server; one = h.one; few = h.few; size = omega (arith, h.size) }
status_behind (Some status) list h =
    let value = to_be_bytes w16 (code_of_status6 status) in
    record {
      options = (omega arith, omega arith, h.options);
      formed = (λ e. absurd (omega (arith, e)), h.formed);
      client = h.client;
      server = h.server;
      one = h.one;
      few = h.few;
      size = omega (arith, behind_size 13 value list, h.size);
    }

-- ---- the whole reply

-- its header, the two ids, and what follows them
pub reply_length : (part : CircuitPart) (message : MessageValue) (client : Key6Value) (reply : Reply6) → length message.transaction_id ≡ 3
    → length (message_bytes (reply_message part message client reply))
    ≡ 12 + length client.duid + length part.duid + length (spelling (status_options reply.status ++ ia_options part.lease client.iaid reply.ia))
reply_length part message client reply id =
    let rest = status_options reply.status ++ ia_options part.lease client.iaid reply.ia in
    let all = length-append message.transaction_id (spelling (reply_options part client reply)) in
    omega (arith, all, behind_size 1 client.duid ((2, part.duid) ∷ rest), behind_size 2 part.duid rest, id)

module _ (part : CircuitPart) (message : MessageValue) (client : Key6Value) (reply : Reply6) (duid : length part.duid ≤ 130) (is : IsReplyTo message client reply) where
  abbrev its : MessageValue
  its = reply_message part message client reply

  abbrev rest : List (ℕ × List ℕ)
  rest = status_options reply.status ++ ia_options part.lease client.iaid reply.ia

  behind : AreBehind rest 162
  behind = status_behind reply.status (ia_options part.lease client.iaid reply.ia) (ia_options_behind part.lease client.iaid reply.ia is.ia)

  pub reply_options_are : AreOptions (reply_options part client reply)
  reply_options_are = (omega arith, omega (arith, is.duid), (omega arith, omega (arith, duid), behind.options))

  pub reply_allowed : AreAllowedOptions (reply_options part client reply)
  reply_allowed = record {
    formed = (λ e. absurd (omega (arith, e)), (λ e. absurd (omega (arith, e)), behind.formed));
    first = omega (arith, behind.client);
    second = omega (arith, behind.server);
  }

  pub reply_spelled : SpellsMessage (message_bytes its) its
  reply_spelled = record { whole = refl; id = is.id; options = reply_options_are; allowed = reply_allowed; one = behind.one; few = behind.few }

  pub reply_size : length (message_bytes its) ≤ 434
  reply_size = omega (arith, reply_length part message client reply is.id, is.duid, duid, behind.size)

-- ---- reading it

-- the addresses of an IA_NA are counted
read_given : (iaid t1 t2 : ℕ) (zeroed : List Addr6) (lease : ℕ) (leased : Addr6) → All Whole zeroed → Whole leased
    → count 5 (listed (drop 12 (ia_bytes (record { iaid = iaid; t1 = t1; t2 = t2; options = map (address_option 0) zeroed ++ address_option lease leased ∷ [] })))) ≡ 1 + length zeroed
read_given iaid t1 t2 zeroed lease leased all whole =
    let list = map (address_option 0) zeroed ++ address_option lease leased ∷ [] in
    let h = addresses_inside zeroed lease leased all whole in
    ap (count 5) (listed_spells (spelling list) list (record { whole = refl; options = h.options })) ∙ h.count_is

read_status : (status : Status6) → count 5 (listed (spelling (status_option status ∷ []))) ≡ 0
read_status status =
    let h = status_inside status in
    ap (count 5) (listed_spells (spelling (status_option status ∷ [])) (status_option status ∷ []) (record { whole = refl; options = h.options }))

abbrev given : MessageValue → ℕ → Result MessageValue MessageFault
given m n = cond (leb n 4) (Ok m) (Err AddrCount)

module _ (part : CircuitPart) (message : MessageValue) (client : Key6Value) where
  -- the reply with this status and this IA_NA
  abbrev sent : Reply6 → Option Status6 → ReplyIa → MessageValue
  sent reply status ia =
      record (reply_message part message client reply) { options = (1, client.duid) ∷ (2, part.duid) ∷ (status_options status ++ ia_options part.lease client.iaid ia) }

  by_parts : (reply : Reply6) (status : Option Status6) (ia : ReplyIa) → IsReplyIa ia → counted (sent reply status ia) ≡ read_within ia (sent reply status ia)
  by_parts reply None variants.None is = refl
  by_parts reply (Some told) variants.None is = refl
  by_parts reply None (variants.Status status) is = ap (given (sent reply None (variants.Status status))) (read_status status)
  by_parts reply (Some told) (variants.Status status) is = ap (given (sent reply (Some told) (variants.Status status))) (read_status status)
  by_parts reply None (variants.Given zeroed leased) is =
      ap (given (sent reply None (variants.Given zeroed leased))) (read_given client.iaid (part.lease / 2) (4 * part.lease / 5) zeroed.items part.lease leased is.1 is.2)
  by_parts reply (Some told) (variants.Given zeroed leased) is =
      ap (given (sent reply (Some told) (variants.Given zeroed leased))) (read_given client.iaid (part.lease / 2) (4 * part.lease / 5) zeroed.items part.lease leased is.1 is.2)

  pub reply_counted : (reply : Reply6) → IsReplyIa reply.ia → counted (reply_message part message client reply) ≡ read_within reply.ia (reply_message part message client reply)
  reply_counted reply is = by_parts reply reply.status reply.ia is
