-- What a line says of a lease.
use Rattle.std.specs.Prelude.{◌≡◌, ℕ, ◌-◌, ◌≤◌, List, ◌++◌, Option, Some, None, codes, decimal}
use Rattle.std.specs.Int.{w32, to_be_bytes}
use Rattle.std.specs.Net.Addr.{segments_of}
use Rattle.std.specs.Net.Text.{ipv4_text, ipv6_text}
use Rattle.hex.specs.Hex.{encode_lower}
use Rattle.httpdate.specs.Date.{unix_secs, date_text}
use Rattle.httpdate.specs.declared.date.HttpDate.{HttpDate as Date}
use Rattle.serde_json.specs.Data.{Data, null, number, string, object, unsigned, no_members, member}
use Rattle.lease_list.specs.declared.lease.Lease.{Lease}
use Rattle.lease_list.specs.declared.lease.Lease.TheVariants.{V4, V6}
use Rattle.lease_list.specs.Lease.{until_of}

-- four decimal numbers, or groups of hexadecimal digits (RFC 5952)
abbrev pub address_text : Lease → List ℕ
address_text (V4 address client until) = ipv4_text address.0
address_text (V6 address client until) = ipv6_text (segments_of address.0)

abbrev pub state_text : Lease → List ℕ
state_text (V4 address (Some key) until) = codes "bound"
state_text (V6 address (Some key) until) = codes "bound"
state_text (V4 address None until) = codes "declined"
state_text (V6 address None until) = codes "declined"

-- the identifier, or the DUID
abbrev pub client_text : Lease → Option (List ℕ)
client_text (V4 address (Some key) until) = Some (encode_lower key)
client_text (V6 address (Some key) until) = Some (encode_lower key.duid)
client_text (V4 address None until) = None
client_text (V6 address None until) = None

abbrev pub iaid_text : Lease → Option (List ℕ)
iaid_text (V4 address client until) = None
iaid_text (V6 address (Some key) until) = Some (encode_lower (to_be_bytes w32 key.iaid))
iaid_text (V6 address None until) = None

-- The text is the date of this moment, in seconds since 1970; there is none from the year 10000 on.
abbrev pub IsDate : ℕ → Option (List ℕ) → Type 0
IsDate until (Some text) = (date : Date) × (unix_secs date ≡ until) × (text ≡ date_text date)
IsDate until None = 253_402_300_800 ≤ until

abbrev pub or_dash : Option (List ℕ) → List ℕ
or_dash (Some text) = text
or_dash None = codes "-"

-- The texts of a line.
pub record Texts : Type 0 where
  pub circuit : List ℕ
  pub address : List ℕ
  pub state : List ℕ
  pub client : Option (List ℕ)
  pub iaid : Option (List ℕ)
  -- in seconds, and as a date
  pub until : ℕ
  pub date : Option (List ℕ)
  pub left : ℕ

-- those of a lease of the circuit with this id at a moment, with this date of its end
abbrev pub texts_of : List ℕ → Lease → ℕ → Option (List ℕ) → Texts
texts_of circuit lease at date = record {
  circuit = circuit;
  address = address_text lease;
  state = state_text lease;
  client = client_text lease;
  iaid = iaid_text lease;
  until = until_of lease;
  date = date;
  left = until_of lease - at;
}

abbrev pub IsRow : List ℕ → Lease → ℕ → Texts → Type 0
IsRow circuit lease at texts = IsDate (until_of lease) texts.date × (texts ≡ texts_of circuit lease at texts.date)

-- the line as a text
abbrev pub line_text : Texts → List ℕ
line_text t =
    t.circuit ++ (codes " " ++ (t.address ++ (codes " " ++ (t.state ++ (codes " " ++ (or_dash t.client ++ (codes " " ++ (or_dash t.iaid
    ++ (codes " until " ++ (decimal t.until ++ (codes " (" ++ (or_dash t.date ++ (codes ") left " ++ decimal t.left)))))))))))))

-- a text, or JSON's null
abbrev pub text_data : Option (List ℕ) → Data
text_data (Some text) = string text
text_data None = null

-- the line as JSON, whose members are in the order of their names
abbrev pub line_data : Texts → Data
line_data t =
    object (member (codes "address") (string t.address)
    (member (codes "circuit") (string t.circuit)
    (member (codes "client") (text_data t.client)
    (member (codes "date") (text_data t.date)
    (member (codes "iaid") (text_data t.iaid)
    (member (codes "left") (number (unsigned t.left))
    (member (codes "state") (string t.state)
    (member (codes "until") (number (unsigned t.until)) no_members))))))))
