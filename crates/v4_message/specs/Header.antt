-- A message's header: its fields as values, and their bytes in order (RFC 2131, section 2).
use Rattle.std.specs.Prelude.{◌≡◌, ℕ, ◌<◌, ◌^◌, List, [], ◌∷◌, length, slice_index}
use Rattle.std.specs.Int.{w16, to_be_bytes, from_be_bytes}
use Rattle.std.specs.List.{concat}
use Rattle.wire.specs.Part.{part}

-- op, hops and flags are numbers; every other field is a list of bytes.
pub record HeaderValue : Type 0 where
  pub op : ℕ
  pub hops : ℕ
  pub xid : List ℕ
  pub secs : List ℕ
  pub flags : ℕ
  pub ciaddr : List ℕ
  pub yiaddr : List ℕ
  pub siaddr : List ℕ
  pub giaddr : List ℕ
  pub chaddr : List ℕ
  pub sname : List ℕ
  pub file : List ℕ

-- Each field has its length, and flags fits two bytes.
pub record IsSized (h : HeaderValue) : Type 0 where
  pub xid : length h.xid ≡ 4
  pub secs : length h.secs ≡ 2
  pub flags : h.flags < 2 ^ 16
  pub ciaddr : length h.ciaddr ≡ 4
  pub yiaddr : length h.yiaddr ≡ 4
  pub siaddr : length h.siaddr ≡ 4
  pub giaddr : length h.giaddr ≡ 4
  pub chaddr : length h.chaddr ≡ 16
  pub sname : length h.sname ≡ 64
  pub file : length h.file ≡ 128

-- The bytes of some fields, concatenated.
-- The fields as bytes, in order. The hardware is Ethernet: htype 1, hlen 6 (RFC 1700, "Hardware Type").
abbrev pub fields_of : HeaderValue → List (List ℕ)
fields_of h =
    (h.op ∷ []) ∷ (1 ∷ []) ∷ (6 ∷ []) ∷ (h.hops ∷ [])
    ∷ h.xid ∷ h.secs ∷ to_be_bytes w16 h.flags
    ∷ h.ciaddr ∷ h.yiaddr ∷ h.siaddr ∷ h.giaddr
    ∷ h.chaddr ∷ h.sname ∷ h.file ∷ []

abbrev pub header_bytes : HeaderValue → List ℕ
header_bytes h = concat (fields_of h)

-- The fields at their offsets in a message's bytes (RFC 2131, section 2, figure 1).
abbrev pub header_at : List ℕ → HeaderValue
header_at bytes = record {
  op = slice_index bytes 0;
  hops = slice_index bytes 3;
  xid = part bytes 4 4;
  secs = part bytes 8 2;
  flags = from_be_bytes w16 (part bytes 10 2);
  ciaddr = part bytes 12 4;
  yiaddr = part bytes 16 4;
  siaddr = part bytes 20 4;
  giaddr = part bytes 24 4;
  chaddr = part bytes 28 16;
  sname = part bytes 44 64;
  file = part bytes 108 128;
}
