-- What a line says of a pool.
use Rattle.std.specs.Prelude.{ℕ, ◌+◌, ◌-◌, Bool, true, false, List, ◌++◌, Some, None, codes, count_by, decimal}
use Rattle.std.specs.Net.Addr.{segments_of}
use Rattle.std.specs.Net.Text.{ipv4_text, ipv6_text}
use Rattle.serde_json.specs.Data.{Data, Members, number, string, object, unsigned, no_members, member, put}
use Rattle.serde_json.specs.Written.{compact_text}
use Rattle.types.specs.Addr.{number4, addr4, number6, addr6}
use Rattle.types.specs.Pool4.{PoolValue}
use Rattle.types.specs.Pool6.{Pool6Value}
use Rattle.types.specs.declared.dest.Proto.{Proto}
use Rattle.types.specs.declared.dest.Proto.TheVariants as proto
use Rattle.lease_list.specs.declared.form.Form.{Form}
use Rattle.lease_list.specs.declared.form.Form.TheVariants.{Text, Json}
use Rattle.lease_list.specs.declared.lease.Lease.{Lease}
use Rattle.lease_list.specs.declared.lease.Lease.TheVariants.{V4, V6}
use Rattle.lease_list.specs.declared.pool.Usage.{Usage}

-- a client has this address of the protocol
abbrev pub is_leased : Proto → Lease → Bool
is_leased proto.V4 (V4 address (Some key) until) = true
is_leased proto.V4 (V4 address None until) = false
is_leased proto.V4 (V6 address client until) = false
is_leased proto.V6 (V6 address (Some key) until) = true
is_leased proto.V6 (V6 address None until) = false
is_leased proto.V6 (V4 address client until) = false

-- a client declined this address of the protocol
abbrev pub is_declined : Proto → Lease → Bool
is_declined proto.V4 (V4 address (Some key) until) = false
is_declined proto.V4 (V4 address None until) = true
is_declined proto.V4 (V6 address client until) = false
is_declined proto.V6 (V6 address (Some key) until) = false
is_declined proto.V6 (V6 address None until) = true
is_declined proto.V6 (V4 address client until) = false

abbrev pub leased : Proto → List Lease → ℕ
leased protocol leases = count_by (λ lease. is_leased protocol lease) leases

abbrev pub declined : Proto → List Lease → ℕ
declined protocol leases = count_by (λ lease. is_declined protocol lease) leases

-- of a pool of so many addresses, by the leases of its circuit; the others are free
abbrev pub usage_of : Proto → ℕ → List Lease → Usage
usage_of protocol count leases = record {
  leased = leased protocol leases;
  declined = declined protocol leases;
  free = count - leased protocol leases - declined protocol leases;
}

-- The texts and numbers of a line.
pub record PoolTexts : Type 0 where
  pub circuit : List ℕ
  pub proto : Proto
  -- the lowest and the highest address
  pub first : List ℕ
  pub last : List ℕ
  pub usage : Usage

-- those of a pool of the circuit with this id, by the circuit's leases
abbrev pub pool4_texts : List ℕ → PoolValue → List Lease → PoolTexts
pool4_texts circuit pool leases = record {
  circuit = circuit;
  proto = proto.V4;
  first = ipv4_text pool.first.0;
  last = ipv4_text (addr4 (number4 pool.first + (pool.count - 1))).0;
  usage = usage_of proto.V4 pool.count leases;
}

abbrev pub pool6_texts : List ℕ → Pool6Value → List Lease → PoolTexts
pool6_texts circuit pool leases = record {
  circuit = circuit;
  proto = proto.V6;
  first = ipv6_text (segments_of pool.first.0);
  last = ipv6_text (segments_of (addr6 (number6 pool.first + (pool.count - 1))).0);
  usage = usage_of proto.V6 pool.count leases;
}

abbrev pub proto_text : Proto → List ℕ
proto_text proto.V4 = codes "DHCPv4"
proto_text proto.V6 = codes "DHCPv6"

abbrev pub proto_number : Proto → ℕ
proto_number proto.V4 = 4
proto_number proto.V6 = 6

-- the line as a text
abbrev pub pool_text : PoolTexts → List ℕ
pool_text t =
    t.circuit ++ (codes " " ++ (proto_text t.proto ++ (codes " " ++ (t.first ++ (codes " to " ++ (t.last ++ (codes ": "
    ++ (decimal t.usage.leased ++ (codes " leased, " ++ (decimal t.usage.declined ++ (codes " declined, " ++ (decimal t.usage.free ++ codes " free"))))))))))))

-- the line as JSON, whose members are in the order of their names
abbrev pub pool_data : PoolTexts → Data
pool_data t =
    object (member (codes "circuit") (string t.circuit)
    (member (codes "declined") (number (unsigned t.usage.declined))
    (member (codes "first") (string t.first)
    (member (codes "free") (number (unsigned t.usage.free))
    (member (codes "last") (string t.last)
    (member (codes "leased") (number (unsigned t.usage.leased))
    (member (codes "protocol") (number (unsigned (proto_number t.proto))) no_members)))))))

-- JSON without spaces
abbrev pub pool_written : Form → PoolTexts → List ℕ
pool_written Text t = pool_text t
pool_written Json t = compact_text (pool_data t)

-- ---- the members of JSON, as they are put in; only proofs need these

abbrev pub with_pool : List ℕ → Proto → Members → Members
with_pool circuit protocol members = put (codes "protocol") (number (unsigned (proto_number protocol))) (put (codes "circuit") (string circuit) members)

abbrev pub with_range : List ℕ → List ℕ → Members → Members
with_range first last members = put (codes "last") (string last) (put (codes "first") (string first) members)

abbrev pub with_usage : Usage → Members → Members
with_usage usage members =
    put (codes "free") (number (unsigned usage.free)) (put (codes "declined") (number (unsigned usage.declined)) (put (codes "leased") (number (unsigned usage.leased)) members))
