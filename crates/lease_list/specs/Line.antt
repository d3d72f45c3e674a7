-- The line of a lease, and of a circuit whose leases are not known.
use Rattle.std.specs.Prelude.{◌≡◌, ℕ, List, ◌++◌, Option, codes}
use Rattle.serde_json.specs.Data.{Data, Members, number, string, object, unsigned, no_members, member, put}
use Rattle.serde_json.specs.Written.{compact_text}
use Rattle.lease_list.specs.declared.lease.Lease.{Lease}
use Rattle.region_reader.specs.declared.closed.Closed.{Closed}
use Rattle.region_reader.specs.declared.closed.Closed.TheVariants.{Damaged, Unreadable, Busy}
use Rattle.lease_list.specs.declared.form.Form.{Form}
use Rattle.lease_list.specs.declared.form.Form.TheVariants.{Text, Json}
use Rattle.lease_list.specs.Lease.{until_of}
use Rattle.lease_list.specs.Row.{IsDate, Texts, texts_of, line_text, line_data, text_data}

-- JSON without spaces
abbrev pub written : Form → Texts → List ℕ
written Text t = line_text t
written Json t = compact_text (line_data t)

-- the line of a lease of the circuit with this id, at a moment
abbrev pub IsLeaseLine : List ℕ → Lease → ℕ → Form → List ℕ → Type 0
IsLeaseLine circuit lease at form line = (date : Option (List ℕ)) × IsDate (until_of lease) date × (line ≡ written form (texts_of circuit lease at date))

-- ---- the members of JSON, as they are put in; only proofs need these

abbrev pub with_place : List ℕ → List ℕ → List ℕ → Members → Members
with_place circuit address state members = put (codes "state") (string state) (put (codes "address") (string address) (put (codes "circuit") (string circuit) members))

abbrev pub with_client : Option (List ℕ) → Option (List ℕ) → Members → Members
with_client client iaid members = put (codes "iaid") (text_data iaid) (put (codes "client") (text_data client) members)

abbrev pub with_end : ℕ → Option (List ℕ) → ℕ → Members → Members
with_end until date left members =
    put (codes "left") (number (unsigned left)) (put (codes "date") (text_data date) (put (codes "until") (number (unsigned until)) members))

-- ---- a circuit whose leases are not known

abbrev pub closed_words : Closed → List ℕ
closed_words Damaged = codes "closed"
closed_words Unreadable = codes "closed"
closed_words Busy = codes "busy"

abbrev pub why_of : Closed → List ℕ
why_of Damaged = codes "its region is damaged"
why_of Unreadable = codes "its region can't be read"
why_of Busy = codes "no two in a row of 100 readings of its region were equal"

abbrev pub closed_text : List ℕ → Closed → List ℕ
closed_text circuit why = circuit ++ (codes " " ++ (closed_words why ++ (codes ": " ++ why_of why)))

abbrev pub closed_data : List ℕ → Closed → Data
closed_data circuit why =
    object (member (codes "circuit") (string circuit)
    (member (codes "state") (string (closed_words why))
    (member (codes "why") (string (why_of why)) no_members)))

abbrev pub closed_written : List ℕ → Closed → Form → List ℕ
closed_written circuit why Text = closed_text circuit why
closed_written circuit why Json = compact_text (closed_data circuit why)
