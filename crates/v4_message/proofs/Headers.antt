-- A header's bytes have its fields, and the fields of bytes are written as those bytes.
use Rattle.std.proofs.Common.{◌≡◌, ℕ, ◌+◌, ◌≤◌, ◌<◌, List, [], ◌∷◌, ◌++◌, length, take, drop, get_or, refl, sym, ap, ◌∙◌, append_assoc, arith, inl, inr, lit<}
use Rattle.std.proofs.Math.Seq.{drop-cons}
use Rattle.std.proofs.lemmas.Bool.{cases_lt}
use Rattle.std.proofs.lemmas.List.{append-nil, take_at, drop_at, take-append-drop, drop-drop, length-append, length-take, length-take-le, length-drop, get_or-drop, get_or-take, get_or_past}
use Rattle.std.proofs.lemmas.Nat.{be_bytes_2, from_be_bytes-to_be_bytes_2}
use Rattle.std.specs.Int.{w16, from_be_bytes, to_be_bytes}
use Rattle.std.specs.List.{concat}
use Rattle.wire.specs.Bytes.{AreBytes}
use Rattle.v4_message.specs.Layout.{MAGIC_COOKIE}
use Rattle.wire.specs.Part.{part}
use Rattle.v4_message.specs.Header.{HeaderValue, IsSized, fields_of, header_bytes, header_at}
use Rattle.v4_message.specs.Spelling.{HasCookie, IsEthernet}

-- Appending the fields in turn concatenates them.
pub gathered : (out first xid secs flags ciaddr yiaddr siaddr giaddr chaddr sname file cookie : List ℕ)
    → (((((((((((out ++ first) ++ xid) ++ secs) ++ flags) ++ ciaddr) ++ yiaddr) ++ siaddr) ++ giaddr) ++ chaddr) ++ sname) ++ file) ++ cookie
    ≡ out ++ ((first ++ (xid ++ (secs ++ (flags ++ (ciaddr ++ (yiaddr ++ (siaddr ++ (giaddr ++ (chaddr ++ (sname ++ (file ++ []))))))))))) ++ cookie)
gathered out first xid secs flags ciaddr yiaddr siaddr giaddr chaddr sname file cookie = simp (append_assoc, append-nil)

-- ---- consecutive parts of given sizes

abbrev cut : ℕ → List ℕ → List ℕ → List (List ℕ)
cut at [] bytes = []
cut at (n ∷ ns) bytes = part bytes at n ∷ cut (at + n) ns bytes

-- The offset where they end.
abbrev end : ℕ → List ℕ → ℕ
end at [] = at
end at (n ∷ ns) = end (at + n) ns

abbrev AreSized : List ℕ → List (List ℕ) → Type 0
AreSized [] [] = Unit {0}
AreSized [] (f ∷ fs) = ⊥
AreSized (n ∷ ns) [] = ⊥
AreSized (n ∷ ns) (f ∷ fs) = (length f ≡ n) × AreSized ns fs

-- Concatenated fields are cut into the same fields.
cut-joined : (at : ℕ) (ns : List ℕ) (front : List ℕ) (fields : List (List ℕ)) (rest : List ℕ) → length front ≡ at → AreSized ns fields → cut at ns (front ++ (concat fields ++ rest)) ≡ fields
cut-joined at [] front [] rest e h = refl
cut-joined at [] front (f ∷ fs) rest e h = absurd h
cut-joined at (n ∷ ns) front [] rest e h = absurd h
cut-joined at (n ∷ ns) front (f ∷ fs) rest e h =
    let regroup : front ++ ((f ++ concat fs) ++ rest) ≡ (front ++ f) ++ (concat fs ++ rest) = simp append_assoc in
    let len : length (front ++ f) ≡ at + n = omega (arith, length-append front f, e, h.0) in
    let first : part (front ++ ((f ++ concat fs) ++ rest)) at n ≡ f =
    ap (take n) (drop_at front ((f ++ concat fs) ++ rest) at e)
    ∙ ap (take n) (append_assoc f (concat fs) rest)
    ∙ take_at f (concat fs ++ rest) n h.0 in
    let others : cut (at + n) ns (front ++ ((f ++ concat fs) ++ rest)) ≡ fs =
    ap (cut (at + n) ns) regroup ∙ cut-joined (at + n) ns (front ++ f) fs rest len h.1 in
    λ i. first i ∷ others i

length-joined : (at : ℕ) (ns : List ℕ) (fields : List (List ℕ)) → AreSized ns fields → at + length (concat fields) ≡ end at ns
length-joined at [] [] h = omega arith
length-joined at [] (f ∷ fs) h = absurd h
length-joined at (n ∷ ns) [] h = absurd h
length-joined at (n ∷ ns) (f ∷ fs) h = omega (arith, length-append f (concat fs), h.0, length-joined (at + n) ns fs h.1)

-- Parts that were cut concatenate to the same bytes.
joined-cut : (at : ℕ) (ns : List ℕ) (bytes : List ℕ) → concat (cut at ns bytes) ++ drop (end at ns) bytes ≡ drop at bytes
joined-cut at [] bytes = refl
joined-cut at (n ∷ ns) bytes =
    append_assoc (part bytes at n) (concat (cut (at + n) ns bytes)) (drop (end (at + n) ns) bytes)
    ∙ ap (λ (t : List ℕ). part bytes at n ++ t) (joined-cut (at + n) ns bytes ∙ sym (drop-drop n at bytes))
    ∙ take-append-drop n (drop at bytes)

-- ---- the header's fields

abbrev sizes : List ℕ
sizes = 1 ∷ 1 ∷ 1 ∷ 1 ∷ 4 ∷ 2 ∷ 2 ∷ 4 ∷ 4 ∷ 4 ∷ 4 ∷ 16 ∷ 64 ∷ 128 ∷ []

sized_fields : (h : HeaderValue) → IsSized h → AreSized sizes (fields_of h)
sized_fields h s = (refl, (refl, (refl, (refl, (s.xid, (s.secs, (refl, (s.ciaddr, (s.yiaddr, (s.siaddr, (s.giaddr, (s.chaddr, (s.sname, (s.file, tt))))))))))))))

pub length-header_bytes : (h : HeaderValue) → IsSized h → length (header_bytes h) ≡ 236
length-header_bytes h s = omega (arith, length-joined 0 sizes (fields_of h) (sized_fields h s))

pub length-part : (bytes : List ℕ) (at len : ℕ) → at + len ≤ length bytes → length (part bytes at len) ≡ len
length-part bytes at len h =
    let fits : len ≤ length (drop at bytes) = omega (arith, length-drop at bytes) in
    length-take-le len (drop at bytes) fits

one_byte : (bytes : List ℕ) (at : ℕ) → at < length bytes → part bytes at 1 ≡ get_or bytes at 0 ∷ []
one_byte bytes at h = ap (take 1) (drop-cons bytes at 0 h)

-- ---- from fields to bytes and back

-- Bytes that begin with a header have that header.
pub record Begins (bytes : List ℕ) (h : HeaderValue) (tail : List ℕ) : Type 0 where
  pub long : 240 ≤ length bytes
  pub cookie : HasCookie bytes
  pub ethernet : IsEthernet bytes
  pub header : header_at bytes ≡ h
  pub behind : drop 240 bytes ≡ tail

pub begins : (bytes : List ℕ) (h : HeaderValue) (tail : List ℕ) → IsSized h → bytes ≡ header_bytes h ++ (MAGIC_COOKIE ++ tail) → Begins bytes h tail
begins bytes h tail s whole =
    let front = length-header_bytes h s in
    let behind_header : drop 236 bytes ≡ MAGIC_COOKIE ++ tail = ap (drop 236) whole ∙ drop_at (header_bytes h) (MAGIC_COOKIE ++ tail) 236 front in
    let parts : cut 0 sizes bytes ≡ fields_of h = ap (cut 0 sizes) whole ∙ cut-joined 0 sizes [] (fields_of h) (MAGIC_COOKIE ++ tail) refl (sized_fields h s) in
    let long : 240 ≤ length bytes = omega (arith, ap length whole, length-append (header_bytes h) (MAGIC_COOKIE ++ tail), front, length-append MAGIC_COOKIE tail) in
    let op_byte : part bytes 0 1 ≡ get_or bytes 0 0 ∷ [] = one_byte bytes 0 (omega arith) in
    let htype_byte : part bytes 1 1 ≡ get_or bytes 1 0 ∷ [] = one_byte bytes 1 (omega arith) in
    let hlen_byte : part bytes 2 1 ≡ get_or bytes 2 0 ∷ [] = one_byte bytes 2 (omega arith) in
    let hops_byte : part bytes 3 1 ≡ get_or bytes 3 0 ∷ [] = one_byte bytes 3 (omega arith) in
    let op : get_or bytes 0 0 ≡ h.op = cc in
    let htype : get_or bytes 1 0 ≡ 1 = cc in
    let hlen : get_or bytes 2 0 ≡ 6 = cc in
    let hops : get_or bytes 3 0 ≡ h.hops = cc in
    let xid : part bytes 4 4 ≡ h.xid = cc in
    let secs : part bytes 8 2 ≡ h.secs = cc in
    let flag_bytes : part bytes 10 2 ≡ to_be_bytes w16 h.flags = cc in
    let flags : from_be_bytes w16 (part bytes 10 2) ≡ h.flags = ap (from_be_bytes w16) flag_bytes ∙ from_be_bytes-to_be_bytes_2 h.flags s.flags in
    let ciaddr : part bytes 12 4 ≡ h.ciaddr = cc in
    let yiaddr : part bytes 16 4 ≡ h.yiaddr = cc in
    let siaddr : part bytes 20 4 ≡ h.siaddr = cc in
    let giaddr : part bytes 24 4 ≡ h.giaddr = cc in
    let chaddr : part bytes 28 16 ≡ h.chaddr = cc in
    let sname : part bytes 44 64 ≡ h.sname = cc in
    let file : part bytes 108 128 ≡ h.file = cc in
    record {
      long = long;
      cookie = ap (take 4) behind_header ∙ take_at MAGIC_COOKIE tail 4 refl;
      ethernet = (htype, hlen);
      header = λ i. record { op = op i; hops = hops i; xid = xid i; secs = secs i; flags = flags i; ciaddr = ciaddr i; yiaddr = yiaddr i; siaddr = siaddr i; giaddr = giaddr i; chaddr = chaddr i; sname = sname i; file = file i };
      behind = sym (drop-drop 4 236 bytes) ∙ ap (drop 4) behind_header ∙ drop_at MAGIC_COOKIE tail 4 refl;
    }

part_fits : (bytes : List ℕ) (at len i : ℕ) → AreBytes bytes → get_or (part bytes at len) i 0 < 256
part_fits bytes at len i fits =
    elim (cases_lt i len) [
      | inl lt ↦ rw (get_or-take len (drop at bytes) i 0 lt, get_or-drop at bytes i 0) (fits.each (at + i))
      | inr le ↦ past len (drop at bytes) i le
    ]
  where
    past : (len : ℕ) (bytes : List ℕ) (i : ℕ) → len ≤ i → get_or (take len bytes) i 0 < 256
    past len bytes i le =
        let short : length (take len bytes) ≤ i = omega (arith, length-take len bytes) in
        rw (get_or_past (take len bytes) i 0 short) (lit< tt)

-- The fields of bytes are sized.
pub sized_at : (bytes : List ℕ) → AreBytes bytes → 240 ≤ length bytes → IsSized (header_at bytes)
sized_at bytes fits long = record {
  xid = length-part bytes 4 4 (omega arith);
  secs = length-part bytes 8 2 (omega arith);
  flags = omega (arith, part_fits bytes 10 2 0 fits, part_fits bytes 10 2 1 fits);
  ciaddr = length-part bytes 12 4 (omega arith);
  yiaddr = length-part bytes 16 4 (omega arith);
  siaddr = length-part bytes 20 4 (omega arith);
  giaddr = length-part bytes 24 4 (omega arith);
  chaddr = length-part bytes 28 16 (omega arith);
  sname = length-part bytes 44 64 (omega arith);
  file = length-part bytes 108 128 (omega arith);
}

-- The bytes of the flags are those of their number.
flag_bytes : (bytes : List ℕ) → AreBytes bytes → 240 ≤ length bytes → to_be_bytes w16 (from_be_bytes w16 (part bytes 10 2)) ≡ part bytes 10 2
flag_bytes bytes fits long = be_bytes_2 (part bytes 10 2) _ (length-part bytes 10 2 (omega arith)) (λ i. part_fits bytes 10 2 i fits) refl

-- Bytes with a cookie are their header, the cookie, and the bytes after it.
pub whole : (bytes : List ℕ) → AreBytes bytes → 240 ≤ length bytes → HasCookie bytes → IsEthernet bytes → bytes ≡ header_bytes (header_at bytes) ++ (MAGIC_COOKIE ++ drop 240 bytes)
whole bytes fits long cookie ethernet =
    let op : part bytes 0 1 ≡ get_or bytes 0 0 ∷ [] = one_byte bytes 0 (omega arith) in
    let htype : part bytes 1 1 ≡ 1 ∷ [] = one_byte bytes 1 (omega arith) ∙ ap (λ (n : ℕ). n ∷ []) ethernet.0 in
    let hlen : part bytes 2 1 ≡ 6 ∷ [] = one_byte bytes 2 (omega arith) ∙ ap (λ (n : ℕ). n ∷ []) ethernet.1 in
    let hops : part bytes 3 1 ≡ get_or bytes 3 0 ∷ [] = one_byte bytes 3 (omega arith) in
    let flags = flag_bytes bytes fits long in
    let parts : cut 0 sizes bytes ≡ fields_of (header_at bytes) =
    λ i. op i ∷ htype i ∷ hlen i ∷ hops i ∷ part bytes 4 4 ∷ part bytes 8 2 ∷ sym flags i
    ∷ part bytes 12 4 ∷ part bytes 16 4 ∷ part bytes 20 4 ∷ part bytes 24 4
    ∷ part bytes 28 16 ∷ part bytes 44 64 ∷ part bytes 108 128 ∷ [] in
    let tail : drop 236 bytes ≡ MAGIC_COOKIE ++ drop 240 bytes =
    sym (take-append-drop 4 (drop 236 bytes))
    ∙ ap (λ (t : List ℕ). t ++ drop 4 (drop 236 bytes)) cookie
    ∙ ap (λ (t : List ℕ). MAGIC_COOKIE ++ t) (drop-drop 4 236 bytes) in
    sym (joined-cut 0 sizes bytes)
    ∙ ap (λ (fields : List (List ℕ)). concat fields ++ drop 236 bytes) parts
    ∙ ap (λ (t : List ℕ). header_bytes (header_at bytes) ++ t) tail

-- ---- a header that is written as it was read

-- Bytes with a cookie begin with their header and the cookie.
pub front : (bytes : List ℕ) → AreBytes bytes → 240 ≤ length bytes → HasCookie bytes → IsEthernet bytes → take 240 bytes ≡ header_bytes (header_at bytes) ++ MAGIC_COOKIE
front bytes fits long cookie ethernet =
    let header : List ℕ = header_bytes (header_at bytes) in
    let len : length (header ++ MAGIC_COOKIE) ≡ 240 = omega (arith, length-append header MAGIC_COOKIE, length-header_bytes (header_at bytes) (sized_at bytes fits long)) in
    ap (take 240) (whole bytes fits long cookie ethernet ∙ sym (append_assoc header MAGIC_COOKIE (drop 240 bytes)))
    ∙ take_at (header ++ MAGIC_COOKIE) (drop 240 bytes) 240 len

-- A part is the smaller parts in it, concatenated.
part-cut : (at n : ℕ) (ns : List ℕ) (bytes : List ℕ) → at + n ≡ end at ns → at + n ≤ length bytes → part bytes at n ≡ concat (cut at ns bytes)
part-cut at n ns bytes e fits =
    let pieces : List ℕ = concat (cut at ns bytes) in
    let len : length pieces ≡ n = omega (arith, e, fits, ap length (joined-cut at ns bytes), length-append pieces (drop (end at ns) bytes), length-drop at bytes, length-drop (end at ns) bytes) in
    ap (take n) (sym (joined-cut at ns bytes)) ∙ take_at pieces (drop (end at ns) bytes) n len

forwarded_pieces : (out op htype hlen hops xid secs flags ciaddr yiaddr siaddr giaddr chaddr sname file cookie : List ℕ)
    → ((((out ++ (op ++ (htype ++ (hlen ++ [])))) ++ hops) ++ (xid ++ (secs ++ (flags ++ (ciaddr ++ (yiaddr ++ (siaddr ++ []))))))) ++ giaddr) ++ (chaddr ++ (sname ++ (file ++ (cookie ++ []))))
    ≡ out ++ ((op ++ (htype ++ (hlen ++ (hops ++ (xid ++ (secs ++ (flags ++ (ciaddr ++ (yiaddr ++ (siaddr ++ (giaddr ++ (chaddr ++ (sname ++ (file ++ [])))))))))))))) ++ cookie)
forwarded_pieces out op htype hlen hops xid secs flags ciaddr yiaddr siaddr giaddr chaddr sname file cookie = simp (append_assoc, append-nil)

-- With another hop count and giaddr between them, its bytes are the header with these.
pub forwarded : (out bytes : List ℕ) (hops : ℕ) (giaddr : List ℕ) → AreBytes bytes → 240 ≤ length bytes → HasCookie bytes → IsEthernet bytes
    → ((((out ++ part bytes 0 3) ++ hops ∷ []) ++ part bytes 4 20) ++ giaddr) ++ part bytes 28 212
    ≡ out ++ (header_bytes (record (header_at bytes) { hops = hops; giaddr = giaddr }) ++ MAGIC_COOKIE)
forwarded out bytes hops giaddr fits long cookie ethernet =
    let op : part bytes 0 1 ≡ get_or bytes 0 0 ∷ [] = one_byte bytes 0 (omega arith) in
    let htype : part bytes 1 1 ≡ 1 ∷ [] = one_byte bytes 1 (omega arith) ∙ ap (λ (n : ℕ). n ∷ []) ethernet.0 in
    let hlen : part bytes 2 1 ≡ 6 ∷ [] = one_byte bytes 2 (omega arith) ∙ ap (λ (n : ℕ). n ∷ []) ethernet.1 in
    let flags = sym (flag_bytes bytes fits long) in
    let first = part-cut 0 3 (1 ∷ 1 ∷ 1 ∷ []) bytes refl (omega arith) ∙ λ i. op i ++ (htype i ++ (hlen i ++ [])) in
    let middle = part-cut 4 20 (4 ∷ 2 ∷ 2 ∷ 4 ∷ 4 ∷ 4 ∷ []) bytes refl (omega arith)
    ∙ λ i. part bytes 4 4 ++ (part bytes 8 2 ++ (flags i ++ (part bytes 12 4 ++ (part bytes 16 4 ++ (part bytes 20 4 ++ []))))) in
    let last = part-cut 28 212 (16 ∷ 64 ∷ 128 ∷ 4 ∷ []) bytes refl (omega arith)
    ∙ λ i. part bytes 28 16 ++ (part bytes 44 64 ++ (part bytes 108 128 ++ (cookie i ++ []))) in
    (λ i. ((((out ++ first i) ++ hops ∷ []) ++ middle i) ++ giaddr) ++ last i)
    ∙ forwarded_pieces out (get_or bytes 0 0 ∷ []) (1 ∷ []) (6 ∷ []) (hops ∷ []) (part bytes 4 4) (part bytes 8 2) (to_be_bytes w16 (from_be_bytes w16 (part bytes 10 2)))
    (part bytes 12 4) (part bytes 16 4) (part bytes 20 4) giaddr (part bytes 28 16) (part bytes 44 64) (part bytes 108 128) MAGIC_COOKIE
