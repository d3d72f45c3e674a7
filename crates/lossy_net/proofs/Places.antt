-- Datagrams in one row of bytes, which has `room` bytes for each.
use Rattle.std.proofs.Common.{◌≡◌, ◌≢◌, ℕ, ◌+◌, ◌-◌, ◌*◌, ◌<◌, ◌≤◌, List, length, get_or, take, drop, set, ap, sym, ◌∙◌, arith, inl, inr, length-set, length-drop, length-take-le, get_or-set_same, get_or-set_other}
use Rattle.std.proofs.lemmas.Bool.{cases_eq, cases_lt}
use Rattle.std.proofs.lemmas.Nat.{row_fits}
use Rattle.std.proofs.lemmas.List.{same_lists, drop-take, get_or_read}
use Rattle.std.proofs.lemmas.List.FromFn.{length-map-range_with_len, get_or-map-range_with_len}
use Rattle.std.proofs.lemmas.Option.{slice_get-get_or}
use Rattle.std.proofs.lemmas.Slice.{take-put_mid_below, between-put_mid, drop-put_mid}
use Rattle.std.specs.Prelude.{Some, slice_get}
use borrow.Rule.Slice.PartMut.{put_mid, same_len_mid}
use Rattle.lossy_net.specs.Net.{Datagram}
use Rattle.lossy_net.specs.Places.{head_at, datagram_in, datagrams_in, all_datagrams, IsFilled}
use Rattle.lossy_net.specs.declared.packets.Head.{Head}
use Rattle.lossy_net.specs.declared.packets.Packets.TheInside.{Inside}

module _ (room : ℕ) (heads : List Head) (bytes : List ℕ) where
  pub length-datagrams_in : length (datagrams_in room heads bytes) ≡ length heads
  length-datagrams_in = length-map-range_with_len (datagram_in room heads bytes) 0 (length heads)

  pub get_or-datagrams_in : (p : ℕ) (d : Datagram) → p < length heads → get_or (datagrams_in room heads bytes) p d ≡ datagram_in room heads bytes p
  get_or-datagrams_in p d low = get_or-map-range_with_len (datagram_in room heads bytes) 0 (length heads) p p d low (omega arith)

-- what a write of h and x in place p leaves; k is how many bytes it writes over
module _ (room : ℕ) (heads : List Head) (bytes : List ℕ) (p : ℕ) (h : Head) (x : List ℕ) (k : ℕ)
    (low : p < length heads) (whole : length bytes ≡ length heads * room) (each : (q : ℕ) → (head_at heads q).len ≤ room)
    (len : h.len ≡ length x) (fits : length x ≤ room) (over : k ≡ length x) where
  end_below : p * room + room ≤ length bytes
  end_below = let row : p * room + room ≤ length heads * room = row_fits p room (length heads) room low (omega arith) in omega arith

  -- the place has what was written
  written_here : datagram_in room (set heads p h) (put_mid (p * room) k bytes x) p ≡ record { proto = h.proto; bytes = x }
  written_here =
      let new = put_mid (p * room) k bytes x in
      let head : head_at (set heads p h) p ≡ h = get_or-set_same heads p h _ low in
      let read : take (p * room + k - p * room) (drop (p * room) new) ≡ x = between-put_mid (p * room) k bytes x (p * room + k) (omega (arith, end_below)) (omega arith) in
      let count : h.len ≡ p * room + k - p * room = omega arith in
      ap (λ (s : Head). record { proto = s.proto; bytes = take s.len (drop (p * room) new) }) head
      ∙ ap (λ list. record { proto = h.proto; bytes = list }) (ap (λ n. take n (drop (p * room) new)) count ∙ read)

  -- the bytes of each other place are as they were
  bytes_apart : (q n : ℕ) → q ≢ p → n ≤ room → take n (drop (q * room) (put_mid (p * room) k bytes x)) ≡ take n (drop (q * room) bytes)
  bytes_apart q n other short = elim (cases_lt q p) [
    | inl before ↦
        let row : q * room + room ≤ p * room = row_fits q room p room before (omega arith) in
        sym (drop-take (q * room) n _)
        ∙ ap (drop (q * room)) (take-put_mid_below (p * room) k bytes x (q * room + n) (omega arith) (omega (arith, end_below)))
        ∙ drop-take (q * room) n bytes
    | inr behind ↦
        let row : p * room + room ≤ q * room = row_fits p room q room (omega (arith, other)) (omega arith) in
        ap (take n) (drop-put_mid (p * room) k bytes x (q * room) (omega arith) (omega (arith, end_below)) (omega arith))
  ]

  written_apart : (q : ℕ) → q ≢ p → datagram_in room (set heads p h) (put_mid (p * room) k bytes x) q ≡ datagram_in room heads bytes q
  written_apart q other =
      ap (λ (s : Head). record { proto = s.proto; bytes = take s.len (drop (q * room) (put_mid (p * room) k bytes x)) }) (get_or-set_other heads p q h _ other)
      ∙ ap (λ list. record { proto = (head_at heads q).proto; bytes = list }) (bytes_apart q (head_at heads q).len other (each q))

  pub datagrams_in-set : datagrams_in room (set heads p h) (put_mid (p * room) k bytes x) ≡ set (datagrams_in room heads bytes) p (record { proto = h.proto; bytes = x })
  datagrams_in-set =
      let new = put_mid (p * room) k bytes x in
      let written : Datagram = record { proto = h.proto; bytes = x } in
      let length_heads = length-set heads p h in
      let length_new = length-datagrams_in room (set heads p h) new in
      let length_old = length-datagrams_in room heads bytes in
      let length_set = length-set (datagrams_in room heads bytes) p written in
      same_lists _ _ (omega arith) (λ q d below.
      get_or-datagrams_in room (set heads p h) new q d (omega arith) ∙ elim (cases_eq q p) [
        | inl same ↦
            ap (datagram_in room (set heads p h) new) same ∙ written_here
            ∙ sym (get_or-set_same (datagrams_in room heads bytes) p written d (omega arith))
            ∙ ap (λ j. get_or (set (datagrams_in room heads bytes) p written) j d) (sym same)
        | inr other ↦
            written_apart q other
            ∙ sym (get_or-datagrams_in room heads bytes q d (omega arith))
            ∙ sym (get_or-set_other (datagrams_in room heads bytes) p q written d other)
      ])

-- ---- as the code keeps them

-- the bytes of a place end within the row
end_within : (n : Inside) (p : ℕ) → IsFilled n → p < length n.heads.items → p * 1280 + 1280 ≤ length n.bytes.items
end_within n p filled low =
    let row : p * 1280 + 1280 ≤ length n.heads.items * 1280 = row_fits p 1280 (length n.heads.items) 1280 low (omega arith) in
    omega (arith, filled.bytes)

-- a place that the list has is one of both rows
module _ (n : Inside) (list : List Datagram) (p : ℕ) (view : all_datagrams n ≡ list) (low : p < length list) where
  pub head_there : p < length n.heads.items
  head_there = omega (arith, length-datagrams_in 1280 n.heads.items n.bytes.items, ap (λ (all : List Datagram). length all) view)

  pub within_rows : IsFilled n → (p < n.heads.len) × (p * 1280 + 1280 ≤ n.bytes.len)
  within_rows filled = (omega (arith, head_there, n.heads.ok.0), omega (arith, end_within n p filled head_there, n.bytes.ok.0))

-- a write of x into a place leaves the row as long as it was
pub length-written : (n : Inside) (p k : ℕ) (x : List ℕ) → IsFilled n → p < length n.heads.items → k ≡ length x → length x ≤ 1280 → length (put_mid (p * 1280) k n.bytes.items x) ≡ length n.bytes.items
length-written n p k x filled low over fits =
    let end = end_within n p filled low in
    same_len_mid (p * 1280) k n.bytes.items x (sym (length-take-le k (drop (p * 1280) n.bytes.items) (omega (arith, length-drop (p * 1280) n.bytes.items)) ∙ over))

-- `head` is what a read of `heads[p]` gives
module _ (n : Inside) (p : ℕ) (head : Head) where
  head_is : p < length n.heads.items → head ≡ get_or n.heads.items p head → head ≡ head_at n.heads.items p
  head_is low read = get_or_read n.heads.items p head low read _

  pub len_within : IsFilled n → p < length n.heads.items → head ≡ get_or n.heads.items p head → head.len ≤ 1280
  len_within filled low read = omega (arith, ap (λ (s : Head). s.len) (head_is low read), filled.each p)

  pub read_at : p < length n.heads.items → head ≡ get_or n.heads.items p head
      → slice_get (all_datagrams n) p ≡ Some (record { proto = head.proto; bytes = take head.len (drop (p * 1280) n.bytes.items) })
  read_at low read =
      let there = datagram_in 1280 n.heads.items n.bytes.items p in
      slice_get-get_or (all_datagrams n) p there (omega (arith, length-datagrams_in 1280 n.heads.items n.bytes.items))
      ∙ ap Some (get_or-datagrams_in 1280 n.heads.items n.bytes.items p there low)
      ∙ ap (λ (s : Head). Some (record { proto = s.proto; bytes = take s.len (drop (p * 1280) n.bytes.items) })) (sym (head_is low read))
