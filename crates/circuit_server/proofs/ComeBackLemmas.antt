-- What a circuit has after its region was moved, or was not.
use Rattle.std.proofs.Common.{◌≡◌, inl, ℕ, Bool, true, false, Option, Some, None, refl, sym, ap, ◌∙◌, arith}
use Rattle.std.specs.Prelude.{◌==◌, ◌&&◌, ◌||◌, not, nat_le, is_some, option_map, if◌then◌else◌}
use Rattle.config.specs.CircuitPart.{CircuitPart, IsPart}
use Rattle.lease_disk.specs.Layout.{is_format2}
use Rattle.lease_disk.specs.Moving.{HasAddress, IsMigrated, moves, succeeds}
use Rattle.lease_disk.specs.Recovered.{recovered}
use Rattle.lease_disk.specs.Region.{Region, effective, image, IsClean, IsCrash, OthersUnchanged}
use Rattle.lease_disk.specs.declared.marks.Mark.{Mark}
use Rattle.lease_disk.specs.Save.{gate_at, other}
use Rattle.lease_disk.proofs.Halves.{format_apart}
use Rattle.circuit_server.specs.Leases.{Leases, book_in, counts_of, formats_of, found_book, is_moved, moved_format, recovered_book, region_leases, restarts_of}
use Rattle.circuit_server.specs.Server.{Book}

-- a crash that makes each unsynced byte this one
image_crash : (byte : ℕ) (r : Region) → IsCrash r (image byte r)
image_crash byte r = record { same = λ i u. ap (λ b. if b then byte else r.byte i) u }

read_crash : (r : Region) → IsCrash r r.byte
read_crash r = record { same = λ i u. refl }

is_some_map : {A B : Type 0} → (f : A → B) (o : Option A) → is_some (option_map f o) ≡ is_some o
is_some_map f None = refl
is_some_map f (Some x) = refl

module _ (part : CircuitPart) (has : HasAddress (counts_of part)) (fault : ℕ) (old new : Region) (readable : old.readable ≡ true) (m : IsMigrated (counts_of part) fault old new) where
  -- whatever a restart finds is the book that was there
  pub same_restarts : restarts_of part new ≡ (λ any. recovered_book part old.byte)
  same_restarts = λ j. λ byte. option_map (book_in part) (m.kept has (image byte new) (image_crash byte new) j)

  pub same_found : recovered_book part new.byte ≡ recovered_book part old.byte
  same_found = ap (option_map (book_in part)) (m.kept has new.byte (read_crash new))

  pub moves_is : moves (counts_of part) old ≡ is_moved (recovered_book part old.byte) (is_format2 old.byte)
  moves_is = λ j. readable j && sym (is_some_map (book_in part) (recovered (counts_of part) old.byte)) j && not (is_format2 old.byte)

  was_new : (b : Bool) → is_moved (recovered_book part old.byte) (is_format2 old.byte) ≡ b → b ≡ true → is_format2 old.byte ≡ false
  was_new b e t = not_two (is_some (recovered_book part old.byte)) (is_format2 old.byte) (e ∙ t) where
    not_two : (s two : Bool) → (s && not two) ≡ true → two ≡ false
    not_two true true h = absurd cc
    not_two true false h = refl
    not_two false two h = absurd cc

  doubtful : (k byte : ℕ) (late : Bool) → nat_le 3 fault ≡ late → k ≡ fault → (k == 0) ≡ false → (effective 4 fault ≡ 0 → ⊥) → moves (counts_of part) old ≡ true → is_format2 old.byte ≡ false
      → formats_of new byte ≡ moved_format k byte
  doubtful k byte true e is some fails t two =
      let doubt : new.unsynced 8192 ≡ true = m.doubt t fails ∙ e in
      ap (λ b. (if b then byte else new.byte 8192) == 2) doubt ∙ sym (λ j. some j || (ap (nat_le 3) is ∙ e) j && byte == 2)
  doubtful k byte false e is some fails t two =
      let doubt : new.unsynced 8192 ≡ false = m.doubt t fails ∙ e in
      ap (λ b. (if b then byte else new.byte 8192) == 2) doubt ∙ ap (λ n. n == 2) (m.format t fails e) ∙ two ∙ sym (λ j. some j || (ap (nat_le 3) is ∙ e) j && byte == 2)

  by_call : (byte k : ℕ) (none : Bool) → (k == 0) ≡ none → effective 4 fault ≡ k → moves (counts_of part) old ≡ true → is_format2 old.byte ≡ false → formats_of new byte ≡ moved_format k byte
  by_call byte k true e is t two =
      let zero : effective 4 fault ≡ 0 = let z : k ≡ 0 = grind (arith, e) in is ∙ z in
      let clean = (m.clean t zero).each 8192 in
      ap (λ b. (if b then byte else new.byte 8192) == 2) clean ∙ m.is_new t zero ∙ sym (ap (λ b. b || nat_le 3 k && byte == 2) e)
  by_call byte k false e is t two =
      let fails : effective 4 fault ≡ 0 → ⊥ = λ z. absurd (grind (arith, e, is, z)) in
      doubtful k byte (nat_le 3 fault) refl (effective_is fault k is fails) e fails t two where
        effective_is : (f n : ℕ) → effective 4 f ≡ n → (effective 4 f ≡ 0 → ⊥) → n ≡ f
        effective_is f n e some = by (nat_le f 4) refl where
          by : (b : Bool) → nat_le f 4 ≡ b → n ≡ f
          by true h = sym e ∙ ap (λ b. if b then f else 0) h
          by false h = absurd (some (ap (λ b. if b then f else 0) h))

  same_format : IsClean old → (byte : ℕ) (b : Bool) → is_moved (recovered_book part old.byte) (is_format2 old.byte) ≡ b → formats_of new byte ≡ (if b then moved_format (effective 4 fault) byte else is_format2 old.byte)
  same_format clean byte true e = by_call byte (effective 4 fault) (effective 4 fault == 0) refl refl (moves_is ∙ e) (was_new true e refl)
  same_format clean byte false e =
      ap (λ (r : Region). formats_of r byte) (m.still (moves_is ∙ e)) ∙ ap (λ b. (if b then byte else old.byte 8192) == 2) (clean.each 8192)

  pub same_formats : IsClean old → formats_of new ≡ (λ byte. if is_moved (recovered_book part old.byte) (is_format2 old.byte) then moved_format (effective 4 fault) byte else is_format2 old.byte)
  same_formats clean = λ j. λ byte. same_format clean byte (is_moved (recovered_book part old.byte) (is_format2 old.byte)) refl j

-- a save leaves the format
pub formats_same : (s : ℕ) (mark : Mark) (old new : Region) → OthersUnchanged (gate_at s mark) 256 old new → formats_of new ≡ formats_of old
formats_same s mark old new beside =
    let apart = format_apart s (other mark.half) in
    λ j. λ byte. (if beside.unsynced 8192 apart j then byte else beside.byte 8192 apart j) == 2

-- whether the circuit is open

went_well : (s two z : Bool) → (s && (two || z)) ≡ true → ((s && not two) && not z) ≡ false
went_well true true z h = refl
went_well true false true h = refl
went_well true false false h = absurd cc
went_well false two z h = absurd cc

none_of : {A : Type 0} → (o : Option A) → is_some o ≡ false → o ≡ None
none_of None h = refl
none_of (Some x) h = absurd cc

went_wrong : (kept : Option Book) (two z : Bool) → (is_some kept && (two || z)) ≡ false → None ≡ (if (is_some kept && not two) && not z then None else kept)
went_wrong None two z h = refl
went_wrong (Some b) true z h = absurd cc
went_wrong (Some b) false true h = absurd cc
went_wrong (Some b) false false h = refl

abbrev pub left_leases : CircuitPart → Region → Option Book → Leases
left_leases part region book = record { book = book; restarts = restarts_of part region; is_new = formats_of region }

module _ (part : CircuitPart) (has : HasAddress (counts_of part)) (fault : ℕ) (old new : Region) (clean : old.readable ≡ true → IsClean old)
    (still : moves (counts_of part) old ≡ false → new ≡ old) (moved : old.readable ≡ true → IsMigrated (counts_of part) fault old new) where
  succeeds_is : old.readable ≡ true → succeeds (counts_of part) fault old ≡ (is_some (recovered_book part old.byte) && (is_format2 old.byte || effective 4 fault == 0))
  succeeds_is readable = λ j. readable j && sym (is_some_map (book_in part) (recovered (counts_of part) old.byte)) j && (is_format2 old.byte || effective 4 fault == 0)

  unreadable : old.readable ≡ false → succeeds (counts_of part) fault old ≡ false
  unreadable e = ap (λ b. b && is_some (recovered (counts_of part) old.byte) && (is_format2 old.byte || effective 4 fault == 0)) e

  unread_moves : old.readable ≡ false → moves (counts_of part) old ≡ false
  unread_moves e = ap (λ b. b && is_some (recovered (counts_of part) old.byte) && not (is_format2 old.byte)) e

  by_readable_done : (b : Bool) → old.readable ≡ b → succeeds (counts_of part) fault old ≡ true → left_leases part new (found_book part new) ≡ region_leases part fault old b
  by_readable_done true e well =
      let m = moved e in
      let kept = recovered_book part old.byte in
      let here : found_book part new ≡ kept = ap (λ b. if b then recovered_book part new.byte else None) (m.readable ∙ e) ∙ same_found part has fault old new e m in
      let not_closed = went_well (is_some kept) (is_format2 old.byte) (effective 4 fault == 0) (sym (succeeds_is e) ∙ well) in
      let book : found_book part new ≡ (if is_moved kept (is_format2 old.byte) && not (effective 4 fault == 0) then None else kept) = here ∙ sym (ap (λ b. if b then None else kept) not_closed) in
      λ j. record { book = book j; restarts = same_restarts part has fault old new e m j; is_new = same_formats part has fault old new e m (clean e) j }
  by_readable_done false e well = absurd (let both = sym well ∙ unreadable e in cc)

  by_readable_failed : (b : Bool) → old.readable ≡ b → succeeds (counts_of part) fault old ≡ false → left_leases part new None ≡ region_leases part fault old b
  by_readable_failed true e bad =
      let m = moved e in
      let kept = recovered_book part old.byte in
      let closed = went_wrong kept (is_format2 old.byte) (effective 4 fault == 0) (sym (succeeds_is e) ∙ bad) in
      λ j. record { book = closed j; restarts = same_restarts part has fault old new e m j; is_new = same_formats part has fault old new e m (clean e) j }
  by_readable_failed false e bad = ap (λ r. left_leases part r None) (still (unread_moves e))

  pub done_leases : true ≡ succeeds (counts_of part) fault old → left_leases part new (found_book part new) ≡ region_leases part fault old old.readable
  done_leases well = by_readable_done old.readable refl (sym well)

  pub failed_leases : false ≡ succeeds (counts_of part) fault old → left_leases part new None ≡ region_leases part fault old old.readable
  failed_leases bad = by_readable_failed old.readable refl (sym bad)

-- each circuit has an address
pub has_address : (part : CircuitPart) → IsPart part → HasAddress (counts_of part)
has_address part is = inl is.pool4.least
