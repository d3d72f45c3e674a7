-- What a crash leaves after each call of a move.
use Rattle.std.proofs.Common.{◌≡◌, ℕ, ◌+◌, ◌-◌, ◌<◌, ◌≤◌, Bool, true, false, List, [], ◌∷◌, length, slice_index, Some, Err, refl, sym, ap, subst, ◌∙◌, arith}
use Rattle.std.specs.Prelude.{◌==◌, ◌&&◌, ◌||◌, not, is_some, None, nat_le, nat_lt, if◌then◌else◌}
use Rattle.types.specs.declared.slots.Slots.{Slots}
use Rattle.lease_disk.specs.declared.recovering.RecoverFault.{RecoverFault}
use Rattle.lease_disk.specs.declared.recovering.RecoverFault.TheVariants.{DiskFault, Damaged}
use Rattle.lease_disk.specs.Recover.{Answers}
use Rattle.lease_disk.specs.Book.{IsBook}
use Rattle.lease_disk.specs.HalfBytes.{half_bytes}
use Rattle.lease_disk.specs.Keys.{HasKey}
use Rattle.lease_disk.specs.Layout.{is_format2}
use Rattle.lease_disk.specs.Moving.{HasAddress, InDoubt, IsHalfMoved, IsMigrated, content_at, migrated, moved_half, moved_of, moves}
use Rattle.lease_disk.specs.Recovered.{last_clock, recovered}
use Rattle.lease_disk.specs.Region.{Region, effective, is_within, written, synced, IsClean, IsCrash, IsTorn}
use Rattle.lease_disk.proofs.Halves.{is_inside}
use Rattle.lease_disk.proofs.Moved.{moved_book}
use Rattle.lease_disk.proofs.Reading.{same_banks}
use Rattle.lease_disk.proofs.Steps.{outside}
use Rattle.lease_disk.proofs.Stops.{or_false, place_by}

early_place : (i : ℕ) → i < 8192 → is_within 16384 16384 i ≡ false
early_place i h = grind (arith, h)

not_format : (i : ℕ) → i < 8192 → is_within 8192 1 i ≡ false
not_format i h = grind (arith, h)

behind_format : (i : ℕ) → is_within 8192 1 (16384 + i) ≡ false
behind_format i = grind arith

-- the writes of a move, one of whose calls failed

early_is : (k : ℕ) → false ≡ (effective 2 k == 0) → nat_le 3 k ≡ false
early_is k answer = grind arith

late_is : (k k1 : ℕ) → k1 ≡ k - 2 → false ≡ (effective 2 k1 == 0) → nat_le 3 k ≡ true
late_is k k1 is answer = grind arith

not_four : (k : ℕ) → false ≡ (effective 2 k == 0) → k ≡ 4 → ⊥
not_four k answer four = grind arith

not_two : (k k1 : ℕ) → k1 ≡ k - 2 → false ≡ (effective 2 k1 == 0) → k ≡ 2 → ⊥
not_two k k1 is answer two = grind arith

only_two : (k : ℕ) → nat_le 3 k ≡ false → 2 ≤ k → k ≡ 2
only_two k early least = grind arith

module _ (halves : List ℕ) (size : length halves ≡ 16384) (old : Region) where
  pub half_first : (k : ℕ) (new : Region) → false ≡ (effective 2 k == 0) → IsTorn 16384 (length halves) old new → (k ≡ 2 → new ≡ written 16384 halves old) → IsHalfMoved k halves old new
  half_first k new answer torn reads = record {
    torn = subst (λ b. InDoubt b halves old new) (sym (early_is k answer)) (subst (λ n. IsTorn 16384 n old new) size torn);
    first = reads;
    second = λ four. absurd (not_four k answer four);
  }

  pub half_second : (k k1 : ℕ) (middle new : Region) → middle ≡ synced (written 16384 halves old) → k1 ≡ k - 2 → false ≡ (effective 2 k1 == 0) → IsTorn 8192 1 middle new
      → (k1 ≡ 2 → new ≡ written 8192 (2 ∷ []) middle) → IsHalfMoved k halves old new
  half_second k k1 middle new is f answer torn reads = record {
    torn = subst (λ b. InDoubt b halves old new) (sym (late_is k k1 f answer)) (subst (λ (r : Region). IsTorn 8192 1 r new) is torn);
    first = λ two. absurd (not_two k k1 f answer two);
    second = λ four. reads (omega (arith, f, four)) ∙ ap (written 8192 (2 ∷ [])) is;
  }

-- a region of format 1 that recovers to these slots, and the halves that are made of them
pub record IsMove (counts : List ℕ) (slots : Slots) (halves : List ℕ) (old : Region) : Type 0 where
  pub readable : old.readable ≡ true
  pub one : is_format2 old.byte ≡ false
  pub clean : IsClean old
  pub was : recovered counts old.byte ≡ Some slots
  pub book : IsBook counts slots
  pub size4 : length slots.four ≡ 16
  pub size6 : length slots.six ≡ 16
  pub small : slots.clock ≤ last_clock
  pub size : length halves ≡ 16384
  pub bytes : (i : ℕ) → i < 16384 → slice_index halves i ≡ moved_half slots i
  pub keys : (s : ℕ) → s < 32 → HasKey (content_at slots s)
  pub whole : (s : ℕ) → s < 32 → length (half_bytes 0 slots.clock (content_at slots s)) ≡ 256

module _ (counts : List ℕ) (slots : Slots) (halves : List ℕ) (old : Region) (m : IsMove counts slots halves old) where
  -- the region after the first two calls
  abbrev pub first : Region
  first = synced (written 16384 halves old)

  first_before : (i : ℕ) → i < 8192 → first.byte i ≡ old.byte i
  first_before i h = ap (λ n. if is_within 16384 n i then slice_index halves (i - 16384) else old.byte i) m.size ∙ ap (λ b. if b then slice_index halves (i - 16384) else old.byte i) (early_place i h)

  first_halves : (i : ℕ) → i < 16384 → first.byte (16384 + i) ≡ moved_half slots i
  first_halves i h =
      let back : 16384 + i - 16384 ≡ i = omega arith in
      ap (λ n. if is_within 16384 n (16384 + i) then slice_index halves (16384 + i - 16384) else old.byte (16384 + i)) m.size
      ∙ ap (λ b. if b then slice_index halves (16384 + i - 16384) else old.byte (16384 + i)) (is_inside 16384 16384 (16384 + i) (omega arith) (omega (arith, h)))
      ∙ ap (slice_index halves) back ∙ m.bytes i h

  first_clean : IsClean first
  first_clean = record { each = λ i. refl }

  -- with the byte of the format
  with_format : HasAddress counts → (f : ℕ → ℕ) → ((i : ℕ) → is_within 8192 1 i ≡ false → f i ≡ first.byte i) → (b : Bool) → is_format2 f ≡ b → recovered counts f ≡ recovered counts old.byte
  with_format some f same true two =
      moved_book counts slots m.book m.size4 m.size6 m.keys m.whole m.small f two (λ i h. same (16384 + i) (behind_format i) ∙ first_halves i h) some ∙ sym m.was
  with_format some f same false one = same_banks counts old.byte f m.one one (λ i h. same i (not_format i h) ∙ first_before i h)

  half_moved : HasAddress counts → (k : ℕ) (new : Region) (b : Bool) → InDoubt b halves old new → (f : ℕ → ℕ) → IsCrash new f → recovered counts f ≡ recovered counts old.byte
  half_moved some k new true torn f crash = with_format some f (outside 8192 1 first new f first_clean torn crash) (is_format2 f) refl
  half_moved some k new false torn f crash =
      let beside = outside 16384 16384 old new f m.clean torn crash in
      same_banks counts old.byte f m.one ((λ j. beside 8192 (grind arith) j == 2) ∙ m.one) (λ i h. beside i (early_place i h))

  left_moving : (k : ℕ) (new : Region) → IsHalfMoved k halves old new → HasAddress counts → (f : ℕ → ℕ) → IsCrash new f → recovered counts f ≡ recovered counts old.byte
  left_moving k new half some f crash = half_moved some k new (nat_le 3 k) half.torn f crash

  -- after the last call

  abbrev pub last : Region
  last = synced (written 8192 (2 ∷ []) first)

  last_beside : (i : ℕ) → is_within 8192 1 i ≡ false → last.byte i ≡ first.byte i
  last_beside i h = ap (λ b. if b then slice_index (2 ∷ []) (i - 8192) else first.byte i) h

  last_format : is_format2 last.byte ≡ true
  last_format = refl

  after_moving : (new : Region) → new ≡ last → HasAddress counts → (f : ℕ → ℕ) → IsCrash new f → recovered counts f ≡ recovered counts old.byte
  after_moving new e some f crash =
      let same : (i : ℕ) → f i ≡ last.byte i = λ i. crash.same i (ap (λ (r : Region). r.unsynced i) e) ∙ ap (λ (r : Region). r.byte i) e in
      with_format some f (λ i h. same i ∙ last_beside i h) true (λ j. same 8192 j == 2)

  last_byte : (i : ℕ) (b c : Bool) → (i == 8192) ≡ b → (nat_le 16384 i && nat_lt i 32768) ≡ c → last.byte i ≡ (if b then 2 else if c then moved_half slots (i - 16384) else old.byte i)
  last_byte i true c e h = let here : i ≡ 8192 = grind (arith, e) in ap last.byte here
  last_byte i false true e h =
      let out : is_within 8192 1 i ≡ false = grind (arith, e) in
      let least : 16384 ≤ i = grind (arith, h) in
      let most : i < 32768 = grind (arith, h) in
      let at : i ≡ 16384 + (i - 16384) = omega (arith, least) in
      last_beside i out ∙ ap first.byte at ∙ first_halves (i - 16384) (omega (arith, least, most))
  last_byte i false false e h =
      let out : is_within 8192 1 i ≡ false = grind (arith, e) in
      let beside : is_within 16384 16384 i ≡ false = grind (arith, h) in
      last_beside i out ∙ ap (λ n. if is_within 16384 n i then slice_index halves (i - 16384) else old.byte i) m.size ∙ ap (λ b. if b then slice_index halves (i - 16384) else old.byte i) beside

  moved_bytes : (new : Region) → new ≡ last → new.byte ≡ migrated counts old.byte
  moved_bytes new e =
      ap (λ (r : Region). r.byte) e ∙ (λ j. λ i. last_byte i (i == 8192) (nat_le 16384 i && nat_lt i 32768) refl refl j)
      ∙ ap (λ o. moved_of o old.byte) (sym m.was) ∙ ap (λ b. if b then old.byte else moved_of (recovered counts old.byte) old.byte) (sym m.one)

  is_moving : moves counts old ≡ true
  is_moving = λ j. m.readable j && is_some (m.was j) && not (m.one j)

  contradicts : {A : Type 0} → moves counts old ≡ false → A
  contradicts e = absurd (let both = sym is_moving ∙ e in cc)

  last_old : (i : ℕ) → i < 16384 → (i == 8192) ≡ false → last.byte i ≡ old.byte i
  last_old i h ne =
      let out : is_within 8192 1 i ≡ false = grind (arith, ne) in
      let before : is_within 16384 16384 i ≡ false = grind (arith, h) in
      last_beside i out ∙ ap (λ n. if is_within 16384 n i then slice_index halves (i - 16384) else old.byte i) m.size ∙ ap (λ b. if b then slice_index halves (i - 16384) else old.byte i) before

  -- all but the byte of the format, once the halves are written
  first_rest : (i : ℕ) → (i == 8192) ≡ false → first.byte i ≡ migrated counts old.byte i
  first_rest i other =
      let out : is_within 8192 1 i ≡ false = grind (arith, other) in
      sym (last_beside i out) ∙ ap (λ (f : ℕ → ℕ). f i) (moved_bytes last refl)

  pub is_migrated : (k : ℕ) (new : Region) → new ≡ last → true ≡ (effective 4 k == 0) → IsMigrated counts k old new
  is_migrated k new e answer =
      let none : effective 4 k ≡ 0 = grind (arith, answer) in
      record {
        kept = after_moving new e;
        still = contradicts;
        bytes = λ t z. moved_bytes new e;
        clean = λ t z. record { each = λ i. ap (λ (r : Region). r.unsynced i) e };
        is_new = λ t z. ap (λ (r : Region). is_format2 r.byte) e;
        doubt = λ t ne. absurd (ne none);
        format = λ t ne h. absurd (ne none);
        in_doubt = λ t ne. absurd (ne none);
        others = λ t least i other. ap (λ (f : ℕ → ℕ). f i) (moved_bytes new e);
        after = λ t four. ap (λ (r : Region). r.byte 8192) e;
        beside = λ i h ne. ap (λ (r : Region). r.byte i) e ∙ last_old i h ne;
        sure = λ i h ne. ap (λ (r : Region). r.unsynced i) e;
        readable = ap (λ (r : Region). r.readable) e;
      }

  torn_doubt : (new : Region) (b : Bool) → InDoubt b halves old new → new.unsynced 8192 ≡ b
  torn_doubt new true torn = torn.unsynced 8192
  torn_doubt new false torn = torn.unsynced 8192 ∙ m.clean.each 8192

  torn_format : (new : Region) (b : Bool) → InDoubt b halves old new → b ≡ false → new.byte 8192 ≡ old.byte 8192
  torn_format new true torn e = absurd cc
  torn_format new false torn e = torn.byte 8192 refl

  torn_beside : (new : Region) (b : Bool) → InDoubt b halves old new → (i : ℕ) → i < 16384 → (i == 8192) ≡ false → new.byte i ≡ old.byte i
  torn_beside new true torn i h ne =
      let out : is_within 8192 1 i ≡ false = grind (arith, ne) in
      let before : is_within 16384 16384 i ≡ false = grind (arith, h) in
      torn.byte i out ∙ ap (λ n. if is_within 16384 n i then slice_index halves (i - 16384) else old.byte i) m.size ∙ ap (λ b. if b then slice_index halves (i - 16384) else old.byte i) before
  torn_beside new false torn i h ne = torn.byte i (grind (arith, h))

  torn_sure : (new : Region) (b : Bool) → InDoubt b halves old new → (i : ℕ) → i < 16384 → (i == 8192) ≡ false → new.unsynced i ≡ false
  torn_sure new true torn i h ne = let out : is_within 8192 1 i ≡ false = grind (arith, ne) in torn.unsynced i ∙ ap (λ b. b || false) out
  torn_sure new false torn i h ne = let before : is_within 16384 16384 i ≡ false = grind (arith, h) in torn.unsynced i ∙ ap (λ b. b || old.unsynced i) before ∙ m.clean.each i

  torn_readable : (new : Region) (b : Bool) → InDoubt b halves old new → new.readable ≡ old.readable
  torn_readable new true torn = torn.readable
  torn_readable new false torn = torn.readable

  torn_in_doubt : (new : Region) (b : Bool) → InDoubt b halves old new → (i : ℕ) → new.unsynced i ≡ (if b then i == 8192 else is_within 16384 16384 i)
  torn_in_doubt new true torn i = torn.unsynced i ∙ or_false (is_within 8192 1 i) ∙ place_by 8192 i (i == 8192) refl
  torn_in_doubt new false torn i = torn.unsynced i ∙ ap (λ b. is_within 16384 16384 i || b) (m.clean.each i) ∙ or_false (is_within 16384 16384 i)

  torn_rest : (k : ℕ) (new : Region) (b : Bool) → nat_le 3 k ≡ b → InDoubt b halves old new → (k ≡ 2 → new ≡ written 16384 halves old) → 2 ≤ k → (i : ℕ) → (i == 8192) ≡ false → new.byte i ≡ first.byte i
  torn_rest k new true late torn reads least i other = torn.byte i (place_by 8192 i false other)
  torn_rest k new false early torn reads least i other = ap (λ (r : Region). r.byte i) (reads (only_two k early least))

  pub is_half_migrated : (k : ℕ) (new : Region) → IsHalfMoved k halves old new → false ≡ (effective 4 k == 0) → IsMigrated counts k old new
  is_half_migrated k new half answer =
      let torn = half.torn in
      let some : effective 4 k ≡ 0 → ⊥ = λ e. absurd (grind (arith, answer, e)) in
      record {
        kept = left_moving k new half;
        still = contradicts;
        bytes = λ t z. absurd (some z);
        clean = λ t z. absurd (some z);
        is_new = λ t z. absurd (some z);
        doubt = λ t ne. torn_doubt new (nat_le 3 k) torn;
        format = λ t ne h. torn_format new (nat_le 3 k) torn h;
        in_doubt = λ t ne. torn_in_doubt new (nat_le 3 k) torn;
        others = λ t least i other. torn_rest k new (nat_le 3 k) refl torn half.first least i other ∙ first_rest i other;
        after = λ t four. ap (λ (r : Region). r.byte 8192) (half.second four);
        beside = torn_beside new (nat_le 3 k) torn;
        sure = torn_sure new (nat_le 3 k) torn;
        readable = torn_readable new (nat_le 3 k) torn;
      }

-- a region that nothing was written to

as_it_was : (counts : List ℕ) (old new : Region) → IsClean old → new ≡ old → (f : ℕ → ℕ) → IsCrash new f → recovered counts f ≡ recovered counts old.byte
as_it_was counts old new clean e f crash =
    ap (recovered counts) (λ j. λ i. (crash.same i (ap (λ (r : Region). r.unsynced i) e ∙ clean.each i) ∙ ap (λ (r : Region). r.byte i) e) j)

pub is_not_moved : (counts : List ℕ) (k : ℕ) (old new : Region) → IsClean old → new ≡ old → moves counts old ≡ false → IsMigrated counts k old new
is_not_moved counts k old new clean e not_moved = record {
  kept = λ some. as_it_was counts old new clean e;
  still = λ h. e;
  bytes = λ t. absurd (let both = sym t ∙ not_moved in cc);
  clean = λ t. absurd (let both = sym t ∙ not_moved in cc);
  is_new = λ t. absurd (let both = sym t ∙ not_moved in cc);
  doubt = λ t. absurd (let both = sym t ∙ not_moved in cc);
  format = λ t. absurd (let both = sym t ∙ not_moved in cc);
  in_doubt = λ t. absurd (let both = sym t ∙ not_moved in cc);
  others = λ t. absurd (let both = sym t ∙ not_moved in cc);
  after = λ t. absurd (let both = sym t ∙ not_moved in cc);
  beside = λ i h ne. ap (λ (r : Region). r.byte i) e;
  sure = λ i h ne. ap (λ (r : Region). r.unsynced i) e ∙ clean.each i;
  readable = ap (λ (r : Region). r.readable) e;
}

-- why nothing is moved

pub not_readable : (counts : List ℕ) (r : Region) → r.readable ≡ false → moves counts r ≡ false
not_readable counts r e = ap (λ b. b && is_some (recovered counts r.byte) && not (is_format2 r.byte)) e

not_recovered : (counts : List ℕ) (r : Region) → recovered counts r.byte ≡ None → moves counts r ≡ false
not_recovered counts r e = ap (λ o. r.readable && is_some o && not (is_format2 r.byte)) e ∙ none r.readable where
  none : (b : Bool) → (b && false && not (is_format2 r.byte)) ≡ false
  none true = refl
  none false = refl

pub not_answered : (counts : List ℕ) (r : Region) (fault : RecoverFault) → Answers counts r (Err fault) → moves counts r ≡ false
not_answered counts r Damaged a = not_recovered counts r a.1
not_answered counts r DiskFault a = not_readable counts r a

pub not_old : (counts : List ℕ) (r : Region) → is_format2 r.byte ≡ true → moves counts r ≡ false
not_old counts r e = ap (λ b. r.readable && is_some (recovered counts r.byte) && not b) e ∙ none r.readable (is_some (recovered counts r.byte)) where
  none : (b c : Bool) → (b && c && false) ≡ false
  none true true = refl
  none true false = refl
  none false c = refl
