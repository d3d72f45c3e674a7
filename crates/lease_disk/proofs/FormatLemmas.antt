-- A region whose bytes were all written.
use Rattle.std.proofs.Common.{◌≡◌, ℕ, ◌+◌, ◌-◌, ◌*◌, ◌%◌, ◌<◌, ◌≤◌, Bool, true, false, ◌&&◌, ◌||◌, nat_le, nat_lt, List, [], ◌∷◌, length, slice_index, Some, None, Result, OnOk, OnErr, Ok, Err, refl, ap, ◌∙◌, subst, sym, arith}
use Rattle.std.specs.Prelude.{if◌then◌else◌, is_ok, ◌==◌}
use Rattle.std.proofs.lemmas.Bool.{eq-eqb}
use Rattle.lease_disk.specs.Layout.{formatted, formatted_old, gate_open}
use Rattle.lease_disk.specs.Book.{empty_book}
use Rattle.lease_disk.specs.Crash.{IsFormatted, IsFormattedOld, IsHalfFormatted, IsHalfFormattedOld, IsHalfWritten}
use Rattle.lease_disk.specs.Recovered.{recovered}
use Rattle.lease_disk.specs.Region.{Region, is_within, written, synced, IsTorn, effective}
use Rattle.lease_disk.proofs.Books.{formatted_book, formatted_old_book}
use Rattle.lease_disk.proofs.Halves.{is_inside}
use Rattle.lease_disk.proofs.Reading.{no_bank}
use Rattle.lease_disk.proofs.Stops.{or_false, place_by}

-- the gates of the first slots are open
pub record AreOpen (slot : ℕ) (bytes : List ℕ) : Type 0 where
  pub size : length bytes ≡ 32768
  pub each : (k : ℕ) → slice_index bytes k ≡ (if nat_le 16384 k && nat_lt k (16384 + 512 * slot) && k % 512 == 0 then 0xa5 else 0)

before : (k slot : ℕ) (b : Bool) → nat_lt k (16384 + 512 * slot) ≡ b → (k ≡ 16384 + 512 * slot → ⊥) → k % 512 ≡ 0 → nat_lt k (16384 + 512 * (slot + 1)) ≡ b
before k slot true e ne m = grind (arith, e)
before k slot false e ne m =
    let past : 16384 + 512 * slot ≤ k = grind (arith, e) in
    let far : 16384 + 512 * (slot + 1) ≤ k = omega (arith, past, ne, m) in
    grind (arith, far)

pub on_ok : {T E : Type 0} → (r : Result T E) → {P Q : Type 0} → (P → Q) → OnOk r P → OnOk r Q
on_ok (Ok x) f p = f p
on_ok (Err e) f p = tt

pub on_err : {T E : Type 0} → (r : Result T E) → {P Q : Type 0} → (P → Q) → OnErr r P → OnErr r Q
on_err (Ok x) f p = tt
on_err (Err e) f p = f p

pub at_err : {T E : Type 0} → (r : Result T E) → {P : Type 0} → P → OnErr r P
at_err (Ok x) p = tt
at_err (Err e) p = p

pub on_fault : {T E : Type 0} → (r : Result T E) → {P Q : Type 0} → (false ≡ is_ok r → P → Q) → OnErr r P → OnErr r Q
on_fault (Ok x) f p = tt
on_fault (Err e) f p = f refl p

formatted_byte : (bytes : List ℕ) (old : Region) (i : ℕ) → length bytes ≡ 32768 → i < 32768
    → ((k : ℕ) → slice_index bytes k ≡ (if nat_le 16384 k && nat_lt k 32768 && k % 512 == 0 then 0xa5 else 0))
    → (b : Bool) → (i == 8192) ≡ b → (written 8192 (2 ∷ []) (synced (written 0 bytes old))).byte i ≡ formatted i
formatted_byte bytes old i size h open_are true e =
    let here : i ≡ 8192 = grind (arith, e) in
    let none : i - 8192 ≡ 0 = omega arith in
    rw (e, is_inside 8192 1 i (omega arith) (omega arith), none) refl
formatted_byte bytes old i size h open_are false e =
    let out : is_within 8192 1 i ≡ false = grind (arith, e) in
    let zero : i - 0 ≡ i = omega arith in
    rw (e, out, size, is_inside 0 32768 i (omega arith) (omega arith), zero) (open_are i)

pub is_formatted : (bytes : List ℕ) (old middle new : Region) → length bytes ≡ 32768 → ((k : ℕ) → slice_index bytes k ≡ (if nat_le 16384 k && nat_lt k 32768 && k % 512 == 0 then 0xa5 else 0))
    → middle ≡ synced (written 0 bytes old) → new ≡ synced (written 8192 (2 ∷ []) middle) → IsFormatted new
is_formatted bytes old middle new size open_are f e =
    let w : IsFormatted (synced (written 8192 (2 ∷ []) (synced (written 0 bytes old)))) = record {
      byte = λ i k. formatted_byte bytes old i size k open_are (i == 8192) refl;
      clean = record { each = λ i. refl };
    } in
    subst (λ (r : Region). IsFormatted r) (sym (e ∙ ap (λ r. synced (written 8192 (2 ∷ []) r)) f)) w

outside_one : (i : ℕ) → (i == 8192) ≡ false → is_within 8192 1 i ≡ false
outside_one i h = grind (arith, h)

too_early : (k : ℕ) → false ≡ (effective 2 k == 0) → 3 ≤ k → ⊥
too_early k e h = grind arith

-- the first write or its sync failed
pub left_first : (k : ℕ) (r : Region) → false ≡ (effective 2 k == 0) → IsHalfFormatted k r
left_first k r e late counts f crash = absurd (too_early k e late)

by_format : (counts : List ℕ) (f : ℕ → ℕ) (b : Bool) → (f 8192 == 2) ≡ b → ((i : ℕ) → i < 32768 → (i == 8192) ≡ false → f i ≡ formatted i) → recovered counts f ≡ (if b then Some empty_book else None)
by_format counts f true e same =
    formatted_book counts (record { byte = f; unsynced = λ i. false; readable = true }) (record { byte = λ i k. by i k (i == 8192) refl; clean = record { each = λ i. refl } }) where
      by : (i : ℕ) → i < 32768 → (b : Bool) → (i == 8192) ≡ b → f i ≡ formatted i
      by i k true h = let here : i ≡ 8192 = grind (arith, h) in let two : f 8192 ≡ 2 = grind (arith, e) in ap f here ∙ two ∙ sym (ap formatted here)
      by i k false h = same i k h
by_format counts f false e same = no_bank counts f e (λ j. same 0 (omega arith) refl j == 165) (λ j. same 4096 (omega arith) refl j == 165)

-- the write of the byte of the format or its sync failed
pub left_last : (k : ℕ) (bytes : List ℕ) (old middle new : Region) → length bytes ≡ 32768 → ((k : ℕ) → slice_index bytes k ≡ (if nat_le 16384 k && nat_lt k 32768 && k % 512 == 0 then 0xa5 else 0))
    → middle ≡ synced (written 0 bytes old) → IsTorn 8192 1 middle new → IsHalfFormatted k new
left_last k bytes old middle new size open_are f torn late counts g crash =
    by_format counts g (g 8192 == 2) refl (λ i few ne.
    let out = outside_one i ne in
    let u : new.unsynced i ≡ false = torn.unsynced i ∙ ap (λ b. b || middle.unsynced i) out ∙ ap (λ (r : Region). r.unsynced i) f in
    let zero : i - 0 ≡ i = omega arith in
    crash.same i u ∙ torn.byte i out ∙ ap (λ (r : Region). r.byte i) f ∙ rw (size, is_inside 0 32768 i (omega arith) (omega arith), zero, ne) (open_are i))

-- In format 1

old_byte : (bytes : List ℕ) (old : Region) (i : ℕ) → length bytes ≡ 32768 → i < 32768 → ((k : ℕ) → slice_index bytes k ≡ (if k == 8192 then 1 else 0))
    → (b : Bool) → (i == 0) ≡ b → (written 0 (gate_open ∷ []) (synced (written 0 bytes old))).byte i ≡ formatted_old i
old_byte bytes old i size h are true e =
    let here : i ≡ 0 = grind (arith, e) in
    let none : i - 0 ≡ 0 = omega arith in
    rw (e, is_inside 0 1 i (omega arith) (omega arith), none) refl
old_byte bytes old i size h are false e =
    let out : is_within 0 1 i ≡ false = grind (arith, e) in
    let zero : i - 0 ≡ i = omega arith in
    rw (e, out, size, is_inside 0 32768 i (omega arith) (omega arith), zero) (are i)

pub is_formatted_old : (bytes : List ℕ) (old middle new : Region) → length bytes ≡ 32768 → ((k : ℕ) → slice_index bytes k ≡ (if k == 8192 then 1 else 0))
    → middle ≡ synced (written 0 bytes old) → new ≡ synced (written 0 (gate_open ∷ []) middle) → IsFormattedOld new
is_formatted_old bytes old middle new size are f e =
    let w : IsFormattedOld (synced (written 0 (gate_open ∷ []) (synced (written 0 bytes old)))) = record {
      byte = λ i k. old_byte bytes old i size k are (i == 0) refl;
      clean = record { each = λ i. refl };
    } in
    subst (λ (r : Region). IsFormattedOld r) (sym (e ∙ ap (λ r. synced (written 0 (gate_open ∷ []) r)) f)) w

pub old_left_first : (k : ℕ) (r : Region) → false ≡ (effective 2 k == 0) → IsHalfFormattedOld k r
old_left_first k r e late counts f crash = absurd (too_early k e late)

by_gate : (counts : List ℕ) (f : ℕ → ℕ) (b : Bool) → (f 0 == 165) ≡ b → ((i : ℕ) → i < 32768 → (i == 0) ≡ false → f i ≡ formatted_old i) → recovered counts f ≡ (if b then Some empty_book else None)
by_gate counts f true e same = formatted_old_book counts f (λ i k. by i k (i == 0) refl) where
  by : (i : ℕ) → i < 32768 → (b : Bool) → (i == 0) ≡ b → f i ≡ formatted_old i
  by i k true h = let here : i ≡ 0 = grind (arith, h) in let open_gate : f 0 ≡ 165 = grind (arith, e) in ap f here ∙ open_gate ∙ sym (ap formatted_old here)
  by i k false h = same i k h
by_gate counts f false e same = no_bank counts f (λ j. same 8192 (omega arith) refl j == 2) e (λ j. same 4096 (omega arith) refl j == 165)

pub old_left_last : (k : ℕ) (bytes : List ℕ) (old middle new : Region) → length bytes ≡ 32768 → ((k : ℕ) → slice_index bytes k ≡ (if k == 8192 then 1 else 0))
    → middle ≡ synced (written 0 bytes old) → IsTorn 0 1 middle new → IsHalfFormattedOld k new
old_left_last k bytes old middle new size are f torn late counts g crash =
    by_gate counts g (g 0 == 165) refl (λ i few ne.
    let out : is_within 0 1 i ≡ false = grind (arith, ne) in
    let u : new.unsynced i ≡ false = torn.unsynced i ∙ ap (λ b. b || middle.unsynced i) out ∙ ap (λ (r : Region). r.unsynced i) f in
    let zero : i - 0 ≡ i = omega arith in
    crash.same i u ∙ torn.byte i out ∙ ap (λ (r : Region). r.byte i) f ∙ rw (size, is_inside 0 32768 i (omega arith) (omega arith), zero, ne) (are i))

-- Which bytes a formatting leaves whose call failed

only_two : (k : ℕ) → 2 ≤ k → nat_le k 2 ≡ true → k ≡ 2
only_two k least early = grind arith

is_early : (k : ℕ) → false ≡ (effective 2 k == 0) → nat_le k 2 ≡ true
is_early k answer = grind arith

is_late : (k k1 : ℕ) → k1 ≡ k - 2 → false ≡ (effective 2 k1 == 0) → nat_le k 2 ≡ false
is_late k k1 is answer = grind arith

not_two : (k : ℕ) → nat_le k 2 ≡ false → k ≡ 2 → ⊥
not_two k late two = grind arith

module _ (last : ℕ) (whole : ℕ → ℕ) (bytes : List ℕ) (old : Region) (size : length bytes ≡ 32768) (few : last < 32768)
    (same : (i : ℕ) → (i == last) ≡ false → slice_index bytes i ≡ whole i) (none : slice_index bytes last ≡ 0) where
  all_within : (i : ℕ) → i < 32768 → is_within 0 (length bytes) i ≡ true
  all_within i within = ap (λ n. is_within 0 n i) size ∙ is_inside 0 32768 i (omega arith) (omega (arith, within))

  all_written : (i : ℕ) → i < 32768 → (written 0 bytes old).byte i ≡ slice_index bytes i
  all_written i within =
      let start : i - 0 ≡ i = omega arith in
      ap (λ b. if b then slice_index bytes (i - 0) else old.byte i) (all_within i within) ∙ ap (slice_index bytes) start

  -- the first write or its sync
  pub half_first : (k : ℕ) (r : Region) → false ≡ (effective 2 k == 0) → IsTorn 0 (length bytes) old r → (k ≡ 2 → r ≡ written 0 bytes old) → IsHalfWritten last whole k r
  half_first k r answer torn reads =
      let early = is_early k answer in
      record {
        doubt = λ i within. torn.unsynced i ∙ ap (λ b. b || old.unsynced i) (all_within i within) ∙ sym (ap (λ b. b || (i == last)) early);
        others = λ least i within other. ap (λ (x : Region). x.byte i) (reads (only_two k least early)) ∙ all_written i within ∙ same i other;
        before = λ two. ap (λ (x : Region). x.byte last) (reads two) ∙ all_written last few ∙ none;
        after = λ four. absurd (too_early k answer (omega (arith, four)));
      }

  -- the second
  pub half_second : (k k1 : ℕ) (middle r : Region) (value : ℕ) → value ≡ whole last → middle ≡ synced (written 0 bytes old) → k1 ≡ k - 2 → false ≡ (effective 2 k1 == 0)
      → IsTorn last 1 middle r → (k1 ≡ 2 → r ≡ written last (value ∷ []) middle) → IsHalfWritten last whole k r
  half_second k k1 middle r value its is f answer torn reads =
      let late = is_late k k1 f answer in
      let start : last - last ≡ 0 = omega arith in
      record {
        doubt = λ i within. torn.unsynced i ∙ ap (λ (x : Region). is_within last 1 i || x.unsynced i) is ∙ or_false (is_within last 1 i) ∙ place_by last i (i == last) refl
            ∙ sym (ap (λ b. b || (i == last)) late);
        others = λ least i within other. torn.byte i (place_by last i false other) ∙ ap (λ (x : Region). x.byte i) is ∙ all_written i within ∙ same i other;
        before = λ two. absurd (not_two k late two);
        after = λ four. ap (λ (x : Region). x.byte last) (reads (omega (arith, f, four)))
            ∙ ap (λ b. if b then slice_index (value ∷ []) (last - last) else middle.byte last) (place_by last last true (eq-eqb last last refl)) ∙ ap (slice_index (value ∷ [])) start ∙ its;
      }

pub open_rest : (bytes : List ℕ) → ((k : ℕ) → slice_index bytes k ≡ (if nat_le 16384 k && nat_lt k 32768 && k % 512 == 0 then 0xa5 else 0)) → (i : ℕ) → (i == 8192) ≡ false → slice_index bytes i ≡ formatted i
open_rest bytes are i other = are i ∙ sym (ap (λ b. if b then 2 else if nat_le 16384 i && nat_lt i 32768 && i % 512 == 0 then 0xa5 else 0) other)

pub old_rest : (bytes : List ℕ) → ((k : ℕ) → slice_index bytes k ≡ (if k == 8192 then 1 else 0)) → (i : ℕ) → (i == 0) ≡ false → slice_index bytes i ≡ formatted_old i
old_rest bytes are i other = are i ∙ sym (ap (λ b. if b then 0xa5 else if i == 8192 then 1 else 0) other)
