-- What a circuit's leases make of an event, beside what its machine makes of it.
use Rattle.std.proofs.Common.{◌≡◌, ℕ, zero, suc, ◌⊎◌, inl, inr, Bool, true, false, leb, List, [], refl, sym, ap, subst, subst₂, ◌∙◌, arith, ne_eqb}
use Rattle.std.proofs.lemmas.Bool.{le-leb}
use Rattle.std.specs.Prelude.{◌==◌, ◌&&◌, ◌||◌, not, nat_le, is_some, if◌then◌else◌, slice_get, Option, Some, None, option_map, Result, Ok, Err}
use Rattle.types.specs.Delivery.{DeliveryValue}
use Rattle.types.specs.declared.discard.Discard.{Discard}
use Rattle.types.specs.declared.discard.Discard.TheVariants.{CircuitClosed, DiskFault}
use Rattle.config.specs.CircuitPart.{CircuitPart}
use Rattle.circuit_server.specs.Leases.{Leases, after_datagram, after_saving, after_tick, after_restart, come_back, formats_of, found_leases, kept, moved_format, recovered_book, region_leases, restarts_of, served_leases, turned}
use Rattle.circuit_server.specs.Answered.{Answered, after_save, answered}
use Rattle.circuit_server.specs.Server.{Book, Served, book_at, kept_book, served}
use Rattle.lease_disk.specs.Crash.{crashed}
use Rattle.lease_disk.specs.Layout.{is_format2}
use Rattle.lease_disk.specs.Region.{IsClean, Region, effective, image}
use Rattle.lease_disk.specs.declared.image.Image.{Image}
use Rattle.lease_disk.specs.declared.image.Image.TheVariants.{Byte, Unreadable}
use Rattle.lossy_net.specs.Net.{Datagram}
use Rattle.types.specs.declared.dest.Proto.{Proto}
use Rattle.std.specs.Option.{option_or}
use Rattle.world.specs.Alone.{Alone, Dropped, Gone, New, Old, Setup, Step, answer_step, alone_step, book_step, delivery_of, found, if_on, is_fault, is_new, served_step, start, unsent, up_step}
use Rattle.world.specs.Alone as alone
use Rattle.world.specs.Headline.{CircuitState, Shows}
use Rattle.events.specs.Seen.{Up}

-- A circuit's leases are those of its machine.
pub record Holds (l : Leases) (a : Alone) : Type 0 where
  pub book : l.book ≡ a.book
  pub restarts : (byte : ℕ) → l.restarts byte ≡ found byte a
  pub formats : (byte : ℕ) → l.is_new byte ≡ is_new a.format byte
  pub sure : (b : Book) → a.book ≡ Some b → a.doubt ≡ None

pub holds : (state : CircuitState) (setup : Setup) (a : Alone) → Shows state setup a → Holds state.leases a
holds state setup a shown = record { book = shown.book; restarts = shown.restarts; formats = shown.formats; sure = shown.sure }

closed_is_sure : (a : Alone) → (b : Book) → None ≡ Some b → a.doubt ≡ None
closed_is_sure a b h = absurd cc

-- ---- the start

found_alike : (kept : Option Book) (b : Bool) → kept ≡ (if b then option_or None kept else kept)
found_alike kept true = refl
found_alike kept false = refl

-- a move that fails

fault_is : (fault : ℕ) → is_fault 4 fault ≡ not (effective 4 fault == 0)
fault_is fault = grind arith

late_is : (fault : ℕ) → is_fault 4 fault ≡ true → nat_le 3 (effective 4 fault) ≡ nat_le 3 fault
late_is fault e = grind (arith, e)

format_late : (late : Bool) (byte : ℕ) → (late && byte == 2) ≡ is_new (if late then alone.Moving else alone.Old) byte
format_late true byte = refl
format_late false byte = refl

-- a book in format 1, by whether its move fails
brought : (fault : ℕ) (b : Book) (a : Alone) (fails : Bool) → is_fault 4 fault ≡ fails → (effective 4 fault == 0) ≡ not fails
    → Holds (record { book = if not (effective 4 fault == 0) then None else Some b; restarts = λ any. Some b; is_new = λ byte. moved_format (effective 4 fault) byte })
    (if fails then record a { book = None; kept = Some b; doubt = None; format = if nat_le 3 fault then alone.Moving else alone.Old } else record a { book = Some b; kept = Some b; doubt = None; format = alone.New })
brought fault b a true e none = record {
  book = ap (λ z. if not z then None else Some b) none;
  restarts = λ any. found_alike (Some b) (any == 0xa5);
  formats = λ byte. (λ j. none j || nat_le 3 (effective 4 fault) && byte == 2) ∙ ap (λ late. late && byte == 2) (late_is fault e) ∙ format_late (nat_le 3 fault) byte;
  sure = λ c opened. refl;
}
brought fault b a false e none = record {
  book = ap (λ z. if not z then None else Some b) none;
  restarts = λ any. found_alike (Some b) (any == 0xa5);
  formats = λ byte. (λ j. none j || nat_le 3 (effective 4 fault) && byte == 2);
  sure = λ c opened. refl;
}

pub holds_come_back : (fault : ℕ) (kept : Option Book) (two : Bool) (a : Alone) → Holds (come_back fault kept two) (alone.come_back fault kept two a)
holds_come_back fault None true a = record { book = refl; restarts = λ any. found_alike None (any == 0xa5); formats = λ byte. refl; sure = λ c opened. refl }
holds_come_back fault (Some b) true a = record { book = refl; restarts = λ any. found_alike (Some b) (any == 0xa5); formats = λ byte. refl; sure = λ c opened. refl }
holds_come_back fault None false a = record { book = refl; restarts = λ any. found_alike None (any == 0xa5); formats = λ byte. refl; sure = λ c opened. refl }
holds_come_back fault (Some b) false a = brought fault b a (is_fault 4 fault) refl (zero_is (effective 4 fault == 0) (fault_is fault)) where
  zero_is : (z : Bool) → is_fault 4 fault ≡ not z → z ≡ not (is_fault 4 fault)
  zero_is true e = sym (ap not e)
  zero_is false e = sym (ap not e)

-- a region that cannot be read, none of whose bytes is unsynced
same_bytes : (region : Region) → IsClean region → (byte : ℕ) → image byte region ≡ region.byte
same_bytes region clean byte = λ i. λ n. (ap (λ u. if u then byte else region.byte n) (clean.each n)) i

its_format : (two : Bool) (byte : ℕ) → two ≡ is_new (if two then New else Old) byte
its_format true byte = refl
its_format false byte = refl

pub holds_unread : (part : CircuitPart) (on : Bool) (region : Region) → IsClean region
    → Holds (record { book = None; restarts = restarts_of part region; is_new = formats_of region }) (record (unsent on) { kept = recovered_book part region.byte; format = if is_format2 region.byte then New else Old })
holds_unread part on region clean = record {
  book = refl;
  restarts = λ byte. ap (recovered_book part) (same_bytes region clean byte) ∙ found_alike (recovered_book part region.byte) (byte == 0xa5);
  formats = λ byte. ap is_format2 (same_bytes region clean byte) ∙ its_format (is_format2 region.byte) byte;
  sure = λ book opened. refl;
}

-- ---- a moment

sure_at : (now : ℕ) (book doubt : Option Book) → ((b : Book) → book ≡ Some b → doubt ≡ None) → (b : Book) → option_map (book_at now) book ≡ Some b → doubt ≡ None
sure_at now None doubt sure b h = absurd cc
sure_at now (Some opened) doubt sure b h = sure opened refl

pub holds_tick : (now : ℕ) (l : Leases) (a : Alone) → Holds l a → Holds (after_tick now l) (record a { book = option_map (book_at now) a.book })
holds_tick now l a h = record { book = ap (option_map (book_at now)) h.book; restarts = h.restarts; formats = h.formats; sure = sure_at now a.book a.doubt h.sure }

-- ---- a circuit that is turned on or off

sure_kept : (book doubt : Option Book) → ((b : Book) → book ≡ Some b → doubt ≡ None) → (b : Book) → option_map kept_book book ≡ Some b → doubt ≡ None
sure_kept None doubt sure b h = absurd cc
sure_kept (Some opened) doubt sure b h = sure opened refl

pub holds_off : (l : Leases) (a : Alone) → Holds l a → Holds (turned true false l) (alone.turned false a)
holds_off l a h = record { book = ap (option_map kept_book) h.book; restarts = h.restarts; formats = h.formats; sure = sure_kept a.book a.doubt h.sure }

pub holds_on : (l : Leases) (a : Alone) → Holds l a → Holds (turned false true l) (alone.turned true a)
holds_on l a h = record { book = h.book; restarts = h.restarts; formats = h.formats; sure = h.sure }

-- ---- a restart

pub holds_restart : (fault : ℕ) (i : Image) (l : Leases) (a : Alone) → Holds l a → Holds (after_restart i fault l) (alone.after_restart fault i a)
holds_restart fault (Byte byte) l a h =
    subst (λ kept. Holds (come_back fault kept (l.is_new byte)) (alone.after_restart fault (Byte byte) a)) (sym (h.restarts byte))
    (subst (λ two. Holds (come_back fault (found byte a) two) (alone.after_restart fault (Byte byte) a)) (sym (h.formats byte)) (holds_come_back fault (found byte a) (is_new a.format byte) a))
holds_restart fault Unreadable l a h = record { book = refl; restarts = h.restarts; formats = h.formats; sure = closed_is_sure a }

-- what is found in a region as a crash left it
pub found_crashed : (part : CircuitPart) (fault : ℕ) (i : Image) (old new : ℕ → Region) (faults : ℕ → ℕ) (book : Option Book) → new part.region ≡ crashed i (old part.region) → faults part.region ≡ fault
    → found_leases new faults part ≡ after_restart i fault (record { book = book; restarts = restarts_of part (old part.region); is_new = formats_of (old part.region) })
found_crashed part fault (Byte byte) old new faults book is at = λ j. region_leases part (at j) (is j) (is j).readable
found_crashed part fault Unreadable old new faults book is at = λ j. region_leases part (at j) (is j) (is j).readable

-- ---- a datagram at the server

-- the machine's books after a save that did not fail, after one that did, and after what its server made of
-- a datagram
abbrev saved : Book → Alone → Alone
saved b a = record a { book = Some b; kept = Some (kept_book b) }

abbrev torn : ℕ → Book → Alone → Alone
torn fault b a = record a { book = None; doubt = if nat_le 5 fault then Some (kept_book b) else a.doubt }

abbrev booked : ℕ → Served → Alone → Alone
booked fault done a = if not done.is_kept then record a { book = Some done.book } else if is_fault 6 fault then torn fault done.book a else saved done.book a

abbrev pub after_up : CircuitPart → DeliveryValue → ℕ → Alone → Option Book → Alone
after_up part e fault a None = a
after_up part e fault a (Some b) = booked fault (served part e b) a

-- whether a save fails, and the one that a datagram asks for
abbrev pub save_fails : ℕ → Served → Bool
save_fails fault done = done.is_kept && not (effective 6 fault == 0)

abbrev pub its_fails : CircuitPart → DeliveryValue → ℕ → Option Book → Bool
its_fails part e fault None = false
its_fails part e fault (Some b) = save_fails fault (served part e b)

-- No call of the save fails, or the one that the fault names does.
record IsNone (fault : ℕ) : Type 0 where
  none : effective 6 fault ≡ 0
  not_one : is_fault 6 fault ≡ false

record IsOne (fault : ℕ) : Type 0 where
  one : effective 6 fault ≡ fault
  is_one : is_fault 6 fault ≡ true
  not_zero : (fault == 0) ≡ false

classify : (fault : ℕ) → IsNone fault ⊎ IsOne fault
classify zero = inl (record { none = refl; not_one = refl })
classify (suc n) = by (leb (suc n) 6) refl where
  by : (b : Bool) → leb (suc n) 6 ≡ b → IsNone (suc n) ⊎ IsOne (suc n)
  by true within = inr (record { one = ap (λ b. if b then suc n else 0) within; is_one = (λ i. le-leb 1 (suc n) (omega arith) i && within i); not_zero = ne_eqb (suc n) 0 (λ h. omega (arith, h)) })
  by false past = inl (record { none = ap (λ b. if b then suc n else 0) past; not_one = (λ i. le-leb 1 (suc n) (omega arith) i && past i) })

fails_is : (fault : ℕ) → (effective 6 fault == 0) ≡ not (is_fault 6 fault)
fails_is fault = by (classify fault) where
  by : IsNone fault ⊎ IsOne fault → (effective 6 fault == 0) ≡ not (is_fault 6 fault)
  by (inl c) = (λ i. c.none i == 0) ∙ sym (ap not c.not_one)
  by (inr c) = (λ i. c.one i == 0) ∙ c.not_zero ∙ sym (ap not c.is_one)

-- a save that did not fail: every restart finds its book
found_saved : (b : Book) (doubt : Option Book) (gate : Bool) → doubt ≡ None → Some b ≡ (if gate then option_or doubt (Some b) else Some b)
found_saved b doubt true none = sym (ap (λ d. option_or d (Some b)) none)
found_saved b doubt false none = refl

-- a save that failed: a restart may find its book from the fifth call on
found_torn : (b : Book) (doubt kept : Option Book) (late gate : Bool)
    → (if late && gate then Some b else if gate then option_or doubt kept else kept) ≡ (if gate then option_or (if late then Some b else doubt) kept else kept)
found_torn b doubt kept true true = refl
found_torn b doubt kept true false = refl
found_torn b doubt kept false true = refl
found_torn b doubt kept false false = refl

module _ (fault : ℕ) (l : Leases) (a : Alone) (h : Holds l a) (was : Book) (opened : a.book ≡ Some was) where
  holds_saved : (b : Book) → Holds (after_saving 0 b l) (saved b a)
  holds_saved b = record {
    book = refl;
    restarts = λ byte. found_saved (kept_book b) a.doubt (byte == 0xa5) (h.sure was opened);
    formats = h.formats;
    sure = λ any now_open. h.sure was opened;
  }

  holds_torn : (b : Book) → (fault == 0) ≡ false → Holds (after_saving fault b l) (torn fault b a)
  holds_torn b not_zero = record {
    book = ap (λ z. if z then Some b else None) not_zero;
    restarts = λ byte.
        (λ i. if not_zero i || (nat_le 5 fault && byte == 0xa5) then Some (kept_book b) else h.restarts byte i)
        ∙ found_torn (kept_book b) a.doubt a.kept (nat_le 5 fault) (byte == 0xa5);
    formats = h.formats;
    sure = closed_is_sure (torn fault b a);
  }

  holds_after_saving : (b : Book) → IsNone fault ⊎ IsOne fault → Holds (after_saving (effective 6 fault) b l) (if is_fault 6 fault then torn fault b a else saved b a)
  holds_after_saving b (inl c) =
      let P : ℕ → Bool → Type 0 = λ k f. Holds (after_saving k b l) (if f then torn fault b a else saved b a) in
      subst₂ P (sym c.none) (sym c.not_one) (holds_saved b)
  holds_after_saving b (inr c) =
      let P : ℕ → Bool → Type 0 = λ k f. Holds (after_saving k b l) (if f then torn fault b a else saved b a) in
      subst₂ P (sym c.one) (sym c.is_one) (holds_torn b c.not_zero)

  holds_kept : (answer : Result (List ℕ) Discard) (b : Book) (is_kept : Bool)
      → Holds (kept fault (record { answer = answer; book = b; is_kept = is_kept }) l) (booked fault (record { answer = answer; book = b; is_kept = is_kept }) a)
  holds_kept answer b true = holds_after_saving b (classify fault)
  holds_kept answer b false = record { book = refl; restarts = h.restarts; formats = h.formats; sure = λ any now_open. h.sure was opened }

pub holds_datagram : (part : CircuitPart) (e : DeliveryValue) (fault : ℕ) (l : Leases) (a : Alone) → Holds l a
    → Holds (after_datagram part e fault l) (after_up part e fault a a.book)
holds_datagram part e fault l a h =
    let P : Option Book → Type 0 = λ book. Holds (served_leases part e fault l book) (after_up part e fault a a.book) in
    subst P (sym h.book) (by a.book refl)
  where
    by : (book : Option Book) → a.book ≡ book → Holds (served_leases part e fault l book) (after_up part e fault a book)
    by None is = h
    by (Some b) is = let done = served part e b in holds_kept fault l a h b is done.answer done.book done.is_kept

-- ---- the machine's answer

abbrev pub its_answer : CircuitPart → DeliveryValue → ℕ → Option Book → Result (List ℕ) Discard
its_answer part e fault book = (answered part e (its_fails part e fault book) book).answer

module _ (setup : Setup) (fault : ℕ) (a : Alone) (proto : Proto) (answer : Result (List ℕ) Discard) (b : Book) where
  abbrev of : Bool → Served
  of is_kept = record { answer = answer; book = b; is_kept = is_kept }

  by_fault : (f : Bool) → (if f then record { effect = Dropped DiskFault; next = torn fault b a } else answer_step setup (saved b a) proto answer)
      ≡ answer_step setup (if f then torn fault b a else saved b a) proto (after_save (not (not f)) (of true)).answer
  by_fault true = refl
  by_fault false = refl

  served_step_is : (is_kept : Bool) → served_step setup fault a proto (of is_kept) ≡ answer_step setup (booked fault (of is_kept) a) proto (after_save (save_fails fault (of is_kept)) (of is_kept)).answer
  served_step_is true =
      by_fault (is_fault 6 fault)
      ∙ sym (ap (λ z. answer_step setup (booked fault (of true) a) proto (after_save (not z) (of true)).answer) (fails_is fault))
  served_step_is false = refl

-- a circuit that is on
pub on_is : (a : Alone) (step : Step) → a.on ≡ true → if_on a step ≡ step
on_is a step on = ap (λ b. if b then step else record { effect = Gone; next = a }) on

-- a closed circuit, or a datagram that is served
book_step_is : (setup : Setup) (now fault : ℕ) (a : Alone) (d : Datagram) (book : Option Book)
    → book_step setup now fault a d book ≡ answer_step setup (after_up setup.part (delivery_of setup.part now d) fault a book) d.proto (its_answer setup.part (delivery_of setup.part now d) fault book)
book_step_is setup now fault a d None = refl
book_step_is setup now fault a d (Some b) = let done = served setup.part (delivery_of setup.part now d) b in served_step_is setup fault a d.proto done.answer done.book done.is_kept

pub up_step_is : (setup : Setup) (a : Alone) (j now fault : ℕ) (d : Datagram) → a.on ≡ true → slice_get a.up j ≡ Some d
    → alone_step setup (Up j now fault) a ≡ answer_step setup (after_up setup.part (delivery_of setup.part now d) fault a a.book) d.proto (its_answer setup.part (delivery_of setup.part now d) fault a.book)
unfolding alone_step
up_step_is setup a j now fault d on is = on_is a (up_step setup now fault a (slice_get a.up j)) on ∙ ap (up_step setup now fault a) is ∙ book_step_is setup now fault a d a.book

-- ---- the queues

-- neither a datagram at the server nor a restart takes from the network
booked_up : (fault : ℕ) (b : Book) (a : Alone) (is_kept f : Bool) → (if not is_kept then record a { book = Some b } else if f then torn fault b a else saved b a).up ≡ a.up
booked_up fault b a true true = refl
booked_up fault b a true false = refl
booked_up fault b a false f = refl

booked_down : (fault : ℕ) (b : Book) (a : Alone) (is_kept f : Bool) → (if not is_kept then record a { book = Some b } else if f then torn fault b a else saved b a).down ≡ a.down
booked_down fault b a true true = refl
booked_down fault b a true false = refl
booked_down fault b a false f = refl

booked_on : (fault : ℕ) (b : Book) (a : Alone) (is_kept f : Bool) → (if not is_kept then record a { book = Some b } else if f then torn fault b a else saved b a).on ≡ a.on
booked_on fault b a true true = refl
booked_on fault b a true false = refl
booked_on fault b a false f = refl

pub on_stays : (part : CircuitPart) (e : DeliveryValue) (fault : ℕ) (a : Alone) (book : Option Book) → (after_up part e fault a book).on ≡ a.on
on_stays part e fault a None = refl
on_stays part e fault a (Some b) = let done = served part e b in booked_on fault done.book a done.is_kept (is_fault 6 fault)

pub up_stays : (part : CircuitPart) (e : DeliveryValue) (fault : ℕ) (a : Alone) (book : Option Book) → (after_up part e fault a book).up ≡ a.up
up_stays part e fault a None = refl
up_stays part e fault a (Some b) = let done = served part e b in booked_up fault done.book a done.is_kept (is_fault 6 fault)

pub down_stays : (part : CircuitPart) (e : DeliveryValue) (fault : ℕ) (a : Alone) (book : Option Book) → (after_up part e fault a book).down ≡ a.down
down_stays part e fault a None = refl
down_stays part e fault a (Some b) = let done = served part e b in booked_down fault done.book a done.is_kept (is_fault 6 fault)

come_back_ups : (fault : ℕ) (kept : Option Book) (two : Bool) (a : Alone) → (alone.come_back fault kept two a).up ≡ a.up
come_back_ups fault kept two a = by (two || not (is_some kept)) (is_fault 4 fault) where
  by : (b c : Bool) → (if b then record a { book = kept; kept = kept; doubt = None; format = if two then alone.New else alone.Old }
      else if c then record a { book = None; kept = kept; doubt = None; format = if nat_le 3 fault then alone.Moving else alone.Old }
      else record a { book = kept; kept = kept; doubt = None; format = alone.New }).up ≡ a.up
  by true c = refl
  by false true = refl
  by false false = refl

come_back_downs : (fault : ℕ) (kept : Option Book) (two : Bool) (a : Alone) → (alone.come_back fault kept two a).down ≡ a.down
come_back_downs fault kept two a = by (two || not (is_some kept)) (is_fault 4 fault) where
  by : (b c : Bool) → (if b then record a { book = kept; kept = kept; doubt = None; format = if two then alone.New else alone.Old }
      else if c then record a { book = None; kept = kept; doubt = None; format = if nat_le 3 fault then alone.Moving else alone.Old }
      else record a { book = kept; kept = kept; doubt = None; format = alone.New }).down ≡ a.down
  by true c = refl
  by false true = refl
  by false false = refl

come_back_on : (fault : ℕ) (kept : Option Book) (two : Bool) (a : Alone) → (alone.come_back fault kept two a).on ≡ a.on
come_back_on fault kept two a = by (two || not (is_some kept)) (is_fault 4 fault) where
  by : (b c : Bool) → (if b then record a { book = kept; kept = kept; doubt = None; format = if two then alone.New else alone.Old }
      else if c then record a { book = None; kept = kept; doubt = None; format = if nat_le 3 fault then alone.Moving else alone.Old }
      else record a { book = kept; kept = kept; doubt = None; format = alone.New }).on ≡ a.on
  by true c = refl
  by false true = refl
  by false false = refl

pub restart_ups : (fault : ℕ) (i : Image) (a : Alone) → (alone.after_restart fault i a).up ≡ a.up
restart_ups fault (Byte byte) a = come_back_ups fault (found byte a) (is_new a.format byte) a
restart_ups fault Unreadable a = refl

pub restart_on : (fault : ℕ) (i : Image) (a : Alone) → (alone.after_restart fault i a).on ≡ a.on
restart_on fault (Byte byte) a = come_back_on fault (found byte a) (is_new a.format byte) a
restart_on fault Unreadable a = refl

pub restart_downs : (fault : ℕ) (i : Image) (a : Alone) → (alone.after_restart fault i a).down ≡ a.down
restart_downs fault (Byte byte) a = come_back_downs fault (found byte a) (is_new a.format byte) a
restart_downs fault Unreadable a = refl

-- at the start nothing was sent
pub start_ups : (on : Bool) (fault : ℕ) (kept : Option Book) (two : Bool) → (start on fault kept two).up ≡ []
start_ups on fault kept two = come_back_ups fault kept two (alone.unsent on)

pub start_downs : (on : Bool) (fault : ℕ) (kept : Option Book) (two : Bool) → (start on fault kept two).down ≡ []
start_downs on fault kept two = come_back_downs fault kept two (alone.unsent on)

pub start_on : (on : Bool) (fault : ℕ) (kept : Option Book) (two : Bool) → (start on fault kept two).on ≡ on
start_on on fault kept two = come_back_on fault kept two (alone.unsent on)

-- ---- a reply

-- a reply is what the server makes of an open circuit's book
pub record IsReplyOf (part : CircuitPart) (e : DeliveryValue) (reply : List ℕ) : Type 0 where
  pub book : Book
  pub answer : (served part e book).answer ≡ Ok reply

reply_by : (done : Served) (v : Bool) (reply : List ℕ) → (if◌then◌else◌ {A = Answered} v (record { answer = Err DiskFault; book = None }) (record { answer = done.answer; book = Some done.book })).answer ≡ Ok reply
    → done.answer ≡ Ok reply
reply_by done true reply h = let e : Err DiskFault ≡ Ok reply = h in absurd cc
reply_by done false reply h = h

pub reply_of : (part : CircuitPart) (e : DeliveryValue) (fails : Bool) (book : Option Book) (reply : List ℕ) → (answered part e fails book).answer ≡ Ok reply
    → IsReplyOf part e reply
reply_of part e fails None reply h = let e : Err CircuitClosed ≡ Ok reply = h in absurd cc
reply_of part e fails (Some b) reply h =
    let done = served part e b in
    record { book = b; answer = reply_by done (done.is_kept && fails) reply h }
