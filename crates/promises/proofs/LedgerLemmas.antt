-- What a circuit's machine knows of a grant, from step to step.
use Rattle.std.proofs.Common.{◌≡◌, ◌⊎◌, inl, inr, ℕ, ◌≤◌, Bool, true, false, not, List, [], ◌∷◌, refl, sym, ap, subst, ◌∙◌}
use Rattle.std.specs.Prelude.{Option, Some, None, option_map, Result, Ok, Err, slice_get, nat_le, is_some, IfSome, ◌==◌, ◌||◌, if◌then◌else◌}
use Rattle.types.specs.declared.dest.Proto.{Proto}
use Rattle.types.specs.declared.discard.Discard.{Discard}
use Rattle.slots.specs.Maps.{address_of}
use Rattle.circuit_server.specs.Server.{Book, Served, book_at, kept_book, datagram_served, served}
use Rattle.lease_disk.specs.declared.image.Image.{Image}
use Rattle.lease_disk.specs.declared.image.Image.TheVariants.{Byte, Unreadable}
use Rattle.lossy_net.specs.Net.{Datagram}
use Rattle.relay.specs.SentFrame.{SentFrame}
use Rattle.relay.specs.Relays.{relayed_up, relayed_down}
use Rattle.std.specs.Option.{option_or}
use Rattle.world.specs.Alone.{Alone, Setup, Step, Effect, Gone, frame_step, answer_step, served_step, book_step, delivery_of, up_step, reply_step, down_step, is_fault, Old, New, Moving, come_back, found, is_new, after_restart, alone_step, after_all, start, unsent}
use Rattle.promises.specs.Books.{HasBooks, IsInPool, IsBookOf}
use Rattle.promises.specs.Granted.{ClientOf, Grant, Granted, Ended, Stands, BeginsKnowing, Knows, binding_of, is_sent, restart_over, proto_lines, datagram_lines, lines, ledger}
use Rattle.events.specs.Seen.{Seen, Frame, Up, Down, Tick, Restart, Turn}
use Rattle.promises.proofs.HeldBooks.{held_back}
use Rattle.promises.proofs.GrantsOfBoth.{served_grants, served_keeps}
use Rattle.promises.proofs.LineLemmas.{stands_left, stands_right, Keeps, keeps_new, keeps_later, keeps_kept}
use Rattle.promises.proofs.PoolLemmas.{HasLimits, later_of, own_step}

pub record HoldsIn (lease : ℕ) (p : Proto) (g : Grant (ClientOf p)) (a : Alone) : Type 0 where
  pub book : IfSome a.book (Keeps lease p g)
  pub kept : (k : Book) × (a.kept ≡ Some k) × Keeps lease p g k
  pub doubt : IfSome a.doubt (Keeps lease p g)

-- an open circuit has no book in doubt
abbrev pub IsSure : Alone → Type 0
IsSure a = IfSome a.book (λ b. a.doubt ≡ None)

either_book : (P : Book → Type 0) (b : Bool) (one other : Option Book) → IfSome one P → IfSome other P → IfSome (if b then one else other) P
either_book P true one other first second = first
either_book P false one other first second = second

either_step : (P : Alone → Type 0) (b : Bool) (one other : Step) → P one.next → P other.next → P (if b then one else other).next
either_step P true one other first second = first
either_step P false one other first second = second

doubted : (P : Book → Type 0) (doubt kept : Option Book) → IfSome doubt P → ((k : Book) × (kept ≡ Some k) × P k) → (k : Book) × (option_or doubt kept ≡ Some k) × P k
doubted P None kept unsure sure = sure
doubted P (Some b) kept unsure sure = (b, refl, unsure)

pub found_in : (P : Book → Type 0) (r : Bool) (doubt kept : Option Book) → IfSome doubt P → ((k : Book) × (kept ≡ Some k) × P k)
    → (k : Book) × ((if r then option_or doubt kept else kept) ≡ Some k) × P k
found_in P true doubt kept unsure sure = doubted P doubt kept unsure sure
found_in P false doubt kept unsure sure = sure

if_some : (P : Book → Type 0) (o : Option Book) → ((k : Book) × (o ≡ Some k) × P k) → IfSome o P
if_some P o (k, is, p) = subst (λ (o : Option Book). IfSome o P) (sym is) p

module _ (lease : ℕ) (p : Proto) (g : Grant (ClientOf p)) where
  framed : (setup : Setup) (a : Alone) (proto : Proto) (sent : Result (List ℕ) Discard) → HoldsIn lease p g a → HoldsIn lease p g (frame_step setup a proto sent).next
  framed setup a proto (Err why) h = h
  framed setup a proto (Ok bytes) h = record { book = h.book; kept = h.kept; doubt = h.doubt }

  answered : (setup : Setup) (a : Alone) (proto : Proto) (answer : Result (List ℕ) Discard) → HoldsIn lease p g a → HoldsIn lease p g (answer_step setup a proto answer).next
  answered setup a proto (Err why) h = h
  answered setup a proto (Ok bytes) h = record { book = h.book; kept = h.kept; doubt = h.doubt }

  replied : (a : Alone) (sent : Result SentFrame Discard) → HoldsIn lease p g a → HoldsIn lease p g (reply_step a sent).next
  replied a (Err why) h = h
  replied a (Ok frame) h = h

  went_down : (setup : Setup) (a : Alone) (d : Option Datagram) → HoldsIn lease p g a → HoldsIn lease p g (down_step setup a d).next
  went_down setup a None h = h
  went_down setup a (Some d) h = replied a (relayed_down setup.part d.proto d.bytes) h

  came_back : (fault : ℕ) (kept : Option Book) (two : Bool) (a : Alone) → ((k : Book) × (kept ≡ Some k) × Keeps lease p g k) → HoldsIn lease p g (come_back fault kept two a)
  came_back fault kept two a f = by (two || not (is_some kept)) (is_fault 4 fault) where
    by : (b c : Bool) → HoldsIn lease p g (if b then record a { book = kept; kept = kept; doubt = None; format = if two then New else Old }
        else if c then record a { book = None; kept = kept; doubt = None; format = if nat_le 3 fault then Moving else Old }
        else record a { book = kept; kept = kept; doubt = None; format = New })
    by true c = record { book = if_some (Keeps lease p g) kept f; kept = f; doubt = tt }
    by false true = record { book = tt; kept = f; doubt = tt }
    by false false = record { book = if_some (Keeps lease p g) kept f; kept = f; doubt = tt }

  restarted : (fault : ℕ) (image : Image) (a : Alone) → HoldsIn lease p g a → HoldsIn lease p g (after_restart fault image a)
  restarted fault (Byte byte) a h =
      came_back fault (found byte a) (is_new a.format byte) a (found_in (Keeps lease p g) (byte == 0xa5) a.doubt a.kept h.doubt h.kept)
  restarted fault Unreadable a h = record { book = tt; kept = h.kept; doubt = h.doubt }

  -- a book that is saved and opened
  saved : (setup : Setup) (a : Alone) (proto : Proto) (done : Served) → Keeps lease p g done.book → IfSome a.doubt (Keeps lease p g)
      → HoldsIn lease p g (answer_step setup (record a { book = Some done.book; kept = Some (kept_book done.book) }) proto done.answer).next
  saved setup a proto done keeps unsure =
      answered setup (record a { book = Some done.book; kept = Some (kept_book done.book) }) proto done.answer (record { book = keeps; kept = (kept_book done.book, refl, keeps_kept lease p g done.book keeps); doubt = unsure })

  served_holds : (setup : Setup) (fault : ℕ) (a : Alone) (proto : Proto) (done : Served) → Keeps lease p g done.book → HoldsIn lease p g a → HoldsIn lease p g (served_step setup fault a proto done).next
  served_holds setup fault a proto done keeps h =
      either_step (HoldsIn lease p g) (not done.is_kept) _ _
      (answered setup (record a { book = Some done.book }) proto done.answer (record { book = keeps; kept = h.kept; doubt = h.doubt }))
      (either_step (HoldsIn lease p g) (is_fault 6 fault) _ _
      (record { book = tt; kept = h.kept; doubt = either_book (Keeps lease p g) (nat_le 5 fault) (Some (kept_book done.book)) a.doubt (keeps_kept lease p g done.book keeps) h.doubt })
      (saved setup a proto done keeps h.doubt))

  by_sent : (kept fails : Bool) (one two three : Step) → kept ≡ true → is_sent two.effect ≡ false → is_sent (if not kept then one else if fails then two else three).effect ≡ true
      → HoldsIn lease p g three.next → HoldsIn lease p g (if not kept then one else if fails then two else three).next
  by_sent false fails one two three kept unsent sent h = absurd cc
  by_sent true true one two three kept unsent sent h = absurd cc
  by_sent true false one two three kept unsent sent h = h

module _ (setup : Setup) (limits : HasLimits setup.part) (p : Proto) (g : Grant (ClientOf p)) where
  -- a step keeps it, or its client ends it
  step_holds : (s : Seen) (a : Alone) → HasBooks (IsBookOf setup.part) a → HoldsIn setup.part.lease p g a
      → HoldsIn setup.part.lease p g (alone_step setup s a).next ⊎ Stands (Ended p g.client g.address) (lines setup s a)
  unfolding alone_step served
  step_holds (Frame proto frame) a books h = inl (either_step (HoldsIn setup.part.lease p g) a.on _ _ (framed setup.part.lease p g setup a proto (relayed_up setup.part proto frame) h) h)
  step_holds (Up j now fault) a books h = by_on a.on where
    by : (d : Datagram) (b : Book) (effect : Effect)
        → Keeps setup.part.lease p g (datagram_served setup.part d.proto d.bytes (book_at now b)).book ⊎ Stands (Ended p g.client g.address) (datagram_lines setup.part effect now (Some b) (Some d))
        → HoldsIn setup.part.lease p g (book_step setup now fault a d (Some b)).next ⊎ Stands (Ended p g.client g.address) (datagram_lines setup.part effect now (Some b) (Some d))
    by d b effect (inl keeps) = inl (served_holds setup.part.lease p g setup fault a d.proto (served setup.part (delivery_of setup.part now d) b) keeps h)
    by d b effect (inr ended) = inr ended

    by_proto : (proto : Proto) (bytes : List ℕ) (b : Book) (effect : Effect) → IsBookOf setup.part b → Keeps setup.part.lease p g (book_at now b)
        → Keeps setup.part.lease p g (datagram_served setup.part proto bytes (book_at now b)).book ⊎ Stands (Ended p g.client g.address) (proto_lines setup.part effect (book_at now b) proto bytes)
    by_proto proto bytes b effect book keeps = served_keeps p proto setup.part (book_at now b) (later_of setup.part now b book).book g effect bytes keeps

    opened : (d : Datagram) (b : Option Book) (effect : Effect) → IfSome b (IsBookOf setup.part) → IfSome b (Keeps setup.part.lease p g)
        → HoldsIn setup.part.lease p g (book_step setup now fault a d b).next ⊎ Stands (Ended p g.client g.address) (datagram_lines setup.part effect now b (Some d))
    opened d None effect book keeps = inl h
    opened d (Some b) effect book keeps =
        by d b effect (by_proto d.proto d.bytes b effect book (keeps_later setup.part.lease now p g b keeps))

    went_up : (d : Option Datagram) → HoldsIn setup.part.lease p g (up_step setup now fault a d).next ⊎ Stands (Ended p g.client g.address) (datagram_lines setup.part (up_step setup now fault a d).effect now a.book d)
    went_up None = inl h
    went_up (Some d) = opened d a.book _ books.book h.book

    by_on : (on : Bool) → HoldsIn setup.part.lease p g (if on then up_step setup now fault a (slice_get a.up j) else record { effect = Gone; next = a }).next
        ⊎ Stands (Ended p g.client g.address) (if on then datagram_lines setup.part (if on then up_step setup now fault a (slice_get a.up j) else record { effect = Gone; next = a }).effect now a.book (slice_get a.up j) else [])
    by_on true = went_up (slice_get a.up j)
    by_on false = inl h
  step_holds (Down j) a books h = inl (either_step (HoldsIn setup.part.lease p g) a.on _ _ (went_down setup.part.lease p g setup a (slice_get a.down j) h) h)
  step_holds (Tick now) a books h = inl (record { book = ticked a.book h.book; kept = h.kept; doubt = h.doubt }) where
    ticked : (b : Option Book) → IfSome b (Keeps setup.part.lease p g) → IfSome (option_map (book_at now) b) (Keeps setup.part.lease p g)
    ticked None keeps = keeps
    ticked (Some b) keeps = keeps_later setup.part.lease now p g b keeps
  step_holds (Restart comeback) a books h = inl (restarted setup.part.lease p g comeback.move_fault comeback.image a h)
  step_holds (Turn true) a books h = inl (record { book = h.book; kept = h.kept; doubt = h.doubt })
  step_holds (Turn false) a books h = inl (record { book = left a.book h.book; kept = h.kept; doubt = h.doubt }) where
    left : (b : Option Book) → IfSome b (Keeps setup.part.lease p g) → IfSome (option_map kept_book b) (Keeps setup.part.lease p g)
    left None keeps = keeps
    left (Some b) keeps = keeps_kept setup.part.lease p g b keeps

  -- whoever grants holds
  grant_holds : (s : Seen) (a : Alone) → HasBooks (IsBookOf setup.part) a → IsSure a → Stands (Granted p g) (lines setup s a) → HoldsIn setup.part.lease p g (alone_step setup s a).next
  unfolding alone_step served
  grant_holds (Frame proto frame) a books sure s = absurd s
  grant_holds (Up j now fault) a books sure s = by_on a.on s where
    by_proto : (proto : Proto) (bytes : List ℕ) (b : Book) → IsBookOf setup.part b → a.doubt ≡ None
        → Stands (Granted p g) (proto_lines setup.part (served_step setup fault a proto (datagram_served setup.part proto bytes (book_at now b))).effect (book_at now b) proto bytes)
        → HoldsIn setup.part.lease p g (served_step setup fault a proto (datagram_served setup.part proto bytes (book_at now b))).next
    by_proto proto bytes b book none s =
        let done = datagram_served setup.part proto bytes (book_at now b) in
        let i = served_grants p proto setup.part limits (book_at now b) (later_of setup.part now b book) g (served_step setup fault a proto done).effect bytes s in
        by_sent setup.part.lease p g done.is_kept (is_fault 6 fault) _ _ _ i.is_kept refl i.sent
        (saved setup.part.lease p g setup a proto done (keeps_new p setup.part (book_at now b) done _ g i) (subst (λ (o : Option Book). IfSome o (Keeps setup.part.lease p g)) (sym none) tt))

    opened : (d : Datagram) (b : Option Book) → IfSome b (IsBookOf setup.part) → IfSome b (λ b. a.doubt ≡ None)
        → Stands (Granted p g) (datagram_lines setup.part (book_step setup now fault a d b).effect now b (Some d)) → HoldsIn setup.part.lease p g (book_step setup now fault a d b).next
    opened d None book none s = absurd s
    opened d (Some b) book none s = by_proto d.proto d.bytes b book none s

    went_up : (d : Option Datagram) → Stands (Granted p g) (datagram_lines setup.part (up_step setup now fault a d).effect now a.book d) → HoldsIn setup.part.lease p g (up_step setup now fault a d).next
    went_up None s = absurd s
    went_up (Some d) s = opened d a.book books.book sure s

    by_on : (on : Bool) → Stands (Granted p g) (if on then datagram_lines setup.part (if on then up_step setup now fault a (slice_get a.up j) else record { effect = Gone; next = a }).effect now a.book (slice_get a.up j) else [])
        → HoldsIn setup.part.lease p g (if on then up_step setup now fault a (slice_get a.up j) else record { effect = Gone; next = a }).next
    by_on true s = went_up (slice_get a.up j) s
    by_on false s = absurd s
  grant_holds (Down j) a books sure s = absurd s
  grant_holds (Tick now) a books sure s = absurd s
  grant_holds (Restart comeback) a books sure s = absurd s
  grant_holds (Turn on) a books sure s = absurd s

  -- who grants the address to another client knows of the first grant
  grants_another : (s : Seen) (a : Alone) (h : Grant (ClientOf p)) → HasBooks (IsBookOf setup.part) a → HoldsIn setup.part.lease p g a → Stands (Granted p h) (lines setup s a)
      → h.address ≡ g.address → (g.client ≡ h.client → ⊥) → g.until ≤ h.clock
  unfolding alone_step
  grants_another (Frame proto frame) a h books holds s same apart = absurd s
  grants_another (Up j now fault) a h books holds s same apart = by_on a.on _ s where
    by : (b : Book) → h.clock ≡ b.clock → ((client : ClientOf p) → address_of (binding_of p b client) ≡ Some h.address → client ≡ h.client) → Knows p g b → g.until ≤ h.clock
    by b clock own (inl past) = subst (λ t. g.until ≤ t) (sym clock) past
    by b clock own (inr (l, is, address, more)) = absurd (apart (own g.client (ap address_of is ∙ ap Some (address ∙ sym same))))

    by_proto : (proto : Proto) (bytes : List ℕ) (b : Book) (effect : Effect) → IsBookOf setup.part b → Keeps setup.part.lease p g b
        → Stands (Granted p h) (proto_lines setup.part effect (book_at now b) proto bytes) → g.until ≤ h.clock
    by_proto proto bytes b effect book keeps s =
        let i = served_grants p proto setup.part limits (book_at now b) (later_of setup.part now b book) h effect bytes s in
        by (book_at now b) i.clock i.own (keeps_later setup.part.lease now p g b keeps).1

    opened : (d : Datagram) (b : Option Book) (effect : Effect) → IfSome b (IsBookOf setup.part) → IfSome b (Keeps setup.part.lease p g) → Stands (Granted p h) (datagram_lines setup.part effect now b (Some d)) → g.until ≤ h.clock
    opened d None effect book keeps s = absurd s
    opened d (Some b) effect book keeps s = by_proto d.proto d.bytes b effect book keeps s

    went_up : (d : Option Datagram) (effect : Effect) → Stands (Granted p h) (datagram_lines setup.part effect now a.book d) → g.until ≤ h.clock
    went_up None effect s = absurd s
    went_up (Some d) effect s = opened d a.book effect books.book holds.book s

    by_on : (on : Bool) (effect : Effect) → Stands (Granted p h) (if on then datagram_lines setup.part effect now a.book (slice_get a.up j) else []) → g.until ≤ h.clock
    by_on true effect s = went_up (slice_get a.up j) effect s
    by_on false effect s = absurd s
  grants_another (Down j) a h books holds s same apart = absurd s
  grants_another (Tick now) a h books holds s same apart = absurd s
  grants_another (Restart comeback) a h books holds s same apart = absurd s
  grants_another (Turn on) a h books holds s same apart = absurd s

  -- what is granted is in the pool
  grants_pooled : (s : Seen) (a : Alone) → HasBooks (IsBookOf setup.part) a → Stands (Granted p g) (lines setup s a) → IsInPool setup.part p g.address
  unfolding alone_step
  grants_pooled (Frame proto frame) a books s = absurd s
  grants_pooled (Up j now fault) a books s = by_on a.on _ s where
    by_proto : (proto : Proto) (bytes : List ℕ) (b : Book) (effect : Effect) → IsBookOf setup.part b → Stands (Granted p g) (proto_lines setup.part effect (book_at now b) proto bytes) → IsInPool setup.part p g.address
    by_proto proto bytes b effect book s = (served_grants p proto setup.part limits (book_at now b) (later_of setup.part now b book) g effect bytes s).in_pool

    opened : (d : Datagram) (b : Option Book) (effect : Effect) → IfSome b (IsBookOf setup.part) → Stands (Granted p g) (datagram_lines setup.part effect now b (Some d)) → IsInPool setup.part p g.address
    opened d None effect book s = absurd s
    opened d (Some b) effect book s = by_proto d.proto d.bytes b effect book s

    went_up : (d : Option Datagram) (effect : Effect) → Stands (Granted p g) (datagram_lines setup.part effect now a.book d) → IsInPool setup.part p g.address
    went_up None effect s = absurd s
    went_up (Some d) effect s = opened d a.book effect books.book s

    by_on : (on : Bool) (effect : Effect) → Stands (Granted p g) (if on then datagram_lines setup.part effect now a.book (slice_get a.up j) else []) → IsInPool setup.part p g.address
    by_on true effect s = went_up (slice_get a.up j) effect s
    by_on false effect s = absurd s
  grants_pooled (Down j) a books s = absurd s
  grants_pooled (Tick now) a books s = absurd s
  grants_pooled (Restart comeback) a books s = absurd s
  grants_pooled (Turn on) a books s = absurd s

-- ---- an open circuit has nothing in doubt

sure_framed : (setup : Setup) (a : Alone) (proto : Proto) (sent : Result (List ℕ) Discard) → IsSure a → IsSure (frame_step setup a proto sent).next
sure_framed setup a proto (Err why) sure = sure
sure_framed setup a proto (Ok bytes) sure = sure

sure_answered : (setup : Setup) (a : Alone) (proto : Proto) (answer : Result (List ℕ) Discard) → IsSure a → IsSure (answer_step setup a proto answer).next
sure_answered setup a proto (Err why) sure = sure
sure_answered setup a proto (Ok bytes) sure = sure

sure_replied : (a : Alone) (sent : Result SentFrame Discard) → IsSure a → IsSure (reply_step a sent).next
sure_replied a (Err why) sure = sure
sure_replied a (Ok frame) sure = sure

sure_down : (setup : Setup) (a : Alone) (d : Option Datagram) → IsSure a → IsSure (down_step setup a d).next
sure_down setup a None sure = sure
sure_down setup a (Some d) sure = sure_replied a (relayed_down setup.part d.proto d.bytes) sure

sure_served : (setup : Setup) (fault : ℕ) (a : Alone) (proto : Proto) (done : Served) → a.doubt ≡ None → IsSure (served_step setup fault a proto done).next
sure_served setup fault a proto done none =
    either_step IsSure (not done.is_kept) _ _ (sure_answered setup (record a { book = Some done.book }) proto done.answer none)
    (either_step IsSure (is_fault 6 fault) _ _ tt (sure_answered setup (record a { book = Some done.book; kept = Some (kept_book done.book) }) proto done.answer none))

none_doubted : (doubt o : Option Book) → doubt ≡ None → IfSome o (λ b. doubt ≡ None)
none_doubted doubt None none = tt
none_doubted doubt (Some b) none = none

sure_back : (fault : ℕ) (kept : Option Book) (two : Bool) (a : Alone) → IsSure (come_back fault kept two a)
sure_back fault kept two a = by (two || not (is_some kept)) (is_fault 4 fault) where
  by : (b c : Bool) → IsSure (if b then record a { book = kept; kept = kept; doubt = None; format = if two then New else Old }
      else if c then record a { book = None; kept = kept; doubt = None; format = if nat_le 3 fault then Moving else Old }
      else record a { book = kept; kept = kept; doubt = None; format = New })
  by true c = none_doubted None kept refl
  by false true = tt
  by false false = none_doubted None kept refl

sure_restarted : (fault : ℕ) (image : Image) (a : Alone) → IsSure (after_restart fault image a)
sure_restarted fault (Byte byte) a = sure_back fault (found byte a) (is_new a.format byte) a
sure_restarted fault Unreadable a = tt

sure_step : (setup : Setup) (s : Seen) (a : Alone) → IsSure a → IsSure (alone_step setup s a).next
unfolding alone_step
sure_step setup (Frame proto frame) a sure = either_step IsSure a.on _ _ (sure_framed setup a proto (relayed_up setup.part proto frame) sure) sure
sure_step setup (Up j now fault) a sure = either_step IsSure a.on _ _ (went_up (slice_get a.up j)) sure where
  opened : (d : Datagram) (b : Option Book) → IfSome b (λ b. a.doubt ≡ None) → IsSure (book_step setup now fault a d b).next
  opened d None none = sure
  opened d (Some b) none = sure_served setup fault a d.proto (served setup.part (delivery_of setup.part now d) b) none

  went_up : (d : Option Datagram) → IsSure (up_step setup now fault a d).next
  went_up None = sure
  went_up (Some d) = opened d a.book sure
sure_step setup (Down j) a sure = either_step IsSure a.on _ _ (sure_down setup a (slice_get a.down j) sure) sure
sure_step setup (Tick now) a sure = ticked a.book sure where
  ticked : (b : Option Book) → IfSome b (λ b. a.doubt ≡ None) → IfSome (option_map (book_at now) b) (λ b. a.doubt ≡ None)
  ticked None none = none
  ticked (Some b) none = none
sure_step setup (Restart comeback) a sure = sure_restarted comeback.move_fault comeback.image a
sure_step setup (Turn true) a sure = sure
sure_step setup (Turn false) a sure = left a.book sure where
  left : (b : Option Book) → IfSome b (λ b. a.doubt ≡ None) → IfSome (option_map kept_book b) (λ b. a.doubt ≡ None)
  left None none = none
  left (Some b) none = none

sure_after : (setup : Setup) (seen : List Seen) (a : Alone) → IsSure a → IsSure (after_all setup seen a)
unfolding after_all
sure_after setup [] a sure = sure
sure_after setup (s ∷ seen) a sure = sure_after setup seen (alone_step setup s a).next (sure_step setup s a sure)

-- ---- a restart

begins : (p : Proto) (g : Grant (ClientOf p)) (fault : ℕ) (kept : Option Book) (two : Bool) (a : Alone) (b : Book) → kept ≡ Some b → Knows p g b → BeginsKnowing p g fault (come_back fault kept two a)
begins p g fault kept two a b is knows = by (two || not (is_some kept)) (is_fault 4 fault) refl where
  by : (done fails : Bool) → is_fault 4 fault ≡ fails → BeginsKnowing p g fault (if done then record a { book = kept; kept = kept; doubt = None; format = if two then New else Old }
      else if fails then record a { book = None; kept = kept; doubt = None; format = if nat_le 3 fault then Moving else Old }
      else record a { book = kept; kept = kept; doubt = None; format = New })
  by true fails e = record { found = b; kept = is; knows = knows; opens = λ no. is }
  by false true e = record { found = b; kept = is; knows = knows; opens = λ no. absurd cc }
  by false false e = record { found = b; kept = is; knows = knows; opens = λ no. is }

-- ---- a run

module _ (setup : Setup) (limits : HasLimits setup.part) where
  books_step : (s : Seen) (a : Alone) → HasBooks (IsBookOf setup.part) a → HasBooks (IsBookOf setup.part) (alone_step setup s a).next
  books_step = own_step setup limits

  pub books_after : (seen : List Seen) (a : Alone) → HasBooks (IsBookOf setup.part) a → HasBooks (IsBookOf setup.part) (after_all setup seen a)
  unfolding after_all
  books_after [] a books = books
  books_after (s ∷ seen) a books = books_after seen (alone_step setup s a).next (books_step s a books)

  run_holds : (p : Proto) (g : Grant (ClientOf p)) (seen : List Seen) (a : Alone) → HasBooks (IsBookOf setup.part) a → HoldsIn setup.part.lease p g a
      → HoldsIn setup.part.lease p g (after_all setup seen a) ⊎ Stands (Ended p g.client g.address) (ledger setup seen a)
  unfolding after_all ledger
  run_holds p g [] a books h = inl h
  run_holds p g (s ∷ seen) a books h = by (step_holds setup limits p g s a books h) (λ next. run_holds p g seen (alone_step setup s a).next (books_step s a books) next) where
    rest : HoldsIn setup.part.lease p g (after_all setup seen (alone_step setup s a).next) ⊎ Stands (Ended p g.client g.address) (ledger setup seen (alone_step setup s a).next)
        → HoldsIn setup.part.lease p g (after_all setup seen (alone_step setup s a).next) ⊎ Stands (Ended p g.client g.address) (ledger setup (s ∷ seen) a)
    rest (inl holds) = inl holds
    rest (inr ended) = inr (stands_right (Ended p g.client g.address) (lines setup s a) _ ended)

    by : HoldsIn setup.part.lease p g (alone_step setup s a).next ⊎ Stands (Ended p g.client g.address) (lines setup s a)
        → (HoldsIn setup.part.lease p g (alone_step setup s a).next
        → HoldsIn setup.part.lease p g (after_all setup seen (alone_step setup s a).next) ⊎ Stands (Ended p g.client g.address) (ledger setup seen (alone_step setup s a).next))
        → HoldsIn setup.part.lease p g (after_all setup seen (alone_step setup s a).next) ⊎ Stands (Ended p g.client g.address) (ledger setup (s ∷ seen) a)
    by (inl holds) on = rest (on holds)
    by (inr ended) on = inr (stands_left (Ended p g.client g.address) (lines setup s a) _ ended)

  module _ (on : Bool) (first_fault : ℕ) (kept : Option Book) (two : Bool) (is_book : IfSome kept (IsBookOf setup.part)) (before : List Seen) (s : Seen) (p : Proto) (g : Grant (ClientOf p)) where
    abbrev reached : Alone
    reached = after_all setup before (start on first_fault kept two)

    reached_books : HasBooks (IsBookOf setup.part) reached
    reached_books = books_after before (start on first_fault kept two) (held_back (IsBookOf setup.part) first_fault kept two (unsent on) is_book)

    reached_sure : IsSure reached
    reached_sure = sure_after setup before (start on first_fault kept two) (sure_back first_fault kept two (unsent on))

    after_grant : (seen : List Seen) → Stands (Granted p g) (lines setup s reached)
        → HoldsIn setup.part.lease p g (after_all setup seen (alone_step setup s reached).next) ⊎ Stands (Ended p g.client g.address) (ledger setup seen (alone_step setup s reached).next)
    after_grant seen grants =
        run_holds p g seen (alone_step setup s reached).next (books_step s reached reached_books) (grant_holds setup limits p g s reached reached_books reached_sure grants)

    pub grants_inside : Stands (Granted p g) (lines setup s (after_all setup before (start on first_fault kept two))) → IsInPool setup.part p g.address
    grants_inside = grants_pooled setup limits p g s reached reached_books

    pub forgets_none : (seen : List Seen) (byte fault : ℕ) → Stands (Granted p g) (lines setup s (after_all setup before (start on first_fault kept two)))
        → BeginsKnowing p g fault (alone_step setup (restart_over byte fault) (after_all setup (s ∷ seen) (after_all setup before (start on first_fault kept two)))).next
        ⊎ Stands (Ended p g.client g.address) (ledger setup seen (alone_step setup s (after_all setup before (start on first_fault kept two))).next)
    unfolding alone_step after_all
    forgets_none seen byte fault grants = by (after_grant seen grants) where
      known : (a : Alone) → HoldsIn setup.part.lease p g a → BeginsKnowing p g fault (after_restart fault (Byte byte) a)
      known a h =
          let f = found_in (Keeps setup.part.lease p g) (byte == 0xa5) a.doubt a.kept h.doubt h.kept in
          begins p g fault (found byte a) (is_new a.format byte) a f.0 f.1 f.2.1

      by : HoldsIn setup.part.lease p g (after_all setup seen (alone_step setup s reached).next) ⊎ Stands (Ended p g.client g.address) (ledger setup seen (alone_step setup s reached).next)
          → BeginsKnowing p g fault (after_restart fault (Byte byte) (after_all setup seen (alone_step setup s reached).next))
          ⊎ Stands (Ended p g.client g.address) (ledger setup seen (alone_step setup s reached).next)
      by (inl h) = inl (known _ h)
      by (inr ended) = inr ended

    pub leases_once : (between : List Seen) (t : Seen) (h : Grant (ClientOf p)) → Stands (Granted p g) (lines setup s (after_all setup before (start on first_fault kept two)))
        → Stands (Granted p h) (lines setup t (after_all setup (s ∷ between) (after_all setup before (start on first_fault kept two)))) → h.address ≡ g.address → (g.client ≡ h.client → ⊥)
        → (g.until ≤ h.clock) ⊎ Stands (Ended p g.client g.address) (ledger setup between (alone_step setup s (after_all setup before (start on first_fault kept two))).next)
    unfolding after_all
    leases_once between t h grants again same apart = by (after_grant between grants) where
      there : HasBooks (IsBookOf setup.part) (after_all setup between (alone_step setup s reached).next)
      there = books_after between (alone_step setup s reached).next (books_step s reached reached_books)

      by : HoldsIn setup.part.lease p g (after_all setup between (alone_step setup s reached).next) ⊎ Stands (Ended p g.client g.address) (ledger setup between (alone_step setup s reached).next)
          → (g.until ≤ h.clock) ⊎ Stands (Ended p g.client g.address) (ledger setup between (alone_step setup s reached).next)
      by (inl holds) = inl (grants_another setup limits p g t (after_all setup between (alone_step setup s reached).next) h there holds again same apart)
      by (inr ended) = inr ended
