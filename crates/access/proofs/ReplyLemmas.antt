-- The answers to the datagrams of a turn, one after the other.
use Rattle.std.proofs.Common.{inl, inr, ◌≡◌, ◌∙◌, ◌+◌, ◌<◌, ◌≤◌, ℕ, zero, suc, Bool, true, false, Bor, List, [], ◌∷◌, ◌++◌, length, get_or, map, refl, sym, ap, subst, arith, append_assoc, append-nil}
use Rattle.std.specs.Prelude.{◌⊎◌, Option, Some, None, option_map, Result, Ok, Err, if◌then◌else◌, slice_get, slice_index_or}
use Rattle.std.proofs.lemmas.Option.{same_Some, slice_get_cases, slice_get-get_or}
use Rattle.types.specs.Delivery.{DeliveryValue}
use Rattle.types.specs.declared.addr.Source.{Source}
use Rattle.types.specs.declared.dest.Proto.{Proto}
use Rattle.types.specs.declared.dest.Proto.TheVariants.{V4, V6}
use Rattle.udp.specs.Socket.{SocketValue}
use Rattle.types.specs.declared.discard.Discard.{Discard}
use Rattle.config.specs.Topology.{Topology}
use Rattle.requests.specs.Addressee.{addressee}
use Rattle.dispatch.specs.Answers.{answer_of, circuit_at, circuit_in}
use Rattle.dispatch.specs.Batch.{circuits_of}
use Rattle.dispatch.specs.declared.server.batch_answers.Answer.{Answer}
use Rattle.udp.specs.History.{Entry, Sent, with_entry}
use Rattle.udp.specs.declared.history.Role.{Role}
use Rattle.udp.specs.declared.history.Role.TheVariants as role
use Rattle.counts.specs.Tally.{tallied, tallied_all}
use Rattle.counts.specs.declared.counts.Fate.{Fate}
use Rattle.counts.specs.declared.counts.Fate.TheVariants as fate
use Rattle.counts.specs.declared.tally.Tally.{Tally}
use Rattle.access.specs.Batch.{HasTried, IsReplied, IsRepliedAt, is_repeated, fate_at_server}
use Rattle.access.specs.Taken.{all_delivered, delivered}
use Rattle.access.specs.Turn.{GoesOn, HasSentOn, InOrder, Tries}
use Rattle.access.specs.declared.datagrams.Datagram.{Datagram}
use Rattle.access.proofs.CarryLemmas.{tallied_append}

-- ---- one

get_map : {A B : Type 0} (f : A → B) (xs : List A) (j : ℕ) (x : A) → slice_get xs j ≡ Some x → slice_get (map f xs) j ≡ Some (f x)
get_map f [] j x there = absurd cc
get_map f (y ∷ xs) zero x there = ap (option_map f) there
get_map f (y ∷ xs) (suc j) x there = get_map f xs j x there

-- the datagram of an index
pub delivered_at : (now : ℕ) (taken : List Datagram) (j : ℕ) (d : Datagram) → j < length taken → d ≡ slice_index_or taken j d → slice_get (all_delivered now taken) j ≡ Some (delivered now d)
delivered_at now taken j d within is = get_map (delivered now) taken j d (slice_get-get_or taken j d within ∙ ap Some (sym is))

-- what a slice without that index gives
abbrev pub no_datagram : Datagram
no_datagram = record { proto = V4; source = record { addr = record { 0 = [] }; port = 0 }; len = 0; buffer = [] }

-- the same by the list that a slice has
pub delivered_in : (now : ℕ) (taken slice : List Datagram) (j : ℕ) → slice ≡ taken → j < length slice → slice_get (all_delivered now taken) j ≡ Some (delivered now (slice_index_or slice j no_datagram))
delivered_in now taken slice j same within =
    subst (λ ds. slice_get (all_delivered now ds) j ≡ Some (delivered now (slice_index_or slice j no_datagram))) same
    (get_map (delivered now) slice j (slice_index_or slice j no_datagram) (slice_get-get_or slice j no_datagram within))

-- the answer of an index
pub answer_at : (answers : List (Result (List ℕ) Discard)) (j : ℕ) (found : Option (Bor Answer)) (answer : Bor Answer) → option_map (λ (a : Bor Answer). answer_of a.now) found ≡ slice_get answers j → found ≡ Some answer → slice_get answers j ≡ Some (answer_of answer.now)
answer_at answers j found answer is some = sym is ∙ ap (option_map (λ (a : Bor Answer). answer_of a.now)) some

-- the circuit of an index is that of its datagram
pub circuit_is : (topology : Topology) (taken : List DeliveryValue) (j : ℕ) (d : DeliveryValue) → slice_get taken j ≡ Some d → circuit_at (circuits_of topology taken) j ≡ circuit_in (addressee topology d)
circuit_is topology [] j d there = absurd cc
circuit_is topology (x ∷ taken) zero d there = ap (λ y. circuit_in (addressee topology y)) (same_Some x d there)
circuit_is topology (x ∷ taken) (suc j) d there = circuit_is topology taken j d there

-- past the last answer
pub none_left : (answers : List (Result (List ℕ) Discard)) (j : ℕ) (found : Option (Bor Answer)) → option_map (λ (a : Bor Answer). answer_of a.now) found ≡ slice_get answers j → found ≡ None → length answers ≤ j
none_left answers j found is none = by (slice_get_cases answers j).1 where
  by : ((x : Result (List ℕ) Discard) × (j < length answers) × (slice_get answers j ≡ Some x) × (get_or answers j x ≡ x)) ⊎ ((length answers ≤ j) × (slice_get answers j ≡ None)) → length answers ≤ j
  by (inl one) = let never : None ≡ Some one.0 = ap (option_map (λ (a : Bor Answer). answer_of a.now)) (sym none) ∙ (is ∙ one.2) in absurd cc
  by (inr past) = past.0

-- the server's socket of a protocol
pub servers_role : (proto : Proto) (socket listen4 listen6 : SocketValue) → listen4.role ≡ role.Server V4 → listen6.role ≡ role.Server V6 → (proto ≡ V4 → socket ≡ listen4) → (proto ≡ V6 → socket ≡ listen6)
    → socket.role ≡ role.Server proto
servers_role V4 socket listen4 listen6 own4 own6 is4 is6 = ap (λ (s : SocketValue). s.role) (is4 refl) ∙ own4
servers_role V6 socket listen4 listen6 own4 own6 is4 is6 = ap (λ (s : SocketValue). s.role) (is6 refl) ∙ own6

-- it is repeated: nothing is done
pub replied_later : (b : Bool) (circuit : Option ℕ) (d : DeliveryValue) (answer : Result (List ℕ) Discard) (tally : Tally) (history : List Entry) → b ≡ true → HasTried (IsReplied b circuit d answer) tally tally history history
replied_later true circuit d answer tally history is = record { entries = []; outcomes = []; tried = (refl, refl); tally = refl; history = sym (append-nil history) }
replied_later false circuit d answer tally history is = absurd cc

-- its answer is sent
pub replied_now : (b : Bool) (socket : Role) (circuit : Option ℕ) (d : DeliveryValue) (answer : Result (List ℕ) Discard) (before after : Tally) (old new : List Entry) (became : Fate) → b ≡ false → socket ≡ role.Server d.proto
    → HasSentOn socket d.source fate.Answered answer old new became → after ≡ tallied (fate_at_server circuit became) before → HasTried (IsReplied b circuit d answer) before after old new
replied_now true socket circuit d answer before after old new became is own sent count = absurd cc
replied_now false socket circuit d answer before after old new became is own sent count = record {
  entries = sent.rest;
  outcomes = fate_at_server circuit became ∷ [];
  tried = (became, refl, subst (λ s. GoesOn s d.source fate.Answered answer sent.rest became) own sent.goes_on);
  tally = count;
  history = sent.history;
}

pub sent_ok : (socket : Role) (to : Source) (answer : Result (List ℕ) Discard) (bytes out : List ℕ) (sent : Bool) (old new : List Entry) (became : Fate) → answer ≡ Ok bytes → out ≡ bytes
    → new ≡ with_entry (Sent socket to out sent) old → became ≡ (if sent then fate.Answered else fate.Unsent) → HasSentOn socket to fate.Answered answer old new became
sent_ok socket to answer bytes out sent old new became is same entry became_is = record {
  rest = Sent socket to out sent ∷ [];
  history = entry;
  goes_on = subst (λ made. GoesOn socket to fate.Answered made (Sent socket to out sent ∷ []) became) (sym is) (sent, ap (λ b. Sent socket to b sent ∷ []) same, became_is);
}

pub dropped_on : (socket : Role) (to : Source) (answer : Result (List ℕ) Discard) (why : Discard) (history : List Entry) → answer ≡ Err why → HasSentOn socket to fate.Answered answer history history (fate.Dropped why)
dropped_on socket to answer why history is =
    record { rest = []; history = sym (append-nil history); goes_on = subst (λ made. GoesOn socket to fate.Answered made [] (fate.Dropped why)) (sym is) (refl, refl) }

pub replied_at : (taken : List DeliveryValue) (circuits : List (Option ℕ)) (answers : List (Result (List ℕ) Discard)) (j : ℕ) (d : DeliveryValue) (answer : Result (List ℕ) Discard) (before after : Tally) (old new : List Entry)
    → slice_get taken j ≡ Some d → slice_get answers j ≡ Some answer → HasTried (IsReplied (is_repeated answer) (circuit_at circuits j) d answer) before after old new → HasTried (IsRepliedAt taken circuits answers j) before after old new
replied_at taken circuits answers j d answer before after old new there its tried = record {
  entries = tried.entries;
  outcomes = tried.outcomes;
  tried = record { its_datagram = d; its_answer = answer; taken_at = there; answered_at = its; replied = tried.tried };
  tally = tried.tally;
  history = tried.history;
}

-- ---- all

tried_next : (Try : ℕ → Tries) (n : ℕ) (a b c : Tally) (old middle new : List Entry) → HasTried (InOrder Try n) a b old middle → HasTried (Try n) b c middle new → HasTried (InOrder Try (suc n)) a c old new
tried_next Try n a b c old middle new first second = record {
  entries = first.entries ++ second.entries;
  outcomes = first.outcomes ++ second.outcomes;
  tried = record { before = first.entries; after = second.entries; done = first.outcomes; more = second.outcomes; one = first.tried; other = second.tried; entries_are = refl; outcomes_are = refl };
  tally = second.tally ∙ ap (tallied_all second.outcomes) first.tally ∙ sym (tallied_append first.outcomes second.outcomes a);
  history = second.history ∙ ap (λ h. h ++ second.entries) first.history ∙ append_assoc old first.entries second.entries;
}

pub tried_more : (Try : ℕ → Tries) (n : ℕ) (a b c : Tally) (old middle new : List Entry) → HasTried (InOrder Try n) a b old middle → HasTried (Try n) b c middle new → HasTried (InOrder Try (n + 1)) a c old new
tried_more Try n a b c old middle new first second =
    let more : suc n ≡ n + 1 = omega arith in
    subst (λ (i : ℕ). HasTried (InOrder Try i) a c old new) more (tried_next Try n a b c old middle new first second)
