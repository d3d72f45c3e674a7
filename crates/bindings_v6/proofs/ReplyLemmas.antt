-- The addresses of replies are numbers as sixteen bytes, or listed ones.
use Rattle.std.proofs.Common.{◌≡◌, ◌≤◌, ◌+◌, ℕ, Bool, true, false, not, cond, eqb, List, [], ◌∷◌, length, refl, subst, arith}
use Rattle.std.specs.Prelude.{Option, Some, None, Result, Ok, Err}
use Rattle.std.specs.List.{filter}
use Rattle.std.proofs.lemmas.List.Elements.{All-filter, All-nil}
use Rattle.types.specs.Addr.{number6}
use Rattle.types.specs.Pool6.{Pool6Value}
use Rattle.types.specs.declared.addr.Addr6.{Addr6}
use Rattle.types.specs.declared.discard.Discard.{Discard}
use Rattle.types.specs.declared.discard.Discard.TheVariants as reason
use Rattle.types.specs.declared.kind6.Kind6.{Kind6}
use Rattle.types.specs.declared.kind6.Kind6.TheVariants.{Solicit, Request, Confirm, Renew, Rebind, Release, Decline}
use Rattle.exchange.specs.declared.request6.Reply6.{Reply6}
use Rattle.exchange.specs.declared.request6.Request6.{Request6}
use Rattle.bindings_v6.specs.IsBook6.{AreWhole, IsWholeIa, GivesWholeAddresses}
use Rattle.slots.specs.Row.{Unchanged, Row, drops}
use Rattle.bindings_v6.specs.Table6.{others, solicit_row, request_row, renew_row, confirm_row, release_row, decline_row, is_off_link, where_listed, Lookup, lookup_in, row_of, is_for_us, answer6}

abbrev Whole : Addr6 → Type 0
Whole a = length a.0 ≡ 16

-- a filter keeps no more than there are
no_more : (p : Addr6 → Bool) (xs : List Addr6) → length (filter p xs) ≤ length xs
no_more p [] = omega arith
no_more p (x ∷ xs) = by_test (p x) (no_more p xs) where
  by_test : (b : Bool) → length (filter p xs) ≤ length xs → length (cond b (x ∷ filter p xs) (filter p xs)) ≤ length (x ∷ xs)
  by_test true rest = omega (arith, rest)
  by_test false rest = omega (arith, rest)

module _ (listed : List Addr6) where
  abbrev IsWhole : Result Reply6 Discard → Type 0
  IsWhole (Err why) = Unit {0}
  IsWhole (Ok reply) = IsWholeIa listed reply.ia

  abbrev AreZeroed : List Addr6 → Type 0
  AreZeroed zeroed = (length zeroed ≤ length listed) × (AreWhole listed → AreWhole zeroed)

  -- none is zeroed
  alone : AreZeroed []
  alone = (omega arith, λ are. All-nil Whole)

  -- the others are
  beside : (address : ℕ) → AreZeroed (others address listed)
  beside address = (no_more (λ x. not (eqb (number6 x) address)) listed, λ are. All-filter (λ x. not (eqb (number6 x) address)) Whole listed are)

  whole_solicit : (found : Option ℕ) → IsWhole (solicit_row found).answer
  whole_solicit (Some address) = (alone.0, alone.1, refl)
  whole_solicit None = tt

  whole_request : (end : ℕ) (off_link : Bool) (found : Option ℕ) → IsWhole (request_row end off_link found).answer
  whole_request end true found = tt
  whole_request end false (Some address) = (alone.0, alone.1, refl)
  whole_request end false None = tt

  whole_renew : (end : ℕ) (bound : Option ℕ) → IsWhole (renew_row end listed bound).answer
  whole_renew end (Some bound) = ((beside bound).0, (beside bound).1, refl)
  whole_renew end None = tt

  whole_confirm : (xs : List Addr6) (off_link : Bool) → IsWhole (confirm_row xs off_link).answer
  whole_confirm [] off_link = tt
  whole_confirm (x ∷ xs) true = tt
  whole_confirm (x ∷ xs) false = tt

  whole_release : (bound : Option ℕ) (is_listed : Bool) → IsWhole (release_row bound is_listed).answer
  whole_release (Some bound) true = tt
  whole_release (Some bound) false = tt
  whole_release None is_listed = tt

  whole_decline : (t : ℕ) (bound : Option ℕ) (is_listed : Bool) → IsWhole (decline_row t bound is_listed).answer
  whole_decline t (Some bound) true = tt
  whole_decline t (Some bound) false = tt
  whole_decline t None is_listed = tt

  whole_row : (pool : Pool6Value) (t : ℕ) (found : Lookup) (kind : Kind6) → IsWhole (row_of pool t found listed kind).answer
  whole_row pool t found Solicit = whole_solicit found.pick
  whole_row pool t found Request = whole_request (t + pool.lease) (is_off_link pool listed) found.pick
  whole_row pool t found Renew = whole_renew (t + pool.lease) found.binding
  whole_row pool t found Rebind = whole_renew (t + pool.lease) found.binding
  whole_row pool t found Confirm = whole_confirm listed (is_off_link pool listed)
  whole_row pool t found Release = whole_release found.binding (where_listed listed found.binding)
  whole_row pool t found Decline = whole_decline t found.binding (where_listed listed found.binding)

  -- by whether the message is for this server
  whole_if : (ours : Bool) (row : Row Reply6) → IsWhole row.answer → IsWhole (cond ours row (drops reason.OtherServer Unchanged)).answer
  whole_if true row is = is
  whole_if false row is = tt

pub whole_addresses : (pool : Pool6Value) (t : ℕ) (m : Request6) → GivesWholeAddresses pool t m
unfolding answer6
whole_addresses pool t m b reply is =
    let found = lookup_in pool b m in
    let row = row_of pool t found m.listed.items m.kind in
    subst (IsWhole m.listed.items) is (whole_if m.listed.items (is_for_us m.kind m.server) row (whole_row m.listed.items pool t found m.kind))
