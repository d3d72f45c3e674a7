-- The addresses of replies are numbers as four bytes.
use Rattle.std.proofs.Common.{◌≡◌, ℕ, ◌+◌, Bool, true, false, cond, eqb, length, refl, subst}
use Rattle.std.specs.Prelude.{Option, Some, None, Result, Ok, Err, option_map}
use Rattle.std.specs.Option.{option_or}
use Rattle.types.specs.Addr.{number4}
use Rattle.types.specs.declared.discard.Discard.{Discard}
use Rattle.types.specs.declared.kind4.Kind4.{Kind4}
use Rattle.types.specs.declared.kind4.Kind4.TheVariants.{Discover, Offer, Request, Decline, Ack, Nak, Release, Inform}
use Rattle.types.specs.Pool4.{PoolValue}
use Rattle.exchange.specs.declared.request4.Reply4.{Reply4}
use Rattle.exchange.specs.declared.request4.Reply4.TheVariants as reply
use Rattle.exchange.specs.declared.request4.Request4.{Request4}
use Rattle.bindings_v4.specs.declared.server4.Server4.{Server4}
use Rattle.bindings_v4.specs.declared.server4.Server4.TheVariants.{Anybody, This, Another}
use Rattle.bindings_v4.specs.Book4.{Book4, in_pool}
use Rattle.slots.specs.Row.{Unchanged, Row, replies}
use Rattle.bindings_v4.specs.Table4.{grants, discover_row, other_server_row, selecting_row, known_address_row, no_server_row, decline_row, release_row, inform_row, where_is, where_specified, server_of, Lookup, lookup_in, row_of, answer4}

abbrev pub IsWhole : Result Reply4 Discard → Type 0
IsWhole (Err why) = Unit {0}
IsWhole (Ok (reply.Offer address)) = length address.0 ≡ 4
IsWhole (Ok (reply.Ack address)) = length address.0 ≡ 4
IsWhole (Ok reply.Inform) = Unit {0}
IsWhole (Ok reply.Nak) = Unit {0}

whole_discover : (t : ℕ) (pick binding : Option ℕ) → IsWhole (discover_row t pick binding).answer
whole_discover t None binding = tt
whole_discover t (Some address) (Some bound) = refl
whole_discover t (Some address) None = refl

whole_other : (offer : Option ℕ) → IsWhole (other_server_row offer).answer
whole_other None = tt
whole_other (Some address) = tt

whole_selecting : (end : ℕ) (wanted held : Option ℕ) → IsWhole (selecting_row end wanted held).answer
whole_selecting end None held = tt
whole_selecting end (Some wanted) (Some address) = refl
whole_selecting end (Some wanted) None = tt

whole_if : (b : Bool) (met other : Row Reply4) → IsWhole met.answer → IsWhole other.answer → IsWhole (cond b met other).answer
whole_if true met other h k = h
whole_if false met other h k = k

whole_known : (end : ℕ) (inside : Bool) (binding : Option ℕ) (address : ℕ) → IsWhole (known_address_row end inside binding address).answer
whole_known end false binding address = tt
whole_known end true None address = tt
whole_known end true (Some bound) address = whole_if (eqb bound address) (grants bound end) (replies reply.Nak Unchanged) refl tt

whole_no_server : (pool : PoolValue) (end : ℕ) (binding wanted ciaddr : Option ℕ) → IsWhole (no_server_row pool end binding wanted ciaddr).answer
whole_no_server pool end binding (Some wanted) (Some ciaddr) = tt
whole_no_server pool end binding None None = tt
whole_no_server pool end binding (Some wanted) None = whole_known end (in_pool pool wanted) binding wanted
whole_no_server pool end binding None (Some ciaddr) = whole_known end (in_pool pool ciaddr) binding ciaddr

whole_decline : (t : ℕ) (bound : Option ℕ) → IsWhole (decline_row t bound).answer
whole_decline t (Some bound) = tt
whole_decline t None = tt

whole_release : (bound : Option ℕ) → IsWhole (release_row bound).answer
whole_release (Some bound) = tt
whole_release None = tt

whole_inform : (ciaddr : Option ℕ) → IsWhole (inform_row ciaddr).answer
whole_inform None = tt
whole_inform (Some ciaddr) = tt

whole_row : (pool : PoolValue) (t : ℕ) (found : Lookup) (m : Request4) (kind : Kind4) (server : Server4) → IsWhole (row_of pool t found m kind server).answer
whole_row pool t found m Discover server = whole_discover t found.pick found.binding
whole_row pool t found m Request Another = whole_other found.offer
whole_row pool t found m Request This =
    whole_selecting (t + pool.lease) (option_map number4 m.wanted) (option_or (where_is found.binding (option_map number4 m.wanted)) (where_is found.offer (option_map number4 m.wanted)))
whole_row pool t found m Request Anybody = whole_no_server pool (t + pool.lease) found.binding (option_map number4 m.wanted) (where_specified m.ciaddr)
whole_row pool t found m Decline Another = tt
whole_row pool t found m Decline This = whole_decline t (where_is found.binding (option_map number4 m.wanted))
whole_row pool t found m Decline Anybody = whole_decline t (where_is found.binding (option_map number4 m.wanted))
whole_row pool t found m Release Another = tt
whole_row pool t found m Release This = whole_release (where_is found.binding (Some (number4 m.ciaddr)))
whole_row pool t found m Release Anybody = whole_release (where_is found.binding (Some (number4 m.ciaddr)))
whole_row pool t found m Inform Another = tt
whole_row pool t found m Inform This = whole_inform (where_specified m.ciaddr)
whole_row pool t found m Inform Anybody = whole_inform (where_specified m.ciaddr)
whole_row pool t found m Offer server = tt
whole_row pool t found m Ack server = tt
whole_row pool t found m Nak server = tt

pub whole_answer : (pool : PoolValue) (t : ℕ) (b : Book4) (m : Request4) (answer : Result Reply4 Discard) → (answer4 pool t b m).answer ≡ answer → IsWhole answer
unfolding answer4
whole_answer pool t b m answer is = subst IsWhole is (whole_row pool t (lookup_in pool b m) m m.kind (server_of pool m.server))
