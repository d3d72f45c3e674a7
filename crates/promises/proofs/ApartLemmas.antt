-- No address of one circuit's book is another's.
use Rattle.std.proofs.Common.{◌≡◌, ◌≢◌, ℕ, List, inl, inr, subst}
use Rattle.std.specs.Prelude.{Option, Some, None, IfSome, IsSomeAnd}
use Rattle.types.specs.declared.dest.Proto.{Proto}
use Rattle.types.specs.declared.dest.Proto.TheVariants.{V4, V6}
use Rattle.slots.specs.Maps.{Lease}
use Rattle.config.specs.CircuitPart.{CircuitPart}
use Rattle.config.specs.Plans.{ArePlans, PlansValue}
use Rattle.circuit_server.specs.Leases.{recovered_book}
use Rattle.circuit_server.specs.Server.{Book}
use Rattle.lease_disk.specs.Layout.{is_format2}
use Rattle.events.specs.Seen.{Seen}
use Rattle.world.specs.Alone.{Alone, Setup, after_all, unsent}
use Rattle.world.specs.Start.{Opening, opened, setup_in}
use Rattle.world.proofs.SetupLemmas.{its_part}
use Rattle.promises.specs.Books.{HasAddress, HasBooks, IsBookOf, IsInPool}
use Rattle.promises.proofs.ConfigLemmas.{limits_of, pools_apart}
use Rattle.promises.proofs.HeldBooks.{held_back}
use Rattle.promises.proofs.LedgerLemmas.{books_after}
use Rattle.promises.proofs.PoolLemmas.{HasLimits, opened_of}

-- what a book binds or offers is in its circuit's pool
lease_inside : (Inside : ℕ → Type 0) (address : ℕ) (lease : Option Lease) → IfSome lease (λ lease. Inside lease.address) → IsSomeAnd lease (λ lease. lease.address ≡ address) → Inside address
lease_inside Inside address None inside there = absurd there
lease_inside Inside address (Some l) inside there = subst Inside there inside

address_inside : (part : CircuitPart) (p : Proto) (address : ℕ) (b : Book) → IsBookOf part b → HasAddress p address b → IsInPool part p address
address_inside part V4 address b book (client, inl bound) = lease_inside (IsInPool part V4) address _ (book.bindings4 client) bound
address_inside part V4 address b book (client, inr on_offer) = lease_inside (IsInPool part V4) address _ (book.offers4 client) on_offer
address_inside part V6 address b book (client, bound) = lease_inside (IsInPool part V6) address _ (book.bindings6 client) bound

-- what holds of the books of a machine, by what they are
map_some : (P Q : Book → Type 0) (b : Option Book) → ((b : Book) → P b → Q b) → IfSome b P → IfSome b Q
map_some P Q None all there = tt
map_some P Q (Some b) all there = all b there

map_books : (P Q : Book → Type 0) (a : Alone) → ((b : Book) → P b → Q b) → HasBooks P a → HasBooks Q a
map_books P Q a all books = record { book = map_some P Q a.book all books.book; kept = map_some P Q a.kept all books.kept; doubt = map_some P Q a.doubt all books.doubt }

books_of : (setup : Setup) → HasLimits setup.part → (opening : Opening) (seen : List Seen) → HasBooks (IsBookOf setup.part) (after_all setup seen (opened setup opening))
books_of setup limits opening seen =
    books_after setup limits seen (opened setup opening)
    (held_back (IsBookOf setup.part) opening.move_fault (recovered_book setup.part opening.byte) (is_format2 opening.byte) (unsent setup.begins_on) (opened_of setup.part opening.byte))

pub books_apart : (texts : List (List ℕ)) (plans : PlansValue) (quota other_quota c d : ℕ) (setup other : Setup) (opening other_opening : Opening) (seen beside : List Seen) (p : Proto) (address : ℕ)
    → ArePlans texts plans → setup_in plans quota c ≡ Some setup → setup_in plans other_quota d ≡ Some other → c ≢ d
    → HasBooks (λ one. HasBooks (λ two. HasAddress p address one → HasAddress p address two → ⊥) (after_all other beside (opened other other_opening))) (after_all setup seen (opened setup opening))
books_apart texts plans quota other_quota c d setup other opening other_opening seen beside p address accepted here there differ =
    let sound = accepted.2.sound in
    let mine = its_part plans quota c setup here in
    let yours = its_part plans other_quota d other there in
    let first = books_of setup (limits_of plans.union sound c setup.part mine) opening seen in
    let second = books_of other (limits_of plans.union sound d other.part yours) other_opening beside in
    map_books (IsBookOf setup.part) _ (after_all setup seen (opened setup opening))
    (λ (one : Book) (book : IsBookOf setup.part one). map_books (IsBookOf other.part) (λ (two : Book). HasAddress p address one → HasAddress p address two → ⊥) (after_all other beside (opened other other_opening))
    (λ (two : Book) (its : IsBookOf other.part two) (has : HasAddress p address one) (has_too : HasAddress p address two).
    pools_apart plans.union sound p c d setup.part other.part mine yours differ address (address_inside setup.part p address one book has) (address_inside other.part p address two its has_too))
    second)
    first
