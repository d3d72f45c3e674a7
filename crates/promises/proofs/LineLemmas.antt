-- Lists of what is granted and ended, and which books know of a grant, in either protocol.
use Rattle.std.proofs.Common.{◌≡◌, ◌⊎◌, inl, inr, ℕ, ◌+◌, ◌<◌, ◌≤◌, true, List, [], ◌∷◌, ◌++◌, max, refl, sym, subst, arith}
use Rattle.std.specs.Prelude.{Some}
use Rattle.std.proofs.lemmas.Bool.{cases_lt}
use Rattle.std.proofs.Math.Nat.{le-max_left}
use Rattle.types.specs.declared.dest.Proto.{Proto}
use Rattle.types.specs.declared.dest.Proto.TheVariants.{V4, V6}
use Rattle.slots.specs.Maps.{Lease, address_of}
use Rattle.bindings_v4.proofs.LeaseLemmas as four
use Rattle.bindings_v6.proofs.LeaseLemmas as six
use Rattle.config.specs.CircuitPart.{CircuitPart}
use Rattle.circuit_server.specs.Server.{Book, Served, book_at, kept_book}
use Rattle.world.specs.Alone.{Effect}
use Rattle.promises.specs.Books.{IsInPool}
use Rattle.promises.specs.Granted.{ClientOf, Grant, Line, Stands, Knows, binding_of, is_sent}

-- ---- lists of lines

pub stands_left : (l : Line) (xs ys : List Line) → Stands l xs → Stands l (xs ++ ys)
stands_left l [] ys s = absurd s
stands_left l (x ∷ xs) ys (inl e) = inl e
stands_left l (x ∷ xs) ys (inr s) = inr (stands_left l xs ys s)

pub stands_right : (l : Line) (xs ys : List Line) → Stands l ys → Stands l (xs ++ ys)
stands_right l [] ys s = s
stands_right l (x ∷ xs) ys s = inr (stands_right l xs ys s)

pub stands_either : (l : Line) (xs ys : List Line) → Stands l (xs ++ ys) → Stands l xs ⊎ Stands l ys
stands_either l [] ys s = inr s
stands_either l (x ∷ xs) ys (inl e) = inl (inl e)
stands_either l (x ∷ xs) ys (inr s) = by (stands_either l xs ys s) where
  by : Stands l xs ⊎ Stands l ys → Stands l (x ∷ xs) ⊎ Stands l ys
  by (inl here) = inl (inr here)
  by (inr there) = inr there

-- ---- a grant, by the book before it, what is served, and the effect

pub record IsGranted (p : Proto) (part : CircuitPart) (b : Book) (done : Served) (effect : Effect) (g : Grant (ClientOf p)) : Type 0 where
  pub clock : g.clock ≡ b.clock
  pub until : g.until ≡ b.clock + part.lease
  pub bound : binding_of p done.book g.client ≡ Some (record { address = g.address; until = g.until })
  pub same_clock : done.book.clock ≡ b.clock
  pub own : (client : ClientOf p) → address_of (binding_of p b client) ≡ Some g.address → client ≡ g.client
  pub in_pool : IsInPool part p g.address
  pub is_kept : done.is_kept ≡ true
  pub sent : is_sent effect ≡ true

-- ---- what books know of a grant

-- and that they do not stand before it
abbrev pub Keeps : ℕ → (p : Proto) → Grant (ClientOf p) → Book → Type 0
Keeps lease p g b = (g.until ≤ b.clock + lease) × Knows p g b

pub keeps_new : (p : Proto) (part : CircuitPart) (b : Book) (done : Served) (effect : Effect) (g : Grant (ClientOf p)) → IsGranted p part b done effect g → Keeps part.lease p g done.book
keeps_new p part b done effect g i =
    (subst (λ t. g.until ≤ t + part.lease) (sym i.same_clock) (subst (λ u. u ≤ b.clock + part.lease) (sym i.until) (omega arith)), inr (record { address = g.address; until = g.until }, i.bound, refl, omega arith))

-- a lease that is live stays in the book at a later moment
lasts : (p : Proto) (now : ℕ) (b : Book) (client : ClientOf p) (l : Lease) → binding_of p b client ≡ Some l → max b.clock now < l.until → binding_of p (book_at now b) client ≡ Some l
lasts V4 now b client l is live = four.lease_lasts (max b.clock now) b.four client l is live
lasts V6 now b client l is live = six.lease_lasts (max b.clock now) b.six client l is live

pub keeps_later : (lease now : ℕ) (p : Proto) (g : Grant (ClientOf p)) (b : Book) → Keeps lease p g b → Keeps lease p g (book_at now b)
keeps_later lease now p g b keeps = (within, by keeps.1) where
  later : b.clock ≤ max b.clock now
  later = le-max_left b.clock now

  within : g.until ≤ max b.clock now + lease
  within = omega (arith, later, keeps.0)

  by : Knows p g b → Knows p g (book_at now b)
  by (inl past) = inl (omega (arith, later, past))
  by (inr (l, is, address, more)) = by_clock (cases_lt (max b.clock now) l.until) where
    by_clock : (max b.clock now < l.until) ⊎ (l.until ≤ max b.clock now) → Knows p g (book_at now b)
    by_clock (inl live) = inr (l, lasts p now b g.client l is live, address, more)
    by_clock (inr past) = inl (omega (arith, past, more))

-- only offers are not kept
pub keeps_kept : (lease : ℕ) (p : Proto) (g : Grant (ClientOf p)) (b : Book) → Keeps lease p g b → Keeps lease p g (kept_book b)
keeps_kept lease V4 g b keeps = keeps
keeps_kept lease V6 g b keeps = keeps
