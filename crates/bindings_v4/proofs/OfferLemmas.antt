-- Slots whose offers were taken out.
use Rattle.std.proofs.Common.{◌≡◌, ℕ, ◌+◌, ◌-◌, ◌<◌, true, false, List, [], ◌∷◌, ◌++◌, length, map, take, drop, replicate, set, get_or, refl, sym, ap, subst, ◌∙◌}
use Rattle.std.specs.Prelude.{Option, Some, None, is_some}
use Rattle.std.specs.Str.{bytes_eq}
use Rattle.std.proofs.Math.ListN.{get_or-map}
use Rattle.std.proofs.lemmas.List.{length-map, set-get_or}
use Rattle.std.proofs.lemmas.List.Edits.{map_over_more}
use Rattle.slots.specs.declared.holder.Holder.{Holder}
use Rattle.slots.specs.declared.holder.Holder.TheVariants.{Bound, Offered, Barred}
use Rattle.slots.specs.Kept.{unoffered, kept, IsWithin, AreWithin, AreOffersWithin}
use Rattle.slots.specs.Slots.{offered_to, is_clients, IsWithout, AreDistinct}
use Rattle.slots.proofs.KeptLemmas.{unoffered_own, live_unoffered, at_each, all_at, no_offers_within}
use Rattle.slots.proofs.ShownLemmas.{not_true}
use Rattle.slots.specs.Lookup.{live}
use Rattle.types.specs.Addr.{number4}
use Rattle.types.specs.Pool4.{PoolValue}
use Rattle.bindings_v4.specs.Book4.{book4_at}
use Rattle.bindings_v4.specs.Kept4.{kept_book, slot_of, kept_slots}
use Rattle.bindings_v4.specs.Slots4.{Holders4, PoolSlots, book_of_slots, book4_of, AreSlots, without_offers}
use Rattle.bindings_v4.proofs.KeptBook.{kept_later}
use Rattle.bindings_v4.proofs.KeptLemmas.{unoffered_offered, book_without_offers}

unoffered_at : (ss : Holders4) (i : ℕ) → get_or (without_offers ss) i None ≡ unoffered (get_or ss i None)
unoffered_at ss i = get_or-map unoffered ss i None

-- ---- one slot after the other

offer_goes : (s : Option (Holder (List ℕ))) → is_some (offered_to s) ≡ true → None ≡ unoffered s
offer_goes None e = refl
offer_goes (Some (Bound k u)) e = absurd (not_true e)
offer_goes (Some (Offered k u)) e = refl
offer_goes (Some (Barred u)) e = absurd (not_true e)

other_stays : (s : Option (Holder (List ℕ))) → is_some (offered_to s) ≡ false → s ≡ unoffered s
other_stays None e = refl
other_stays (Some (Bound k u)) e = refl
other_stays (Some (Offered k u)) e = absurd (not_true (sym e))
other_stays (Some (Barred u)) e = refl

module _ (ss ys : Holders4) (i : ℕ) (s : Option (Holder (List ℕ))) (below : i < length ss) (so_far : ys ≡ without_offers (take i ss) ++ drop i ss) (is : s ≡ get_or ys i s) where
  pub one_goes : is_some (offered_to s) ≡ true → set ys i None ≡ without_offers (take (i + 1) ss) ++ drop (i + 1) ss
  one_goes e = ap (set ys i) (offer_goes s e) ∙ map_over_more unoffered ss ys i s below so_far is

  pub one_stays : is_some (offered_to s) ≡ false → ys ≡ without_offers (take (i + 1) ss) ++ drop (i + 1) ss
  one_stays e =
      sym (set-get_or ys i s) ∙ ap (set ys i) (sym is ∙ other_stays s e) ∙ map_over_more unoffered ss ys i s below so_far is

-- ---- they are slots of the pool

own_before : (q : List ℕ) (s : Option (Holder (List ℕ))) → is_clients bytes_eq q (unoffered s) ≡ true → is_clients bytes_eq q s ≡ true
own_before q None e = e
own_before q (Some (Bound k u)) e = e
own_before q (Some (Offered k u)) e = absurd (not_true e)
own_before q (Some (Barred u)) e = e

not_own : (q : List ℕ) (s : Option (Holder (List ℕ))) → is_clients bytes_eq q s ≡ false → is_clients bytes_eq q (unoffered s) ≡ false
not_own q None e = e
not_own q (Some (Bound k u)) e = e
not_own q (Some (Offered k u)) e = refl
not_own q (Some (Barred u)) e = e

still_without : (q : List ℕ) (ss : Holders4) → IsWithout bytes_eq q ss → IsWithout bytes_eq q (without_offers ss)
still_without q [] w = tt
still_without q (s ∷ ss) w = (not_own q s w.0, still_without q ss w.1)

still_distinct : (ss : Holders4) → AreDistinct bytes_eq ss → AreDistinct bytes_eq (without_offers ss)
still_distinct [] d = tt
still_distinct (s ∷ ss) d = (λ q own. still_without q ss (d.0 q (own_before q s own)), still_distinct ss d.1)

pub still_slots : (pool : PoolValue) (ss xs : Holders4) → AreSlots pool ss → xs ≡ without_offers ss → AreSlots pool xs
still_slots pool ss xs are e =
    subst (AreSlots pool) (sym e) (record {
      limits = are.limits;
      size = length-map ss unoffered ∙ are.size;
      distinct = still_distinct ss are.distinct;
    })

-- ---- what they show and what is kept of them

pub shown_without : (t : ℕ) (v : PoolSlots) → book4_of t (record v { slots = without_offers v.slots }) ≡ kept_book (book4_of t v)
shown_without t v =
    let a = number4 v.pool.first in
    ap (book4_at t) (book_without_offers a (without_offers v.slots) v.slots (unoffered_at v.slots)) ∙ sym (kept_later t (book_of_slots a v.slots))

kept_unoffered : (t : ℕ) (s : Option (Holder (List ℕ))) → kept t (unoffered s) ≡ kept t s
kept_unoffered t s = ap unoffered (live_unoffered t s) ∙ unoffered_own (live t s)

all_kept : (t : ℕ) (ss : Holders4) → map (kept t) (without_offers ss) ≡ map (kept t) ss
all_kept t [] = refl
all_kept t (s ∷ ss) = ap (λ h. h ∷ map (kept t) (without_offers ss)) (kept_unoffered t s) ∙ ap (λ hs. kept t s ∷ hs) (all_kept t ss)

pub same_kept : (t : ℕ) (ss : Holders4) → kept_slots t (without_offers ss) ≡ kept_slots t ss
same_kept t ss =
    ap (λ n. map slot_of (map (kept t) (without_offers ss) ++ replicate (16 - n) None)) (length-map ss unoffered)
    ∙ ap (λ hs. map slot_of (hs ++ replicate (16 - length ss) None)) (all_kept t ss)

-- ---- they are within the limit

unoffered_within : (s : Option (Holder (List ℕ))) → IsWithin s → IsWithin (unoffered s)
unoffered_within None w = tt
unoffered_within (Some (Bound k u)) w = w
unoffered_within (Some (Offered k u)) w = tt
unoffered_within (Some (Barred u)) w = w

pub still_within : (ss : Holders4) → AreWithin ss → AreWithin (without_offers ss)
still_within ss w =
    all_at IsWithin tt (without_offers ss) (λ i.
    subst (λ (s : Option (Holder (List ℕ))). IsWithin s) (sym (unoffered_at ss i)) (unoffered_within (get_or ss i None) (at_each IsWithin tt ss w i)))

pub no_offer_left : (ss : Holders4) → AreOffersWithin (without_offers ss)
no_offer_left ss = no_offers_within (without_offers ss) (λ i. ap offered_to (unoffered_at ss i) ∙ unoffered_offered _)
