-- What is leased or barred ends within the limit of what a region keeps.
use Rattle.std.proofs.Common.{◌≡◌, ℕ, ◌+◌, List, sym, subst, arith}
use Rattle.std.specs.Prelude.{Option, Some, None, IfSome}
use Rattle.std.specs.Str.{bytes_eq}
use Rattle.slots.specs.Kept.{AreWithin, AreOffersWithin}
use Rattle.slots.specs.declared.holder.Holder.TheVariants.{Offered}
use Rattle.slots.specs.KeyLaws.{key4_is_key}
use Rattle.slots.proofs.FitLemmas.{offered_own}
use Rattle.slots.proofs.KeptLemmas.{slot_within, slot_offered_within, no_offer_within}
use Rattle.types.specs.Addr.{number4}
use Rattle.types.specs.Slots.{IsWithin4}
use Rattle.exchange.specs.declared.request4.Request4.{Request4}
use Rattle.bindings_v4.specs.declared.decision4.Decision4.{Decision4}
use Rattle.bindings_v4.specs.declared.decision4.KeptSlot.{KeptSlot}
use Rattle.bindings_v4.specs.declared.decision4.OfferChange.{OfferChange}
use Rattle.bindings_v4.specs.declared.decision4.OfferChange.TheVariants as offer
use Rattle.bindings_v4.specs.Kept4.{EndsBy}
use Rattle.bindings_v4.specs.Decision4.{IsOffer, decision_of, keep_of, kept_slot, offer_change, offer_of}
use Rattle.bindings_v4.specs.Slots4.{Holders4, PoolSlots, AreSlots, IsOfferWithin, with_offer, with_kept, holder_of}
use Rattle.slots.specs.Row.{Change}
use Rattle.bindings_v4.proofs.KeptLemmas.{holder_within, never_offered}
use Rattle.bindings_v4.proofs.RowLemmas.{OfChanges, found, row, of_row}

-- ---- what is committed

offer_within : (change : Option OfferChange) (ss : Holders4) → AreWithin ss → AreWithin (with_offer change ss)
offer_within None ss w = w
offer_within (Some (offer.Made i k u)) ss w = slot_within bytes_eq i (Some (Offered k u)) ss w tt
offer_within (Some (offer.Withdrawn i)) ss w = slot_within bytes_eq i None ss w tt

keep_within : (keep : Option KeptSlot) (ss : Holders4) → AreWithin ss → IfSome keep (λ kept. IsWithin4 kept.content) → AreWithin (with_kept keep ss)
keep_within None ss w h = w
keep_within (Some kept) ss w h = slot_within bytes_eq kept.slot (holder_of kept.content) ss w (holder_within kept.content h)

pub committed_within : (change : Option OfferChange) (keep : Option KeptSlot) (ss new : Holders4) → new ≡ with_kept keep (with_offer change ss)
    → AreWithin ss → IfSome keep (λ kept. IsWithin4 kept.content) → AreWithin new
committed_within change keep ss new e w h = subst (λ (xs : Holders4). AreWithin xs) (sym e) (keep_within keep (with_offer change ss) (offer_within change ss w) h)

-- the same of offers: what is kept is none
offer_offered : (change : Option OfferChange) (ss : Holders4) → AreOffersWithin ss → IfSome change IsOfferWithin → AreOffersWithin (with_offer change ss)
offer_offered None ss w h = w
offer_offered (Some (offer.Made i k u)) ss w h = slot_offered_within bytes_eq i (Some (Offered k u)) ss w h
offer_offered (Some (offer.Withdrawn i)) ss w h = slot_offered_within bytes_eq i None ss w tt

keep_offered : (keep : Option KeptSlot) (ss : Holders4) → AreOffersWithin ss → AreOffersWithin (with_kept keep ss)
keep_offered None ss w = w
keep_offered (Some kept) ss w =
    slot_offered_within bytes_eq kept.slot (holder_of kept.content) ss w (no_offer_within (holder_of kept.content) (never_offered kept.content))

pub committed_offers : (change : Option OfferChange) (keep : Option KeptSlot) (ss new : Holders4) → new ≡ with_kept keep (with_offer change ss)
    → AreOffersWithin ss → IfSome change IsOfferWithin → AreOffersWithin new
committed_offers change keep ss new e w h = subst (λ (xs : Holders4). AreOffersWithin xs) (sym e) (keep_offered keep (with_offer change ss) (offer_offered change ss w h))

-- ---- what is decided

module _ (v : PoolSlots) (t : ℕ) (are : AreSlots v.pool v.slots) where
  -- what is kept of a change ends in time
  abbrev EndsInTime : List ℕ → Change → Type 0
  EndsInTime k c = IfSome (keep_of (number4 v.pool.first) k c) (λ kept. EndsBy (t + 604800) kept.content)

  ends_in_time : (k : List ℕ) → OfChanges v t k are (EndsInTime k)
  ends_in_time k =
      record {
        unchanged = tt;
        offers = λ i fit none only. tt;
        withdraws = λ i is. tt;
        binds = λ i fit clear only. omega (arith, are.limits.longest);
        bars = λ i is. omega arith;
        frees = λ i is. tt;
      }

  pub decided_in_time : (m : Request4) (d : Decision4) → d ≡ decision_of (number4 v.pool.first) t m.key (row v t m are v.pool (found v t m are)) → IfSome (kept_slot d.change) (λ kept. EndsBy (t + 604800) kept.content)
  decided_in_time m d e =
      subst (λ (x : Decision4). IfSome (kept_slot x.change) (λ kept. EndsBy (t + 604800) kept.content)) (sym e) (of_row v t m are (EndsInTime m.key) (ends_in_time m.key))

  -- and what is offered is a slot of the pool, for a minute
  abbrev OffersInTime : List ℕ → Change → Type 0
  OffersInTime k c = IfSome (offer_of (number4 v.pool.first) k c) (IsOffer t v.pool.count)

  offers_in_time : (k : List ℕ) → OfChanges v t k are (OffersInTime k)
  offers_in_time k =
      record {
        unchanged = tt;
        offers = λ i fit none only. (omega (arith, fit.below, are.size), omega arith);
        withdraws = λ i is. omega (arith, (offered_own key4_is_key t k v.slots i is).0, are.size);
        binds = λ i fit clear only. tt;
        bars = λ i is. tt;
        frees = λ i is. tt;
      }

  pub offered_in_time : (m : Request4) (d : Decision4) → d ≡ decision_of (number4 v.pool.first) t m.key (row v t m are v.pool (found v t m are)) → IfSome (offer_change d.change) (IsOffer t v.pool.count)
  offered_in_time m d e =
      subst (λ (x : Decision4). IfSome (offer_change x.change) (IsOffer t v.pool.count)) (sym e) (of_row v t m are (OffersInTime m.key) (offers_in_time m.key))
