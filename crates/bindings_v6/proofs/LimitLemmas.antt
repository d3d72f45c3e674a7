-- What is leased or barred ends within the limit of what a region keeps.
use Rattle.std.proofs.Common.{◌≡◌, ℕ, ◌+◌, sym, subst, arith}
use Rattle.std.specs.Prelude.{Option, Some, None, IfSome}
use Rattle.slots.specs.Kept.{AreWithin, AreOffersWithin}
use Rattle.slots.proofs.KeptLemmas.{slot_within, slot_offered_within, no_offer_within}
use Rattle.types.specs.Addr.{number6}
use Rattle.types.specs.Key6.{Key6Value, same_key6}
use Rattle.types.specs.Slots.{IsWithin6}
use Rattle.exchange.specs.declared.request6.Request6.{Request6}
use Rattle.bindings_v6.specs.declared.decision6.Decision6.{Decision6}
use Rattle.bindings_v6.specs.declared.decision6.KeptSlot.{KeptSlot}
use Rattle.bindings_v6.specs.Kept6.{EndsBy}
use Rattle.bindings_v6.specs.Decision6.{keep_of, decision_of}
use Rattle.bindings_v6.specs.Slots6.{Holders6, PoolSlots, AreSlots, with_kept, holder_of}
use Rattle.slots.specs.Row.{Change}
use Rattle.bindings_v6.proofs.KeptLemmas.{holder_within, never_offered}
use Rattle.bindings_v6.proofs.RowLemmas.{OfChanges, found, row, of_row}

-- ---- what is committed

pub keep_within : (keep : Option KeptSlot) (ss : Holders6) → AreWithin ss → IfSome keep (λ kept. IsWithin6 kept.content) → AreWithin (with_kept keep ss)
keep_within None ss w h = w
keep_within (Some kept) ss w h = slot_within same_key6 kept.slot (holder_of kept.content) ss w (holder_within kept.content h)

-- the same of offers: what is kept is none
pub keep_offered : (keep : Option KeptSlot) (ss : Holders6) → AreOffersWithin ss → AreOffersWithin (with_kept keep ss)
keep_offered None ss w = w
keep_offered (Some kept) ss w =
    slot_offered_within same_key6 kept.slot (holder_of kept.content) ss w (no_offer_within (holder_of kept.content) (never_offered kept.content))

-- ---- what is decided

module _ (v : PoolSlots) (t : ℕ) (are : AreSlots v.pool v.slots) where
  -- what is kept of a change ends in time
  abbrev EndsInTime : Key6Value → Change → Type 0
  EndsInTime k c = IfSome (keep_of (number6 v.pool.first) k c) (λ kept. EndsBy (t + 604800) kept.content)

  ends_in_time : (k : Key6Value) → OfChanges v t k are (EndsInTime k)
  ends_in_time k =
      record {
        unchanged = tt;
        binds = λ i fit clear only. omega (arith, are.limits.longest);
        bars = λ i is. omega arith;
        frees = λ i is. tt;
      }

  pub decided_in_time : (m : Request6) (d : Decision6) → d ≡ decision_of (number6 v.pool.first) t m.key (row v t m are v.pool (found v t m are)) → IfSome d.keep (λ kept. EndsBy (t + 604800) kept.content)
  decided_in_time m d e =
      subst (λ (x : Decision6). IfSome x.keep (λ kept. EndsBy (t + 604800) kept.content)) (sym e) (of_row v t m are (EndsInTime m.key) (ends_in_time m.key))
