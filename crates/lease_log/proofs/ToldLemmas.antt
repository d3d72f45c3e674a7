-- What is told of a slot says who has it.
use Rattle.std.proofs.Common.{◌≡◌, ℕ, ◌+◌, ◌-◌, ◌<◌, ◌≤◌, Bool, true, false, ◌&&◌, nat_lt, List, Some, None, refl, ap}
use Rattle.std.proofs.lemmas.Bool.{lt-ltb, le-ltb}
use Rattle.std.proofs.lemmas.Bool.Decides.{Decides-eqb}
use Rattle.std.proofs.lemmas.Slice.Eq.{bytes_eq-Decides}
use Rattle.std.specs.Prelude.{if◌then◌else◌}
use Rattle.std.specs.Str.{bytes_eq}
use Rattle.types.specs.Addr.{number4, addr4, number6, addr6}
use Rattle.types.specs.Key6.{Key6Value, same_key6}
use Rattle.types.specs.declared.addr.Addr4.{Addr4}
use Rattle.types.specs.declared.addr.Addr6.{Addr6}
use Rattle.types.specs.declared.slot4.Slot4.{Slot4}
use Rattle.types.specs.declared.slot4.Slot4.TheVariants as S4
use Rattle.types.specs.declared.slot6.Slot6.{Slot6}
use Rattle.types.specs.declared.slot6.Slot6.TheVariants as S6
use Rattle.types.specs.declared.slots.Slots.{Slots}
use Rattle.config.specs.CircuitPart.{CircuitPart, pool4_of, pool6_of}
use Rattle.lease_log.specs.declared.change.Change.{Change}
use Rattle.lease_log.specs.declared.change.Happened.TheVariants.{Leased}
use Rattle.lease_log.specs.declared.change.Holder.TheVariants.{V4, V6}
use Rattle.lease_log.specs.Change.{change, gone, end4, end6, start4, start6}
use Rattle.lease_log.specs.Look.{slot4, slot6, end_of, start_of}
use Rattle.lease_log.specs.Told.{after4, after6, client4, client6, told4, told6}

-- the same client, or another one
same4 : (e : Bool) (a b : List ℕ) (end start : Change) → (e ≡ true → a ≡ b) → told4 start.holder ≡ Some b
    → after4 (Some a) (if e then None else Some end) (if e then None else Some start) ≡ Some b
same4 true a b end start is h = ap (λ (x : List ℕ). Some x) (is refl)
same4 false a b end start is h = h

same6 : (e : Bool) (a b : Key6Value) (end start : Change) → (e ≡ true → a ≡ b) → told6 start.holder ≡ Some b
    → after6 (Some a) (if e then None else Some end) (if e then None else Some start) ≡ Some b
same6 true a b end start is h = ap (λ (x : Key6Value). Some x) (is refl)
same6 false a b end start is h = h

both : (a b : Bool) → (a && b) ≡ true → (a ≡ true) × (b ≡ true)
both true true e = (refl, refl)
both true false e = absurd (cc)
both false b e = absurd (cc)

key6_is : (a b : Key6Value) → same_key6 a b ≡ true → a ≡ b
key6_is a b e =
    let parts = both (bytes_eq a.duid b.duid) _ e in
    let duid : a.duid ≡ b.duid = (bytes_eq-Decides a.duid b.duid).0 parts.0 in
    let iaid : a.iaid ≡ b.iaid = (Decides-eqb a.iaid b.iaid).0 parts.1 in
    λ i. record { duid = duid i; iaid = iaid i }

follow4 : (now : ℕ) (address : Addr4) (old new : Slot4) → after4 (client4 old) (end4 now address old new) (start4 now address old new) ≡ client4 new
follow4 now address S4.Free S4.Free = refl
follow4 now address S4.Free (S4.Bound client until) = refl
follow4 now address S4.Free (S4.Barred barred) = refl
follow4 now address (S4.Barred before) S4.Free = refl
follow4 now address (S4.Barred before) (S4.Bound client until) = refl
follow4 now address (S4.Barred before) (S4.Barred barred) = refl
follow4 now address (S4.Bound one earlier) S4.Free = refl
follow4 now address (S4.Bound one earlier) (S4.Barred barred) = refl
follow4 now address (S4.Bound one earlier) (S4.Bound client until) =
    same4 (bytes_eq one client) one client (gone now (V4 address one) earlier) (change now (V4 address client) (Leased until)) (bytes_eq-Decides one client).0 refl

follow6 : (now : ℕ) (address : Addr6) (old new : Slot6) → after6 (client6 old) (end6 now address old new) (start6 now address old new) ≡ client6 new
follow6 now address S6.Free S6.Free = refl
follow6 now address S6.Free (S6.Bound client until) = refl
follow6 now address S6.Free (S6.Barred barred) = refl
follow6 now address (S6.Barred before) S6.Free = refl
follow6 now address (S6.Barred before) (S6.Bound client until) = refl
follow6 now address (S6.Barred before) (S6.Barred barred) = refl
follow6 now address (S6.Bound one earlier) S6.Free = refl
follow6 now address (S6.Bound one earlier) (S6.Barred barred) = refl
follow6 now address (S6.Bound one earlier) (S6.Bound client until) =
    same6 (same_key6 one client) one client (gone now (V6 address one) earlier) (change now (V6 address client) (Leased until)) (key6_is one client) refl

pub followed4 : (part : CircuitPart) (slot : ℕ) (old new : Slots) (now : ℕ) → slot < 16 → slot < part.count4
    → after4 (client4 (slot4 old slot old.clock)) (end_of part slot old new now) (start_of part slot old new now) ≡ client4 (slot4 new slot now)
followed4 part slot old new now low inside =
    let four : nat_lt slot 16 ≡ true = lt-ltb slot 16 low in
    let within : nat_lt slot part.count4 ≡ true = lt-ltb slot part.count4 inside in
    rw (four, within) (follow4 now (addr4 (number4 (pool4_of part).first + slot)) (slot4 old slot old.clock) (slot4 new slot now))

pub followed6 : (part : CircuitPart) (slot : ℕ) (old new : Slots) (now : ℕ) → 16 ≤ slot → slot - 16 < part.count6
    → after6 (client6 (slot6 old (slot - 16) old.clock)) (end_of part slot old new now) (start_of part slot old new now) ≡ client6 (slot6 new (slot - 16) now)
followed6 part slot old new now high inside =
    let six : nat_lt slot 16 ≡ false = le-ltb slot 16 high in
    let within : nat_lt (slot - 16) part.count6 ≡ true = lt-ltb (slot - 16) part.count6 inside in
    rw (six, within) (follow6 now (addr6 (number6 (pool6_of part).first + (slot - 16))) (slot6 old (slot - 16) old.clock) (slot6 new (slot - 16) now))
