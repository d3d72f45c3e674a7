-- What the slots of a circuit's region hold at a clock, and within which limits.
use Rattle.std.specs.Prelude.{ℕ, ◌+◌, ◌≤◌, Bool, true, false, not, ◌&&◌, nat_lt, if◌then◌else◌, List, [], ◌∷◌}
use Rattle.std.specs.List.{list_any}
use Rattle.std.specs.Str.{bytes_eq}
use Rattle.types.specs.Key6.{same_key6}
use Rattle.types.specs.declared.slot4.Slot4.{Slot4}
use Rattle.types.specs.declared.slot4.Slot4.TheVariants as S4
use Rattle.types.specs.declared.slot6.Slot6.{Slot6}
use Rattle.types.specs.declared.slot6.Slot6.TheVariants as S6

-- a slot at this clock: free where it is no longer live
abbrev pub live4 : ℕ → Slot4 → Slot4
live4 clock S4.Free = S4.Free
live4 clock (S4.Bound key until) = if nat_lt clock until then S4.Bound key until else S4.Free
live4 clock (S4.Barred until) = if nat_lt clock until then S4.Barred until else S4.Free

abbrev pub live6 : ℕ → Slot6 → Slot6
live6 clock S6.Free = S6.Free
live6 clock (S6.Bound key until) = if nat_lt clock until then S6.Bound key until else S6.Free
live6 clock (S6.Barred until) = if nat_lt clock until then S6.Barred until else S6.Free

abbrev pub same_client4 : Slot4 → Slot4 → Bool
same_client4 (S4.Bound a _) (S4.Bound b _) = bytes_eq a b
same_client4 _ _ = false

abbrev pub same_client6 : Slot6 → Slot6 → Bool
same_client6 (S6.Bound a _) (S6.Bound b _) = same_key6 a b
same_client6 _ _ = false

-- no two of them are alike
abbrev pub none_twice : {A : Type 0} → (A → A → Bool) → List A → Bool
none_twice alike [] = true
none_twice alike (x ∷ xs) = not (list_any (alike x) xs) && none_twice alike xs

-- the longest lease after the last clock, which is 2^40 - 1
abbrev pub last_until : ℕ
last_until = 1099511627775 + 604800

-- no until past its limit
abbrev pub IsWithin4 : Slot4 → Type 0
IsWithin4 S4.Free = Unit {0}
IsWithin4 (S4.Bound key until) = until ≤ last_until
IsWithin4 (S4.Barred until) = until ≤ last_until

abbrev pub IsWithin6 : Slot6 → Type 0
IsWithin6 S6.Free = Unit {0}
IsWithin6 (S6.Bound key until) = until ≤ last_until
IsWithin6 (S6.Barred until) = until ≤ last_until
