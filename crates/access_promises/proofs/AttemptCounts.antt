-- How often sockets are among those that are tried, and the passes as blocks of entries.
use Rattle.std.proofs.Common.{inl, inr, arith, ◌≡◌, ◌∙◌, ◌≤◌, ◌+◌, ◌&&◌, zero, suc, Bool, true, false, cond, List, [], ◌∷◌, ◌++◌, length, refl, sym, ap, ap₂, subst, eq-eqb, length-append}
use Rattle.std.specs.Prelude.{◌⊎◌, Some}
use Rattle.std.specs.List.{cons_option, filter}
use Rattle.std.proofs.lemmas.List.Elements.{filter-append, filter_map-append}
use Rattle.types.specs.declared.dest.Proto.{Proto}
use Rattle.types.specs.declared.dest.Proto.TheVariants.{V4, V6}
use Rattle.udp.specs.History.{Entry, Took, Failed, Empty, Sent, Ticked, Refused, Read, Monotonic}
use Rattle.udp.specs.declared.history.Role.TheVariants.{Circuit, Server, Relay}
use Rattle.access_promises.specs.Attempts.{CircuitSocket, attempts_in, frames_from, is_same, same_proto, taken_in, times_of, tried_at}

-- ---- how often a socket is among some

pub times_more : (s : CircuitSocket) (xs ys : List CircuitSocket) → times_of s (xs ++ ys) ≡ times_of s xs + times_of s ys
times_more s xs ys = ap length (filter-append (is_same s) xs ys) ∙ length-append (filter (is_same s) xs) (filter (is_same s) ys)

proto_self : (proto : Proto) → same_proto proto proto ≡ true
proto_self V4 = refl
proto_self V6 = refl

same_self : (s : CircuitSocket) → is_same s s ≡ true
same_self s = ap₂ (λ a b. a && b) (eq-eqb s.circuit s.circuit refl) (proto_self s.proto)

pub times_self : (s : CircuitSocket) (xs : List CircuitSocket) → times_of s (s ∷ xs) ≡ suc (times_of s xs)
times_self s xs = ap (λ b. length (cond b (s ∷ filter (is_same s) xs) (filter (is_same s) xs))) (same_self s)

times_next : (s x : CircuitSocket) (xs : List CircuitSocket) → times_of s xs ≤ times_of s (x ∷ xs)
times_next s x xs = by (is_same s x) where
  by : (b : Bool) → times_of s xs ≤ length (cond b (x ∷ filter (is_same s) xs) (filter (is_same s) xs))
  by true = omega arith
  by false = omega arith

times_at : (s : CircuitSocket) (p q : List CircuitSocket) → times_of s (p ++ s ∷ q) ≡ times_of s p + suc (times_of s q)
times_at s p q = times_more s p (s ∷ q) ∙ ap (λ n. times_of s p + n) (times_self s q)

times_around : (o s : CircuitSocket) (p q : List CircuitSocket) → times_of o p + times_of o q ≤ times_of o (p ++ s ∷ q)
times_around o s p q =
    let all = times_more o p (s ∷ q) in
    let more = times_next o s q in
    omega (arith, all, more)

-- ---- a list in which each socket is once

first_same : {A : Type 0} (x y : A) (xs ys : List A) → x ∷ xs ≡ y ∷ ys → x ≡ y
first_same x y xs ys same = cc

rest_same : {A : Type 0} (x y : A) (xs ys : List A) → x ∷ xs ≡ y ∷ ys → xs ≡ ys
rest_same x y xs ys same = cc

not_first : (s y : CircuitSocket) (xs : List CircuitSocket) → s ≡ y → times_of s (y ∷ xs) ≡ 0 → zero ≡ suc zero
not_first s y xs same none =
    let more = times_self s xs in
    let here : times_of s (s ∷ xs) ≡ 0 = subst (λ z. times_of s (z ∷ xs) ≡ 0) (sym same) none in
    absurd (omega (arith, more, here))

begins_same : (s : CircuitSocket) (p r q t : List CircuitSocket) → times_of s p ≡ 0 → times_of s r ≡ 0 → p ++ s ∷ q ≡ r ++ s ∷ t → p ≡ r
begins_same s [] [] q t none without same = refl
begins_same s [] (y ∷ r) q t none without same =
    let never = not_first s y r (first_same s y q (r ++ s ∷ t) same) without in absurd (omega (arith, never))
begins_same s (x ∷ p) [] q t none without same =
    let never = not_first s x p (first_same s x t (p ++ s ∷ q) (sym same)) none in absurd (omega (arith, never))
begins_same s (x ∷ p) (y ∷ r) q t none without same =
    let less = times_next s x p in
    let fewer = times_next s y r in
    ap₂ (λ (z : CircuitSocket) (zs : List CircuitSocket). z ∷ zs) (first_same x y (p ++ s ∷ q) (r ++ s ∷ t) same)
    (begins_same s p r q t (omega (arith, less, none)) (omega (arith, fewer, without)) (rest_same x y (p ++ s ∷ q) (r ++ s ∷ t) same))

none_before : (s : CircuitSocket) (p q : List CircuitSocket) → times_of s (p ++ s ∷ q) ≤ 1 → times_of s p ≡ 0
none_before s p q once = let at = times_at s p q in omega (arith, at, once)

-- What comes after a socket, and then before it in the same order, has each socket once.
pub once_around : (s : CircuitSocket) (block p q r t : List CircuitSocket) → ((o : CircuitSocket) → times_of o block ≤ 1) → block ≡ p ++ s ∷ q → block ≡ r ++ s ∷ t
    → (o : CircuitSocket) → times_of o (q ++ r) ≤ 1
once_around s block p q r t once is again o =
    let none = none_before s p q (subst (λ b. times_of s b ≤ 1) is (once s)) in
    let without = none_before s r t (subst (λ b. times_of s b ≤ 1) again (once s)) in
    let same = ap (times_of o) (begins_same s p r q t none without (sym is ∙ again)) in
    let all = subst (λ b. times_of o b ≤ 1) is (once o) in
    let around = times_around o s p q in
    let more = times_more o q r in
    omega (arith, same, all, around, more)

-- ---- where an element of two lists lies

-- in the second, after all of the first
pub record IsPast {A : Type 0} (xs ys front : List A) (x : A) (rest : List A) : Type 0 where
  pub more : List A
  pub front_is : front ≡ xs ++ more
  pub second_is : ys ≡ more ++ x ∷ rest

-- in the first
pub record IsWithin {A : Type 0} (xs ys front : List A) (x : A) (rest : List A) : Type 0 where
  pub more : List A
  pub first_is : xs ≡ front ++ x ∷ more
  pub rest_is : rest ≡ more ++ ys

pub lies : {A : Type 0} (xs ys front : List A) (x : A) (rest : List A) → xs ++ ys ≡ front ++ x ∷ rest → IsPast xs ys front x rest ⊎ IsWithin xs ys front x rest
lies [] ys front x rest same = inl (record { more = front; front_is = refl; second_is = same })
lies (y ∷ xs) ys [] x rest same =
    inr (record { more = xs; first_is = ap (λ z. z ∷ xs) (first_same y x (xs ++ ys) rest same); rest_is = sym (rest_same y x (xs ++ ys) rest same) })
lies {A} (y ∷ xs) ys (z ∷ front) x rest same = by (lies xs ys front x rest (rest_same y z (xs ++ ys) (front ++ x ∷ rest) same)) where
  head : y ≡ z
  head = first_same y z (xs ++ ys) (front ++ x ∷ rest) same

  by : IsPast xs ys front x rest ⊎ IsWithin xs ys front x rest → IsPast (y ∷ xs) ys (z ∷ front) x rest ⊎ IsWithin (y ∷ xs) ys (z ∷ front) x rest
  by (inl past) = inl (record { more = past.more; front_is = ap₂ (λ (a : A) (others : List A). a ∷ others) (sym head) past.front_is; second_is = past.second_is })
  by (inr within) = inr (record { more = within.more; first_is = ap₂ (λ (a : A) (others : List A). a ∷ others) head within.first_is; rest_is = within.rest_is })

-- ---- of entries

pub taken_more : (xs ys : List Entry) → taken_in (xs ++ ys) ≡ taken_in xs + taken_in ys
taken_more [] ys = omega arith
taken_more (Took socket from bytes ∷ xs) ys = let more = taken_more xs ys in omega (arith, more)
taken_more (Failed socket ∷ xs) ys = taken_more xs ys
taken_more (Empty socket ∷ xs) ys = taken_more xs ys
taken_more (Sent socket to bytes accepted ∷ xs) ys = taken_more xs ys
taken_more (Ticked now ∷ xs) ys = taken_more xs ys
taken_more (Refused socket at ∷ xs) ys = taken_more xs ys
taken_more (Read time ∷ xs) ys = taken_more xs ys
taken_more (Monotonic time ∷ xs) ys = taken_more xs ys

pub attempts_more : (xs ys : List Entry) → attempts_in (xs ++ ys) ≡ attempts_in xs ++ attempts_in ys
attempts_more xs ys = filter_map-append tried_at xs ys

pub attempts_at : (xs : List Entry) (entry : Entry) (ys : List Entry) (s : CircuitSocket) → tried_at entry ≡ Some s → attempts_in (xs ++ entry ∷ ys) ≡ attempts_in xs ++ s ∷ attempts_in ys
attempts_at xs entry ys s is = attempts_more xs (entry ∷ ys) ∙ ap (λ o. attempts_in xs ++ cons_option o (attempts_in ys)) is

taken_next : (entry : Entry) (xs : List Entry) → taken_in xs ≤ taken_in (entry ∷ xs)
taken_next entry xs = let more = taken_more (entry ∷ []) xs in omega (arith, more)

pub taken_front : (xs : List Entry) (entry : Entry) (ys : List Entry) → taken_in xs ≤ taken_in (xs ++ entry ∷ ys)
taken_front xs entry ys = let more = taken_more xs (entry ∷ ys) in omega (arith, more)

pub taken_back : (xs : List Entry) (entry : Entry) (ys : List Entry) → taken_in ys ≤ taken_in (xs ++ entry ∷ ys)
taken_back xs entry ys =
    let more = taken_more xs (entry ∷ ys) in
    let next = taken_next entry ys in
    omega (arith, more, next)

-- ---- frames are taken at attempts

frame_or_less : (o : CircuitSocket) (entry : Entry) (xs : List Entry) → times_of o (frames_from xs) ≤ times_of o (attempts_in xs) → times_of o (frames_from (entry ∷ xs)) ≤ times_of o (attempts_in (entry ∷ xs))
frame_or_less o (Took (Circuit c proto) from bytes) xs less =
    let s : CircuitSocket = record { circuit = c; proto = proto } in
    let frames = times_more o (s ∷ []) (frames_from xs) in
    let attempts = times_more o (s ∷ []) (attempts_in xs) in
    omega (arith, less, frames, attempts)
frame_or_less o (Took (Server proto) from bytes) xs less = less
frame_or_less o (Took (Relay r) from bytes) xs less = less
frame_or_less o (Failed (Circuit c proto)) xs less = let next = times_next o (record { circuit = c; proto = proto }) (attempts_in xs) in omega (arith, less, next)
frame_or_less o (Failed (Server proto)) xs less = less
frame_or_less o (Failed (Relay r)) xs less = less
frame_or_less o (Empty (Circuit c proto)) xs less = let next = times_next o (record { circuit = c; proto = proto }) (attempts_in xs) in omega (arith, less, next)
frame_or_less o (Empty (Server proto)) xs less = less
frame_or_less o (Empty (Relay r)) xs less = less
frame_or_less o (Sent socket to bytes accepted) xs less = less
frame_or_less o (Ticked now) xs less = less
frame_or_less o (Refused socket at) xs less = less
frame_or_less o (Read time) xs less = less
frame_or_less o (Monotonic time) xs less = less

pub frames_at_attempts : (o : CircuitSocket) (xs : List Entry) → times_of o (frames_from xs) ≤ times_of o (attempts_in xs)
frames_at_attempts o [] = omega arith
frames_at_attempts o (entry ∷ xs) = frame_or_less o entry xs (frames_at_attempts o xs)
