-- Lists of circuits' servers.
use Rattle.std.proofs.Common.{◌≡◌, ℕ, zero, suc, ◌+◌, ◌<◌, ◌≤◌, ◌↔◌, Bool, true, List, [], ◌∷◌, ◌++◌, map, length, take, drop, get_or, set, refl, sym, ap, subst, ◌∙◌, arith}
use Rattle.std.specs.List.{All}
use Rattle.std.specs.Prelude.{Some, None, is_some, option_map, nat_lt, slice_get, slice_index_or}
use Rattle.std.proofs.lemmas.Bool.{ltb-true}
use Rattle.std.proofs.lemmas.Option.{same_Some, none-some, slice_get-map, slice_get_past, slice_get_read}
use Rattle.std.proofs.lemmas.List.Elements.{All-nil, All-cons, All-head, All-tail}
use Rattle.lease_disk.specs.Region.{Region}
use Rattle.config.specs.CircuitPart.{CircuitPart}
use Rattle.circuit_server.specs.Leases.{Leases}
use Rattle.circuit_server.specs.CircuitServerValue.{CircuitServerValue, server_book, leases_of, part_of}
use Rattle.std.proofs.lemmas.List.{length-map, length-take-le, map-append, get_or-map, take_more}
use Rattle.std.proofs.Math.Seq.{take-append_seam, drop-cons, get_or-append_seam}

-- One more element of a list is changed, as f sees it, by t.
module _ {A B : Type 0} (f : A → B) (t : B → B) (old : List B) (xs : List A) (i : ℕ) (x y : A) (within : i < length xs) (size : length xs ≡ length old)
    (changed : f y ≡ t (f (get_or xs i x))) (before : map f xs ≡ map t (take i old) ++ drop i old) where
  in_old : i < length old
  in_old = omega (arith, within, size)

  front_size : length (map t (take i old)) ≡ i
  front_size = length-map (take i old) t ∙ length-take-le i old (omega (arith, in_old))

  seam : map t (take i old) ++ drop i old ≡ map t (take i old) ++ get_or old i (f x) ∷ drop (suc i) old
  seam = ap (λ ys. map t (take i old) ++ ys) (drop-cons old i (f x) in_old)

  its_value : f (get_or xs i x) ≡ get_or old i (f x)
  its_value =
      sym (get_or-map f xs i x (f x) within) ∙ ap (λ ys. get_or ys i (f x)) (before ∙ seam)
      ∙ ap (λ n. get_or (map t (take i old) ++ get_or old i (f x) ∷ drop (suc i) old) n (f x)) (sym front_size)
      ∙ get_or-append_seam (map t (take i old)) (get_or old i (f x)) (drop (suc i) old) (f x)

  more : map t (take (i + 1) old) ≡ map t (take i old) ++ t (get_or old i (f x)) ∷ []
  more = ap (map t) (take_more old i (f x) in_old) ∙ map-append t (take i old) (get_or old i (f x) ∷ [])

pub all_one : {X : Type 0} (P : X → Type 0) (x : X) → P x → All P (x ∷ [])
all_one P x h zero d inside = h
all_one P x h (suc k) d inside = absurd (omega (arith, inside))

-- ---- one element changes, and what is seen of the others stays

same_all : {A B : Type 0} (f g : A → B) (xs : List A) → ((k : ℕ) (x : A) → slice_get xs k ≡ Some x → g x ≡ f x) → map g xs ≡ map f xs
same_all f g [] h = refl
same_all f g (x ∷ xs) h = λ i. h 0 x refl i ∷ same_all f g xs (λ k y e. h (suc k) y e) i

pub one_moved : {A B : Type 0} (f g : A → B) (xs : List A) (c : ℕ) (y : A) → ((k : ℕ) (x : A) → slice_get xs k ≡ Some x → (k ≡ c → ⊥) → g x ≡ f x)
    → map g (set xs c y) ≡ set (map f xs) c (g y)
one_moved f g [] c y h = refl
one_moved f g (x ∷ xs) zero y h = ap (λ ys. g y ∷ ys) (same_all f g xs (λ k z e. h (suc k) z e (λ same. absurd (omega (arith, same)))))
one_moved f g (x ∷ xs) (suc c) y h =
    λ i. h 0 x refl (λ same. absurd (omega (arith, same))) i ∷ one_moved f g xs c y (λ k z e apart. h (suc k) z e (λ same. apart (omega (arith, same)))) i

all_kept : {A : Type 0} (P Q : A → Type 0) (xs : List A) → All P xs → ((k : ℕ) (x : A) → slice_get xs k ≡ Some x → P x → Q x) → All Q xs
all_kept P Q [] all h = All-nil Q
all_kept P Q (x ∷ xs) all h = All-cons Q x xs (h 0 x refl (All-head P x xs all)) (all_kept P Q xs (All-tail P x xs all) (λ k z e. h (suc k) z e))

pub all_moved : {A : Type 0} (P Q : A → Type 0) (xs : List A) (c : ℕ) (y : A) → Q y → All P xs → ((k : ℕ) (x : A) → slice_get xs k ≡ Some x → (k ≡ c → ⊥) → P x → Q x) → All Q (set xs c y)
all_moved P Q [] c y q all h = All-nil Q
all_moved P Q (x ∷ xs) zero y q all h = All-cons Q y xs q (all_kept P Q xs (All-tail P x xs all) (λ k z e. h (suc k) z e (λ same. absurd (omega (arith, same)))))
all_moved P Q (x ∷ xs) (suc c) y q all h =
    All-cons Q x (set xs c y) (h 0 x refl (λ same. absurd (omega (arith, same))) (All-head P x xs all))
    (all_moved P Q xs c y q (All-tail P x xs all) (λ k z e apart. h (suc k) z e (λ same. apart (omega (arith, same)))))

-- circuits that all begin with what their regions hold
pub all_found : (regions : ℕ → Region) (found : CircuitPart → Leases) (xs : List CircuitServerValue) → All (λ s. leases_of regions s ≡ found s.part) xs
    → map (leases_of regions) xs ≡ map found (map part_of xs)
all_found regions found [] all = refl
all_found regions found (x ∷ xs) all = λ i. All-head (λ s. leases_of regions s ≡ found s.part) x xs all i ∷ all_found regions found xs (All-tail (λ s. leases_of regions s ≡ found s.part) x xs all) i

-- a slice of a whole vector that was written through
pub written_through : {A : Type 0} (len : ℕ) (new rest : List A) → len ≡ length new → take len (new ++ rest) ≡ new
written_through len new rest is = subst (λ n. take n (new ++ rest) ≡ new) (sym is) (take-append_seam new rest)

-- ---- which circuits are open

seen_open : (xs : List CircuitServerValue) (c : ℕ) → slice_get (map is_some (map server_book xs)) c ≡ option_map (λ o. is_some o) (option_map server_book (slice_get xs c))
seen_open xs c = slice_get-map (λ o. is_some o) (map server_book xs) c ∙ ap (option_map (λ o. is_some o)) (slice_get-map server_book xs c)

pub open_at : (xs : List CircuitServerValue) (c : ℕ) (s : CircuitServerValue) (b : Bool) → c < length xs → s ≡ slice_index_or xs c s → b ≡ is_some (server_book s)
    → (b ≡ true) ↔ (slice_get (map is_some (map server_book xs)) c ≡ Some true)
open_at xs c s b within is seen =
    let found : slice_get (map is_some (map server_book xs)) c ≡ Some b =
    seen_open xs c ∙ ap (λ o. option_map (λ o. is_some o) (option_map server_book o)) (slice_get_read xs (length xs) c s refl within is) ∙ ap Some (sym seen) in
    (λ yes. found ∙ ap Some yes, λ there. same_Some b true (sym found ∙ there))

pub none_past : (xs : List CircuitServerValue) (c n : ℕ) → n ≡ length xs → n ≤ c → (nat_lt c n ≡ true) ↔ (slice_get (map is_some (map server_book xs)) c ≡ Some true)
none_past xs c n size past =
    let none : slice_get (map is_some (map server_book xs)) c ≡ None =
    seen_open xs c ∙ ap (λ o. option_map (λ o. is_some o) (option_map server_book o)) (slice_get_past xs c (omega (arith, size, past))) in
    (λ less. let within : c < n = ltb-true c n less in absurd (omega (arith, within, past)), λ there. absurd (none-some true (sym none ∙ there)))
