-- What is found in a list by a name, and at which index.
use Rattle.std.proofs.Common.{◌≡◌, ℕ, ◌<◌, List, length, get_or, Option, Some, None, option_map, refl, ap, sym, ◌∙◌, arith}
use Rattle.std.specs.Prelude.{slice_get}
use Rattle.std.proofs.lemmas.Option.{slice_get_within, same_Some, gets}
use Rattle.std.proofs.lemmas.Grind.{common_steps}

-- the one at this index has this name
abbrev pub NameAt : {A : Type 0} → (A → List ℕ) → List A → ℕ → List ℕ → Type 0
NameAt f xs i name = option_map f (slice_get xs i) ≡ Some name

here : {A : Type 0} (xs : List A) (i : ℕ) (x : A) → i < length xs → x ≡ get_or xs i x → slice_get xs i ≡ Some x
here xs i x inside is = grind (arith, common_steps, gets)

pub is_name : {A : Type 0} (f : A → List ℕ) (xs : List A) (i : ℕ) (x : A) (name : List ℕ) → i < length xs → x ≡ get_or xs i x → f x ≡ name → NameAt f xs i name
is_name f xs i x name inside is same = ap (option_map f) (here xs i x inside is) ∙ ap Some same

pub not_name : {A : Type 0} (f : A → List ℕ) (xs : List A) (i : ℕ) (x : A) (name : List ℕ) → i < length xs → x ≡ get_or xs i x → (f x ≡ name → ⊥) → NameAt f xs i name → ⊥
not_name f xs i x name inside is differs h =
    differs (same_Some _ _ (sym (ap (option_map f) (here xs i x inside is)) ∙ h))

within : {A : Type 0} (f : A → List ℕ) (xs : List A) (i : ℕ) (name : List ℕ) (found : Option A) → slice_get xs i ≡ found → option_map f found ≡ Some name → i < length xs
within f xs i name None is h = absurd (cc)
within f xs i name (Some x) is h = slice_get_within xs i x is

-- past the last there is no name
pub name_within : {A : Type 0} (f : A → List ℕ) (xs : List A) (i : ℕ) (name : List ℕ) → NameAt f xs i name → i < length xs
name_within f xs i name h = within f xs i name (slice_get xs i) refl h
