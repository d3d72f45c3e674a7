-- The entries of a list from one on, and the addresses that they spell.
use Rattle.std.proofs.Common.{◌≡◌, ℕ, zero, suc, slice_get, ◌+◌, ◌<◌, ◌≤◌, List, [], ◌∷◌, ◌++◌, append_assoc, append-nil, length-append, length, get_or, drop, Option, Some, ap, subst, sym, refl, arith}
use Rattle.std.proofs.lemmas.List.{at_drop_all}
use Rattle.toml.specs.Data.{Data}
use Rattle.toml.specs.View.{view, items_view}
use Rattle.toml.specs.declared.value.Value.{Value}
use Rattle.toml.proofs.Views.{items_view-drop}
use Rattle.types.specs.declared.addr.Addr4.{Addr4}
use Rattle.settings.specs.declared.limits.TheConstants.{MAX_DNS}
use Rattle.settings.specs.Field.{Field, HasValue, text_of, each}
use Rattle.settings.specs.Texts.{IsAddress}
use Rattle.settings.specs.Values.{AreAddresses}

-- the entries from the i-th on
abbrev pub entries_from : {A : Type 0} → (Option Data → Field A) → List Value → ℕ → List (Field A)
entries_from f vs i = each f (items_view (drop i vs))

pub entries_step : {A : Type 0} (f : Option Data → Field A) (vs : List Value) (i : ℕ) (d : Value) → i < length vs → entries_from f vs i ≡ f (Some (view (get_or vs i d))) ∷ entries_from f vs (i + 1)
entries_step f vs i d h = ap (each f) (items_view-drop vs i d h)

-- the entry at an index
pub entry_at : {A : Type 0} (f : Option Data → Field A) (vs : List Value) (i : ℕ) (d : Value) → i < length vs → slice_get (each f (items_view vs)) i ≡ Some (f (Some (view (get_or vs i d))))
entry_at f [] i d h = absurd (omega arith)
entry_at f (v ∷ vs) zero d h = refl
entry_at f (v ∷ vs) (suc i) d h = entry_at f vs i d (omega arith)

-- what a loop over texts has found after i of them
pub record HasRead (texts : List Value) (i : ℕ) (found : List Addr4) : Type 0 where
  pub count : length found ≡ i
  pub few : length found ≤ MAX_DNS
  -- with what the rest spells it is what all spell
  pub front : (rest : List Addr4) → AreAddresses (entries_from text_of texts i) rest → AreAddresses (each text_of (items_view texts)) (found ++ rest)
  -- what all spell ends with what the rest spells
  pub back : (all : List Addr4) → AreAddresses (each text_of (items_view texts)) all → (rest : List Addr4) × AreAddresses (entries_from text_of texts i) rest × (length all ≡ i + length rest)

-- the text f spells the address a
abbrev pub Spelled : Field (List ℕ) → Addr4 → Type 0
Spelled f a = HasValue f (λ text. IsAddress text a)

pub record FirstOf (f : Field (List ℕ)) (fs : List (Field (List ℕ))) (all : List Addr4) : Type 0 where
  pub first : Addr4
  pub rest : List Addr4
  pub whole : all ≡ first ∷ rest
  pub here : Spelled f first
  pub behind : AreAddresses fs rest

pub first_of : (f : Field (List ℕ)) (fs : List (Field (List ℕ))) (all : List Addr4) → AreAddresses (f ∷ fs) all → FirstOf f fs all
first_of f fs [] h = absurd h
first_of f fs (a ∷ rest) h = record { first = a; rest = rest; whole = refl; here = h.0; behind = h.1 }

-- the first of the rest
pub next_of : (texts : List Value) (i : ℕ) (d : Value) (rest : List Addr4) → i < length texts → AreAddresses (entries_from text_of texts i) rest → FirstOf (text_of (Some (view (get_or texts i d)))) (entries_from text_of texts (i + 1)) rest
next_of texts i d rest h are =
    first_of _ _ rest (subst (λ fs. AreAddresses fs rest) (entries_step text_of texts i d h) are)

pub read_none : (texts : List Value) → HasRead texts 0 []
read_none texts = record { count = refl; few = omega arith; front = λ rest h. h; back = λ all h. (all, h, omega arith) }

pub read_more : (texts : List Value) (i : ℕ) (d : Value) (found : List Addr4) (a : Addr4) → i < length texts → length found < MAX_DNS → Spelled (text_of (Some (view (get_or texts i d)))) a → HasRead texts i found → HasRead texts (i + 1) (found ++ a ∷ [])
read_more texts i d found a h room here read = record {
  count = simp length-append (omega (arith, read.count));
  few = simp length-append (omega arith);
  front = λ rest are.
      let behind = subst (λ fs. AreAddresses fs (a ∷ rest)) (sym (entries_step text_of texts i d h)) (here, are) in
      subst (AreAddresses (each text_of (items_view texts))) (sym (append_assoc found (a ∷ []) rest)) (read.front (a ∷ rest) behind);
  back = λ all are.
      let (rest, behind, long) = read.back all are in
      let next = next_of texts i d rest h behind in
      (next.rest, next.behind, omega (arith, ap length next.whole));
}

-- where the next text spells no address, all of them spell none
pub read_fails : (texts : List Value) (i : ℕ) (d : Value) (found : List Addr4) → i < length texts → ((a : Addr4) → Spelled (text_of (Some (view (get_or texts i d)))) a → ⊥) → HasRead texts i found → (all : List Addr4) → AreAddresses (each text_of (items_view texts)) all → ⊥
read_fails texts i d found h fails read all are =
    let (rest, behind, long) = read.back all are in
    let next = next_of texts i d rest h behind in
    fails next.first next.here

-- more texts than found addresses are not all read
pub read_past : (texts : List Value) (i : ℕ) (d : Value) (found : List Addr4) → i < length texts → HasRead texts i found → (all : List Addr4) → AreAddresses (each text_of (items_view texts)) all → length found < length all
read_past texts i d found h read all are =
    let (rest, behind, long) = read.back all are in
    let next = next_of texts i d rest h behind in
    omega (arith, ap length next.whole, read.count)

-- after the last text all are read
pub read_all : (texts : List Value) (i : ℕ) (found : List Addr4) → length texts ≤ i → HasRead texts i found → AreAddresses (each text_of (items_view texts)) found
read_all texts i found past read =
    let none_left = at_drop_all (λ vs. each text_of (items_view vs)) texts i past in
    let behind = subst (λ fs. AreAddresses fs []) (sym none_left) tt in
    subst (AreAddresses (each text_of (items_view texts))) (append-nil found) (read.front [] behind)
