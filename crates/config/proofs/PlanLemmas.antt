-- Texts read one after the other, and the plans that they are.
use Rattle.std.proofs.Common.{◌≡◌, ℕ, ◌+◌, ◌<◌, Bool, List, [], ◌∷◌, ◌++◌, length, get_or, map, take, Some, option_map, refl, sym, ap, ◌∙◌, subst, suc, inl, arith}
use Rattle.std.specs.Prelude.{All, slice_get}
use Rattle.std.specs.List.{AllZip}
use Rattle.std.proofs.lemmas.List.{get_or-map, length-map, length-take-le, map_more, take-map}
use Rattle.std.proofs.lemmas.List.Elements.{All-map}
use Rattle.std.proofs.lemmas.Option.{slice_get-get_or, slice_get-map}
use denote.Ref.{Bor}
use Rattle.settings.specs.declared.fault.ConfigFault.{ConfigFault}
use Rattle.settings.specs.declared.fault.ConfigFault.TheVariants.{Memory}
use Rattle.settings.specs.declared.settings.CircuitConfig.{CircuitConfig}
use Rattle.settings.specs.Settings.{Settings}
use Rattle.config.specs.Plans.{IsFirstFault, IsPlansFaultOf}
use Rattle.config.specs.Union.{has_circuit}
use Rattle.config.specs.Valid.{IsConfig, IsFaultOf}

-- ---- one text after the other

zip_push : {A B : Type 0} (R : A → B → Type 0) (xs : List A) (ys : List B) (x : A) (y : B) → AllZip R xs ys → R x y → AllZip R (xs ++ x ∷ []) (ys ++ y ∷ [])
zip_push R [] [] x y all last = (last, tt)
zip_push R [] (b ∷ bs) x y all last = absurd all
zip_push R (a ∷ as_) [] x y all last = absurd all
zip_push R (a ∷ as_) (b ∷ bs) x y all last = (all.0, zip_push R as_ bs x y all.1 last)

pub zip_length : {A B : Type 0} (R : A → B → Type 0) (xs : List A) (ys : List B) → AllZip R xs ys → length xs ≡ length ys
zip_length R [] [] all = refl
zip_length R [] (b ∷ bs) all = absurd all
zip_length R (a ∷ as_) [] all = absurd all
zip_length R (a ∷ as_) (b ∷ bs) all = ap suc (zip_length R as_ bs all.1)

-- what the texts hold
abbrev bytes_of : List (Bor (List ℕ)) → List (List ℕ)
bytes_of texts = map (λ text. text.now) texts

pub one_text_more : (texts : List (Bor (List ℕ))) (i : ℕ) (d : Bor (List ℕ)) (old new : List Settings) (config : Settings)
    → i < length texts → new ≡ old ++ config ∷ [] → AllZip IsConfig (bytes_of (take i texts)) old → IsConfig (get_or texts i d).now config → AllZip IsConfig (bytes_of (take (i + 1) texts)) new
one_text_more texts i d old new config inside more read last =
    let both = zip_push IsConfig (bytes_of (take i texts)) old (get_or texts i d).now config read last in
    subst (λ ts. AllZip IsConfig ts new) (sym (map_more (λ (text : Bor (List ℕ)). text.now) texts i d inside)) (subst (AllZip IsConfig _) (sym more) both)

-- the fault of the first text that is not a configuration
as_first : (texts : List (List ℕ)) (fault : ConfigFault) → IsFirstFault texts fault → IsPlansFaultOf texts fault
as_first texts Memory h = tt
as_first texts fault h = inl h

pub first_fault : (texts : List (Bor (List ℕ))) (i : ℕ) (d : Bor (List ℕ)) (configs : List Settings) (fault : ConfigFault)
    → i < length texts → AllZip IsConfig (bytes_of (take i texts)) configs → IsFaultOf (get_or texts i d).now fault → IsPlansFaultOf (bytes_of texts) fault
first_fault texts i d configs fault inside read broken =
    let size : length configs ≡ i = sym (zip_length IsConfig (bytes_of (take i texts)) configs read) ∙ length-map (take i texts) (λ text. text.now) ∙ length-take-le i texts (omega (arith, inside)) in
    let front : bytes_of (take i texts) ≡ take (length configs) (bytes_of texts) = sym (take-map (λ text. text.now) i texts) ∙ ap (λ n. take n (bytes_of texts)) (sym size) in
    let here : slice_get (bytes_of texts) (length configs) ≡ Some (get_or texts i d).now =
    ap (slice_get (bytes_of texts)) size ∙ slice_get-map (λ text. text.now) texts i ∙ ap (λ t. option_map (λ text. text.now) t) (slice_get-get_or texts i d inside) in
    as_first (bytes_of texts) fault (record {
      before = configs;
      text = (get_or texts i d).now;
      read = subst (λ ts. AllZip IsConfig ts configs) front read;
      there = here;
      broken = broken;
    })

-- ---- the rows

-- each row has a member for each configuration
pub row_lengths : {Row : Type 0} (items : Row → List Bool) (rows : List Row) (circuits : List CircuitConfig) (configs : List Settings)
    → map items rows ≡ map (λ c. map (has_circuit c.id) configs) circuits → All (λ row. length (items row) ≡ length configs) rows
row_lengths items rows circuits configs same k d inside =
    let P : List Bool → Type 0 = λ row. length row ≡ length configs in
    let each : All P (map (λ c. map (has_circuit c.id) configs) circuits) = All-map P (λ c. map (has_circuit c.id) configs) circuits (λ i c within. length-map configs (has_circuit (get_or circuits i c).id)) in
    let here : P (get_or (map items rows) k (items d)) = subst (All P) (sym same) each k (items d) (omega (arith, length-map rows items, inside)) in
    subst P (get_or-map items rows k d (items d) inside) here

pub row_count : {Row : Type 0} (items : Row → List Bool) (rows : List Row) (circuits : List CircuitConfig) (configs : List Settings)
    → map items rows ≡ map (λ c. map (has_circuit c.id) configs) circuits → length rows ≡ length circuits
row_count items rows circuits configs same =
    sym (length-map rows items) ∙ ap length same ∙ length-map circuits (λ c. map (has_circuit c.id) configs)
