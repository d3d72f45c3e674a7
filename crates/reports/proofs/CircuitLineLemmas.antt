-- The parts of a circuit's line, one after the other.
use Rattle.std.proofs.Common.{◌≡◌, ◌∙◌, ◌+◌, ◌<◌, ℕ, zero, suc, Bool, true, false, ◌||◌, nat_lt, List, [], ◌∷◌, ◌++◌, length, take, get_or, refl, sym, ap, append_assoc, append-nil, arith}
use Rattle.std.proofs.lemmas.Bool.{lt-ltb}
use Rattle.std.proofs.lemmas.List.{take_more, flat_map_more}
use Rattle.std.specs.Prelude.{codes, decimal}
use Rattle.std.specs.List.{flat_map}
use Rattle.types.specs.declared.discard.Discard.{Discard}
use Rattle.counts.specs.declared.counts.Counts.{Counts}
use Rattle.reports.specs.CircuitLine.{declined_part, dropped_part, dropped_parts_of, end_text, has_parts, joined, lead, line_text, number_dropped}

or_false : (b : Bool) → b ≡ (b || false)
or_false true = refl
or_false false = refl

or_true : (b : Bool) → true ≡ (b || true)
or_true true = refl
or_true false = refl

-- what follows a part has a comma before it
pub joined-append : (follows : Bool) (id : List ℕ) (xs ys : List (List ℕ)) → joined follows id (xs ++ ys) ≡ joined follows id xs ++ joined (follows || has_parts xs) id ys
joined-append follows id [] ys = ap (λ b. joined b id ys) (or_false follows)
joined-append follows id (x ∷ xs) ys =
    let rest : joined true id (xs ++ ys) ≡ joined true id xs ++ joined true id ys = joined-append true id xs ys in
    let whole : lead follows id ++ (x ++ joined true id (xs ++ ys)) ≡ (lead follows id ++ (x ++ joined true id xs)) ++ joined true id ys =
    ap (λ t. lead follows id ++ (x ++ t)) rest ∙ ap (λ t. lead follows id ++ t) (sym (append_assoc x (joined true id xs) (joined true id ys)))
    ∙ sym (append_assoc (lead follows id) (x ++ joined true id xs) (joined true id ys)) in
    whole ∙ ap (λ b. (lead follows id ++ (x ++ joined true id xs)) ++ joined b id ys) (or_true follows)

pub has_parts-append : (xs ys : List (List ℕ)) → has_parts (xs ++ ys) ≡ (has_parts xs || has_parts ys)
has_parts-append [] ys = refl
has_parts-append (x ∷ xs) ys = refl

pub has_dropped_part : (n : ℕ) (why : Discard) → has_parts (dropped_part n why) ≡ nat_lt 0 n
has_dropped_part zero why = refl
has_dropped_part (suc n) why = sym (lt-ltb 0 (suc n) (omega arith))

pub has_declined_part : (n : ℕ) → has_parts (declined_part n) ≡ nat_lt 0 n
has_declined_part zero = refl
has_declined_part (suc n) = sym (lt-ltb 0 (suc n) (omega arith))

-- one reason more
pub parts_more : (counts : Counts) (whys : List Discard) (i : ℕ) (d : Discard) → i < length whys
    → dropped_parts_of counts (take i whys) ++ dropped_part (number_dropped counts (get_or whys i d)) (get_or whys i d) ≡ dropped_parts_of counts (take (i + 1) whys)
parts_more counts whys i d inside =
    let part : Discard → List (List ℕ) = λ w. dropped_part (number_dropped counts w) w in
    flat_map_more part [] (take i whys) (get_or whys i d) ∙ ap (flat_map part) (sym (take_more whys i d inside))

pub begun_more : (counts : Counts) (whys : List Discard) (i : ℕ) (d : Discard) (before : Bool) (n : ℕ) → i < length whys
    → before ≡ has_parts (dropped_parts_of counts (take i whys)) → n ≡ number_dropped counts (get_or whys i d)
    → (before || nat_lt 0 n) ≡ has_parts (dropped_parts_of counts (take (i + 1) whys))
begun_more counts whys i d before n inside begun number =
    let why = get_or whys i d in
    let parts = dropped_parts_of counts (take i whys) in
    ap (λ b. b || nat_lt 0 n) begun ∙ ap (λ m. has_parts parts || nat_lt 0 m) number
    ∙ ap (λ b. has_parts parts || b) (sym (has_dropped_part (number_dropped counts why) why))
    ∙ sym (has_parts-append parts (dropped_part (number_dropped counts why) why))
    ∙ ap has_parts (parts_more counts whys i d inside)

pub joined_more : (id : List ℕ) (counts : Counts) (whys : List Discard) (i : ℕ) (d : Discard) (before : Bool) (n : ℕ) → i < length whys
    → before ≡ has_parts (dropped_parts_of counts (take i whys)) → n ≡ number_dropped counts (get_or whys i d)
    → joined false id (dropped_parts_of counts (take i whys)) ++ joined before id (dropped_part n (get_or whys i d)) ≡ joined false id (dropped_parts_of counts (take (i + 1) whys))
joined_more id counts whys i d before n inside begun number =
    let why = get_or whys i d in
    let parts = dropped_parts_of counts (take i whys) in
    ap (λ b. joined false id parts ++ joined b id (dropped_part n why)) begun
    ∙ ap (λ m. joined false id parts ++ joined (has_parts parts) id (dropped_part m why)) number
    ∙ sym (joined-append false id parts (dropped_part (number_dropped counts why) why))
    ∙ ap (joined false id) (parts_more counts whys i d inside)

-- what is declined comes last, and a line feed after it
pub whole_line : (id : List ℕ) (parts : List (List ℕ)) (n : ℕ) (before begun : Bool) → before ≡ has_parts parts → begun ≡ (before || nat_lt 0 n)
    → (joined false id parts ++ joined before id (declined_part n)) ++ end_text begun ≡ line_text id (parts ++ declined_part n)
whole_line id parts n before begun had has =
    let all : joined false id parts ++ joined before id (declined_part n) ≡ joined false id (parts ++ declined_part n) =
    ap (λ b. joined false id parts ++ joined b id (declined_part n)) had ∙ sym (joined-append false id parts (declined_part n)) in
    let any : begun ≡ has_parts (parts ++ declined_part n) =
    has ∙ ap (λ b. b || nat_lt 0 n) had ∙ ap (λ b. has_parts parts || b) (sym (has_declined_part n)) ∙ sym (has_parts-append parts (declined_part n)) in
    ap (λ t. t ++ end_text begun) all ∙ ap (λ b. joined false id (parts ++ declined_part n) ++ end_text b) any

pub joined_declined : (follows : Bool) (id : List ℕ) (n : ℕ) → 0 < n → lead follows id ++ (decimal n ++ codes " declined by DECLINE") ≡ joined follows id (declined_part n)
joined_declined follows id zero some = absurd (omega (arith, some))
joined_declined follows id (suc n) some = ap (λ t. lead follows id ++ t) (sym (append-nil (decimal (suc n) ++ codes " declined by DECLINE")))
