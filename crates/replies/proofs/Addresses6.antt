-- The bytes of an IA_NA's addresses, one after the other.
use Rattle.std.proofs.Common.{◌≡◌, ℕ, suc, ◌+◌, ◌<◌, ◌≤◌, List, [], ◌∷◌, ◌++◌, length, take, take_all, map, get_or, ap, sym, ◌∙◌, arith, append_assoc}
use Rattle.std.proofs.Math.Seq.{take-suc}
use Rattle.std.proofs.lemmas.List.{map-append}
use Rattle.types.specs.declared.addr.Addr6.{Addr6}
use Rattle.v6_options.specs.Spelling.{spelling}
use Rattle.v6_message.proofs.Lists.{spelling-append}
use Rattle.replies.specs.Reply6.{address_option}

-- the bytes of the first so many, zeroed
abbrev zeroed : ℕ → List Addr6 → List ℕ
zeroed n addresses = spelling (map (address_option 0) (take n addresses))

one_more : (addresses : List Addr6) (i : ℕ) (d : Addr6) → i < length addresses → zeroed (i + 1) addresses ≡ zeroed i addresses ++ spelling (address_option 0 (get_or addresses i d) ∷ [])
one_more addresses i d h =
    let next : i + 1 ≡ suc i = omega arith in
    ap (λ (n : ℕ). zeroed n addresses) next
    ∙ ap (λ (a : List Addr6). spelling (map (address_option 0) a)) (take-suc addresses i d h)
    ∙ ap spelling (map-append (address_option 0) (take i addresses) (get_or addresses i d ∷ []))
    ∙ spelling-append (map (address_option 0) (take i addresses)) (address_option 0 (get_or addresses i d) ∷ [])

-- One more address is appended to the first so many.
pub next : (out before : List ℕ) (addresses : List Addr6) (i : ℕ) (d : Addr6) → i < length addresses → before ≡ out ++ zeroed i addresses
    → before ++ spelling (address_option 0 (get_or addresses i d) ∷ []) ≡ out ++ zeroed (i + 1) addresses
next out before addresses i d h e =
    ap (λ (t : List ℕ). t ++ spelling (address_option 0 (get_or addresses i d) ∷ [])) e
    ∙ append_assoc out (zeroed i addresses) (spelling (address_option 0 (get_or addresses i d) ∷ []))
    ∙ ap (λ (t : List ℕ). out ++ t) (sym (one_more addresses i d h))

-- The leased address is appended to all of them.
pub last : (out before : List ℕ) (addresses : List Addr6) (i : ℕ) (leased : ℕ × List ℕ) → length addresses ≤ i → before ≡ out ++ zeroed i addresses
    → before ++ spelling (leased ∷ []) ≡ out ++ spelling (map (address_option 0) addresses ++ leased ∷ [])
last out before addresses i leased h e =
    let all : before ≡ out ++ spelling (map (address_option 0) addresses) = e ∙ ap (λ (a : List Addr6). out ++ spelling (map (address_option 0) a)) (take_all i addresses h) in
    ap (λ (t : List ℕ). t ++ spelling (leased ∷ [])) all
    ∙ append_assoc out (spelling (map (address_option 0) addresses)) (spelling (leased ∷ []))
    ∙ ap (λ (t : List ℕ). out ++ t) (sym (spelling-append (map (address_option 0) addresses) (leased ∷ [])))
