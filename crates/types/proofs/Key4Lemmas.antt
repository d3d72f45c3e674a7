-- A key is written over the front of 64 zeros.
use Rattle.std.proofs.Common.{◌≡◌, ℕ, ◌≤◌, List, ◌++◌, length, take, take-take, drop, replicate, ap, sym, ◌∙◌, subst}
use Rattle.std.proofs.Math.Seq.{take-append_seam}
use Rattle.std.proofs.lemmas.List.{drop-replicate}
use Rattle.types.specs.Key4.{padded, IsKey4}

-- the first bytes of what was written are the key's
pub front : (xs : List ℕ) → take (length xs) (padded xs) ≡ xs
front xs = take-append_seam xs _

pub written_over_zeros : (xs ys : List ℕ) → ys ≡ xs → ys ++ drop (length xs) (replicate 64 0) ≡ padded xs
written_over_zeros xs ys e = ap (λ zs. zs ++ drop (length xs) (replicate 64 0)) e ∙ ap (λ zs. xs ++ zs) (drop-replicate (length xs) 64 0)

pub is_key : (xs : List ℕ) (bytes : List ℕ) → 2 ≤ length xs → length xs ≤ 64 → bytes ≡ padded xs → IsKey4 (length xs) bytes
is_key xs bytes least most e =
    let P : List ℕ → Type 0 = λ zs. IsKey4 (length xs) zs in
    subst P (sym e) (record { least = least; most = most; all = ap length (front xs); zeros = ap padded (front xs) })

-- keys of eight bytes and less are the same where the first eight bytes are, with zeros after the keys
pub same_short : (xs ys : List ℕ) → length xs ≤ 8 → length xs ≡ length ys → take 8 (padded xs) ≡ take 8 (padded ys) → xs ≡ ys
same_short xs ys few lens same =
    let P : ℕ → Type 0 = λ n. take n (take 8 (padded ys)) ≡ ys in
    let short : take (length ys) (take 8 (padded ys)) ≡ ys = take-take (length ys) 8 (padded ys) (subst (λ n. n ≤ 8) lens few) ∙ front ys in
    sym (front xs) ∙ sym (take-take (length xs) 8 (padded xs) few) ∙ ap (take (length xs)) same ∙ subst P (sym lens) short
