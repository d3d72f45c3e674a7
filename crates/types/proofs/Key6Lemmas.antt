-- A DUID is written over the front of 130 zeros.
use Rattle.std.proofs.Common.{◌≡◌, ℕ, ◌≤◌, List, ◌++◌, length, take, drop, replicate, ap, sym, ◌∙◌, subst}
use Rattle.std.proofs.Math.Seq.{take-append_seam}
use Rattle.std.proofs.lemmas.List.{drop-replicate}
use Rattle.types.specs.Key6.{padded6, IsKey6}

-- the first bytes of what was written are the DUID's
front : (xs : List ℕ) → take (length xs) (padded6 xs) ≡ xs
front xs = take-append_seam xs _

pub written_over_zeros6 : (xs ys : List ℕ) → ys ≡ xs → ys ++ drop (length xs) (replicate 130 0) ≡ padded6 xs
written_over_zeros6 xs ys e = ap (λ zs. zs ++ drop (length xs) (replicate 130 0)) e ∙ ap (λ zs. xs ++ zs) (drop-replicate (length xs) 130 0)

pub is_key6 : (xs : List ℕ) (bytes : List ℕ) → 3 ≤ length xs → length xs ≤ 130 → bytes ≡ padded6 xs → IsKey6 (length xs) bytes
is_key6 xs bytes least most e =
    let P : List ℕ → Type 0 = λ zs. IsKey6 (length xs) zs in
    subst P (sym e) (record { least = least; most = most; all = ap length (front xs); zeros = ap padded6 (front xs) })
