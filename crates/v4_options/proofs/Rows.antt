-- Rows of options that follow one another, and the list without one of them.
use Rattle.std.proofs.Common.{◌≡◌, ◌≢◌, ◌≤◌, ◌+◌, ℕ, List, ◌∷◌, ◌++◌, length, take, sym, ap, ◌∙◌, append_assoc, arith}
use Rattle.std.proofs.Math.Seq.{take-append_seam}
use Rattle.std.proofs.lemmas.Grind.{common_steps}
use Rattle.std.proofs.lemmas.List.{length-append}
use Rattle.v4_options.specs.Reading.{listed_from}
use Rattle.v4_options.specs.Spelling.{spelling, option, without}
use Rattle.v4_options.specs.declared.token.Syntax.TheVariants as syntax

-- A row that goes on by these bytes.
pub longer : (front left o new : List ℕ) (len m : ℕ) → take len front ++ left ≡ front → left ≡ o ++ new → m + length new ≡ length front
    → take m front ≡ take len front ++ o
longer front left o new len m row left_is m_is =
    let p = take len front in
    let e : front ≡ (p ++ o) ++ new = sym row ∙ ap (λ (l : List ℕ). p ++ l) left_is ∙ sym (append_assoc p o new) in
    let count : m ≡ length (p ++ o) = omega (arith, ap length e, length-append (p ++ o) new) in
    ap (λ (k : ℕ). take k front) count ∙ ap (λ (l : List ℕ). take (length (p ++ o)) l) e ∙ take-append_seam (p ++ o) new

pub longer_row : (front left o new : List ℕ) (len m : ℕ) → take len front ++ left ≡ front → left ≡ o ++ new → m + length new ≡ length front
    → take m front ++ new ≡ front
longer_row front left o new len m row left_is m_is =
    ap (λ (l : List ℕ). l ++ new) (longer front left o new len m row left_is m_is) ∙ append_assoc (take len front) o new ∙ ap (λ (l : List ℕ). take len front ++ l) (sym left_is) ∙ row

-- What is left is no longer than the row's bytes and it.
pub shorter : (front left o new : List ℕ) (len : ℕ) → take len front ++ left ≡ front → left ≡ o ++ new → length new ≤ length front
shorter front left o new len row left_is = omega (arith, ap length row, length-append (take len front) left, ap length left_is, length-append o new)

pub kept : (lo code : ℕ) (v : List ℕ) (os : List (ℕ × List ℕ)) → code ≢ lo → spelling (without lo ((code, v) ∷ os)) ≡ option code v ++ spelling (without lo os)
kept lo code v os ne = grind (arith, common_steps)

pub left_away : (lo code : ℕ) (v : List ℕ) (os : List (ℕ × List ℕ)) → code ≡ lo → without lo ((code, v) ∷ os) ≡ without lo os
left_away lo code v os e = grind (arith, common_steps)

-- The bytes to come, by a row that goes on.
pub longer_all : (out front left new target : List ℕ) (lo code : ℕ) (v : List ℕ) (len m : ℕ)
    → take len front ++ left ≡ front → left ≡ option code v ++ new → m + length new ≡ length front → code ≢ lo
    → listed_from syntax.Options 0 left ≡ (code, v) ∷ listed_from syntax.Options 0 new
    → out ++ (take len front ++ spelling (without lo (listed_from syntax.Options 0 left))) ≡ target
    → out ++ (take m front ++ spelling (without lo (listed_from syntax.Options 0 new))) ≡ target
longer_all out front left new target lo code v len m row left_is m_is ne listed all =
    let rest = spelling (without lo (listed_from syntax.Options 0 new)) in
    let e : spelling (without lo (listed_from syntax.Options 0 left)) ≡ option code v ++ rest = ap (λ (os : List (ℕ × List ℕ)). spelling (without lo os)) listed ∙ kept lo code v (listed_from syntax.Options 0 new) ne in
    ap (λ (l : List ℕ). out ++ (l ++ rest)) (longer front left (option code v) new len m row left_is m_is) ∙ ap (λ (l : List ℕ). out ++ l) (append_assoc (take len front) (option code v) rest)
    ∙ ap (λ (l : List ℕ). out ++ (take len front ++ l)) (sym e) ∙ all
