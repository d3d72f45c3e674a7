-- Rings of q items in one row.
use Rattle.std.proofs.Common.{◌≡◌, ◌≢◌, ℕ, ◌+◌, ◌*◌, ◌<◌, ◌≤◌, List, length, get_or, take, drop, set, ap, sym, ◌∙◌, arith, length-drop, length-take, length-take-le, get_or-drop, get_or-take, get_or-set_other}
use Rattle.std.proofs.Math.Seq.{take-set-lt}
use Rattle.std.proofs.lemmas.List.{same_lists, drop-set-add, length-set}
use Rattle.std.proofs.lemmas.Nat.{same_from_place, row_fits}
use Rattle.lossy_net.specs.Ring.{segment}

module _ {X : Type 0} (q r : ℕ) (xs : List X) where
  pub get_or-segment : (i : ℕ) (d : X) → i < q → get_or (segment q r xs) i d ≡ get_or xs (r * q + i) d
  get_or-segment i d low = get_or-take q _ i d low ∙ get_or-drop (r * q) xs i d

  pub length-segment : (n : ℕ) → r < n → length xs ≡ n * q → length (segment q r xs) ≡ q
  length-segment n below whole =
      let fits : r * q + q ≤ n * q = row_fits r q n q below (omega arith) in
      length-take-le q _ (simp length-drop (omega arith))

  pub segment-set : (h : ℕ) (x : X) → h < q → segment q r (set xs (r * q + h) x) ≡ set (segment q r xs) h x
  segment-set h x low = ap (take q) (drop-set-add (r * q) xs h x) ∙ take-set-lt q (drop (r * q) xs) h x low

  pub segment-set_other : (s h : ℕ) (x : X) → h < q → s ≢ r → segment q s (set xs (r * q + h) x) ≡ segment q s xs
  segment-set_other s h x low other =
      let ys = set xs (r * q + h) x in
      let length_ys = length-set xs (r * q + h) x in
      let length_new = length-take q (drop (s * q) ys) in
      let length_old = length-take q (drop (s * q) xs) in
      let tail_new = length-drop (s * q) ys in
      let tail_old = length-drop (s * q) xs in
      same_lists _ _ (omega arith) (λ i d below.
      let low' : i < q = omega arith in
      let apart : s * q + i ≢ r * q + h = λ e. other (same_from_place s i r h q low' low e).0 in
      get_or-take q _ i d low' ∙ get_or-drop (s * q) ys i d
      ∙ get_or-set_other xs (r * q + h) (s * q + i) x d apart
      ∙ sym (get_or-take q _ i d low' ∙ get_or-drop (s * q) xs i d))
