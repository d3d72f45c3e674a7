-- Bytes that are read ahead of the lines.
use Rattle.std.proofs.Common.{◌≡◌, ℕ, zero, suc, ◌+◌, ◌-◌, ◌≤◌, true, false, nat_lt, List, [], ◌∷◌, ◌++◌, length, take, drop, slice_range, refl, ap, sym, subst, ◌∙◌, arith, add-one, append_assoc, append-nil, eq-eqb, ltb-false, take_all, drop-drop, length-take, length-append}
use Rattle.std.proofs.lemmas.List.{drop-take}
use Rattle.std.proofs.Math.Seq.{take-add}
use Rattle.std.specs.Prelude.{Option, Some, None}
use Rattle.std.specs.Io.KnownBytes.{Consumes, Keeps, prepend_known}
use Rattle.memchr.specs.Find.{Nowhere, Passes, is_byte}
use Rattle.streams.specs.LineEnd.{IsLine, IsLast, IsCut, IsCounted, IsLineEnd, HoldsLine, HoldsLast, len_of}
use Rattle.streams.specs.declared.line.LineEnd.{LineEnd}
use Rattle.streams.specs.declared.line.LineEnd.TheVariants.{Newline, EndOfInput, TooLong}
use Rattle.streams.specs.Lines.{lacks}
use Rattle.streams.proofs.CutLemmas.{lacks_none, lacks_next, around}

-- a byte that a search has not found in the first k
pub lacks_nowhere : (s : ℕ) (bs : List ℕ) (k : ℕ) → k ≤ length bs → Nowhere (Passes (is_byte s) bs) 0 k → lacks s (take k bs) ≡ true
lacks_nowhere s bs zero within h = lacks_none s
lacks_nowhere s bs (suc k) within h =
    let before = lacks_nowhere s bs k (omega arith) (λ i low high. h i low (omega arith)) in
    rw (← add-one k) (lacks_next s bs k (omega arith) (λ is. h k (omega arith) (omega arith) (eq-eqb _ _ is)) before)

-- a byte that a search has not found
pub lacks_everywhere : (s : ℕ) (bs : List ℕ) → Nowhere (Passes (is_byte s) bs) 0 (length bs) → lacks s bs ≡ true
lacks_everywhere s bs h = ap (lacks s) (sym (take_all (length bs) bs (omega arith))) ∙ lacks_nowhere s bs (length bs) (omega arith) h

pub end_within : (held : List ℕ) (left : Option (List ℕ)) (end : LineEnd) → IsLineEnd held left end → len_of end ≤ 8192
end_within held left (Newline len) h = h.short
end_within held left (EndOfInput len) h = h.short
end_within held left TooLong h = omega arith

-- the first bytes of those that are held are consumed
pub held_consumed : (left : Option (List ℕ)) (held front rest : List ℕ) → held ≡ front ++ rest → Consumes (prepend_known held left) (prepend_known rest left) front
held_consumed None held front rest e = tt
held_consumed (Some xs) held front rest e = ap (λ v. v ++ xs) e ∙ append_assoc front rest xs

-- all of them
pub all_consumed : (left : Option (List ℕ)) (held : List ℕ) → Consumes (prepend_known held left) left held
all_consumed None held = tt
all_consumed (Some xs) held = refl

pub consumes_after : (a b c : Option (List ℕ)) (bytes : List ℕ) → Keeps a b → Consumes b c bytes → Consumes a c bytes
consumes_after None b c bytes h k = tt
consumes_after (Some x) None c bytes h k = absurd h
consumes_after (Some x) (Some y) None bytes h k = absurd k
consumes_after (Some x) (Some y) (Some z) bytes h k = sym h ∙ k

-- a line and its line feed
pub line_consumed : (a left : Option (List ℕ)) (held text rest : List ℕ) (len : ℕ) → text ≡ held → rest ≡ drop (len + 1) held → Keeps a (prepend_known held left) → HoldsLine held len
    → IsLine a (prepend_known rest left) (take len text)
line_consumed a left held text rest len is after kept h =
    subst (λ v. IsLine a (prepend_known rest left) (take len v)) (sym is)
    (subst (λ v. IsLine a (prepend_known v left) (take len held)) (sym after) (record {
      plain = h.plain;
      read =
          consumes_after a (prepend_known held left) _ _ kept
          (held_consumed left held (take len held ++ 10 ∷ []) (drop (len + 1) held)
          (sym (append_assoc (take len held) (10 ∷ []) (drop (len + 1) held) ∙ around held len 10 h.inside h.feed)));
    }))

-- what follows the last line feed
pub last_consumed : (a left : Option (List ℕ)) (held text : List ℕ) (len : ℕ) → text ≡ held → Keeps a (prepend_known held left) → HoldsLast held left len → IsLast a left (take len text)
last_consumed a left held text len is kept h =
    let all : take len text ≡ held = ap (take len) is ∙ take_all len held (let e = h.size in omega arith) in
    subst (IsLast a left) (sym all) (record {
      part = record { plain = h.plain; read = consumes_after a (prepend_known held left) left held kept (all_consumed left held) };
      end = h.end;
    })

-- what was read before the reader failed
pub cut_consumed : (a left : Option (List ℕ)) (held : List ℕ) → Keeps a (prepend_known held left) → IsCut a left
cut_consumed a left held kept = record { front = held; read = consumes_after a (prepend_known held left) left held kept (all_consumed left held) }

-- a range without its first bytes
pub slice_range_advance : (xs : List ℕ) (from to n : ℕ) → n ≤ length (slice_range xs from to) → slice_range xs (from + n) to ≡ drop n (slice_range xs from to)
slice_range_advance xs from to n within =
    let size = length-take (to - from) (drop from xs) in
    let k = to - (from + n) in
    let whole : to - from ≡ n + k = omega (arith, size) in
    ap (take k) (sym (drop-drop n from xs)) ∙ sym (drop-take n k (drop from xs)) ∙ ap (λ m. drop n (take m (drop from xs))) (sym whole)

-- a range from the front, and more after it
pub slice_range_more : (xs ys : List ℕ) (start end n : ℕ) → start ≡ 0 → take end ys ≡ take end xs → slice_range ys start (end + n) ≡ slice_range xs start end ++ slice_range ys end (end + n)
slice_range_more xs ys start end n first same =
    let all : (end + n) - 0 ≡ end + n = omega arith in
    let old : end - 0 ≡ end = omega arith in
    let more : (end + n) - end ≡ n = omega arith in
    ap (λ s. slice_range ys s (end + n)) first ∙ ap (λ k. take k ys) all ∙ take-add end n ys ∙ ap (λ v. v ++ take n (drop end ys)) same
    ∙ sym (ap (λ s. slice_range xs s end ++ slice_range ys end (end + n)) first ∙ ap (λ k. take k xs ++ slice_range ys end (end + n)) old ∙ ap (λ k. take end xs ++ take k (drop end ys)) more)

-- some bytes move from the reader to those that are held
pub moved_kept : (a b : Option (List ℕ)) (old front new part : List ℕ) → front ≡ old → new ≡ front ++ part → Consumes a b part → Keeps (prepend_known old a) (prepend_known new b)
moved_kept None b old front new part e f h = tt
moved_kept (Some x) None old front new part e f h = absurd h
moved_kept (Some x) (Some y) old front new part e f h = ap (λ v. v ++ y) f ∙ append_assoc front part y ∙ ap (λ v. front ++ v) (sym h) ∙ ap (λ v. v ++ x) e

-- their count
pub moved_grown : (old front new part : List ℕ) (count before n : ℕ) → front ≡ old → new ≡ front ++ part → length part ≡ n → before ≡ count → length old + (before + n) ≡ length new + count
moved_grown old front new part count before n e f size same =
    let a = ap length f in let b = length-append front part in let d = ap length e in omega arith

pub moved_counted : (a b : Option (List ℕ)) (part : List ℕ) (count before n : ℕ) → Consumes a b part → length part ≡ n → before ≡ count → IsCounted a b count (before + n)
moved_counted a b part count before n h size same = record { bytes = part; read = h; count = omega arith }

no_bytes : (bytes : List ℕ) → length bytes ≡ 0 → bytes ≡ []
no_bytes [] h = refl
no_bytes (b ∷ bytes) h = absurd (omega arith)

-- none were read
pub moved_same : (old front new part : List ℕ) (n : ℕ) → front ≡ old → new ≡ front ++ part → length part ≡ n → nat_lt 0 n ≡ false → new ≡ old
moved_same old front new part n e f size none =
    let zero : n ≡ 0 = let h = ltb-false 0 n none in omega arith in
    f ∙ ap (λ v. front ++ v) (no_bytes part (size ∙ zero)) ∙ append-nil front ∙ e
