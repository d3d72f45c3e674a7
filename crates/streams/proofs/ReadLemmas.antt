-- Bytes that are read in several calls.
use Rattle.std.proofs.Common.{ℕ, List, [], ◌++◌, refl, ap, sym, ◌∙◌, arith, append_assoc, length-append}
use Rattle.std.specs.Prelude.{Option, Some, None}
use Rattle.std.specs.Io.KnownBytes.{Consumes}
use Rattle.streams.specs.LineEnd.{IsCounted}

pub consumes_none : (o : Option (List ℕ)) → Consumes o o []
consumes_none None = tt
consumes_none (Some xs) = refl

pub consumes_more : (a b c : Option (List ℕ)) (xs ys : List ℕ) → Consumes a b xs → Consumes b c ys → Consumes a c (xs ++ ys)
consumes_more None b c xs ys h k = tt
consumes_more (Some x) None c xs ys h k = absurd h
consumes_more (Some x) (Some y) None xs ys h k = absurd k
consumes_more (Some x) (Some y) (Some z) xs ys h k = h ∙ ap (λ v. xs ++ v) k ∙ sym (append_assoc xs ys z)

-- bytes that were counted
pub counted_none : (o : Option (List ℕ)) (n : ℕ) → IsCounted o o n n
counted_none o n = record { bytes = []; read = consumes_none o; count = omega arith }

pub counted_more : (a b c : Option (List ℕ)) (i j k : ℕ) → IsCounted a b i j → IsCounted b c j k → IsCounted a c i k
counted_more a b c i j k h t = record {
  bytes = h.bytes ++ t.bytes;
  read = consumes_more a b c h.bytes t.bytes h.read t.read;
  count = let e = length-append h.bytes t.bytes in let f = h.count in let g = t.count in omega arith;
}
