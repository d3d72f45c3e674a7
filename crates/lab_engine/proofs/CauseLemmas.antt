-- Why a run ends.
use Rattle.std.proofs.Common.{◌≡◌, ℕ, ◌+◌, ◌<◌, ◌⊎◌, inl, inr, List, ◌∙◌, arith, subst}
use Rattle.std.specs.Prelude.{Option}
use Rattle.streams.specs.LineEnd.{IsCounted}
use Rattle.lab_engine.specs.Run.{HasRead, HasCause, HasNoCause}
use Rattle.streams.proofs.ReadLemmas.{counted_more}

pub has_read : (given left : Option (List ℕ)) (n : ℕ) → IsCounted given left 0 n → HasRead given left n
has_read given left n h = record { read = h.bytes; consumed = h.read; count = let e = h.count in omega arith }

-- the reader failed, or the text is too long, or the writer failed
pub read_failed : (given left left2 : Option (List ℕ)) (reader before after writer writer_before writer_after n m : ℕ) → before ≡ reader → writer_before ≡ writer
    → IsCounted given left 0 n → IsCounted left left2 n m
    → (after ≡ before + 1) ⊎ (m ≡ 18446744073709551615) ⊎ (writer_after ≡ writer_before + 1) → HasCause given left2 reader after writer writer_after
read_failed given left left2 reader before after writer writer_before writer_after n m same writer_same h more (inl failed) = inl (omega arith)
read_failed given left left2 reader before after writer writer_before writer_after n m same writer_same h more (inr (inl full)) =
    inr (inr (subst (HasRead given left2) full (has_read given left2 m (counted_more given left left2 0 n m h more))))
read_failed given left left2 reader before after writer writer_before writer_after n m same writer_same h more (inr (inr failed)) = inr (inl (omega arith))

-- no byte more was read
pub write_failed : (given left : Option (List ℕ)) (reader after writer writer_before writer_after : ℕ) → writer_before ≡ writer → writer_after ≡ writer_before + 1 → HasCause given left reader after writer writer_after
write_failed given left reader after writer writer_before writer_after same failed = inr (inl (omega arith))

pub still_none_failed : (given left : Option (List ℕ)) (reader after writer writer_before writer_after n : ℕ) → after ≡ reader → writer_before ≡ writer → writer_after ≡ writer_before
    → IsCounted given left 0 n → n < 18446744073709551615 → HasNoCause given left reader after writer writer_after
still_none_failed given left reader after writer writer_before writer_after n a b c h below = record {
  reader_quiet = a;
  writer_quiet = c ∙ b;
  count = n;
  few = below;
  read = has_read given left n h;
}

-- The counts at the start of a run were the same.
pub cause_from : (given left : Option (List ℕ)) (reader before after writer writer_before writer_after : ℕ) → before ≡ reader → writer_before ≡ writer
    → HasCause given left before after writer_before writer_after → HasCause given left reader after writer writer_after
cause_from given left reader before after writer writer_before writer_after same writer_same h =
    subst (λ n. HasCause given left n after writer writer_after) same (subst (λ n. HasCause given left before after n writer_after) writer_same h)

pub none_from : (given left : Option (List ℕ)) (reader before after writer writer_before writer_after : ℕ) → before ≡ reader → writer_before ≡ writer
    → HasNoCause given left before after writer_before writer_after → HasNoCause given left reader after writer writer_after
none_from given left reader before after writer writer_before writer_after same writer_same h = record {
  reader_quiet = h.reader_quiet ∙ same;
  writer_quiet = h.writer_quiet ∙ writer_same;
  count = h.count;
  few = h.few;
  read = h.read;
}
