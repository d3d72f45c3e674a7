-- One reading more.
use Rattle.std.proofs.Common.{◌≡◌, ◌≢◌, ◌∙◌, ℕ, ◌+◌, List, [], ◌∷◌, ◌++◌, length, sym, ap, refl}
use Rattle.std.specs.Prelude.{All}
use Rattle.std.proofs.lemmas.List.{append_assoc, append-nil, length-append}
use Rattle.std.proofs.lemmas.List.Elements.{All-nil, All-cons, All-append}
use Rattle.region_reader.specs.Steady.{Differ, IsSteady, AreUnsteady}

abbrev IsOf : ℕ → ℕ × List ℕ → Type 0
IsOf region reading = reading.0 ≡ region

all_one : (region : ℕ) (bytes : List ℕ) → All (IsOf region) ((region, bytes) ∷ [])
all_one region bytes = All-cons (IsOf region) (region, bytes) [] refl (All-nil (IsOf region))

-- the region was read so often, and had these bytes at last
pub record AreRead (region count : ℕ) (bytes : List ℕ) (before after : List (ℕ × List ℕ)) : Type 0 where
  pub earlier : List (ℕ × List ℕ)
  pub appended : after ≡ before ++ (earlier ++ (region, bytes) ∷ [])
  pub of_region : All (λ reading. reading.0 ≡ region) earlier
  pub differ : Differ (earlier ++ (region, bytes) ∷ [])
  pub number : length earlier + 1 ≡ count

pub first_read : (region : ℕ) (bytes : List ℕ) (before after : List (ℕ × List ℕ)) → after ≡ before ++ (region, bytes) ∷ [] → AreRead region 1 bytes before after
unfolding Differ
first_read region bytes before after is = record { earlier = []; appended = is; of_region = All-nil (IsOf region); differ = tt; number = refl }

differ_one_more : (earlier : List (ℕ × List ℕ)) (one next : ℕ × List ℕ) → one ≢ next → Differ (earlier ++ one ∷ []) → Differ ((earlier ++ one ∷ []) ++ next ∷ [])
unfolding Differ
differ_one_more [] one next other h = (other, tt)
differ_one_more (a ∷ []) one next other h = (h.0, differ_one_more [] one next other h.1)
differ_one_more (a ∷ b ∷ rest) one next other h = (h.0, differ_one_more (b ∷ rest) one next other h.1)

joined : (before earlier : List (ℕ × List ℕ)) (one next : ℕ × List ℕ) (between after : List (ℕ × List ℕ)) → between ≡ before ++ (earlier ++ one ∷ []) → after ≡ between ++ next ∷ [] → after ≡ before ++ ((earlier ++ one ∷ []) ++ next ∷ [])
joined before earlier one next between after is then = then ∙ ap (λ l. l ++ next ∷ []) is ∙ append_assoc before (earlier ++ one ∷ []) (next ∷ [])

pub read_once_more : (region count : ℕ) (bytes other : List ℕ) (before between after : List (ℕ × List ℕ)) → AreRead region count bytes before between → bytes ≢ other → after ≡ between ++ (region, other) ∷ [] → AreRead region (count + 1) other before after
read_once_more region count bytes other before between after read differs then =
    let one : ℕ × List ℕ = (region, bytes) in
    let next : ℕ × List ℕ = (region, other) in
    record {
      earlier = read.earlier ++ one ∷ [];
      appended = joined before read.earlier one next between after read.appended then;
      of_region = All-append (IsOf region) read.earlier (one ∷ []) read.of_region (all_one region bytes);
      differ = differ_one_more read.earlier one next (λ same. differs (ap (λ reading. reading.1) same)) read.differ;
      number = ap (λ n. n + 1) (length-append read.earlier (one ∷ []) ∙ read.number);
    }

pub read_twice : (region count : ℕ) (bytes : List ℕ) (before between after : List (ℕ × List ℕ)) → AreRead region count bytes before between → after ≡ between ++ (region, bytes) ∷ [] → IsSteady region bytes before after
read_twice region count bytes before between after read then =
    let one : ℕ × List ℕ = (region, bytes) in
    record {
      earlier = read.earlier;
      appended = joined before read.earlier one one between after read.appended then ∙ ap (λ l. before ++ l) (append_assoc read.earlier (one ∷ []) (one ∷ []));
      of_region = read.of_region;
      differ = read.differ;
    }

-- so often and no more
pub length_read : (region count : ℕ) (bytes : List ℕ) (before after : List (ℕ × List ℕ)) → AreRead region count bytes before after → length after ≡ length before + count
length_read region count bytes before after read =
    ap length read.appended ∙ length-append before (read.earlier ++ (region, bytes) ∷ []) ∙ ap (λ n. length before + n) (length-append read.earlier ((region, bytes) ∷ []) ∙ read.number)

-- none was read
pub none_read : (region : ℕ) (before after : List (ℕ × List ℕ)) → after ≡ before → AreUnsteady region before after
unfolding Differ
none_read region before after same = record { added = []; appended = same ∙ sym (append-nil before); of_region = All-nil (IsOf region); differ = tt }
