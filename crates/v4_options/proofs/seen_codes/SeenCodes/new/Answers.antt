use Rattle.std.proofs.Common.{◌≡◌, ℕ, zero, suc, ◌/◌, ◌%◌, eqb, get_or, replicate, refl, ap, ◌∙◌}
use Rattle.std.specs.Int.{bit_at}
use Rattle.std.proofs.lemmas.Nat.Bits.{bit_at-zero}
use Rattle.v4_options.proofs.seen_codes.SeenCodes.new.Goals as goal

-- Where all words are the same one, that is read at each place, and also past the last if it is the default.
reads_alike : (n word place : ℕ) → get_or (replicate n word) place word ≡ word
reads_alike zero word place = refl
reads_alike (suc n) word zero = refl
reads_alike (suc n) word (suc place) = reads_alike n word place

pub returns : goal.returns
returns c = λ i code. (ap (λ word. eqb (bit_at word (code % 64)) 1) (reads_alike 4 0 (code / 64)) ∙ ap (λ bit. eqb bit 1) (bit_at-zero (code % 64))) i
