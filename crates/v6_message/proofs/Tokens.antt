-- The first fault, by the next token.
use Rattle.std.proofs.Common.{◌≡◌, ℕ, Bool, ◌||◌, cond, eqb, List, Option, Some, None, refl}
use Rattle.v6_options.specs.declared.token.Token.{Token}
use Rattle.v6_options.specs.declared.token.Token.TheVariants.{Nothing, Cut, Whole}
use Rattle.v6_options.specs.Token.{Begins}
use Rattle.v6_options.specs.Reading.{listed, cut_from}
use Rattle.v6_options.proofs.Tokens.{listed_is, cut_is}
use Rattle.v6_message.specs.declared.scan.Sender.{Sender}
use Rattle.v6_message.specs.declared.scan.ListFault.{ListFault}
use Rattle.v6_message.specs.declared.scan.ListFault.TheVariants as faults
use Rattle.v6_message.specs.Lists.{first_code, second_code}
use Rattle.v6_message.specs.Reading.{is_formed, is_again, fault_of}

abbrev pub fault_at : Sender → Bool → Bool → Token → List ℕ → Option ListFault
fault_at s a b Nothing rest = None
fault_at s a b Cut rest = Some faults.Cut
fault_at s a b (Whole code value) rest =
    cond (is_formed s code value.now) (cond (is_again s a b code) (Some faults.Twice) (fault_of s (a || eqb code (first_code s)) (b || eqb code (second_code s)) (cut_from 0 rest) (listed rest))) (Some faults.Cut)

pub fault_is : (s : Sender) (a b : Bool) (token : Token) (old new : List ℕ) → Begins token old new → fault_of s a b (cut_from 0 old) (listed old) ≡ fault_at s a b token new
fault_is s a b Nothing old new h = rw (cut_is Nothing old new h, listed_is Nothing old new h) refl
fault_is s a b Cut old new h = rw (cut_is Cut old new h, listed_is Cut old new h) refl
fault_is s a b (Whole code value) old new h = rw (cut_is (Whole code value) old new h, listed_is (Whole code value) old new h) refl
