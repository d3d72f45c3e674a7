-- The options but for option 82, as options are read, and a list that has no option 82.
use Rattle.std.proofs.Common.{◌≡◌, ◌≢◌, ◌+◌, ◌-◌, ℕ, Bool, true, false, cond, ◌&&◌, eqb, List, [], ◌∷◌, ◌++◌, length, take, get_or, Option, Some, None, inl, inr, refl, sym, ap, ◌∙◌, arith, ne_eqb, eq-eqb}
use Rattle.std.specs.Option.{option_or}
use Rattle.std.proofs.lemmas.Bool.{cases_eq}
use Rattle.std.proofs.lemmas.List.{length-append, take_at}
use Rattle.std.proofs.Math.Bool.{and-false}
use Rattle.v4_options.specs.Codes.{RELAY_AGENT_INFORMATION}
use Rattle.v4_options.specs.Front.{AreOptionsRead, others}
use Rattle.v4_options.specs.Places.{value_at}
use Rattle.v4_options.specs.Reading.{listed_from}
use Rattle.v4_options.specs.Spelling.{look_up, option, spelling, without}
use Rattle.v4_options.specs.declared.token.Syntax.TheVariants as syntax
use Rattle.v4_options.proofs.Rows.{left_away, longer_all}

-- Before the first option.
pub none_read : (agent : ℕ) (bytes left : List ℕ) → agent ≡ 0 → left ≡ bytes → AreOptionsRead agent bytes left
none_read agent bytes left none all = record {
  not_met = λ zero len count.
      let start : len ≡ 0 = omega (arith, count, ap length all) in
      record { within = omega (arith, start); all = rw start (ap others all) };
  is_last = λ some. absurd (omega (arith, some, none));
  past = λ some. absurd (omega (arith, some, none));
}

-- The next option of a list, and where it stands.
pub record IsNext (bytes before left new value : List ℕ) (code place : ℕ) : Type 0 where
  pub whole : before ++ left ≡ bytes
  pub here : left ≡ option code value ++ new
  pub listed : listed_from syntax.Options 0 left ≡ (code, value) ∷ listed_from syntax.Options 0 new
  pub count : place + (length value + 1 + length new) ≡ length bytes
  pub first : get_or bytes place 0 ≡ length value

lengths : (bytes before left new value : List ℕ) (code place : ℕ) → IsNext bytes before left new value code place
    → (length before + length left ≡ length bytes) × (length left ≡ length value + 2 + length new)
lengths bytes before left new value code place next =
    (sym (length-append before left) ∙ ap length next.whole, omega (arith, ap length next.here, length-append (option code value) new))

agent_read : (bytes before left new value : List ℕ) (code place agent : ℕ) → IsNext bytes before left new value code place → code ≡ RELAY_AGENT_INFORMATION → agent ≡ 0
    → AreOptionsRead agent bytes left → AreOptionsRead place bytes new
agent_read bytes before left new value code place agent next is none read =
    let l = lengths bytes before left new value code place next in
    let head = read.not_met none (place - 1) (omega (arith, l, next.count)) in
    let gone = ap spelling (ap (without RELAY_AGENT_INFORMATION) next.listed ∙ left_away RELAY_AGENT_INFORMATION code value (listed_from syntax.Options 0 new) is) in
    record {
      not_met = λ zero. absurd (omega (arith, zero, l, next.count));
      is_last = λ some nothing. record { within = head.within; all = ap (λ (bs : List ℕ). take (place - 1) bytes ++ bs) (sym gone) ∙ head.all };
      past = λ some. omega (arith, next.count, next.first);
    }

other_read : (bytes before left new value : List ℕ) (code place agent : ℕ) → IsNext bytes before left new value code place → code ≢ RELAY_AGENT_INFORMATION → agent ≡ 0
    → AreOptionsRead agent bytes left → AreOptionsRead agent bytes new
other_read bytes before left new value code place agent next other none read =
    let l = lengths bytes before left new value code place next in
    let head = read.not_met none (length before) l.0 in
    let row : take (length before) bytes ++ left ≡ bytes = ap (λ (bs : List ℕ). bs ++ left) (ap (take (length before)) (sym next.whole) ∙ take_at before left _ refl) ∙ next.whole in
    record {
      not_met = λ zero len count. record {
        within = omega (arith, count);
        all = longer_all [] bytes left new (others bytes) RELAY_AGENT_INFORMATION code value (length before) len row next.here count other next.listed head.all;
      };
      is_last = λ some. absurd (omega (arith, some, none));
      past = λ some. absurd (omega (arith, some, none));
    }

read_behind : (bytes before left new value : List ℕ) (code place agent : ℕ) → IsNext bytes before left new value code place → agent ≢ 0
    → AreOptionsRead agent bytes left → AreOptionsRead agent bytes new
read_behind bytes before left new value code place agent next met read =
    let l = lengths bytes before left new value code place next in
    let past = read.past (omega (arith, met)) in
    record {
      not_met = λ zero. absurd (met zero);
      is_last = λ some nothing. absurd (omega (arith, nothing, past, l));
      past = λ some. omega (arith, past, l);
    }

-- Once one more option was read.
pub more_read : (bytes before left new value : List ℕ) (code place agent : ℕ) → IsNext bytes before left new value code place
    → AreOptionsRead agent bytes left → AreOptionsRead (cond (eqb code RELAY_AGENT_INFORMATION && eqb agent 0) place agent) bytes new
more_read bytes before left new value code place agent next read =
    elim (cases_eq agent 0) [
      | inr met ↦ rw (ne_eqb agent 0 met, and-false (eqb code RELAY_AGENT_INFORMATION)) (read_behind bytes before left new value code place agent next met read)
      | inl none ↦
          elim (cases_eq code RELAY_AGENT_INFORMATION) [
            | inl is ↦ rw (eq-eqb code RELAY_AGENT_INFORMATION is, eq-eqb agent 0 none) (agent_read bytes before left new value code place agent next is none read)
            | inr other ↦ rw (ne_eqb code RELAY_AGENT_INFORMATION other) (other_read bytes before left new value code place agent next other none read)
          ]
    ]

step : (b : Bool) (code : ℕ) (o : ℕ × List ℕ) (os : List (ℕ × List ℕ)) → eqb o.0 code ≡ b → cond b (Some o.1) (look_up code os) ≡ None → (look_up code os ≡ None → without code os ≡ os) → without code (o ∷ os) ≡ o ∷ os
step true code o os is none rest = absurd cc
step false code o os is none rest = rw is (ap (λ (l : List (ℕ × List ℕ)). o ∷ l) (rest none))

-- Nothing is left out of a list without that option.
pub all_stay : (code : ℕ) (os : List (ℕ × List ℕ)) → look_up code os ≡ None → without code os ≡ os
all_stay code [] none = refl
all_stay code (o ∷ os) none = step (eqb o.0 code) code o os refl none (all_stay code os)

-- What stands at place 0 is not there.
pub not_placed : (bytes : List ℕ) (place : ℕ) (found : Option (List ℕ)) → place ≡ 0 → option_or (value_at bytes place) None ≡ found → found ≡ None
not_placed bytes place found none is = sym is ∙ ap (λ (p : ℕ). option_or (value_at bytes p) None) none
