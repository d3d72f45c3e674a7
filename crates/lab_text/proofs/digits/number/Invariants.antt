use Rattle.std.proofs.Common.{◌≡◌, ◌≤◌, drop}
use Rattle.lab_text.specs.Fields.{digits_after}
use Rattle.lab_text.proofs.digits.number.Given as goal

abbrev pub invariant-digits : goal.invariant-digits
invariant-digits l = record {
  rest : digits_after l.number (drop l.digit-index l.text) ≡ digits_after 0 l.text;
  within : l.number ≤ l.most;
}
