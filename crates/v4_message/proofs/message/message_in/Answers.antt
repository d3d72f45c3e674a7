use Rattle.std.proofs.Common.{◌≡◌, Bool, true, false, not, arith, refl, sym, ◌∙◌}
use Rattle.types.specs.Kind4.{code_of_kind}
use Rattle.v4_options.specs.Codes.{MESSAGE_TYPE}
use Rattle.v4_options.specs.Spelling.{look_up}
use Rattle.v4_message.proofs.Decisions.{cookie, ethernet, op, allowed, kind_found}
use Rattle.v4_message.proofs.message.message_in.Goals as goal

true_of_not : (b : Bool) → not b ≡ false → b ≡ true
true_of_not true e = refl
true_of_not false e = sym e

pub invariant_of-result : goal.invariant_of-result
invariant_of-result c =
    let are_allowed = true_of_not _ c.if-not-check.false in
    let told = rw c.in-Some.is at c.check_options-check.ensures.kind in
    let found = kind_found (look_up MESSAGE_TYPE c.in-Ok.options) (code_of_kind c.in-Some.kind) (sym told) in
    record {
      fits = record { each = λ i. omega (arith, c.type_inv.bytes i) };
      long = omega arith;
      cookie = (cookie c.args.bytes.now).0 (sym c.has_cookie.ensures ∙ c.if-not-has_cookie.false);
      ethernet = (ethernet c.args.bytes.now).0 (sym c.is_ethernet.ensures ∙ c.if-not-is_ethernet.false);
      valid = record {
        op = (op _).0 (sym c.is_op.ensures ∙ c.if-not-is_op.false);
        kind = found.0;
        allowed = (allowed c.in-Ok.options).0 (sym c.check_options-check.ensures.allowed ∙ are_allowed);
      };
      kind_is = found.1;
    }
