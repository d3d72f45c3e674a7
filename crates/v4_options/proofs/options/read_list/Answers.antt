use Rattle.std.proofs.Common.{◌≡◌, ◌+◌, ◌-◌, ℕ, Bool, [], ◌∷◌, length, Option, refl, ap, ◌∙◌, arith}
use Rattle.std.proofs.lemmas.List.{length-append}
use Rattle.v4_options.specs.Codes.{PAD}
use Rattle.v4_options.specs.Places.{ArePlaced}
use Rattle.v4_options.specs.Reading.{fault_from, listed_from, read_or}
use Rattle.v4_options.specs.declared.fault.OptFault.{OptFault}
use Rattle.v4_options.specs.declared.token.Syntax.TheVariants as syntax
use Rattle.v4_options.specs.declared.token.Token.TheVariants.{Whole}
use Rattle.v4_options.specs.Spelling.{option}
use Rattle.v4_options.proofs.Heads.{more_read, none_read}
use Rattle.v4_options.proofs.Standing.{further, stands}
use Rattle.v4_options.proofs.Tokens.{fault_is, listed_is}
use Rattle.v4_options.proofs.options.read_list.Goals as goal

pub row-init : goal.row-init
row-init c = record {
  faults = rw (c.new-seen.ensures, c.new-left.ensures) refl;
  places = rw c.new-left.ensures (c.none-places.ensures.all c.args.bytes.now _);
  front = λ none. none_read c.none-places.result.agent c.args.bytes.now c.new-left.result c.none-places.ensures.agent c.new-left.ensures;
  at = ([], c.new-left.ensures);
}

pub returns-in-Nothing : goal.returns-in-Nothing
returns-in-Nothing c = ap (λ (found : Option OptFault). read_or found c.args.bytes.now) (rw (fault_is _ _ _ _ _ c.in-Nothing.ensures) at c.row.invariant.faults)

pub row-preserved-in-Pad : goal.row-preserved-in-Pad
row-preserved-in-Pad c = record {
  faults = rw (fault_is _ _ _ _ _ c.in-Pad.ensures) at c.row.invariant.faults;
  places = rw (listed_is _ _ _ _ c.in-Pad.ensures) at c.row.invariant.places;
  front = λ none. absurd cc;
  at = further c.args.bytes.now c.row.left (PAD ∷ []) c.next_token.new.left c.row.invariant.at c.in-Pad.ensures.here.0;
}

pub invariant_of-result : goal.invariant_of-result
invariant_of-result c =
    let at = c.row.invariant.at in (
      rw (listed_is _ _ _ _ c.in-End.ensures) at c.row.invariant.places,
      c.front_of.ensures c.row.left c.row.invariant.front (listed_is _ _ _ _ c.in-End.ensures)
          (omega (arith, ap length at.1, length-append at.0 c.row.left, ap length c.in-End.ensures.here.0, ap length c.rest.ensures)),
    )

pub returns-in-End : goal.returns-in-End
returns-in-End c = ap (λ (found : Option OptFault). read_or found c.args.bytes.now) (rw (fault_is _ _ _ _ _ c.in-End.ensures) at c.row.invariant.faults)

pub returns-in-Cut : goal.returns-in-Cut
returns-in-Cut c = ap (λ (found : Option OptFault). read_or found c.args.bytes.now) (rw (fault_is _ _ _ _ _ c.in-Cut.ensures) at c.row.invariant.faults)

pub returns-in-Whole : goal.returns-in-Whole
returns-in-Whole c = ap (λ (found : Option OptFault). read_or found c.args.bytes.now) (rw (fault_is _ _ _ _ _ c.in-Whole.ensures, ← c.has.ensures, c.if-has.true) at c.row.invariant.faults)

pub row-preserved : goal.row-preserved
row-preserved c =
    let e = rw (fault_is _ _ _ _ _ c.in-Whole.ensures, ← c.has.ensures, c.if-has.false) at c.row.invariant.faults in
    let rest = listed_from syntax.Options 0 c.next_token.new.left in
    let whole = listed_from syntax.Options 0 c.args.bytes.now in
    let before : ArePlaced c.args.bytes.now c.row.places ((c.in-Whole.code, c.in-Whole.field-1.now) ∷ rest) whole =
    rw (listed_is _ (Whole c.in-Whole.code c.in-Whole.field-1) _ _ c.in-Whole.ensures) at c.row.invariant.places in
    let here = c.in-Whole.ensures.here.0 in
    let value = c.in-Whole.field-1.now in
    let at = c.row.invariant.at in
    let lengths : length c.args.bytes.now ≡ length at.0 + (length value + 2 + length c.next_token.new.left) =
    omega (arith, ap length at.1, length-append at.0 c.row.left, ap length here, length-append (option c.in-Whole.code value) c.next_token.new.left) in
    let count : ((length c.args.bytes.now - length c.rest-in-Whole-2.result.now) - length value - 1) + (length value + 1 + length c.next_token.new.left) ≡ length c.args.bytes.now =
    omega (arith, lengths, ap length c.rest-in-Whole-2.ensures) in
    let stood = stands c.args.bytes.now at.0 c.row.left value c.next_token.new.left c.in-Whole.code _ at.1 here count in
    record {
      faults = ap (λ (seen : ℕ → Bool). fault_from syntax.Options seen 0 c.next_token.new.left) c.add.ensures ∙ e;
      places = c.add-in-Whole-2.ensures.all c.args.bytes.now value rest whole stood.0 stood.1 before;
      front = λ none. rw c.add-in-Whole-2.ensures.agent (more_read c.args.bytes.now at.0 c.row.left c.next_token.new.left value c.in-Whole.code _ c.row.places.agent
          (record { whole = at.1; here = here; listed = listed_is _ (Whole c.in-Whole.code c.in-Whole.field-1) _ _ c.in-Whole.ensures; count = count; first = stood.2 }) (c.row.invariant.front none));
      at = further c.args.bytes.now c.row.left (option c.in-Whole.code value) c.next_token.new.left at here;
    }
