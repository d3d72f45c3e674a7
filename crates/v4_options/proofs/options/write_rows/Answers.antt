use Rattle.std.proofs.Common.{◌≡◌, ◌≤◌, ◌+◌, ◌-◌, ℕ, List, ◌++◌, length, take, refl, sym, ap, ◌∙◌, append_assoc, append-nil, arith}
use Rattle.std.proofs.lemmas.Grind.{common_steps}
use Rattle.std.proofs.lemmas.List.{length-append}
use Rattle.v4_options.specs.Reading.{listed_from}
use Rattle.v4_options.specs.Spelling.{spelling, option, without}
use Rattle.v4_options.specs.declared.token.Syntax.TheVariants as syntax
use Rattle.v4_options.proofs.Rows.{left_away, longer_all, longer_row, shorter}
use Rattle.v4_options.proofs.Tokens.{listed_is, listed_stops}
use Rattle.v4_options.proofs.options.write_rows.Goals as goal
use Rattle.v4_options.proofs.options.write_rows.Goals.{in-Whole+else-code-left_out, in-Pad}

pub returns : goal.returns
returns c =
    let inv = c.row.invariant in
    let ends = listed_stops _ _ _ _ c.in-Nothing.is c.next_token.ensures in
    let same = ap (λ (l : List ℕ). c.row.out ++ l) (sym (append-nil (take c.row.len c.row.front.now))) ∙ ap (λ (os : List (ℕ × List ℕ)). c.row.out ++ (take c.row.len c.row.front.now ++ spelling (without c.args.left_out os))) (sym ends) ∙ inv.all in
    let lengths = sym (length-append c.row.out (take c.row.len c.row.front.now)) ∙ ap length same ∙ length-append _ _ in
    record {
      full = rw lengths at c.append-2.ensures.full;
      ok = rw same at c.append-2.ensures.ok;
      err = c.append-2.ensures.err;
    }

-- The bytes to come, once a row is written and what follows it is left out.
gap_all : (out written front left new target : List ℕ) (lo len : ℕ) → written ≡ out ++ take len front
    → without lo (listed_from syntax.Options 0 left) ≡ without lo (listed_from syntax.Options 0 new)
    → out ++ (take len front ++ spelling (without lo (listed_from syntax.Options 0 left))) ≡ target
    → written ++ spelling (without lo (listed_from syntax.Options 0 new)) ≡ target
gap_all out written front left new target lo len written_is gone all =
    ap (λ (l : List ℕ). l ++ spelling (without lo (listed_from syntax.Options 0 new))) written_is ∙ append_assoc out (take len front) (spelling (without lo (listed_from syntax.Options 0 new)))
    ∙ ap (λ (os : List (ℕ × List ℕ)). out ++ (take len front ++ spelling os)) (sym gone) ∙ all

-- A row is no longer than all that is to come.
row_fits : (out start row rest whole : List ℕ) → out ++ (row ++ rest) ≡ start ++ whole → length out + length row ≤ length start + length whole
row_fits out start row rest whole e = omega (arith, ap length e, length-append out (row ++ rest), length-append row rest, length-append start whole)

pub row-preserved-in-Whole : goal.row-preserved-in-Whole
row-preserved-in-Whole c =
    let inv = c.row.invariant in
    let o = option c.in-Whole.code c.in-Whole.field-1.now in
    let here : c.row.left ≡ o ++ c.next_token.new.left = c.in-Whole.ensures.here.0 in
    let less = shorter c.row.front.now c.row.left o c.next_token.new.left c.row.len inv.row here in
    let m_is : (length c.row.front.now - length c.rest.result.now) + length c.next_token.new.left ≡ length c.row.front.now = omega (arith, less, ap length c.rest.ensures) in
    record {
      row = longer_row c.row.front.now c.row.left o c.next_token.new.left c.row.len (length c.row.front.now - length c.rest.result.now) inv.row here m_is;
      within = omega (arith, less, ap length c.rest.ensures);
      all = longer_all c.row.out c.row.front.now c.row.left c.next_token.new.left (c.args.out.now ++ spelling (without c.args.left_out (listed_from syntax.Options 0 c.args.bytes.now))) c.args.left_out c.in-Whole.code c.in-Whole.field-1.now c.row.len (length c.row.front.now - length c.rest.result.now)
          inv.row here m_is c.if-code-left_out.true (listed_is _ _ _ _ c.in-Whole.ensures) inv.all;
      fits = inv.fits;
    }

pub row-preserved : goal.row-preserved
row-preserved c =
    let inv = c.row.invariant in
    let lo = c.args.left_out in
    let gone : without lo (listed_from syntax.Options 0 c.row.left) ≡ without lo (listed_from syntax.Options 0 c.next_token.new.left) =
    elim c.match-next_token.branch [
      | in-Whole+else-code-left_out w ↦ ap (λ (os : List (ℕ × List ℕ)). without lo os) (listed_is _ _ _ _ w.in-Whole.ensures) ∙ left_away lo w.in-Whole.code w.in-Whole.field-1.now (listed_from syntax.Options 0 c.next_token.new.left) w.if-code-left_out.false
      | in-Pad w ↦ ap (λ (os : List (ℕ × List ℕ)). without lo os) (listed_is _ _ _ _ w.in-Pad.ensures)
    ] in
    let written_is : c.append.new.out ≡ c.row.out ++ take c.row.len c.row.front.now = c.in_ok-append.ensures.ok in
    record {
      row = sym c.rest-front.ensures;
      within = omega arith;
      all = gap_all c.row.out c.append.new.out c.row.front.now c.row.left c.next_token.new.left (c.args.out.now ++ spelling (without lo (listed_from syntax.Options 0 c.args.bytes.now))) lo c.row.len written_is gone inv.all;
      fits = omega (arith, ap length written_is, length-append c.row.out (take c.row.len c.row.front.now), c.in_ok-append.ensures.full.0 refl);
    }

pub returns-in_err-append-clause-full : goal.returns-in_err-append-clause-full
returns-in_err-append-clause-full c =
    let inv = c.row.invariant in
    let more = row_fits c.row.out c.args.out.now (take c.row.len c.row.front.now) _ _ inv.all in
    grind (arith, common_steps, more, c.in_err-append.ensures.full)
