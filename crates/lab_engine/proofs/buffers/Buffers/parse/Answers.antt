use Rattle.std.proofs.Common.{◌≡◌, ◌∙◌, ap, subst}
use Rattle.lab_text.specs.Line.{line_of_text, short_line}
use Rattle.lab_text.specs.ParsedLine.{Means, ParsedWithin}
use Rattle.settings.specs.Settings.{Settings}
use Rattle.lab_engine.proofs.LineResultLemmas.{short_is}
use Rattle.lab_engine.proofs.buffers.Buffers.parse.Goals as goal

pub returns : goal.returns
returns c =
    let plans = c.args.plans.now in
    let line = c.args.line.now in
    let is : short_line c.union.result.now c.count.result line ≡ line_of_text plans.union plans.count line =
    ap (λ (u : Settings). short_line u c.count.result line) c.union.ensures ∙ ap (λ n. short_line plans.union n line) c.count.ensures.value
    ∙ short_is plans.union plans.count line c.requires in
    record {
      means = subst (Means c.parse_line.result c.parse_line.new.bytes c.parse_line.new.comebacks c.parse_line.new.parts) is c.parse_line.ensures.value;
      within =
          subst (λ (u : Settings). ParsedWithin u plans.count c.parse_line.new.parts c.parse_line.result) c.union.ensures
          (subst (λ n. ParsedWithin c.union.result.now n c.parse_line.new.parts c.parse_line.result) c.count.ensures.value c.parse_line.ensures.within);
    }
