use Rattle.std.proofs.Common.{rules, sym, ap, ◌∙◌}
use Rattle.v4_options.specs.Reading.{listed_from}
use Rattle.v4_options.proofs.Steps.{listed_nothing}
use Rattle.v4_options.proofs.Tokens.{listed_stops}
use Rattle.v4_options.proofs.iter.IterIterator.next.Goals as goal

pub returns : goal.returns
returns c = record {
  steps = (
    sym c.row.invariant ∙ listed_stops _ _ _ _ c.in-Nothing.is c.next_token.ensures,
    ap (listed_from c.row.self-inside.syntax 0) c.new-self-inside.ensures ∙ listed_nothing _,
  );
  goes = search rules;
}
