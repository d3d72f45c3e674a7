use Rattle.std.proofs.Common.{rules, sym, ap, ◌∙◌}
use Rattle.v6_options.specs.Reading.{listed_from}
use Rattle.v6_options.proofs.Steps.{listed_nothing}
use Rattle.v6_options.proofs.Tokens.{listed_stops}
use Rattle.v6_options.proofs.iter.IterIterator.next.Goals as goal

pub returns-in-Nothing : goal.returns-in-Nothing
returns-in-Nothing c = record {
  steps = (
    sym c.self.view_is ∙ listed_stops _ _ _ c.in-Nothing.is c.next_token.ensures,
    ap (listed_from 0) c.new-self-inside.ensures ∙ listed_nothing,
  );
  goes = search rules;
}
