use Rattle.std.proofs.Common.{◌≡◌, take, ap, ◌∙◌}
use Rattle.v4_options.specs.Codes.{END, RELAY_AGENT_INFORMATION}
use Rattle.v4_options.specs.Reading.{listed_from}
use Rattle.v4_options.specs.Spelling.{spelling, without}
use Rattle.v4_options.specs.declared.token.Syntax.TheVariants as syntax
use Rattle.v4_options.proofs.Ends.{none_ends}
use Rattle.v4_options.proofs.Heads.{all_stay, not_placed}
use Rattle.v4_options.proofs.options.Options.write.Goals as goal

pub returns-clause-full : goal.returns-clause-full
returns-clause-full c =
    let bytes = c.self.inside.bytes.now in
    let stay = all_stay RELAY_AGENT_INFORMATION (listed_from syntax.Options 0 bytes) (not_placed bytes c.self.inside.places.agent _ c.if-self-eq0.true c.self.invariant.0.agent.found) in
    let head : take c.in-Some.len bytes ≡ spelling c.args.self.now = (rw c.in-Some.is at c.self.invariant.1).1 ∙ ap spelling stay ∙ ap spelling c.self.view_is in
    rw head at c.append.ensures.full

pub returns-clause-ok : goal.returns-clause-ok
returns-clause-ok c =
    let bytes = c.self.inside.bytes.now in
    let stay = all_stay RELAY_AGENT_INFORMATION (listed_from syntax.Options 0 bytes) (not_placed bytes c.self.inside.places.agent _ c.if-self-eq0.true c.self.invariant.0.agent.found) in
    let head : take c.in-Some.len bytes ≡ spelling c.args.self.now = (rw c.in-Some.is at c.self.invariant.1).1 ∙ ap spelling stay ∙ ap spelling c.self.view_is in
    rw head at c.append.ensures.ok

pub returns-2-clause-full : goal.returns-2-clause-full
returns-2-clause-full c =
    let all : without END (listed_from syntax.Options 0 c.self.inside.bytes.now) ≡ c.args.self.now = none_ends 0 c.self.inside.bytes.now ∙ c.self.view_is in
    rw all at c.write_rows.ensures.full

pub returns-2-clause-ok : goal.returns-2-clause-ok
returns-2-clause-ok c =
    let all : without END (listed_from syntax.Options 0 c.self.inside.bytes.now) ≡ c.args.self.now = none_ends 0 c.self.inside.bytes.now ∙ c.self.view_is in
    rw all at c.write_rows.ensures.ok
