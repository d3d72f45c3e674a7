use Rattle.std.proofs.Common.{All, ◌<◌, ◌≡◌, List, length, refl, sym, ap, subst, ◌∙◌}
use Rattle.std.specs.Prelude.{Some, slice_get}
use Rattle.dispatch.specs.Regions.{KeepsOthers}
use Rattle.events.specs.declared.event.Event.{Event}
use Rattle.events.specs.declared.event.Event.TheVariants as events
use Rattle.events.specs.declared.outcome.Outcome.TheVariants as outcome
use Rattle.lease_disk.specs.Model as disk
use Rattle.lossy_net.specs.Net.{datagrams}
use Rattle.lossy_net.specs.declared.dir.Dir.TheVariants as dir
use Rattle.world.specs.Batch.{AreServed, downs_after, outcome_for}
use Rattle.world.specs.Headline.{Steps}
use Rattle.world.specs.World.{WorldValue, states}
use Rattle.world.specs.declared.world.batch.Waiting.{Waiting}
use Rattle.world.proofs.BatchSteps.{IsTakenBatch, all_parts, batch_spares, batch_steps, batch_world, have_circuits, have_regions}
use Rattle.world.proofs.world.World.batch.Goals as goal

pub serve_all-requires-clause-exist : goal.serve_all-requires-clause-exist
serve_all-requires-clause-exist c =
    let w : WorldValue = record { relays = c.self.inside.relays; net = c.self.inside.net; server = c.self.inside.server; disk = c.self.inside.disk } in
    let P : List Waiting → Type 0 = λ ws. All (λ (x : Waiting). x.region < length w.disk.regions) ws in
    subst P (sym (c.as_slice-waiting.ensures.value ∙ c.all_waiting-waiting.ensures.value)) (have_regions w c.self.invariant c.args.sync c.args.parts.now)

pub send_all-requires : goal.send_all-requires
send_all-requires c =
    let w : WorldValue = record { relays = c.self.inside.relays; net = c.self.inside.net; server = c.self.inside.server; disk = c.self.inside.disk } in
    let P : List Waiting → Type 0 = λ ws. All (λ (x : Waiting). x.circuit < length w.net.circuits) ws in
    record { exist = subst P (sym (c.as_slice-waiting.ensures.value ∙ c.all_waiting-waiting.ensures.value)) (have_circuits w c.self.invariant c.args.sync c.args.parts.now) }

-- before, and after
abbrev old_world : goal.After-outcomes_of → WorldValue
old_world c = record { relays = c.self.inside.relays; net = c.self.inside.net; server = c.self.inside.server; disk = c.self.inside.disk }

abbrev new_world : goal.After-outcomes_of → WorldValue
new_world c = record { relays = c.self.inside.relays; net = c.send_all.new.net; server = c.serve_all.new.server; disk = c.serve_all.new.disk }

known : (c : goal.After-outcomes_of) → IsTakenBatch (old_world c) (new_world c) c.args.sync c.args.now c.args.parts.now c.outcomes_of.result
known c =
    let w = old_world c in
    let new = new_world c in
    let given = c.serve_all.new.answers.answers in
    let items = c.all_waiting-waiting.ensures.value in
    let same : c.as_slice-waiting.result.now ≡ all_parts w c.self.invariant c.args.sync c.args.parts.now = c.as_slice-waiting.ensures.value ∙ items in
    record {
      is = c.self.invariant;
      batch = sym c.is_batch.ensures ∙ c.if-not-is_batch.false;
      answers = given;
      served = subst (λ ws. AreServed c.args.now ws w.net w.server new.server w.disk new.disk given) same c.serve_all.ensures;
      relays = refl;
      circuits = c.send_all.ensures.circuits;
      quota = c.send_all.ensures.quota;
      ups = c.send_all.ensures.ups;
      downs = λ n. c.send_all.ensures.downs n ∙ ap (λ ws. downs_after w.net.quota ws given n (datagrams w.net n dir.Down)) same;
      outcomes_are = λ i p at. c.outcomes_of.ensures.value i p at ∙ ap (λ ws. Some (Some (outcome_for p.circuit ws given))) same;
      past_are = c.outcomes_of.ensures.past;
      bytes = λ j x at. c.all_waiting-waiting.ensures.bytes j x (ap (λ ws. slice_get ws j) items ∙ at);
      law = c.meets_each_fault.ensures;
      comes = c.reply_comes_to_its_circuit.ensures;
    }

pub invariant_of-self : goal.invariant_of-self
invariant_of-self c = batch_world (old_world c) (new_world c) c.args.sync c.args.now c.args.parts.now c.outcomes_of.result (known c)

pub returns-clause-steps : goal.returns-clause-steps
returns-clause-steps c =
    let P : WorldValue → Type 0 = λ v. (e : Event) → e ≡ events.Batch c.args.now c.args.sync c.args.parts → Steps e (states v) (states (new_world c)) (outcome.Batched c.outcomes_of.result) c.clear.new.self in
    subst P c.self.view_is (batch_steps (old_world c) (new_world c) c.args.sync c.args.now c.args.parts.now c.outcomes_of.result (known c) c.args.parts c.clear.new.self refl c.clear.ensures)

pub returns-clause-others : goal.returns-clause-others
returns-clause-others c =
    let P : WorldValue → Type 0 = λ v. KeepsOthers v.relays.topology.circuits (disk.device_of v.disk) (disk.device_of c.serve_all.new.disk) in
    subst P c.self.view_is (batch_spares (old_world c) (new_world c) c.args.sync c.args.now c.args.parts.now c.outcomes_of.result (known c))
