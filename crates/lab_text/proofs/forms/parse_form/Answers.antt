use Rattle.std.proofs.Common.{◌≡◌, List, ℕ, sym, ap, ◌∙◌}
use Rattle.settings.specs.Settings.{Settings}
use Rattle.lab_text.specs.FieldsAfter.{texts}
use Rattle.lab_text.specs.Line.{Line, line_of_form}
use Rattle.lab_text.specs.declared.form.Form.{Form}
use Rattle.lab_text.proofs.forms.parse_form.Goals as goal

by_form : {known this : Form} (settings : Settings) (plans : ℕ) (fields : List (List ℕ)) {line : Line} → known ≡ this → line ≡ line_of_form settings plans this fields → line ≡ line_of_form settings plans known fields
by_form settings plans fields is same = same ∙ ap (λ f. line_of_form settings plans f fields) (sym is)

pub returns-in-Fill-clause-value : goal.returns-in-Fill-clause-value
returns-in-Fill-clause-value c = by_form c.args.config.now c.args.plans (texts c.args.fields.now) c.in-Fill.is (c.parse_fill.ensures.value c.args.plans c.args.bytes.now)

pub returns-in-Fill-clause-within : goal.returns-in-Fill-clause-within
returns-in-Fill-clause-within c = c.parse_fill.ensures.within c.args.plans

pub returns-in-Old-clause-value : goal.returns-in-Old-clause-value
returns-in-Old-clause-value c = by_form c.args.config.now c.args.plans (texts c.args.fields.now) c.in-Old.is (c.parse_old.ensures.value c.args.plans c.args.bytes.now)

pub returns-in-Old-clause-within : goal.returns-in-Old-clause-within
returns-in-Old-clause-within c = c.parse_old.ensures.within c.args.plans

pub returns-in-Load-clause-value : goal.returns-in-Load-clause-value
returns-in-Load-clause-value c = by_form c.args.config.now c.args.plans (texts c.args.fields.now) c.in-Load.is (c.parse_load.ensures.value c.args.plans)

pub returns-in-Load-clause-within : goal.returns-in-Load-clause-within
returns-in-Load-clause-within c = c.parse_load.ensures.within c.args.plans

pub returns-in-Move-clause-value : goal.returns-in-Move-clause-value
returns-in-Move-clause-value c = by_form c.args.config.now c.args.plans (texts c.args.fields.now) c.in-Move.is (c.parse_move.ensures.value c.args.plans c.args.bytes.now)

pub returns-in-Move-clause-within : goal.returns-in-Move-clause-within
returns-in-Move-clause-within c = c.parse_move.ensures.within c.args.plans

pub returns-in-Frame-clause-value : goal.returns-in-Frame-clause-value
returns-in-Frame-clause-value c = by_form c.args.config.now c.args.plans (texts c.args.fields.now) c.in-Frame.is (c.parse_frame.ensures.value c.args.plans)

pub returns-in-Frame-clause-within : goal.returns-in-Frame-clause-within
returns-in-Frame-clause-within c = c.parse_frame.ensures.within c.args.plans

pub returns-in-Up-clause-value : goal.returns-in-Up-clause-value
returns-in-Up-clause-value c = by_form c.args.config.now c.args.plans (texts c.args.fields.now) c.in-Up.is (c.parse_up.ensures.value c.args.plans c.args.bytes.now)

pub returns-in-Up-clause-within : goal.returns-in-Up-clause-within
returns-in-Up-clause-within c = c.parse_up.ensures.within c.args.plans

pub returns-in-Down-clause-value : goal.returns-in-Down-clause-value
returns-in-Down-clause-value c = by_form c.args.config.now c.args.plans (texts c.args.fields.now) c.in-Down.is (c.parse_down.ensures.value c.args.plans c.args.bytes.now)

pub returns-in-Down-clause-within : goal.returns-in-Down-clause-within
returns-in-Down-clause-within c = c.parse_down.ensures.within c.args.plans

pub returns-in-Tick-clause-value : goal.returns-in-Tick-clause-value
returns-in-Tick-clause-value c = by_form c.args.config.now c.args.plans (texts c.args.fields.now) c.in-Tick.is (c.parse_tick.ensures.value c.args.config.now c.args.plans c.args.bytes.now)

pub returns-in-Tick-clause-within : goal.returns-in-Tick-clause-within
returns-in-Tick-clause-within c = c.parse_tick.ensures.within c.args.config.now c.args.plans

pub returns-in-Reload-clause-value : goal.returns-in-Reload-clause-value
returns-in-Reload-clause-value c = by_form c.args.config.now c.args.plans (texts c.args.fields.now) c.in-Reload.is (c.parse_reload.ensures.value c.args.config.now c.args.bytes.now)

pub returns-in-Reload-clause-within : goal.returns-in-Reload-clause-within
returns-in-Reload-clause-within c = c.parse_reload.ensures.within c.args.config.now

pub returns-in-StrayUp-clause-value : goal.returns-in-StrayUp-clause-value
returns-in-StrayUp-clause-value c = by_form c.args.config.now c.args.plans (texts c.args.fields.now) c.in-StrayUp.is (c.parse_stray_up.ensures.value c.args.plans)

pub returns-in-StrayUp-clause-within : goal.returns-in-StrayUp-clause-within
returns-in-StrayUp-clause-within c = c.parse_stray_up.ensures.within c.args.plans

pub returns-in-StrayDown-clause-value : goal.returns-in-StrayDown-clause-value
returns-in-StrayDown-clause-value c = by_form c.args.config.now c.args.plans (texts c.args.fields.now) c.in-StrayDown.is (c.parse_stray_down.ensures.value c.args.plans)

pub returns-in-StrayDown-clause-within : goal.returns-in-StrayDown-clause-within
returns-in-StrayDown-clause-within c = c.parse_stray_down.ensures.within c.args.plans
