use Rattle.std.proofs.Common.{true, false, sym, subst, ap, ◌∙◌, arith}
use Rattle.std.specs.Prelude.{option_map, slice_index_or}
use Rattle.std.proofs.lemmas.List.{length-set}
use Rattle.lab_text.specs.FieldsAfter.{fields_after}
use Rattle.lab_text.proofs.RestartLemmas.{NamedSoFar, named_none, all_named, names_nothing, names_again, names_at}
use Rattle.lab_text.proofs.parse_line.parse_restart.Goals as goal

pub fields-init : goal.fields-init
fields-init c = record {
  marks = search;
  places = omega (arith, c.clear_comebacks.auto.comebacks, c.told-comebacks);
  so_far = named_none c.args.config.now _ c.clear_names.new.named c.clear_comebacks.new.comebacks c.clear_names.ensures c.clear_comebacks.ensures;
}

pub returns-in_default-named_comeback : goal.returns-in_default-named_comeback
returns-in_default-named_comeback c =
    names_nothing c.args.config.now _ (fields_after (option_map (λ line. line.now) c.in-Some.after)) c.in-Some.field.now c.fields.named c.fields.comebacks c.in_default-named_comeback.ensures.value
    (subst (λ left. NamedSoFar c.args.config.now (fields_after (option_map (λ line. line.now) c.args.rest)) left c.fields.named c.fields.comebacks) c.in-Some.ensures c.fields.invariant.so_far)

pub returns-then-named-index : goal.returns-then-named-index
returns-then-named-index c =
    names_again c.args.config.now _ (fields_after (option_map (λ line. line.now) c.in-Some.after)) c.in-Some.field.now c.fields.named c.fields.comebacks _
    c.in-Some-named_comeback.ensures.value
    (ap (λ i. slice_index_or c.fields.named i false) (sym c.index-index.ensures.value) ∙ c.if-named-index.true)
    (subst (λ left. NamedSoFar c.args.config.now (fields_after (option_map (λ line. line.now) c.args.rest)) left c.fields.named c.fields.comebacks) c.in-Some.ensures c.fields.invariant.so_far)

pub returns : goal.returns
returns c = all_named c.args.config.now _ _ c.fields.named c.fields.comebacks c.in_default.ensures c.fields.invariant.so_far

pub fields-preserved : goal.fields-preserved
fields-preserved c =
    let marks = c.fields.named in
    let comebacks = c.fields.comebacks in
    record {
      marks = length-set marks c.index-index.result true ∙ c.fields.invariant.marks;
      places = length-set comebacks c.index-index.result _ ∙ c.fields.invariant.places;
      so_far =
          names_at c.args.config.now _ (fields_after (option_map (λ line. line.now) c.in-Some.after)) c.in-Some.field.now marks comebacks _ c.index-index.result c.index-index.ensures.value
          c.in-Some-named_comeback.ensures.value c.if-named-index.false
          (omega (arith, c.index-index.ensures.within, c.fields.invariant.marks)) (omega (arith, c.index-index.ensures.within, c.fields.invariant.places))
          (subst (λ left. NamedSoFar c.args.config.now (fields_after (option_map (λ line. line.now) c.args.rest)) left marks comebacks) c.in-Some.ensures c.fields.invariant.so_far);
    }
