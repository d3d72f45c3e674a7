use Rattle.std.proofs.Common.{◌≡◌, ◌∙◌, List, subst}
use Rattle.std.proofs.lemmas.Result.{IfOk-weaker}
use Rattle.std.specs.Prelude.{String, string_bytes}
use Rattle.std.specs.List.{AllZip}
use Rattle.std.specs.declared.alloc.Global.{Global}
use Rattle.lease_list.specs.declared.lease.Lease.{Lease}
use Rattle.lease_list.specs.Lease.{leases_at}
use Rattle.lease_list.specs.Line.{IsLeaseLine}
use Rattle.lease_list.proofs.listing.live_lines.Goals as goal

pub returns : goal.returns
returns c =
    let part = c.args.part.now in
    let are : List _ → List Lease → List (String Global) → Type 0 =
    λ circuit leases lines. AllZip (λ lease line. IsLeaseLine circuit lease c.args.at c.args.form (string_bytes line)) leases lines in
    let circuit : c.text_of.result.now ≡ part.id = c.text_of.ensures ∙ c.id.ensures in
    let listed : c.deref.result.now ≡ leases_at c.args.at part c.args.slots.now = c.deref.ensures.value ∙ c.in_ok-found.ensures in
    IfOk-weaker c.lease_lines.result _ _
    (λ lines h. subst (λ leases. are part.id leases lines.items) listed (subst (λ id. are id c.deref.result.now lines.items) circuit h))
    c.lease_lines.ensures
