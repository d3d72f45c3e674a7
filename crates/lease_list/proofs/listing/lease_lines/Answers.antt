use Rattle.std.proofs.Common.{◌≡◌, ◌∙◌, ◌+◌, [], ◌∷◌, ◌++◌, take, sym, ap, subst, arith}
use Rattle.std.specs.Prelude.{String, string_bytes}
use Rattle.std.specs.List.{AllZip}
use Rattle.std.specs.declared.alloc.Global.{Global}
use Rattle.std.proofs.lemmas.List.{take_more}
use Rattle.std.proofs.lemmas.Slice.Zip.{all_zipped_more}
use Rattle.lease_list.specs.declared.lease.Lease.{Lease}
use Rattle.lease_list.specs.Line.{IsLeaseLine}
use Rattle.lease_list.proofs.listing.lease_lines.Goals as goal

pub loop-i-preserved : goal.loop-i-preserved
loop-i-preserved c =
    let leases = c.args.leases.now in
    let at_i = c.loop-i.i in
    let lease = c.index-leases-i.result in
    let is_line : Lease → String Global → Type 0 = λ one line. IsLeaseLine c.args.circuit.now one c.args.at c.args.form (string_bytes line) in
    let next : take at_i leases ++ lease ∷ [] ≡ take (at_i + 1) leases =
    ap (λ y. take at_i leases ++ y ∷ []) c.index-leases-i.is ∙ sym (take_more leases at_i lease (omega arith)) in
    let both = all_zipped_more is_line (take at_i leases) c.loop-i.lines.items lease c.in_ok-line.line c.loop-i.invariant c.in_ok-line.ensures in
    subst (λ xs. AllZip is_line xs c.push.new.self.items) next (subst (λ ys. AllZip is_line (take at_i leases ++ lease ∷ []) ys) (sym c.in_ok-push.ensures.items) both)
