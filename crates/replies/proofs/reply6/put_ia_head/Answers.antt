use Rattle.std.proofs.Common.{◌≡◌, ℕ, List, ◌++◌, ap, ◌∙◌, arith, rules, append_assoc}
use Rattle.v6_message.specs.Ia.{ia_header}
use Rattle.replies.proofs.reply6.put_ia_head.Goals as goal

pub returns-clause-bytes : goal.returns-clause-bytes
returns-clause-bytes c = λ options size.
    let numbers = ia_header c.args.iaid c.args.t1 c.args.t2 in
    let written : c.write.new.out ≡ c.put_head.new.out ++ numbers = search rules in
    ap (λ (t : List ℕ). t ++ options) written ∙ append_assoc c.put_head.new.out numbers options ∙ c.put_head.ensures.bytes (numbers ++ options) (omega arith)
