use Rattle.std.proofs.Common.{◌≡◌, ◌≤◌, ℕ, ◌-◌, ◌++◌, ◌∙◌, List, replicate, take, ap, arith, length}
use Rattle.std.proofs.lemmas.List.{take-replicate}
use Rattle.std.proofs.lemmas.Result.{on_ok_weaker}
use Rattle.wire.proofs.packet_buf.PacketBuf.pad_to.Goals as goal

pub returns-clause-ok : goal.returns-clause-ok
returns-clause-ok c =
    let missing : c.saturating_sub-missing.result ≡ c.args.n - length c.args.self.now = omega arith in
    let fits : c.args.n - length c.args.self.now ≤ 1280 = omega arith in
    on_ok_weaker c.extend.result (λ e. e ∙ ap (λ (n : ℕ). c.args.self.now ++ take n (replicate 1280 0)) missing ∙ ap (λ (t : List ℕ). c.args.self.now ++ t) (take-replicate (c.args.n - length c.args.self.now) 1280 0 fits)) c.extend.ensures.ok
