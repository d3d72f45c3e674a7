use Rattle.std.proofs.Common.{◌≡◌, ℕ, List, ◌++◌, append_assoc, take, arith}
use Rattle.types.specs.Kind4.{code_of_kind}
use Rattle.v4_options.specs.Spelling.{spelling, look_up}
use Rattle.v4_options.proofs.Left.{spelling-append}
use Rattle.replies.specs.Reply4.{echo, lease_options, name_servers}
use Rattle.replies.proofs.reply4.put_lease_options.Goals as goal

-- Three lists of options, appended one after the other.
parts-append : (out : List ℕ) (fixed servers agent : List (ℕ × List ℕ))
    → ((out ++ spelling fixed) ++ spelling servers) ++ spelling agent ≡ out ++ spelling (fixed ++ (servers ++ agent))
parts-append out fixed servers agent = rw (spelling-append fixed (servers ++ agent)) (rw (spelling-append servers agent) (simp append_assoc))

pub returns-clause-bytes : goal.returns-clause-bytes
returns-clause-bytes c =
    let p = c.args.part.now in
    let m = c.args.request.now in
    let fixed = take 7 (lease_options (code_of_kind c.args.kind) p m) in
    let front : c.extend.new.self ≡ c.args.out.now ++ spelling fixed = grind (arith, c.lease_option_bytes.ensures m) in
    simp (c.put_echo.ensures.bytes, c.put_name_servers.ensures.bytes, front) (parts-append c.args.out.now fixed (name_servers p.dns) (echo (look_up 82 m.options)))
