use Rattle.std.proofs.Common.{ℕ, List, ◌++◌, codes}
use Rattle.hex.specs.Hex.{encode_lower}
use Rattle.lab_engine.specs.Output.{dotted}
use Rattle.streams.proofs.WriteLemmas.{front_longer, front_behind, ok_behind, err_behind}
use Rattle.lab_engine.proofs.output.write_unicast.Goals as goal

abbrev heading : List ℕ → List ℕ → List ℕ
heading id chaddr = codes "to " ++ (id ++ (codes " unicast " ++ (encode_lower chaddr ++ codes " ")))

abbrev end : List ℕ → List ℕ
end frame = codes " " ++ (frame ++ codes "\n")

pub returns-in-Err-clause-err : goal.returns-in-Err-clause-err
returns-in-Err-clause-err g c = front_longer _ _ (heading c.args.id.now c.args.chaddr) (dotted c.args.yiaddr.0 ++ end c.args.frame.now) c.in-Err.ensures.err

pub returns-in-Err-write_dotted-clause-err : goal.returns-in-Err-write_dotted-clause-err
returns-in-Err-write_dotted-clause-err g c =
    front_behind _ _ _ (heading c.args.id.now c.args.chaddr) (dotted c.args.yiaddr.0 ++ end c.args.frame.now) c.in_default.ensures.ok
    (front_longer _ _ (dotted c.args.yiaddr.0) (end c.args.frame.now) c.in-Err-write_dotted.ensures.err)

pub returns-clause-ok : goal.returns-clause-ok
returns-clause-ok g c =
    ok_behind c.write_parts.result _ _ _ (heading c.args.id.now c.args.chaddr) (dotted c.args.yiaddr.0 ++ end c.args.frame.now) c.in_default.ensures.ok
    (ok_behind c.write_parts.result _ _ _ (dotted c.args.yiaddr.0) (end c.args.frame.now) c.in_default-write_dotted.ensures.ok c.write_parts.ensures.ok)

pub returns-clause-err : goal.returns-clause-err
returns-clause-err g c =
    err_behind c.write_parts.result _ _ _ (heading c.args.id.now c.args.chaddr) (dotted c.args.yiaddr.0 ++ end c.args.frame.now) c.in_default.ensures.ok
    (err_behind c.write_parts.result _ _ _ (dotted c.args.yiaddr.0) (end c.args.frame.now) c.in_default-write_dotted.ensures.ok c.write_parts.ensures.err)
