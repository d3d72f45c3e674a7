use Rattle.std.proofs.Common.{◌≡◌, ◌≤◌, length, take, arith, ap, sym, ◌∙◌}
use Rattle.std.specs.Int.{w64, to_le_bytes}
use Rattle.std.proofs.lemmas.Slice.Eq.{bytes_eq-Decides}
use Rattle.types.specs.Key4.{padded}
use Rattle.types.proofs.Key4Lemmas.{same_short}
use Rattle.types.proofs.key4.Key4PartialEq.eq.Goals as goal

pub returns-then-bytes-le8 : goal.returns-then-bytes-le8
returns-then-bytes-le8 c =
    let xs = c.args.self.now in
    let ys = c.args.other.now in
    let whole = c.as_bytes-bytes.ensures.value in
    let few : length xs ≤ 8 = omega (arith, c.if-bytes-le8.true, ap length whole) in
    let lens : length xs ≡ length ys = omega (arith, c.if-bytes-others.false, ap length whole, ap length c.as_bytes-others.ensures.value) in
    let heads : take 8 (padded xs) ≡ take 8 (padded ys) = sym c.head.ensures ∙ ap (to_le_bytes w64) c.if-head.false ∙ c.head-else-bytes-others.ensures in
    grind (arith, c.if-bytes-le8.true, (bytes_eq-Decides xs ys).1 (same_short xs ys few lens heads))
