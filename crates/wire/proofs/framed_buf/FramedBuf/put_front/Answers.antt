use Rattle.std.proofs.Common.{List, ℕ, ◌-◌, ◌≤◌, length, take, drop, arith, ap, ◌∙◌}
use borrow.Rule.Slice.PartMut.{put_mid}
use Rattle.wire.specs.Framed.{FramedValue}
use Rattle.wire.proofs.FramedLemmas.{front_is, datagram_is}
use Rattle.wire.proofs.framed_buf.FramedBuf.put_front.Goals as goal

pub returns : goal.returns
returns c =
    let b = c.self.inside in
    let xs = c.args.front.now in
    let fits : 16 ≤ length b.bytes = omega (arith, c.self.told) in
    let start = 16 - length xs in
    let front = ap (λ (w : List ℕ). drop start (take 16 (put_mid start (16 - start) b.bytes w))) c.copy_from_slice.ensures.after ∙ front_is b.bytes xs (16 - start) c.requires fits in
    let datagram = ap (λ (w : List ℕ). take b.len (drop 16 (put_mid start (16 - start) b.bytes w))) c.copy_from_slice.ensures.after
    ∙ datagram_is b.bytes xs (16 - start) b.len c.requires fits (omega (arith, c.requires)) ∙ ap (λ (v : FramedValue). v.datagram) c.self.view_is in
    λ i. record { front = front i; datagram = datagram i }
