use Rattle.std.proofs.Common.{◌≡◌, List, ℕ, ◌-◌, ◌+◌, ◌*◌, length, set, ap, ap₂, ◌∙◌, arith}
use Rattle.std.proofs.lemmas.List.{with_items_is}
use Rattle.std.specs.Vec.{with_items}
use borrow.Rule.Slice.PartMut.{put_mid}
use Rattle.lossy_net.specs.Net.{Datagram}
use Rattle.lossy_net.specs.Places.{datagrams_in}
use Rattle.lossy_net.specs.declared.packets.Head.{Head}
use Rattle.lossy_net.proofs.Places.{head_there, within_rows, length-written, datagrams_in-set}
use Rattle.lossy_net.proofs.packets.Packets.replace.Goals as goal

pub index_mut-requires : goal.index_mut-requires
index_mut-requires c = (within_rows c.self.inside _ _ c.self.view_is c.requires.place c.self.invariant).0

pub overflow_mul-start : goal.overflow_mul-start
overflow_mul-start c = omega (arith, (within_rows c.self.inside _ _ c.self.view_is c.requires.place c.self.invariant).1)

pub overflow_add-start : goal.overflow_add-start
overflow_add-start c = omega (arith, (within_rows c.self.inside _ _ c.self.view_is c.requires.place c.self.invariant).1)

pub slice_bounds-copy_from_slice-end : goal.slice_bounds-copy_from_slice-end
slice_bounds-copy_from_slice-end c = omega (arith, (within_rows c.self.inside _ _ c.self.view_is c.requires.place c.self.invariant).1)

pub returns : goal.returns
returns c =
    let n = c.self.inside in
    let low = head_there n _ _ c.self.view_is c.requires.place in
    let start = c.args.place * 1280 in
    let k = start + length c.args.bytes.now - start in
    let x = c.args.bytes.now in
    let head : Head = record { proto = c.args.proto; len = length x } in
    let heads = set n.heads.items c.args.place head in
    let over : k ≡ length x = omega arith in
    let whole = length-written n c.args.place k x c.self.invariant low over c.requires.fits in
    let written : (with_items n.bytes (put_mid start k c.deref_mut.result.now c.copy_from_slice.new.self)).items ≡ put_mid start k n.bytes.items x =
    ap₂ (λ (was now : List ℕ). (with_items n.bytes (put_mid start k was now)).items) c.deref_mut.ensures.value c.copy_from_slice.ensures.after
    ∙ with_items_is n.bytes (put_mid start k n.bytes.items x) (omega (arith, whole, n.bytes.ok.0)) in
    ap (datagrams_in 1280 heads) written
    ∙ datagrams_in-set 1280 n.heads.items n.bytes.items c.args.place head x k low c.self.invariant.bytes c.self.invariant.each (λ _. length x) c.requires.fits over
    ∙ ap (λ (list : List Datagram). set list c.args.place (record { proto = c.args.proto; bytes = x })) c.self.view_is
