use Rattle.std.proofs.Common.{◌≡◌, length, take_all, subst, ◌∙◌, arith}
use Rattle.std.specs.Prelude.{All}
use Rattle.std.proofs.lemmas.List.Elements.{All-more}
use Rattle.types.specs.declared.addr.Addr6.{Addr6}
use Rattle.replies.specs.Reply6.{address_option}
use Rattle.replies.proofs.Addresses6.{next, last}
use Rattle.replies.proofs.reply6.put_addresses.Goals as goal

abbrev Whole : Addr6 → Type 0
Whole a = length a.0 ≡ 16

pub loop-address-preserved : goal.loop-address-preserved
loop-address-preserved c =
    let items = c.as_slice-address-items.result.now in
    record {
      bytes = c.put_address.ensures.bytes ∙ next c.args.out.now c.loop-address.out items c.loop-address.address-index _ c.loop-address-test.true c.loop-address.invariant.bytes;
      len = omega (arith, c.put_address.ensures.len, c.loop-address.invariant.len);
      whole = All-more Whole items c.loop-address.address-index _ c.loop-address-test.true c.loop-address.invariant.whole c.put_address.ensures.whole;
    }

pub returns-clause-bytes : goal.returns-clause-bytes
returns-clause-bytes c =
    let items = c.as_slice-address-items.result.now in
    let same = c.as_slice-address-items.ensures.value in
    let before = rw same at c.loop-address.invariant.bytes in
    c.put_address-2.ensures.bytes
    ∙ last c.args.out.now c.loop-address.out c.args.zeroed.now.items c.loop-address.address-index (address_option c.args.lease c.args.leased) (rw same at c.loop-address-test.false) before

pub returns-clause-whole : goal.returns-clause-whole
returns-clause-whole c =
    let items = c.as_slice-address-items.result.now in
    let same = c.as_slice-address-items.ensures.value in
    let all = subst (All Whole) (take_all c.loop-address.address-index items c.loop-address-test.false) c.loop-address.invariant.whole in
    (rw same at c.as_slice-address-items.ensures.fits, subst (All Whole) same all, c.put_address-2.ensures.whole)
