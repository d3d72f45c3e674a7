use Rattle.std.proofs.Common.{◌≡◌, ◌+◌, ◌*◌, ◌++◌, length, map, take}
use Rattle.std.specs.Prelude.{All}
use Rattle.types.specs.declared.addr.Addr6.{Addr6}
use Rattle.v6_options.specs.Spelling.{spelling}
use Rattle.replies.specs.Reply6.{address_option}
use Rattle.replies.proofs.reply6.put_addresses.Given as goal

abbrev pub invariant-loop-address : goal.invariant-loop-address
invariant-loop-address l = record {
  bytes : l.out ≡ l.fn.out ++ spelling (map (address_option 0) (take l.address-index l.address-items));
  len : length l.out ≡ length l.fn.out + 28 * l.address-index;
  whole : All (λ (a : Addr6). length a.0 ≡ 16) (take l.address-index l.address-items);
}
