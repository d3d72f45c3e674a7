use Rattle.std.proofs.Common.{◌≡◌, ◌*◌, length, take}
use Rattle.std.specs.List.{flat_map}
use Rattle.replies.proofs.reply4.address_bytes.Given as goal

abbrev pub invariant-loop-address : goal.invariant-loop-address
invariant-loop-address l = record {
  bytes : l.bytes.items ≡ flat_map (λ a. a.0) (take l.address-index l.address-items);
  len : length l.bytes.items ≡ 4 * l.address-index;
}
