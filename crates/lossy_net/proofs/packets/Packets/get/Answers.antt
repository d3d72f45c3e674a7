use Rattle.std.proofs.Common.{◌≡◌, ◌-◌, ◌+◌, ◌*◌, slice_get, drop, take, Some, ap, ap₂, sym, ◌∙◌, arith}
use Rattle.lossy_net.proofs.Places.{head_there, within_rows, len_within, read_at}
use Rattle.lossy_net.proofs.packets.Packets.get.Goals as goal

pub index-head-requires : goal.index-head-requires
index-head-requires c = (within_rows c.self.inside _ _ c.self.view_is c.requires c.self.invariant).0

pub overflow_mul-start : goal.overflow_mul-start
overflow_mul-start c = omega (arith, (within_rows c.self.inside _ _ c.self.view_is c.requires c.self.invariant).1)

pub overflow_add-end : goal.overflow_add-end
overflow_add-end c =
    let low = head_there c.self.inside _ _ c.self.view_is c.requires in
    let short = len_within c.self.inside _ _ c.self.invariant low c.index-head.ensures in
    omega (arith, (within_rows c.self.inside _ _ c.self.view_is c.requires c.self.invariant).1)

pub slice_bounds-result-end : goal.slice_bounds-result-end
slice_bounds-result-end c =
    let low = head_there c.self.inside _ _ c.self.view_is c.requires in
    let short = len_within c.self.inside _ _ c.self.invariant low c.index-head.ensures in
    omega (arith, (within_rows c.self.inside _ _ c.self.view_is c.requires c.self.invariant).1)

pub returns : goal.returns
returns c =
    let low = head_there c.self.inside _ _ c.self.view_is c.requires in
    let start = c.args.place * 1280 in
    let count : c.index-head.result.now.len ≡ start + c.from.result - start = omega arith in
    ap (λ list. slice_get list c.args.place) (sym c.self.view_is)
    ∙ read_at c.self.inside c.args.place c.index-head.result.now low c.index-head.ensures
    ∙ ap₂ (λ n list. Some (record { proto = c.index-head.result.now.proto; bytes = take n (drop start list) })) count (sym c.deref.ensures.value)
