use Rattle.std.proofs.Common.{◌≡◌, ◌<◌, ◌+◌, slice_range, arith}
use Rattle.streams.specs.ReadAhead.{held}
use Rattle.streams.proofs.AheadLemmas.{slice_range_more, moved_kept, moved_grown, moved_same, moved_counted}
use Rattle.streams.proofs.read_ahead.ReadAhead.fill.Goals as goal

pub read_between-requires-clause-some : goal.read_between-requires-clause-some
read_between-requires-clause-some g c = omega (arith, c.min-most.ensures, c.move_to_front.ensures.end, c.move_to_front.ensures.count, c.requires.room, c.requires.few)

pub returns-then-self-clause-kept : goal.returns-then-self-clause-kept
returns-then-self-clause-kept g c =
    let w = c.move_to_front.new.self in
    moved_kept _ _ (held c.args.self.now) (held w) _ (slice_range c.read_between.new.bytes w.end (w.end + c.in-Ok.n)) c.move_to_front.ensures.held
    (slice_range_more w.bytes c.read_between.new.bytes w.start w.end c.in-Ok.n c.move_to_front.ensures.start c.read_between.ensures.front) c.in-Ok.ensures.ok

pub returns-then-self-clause-grown : goal.returns-then-self-clause-grown
returns-then-self-clause-grown g c =
    let w = c.move_to_front.new.self in
    moved_grown (held c.args.self.now) (held w) _ (slice_range c.read_between.new.bytes w.end (w.end + c.in-Ok.n)) _ _ c.in-Ok.n c.move_to_front.ensures.held
    (slice_range_more w.bytes c.read_between.new.bytes w.start w.end c.in-Ok.n c.move_to_front.ensures.start c.read_between.ensures.front) c.in-Ok.ensures.size c.move_to_front.ensures.count

pub returns-then-self-clause-counted : goal.returns-then-self-clause-counted
returns-then-self-clause-counted g c = moved_counted _ _ _ _ _ c.in-Ok.n c.in-Ok.ensures.ok c.in-Ok.ensures.size c.move_to_front.ensures.count

pub returns-clause-kept : goal.returns-clause-kept
returns-clause-kept g c =
    let w = c.move_to_front.new.self in
    moved_kept _ _ (held c.args.self.now) (held w) _ (slice_range c.read_between.new.bytes w.end (w.end + c.in-Ok.n)) c.move_to_front.ensures.held
    (slice_range_more w.bytes c.read_between.new.bytes w.start w.end c.in-Ok.n c.move_to_front.ensures.start c.read_between.ensures.front) c.in-Ok.ensures.ok

pub returns-clause-grown : goal.returns-clause-grown
returns-clause-grown g c =
    let w = c.move_to_front.new.self in
    moved_grown (held c.args.self.now) (held w) _ (slice_range c.read_between.new.bytes w.end (w.end + c.in-Ok.n)) _ _ c.in-Ok.n c.move_to_front.ensures.held
    (slice_range_more w.bytes c.read_between.new.bytes w.start w.end c.in-Ok.n c.move_to_front.ensures.start c.read_between.ensures.front) c.in-Ok.ensures.size c.move_to_front.ensures.count

pub returns-clause-counted : goal.returns-clause-counted
returns-clause-counted g c = moved_counted _ _ _ _ _ c.in-Ok.n c.in-Ok.ensures.ok c.in-Ok.ensures.size c.move_to_front.ensures.count

pub returns-clause-filled : goal.returns-clause-filled
returns-clause-filled g c =
    let w = c.move_to_front.new.self in
    record {
      more = λ some. let least : 0 < c.in-Ok.n = grind (arith, some) in omega (arith, least, c.move_to_front.ensures.count);
      end = λ none. let n : c.in-Ok.n ≡ 0 = grind (arith, none) in c.in-Ok.ensures.end n;
      same = λ none. moved_same (held c.args.self.now) (held w) _ (slice_range c.read_between.new.bytes w.end (w.end + c.in-Ok.n)) c.in-Ok.n c.move_to_front.ensures.held
          (slice_range_more w.bytes c.read_between.new.bytes w.start w.end c.in-Ok.n c.move_to_front.ensures.start c.read_between.ensures.front) c.in-Ok.ensures.size none;
    }
