use Rattle.std.proofs.Common.{◌≡◌, ◌<◌, ◌≤◌, ◌+◌, ◌*◌, ℕ, List, true, map, take, length, refl, sym, ap, subst, ◌∙◌, arith, rules}
use Rattle.std.specs.Prelude.{All, Some, slice_get, slice_set}
use Rattle.std.proofs.lemmas.List.{get_or-set_same, length-set, take-set, take_all}
use Rattle.std.proofs.lemmas.Option.{slice_get_read}
use Rattle.std.proofs.lemmas.List.Elements.{All-more}
use Rattle.config.specs.CircuitPart.{CircuitPart, IsPart}
use Rattle.lease_disk.specs.Region.{IsClean, Region}
use Rattle.timers.specs.Deadlines.{deadline}
use Rattle.circuit_server.specs.Deadlines.{OtherEntriesUnchanged, held_in}
use Rattle.circuit_server.specs.Leases.{found_leases}
use Rattle.circuit_server.specs.CircuitServerValue.{CircuitServerValue, HasFoundBook, HasItsPools}
use Rattle.dispatch.specs.ServerValue.{with_states}
use Rattle.dispatch.proofs.RestartLemmas.{all_have_settled, all_leases, all_ready, all_regions, none_up, one_more_settled, one_more_up}
use Rattle.dispatch.proofs.ServerLemmas.{all_found}
use Rattle.dispatch.proofs.WithStates.{parts_with, server, set_with, size_with}
use Rattle.dispatch.proofs.HeldDeadlines.{all_held, all_set, none_set, set_more}
use Rattle.dispatch.proofs.circuit_servers.restart_all.Goals as goal

pub restart-requires-clause-exists : goal.restart-requires-clause-exists
restart-requires-clause-exists g c =
    let n = (g.D.Disk.device c.circuits.disk).count in
    let has : All (λ (part : CircuitPart). part.region < n) c.args.parts.now = subst (λ m. All (λ (part : CircuitPart). part.region < m) c.args.parts.now) (sym c.circuits.invariant.count) c.requires.can.regions in
    subst (λ (part : CircuitPart). part.region < n) (sym c.index-parts-index.is) (has c.circuits.index c.index-parts-index.result c.circuits-test.true)

-- one more element, which was just written
more : (P : CircuitServerValue → Type 0) (xs : List CircuitServerValue) (i : ℕ) (y : CircuitServerValue) → i < length xs → All P (take i xs) → P y → All P (take (i + 1) (slice_set xs i y))
more P xs i y within all p =
    All-more P (slice_set xs i y) i y (subst (λ n. i < n) (sym (length-set xs i y)) within) (subst (All P) (sym (take-set xs i y)) all) (subst P (sym (get_or-set_same xs i y y within)) p)

five_more : (first middle last n : ℕ) → middle ≤ first + 5 * n → last ≤ middle + 5 → last ≤ first + 5 * (n + 1)
five_more first middle last n h k = omega arith

one_more_read : (first middle last n : ℕ) → first + n ≤ middle → middle + 1 ≤ last → first + (n + 1) ≤ last
one_more_read first middle last n h k = omega arith

four_more : (first middle last n : ℕ) → middle ≤ first + 4 * n → last ≤ middle + 4 → last ≤ first + 4 * (n + 1)
four_more first middle last n h k = omega arith

pub restart-requires-clause-part : goal.restart-requires-clause-part
restart-requires-clause-part g c = subst IsPart (sym c.index-parts-index.is) (c.requires.can.each c.circuits.index c.index-parts-index.result c.circuits-test.true)

pub restart-requires-clause-clean : goal.restart-requires-clause-clean
restart-requires-clause-clean g c = λ tells.
    let part = c.index-parts-index.result in
    let first = (g.D.Disk.device c.args.disk.now).region in
    let there : slice_get c.args.parts.now c.circuits.index ≡ Some part = slice_get_read c.args.parts.now (length c.args.parts.now) c.circuits.index part refl c.circuits-test.true c.index-parts-index.is in
    let same = (c.circuits.invariant.up tells).region c.circuits.index part (omega arith) there in
    subst (λ (r : Region). r.readable ≡ true → IsClean r) (sym same)
    (subst (λ (p : CircuitPart). (first p.region).readable ≡ true → IsClean (first p.region)) (sym c.index-parts-index.is) (c.requires.can.synced tells c.circuits.index part c.circuits-test.true))

pub circuits-init : goal.circuits-init
circuits-init g c = record {
  up = λ tells. none_up c.args.parts.now c.args.servers.now (g.D.Disk.device c.args.disk.now);
  pools = search rules;
  found = search rules;
  count = refl;
  settled = λ n part below. absurd (omega (arith, below));
  least = omega arith;
  reads = omega arith;
  writes = omega arith;
  buffer = c.requires.buffer;
  room = c.requires.room;
  deadlines = none_set c.args.table.now c.args.servers.now;
  examined = refl;
  size = refl;
}

pub circuits-preserved : goal.circuits-preserved
circuits-preserved g c =
    let loop = c.circuits.invariant in
    let parts = c.args.parts.now in
    let states = c.circuits.servers in
    let i = c.circuits.index in
    let part = c.index-parts-index.result in
    let new = server part c.restart.new.self in
    let xs = with_states parts states in
    let there : slice_get parts i ≡ Some part = slice_get_read parts (length parts) i part refl c.circuits-test.true c.index-parts-index.is in
    let within : i < length xs = omega (arith, c.circuits-test.true, size_with parts states) in
    let inside : i < length states = omega (arith, c.circuits-test.true, loop.size, c.requires.size) in
    let written = set_with parts states i part c.restart.new.self there inside in
    let entries : OtherEntriesUnchanged (32 * i) c.circuits.table c.set_deadlines.new.table = subst (λ n. OtherEntriesUnchanged (32 * n) c.circuits.table c.set_deadlines.new.table) c.at.ensures c.set_deadlines.ensures.entries.others in
    record {
      up = λ tells. one_more_up g.D.Disk.tells tells parts c.requires.can.differ i part there states inside (g.D.Disk.device c.args.disk.now) (g.D.Disk.device c.circuits.disk) (g.D.Disk.device c.restart.new.disk) (loop.up tells)
          c.restart.ensures.frame c.restart.new.self (c.restart.ensures.restarted.leases tells) (c.restart.ensures.restarted.ready tells) (c.restart.ensures.restarted.region tells);
      pools = subst (λ ys. All HasItsPools (take (i + 1) ys)) (sym written) (more HasItsPools xs i new within loop.pools c.restart.ensures.pools);
      found = subst (λ ys. All HasFoundBook (take (i + 1) ys)) (sym written) (more HasFoundBook xs i new within loop.found c.restart.ensures.found);
      count = c.restart.ensures.frame.count ∙ loop.count;
      settled = one_more_settled parts c.requires.can.differ i part there states inside c.restart.new.self (g.D.Disk.doubt c.circuits.disk) (g.D.Disk.doubt c.restart.new.disk) loop.settled c.restart.ensures.doubt;
      least = one_more_read _ _ _ i loop.least c.restart.ensures.calls.least;
      reads = five_more _ _ _ i loop.reads c.restart.ensures.calls.reads;
      writes = four_more _ _ _ i loop.writes c.restart.ensures.calls.writes;
      buffer = search rules;
      room = entries.size ∙ loop.room;
      deadlines =
          set_more i c.circuits.table c.set_deadlines.new.table states c.restart.new.self inside loop.deadlines
          (λ s below. ap (λ n. deadline c.set_deadlines.new.table (32 * n + s)) (sym c.at.ensures) ∙ c.set_deadlines.ensures.own s below ∙ ap (λ state. held_in state s) (get_or-set_same states i c.restart.new.self c.index-servers-index-in-circuits.result inside)) entries;
      examined = entries.examined ∙ loop.examined;
      size = length-set states i c.restart.new.self ∙ loop.size;
    }

pub set_deadlines-requires : goal.set_deadlines-requires
set_deadlines-requires g c = let at = c.at.ensures in omega (arith, at, c.circuits-test.true, c.circuits.invariant.room)

whole_read : (first last n i : ℕ) → n ≤ i → first + i ≤ last → first + n ≤ last
whole_read first last n i h k = omega arith

pub returns-clause-table : goal.returns-clause-table
returns-clause-table g c =
    let loop = c.circuits.invariant in
    let sizes : length c.args.parts.now ≡ length c.circuits.servers = sym c.requires.size ∙ sym loop.size in
    let anew = all_set c.circuits.table c.circuits.servers c.circuits.index (omega (arith, c.circuits-test.false, loop.size, c.requires.size)) loop.deadlines in
    record { held = all_held c.circuits.table c.circuits.servers (loop.room ∙ ap (λ n. 32 * n) sizes) anew; anew = anew; examined = loop.examined }

pub returns-clause-restarted : goal.returns-clause-restarted
returns-clause-restarted g c =
    let parts = c.args.parts.now in
    let states = c.circuits.servers in
    let first = g.D.Disk.device c.args.disk.now in
    let now = g.D.Disk.device c.circuits.disk in
    let xs = with_states parts states in
    let size = c.circuits.invariant.size ∙ c.requires.size in
    let whole : length parts ≤ c.circuits.index = omega (arith, c.circuits-test.false) in
    record {
      pools = subst (All HasItsPools) (take_all c.circuits.index xs (omega (arith, c.circuits-test.false, size_with parts states))) c.circuits.invariant.pools;
      found = subst (All HasFoundBook) (take_all c.circuits.index xs (omega (arith, c.circuits-test.false, size_with parts states))) c.circuits.invariant.found;
      leases = λ tells.
          all_found now.region (found_leases first.region first.failing_call) xs (all_leases parts c.circuits.index states first now size whole (c.circuits.invariant.up tells))
          ∙ ap (map (found_leases first.region first.failing_call)) (parts_with parts states);
      ready = λ tells. all_ready parts c.circuits.index states first now size whole (c.circuits.invariant.up tells);
      regions = λ tells. all_regions parts c.circuits.index states first now size whole (c.circuits.invariant.up tells);
      settled = all_have_settled parts c.circuits.index states (g.D.Disk.doubt c.circuits.disk) size whole c.circuits.invariant.settled;
      least = whole_read _ _ _ _ whole c.circuits.invariant.least;
    }

pub returns-clause-device : goal.returns-clause-device
returns-clause-device g c =
    let loop = c.circuits.invariant in
    let end : c.circuits.index ≤ length c.args.parts.now = omega arith in
    record {
      others = λ tells. (loop.up tells).others;
      count = loop.count;
      reads = omega (arith, loop.reads, end);
      writes = omega (arith, loop.writes, end);
    }
