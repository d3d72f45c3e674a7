use Rattle.std.proofs.Common.{◌≡◌, ℕ, true, false, ap, subst, sym, ◌∙◌, rules}
use Rattle.std.specs.Prelude.{option_map}
use Rattle.lease_disk.specs.Moving.{succeeds}
use Rattle.lease_disk.specs.Region.{Region}
use Rattle.circuit_server.specs.Leases.{IsRegionMigrated, counts_of}
use Rattle.circuit_server.specs.CircuitServerValue.{open_book}
use Rattle.circuit_server.proofs.ComeBackLemmas.{done_leases, failed_leases, has_address, left_leases}
use Rattle.circuit_server.proofs.circuit_server.CircuitServer.restart.Goals as goal

pub returns-in_default-clause-restarted : goal.returns-in_default-clause-restarted
returns-in_default-clause-restarted g c =
    let part = c.args.part.now in
    let region = part.region in
    let was = g.D.Disk.device c.args.disk.now in
    let later = g.D.Disk.device c.migrate.new.disk in
    let up : g.D.Disk.tells ≡ true → IsRegionMigrated (counts_of part) (was.failing_call region) (was.region region) (later.region region) = λ tells. record { still = search rules; moved = search rules } in
    let answer : g.D.Disk.tells ≡ true → false ≡ succeeds (counts_of part) (was.failing_call region) (was.region region) = λ tells.
    c.in_default.ensures.answer tells ∙ (λ j. succeeds (c.counts.ensures j) (was.failing_call (c.region.ensures j)) (was.region (c.region.ensures j))) in
    record {
      leases = λ tells. failed_leases part (has_address part c.requires.part) (was.failing_call region) (was.region region) (later.region region) (c.requires.clean tells) (up tells).still (up tells).moved (answer tells);
      ready = search rules;
      region = up;
    }

pub returns-clause-restarted : goal.returns-clause-restarted
returns-clause-restarted g c =
    let part = c.args.part.now in
    let region = part.region in
    let was = g.D.Disk.device c.args.disk.now in
    let moved = g.D.Disk.device c.migrate.new.disk in
    let same = c.recover-self-inside.ensures.frame.region in
    let up : g.D.Disk.tells ≡ true → IsRegionMigrated (counts_of part) (was.failing_call region) (was.region region) (moved.region region) = λ tells. record { still = search rules; moved = search rules } in
    let answer : g.D.Disk.tells ≡ true → true ≡ succeeds (counts_of part) (was.failing_call region) (was.region region) = λ tells.
    c.in-Ok.ensures.answer tells ∙ (λ j. succeeds (c.counts.ensures j) (was.failing_call (c.region.ensures j)) (was.region (c.region.ensures j))) in
    record {
      leases = λ tells.
          ap (λ (r : ℕ → Region). left_leases part (r region) (option_map open_book c.recover-self-inside.result)) (same tells)
          ∙ ap (left_leases part (moved.region region)) (c.recover-self-inside.ensures.book tells)
          ∙ done_leases part (has_address part c.requires.part) (was.failing_call region) (was.region region) (moved.region region) (c.requires.clean tells) (up tells).still (up tells).moved (answer tells);
      ready = search rules;
      region = λ tells. subst (λ (r : ℕ → Region). IsRegionMigrated (counts_of part) (was.failing_call region) (was.region region) (r region)) (sym (same tells)) (up tells);
    }
