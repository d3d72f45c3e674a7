use Rattle.std.proofs.Common.{◌≡◌}
use Rattle.leases.specs.Listing.{Keeps}
use Rattle.leases.proofs.Lister.list_all.Given as goal

abbrev pub invariant-circuits : goal.invariant-circuits
invariant-circuits l = (l.self.at ≡ l.fn.self.at) × (l.self.what ≡ l.fn.self.what) × (l.self.form ≡ l.fn.self.form) × Keeps l.fn.self.noted l.self.noted
