use Rattle.std.proofs.Common.{sym, subst}
use Rattle.std.specs.Prelude.{IsUtf8}
use Rattle.std.proofs.lemmas.Str.{IsUtf8-from_ascii}
use Rattle.settings.proofs.TextLemmas.{visible_is_ascii}
use Rattle.lease_list.proofs.listing.text_of.Goals as goal

pub unreachable-requires : goal.unreachable-requires
unreachable-requires c =
    let ascii = visible_is_ascii _ c.as_bytes.ensures.within.visible in
    c.in_default.ensures.cases.0 (subst IsUtf8 (sym c.as_bytes.ensures.value) (IsUtf8-from_ascii _ ascii))
