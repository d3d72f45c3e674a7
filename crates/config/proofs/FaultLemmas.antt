-- A fault of the values, or of the rules between them, is a fault of the text.
use Rattle.std.proofs.Common.{◌≡◌, ℕ, List, Some, sym, subst}
use Rattle.toml.specs.Data.{Members}
use Rattle.toml.specs.Parse.{parse_document}
use Rattle.settings.specs.declared.fault.ConfigFault.{ConfigFault}
use Rattle.settings.specs.declared.fault.ConfigFault.TheVariants.{Memory, Text, Missing as Lacking, Limit}
use Rattle.settings.specs.Broken.{IsUnfit}
use Rattle.settings.specs.Keys.{HasAll}
use Rattle.settings.specs.Read.{IsRead, IsUnread}
use Rattle.settings.specs.Settings.{Settings}
use Rattle.settings.specs.Tables.{Tables, tables_of}
use Rattle.config.specs.Valid.{IsLeastRule, IsFaultOf}

-- a fault of the values of a text is a fault of the text
pub unread_is_fault : (text : List ℕ) (doc : Members) (t : Tables) (fault : ConfigFault) → parse_document text ≡ Some doc → tables_of doc ≡ t → HasAll (tables_of doc) → IsUnread t fault → IsFaultOf text fault
unread_is_fault text doc t Memory parsed same all h = tt
unread_is_fault text doc t (Limit limit) parsed same all h = (doc, parsed, record { all = all; broken = subst (λ x. IsUnfit x limit) (sym same) h })
unread_is_fault text doc t fault parsed same all h = absurd h

-- and so is a broken rule of the settings
pub broken_is_fault : (text : List ℕ) (doc : Members) (t : Tables) (s : Settings) (fault : ConfigFault) → parse_document text ≡ Some doc → tables_of doc ≡ t → HasAll (tables_of doc) → IsRead t s → IsLeastRule s fault → IsFaultOf text fault
broken_is_fault text doc t s Memory parsed same all read h = absurd h.1
broken_is_fault text doc t s (Text error) parsed same all read h = absurd h.1
broken_is_fault text doc t s (Lacking location) parsed same all read h = absurd h.1
broken_is_fault text doc t s (Limit limit) parsed same all read h = absurd h.1
broken_is_fault text doc t s fault parsed same all read h =
    (doc, parsed, record { settings = s; all = all; read = subst (λ x. IsRead x s) (sym same) read; broken = h })
