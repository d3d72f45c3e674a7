-- The value has no bytes, and its list is empty. By hand, since a struct with ghost data has no generated proof.
use Rattle.std.proofs.Common.{[], ◌∷◌, refl}
use Rattle.std.proofs.raw_atomic.Walks.{proved}
use mir.Val.{Val, vstruct, vcons, vnil}
use types.Kit.{raw, ◌$◌, ◌∵◌, !, qed, done, keep, join, suffices}
use types.Run.{no_more, and_then, returns, enter}
use types.Part.{agg}
use types.ByLocal.{alloc_all, pass_all, free_all, look_at, get, sets}
use denote.Shadow.{pure_i}
use denote.Steps.{nothing}
use denote.Triple.Entry.{on_entry}
use denote.Triple.Walked.{Stays, says, ends_at}
use Rattle.lease_disk.specs.declared.failures.Failures.{Failures}
use Rattle.lease_disk.specs.contracts.failures.Failures as T
use Rattle.lease_disk.specs.contracts.failures.Failures.new as f
use Rattle.lease_disk.proofs.failures.Failures.new.Statement.{statement}
use Rattle.lease_disk.proofs.failures.Failures.new.Code as code

abbrev stayed : Stays f.ended.signature.params f.ended.kept
stayed = tt

-- no bytes: a struct around one with no field
abbrev empty : Val
empty = vstruct (vcons (vstruct vnil) vnil)

abbrev none : Failures
none = record { marker = record {}; regions = [] }

pub new_spec : {M : Type 1} → statement M
new_spec 𝓤 𝓛 𝓜 𝓡 wired =
    let c = f.clauses 𝓛 𝓜.mem 𝓡.returns in
    proved 𝓛 f.ended stayed c 𝓜 𝓡 tt
    f.Key.name code.function (code.unfolded 𝓤 𝓛.H 𝓜 𝓡 wired)
    (λ κs. tt) (λ κs. tt) (λ κs qs bounds a g are.
    qed 𝓛 (raw (on_entry 𝓛 f.signature κs qs a tt) ∷ raw ((c κs a).requires g) ∷ []) ∵ keep ! [] $
    enter ! _ _ _ _ _ $ alloc_all ! (λ l. pass_all ! refl tt $
    -- the field, then the struct
    sets ! (agg ! (no_more !)) refl (tt, tt) $
    sets ! (agg ! (and_then ! (get ! refl) (no_more !))) refl (tt, (tt, tt)) $
    returns ! (look_at ! 0 refl) $ free_all ! refl $
    pure_i ! ((T.the_row).own_val none (empty ∷ [])) ((λ vss. (tt, ((λ uss. (tt, tt)), tt))), tt) (((vstruct vnil ∷ [], tt), (refl, ((tt, (refl, tt)), tt))), tt) $
    suffices ! _ (ends_at 𝓛 f.ended stayed c ((κs, qs, bounds, a, tt), g) empty none tt tt) $ says ! refl $
    nothing ! $ join ! $ nothing ! $ done !))
