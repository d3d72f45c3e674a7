-- The keys of both protocols tell clients apart. Only proofs need these.
use Rattle.std.proofs.Common.{◌≡◌, ◌&&◌, refl, sym, ap, subst, ◌∙◌}
use Rattle.std.specs.declared.cmp.Ordering.{Ordering}
use Rattle.std.specs.declared.cmp.Ordering.TheVariants.{Less, Equal, Greater}
use Rattle.std.specs.Ordering.{nat_cmp, is_eq, ordering_then}
use Rattle.std.specs.Cmp.{nat_cmp_total, tied_then, unsigned_tied}
use Rattle.std.specs.Cmp.Lexicographic.{slice_cmp, nat_list_cmp_total}
use Rattle.std.specs.FinMap.{IsAntisymmetric, nat_cmp-IsAntisymmetric, slice_cmp-IsAntisymmetric}
use Rattle.std.specs.Str.{bytes_eq}
use Rattle.std.proofs.lemmas.Cmp.{then_total, on_total}
use Rattle.std.proofs.lemmas.Map.Text.{is_eq-slice_cmp}
use Rattle.types.specs.Key6.{Key6Value, same_key6}
use Rattle.slots.specs.Key.{IsKey, key4_cmp, key6_cmp}

same_bytes : IsAntisymmetric (slice_cmp nat_cmp)
same_bytes = slice_cmp-IsAntisymmetric nat_cmp-IsAntisymmetric

pub key4_is_key : IsKey bytes_eq key4_cmp
key4_is_key = record { total = nat_list_cmp_total; exact = same_bytes; agrees = is_eq-slice_cmp }

abbrev Ties : Ordering → Type 0
Ties Less = ⊥
Ties Equal = Unit {0}
Ties Greater = ⊥

first_equal : (a b : Ordering) → ordering_then a b ≡ Equal → a ≡ Equal
first_equal Less b e = absurd (subst Ties (sym e) tt)
first_equal Equal b e = refl
first_equal Greater b e = absurd (subst Ties (sym e) tt)

second_equal : (a b : Ordering) → ordering_then a b ≡ Equal → b ≡ Equal
second_equal Less b e = absurd (subst Ties (sym e) tt)
second_equal Equal b e = e
second_equal Greater b e = absurd (subst Ties (sym e) tt)

exact6 : IsAntisymmetric key6_cmp
exact6 a b e =
    let duid = same_bytes a.duid b.duid (first_equal (slice_cmp nat_cmp a.duid b.duid) (nat_cmp a.iaid b.iaid) e) in
    let iaid = nat_cmp-IsAntisymmetric a.iaid b.iaid (second_equal (slice_cmp nat_cmp a.duid b.duid) (nat_cmp a.iaid b.iaid) e) in
    λ i. record { duid = duid i; iaid = iaid i }

agrees6 : (a b : Key6Value) → is_eq (key6_cmp a b) ≡ same_key6 a b
agrees6 a b =
    sym (tied_then (slice_cmp nat_cmp a.duid b.duid) (nat_cmp a.iaid b.iaid)) ∙ ap (λ r. r && is_eq (nat_cmp a.iaid b.iaid)) (is_eq-slice_cmp a.duid b.duid)
    ∙ ap (λ r. bytes_eq a.duid b.duid && r) (unsigned_tied a.iaid b.iaid)

pub key6_is_key : IsKey same_key6 key6_cmp
key6_is_key = record {
  total = then_total (on_total (λ (k : Key6Value). k.duid) nat_list_cmp_total) (on_total (λ (k : Key6Value). k.iaid) nat_cmp_total);
  exact = exact6;
  agrees = agrees6;
}
