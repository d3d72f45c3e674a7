-- The parts of a batch that save something, and where.
use Rattle.std.proofs.Common.{inl, inr, ◌≡◌, ◌∙◌, ◌<◌, nat_lt, ℕ, suc, Bool, true, false, List, [], ◌∷◌, ◌++◌, length, take, refl, sym, ap, subst, arith, append_assoc}
use Rattle.std.specs.Prelude.{IfSome, Option, Some, None, option_map, is_some, Result, Ok, Err, slice_get, if◌then◌else◌}
use Rattle.std.specs.List.{cons_option, list_any}
use Rattle.std.proofs.lemmas.Bool.{eqb-true}
use Rattle.std.proofs.lemmas.List.{append-nil, take_all}
use Rattle.std.proofs.lemmas.Option.{get_or_from_slice_get, same_Some, slice_get_within}
use Rattle.types.specs.Delivery.{DeliveryValue}
use Rattle.types.specs.declared.discard.Discard.{Discard}
use Rattle.lease_disk.specs.declared.content.Content.{Content}
use Rattle.lease_disk.specs.Device.{Device}
use Rattle.batch_saves.specs.Batch.{AreApart, AreReady, IsReady, no_part, part_at, regions_of}
use Rattle.lease_disk.specs.declared.saving.Saving.{Saving}
use Rattle.config.specs.CircuitPart.{CircuitPart}
use Rattle.config.specs.Topology.{IsTopology, Topology}
use Rattle.requests.specs.Addressee.{addressee}
use Rattle.circuit_server.specs.CircuitDecision.{is_kept, kept_in}
use Rattle.circuit_server.specs.CircuitServerValue.{IsReadyFor, OpenCircuitValue, open_book}
use Rattle.circuit_server.specs.Prepared.{IsPrepared, saving_of}
use Rattle.circuit_server.specs.Server.{Book}
use Rattle.circuit_server.specs.Ticked.{server_state}
use Rattle.circuit_server.specs.declared.prepared.Prepared.{Prepared}
use Rattle.circuit_server.proofs.AnswerLemmas.{saves_so}
use Rattle.circuit_server.proofs.PreparedLemmas.{case, keeps_none, keeps_some, prepared_ready}
use Rattle.dispatch.specs.Batch.{batch_saves, comes_again, is_circuit, is_named, part_saves, saved_after}
use Rattle.dispatch.specs.Parts.{AreDecided, AreToSettle, IsDecided, is_of, place_of, saving_in, savings_of}
use Rattle.dispatch.specs.Received.{addressee_saves, received_saves}
use Rattle.dispatch.proofs.PartLemmas.{any_found, any_there, not_both, same_number}
use Rattle.dispatch.proofs.ReceivedLemmas.{saves_at}
use Rattle.dispatch.proofs.SavingLemmas.{gives_at, placed}
use Rattle.dispatch.proofs.WithStates.{there_is}

abbrev Part : Type 0
Part = Result (ℕ × Prepared) Discard

abbrev States : Type 0
States = List (Option OpenCircuitValue)

-- ---- one part

-- what it saves is to its circuit's region
pub own_region : (part : CircuitPart) (d : DeliveryValue) (old new : Option OpenCircuitValue) (prepared : Prepared) (s : Saving) → IsPrepared part d old new prepared → prepared.saving ≡ Some s → s.region ≡ part.region
own_region part d old new prepared s p is = by (kept_in prepared.decision) refl where
  by : (kept : Option (ℕ × Content)) → kept_in prepared.decision ≡ kept → s.region ≡ part.region
  by None e = let never : None ≡ Some s = sym (p.saving ∙ ap (option_map (saving_of part p.after)) e) ∙ is in absurd cc
  by (Some kept) e =
      let same : saving_of part p.after kept ≡ s = same_Some (saving_of part p.after kept) s (sym (p.saving ∙ ap (option_map (saving_of part p.after)) e) ∙ is) in
      sym (ap (λ (x : Saving). x.region) same)

-- and it keeps something exactly where it saves something
pub keeps_as : (part : CircuitPart) (d : DeliveryValue) (old new : Option OpenCircuitValue) (prepared : Prepared) → IsPrepared part d old new prepared → is_kept prepared.decision ≡ is_some prepared.saving
keeps_as part d old new prepared p = by (kept_in prepared.decision) refl where
  by : (kept : Option (ℕ × Content)) → kept_in prepared.decision ≡ kept → is_kept prepared.decision ≡ is_some prepared.saving
  by None e = keeps_none prepared.decision e ∙ sym (ap is_some (p.saving ∙ ap (option_map (saving_of part p.after)) e))
  by (Some kept) e = keeps_some prepared.decision kept e ∙ sym (ap is_some (p.saving ∙ ap (option_map (saving_of part p.after)) e))

saves_where : (part : CircuitPart) (d : DeliveryValue) (old new : Option OpenCircuitValue) (prepared : Prepared) → IsPrepared part d old new prepared → (if is_kept prepared.decision then Some part.region else None) ≡ option_map (λ (s : Saving). s.region) prepared.saving
saves_where part d old new prepared p = by prepared.saving refl where
  by : (saving : Option Saving) → prepared.saving ≡ saving → (if is_kept prepared.decision then Some part.region else None) ≡ option_map (λ (s : Saving). s.region) prepared.saving
  by None e = ap (λ b. if b then Some part.region else None) (keeps_as part d old new prepared p ∙ ap is_some e) ∙ sym (ap (option_map (λ (s : Saving). s.region)) e)
  by (Some s) e =
      ap (λ b. if b then Some part.region else None) (keeps_as part d old new prepared p ∙ ap is_some e) ∙ ap Some (sym (own_region part d old new prepared s p e)) ∙ sym (ap (option_map (λ (s : Saving). s.region)) e)

pub of_is : (c : ℕ) (x : Option Part) → is_of c x ≡ true → (prepared : Prepared) × (x ≡ Some (Ok (c, prepared)))
of_is c None is = absurd cc
of_is c (Some (Err why)) is = absurd cc
of_is c (Some (Ok (k, prepared))) is = (prepared, ap (λ n. Some (Ok (n, prepared))) (eqb-true k c is))

saves_is : (x : Option Part) (s : Saving) → saving_in x ≡ Some s → (c : ℕ) × (prepared : Prepared) × (x ≡ Some (Ok (c, prepared))) × (prepared.saving ≡ Some s)
saves_is None s is = absurd cc
saves_is (Some (Err why)) s is = absurd cc
saves_is (Some (Ok (c, prepared))) s is = (c, prepared, refl, is)

-- ---- all of them

-- A part of circuit c that is to be settled.
pub record Settles (topology : Topology) (ds : List DeliveryValue) (old new : States) (j c : ℕ) (prepared : Prepared) : Type 0 where
  pub d : DeliveryValue
  pub given : slice_get ds j ≡ Some d
  pub part : CircuitPart
  pub found : addressee topology d ≡ Ok c
  pub first : is_named topology (take j ds) c ≡ false
  pub there : slice_get topology.circuits c ≡ Some part
  pub prepared_so : IsPrepared part d (server_state old c) (server_state new c) prepared

-- The part whose save is the n-th.
pub record Saves (topology : Topology) (ds : List DeliveryValue) (old new : States) (parts : List (Option Part)) (n : ℕ) : Type 0 where
  pub j : ℕ
  pub c : ℕ
  pub prepared : Prepared
  pub s : Saving
  pub at : slice_get parts j ≡ Some (Some (Ok (c, prepared)))
  pub settles : Settles topology ds old new j c prepared
  pub saving : prepared.saving ≡ Some s
  pub place : place_of parts j ≡ n
  pub is : part_at (savings_of parts) n ≡ s
  pub region : s.region ≡ settles.part.region

module _ (topology : Topology) (ds : List DeliveryValue) (i : ℕ) (named : List ℕ) (old new : States) (parts : List (Option Part)) (whole : length ds ≡ i) (made : AreDecided topology ds i named old new parts) where
  pub settles_at : (j c : ℕ) (prepared : Prepared) → slice_get parts j ≡ Some (Some (Ok (c, prepared))) → Settles topology ds old new j c prepared
  settles_at j c prepared there =
      let inside = slice_get_within parts j (Some (Ok (c, prepared))) there in
      let within : j < i = omega (arith, inside, made.count) in
      let d = there_is ds j (omega (arith, within, whole)) in
      let one = made.each j d.0 within d.1 in
      let same : Some one.0 ≡ Some (Ok (c, prepared)) = same_Some (Some one.0) (Some (Ok (c, prepared))) (sym one.1 ∙ there) in
      let m : IsDecided topology (take j ds) d.0 old new (Ok (c, prepared)) = subst (IsDecided topology (take j ds) d.0 old new) (same_Some one.0 (Ok (c, prepared)) same) one.2 in
      record { d = d.0; given = d.1; part = m.0; found = m.1.found; first = m.1.first; there = m.2; prepared_so = m.3 }

  before_first : (j k c : ℕ) (d : DeliveryValue) → j < k → slice_get ds j ≡ Some d → addressee topology d ≡ Ok c → is_named topology (take k ds) c ≡ false → ⊥
  before_first j k c d less there found first = not_both (any_there (λ x. is_circuit c (addressee topology x)) ds k j d less there (ap (is_circuit c) found ∙ same_number c)) first

  -- a circuit has one first part
  pub one_first : (j k c : ℕ) (d e : DeliveryValue) → slice_get ds j ≡ Some d → slice_get ds k ≡ Some e → addressee topology d ≡ Ok c → addressee topology e ≡ Ok c
      → is_named topology (take j ds) c ≡ false → is_named topology (take k ds) c ≡ false → j ≡ k
  one_first j k c d e there there_e found found_e first first_e = by (nat_lt j k) (nat_lt k j) refl refl where
    by : (a b : Bool) → nat_lt j k ≡ a → nat_lt k j ≡ b → j ≡ k
    by true b less other = absurd (before_first j k c d (grind (arith, less)) there found first_e)
    by false true less other = absurd (before_first k j c e (grind (arith, other)) there_e found_e first)
    by false false less other = grind (arith, less, other)

  pub to_settle : AreToSettle topology parts
  to_settle = record {
    each = λ j less.
        let within : j < i = let count = made.count in omega (arith, less, count) in
        let d = there_is ds j (omega (arith, within, whole)) in
        let one = made.each j d.0 within d.1 in
        (one.0, one.1);
    exist = λ j c prepared there. let s = settles_at j c prepared there in slice_get_within topology.circuits c s.part s.there;
    apart = λ j c prepared there. apart j c prepared there (list_any (is_of c) (take j parts)) refl;
  } where
    apart : (j c : ℕ) (prepared : Prepared) → slice_get parts j ≡ Some (Some (Ok (c, prepared))) → (b : Bool) → list_any (is_of c) (take j parts) ≡ b → list_any (is_of c) (take j parts) ≡ false
    apart j c prepared there false is = is
    apart j c prepared there true is =
        let before = any_found (is_of c) parts j is in
        let earlier = of_is c before.1 before.4 in
        let a = settles_at before.0 c earlier.0 (before.3 ∙ ap Some earlier.1) in
        let b = settles_at j c prepared there in
        let same : before.0 ≡ j = one_first before.0 j c a.d b.d a.given b.given a.found b.found a.first b.first in
        let less = before.2 in
        absurd (omega (arith, same, less))

  -- nothing is to be settled of a circuit that no part is of
  pub none_settles : (c : ℕ) → is_named topology ds c ≡ false → list_any (is_of c) (take (length parts) parts) ≡ false
  none_settles c none = by (list_any (is_of c) (take (length parts) parts)) refl where
    by : (b : Bool) → list_any (is_of c) (take (length parts) parts) ≡ b → list_any (is_of c) (take (length parts) parts) ≡ false
    by false is = is
    by true is =
        let one = any_found (is_of c) parts (length parts) is in
        let its = of_is c one.1 one.4 in
        let s = settles_at one.0 c its.0 (one.3 ∙ ap Some its.1) in
        let inside = slice_get_within ds one.0 s.d s.given in
        let named_there = any_there (λ x. is_circuit c (addressee topology x)) ds (length ds) one.0 s.d inside s.given (ap (is_circuit c) s.found ∙ same_number c) in
        absurd (not_both (sym (ap (λ xs. is_named topology xs c) (take_all (length ds) ds (omega arith))) ∙ named_there) none)

  pub saver : (n : ℕ) → n < length (savings_of parts) → Saves topology ds old new parts n
  saver n less =
      let r = gives_at saving_in parts n less in
      let s = saves_is r.x r.y r.gives in
      let at : slice_get parts r.index ≡ Some (Some (Ok (s.0, s.1))) = r.there ∙ ap Some s.2 in
      let its = settles_at r.index s.0 s.1 at in
      let there : slice_get (savings_of parts) n ≡ Some r.y = subst (λ m. slice_get (savings_of parts) m ≡ Some r.y) r.place (placed saving_in parts r.index r.x r.y r.there r.gives) in
      record {
        j = r.index;
        c = s.0;
        prepared = s.1;
        s = r.y;
        at = at;
        settles = its;
        saving = s.3;
        place = r.place;
        is = get_or_from_slice_get (savings_of parts) n r.y no_part there;
        region = own_region its.part its.d (server_state old s.0) (server_state new s.0) s.1 r.y its.prepared_so s.3;
      }

  -- ---- no two are to one region

  module _ (sound : IsTopology topology) where
    one_place : (n m : ℕ) → Saves topology ds old new parts n → Saves topology ds old new parts m → (part_at (savings_of parts) n).region ≡ (part_at (savings_of parts) m).region → n ≡ m
    one_place n m a b same =
        let regions : a.settles.part.region ≡ b.settles.part.region = sym (ap (λ (s : Saving). s.region) a.is ∙ a.region) ∙ same ∙ (ap (λ (s : Saving). s.region) b.is ∙ b.region) in
        let circuits : a.c ≡ b.c = sound.regions a.c b.c a.settles.part b.settles.part a.settles.there b.settles.there regions in
        let indices : a.j ≡ b.j = one_first a.j b.j b.c a.settles.d b.settles.d a.settles.given b.settles.given (a.settles.found ∙ ap Ok circuits) b.settles.found
        (subst (λ c. is_named topology (take a.j ds) c ≡ false) circuits a.settles.first) b.settles.first in
        sym a.place ∙ (ap (place_of parts) indices ∙ b.place)

    pub apart_savings : AreApart (savings_of parts)
    apart_savings n m less inside same =
        let equal = one_place n m (saver n (omega (arith, less, inside))) (saver m inside) same in
        absurd (omega (arith, equal, less))

  -- what each has to be before it is saved
  pub ready_savings : (tells : Bool) (device : Device) → ((c : ℕ) (part : CircuitPart) → slice_get topology.circuits c ≡ Some part → part.region < device.count)
      → ((c : ℕ) (part : CircuitPart) → slice_get topology.circuits c ≡ Some part → tells ≡ true → IsReadyFor (device.region part.region) (server_state old c)) → AreReady tells device (savings_of parts)
  ready_savings tells device exist ready n less =
      let a = saver n less in
      let p = a.settles in
      subst (IsReady tells device) (sym a.is)
      (subst (λ s. IfSome s (IsReady tells device)) a.saving
      (prepared_ready p.part p.d (server_state old a.c) (server_state new a.c) a.prepared p.prepared_so tells device (exist a.c p.part p.there) (ready a.c p.part p.there)))

-- ---- and where they save

part_saved : (topology : Topology) (earlier : List DeliveryValue) (d : DeliveryValue) (old new : States) (books : List (Option Book)) (p : Part) → IsDecided topology earlier d old new p
    → ((c : ℕ) (part : CircuitPart) → slice_get topology.circuits c ≡ Some part → slice_get books c ≡ Some (option_map open_book (server_state old c)))
    → part_saves topology earlier d books ≡ option_map (λ (s : Saving). s.region) (saving_in (Some p))
part_saved topology earlier d old new books (Err why) (inl none) shown =
    ap (λ r. if comes_again topology earlier r then None else addressee_saves topology d books r) none
part_saved topology earlier d old new books (Err why) (inr (inl again)) shown =
    ap (λ r. if comes_again topology earlier r then None else addressee_saves topology d books r) again.1.1
    ∙ ap (λ b. if b then None else addressee_saves topology d books (Ok again.1.0)) again.1.2
part_saved topology earlier d old new books (Err why) (inr (inr dropped)) shown =
    let c = dropped.0 in
    ap (λ r. if comes_again topology earlier r then None else received_saves topology d books) dropped.2.found
    ∙ ap (λ b. if b then None else received_saves topology d books) dropped.2.first
    ∙ saves_at topology d c dropped.1 dropped.2.found dropped.3 books (option_map open_book (server_state old c)) (shown c dropped.1 dropped.3)
    ∙ dropped.4.saves
part_saved topology earlier d old new books (Ok (c, prepared)) m shown =
    ap (λ r. if comes_again topology earlier r then None else received_saves topology d books) m.1.found
    ∙ ap (λ b. if b then None else received_saves topology d books) m.1.first
    ∙ saves_at topology d c m.0 m.1.found m.2 books (option_map open_book (server_state old c)) (shown c m.0 m.2)
    ∙ saves_so (case m.0 d (server_state old c) (server_state new c) prepared m.3)
    ∙ saves_where m.0 d (server_state old c) (server_state new c) prepared m.3

map_option : (o : Option Saving) (ss : List Saving) → regions_of (cons_option o ss) ≡ cons_option (option_map (λ (s : Saving). s.region) o) (regions_of ss)
map_option None ss = refl
map_option (Some s) ss = refl

saved_from : (topology : Topology) (books : List (Option Book)) (earlier ds : List DeliveryValue) (parts : List (Option Part)) → length parts ≡ length ds
    → ((j : ℕ) (d : DeliveryValue) → slice_get ds j ≡ Some d → (x : Option Part) × (slice_get parts j ≡ Some x) × (part_saves topology (earlier ++ take j ds) d books ≡ option_map (λ (s : Saving). s.region) (saving_in x)))
    → saved_after topology books earlier ds ≡ regions_of (savings_of parts)
saved_from topology books earlier [] [] size each = refl
saved_from topology books earlier [] (x ∷ parts) size each = absurd (omega (arith, size))
saved_from topology books earlier (d ∷ ds) [] size each = absurd (omega (arith, size))
saved_from topology books earlier (d ∷ ds) (x ∷ parts) size each =
    let here = each 0 d refl in
    let own = ap (λ e. part_saves topology e d books) (sym (append-nil earlier)) ∙ here.2 ∙ ap (λ y. option_map (λ (s : Saving). s.region) (saving_in y)) (sym (same_Some x here.0 here.1)) in
    ap (λ o. cons_option o (saved_after topology books (earlier ++ d ∷ []) ds)) own
    ∙ ap (cons_option (option_map (λ (s : Saving). s.region) (saving_in x)))
    (saved_from topology books (earlier ++ d ∷ []) ds parts (omega (arith, size))
    (λ j e there.
    let next = each (suc j) e there in
    (next.0, next.1, ap (λ before. part_saves topology before e books) (append_assoc earlier (d ∷ []) (take j ds)) ∙ next.2)))
    ∙ sym (map_option (saving_in x) (savings_of parts))

-- the regions that a batch saves to
pub saves_are : (topology : Topology) (ds : List DeliveryValue) (i : ℕ) (named : List ℕ) (old new : States) (parts : List (Option Part)) (books : List (Option Book)) → length ds ≡ i → AreDecided topology ds i named old new parts
    → ((c : ℕ) (part : CircuitPart) → slice_get topology.circuits c ≡ Some part → slice_get books c ≡ Some (option_map open_book (server_state old c)))
    → batch_saves topology ds books ≡ regions_of (savings_of parts)
saves_are topology ds i named old new parts books whole made shown =
    saved_from topology books [] ds parts (made.count ∙ sym whole)
    (λ j d there.
    let inside = slice_get_within ds j d there in
    let one = made.each j d (omega (arith, inside, whole)) there in
    (Some one.0, one.1, part_saved topology (take j ds) d old new books one.0 one.2 shown))
