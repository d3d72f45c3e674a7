-- What a save of an open circuit's slot leaves in its region, by which of its calls failed.
use Rattle.std.proofs.Common.{◌≡◌, ◌≢◌, ◌∙◌, ◌≤◌, ◌==◌, nat_le, ℕ, Bool, true, false, [], ◌∷◌, refl, sym, ap, subst, arith}
use Rattle.std.specs.Prelude.{Some}
use Rattle.std.proofs.lemmas.Bool.{eqb-true}
use Rattle.config.specs.CircuitPart.{CircuitPart}
use Rattle.lease_disk.specs.declared.content.Content.{Content}
use Rattle.lease_disk.specs.declared.marks.Marks.{Marks}
use Rattle.lease_disk.specs.Book.{IsBook}
use Rattle.lease_disk.specs.Recovered.{recovered}
use Rattle.lease_disk.specs.Region.{Region}
use Rattle.lease_disk.specs.Save.{IsChange, IsLeft, IsSaveOf, IsSaved, gate_at, mark_at}
use Rattle.circuit_server.specs.CircuitDecision.{IsToSave}
use Rattle.circuit_server.specs.CircuitServerValue.{HasPools, IsReadyFor, OpenCircuitValue, counts_in, kept_slots, open_book}
use Rattle.circuit_server.specs.Leases.{book_in, counts_of, formats_of, restarts_after, restarts_of}
use Rattle.circuit_server.specs.Server.{kept_book}
use Rattle.circuit_server.proofs.ComeBackLemmas.{formats_same}
use Rattle.circuit_server.proofs.SaveLemmas.{after_err, after_ok, all_kept4, all_kept6}

module _ (part : CircuitPart) (o : OpenCircuitValue) (s : ℕ) (content : Content) (left : Marks) (k : ℕ) (old new : Region) (pools : HasPools part (Some o)) (to_save : IsToSave old s content o)
    (book : IsBook (counts_in o) (kept_slots o)) (means : book_in part (kept_slots o) ≡ kept_book (open_book o)) (save : IsSaveOf k o.clock s content o.marks left old new) where
  abbrev gate : ℕ
  gate = gate_at s (mark_at o.marks s)

  counts : counts_in o ≡ counts_of part
  counts = λ i. (pools.0 i).count ∷ (pools.1 i).count ∷ []

  change : IsChange (counts_in o) o.clock s content to_save.slots
  change = record { later = to_save.later; below = to_save.below; book = subst (IsBook (counts_in o)) (sym to_save.kept) book }

  saved : k ≡ 0 → IsSaved (counts_in o) (kept_slots o) new
  saved none = subst (λ slots. IsSaved (counts_in o) slots new) to_save.kept (save.saved none (counts_in o) to_save.slots to_save.recovers change)

  failed : k ≢ 0 → IsLeft k gate (Some to_save.slots) (Some (kept_slots o)) (counts_in o) new
  failed some = subst (λ slots. IsLeft k gate (Some to_save.slots) (Some slots) (counts_in o) new) to_save.kept (save.failed some (counts_in o) to_save.slots to_save.recovers change)

  was : recovered (counts_of part) old.byte ≡ Some to_save.slots
  was = ap (λ cs. recovered cs old.byte) (sym counts) ∙ to_save.recovers

  pub saved_restarts : k ≤ 6 → restarts_of part new ≡ restarts_after k (open_book o) (restarts_of part old)
  saved_restarts most = by (k == 0) refl where
    by : (z : Bool) → (k == 0) ≡ z → restarts_of part new ≡ restarts_after k (open_book o) (restarts_of part old)
    by true is =
        let none : k ≡ 0 = eqb-true k 0 is in
        subst (λ n. restarts_of part new ≡ restarts_after n (open_book o) (restarts_of part old)) (sym none)
        (after_ok part (open_book o) to_save.slots (kept_slots o) old new was means (subst (λ cs. IsSaved cs (kept_slots o) new) counts (saved none)))
    by false is =
        let some : k ≢ 0 = λ none. absurd (grind (arith, none, is)) in
        let few : nat_le k 6 ≡ true = grind (arith, most) in
        after_err part (open_book o) to_save.slots (kept_slots o) old new was means k gate to_save.clean
        (subst (λ cs. IsLeft k gate (Some to_save.slots) (Some (kept_slots o)) cs new) counts (failed some)) true few is

  pub saved_ready : k ≡ 0 → IsReadyFor new (Some (record o { marks = left }))
  saved_ready none = (
    (saved none).clean,
    save.marks none (counts_in o) to_save.marks,
    record {
      slots = kept_slots o;
      recovers = (saved none).kept;
      later = omega arith;
      four = all_kept4 o.clock (kept_slots o).four book.live4;
      six = all_kept6 o.clock (kept_slots o).six book.live6;
    },
    save.format,
  )

  pub saved_formats : formats_of new ≡ formats_of old
  saved_formats = formats_same s (mark_at o.marks s) old new save.beside
