-- What an opening makes of a region depends on the region's 32768 bytes alone.
use Rattle.std.proofs.Common.{◌≡◌, ℕ, ◌+◌, ◌<◌, Bool, true, false, List, refl, sym, ap, ◌∙◌, arith}
use Rattle.std.specs.Prelude.{◌==◌, Option, Some, option_map}
use Rattle.circuit_server.specs.Leases.{book_in, counts_of}
use Rattle.lease_disk.specs.Layout.{half_at, half2, is_format2}
use Rattle.lease_disk.specs.Recovered.{recovered, slot4_of, slot6_of, entry_of}
use Rattle.lease_disk.specs.declared.half.Half.{Half}
use Rattle.lease_disk.specs.declared.half.Half.TheVariants.{First, Second}
use Rattle.lease_disk.proofs.Changes.{book_alike}
use Rattle.lease_disk.proofs.Halves.{as_format2, entry2, recovered2, same_bytes}
use Rattle.lease_disk.proofs.Reading.{same_banks}
use Rattle.world.specs.Alone.{Setup, start}
use Rattle.world.specs.Start.{Opening, opened}

module _ (f g : ℕ → ℕ) (same : (i : ℕ) → i < 32768 → g i ≡ f i) where
  same_half : (s : ℕ) (h : Half) → s < 32 → half2 g s h ≡ half2 f s h
  same_half s First few = same_bytes f g s First (λ i l. same (half_at s First + i) (omega (arith, few, l)))
  same_half s Second few = same_bytes f g s Second (λ i l. same (half_at s Second + i) (omega (arith, few, l)))

  same_entry : {A : Type 0} → (read : (ℕ → ℕ) → Option A) (s : ℕ) → s < 32 → entry2 read g s ≡ entry2 read f s
  same_entry read s few = let a = same_half s First few in let b = same_half s Second few in λ j. entry_of read (a j) (b j)

  pub same_format : is_format2 g ≡ is_format2 f
  same_format = ap (λ b. b == 2) (same 8192 (omega arith))

  same_book2 : (counts : List ℕ) → recovered2 counts g ≡ recovered2 counts f
  unfolding recovered2
  same_book2 counts = book_alike counts (Some 0) (entry2 slot4_of f) (entry2 slot4_of g) (entry2 slot6_of f) (entry2 slot6_of g) (same_entry slot4_of) (same_entry slot6_of)

  same_book : (counts : List ℕ) (two : Bool) → is_format2 f ≡ two → recovered counts g ≡ recovered counts f
  same_book counts true e = as_format2 counts g (same_format ∙ e) ∙ same_book2 counts ∙ sym (as_format2 counts f e)
  same_book counts false e = same_banks counts f g e (same_format ∙ e) (λ i l. same i (omega (arith, l)))

pub same_opened : (setup : Setup) (one other : Opening) → ((i : ℕ) → i < 32768 → other.byte i ≡ one.byte i) → other.move_fault ≡ one.move_fault → opened setup other ≡ opened setup one
same_opened setup one other bytes fault =
    let found : recovered (counts_of setup.part) other.byte ≡ recovered (counts_of setup.part) one.byte = same_book one.byte other.byte bytes (counts_of setup.part) (is_format2 one.byte) refl in
    let format : is_format2 other.byte ≡ is_format2 one.byte = same_format one.byte other.byte bytes in
    λ j. start setup.begins_on (fault j) (option_map (book_in setup.part) (found j)) (format j)
