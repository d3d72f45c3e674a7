-- Each test of an option decides what it tests.
use Rattle.std.proofs.Common.{◌≡◌, ℕ, ◌+◌, ◌≤◌, inl, inr, Bool, true, false, cond, eqb, leb, List, [], ◌∷◌, ◌++◌, length, take, drop, refl, sym, ap, ◌∙◌, arith, append_assoc, lit<, subst}
use Rattle.std.specs.Bool.{Decides}
use Rattle.std.proofs.Math.Seq.{take-append_seam, drop-append_seam}
use Rattle.std.proofs.lemmas.Bool.{le-leb, leb-true, eqb-true, eqb-false, cases_lt}
use Rattle.std.proofs.lemmas.List.{append-nil, length-take, get_or-drop, get_or-take, get_or_past}
use Rattle.v6_options.specs.Codes.{IA_NA, IA_ADDRESS}
use Rattle.v6_options.specs.Spelling.{option, spelling, AreOptions, Spells}
use Rattle.v6_options.specs.Reading.{listed, cut_from}
use Rattle.v6_options.proofs.Steps.{cut_nothing}
use Rattle.v6_options.proofs.Exact.{cut_front}
use Rattle.v6_options.proofs.Exact as options_exact
use Rattle.v6_options.proofs.Fronts.{AreSmall}
use Rattle.v6_options.proofs.Fronts as bytes_of
use Rattle.v6_message.specs.declared.scan.Sender.TheVariants.{Client}
use Rattle.v6_message.specs.Layout.{IA_OPTIONS, IA_ADDRESS_OPTIONS}
use Rattle.v6_message.specs.Lists.{AreLong, IsIa, IsFormed, AreFormed}
use Rattle.v6_message.specs.Reading.{is_long, are_long, is_ia, is_formed}
use Rattle.v6_message.proofs.Fronts.{AreDecided, AreTrue}
use Rattle.v6_message.proofs.Lists.{listed_spells, listed_of}

-- A test of the options with one code.
implied : (m n : ℕ) (b : Bool) (P : Type 0) → Decides b P → Decides (cond (eqb m n) b true) ((m ≡ n) → P)
implied m n b P d = by (eqb m n) refl where
  by : (c : Bool) → eqb m n ≡ c → Decides (cond c b true) ((m ≡ n) → P)
  by true e = (λ h is. d.0 h, λ p. d.1 (p (eqb-true m n e)))
  by false e = (λ h is. absurd (eqb-false m n e is), λ p. refl)

both : (a b : Bool) {P Q : Type 0} → Decides a P → Decides b Q → Decides (cond a b false) (P × Q)
both true b d k = (λ h. (d.0 refl, k.0 h), λ p. k.1 p.1)
both false b d k = (λ h. absurd cc, λ p. d.1 p.0)

long : (code : ℕ) (value : List ℕ) → Decides (is_long code value) ((code ≡ IA_ADDRESS) → IA_ADDRESS_OPTIONS ≤ length value)
long code value = implied code IA_ADDRESS (leb IA_ADDRESS_OPTIONS (length value)) (IA_ADDRESS_OPTIONS ≤ length value) (leb-true IA_ADDRESS_OPTIONS (length value), le-leb IA_ADDRESS_OPTIONS (length value))

pub longs : (list : List (ℕ × List ℕ)) → Decides (are_long list) (AreLong list)
longs [] = (λ h. tt, λ p. refl)
longs (o ∷ os) = both (is_long o.0 o.1) (are_long os) (long o.0 o.1) (longs os)

pub small_drop : (n : ℕ) (bytes : List ℕ) → AreSmall bytes → AreSmall (drop n bytes)
small_drop n bytes small i = rw (get_or-drop n bytes i 0) (small (n + i))

small_take : (n : ℕ) (bytes : List ℕ) → AreSmall bytes → AreSmall (take n bytes)
small_take n bytes small i =
    elim (cases_lt i n) [
      | inl lt ↦ rw (get_or-take n bytes i 0 lt) (small i)
      | inr le ↦ rw (get_or_past (take n bytes) i 0 (omega (arith, length-take n bytes, le))) (lit< tt)
    ]

uncut_spells : (bytes : List ℕ) (list : List (ℕ × List ℕ)) → Spells bytes list → cut_from 0 bytes ≡ false
uncut_spells bytes list p = ap (cut_from 0) (p.whole ∙ sym (append-nil (spelling list))) ∙ cut_front list [] p.options ∙ cut_nothing

ia_from : (value : List ℕ) → AreSmall value → (a b : Bool) → leb IA_OPTIONS (length value) ≡ a → cut_from 0 (drop IA_OPTIONS value) ≡ b → cond a (cond b false (are_long (listed (drop IA_OPTIONS value)))) false ≡ true → IsIa value
ia_from value small false b e g h = absurd cc
ia_from value small true true e g h = absurd cc
ia_from value small true false e g h = record {
  long = leb-true IA_OPTIONS (length value) e;
  list = listed (drop IA_OPTIONS value);
  spelled = (options_exact.spelled (drop IA_OPTIONS value) (small_drop IA_OPTIONS value small) (listed (drop IA_OPTIONS value))).0 (rw g refl);
  addresses = (longs (listed (drop IA_OPTIONS value))).0 h;
}

pub ia_true : (value : List ℕ) → IsIa value → is_ia value ≡ true
ia_true value p =
    rw (le-leb IA_OPTIONS (length value) p.long, uncut_spells (drop IA_OPTIONS value) p.list p.spelled, listed_spells (drop IA_OPTIONS value) p.list p.spelled) ((longs p.list).1 p.addresses)

pub ia : (value : List ℕ) → AreSmall value → Decides (is_ia value) (IsIa value)
ia value small = (λ h. ia_from value small (leb IA_OPTIONS (length value)) (cut_from 0 (drop IA_OPTIONS value)) refl refl h, ia_true value)

-- What is formed passes its test, whatever numbers stand for its bytes.
formed_true : (code : ℕ) (value : List ℕ) → IsFormed Client code value → is_formed Client code value ≡ true
formed_true code value p = by (eqb code IA_NA) refl where
  by : (b : Bool) → eqb code IA_NA ≡ b → cond b (is_ia value) true ≡ true
  by true e = ia_true value (p (eqb-true code IA_NA e))
  by false e = refl

pub all_true : (list : List (ℕ × List ℕ)) → AreFormed Client list → AreTrue Client list
all_true [] f = tt
all_true (o ∷ os) f = (formed_true o.0 o.1 f.0, all_true os f.1)

decided : (list : List (ℕ × List ℕ)) (rest : List ℕ) → AreSmall (spelling list ++ rest) → AreDecided Client list
decided [] rest small = tt
decided (o ∷ os) rest small =
    let seam : (option o.0 o.1 ++ spelling os) ++ rest ≡ option o.0 o.1 ++ (spelling os ++ rest) = append_assoc (option o.0 o.1) (spelling os) rest in
    let all : AreSmall (option o.0 o.1 ++ (spelling os ++ rest)) = subst AreSmall seam small in
    let behind : AreSmall (o.1 ++ (spelling os ++ rest)) = small_drop 4 (option o.0 o.1 ++ (spelling os ++ rest)) all in
    let value : AreSmall o.1 = subst AreSmall (take-append_seam o.1 (spelling os ++ rest)) (small_take (length o.1) (o.1 ++ (spelling os ++ rest)) behind) in
    let more : AreSmall (spelling os ++ rest) = subst AreSmall (drop-append_seam o.1 (spelling os ++ rest)) (small_drop (length o.1) (o.1 ++ (spelling os ++ rest)) behind) in
    (implied o.0 IA_NA (is_ia o.1) (IsIa o.1) (ia o.1 value), decided os rest more)

-- Of bytes, each option is decided.
pub all_decided : (bytes : List ℕ) → AreSmall bytes → AreDecided Client (listed bytes)
all_decided bytes small =
    let b = bytes_of.longest 0 bytes small in
    by b.is_cut b.front b.rest b.whole b.options b.ends
  where
    by : (cut : Bool) (front : List (ℕ × List ℕ)) (rest : List ℕ) → bytes ≡ spelling front ++ rest → AreOptions front → bytes_of.Ends cut rest → AreDecided Client (listed bytes)
    by cut front rest whole options ends = rw (listed_of bytes cut front rest whole options ends) (decided front rest (subst AreSmall whole small))
