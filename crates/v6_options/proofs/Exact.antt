-- Reading returns a list exactly where the bytes spell it, and a fault exactly where they have it.
use Rattle.std.proofs.Common.{◌≡◌, ℕ, Bool, true, false, List, [], ◌∷◌, ◌++◌, Result, Ok, Err, refl, sym, ap, ◌∙◌, append_assoc}
use Rattle.std.specs.Prelude.{◌↔◌}
use Rattle.std.proofs.lemmas.List.{append-nil}
use Rattle.v6_options.specs.declared.fault.OptFault.{OptFault}
use Rattle.v6_options.specs.declared.fault.OptFault.TheVariants.{Cut}
use Rattle.v6_options.specs.Spelling.{option, spelling, AreOptions, Spells, Fails}
use Rattle.v6_options.specs.Reading.{listed_from, listed, cut_from, options_of}
use Rattle.v6_options.proofs.Steps.{listed_nothing, cut_nothing, listed_whole, cut_whole, cut_cut}
use Rattle.v6_options.proofs.Fronts.{AreSmall, Ends, longest}
use Rattle.v6_options.proofs.Results.{one_ok, ok_or_err}

-- ---- from what bytes spell to the result

pub listed_front : (list : List (ℕ × List ℕ)) (rest : List ℕ) → AreOptions list → listed_from 0 (spelling list ++ rest) ≡ list ++ listed_from 0 rest
listed_front [] rest h = refl
listed_front (o ∷ os) rest h =
    ap (listed_from 0) (append_assoc (option o.0 o.1) (spelling os) rest)
    ∙ listed_whole o.0 o.1 (spelling os ++ rest) h.0 h.1
    ∙ ap (λ (t : List (ℕ × List ℕ)). (o.0, o.1) ∷ t) (listed_front os rest h.2)

pub cut_front : (list : List (ℕ × List ℕ)) (rest : List ℕ) → AreOptions list → cut_from 0 (spelling list ++ rest) ≡ cut_from 0 rest
cut_front [] rest h = refl
cut_front (o ∷ os) rest h =
    ap (cut_from 0) (append_assoc (option o.0 o.1) (spelling os) rest) ∙ cut_whole o.0 o.1 (spelling os ++ rest) h.1 ∙ cut_front os rest h.2

abbrev ok : List (ℕ × List ℕ) → Result (List (ℕ × List ℕ)) OptFault
ok list = Ok list

abbrev err : OptFault → Result (List (ℕ × List ℕ)) OptFault
err fault = Err fault

pub read_spells : (bytes : List ℕ) (list : List (ℕ × List ℕ)) → Spells bytes list → options_of bytes ≡ ok list
read_spells bytes list s =
    let all : bytes ≡ spelling list ++ [] = s.whole ∙ sym (append-nil (spelling list)) in
    let whole : cut_from 0 bytes ≡ false = ap (cut_from 0) all ∙ cut_front list [] s.options ∙ cut_nothing in
    let same : listed bytes ≡ list = ap listed all ∙ listed_front list [] s.options ∙ ap (λ (t : List (ℕ × List ℕ)). list ++ t) listed_nothing ∙ append-nil list in
    rw (whole, same) refl

pub read_fails : (bytes : List ℕ) (fault : OptFault) → Fails fault bytes → options_of bytes ≡ err fault
read_fails bytes Cut f =
    let cut : cut_from 0 bytes ≡ true = ap (cut_from 0) f.whole ∙ cut_front f.front f.rest f.options ∙ cut_cut f.rest f.stops in
    rw cut refl

-- ---- from bytes to the result

abbrev Is : List ℕ → Result (List (ℕ × List ℕ)) OptFault → Type 0
Is bytes (Ok list) = Spells bytes list
Is bytes (Err fault) = Fails fault bytes

is_read : (bytes : List ℕ) (b : Bool) (front : List (ℕ × List ℕ)) (rest : List ℕ) → bytes ≡ spelling front ++ rest → AreOptions front → Ends b rest → Is bytes (options_of bytes)
is_read bytes false front rest whole options ends =
    let all : bytes ≡ spelling front = whole ∙ ap (λ (t : List ℕ). spelling front ++ t) ends ∙ append-nil (spelling front) in
    let s : Spells bytes front = record { whole = all; options = options } in
    rw (read_spells bytes front s) s
is_read bytes true front rest whole options ends =
    let f : Fails Cut bytes = record { front = front; rest = rest; whole = whole; options = options; stops = ends } in
    rw (read_fails bytes Cut f) f

pub read_is : (bytes : List ℕ) → AreSmall bytes → Is bytes (options_of bytes)
read_is bytes small = let l = longest 0 bytes small in is_read bytes l.is_cut l.front l.rest l.whole l.options l.ends

-- ---- both ways

pub spelled : (bytes : List ℕ) → AreSmall bytes → (list : List (ℕ × List ℕ)) → options_of bytes ≡ ok list ↔ Spells bytes list
spelled bytes small list = (λ e. rw e at (read_is bytes small), read_spells bytes list)

pub fails : (bytes : List ℕ) → AreSmall bytes → (fault : OptFault) → options_of bytes ≡ err fault ↔ Fails fault bytes
fails bytes small fault = (λ e. rw e at (read_is bytes small), read_fails bytes fault)

pub one_list : (bytes : List ℕ) (a b : List (ℕ × List ℕ)) → Spells bytes a → Spells bytes b → a ≡ b
one_list bytes a b p q = one_ok (options_of bytes) a b (read_spells bytes a p) (read_spells bytes b q)

pub never_both : (bytes : List ℕ) (list : List (ℕ × List ℕ)) (fault : OptFault) → Spells bytes list → Fails fault bytes → ⊥
never_both bytes list fault p q = ok_or_err (options_of bytes) list fault (read_spells bytes list p) (read_fails bytes fault q)

-- ---- a list that was written

pub written_spells : (list : List (ℕ × List ℕ)) → AreOptions list → Spells (spelling list) list
written_spells list h = record { whole = refl; options = h }

pub written_is_read : (list : List (ℕ × List ℕ)) → AreOptions list → options_of (spelling list) ≡ ok list
written_is_read list h = read_spells (spelling list) list (written_spells list h)
