-- The lines before all events.
use Rattle.std.proofs.Common.{◌≡◌, ℕ, ◌+◌, ◌<◌, ◌⊎◌, inl, inr, Bool, true, false, cond, eqb, eqb-true, eq-eqb, List, [], ◌∷◌, ◌++◌, length, map, take, drop, refl, ap, sym, subst, ◌∙◌, arith, append_assoc, append-nil, length-append, take-append-drop, take_all}
use Rattle.std.specs.Prelude.{⊤, ◌-◌, nat_lt, if◌then◌else◌, Option, Some, None, slice_get, slice_index, option_map}
use Rattle.std.specs.Io.KnownBytes.{Consumes, IsAtEnd, Keeps, prepend_known}
use Rattle.std.proofs.KnownBytes.{Consumes-kept, prepend_known-nil}
use Rattle.std.proofs.lemmas.Bool.{cases_eq}
use Rattle.std.proofs.lemmas.List.{length-take-le}
use Rattle.std.proofs.lemmas.Option.{same_Some, slice_get-map}
use Rattle.config.specs.CircuitPart.{CircuitPart, part_in, part_of, source_at}
use Rattle.config.specs.Rules.{IsSound}
use Rattle.config.specs.Membership.{IsMembership, MembershipValue}
use Rattle.config.specs.Plans.{PlansValue}
use Rattle.settings.specs.Settings.{Settings}
use Rattle.settings.specs.declared.settings.CircuitConfig.{CircuitConfig}
use Rattle.config.proofs.MembershipLemmas.{is_membership}
use Rattle.config.proofs.TopologyLemmas.{regions_differ}
use Rattle.lease_disk.specs.Crash.{filled, formatted_region, IsFormattedOld}
use Rattle.lease_disk.specs.Crash as crash
use Rattle.lease_disk.specs.Device.{Device, ChangesOne}
use Rattle.lease_disk.specs.Layout.{formatted_old}
use Rattle.lease_disk.specs.Model.{ModelDiskValue, SameBut, device_of, failing_call_of, region_of, disk_region}
use Rattle.lease_disk.specs.Region.{Region, is_within}
use Rattle.world.specs.Alone.{Setup, setup_of}
use Rattle.world.specs.Headline.{CircuitState}
use Rattle.world.specs.Start.{Opening, begins_on, setup_in}
use Rattle.world.proofs.SetupLemmas.{its_part, setup_at}
use Rattle.lab_text.specs.declared.parse_line.Preparation.{Preparation}
use Rattle.streams.specs.declared.line.LineEnd.{LineEnd}
use Rattle.streams.specs.declared.line.LineEnd.TheVariants.{Newline, EndOfInput, TooLong}
use Rattle.lab_engine.specs.Preparations.{IsReady, IsDiskReadyFor, AreReady, AreWithin, IsOpening, AreOver, ArePrepared, PreparedSoFar, StaysReady}
use Rattle.lab_engine.specs.Next.{IsHeld}
use Rattle.lab_engine.specs.Progress.{AllRepresent, SoFar}
use Rattle.lab_engine.specs.declared.buffers.Buffers.{Buffers}
use Rattle.lab_engine.specs.Lab.{first_machines, first_openings, lab_from, lab_output, loaded, or_begin, output_from, prepared, with_opening}
use Rattle.lab_text.specs.Line.{line_of_text}
use Rattle.streams.specs.LineEnd.{Fits, HoldsLine, HoldsLast, HoldsLong, IsLast, IsLine, IsLineRead}
use Rattle.streams.specs.Lines.{lacks, lines_of}
use Rattle.lab_text.specs.ParsedLine.{line_of_preparation}
use Rattle.streams.proofs.CutLemmas.{line_before, line_begins, line_last}
use Rattle.lab_engine.proofs.LineResultLemmas.{long_is}
use Rattle.streams.proofs.ReadLemmas.{consumes_none, consumes_more}
use Rattle.streams.proofs.WriteLemmas.{appends_none}

-- ---- the regions

formatted_ready : (r : Region) → r ≡ formatted_region → IsReady r
formatted_ready r is = subst IsReady (sym is) (record { readable = refl; clean = record { each = λ i. refl } })

pub formatted_are_ready : (count : ℕ) (regions : ℕ → Region) → ((q : ℕ) → q < count → regions q ≡ formatted_region) → AreReady count regions
formatted_are_ready count regions formatted = λ q inside. formatted_ready (regions q) (formatted q inside)

-- before the first line
pub formatted_over : (plans : PlansValue) (quota count : ℕ) (device : Device) → ((c : ℕ) (part : CircuitPart) → part_in plans.union c ≡ Some part → part.region < count)
    → ((q : ℕ) → q < count → device.region q ≡ formatted_region) → ((q : ℕ) → q < count → device.failing_call q ≡ 0) → AreOver plans quota device first_openings
formatted_over plans quota count device within formatted none = record {
  each = λ c setup h.
      let inside = within c setup.part (its_part plans quota c setup h) in
      record {
        byte = λ i l. ap (λ (r : Region). r.byte i) (sym (formatted setup.part.region inside));
        move_fault = sym (none setup.part.region inside);
      };
}

-- one region changes, and nothing else
abbrev Changes : ℕ → ModelDiskValue → ModelDiskValue → Type 0
Changes region old new = ChangesOne true region (device_of old) (device_of new)

pub but_one : (region : ℕ) (old new : ModelDiskValue) → SameBut region old new → Changes region old new
but_one region old new others = record { count = others.count; region = λ tells q apart. ap region_of (others.others q apart); failing_call = λ tells q apart. others.failing_calls q apart }

pub ready_after : (region : ℕ) (old new : ModelDiskValue) → Changes region old new → (IsReady (disk_region old region) → IsReady (disk_region new region))
    → AreReady (length old.regions) (disk_region old) → StaysReady old new
ready_after region old new changes here ready = record { regions = changes.count; ready = λ q inside. by q (let e = changes.count in omega arith) (cases_eq q region) } where
  by : (q : ℕ) → q < length old.regions → (q ≡ region) ⊎ (q ≡ region → ⊥) → IsReady (disk_region new q)
  by q within (inl same) = subst (λ p. IsReady (disk_region new p)) (sym same) (here (subst (λ p. IsReady (disk_region old p)) same (ready q within)))
  by q within (inr apart) = subst IsReady (sym (changes.region refl q apart)) (ready q within)

-- a disk that changed twice
pub ready_twice : (old between new : ModelDiskValue) → StaysReady old between → StaysReady between new → StaysReady old new
ready_twice old between new first second = record { regions = second.regions ∙ first.regions; ready = second.ready }

-- it is ready for the same circuits
pub ready_for : (settings : Settings) (old new : ModelDiskValue) → AreWithin settings (length old.regions) → StaysReady old new → IsDiskReadyFor settings new
ready_for settings old new within stays = record { regions = subst (AreWithin settings) (sym stays.regions) within; ready = stays.ready }

-- the line that was read, which was not parsed
pub not_parsed : (plans : PlansValue) (buffers : Buffers) (bytes : List ℕ) (left : Option (List ℕ)) (end : LineEnd) → IsLineRead bytes left end → IsHeld plans buffers bytes end None
not_parsed plans buffers bytes left end read = record { within = read.within; inside = read.inside; parsed = tt }

pub fill_ready : (byte : ℕ) (old new : Region) → new ≡ filled byte old → IsReady old → IsReady new
fill_ready byte old new state before = subst IsReady (sym state) (record { readable = before.readable; clean = record { each = before.clean.each } })

pub old_ready : (old new : Region) → IsFormattedOld new → new.readable ≡ old.readable → IsReady old → IsReady new
old_ready old new formatted same before = record { readable = same ∙ before.readable; clean = formatted.clean }

pub load_ready : (at : ℕ) (bytes : List ℕ) (old new : Region) → new ≡ crash.loaded at bytes old → IsReady old → IsReady new
load_ready at bytes old new state before = subst IsReady (sym state) (record { readable = before.readable; clean = record { each = before.clean.each } })

pub move_ready : (old new : Region) → new ≡ old → IsReady old → IsReady new
move_ready old new state before = subst IsReady (sym state) before

-- one plan that has all circuits
abbrev one_of : Settings → MembershipValue
one_of settings = record { count = 1; members = map (λ (circuit : CircuitConfig). true ∷ []) settings.circuits; plan = 0 }

one_is : (settings : Settings) → IsMembership (length settings.circuits) (one_of settings)
one_is settings = is_membership (λ (circuit : CircuitConfig). true ∷ []) settings.circuits 1 (omega arith) (omega arith) (λ i d within. refl)

-- the opening of circuit c's region and of every other
opening_at : (plans : PlansValue) (quota c d region : ℕ) (one : CircuitPart) (other : Setup) (old new : ModelDiskValue) (next : Opening) (openings : ℕ → Opening) (t : Bool) → IsSound plans.union
    → eqb c d ≡ t → part_in plans.union c ≡ Some one → setup_in plans quota d ≡ Some other → one.region ≡ region
    → Changes region old new → IsOpening (device_of new) region next → IsOpening (device_of old) other.part.region (openings d)
    → IsOpening (device_of new) other.part.region (cond t next (openings d))
opening_at plans quota c d region one other old new next openings true sound e is there at changes opening over =
    let same : c ≡ d = eqb-true c d e in
    let part : part_in plans.union c ≡ Some other.part = ap (part_in plans.union) same ∙ its_part plans quota d other there in
    let place : other.part.region ≡ region = ap (λ (p : CircuitPart). p.region) (same_Some _ _ (sym part ∙ is)) ∙ at in
    subst (λ r. IsOpening (device_of new) r next) (sym place) opening
opening_at plans quota c d region one other old new next openings false sound e is there at changes opening over =
    let apart : other.part.region ≡ region → ⊥ = λ same.
    let f : true ≡ false = sym (eq-eqb c d (regions_differ plans.union (one_of plans.union) sound (one_is plans.union) c d one other.part is (its_part plans quota d other there) (at ∙ sym same))) ∙ e in absurd (cc) in
    record {
      byte = λ i l. over.byte i l ∙ ap (λ (r : Region). r.byte i) (sym (changes.region refl other.part.region apart));
      move_fault = over.move_fault ∙ sym (changes.failing_call refl other.part.region apart);
    }

module _ (plans : PlansValue) (sound : IsSound plans.union) (c : ℕ) (circuit : CircuitConfig) (there : slice_get plans.union.circuits c ≡ Some circuit) where
  abbrev one : CircuitPart
  one = part_of circuit (source_at plans.union.relays circuit.relay) plans.union.server.listen4 plans.union.server.listen6 plans.union.server.duid.items

  is_part : part_in plans.union c ≡ Some one
  is_part =
      let values : CircuitConfig → CircuitPart = λ x. part_of x (source_at plans.union.relays x.relay) plans.union.server.listen4 plans.union.server.listen6 plans.union.server.duid.items in
      slice_get-map values plans.union.circuits c ∙ ap (option_map values) there

  module _ (quota : ℕ) (old new : ModelDiskValue) (changes : Changes circuit.region old new) (openings : ℕ → Opening) (over : AreOver plans quota (device_of old) openings) where
    over_after : (next : Opening) → (IsOpening (device_of old) circuit.region (openings c) → IsOpening (device_of new) circuit.region next) → AreOver plans quota (device_of new) (with_opening c next openings)
    over_after next here = record {
      each = λ d other h. opening_at plans quota c d circuit.region one other old new next openings (eqb c d) sound refl is_part h refl changes (here own) (over.each d other h);
    } where
      own : IsOpening (device_of old) circuit.region (openings c)
      own = over.each c (setup_of quota one (begins_on plans c)) (setup_at plans quota c one is_part)

    pub fill_over : (byte : ℕ) → disk_region new circuit.region ≡ filled byte (disk_region old circuit.region) → failing_call_of new circuit.region ≡ failing_call_of old circuit.region
        → AreOver plans quota (device_of new) (with_opening c (record (openings c) { byte = λ i. byte }) openings)
    fill_over byte state failing_call = over_after (record (openings c) { byte = λ i. byte }) (λ own. record {
      byte = λ i l. let few : nat_lt i 32768 ≡ true = grind (arith, l) in sym (ap (λ (r : Region). r.byte i) state ∙ ap (λ b. if b then byte else 0) few);
      move_fault = own.move_fault ∙ sym failing_call;
    })

    pub old_over : IsFormattedOld (disk_region new circuit.region) → failing_call_of new circuit.region ≡ failing_call_of old circuit.region
        → AreOver plans quota (device_of new) (with_opening c (record (openings c) { byte = formatted_old }) openings)
    old_over is failing_call = over_after (record (openings c) { byte = formatted_old }) (λ own. record {
      byte = λ i l. sym (is.byte i l);
      move_fault = own.move_fault ∙ sym failing_call;
    })

    pub load_over : (at : ℕ) (bytes : List ℕ) → disk_region new circuit.region ≡ crash.loaded at bytes (disk_region old circuit.region) → failing_call_of new circuit.region ≡ failing_call_of old circuit.region
        → AreOver plans quota (device_of new) (with_opening c (record (openings c) { byte = loaded at bytes (openings c).byte }) openings)
    load_over at bytes state failing_call = over_after (record (openings c) { byte = loaded at bytes (openings c).byte }) (λ own. record {
      byte = λ i l. ap (λ b. if is_within at (length bytes) i then slice_index bytes (i - at) else b) (own.byte i l) ∙ sym (ap (λ (r : Region). r.byte i) state);
      move_fault = own.move_fault ∙ sym failing_call;
    })

    pub move_over : (fault : ℕ) → disk_region new circuit.region ≡ disk_region old circuit.region → failing_call_of new circuit.region ≡ fault
        → AreOver plans quota (device_of new) (with_opening c (record (openings c) { move_fault = fault }) openings)
    move_over fault state failing_call = over_after (record (openings c) { move_fault = fault }) (λ own. record {
      byte = λ i l. own.byte i l ∙ sym (ap (λ (r : Region). r.byte i) state);
      move_fault = sym failing_call;
    })

-- the lines before events are these
pub prepared_as : (plans : PlansValue) (quota : ℕ) (device : Device) (parsed is : Preparation) (bytes : List ℕ) (openings : ℕ → Opening) → parsed ≡ is
    → ArePrepared plans quota device (prepared (line_of_preparation is bytes) openings) → ArePrepared plans quota device (prepared (line_of_preparation parsed bytes) openings)
prepared_as plans quota device parsed is bytes openings e h = subst (λ p. ArePrepared plans quota device (prepared (line_of_preparation p bytes) openings)) (sym e) h

-- ---- the text

one_line : (plans : PlansValue) (quota number : ℕ) (openings : ℕ → Opening) (line : List ℕ) (lines : List (List ℕ))
    → output_from plans quota number openings (line ∷ lines)
    ≡ or_begin (prepared (line_of_text plans.union plans.count line) openings) (λ next. output_from plans quota (number + 1) next lines) (lab_from plans quota number (first_machines plans quota openings) (line ∷ lines))
unfolding output_from
one_line plans quota number openings line lines = refl

no_line : (plans : PlansValue) (quota number : ℕ) (openings : ℕ → Opening) → output_from plans quota number openings [] ≡ record { text = []; status = 0 }
unfolding output_from
no_line plans quota number openings = refl

no_event : (plans : PlansValue) (quota number : ℕ) (openings : ℕ → Opening) → lab_from plans quota number (first_machines plans quota openings) [] ≡ record { text = []; status = 0 }
unfolding lab_from
no_event plans quota number openings = refl

no_lines : lines_of [] ≡ []
unfolding lines_of
no_lines = refl

-- nothing was read
pub prepared_first : (plans : PlansValue) (quota : ℕ) (given : Option (List ℕ)) (device : Device) → AreOver plans quota device first_openings
    → PreparedSoFar plans quota 1 false given given device (λ rest. ⊤)
prepared_first plans quota given device over = record {
  openings = first_openings;
  over = over;
  read = [];
  consumed = consumes_none given;
  whole = λ rest known. refl;
}

pub nothing_held : (plans : PlansValue) (quota : ℕ) (given : Option (List ℕ)) (none : List ℕ) (device : Device) → none ≡ [] → PreparedSoFar plans quota 1 false given given device (λ rest. ⊤)
    → PreparedSoFar plans quota 1 false given (prepend_known none given) device (λ rest. ⊤)
nothing_held plans quota given none device is s =
    subst (λ left. PreparedSoFar plans quota 1 false given left device (λ rest. ⊤)) (sym (ap (λ v. prepend_known v given) is ∙ prepend_known-nil given)) s

-- more is read ahead
pub prepared_kept : (plans : PlansValue) (quota number : ℕ) (begun : Bool) (given left left2 : Option (List ℕ)) (device : Device) (Known : List ℕ → Type 0)
    → PreparedSoFar plans quota number begun given left device Known → Keeps left left2 → PreparedSoFar plans quota number begun given left2 device Known
prepared_kept plans quota number begun given left left2 device Known s ahead = record {
  openings = s.openings;
  over = s.over;
  read = s.read;
  consumed = Consumes-kept given left left2 s.read s.consumed ahead;
  whole = s.whole;
}

-- what is applied before events
next_of : (plans : PlansValue) (quota : ℕ) (device : Device) (o : Option (ℕ → Opening)) → ArePrepared plans quota device o → (next : ℕ → Opening) × AreOver plans quota device next × (o ≡ Some next)
next_of plans quota device None h = absurd h
next_of plans quota device (Some next) over = (next, over, refl)

goes_on : (plans : PlansValue) (quota number : ℕ) (openings next : ℕ → Opening) (line : List ℕ) (lines : List (List ℕ)) → prepared (line_of_text plans.union plans.count line) openings ≡ Some next
    → output_from plans quota number openings (line ∷ lines) ≡ output_from plans quota (number + 1) next lines
goes_on plans quota number openings next line lines is =
    one_line plans quota number openings line lines
    ∙ ap (λ o. or_begin o (λ n. output_from plans quota (number + 1) n lines) (lab_from plans quota number (first_machines plans quota openings) (line ∷ lines))) is

-- one line more
pub prepared_next : (plans : PlansValue) (quota number : ℕ) (given left left2 : Option (List ℕ)) (device device2 : Device) (line : List ℕ)
    → PreparedSoFar plans quota number false given left device (λ rest. ⊤) → IsLine left left2 line
    → ((openings : ℕ → Opening) → AreOver plans quota device openings → ArePrepared plans quota device2 (prepared (line_of_text plans.union plans.count line) openings))
    → PreparedSoFar plans quota (number + 1) false given left2 device2 (λ rest. ⊤)
prepared_next plans quota number given left left2 device device2 line s read applies =
    let on = next_of plans quota device2 (prepared (line_of_text plans.union plans.count line) s.openings) (applies s.openings s.over) in
    record {
      openings = on.0;
      over = on.1;
      read = s.read ++ (line ++ 10 ∷ []);
      consumed = consumes_more given left left2 s.read (line ++ 10 ∷ []) s.consumed read.read;
      whole = λ rest known.
          ap (lab_output plans quota) (append_assoc s.read (line ++ 10 ∷ []) rest) ∙ s.whole ((line ++ 10 ∷ []) ++ rest) tt
          ∙ ap (λ text. output_from plans quota number s.openings (lines_of text)) (append_assoc line (10 ∷ []) rest)
          ∙ ap (output_from plans quota number s.openings) (line_before line rest read.plain)
          ∙ goes_on plans quota number s.openings on.0 line (lines_of rest) on.2;
    }

-- A line that is an event begins the run.
abbrev Begins : PlansValue → List ℕ → Type 0
Begins plans line = (openings : ℕ → Opening) → prepared (line_of_text plans.union plans.count line) openings ≡ None

begins_event : (plans : PlansValue) (quota number : ℕ) (openings : ℕ → Opening) (line : List ℕ) (lines : List (List ℕ)) → Begins plans line
    → output_from plans quota number openings (line ∷ lines) ≡ lab_from plans quota number (first_machines plans quota openings) (line ∷ lines)
begins_event plans quota number openings line lines e =
    one_line plans quota number openings line lines
    ∙ ap (λ o. or_begin o (λ next. output_from plans quota (number + 1) next lines) (lab_from plans quota number (first_machines plans quota openings) (line ∷ lines))) (e openings)

-- The rest of the text is all events.
abbrev pub IsBegun : PlansValue → ℕ → ℕ → (List ℕ → Type 0) → Type 0
IsBegun plans quota number Known =
    (openings : ℕ → Opening) (rest : List ℕ) → Known rest → output_from plans quota number openings (lines_of rest) ≡ lab_from plans quota number (first_machines plans quota openings) (lines_of rest)

pub begun_newline : (plans : PlansValue) (quota number : ℕ) (held : List ℕ) (len : ℕ) → HoldsLine held len → Begins plans (take len held) → IsBegun plans quota number (Fits held (Newline len))
begun_newline plans quota number held len holds e = λ openings rest known.
    let cut : lines_of rest ≡ take len held ∷ lines_of known.0 =
    ap lines_of (known.1 ∙ append_assoc (take len held) (10 ∷ []) known.0) ∙ line_before (take len held) known.0 holds.plain in
    ap (output_from plans quota number openings) cut ∙ begins_event plans quota number openings (take len held) (lines_of known.0) e ∙ sym (ap (lab_from plans quota number (first_machines plans quota openings)) cut)

last_begun : (plans : PlansValue) (quota number : ℕ) (held : List ℕ) → lacks 10 held ≡ true → Begins plans held
    → (openings : ℕ → Opening) → output_from plans quota number openings (lines_of held) ≡ lab_from plans quota number (first_machines plans quota openings) (lines_of held)
last_begun plans quota number [] plain e openings =
    ap (output_from plans quota number openings) no_lines ∙ no_line plans quota number openings
    ∙ sym (ap (lab_from plans quota number (first_machines plans quota openings)) no_lines ∙ no_event plans quota number openings)
last_begun plans quota number (b ∷ held) plain e openings =
    ap (output_from plans quota number openings) (line_last b held plain) ∙ begins_event plans quota number openings (b ∷ held) [] e
    ∙ sym (ap (lab_from plans quota number (first_machines plans quota openings)) (line_last b held plain))

pub begun_last : (plans : PlansValue) (quota number : ℕ) (held : List ℕ) (left : Option (List ℕ)) (len : ℕ) → HoldsLast held left len → Begins plans (take len held)
    → IsBegun plans quota number (Fits held (EndOfInput len))
begun_last plans quota number held left len holds e = λ openings rest known.
    let all : take len held ≡ held = take_all len held (let size = holds.size in omega arith) in
    subst (λ text. output_from plans quota number openings (lines_of text) ≡ lab_from plans quota number (first_machines plans quota openings) (lines_of text)) (sym known)
    (last_begun plans quota number held holds.plain (λ before. ap (λ text. prepared (line_of_text plans.union plans.count text) before) (sym all) ∙ e before) openings)

long_begun : (plans : PlansValue) (quota number : ℕ) (front rest : List ℕ) → lacks 10 front ≡ true → 8192 < length front
    → (openings : ℕ → Opening) → output_from plans quota number openings (lines_of (front ++ rest)) ≡ lab_from plans quota number (first_machines plans quota openings) (lines_of (front ++ rest))
long_begun plans quota number [] rest plain long openings = absurd (omega arith)
long_begun plans quota number (b ∷ front) rest plain long openings =
    let begins = line_begins b front rest plain in
    let line = (b ∷ front) ++ begins.more in
    let size = length-append (b ∷ front) begins.more in
    ap (output_from plans quota number openings) begins.is
    ∙ begins_event plans quota number openings line begins.others (λ before. ap (λ l. prepared l before) (long_is plans.union plans.count line (omega arith)))
    ∙ sym (ap (lab_from plans quota number (first_machines plans quota openings)) begins.is)

pub begun_long : (plans : PlansValue) (quota number : ℕ) (held : List ℕ) → HoldsLong held → IsBegun plans quota number (Fits held TooLong)
begun_long plans quota number held holds = λ openings rest known.
    let cut : take holds.size held ++ (drop holds.size held ++ known.0) ≡ rest =
    sym (append_assoc (take holds.size held) (drop holds.size held) known.0) ∙ ap (λ v. v ++ known.0) (take-append-drop holds.size held) ∙ sym known.1 in
    subst (λ text. output_from plans quota number openings (lines_of text) ≡ lab_from plans quota number (first_machines plans quota openings) (lines_of text)) cut
    (long_begun plans quota number (take holds.size held) (drop holds.size held ++ known.0) holds.plain
    (let e = length-take-le holds.size held holds.within in let f = holds.long in omega arith) openings)

pub prepared_begun : (plans : PlansValue) (quota number : ℕ) (given left : Option (List ℕ)) (device : Device) (Known : List ℕ → Type 0)
    → PreparedSoFar plans quota number false given left device (λ rest. ⊤) → IsBegun plans quota number Known → PreparedSoFar plans quota number true given left device Known
prepared_begun plans quota number given left device Known s begins = record {
  openings = s.openings;
  over = s.over;
  read = s.read;
  consumed = s.consumed;
  whole = λ rest known. s.whole rest tt ∙ begins s.openings rest known;
}

pub none_left : (bytes : List ℕ) → length bytes ≡ 0 → bytes ≡ []
none_left [] h = refl
none_left (b ∷ bytes) h = absurd (omega arith)

-- nothing is held at the end of the text
no_ten : lacks 10 [] ≡ true
unfolding lacks
no_ten = refl

pub nothing_more : (bytes : List ℕ) (left : Option (List ℕ)) → length bytes ≡ 0 → IsAtEnd left → HoldsLast bytes left 0
nothing_more bytes left none end = record { size = none; short = omega arith; plain = ap (lacks 10) (none_left bytes none) ∙ no_ten; end = end }

-- the last line, which is no event
last_on : (plans : PlansValue) (quota number : ℕ) (openings next : ℕ → Opening) (line : List ℕ) → lacks 10 line ≡ true
    → prepared (line_of_text plans.union plans.count line) openings ≡ Some next → output_from plans quota number openings (lines_of line) ≡ record { text = []; status = 0 }
last_on plans quota number openings next [] plain is = ap (output_from plans quota number openings) no_lines ∙ no_line plans quota number openings
last_on plans quota number openings next (b ∷ line) plain is =
    ap (output_from plans quota number openings) (line_last b line plain) ∙ goes_on plans quota number openings next (b ∷ line) [] is ∙ no_line plans quota (number + 1) next

pub prepared_last : (plans : PlansValue) (quota number : ℕ) (given left left2 : Option (List ℕ)) (device device2 : Device) (line none : List ℕ) → none ≡ []
    → PreparedSoFar plans quota number false given left device (λ rest. ⊤) → IsLast left left2 line
    → ((openings : ℕ → Opening) → AreOver plans quota device openings → ArePrepared plans quota device2 (prepared (line_of_text plans.union plans.count line) openings))
    → PreparedSoFar plans quota number true given (prepend_known none left2) device2 (Fits none (EndOfInput 0))
prepared_last plans quota number given left left2 device device2 line none is s read applies =
    let on = next_of plans quota device2 (prepared (line_of_text plans.union plans.count line) s.openings) (applies s.openings s.over) in
    record {
      openings = on.0;
      over = on.1;
      read = s.read ++ line;
      consumed =
          subst (λ o. Consumes given o (s.read ++ line)) (sym (ap (λ v. prepend_known v left2) is ∙ prepend_known-nil left2))
          (consumes_more given left left2 s.read line s.consumed read.part.read);
      whole = λ rest known.
          let end : rest ≡ [] = known ∙ is in
          ap (λ v. lab_output plans quota ((s.read ++ line) ++ v)) end ∙ ap (lab_output plans quota) (append-nil (s.read ++ line))
          ∙ s.whole line tt ∙ last_on plans quota number s.openings on.0 line read.part.plain on.2
          ∙ sym (ap (λ v. lab_from plans quota number (first_machines plans quota on.0) (lines_of v)) end ∙ ap (lab_from plans quota number (first_machines plans quota on.0)) no_lines ∙ no_event plans quota number on.0);
    }

-- ---- the opening

pub opened_so_far : (plans : PlansValue) (quota number : ℕ) (given left holds : Option (List ℕ)) (device : Device) (states : List CircuitState) (Known : List ℕ → Type 0)
    → PreparedSoFar plans quota number true given left device Known → ((openings : ℕ → Opening) → AreOver plans quota device openings → AllRepresent plans quota states (first_machines plans quota openings))
    → SoFar plans quota number (lab_output plans quota) given left holds holds states Known
opened_so_far plans quota number given left holds device states Known s represents = record {
  machines = first_machines plans quota s.openings;
  represents = represents s.openings s.over;
  read = s.read;
  consumed = s.consumed;
  written = [];
  appended = appends_none holds;
  whole = s.whole;
}
