-- A trace read line by line, up to its end or to the first line with a cause.
use Rattle.std.proofs.Common.{◌≡◌, ℕ, ◌+◌, true, false, Option, Some, None, Result, Ok, Err, IfOk, IfErr, IfSome, List, [], ◌∷◌, ◌++◌, length, map, inl, inr, refl, sym, ap, subst, ◌∙◌, append_assoc, append-nil}
use Rattle.std.proofs.lemmas.Bool.{both_ways, false_from_ne_true}
use Rattle.pv_audit.specs.Entries.{Entry, said, printed, entries, plain, printed_first, said_in}
use Rattle.pv_audit.specs.Printed as printing
use Rattle.pv_audit.specs.Printed.{AreNamed, ArePrinted}
use Rattle.pv_audit.specs.Reading.{ComeNext, IsEntryFault, TakesEntry, declared, happened, malformed, cut_short, no_form, printed_at, texts_of}
use Rattle.pv_audit.specs.TraceFaults.{HasEntryCause, HasFirstTraceCause, LacksSites}
use Rattle.pv_audit.specs.Traces as traces
use Rattle.pv_audit.specs.Traces.{AreParts, IsTrace, IsWhole, Trace, TracePart}
use Rattle.pv_audit.specs.Views.{IsNoTraceAt, RefusedEntry}
use Rattle.pv_audit.proofs.EntryLemmas.{plain-append}
use Rattle.pv_audit.proofs.FaultLemmas.{NoneIn, first-cause, no-fault, none-more, none-parts, one-fault}
use Rattle.pv_audit.proofs.NamedLemmas.{named-after, named-first}
use Rattle.pv_audit.proofs.OneTraceLemmas.{one-trace}
use Rattle.pv_audit.proofs.PartLemmas.{event-clean, first-printed, lines-of, parts-append, printed-clean}
use Rattle.pv_base.specs.Catalog.{Declared}
use Rattle.pv_law_schedules.proofs.LineFormLemmas.{kinds-differ, none-some-sites}
use Rattle.pv_law_schedules.proofs.OneScheduleLemmas.{one-lines}
use Rattle.pv_law_schedules.proofs.SomeScheduleLemmas.{keeps, keeps-script}
use Rattle.pv_model.specs.Events.{Event}
use Rattle.pv_model.specs.LineCauses.{Before, LineCause, at_first, declared_by, not_a_trace, sites_expected}
use Rattle.pv_model.specs.LineForms.{scheduled}
use Rattle.pv_model.specs.Schedule as schedule
use Rattle.pv_model.specs.Schedule.{AreLines, Declares, IsEvent, with_event}
use Rattle.pv_model.specs.Text.{TextLine, lines}
use Rattle.pv_protocol.specs.Lines.{Line}

-- an event comes behind the count of sites
abbrev pub IsBehindSites : Before → Type 0
IsBehindSites before = before.begun ≡ true → (n : ℕ) × (before.sites ≡ Some n)

-- A text is read up to the entries that are left.
pub record IsReadTo (text : List ℕ) (left : List (ℕ × Entry)) (before : Before) (parts : List TracePart) : Type 0 where
  pub passed : List (ℕ × Entry)
  pub split : entries text ≡ passed ++ left
  pub are : AreParts (at_first scheduled) (plain passed) parts before
  pub quiet : before.begun ≡ true → printed_first (plain left) ≡ []
  pub behind : IsBehindSites before
  pub named : AreNamed (declared_by before)

pub unread-text : (text : List ℕ) → IsReadTo text (entries text) (at_first scheduled) []
unread-text text = record {
  passed = [];
  split = refl;
  are = traces.none (at_first scheduled);
  quiet = λ begun. absurd (let no : ⊥ = cc in no);
  behind = λ begun. absurd (let no : ⊥ = cc in no);
  named = named-first;
}

-- ---- lines of the schedule among entries

said-append : (front behind : List Entry) → said_in (front ++ behind) ≡ said_in front ++ said_in behind
said-append [] behind = refl
said-append (said line ∷ front) behind = ap (λ (l : List TextLine). line ∷ l) (said-append front behind)
said-append (printed line ∷ front) behind = said-append front behind

lines-append : {start middle last : Before} {front behind : List TextLine} {events more : List Event} → AreLines start front events middle → AreLines middle behind more last
    → AreLines start (front ++ behind) (events ++ more) last
lines-append (schedule.none start) next = next
lines-append {last = last} {behind = behind} {more = more} (schedule.declaration start after middle line lines events declares rest) next =
    schedule.declaration start after last line (lines ++ behind) (events ++ more) declares (lines-append rest next)
lines-append {last = last} {behind = behind} {more = more} (schedule.event start middle line lines e events is rest) next =
    schedule.event start last line (lines ++ behind) e (events ++ more) is (lines-append rest next)

-- One more line of the schedule is passed,
lines-said : (passed : List (ℕ × Entry)) (number : ℕ) (line : TextLine) (events : List Event) (before : Before) (e : Event)
    → AreLines (at_first scheduled) (said_in (plain passed)) events before → IsEvent before line e
    → AreLines (at_first scheduled) (said_in (plain (passed ++ (number, said line) ∷ []))) (events ++ e ∷ []) (with_event before)
lines-said passed number line events before e are is =
    subst (λ (l : List TextLine). AreLines (at_first scheduled) l (events ++ e ∷ []) (with_event before))
    (sym (ap said_in (plain-append passed ((number, said line) ∷ [])) ∙ said-append (plain passed) (said line ∷ [])))
    (lines-append are (schedule.event before (with_event before) line [] e [] is (schedule.none (with_event before))))

-- or one more printed line.
lines-printed : (passed : List (ℕ × Entry)) (x : ℕ × TextLine) (events : List Event) (before : Before) → AreLines (at_first scheduled) (said_in (plain passed)) events before
    → AreLines (at_first scheduled) (said_in (plain (passed ++ printed_at x ∷ []))) events before
lines-printed passed x events before are =
    subst (λ (l : List TextLine). AreLines (at_first scheduled) l events before)
    (sym (ap said_in (plain-append passed (printed_at x ∷ [])) ∙ said-append (plain passed) (printed x.1 ∷ []) ∙ append-nil (said_in (plain passed)))) are

-- Printed lines below an event that are forms have no cause.
record IsClean (passed left : List (ℕ × Entry)) (events : List Event) (before : Before) : Type 0 where
  pub are : AreLines (at_first scheduled) (said_in (plain passed)) events before
  pub none : NoneIn passed left

clean-printed : (passed : List (ℕ × Entry)) (front : List (ℕ × TextLine)) (left : List (ℕ × Entry)) (events : List Event) (before : Before) (lines : List Line)
    → IsClean passed (map printed_at front ++ left) events before → before.begun ≡ true → ArePrinted (declared_by before) (texts_of front) lines
    → IsClean (passed ++ map printed_at front) left events before
clean-printed passed [] left events before lines clean begun forms =
    subst (λ (l : List (ℕ × Entry)). IsClean l left events before) (sym (append-nil passed)) clean
clean-printed passed (x ∷ front) left events before [] clean begun forms = elim forms [ ]
clean-printed passed (x ∷ front) left events before (l ∷ lines) clean begun (printing.more t l2 ts ls first rest) =
    subst (λ (all : List (ℕ × Entry)). IsClean all left events before) (append_assoc passed (printed_at x ∷ []) (map printed_at front))
    (clean-printed (passed ++ printed_at x ∷ []) front left events before lines (record {
      are = lines-printed passed x events before clean.are;
      none = none-more passed (printed_at x) (map printed_at front ++ left) clean.none (λ others b are cause has.
          let same : b ≡ before = (one-lines are clean.are).1 in
          printed-clean before x.1 (plain (map printed_at front ++ left)) cause begun (l, first)
          (subst (λ (b : Before). HasEntryCause b (printed x.1) (plain (map printed_at front ++ left)) cause) same has));
    }) begun rest)

-- ---- one line more

plain-printed : (below : List (ℕ × TextLine)) → plain (map printed_at below) ≡ map printed (texts_of below)
plain-printed [] = refl
plain-printed (x ∷ below) = ap (λ (l : List Entry). printed x.1 ∷ l) (plain-printed below)

-- The printed lines that come next are the first.
pub next-texts : (below : List (ℕ × TextLine)) (rest left : List (ℕ × Entry)) → ComeNext below rest left → printed_first (plain rest) ≡ texts_of below
next-texts below rest left next =
    ap (λ (l : List (ℕ × Entry)). printed_first (plain l)) next.split ∙ ap printed_first (plain-append (map printed_at below) left)
    ∙ ap (λ (l : List Entry). printed_first (l ++ plain left)) (plain-printed below) ∙ first-printed (texts_of below) (plain left) next.all

-- Whoever declares in a schedule has no event before.
pub declares-early : (before after : Before) (line : TextLine) → before.script ≡ scheduled → IsBehindSites before → Declares before line after → after.begun ≡ true → ⊥
declares-early before after line kind behind (inl x) begun =
    let said = behind (ap (λ (b : Before). b.begun) (sym x.same) ∙ begun) in none-some-sites before.sites said.0 said.1 x.first
declares-early before after line kind behind (inr (inl x)) begun = both_ways before.begun x.early (ap (λ (b : Before). b.begun) (sym x.same) ∙ begun)
declares-early before after line kind behind (inr (inr (inl x))) begun = both_ways before.begun x.early (ap (λ (b : Before). b.begun) (sym x.same) ∙ begun)
declares-early before after line kind behind (inr (inr (inr (inl x)))) begun = kinds-differ (sym kind ∙ x.kind)
declares-early before after line kind behind (inr (inr (inr (inr (inl x))))) begun = kinds-differ (sym kind ∙ x.kind)
declares-early before after line kind behind (inr (inr (inr (inr (inr (inl x)))))) begun = kinds-differ (sym kind ∙ x.kind)
declares-early before after line kind behind (inr (inr (inr (inr (inr (inr x)))))) begun = kinds-differ (sym kind ∙ x.kind)

-- Lines of a schedule say nothing else.
pub same-script : {start last : Before} {entries : List Entry} {parts : List TracePart} → AreParts start entries parts last → last.script ≡ start.script
same-script (traces.none start) = refl
same-script (traces.declaration start after last line entries parts declares more) = same-script more ∙ keeps-script start after line declares
same-script (traces.event start last line texts entries e lines parts is whole forms more) = same-script more

module _ (text : List ℕ) (number : ℕ) (line : TextLine) (rest : List (ℕ × Entry)) (before : Before) (parts : List TracePart)
    (read : IsReadTo text ((number, said line) ∷ rest) before parts) where
  parted : (front : List (ℕ × TextLine)) (x : ℕ × TextLine) (behind : List (ℕ × TextLine)) (left : List (ℕ × Entry))
      → map printed_at (front ++ x ∷ behind) ++ left ≡ map printed_at front ++ printed_at x ∷ (map printed_at behind ++ left)
  parted [] x behind left = refl
  parted (y ∷ front) x behind left = ap (λ (l : List (ℕ × Entry)). printed_at y ∷ l) (parted front x behind left)

  passes : (more : List (ℕ × Entry)) (left : List (ℕ × Entry)) → rest ≡ more ++ left → entries text ≡ (read.passed ++ (number, said line) ∷ more) ++ left
  passes more left split =
      read.split ∙ ap (λ (l : List (ℕ × Entry)). read.passed ++ (number, said line) ∷ l) split ∙ sym (append_assoc read.passed ((number, said line) ∷ more) left)

  pub read-more : (after : Before) (left : List (ℕ × Entry)) (more : List TracePart) → TakesEntry before line rest after left more → IsReadTo text left after (parts ++ more)
  read-more after left more (declared after2 declares) = record {
    passed = read.passed ++ (number, said line) ∷ [];
    split = passes [] rest refl;
    are = subst (λ (l : List Entry). AreParts (at_first scheduled) l (parts ++ []) after) (sym (plain-append read.passed ((number, said line) ∷ [])))
        (parts-append read.are (traces.declaration before after after line [] [] declares (traces.none after)));
    quiet = λ begun. absurd (declares-early before after line (same-script read.are) read.behind declares begun);
    behind = λ begun. absurd (declares-early before after line (same-script read.are) read.behind declares begun);
    named = named-after before after line declares read.named;
  }
  read-more after left more (happened e below left2 printed_lines is next whole forms) = record {
    passed = read.passed ++ (number, said line) ∷ map printed_at below;
    split = passes (map printed_at below) left next.split;
    are = subst (λ (l : List Entry). AreParts (at_first scheduled) l (parts ++ more) (with_event before))
        (ap (λ (l : List Entry). plain read.passed ++ said line ∷ l) (append-nil (map printed (texts_of below)) ∙ sym (plain-printed below))
        ∙ sym (plain-append read.passed ((number, said line) ∷ map printed_at below)))
        (parts-append read.are (traces.event before (with_event before) line (texts_of below) [] e printed_lines [] is whole forms (traces.none (with_event before))));
    quiet = λ begun. next.all;
    behind = λ begun. (is.sites, is.said);
    named = read.named;
  }

  here : NoneIn read.passed ((number, said line) ∷ rest)
  here = none-parts read.passed ((number, said line) ∷ rest) parts before read.are (λ begun. refl)

  abbrev events : List Event
  events = map (λ (part : TracePart). part.event) parts

  -- Below an event whose lines are whole.
  clean-event : (e : Event) (below : List (ℕ × TextLine)) (left : List (ℕ × Entry)) → IsEvent before line e → ComeNext below rest left → IsWhole (declared_by before) e (texts_of below)
      → IsClean (read.passed ++ (number, said line) ∷ []) rest (events ++ e ∷ []) (with_event before)
  clean-event e below left is next whole = record {
    are = lines-said read.passed number line events before e (lines-of read.are) is;
    none = none-more read.passed (number, said line) rest here (λ others b are cause has.
        let same : b ≡ before = (one-lines are (lines-of read.are)).1 in
        let texts = next-texts below rest left next in
        event-clean before line e (plain rest) cause is (subst (λ (l : List TextLine). IsWhole (declared_by before) e l) (sym texts) whole)
        (subst (λ (b : Before). HasEntryCause b (said line) (plain rest) cause) same has));
  }

  pub read-fault : (other : ℕ) (cause : LineCause) → IsEntryFault before number line rest other cause → HasFirstTraceCause text other cause
  read-fault other cause (malformed c first) =
      first-cause text read.passed (number, said line) rest events before cause read.split (lines-of read.are) (inl first) here
  read-fault other cause (cut_short cut) =
      first-cause text read.passed (number, said line) rest events before not_a_trace read.split (lines-of read.are) (inr (refl, cut)) here
  read-fault other cause (no_form e below left printed_lines o more is next whole broken) =
      let behind : List (ℕ × Entry) = map printed_at broken.behind ++ left in
      let split : rest ≡ map printed_at broken.front ++ (other, printed broken.text) ∷ behind =
      next.split ∙ ap (λ (l : List (ℕ × TextLine)). map printed_at l ++ left) broken.split ∙ parted broken.front (other, broken.text) broken.behind left in
      let clean = clean-printed (read.passed ++ (number, said line) ∷ []) broken.front ((other, printed broken.text) ∷ behind) (events ++ e ∷ []) (with_event before) printed_lines
      (subst (λ (l : List (ℕ × Entry)). IsClean (read.passed ++ (number, said line) ∷ []) l (events ++ e ∷ []) (with_event before)) split (clean-event e below left is next whole))
      refl broken.forms in
      let whole_text : entries text ≡ ((read.passed ++ (number, said line) ∷ []) ++ map printed_at broken.front) ++ (other, printed broken.text) ∷ behind =
      passes [] rest refl ∙ ap (λ (l : List (ℕ × Entry)). (read.passed ++ (number, said line) ∷ []) ++ l) split
      ∙ sym (append_assoc (read.passed ++ (number, said line) ∷ []) (map printed_at broken.front) ((other, printed broken.text) ∷ behind)) in
      first-cause text ((read.passed ++ (number, said line) ∷ []) ++ map printed_at broken.front) (other, printed broken.text) behind (events ++ e ∷ []) (with_event before) not_a_trace
      whole_text clean.are (refl, inr broken.none) clean.none

-- ---- a printed line before the first event

pub early-fault : (text : List ℕ) (number : ℕ) (line : TextLine) (rest : List (ℕ × Entry)) (before : Before) (parts : List TracePart)
    → IsReadTo text ((number, printed line) ∷ rest) before parts → HasFirstTraceCause text number not_a_trace
early-fault text number line rest before parts read =
    let early : before.begun ≡ false = false_from_ne_true before.begun (λ begun. let never = read.quiet begun in let no : ⊥ = cc in no) in
    first-cause text read.passed (number, printed line) rest (map (λ (part : TracePart). part.event) parts) before not_a_trace read.split (lines-of read.are) (refl, inl early)
    (none-parts read.passed ((number, printed line) ∷ rest) parts before read.are read.quiet)

-- ---- the end

pub trace-read : (text : List ℕ) (left : List (ℕ × Entry)) (before : Before) (parts : List TracePart) (catalog : Declared) (sites : ℕ) → IsReadTo text left before parts → left ≡ []
    → before.sites ≡ Some sites → catalog ≡ declared_by before → IsTrace text (record { catalog = catalog; parts = parts })
trace-read text left before parts catalog sites read none some is =
    let all : entries text ≡ read.passed = read.split ∙ ap (λ (l : List (ℕ × Entry)). read.passed ++ l) none ∙ append-nil read.passed in
    record {
      last = before;
      are = subst (λ (l : List (ℕ × Entry)). AreParts (at_first scheduled) (plain l) parts before) (sym all) read.are;
      sites = sites;
      said = some;
      catalog = is;
    }

-- Where something is said, the count of sites is.
said-after : {start last : Before} {entries : List Entry} {parts : List TracePart} → ((n : ℕ) × (start.sites ≡ Some n)) → AreParts start entries parts last → (n : ℕ) × (last.sites ≡ Some n)
said-after some (traces.none start) = some
said-after some (traces.declaration start after last line entries parts declares more) = said-after (keeps start after line declares) more
said-after some (traces.event start last line texts entries e lines parts is whole forms more) = said-after (is.sites, is.said) more

nothing-passed : (passed : List (ℕ × Entry)) (parts : List TracePart) (last : Before) → AreParts (at_first scheduled) (plain passed) parts last → last.sites ≡ None → passed ≡ []
nothing-passed [] parts last are none = refl
nothing-passed (x ∷ passed) parts last are none = absurd (go are none)
  where
    go : {entry : Entry} {behind : List Entry} {made : List TracePart} {end : Before} → AreParts (at_first scheduled) (entry ∷ behind) made end → end.sites ≡ None → ⊥
    go (traces.declaration start after end line behind made declares more) lacks =
        let some = said-after (keeps start after line declares) more in none-some-sites end.sites some.0 some.1 lacks
    go (traces.event start end line texts behind e ls made is whole forms more) lacks =
        let some = said-after (is.sites, is.said) more in none-some-sites end.sites some.0 some.1 lacks

pub nothing-read : (text : List ℕ) (left : List (ℕ × Entry)) (before : Before) (parts : List TracePart) (number : ℕ) → IsReadTo text left before parts → left ≡ []
    → before ≡ at_first scheduled → number ≡ length (lines text) + 1 → LacksSites text number sites_expected
nothing-read text left before parts number read none is after = record {
  empty = read.split ∙ ap (λ (l : List (ℕ × Entry)). read.passed ++ l) none ∙ append-nil read.passed
      ∙ nothing-passed read.passed parts before read.are (ap (λ (b : Before). b.sites) is);
  place = after;
  is = refl;
}

-- ---- what the call answers

module _ {X E : Type 0} (text : List ℕ) (view : X → Trace) (fault_of : E → Option RefusedEntry) where
  reported-nothing : (reported : Option RefusedEntry) → IfSome reported (IsNoTraceAt text) → (trace : Trace) → IsTrace text trace → reported ≡ None
  reported-nothing (Some refused) is trace has = absurd (no-fault text trace refused has is)
  reported-nothing None is trace has = refl

  reported-the-fault : (reported : Option RefusedEntry) → IfSome reported (IsNoTraceAt text) → (refused : RefusedEntry) → IsNoTraceAt text refused
      → IfSome reported (λ other. other ≡ refused)
  reported-the-fault (Some other) is refused has = one-fault text other refused is has
  reported-the-fault None is refused has = tt

  -- What is given is the only trace,
  pub gives-trace : (result : Result X E) → IfOk result (λ x. IsTrace text (view x)) → IfErr result (λ e. IfSome (fault_of e) (IsNoTraceAt text))
      → (trace : Trace) → IsTrace text trace → IfOk result (λ x. view x ≡ trace) × IfErr result (λ e. fault_of e ≡ None)
  gives-trace (Ok x) given refused trace is = (one-trace text (view x) trace given is, tt)
  gives-trace (Err e) given refused trace is = (tt, reported-nothing (fault_of e) refused trace is)

  -- and what is reported the only fault.
  pub refuses-text : (result : Result X E) → IfOk result (λ x. IsTrace text (view x)) → IfErr result (λ e. IfSome (fault_of e) (IsNoTraceAt text))
      → (refused : RefusedEntry) → IsNoTraceAt text refused → IfOk result (λ _. ⊥) × IfErr result (λ e. IfSome (fault_of e) (λ reported. reported ≡ refused))
  refuses-text (Ok x) given refused fault is = (no-fault text (view x) fault given is, tt)
  refuses-text (Err e) given refused fault is = (tt, reported-the-fault (fault_of e) refused fault is)
