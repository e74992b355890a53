-- No line of a trace has a cause.
use Rattle.std.proofs.Common.{◌≡◌, ◌⊎◌, ⊎_elim, true, List, [], ◌∷◌, ◌++◌, map, inl, inr, refl, sym, ap, subst, ◌∙◌, append_assoc}
use Rattle.std.specs.List.{Contains}
use Rattle.std.proofs.lemmas.Bool.{both_ways}
use Rattle.pv_audit.specs.Entries.{Entry, said, printed, said_in, printed_first}
use Rattle.pv_audit.specs.Printed.{ArePrinted, IsPrintedForm}
use Rattle.pv_audit.specs.Printed as printing
use Rattle.pv_audit.specs.TraceFaults.{HasEntryCause}
use Rattle.pv_audit.specs.Traces.{AreParts, none, declaration, event, IsWhole, TracePart}
use Rattle.pv_base.specs.Catalog.{Declared}
use Rattle.pv_base.proofs.ContainsLemmas.{Contains-nil, Contains-first, Contains-behind, Contains-cases}
use Rattle.pv_law_schedules.proofs.LineLawLemmas.{no-cause-event, no-cause-declared}
use Rattle.pv_law_schedules.proofs.OneEventLemmas.{one-event, not-both}
use Rattle.pv_law_schedules.proofs.OneScheduleLemmas.{goes, one-step, stays}
use Rattle.pv_model.specs.Events.{Event}
use Rattle.pv_model.specs.LineCauses.{Before, declared_by, LineCause}
use Rattle.pv_model.specs.Schedule as lines
use Rattle.pv_model.specs.Schedule.{AreLines, Declares, IsEvent, with_event}
use Rattle.pv_model.specs.Text.{TextLine}
use Rattle.pv_protocol.specs.Lines.{Line}

-- ---- printed lines among entries

said-printed : (texts : List TextLine) (entries : List Entry) → said_in (map printed texts ++ entries) ≡ said_in entries
said-printed [] entries = refl
said-printed (text ∷ texts) entries = said-printed texts entries

pub first-printed : (texts : List TextLine) (entries : List Entry) → printed_first entries ≡ [] → printed_first (map printed texts ++ entries) ≡ texts
first-printed [] entries quiet = quiet
first-printed (text ∷ texts) entries quiet = ap (λ (l : List TextLine). text ∷ l) (first-printed texts entries quiet)

form-at : {catalog : Declared} {texts : List TextLine} {lines : List Line} → ArePrinted catalog texts lines → (text : TextLine) → Contains texts text → IsPrintedForm catalog text
form-at printing.none text has = absurd (Contains-nil text has)
form-at {catalog} (printing.more t l texts lines first rest) text has =
    ⊎_elim (λ (same : t ≡ text). subst (λ (x : TextLine). IsPrintedForm catalog x) same (l, first)) (λ (behind : Contains texts text). form-at rest text behind)
    (Contains-cases t texts text has)

-- An entry stands among printed lines, or behind them.
abbrev Stands : List TextLine → List Entry → List Entry → Entry → List Entry → Type 0
Stands texts entries front entry behind =
    ((text : TextLine) × (entry ≡ printed text) × (said_in front ≡ []) × Contains texts text)
    ⊎ ((later : List Entry) × (said_in front ≡ said_in later) × (entries ≡ later ++ entry ∷ behind))

further : (text : TextLine) (texts : List TextLine) (entries : List Entry) (x : Entry) (front : List Entry) (entry : Entry) (behind : List Entry) → x ≡ printed text
    → Stands texts entries front entry behind → Stands (text ∷ texts) entries (x ∷ front) entry behind
further text texts entries x front entry behind head (inl among) =
    inl (among.0, among.1, ap (λ (y : Entry). said_in (y ∷ front)) head ∙ among.2, Contains-behind text texts among.0 among.3)
further text texts entries x front entry behind head (inr later) = inr (later.0, ap (λ (y : Entry). said_in (y ∷ front)) head ∙ later.1, later.2)

stands : (texts : List TextLine) (entries front : List Entry) (entry : Entry) (behind : List Entry) → map printed texts ++ entries ≡ front ++ entry ∷ behind
    → Stands texts entries front entry behind
stands [] entries front entry behind split = inr (front, refl, split)
stands (text ∷ texts) entries [] entry behind split =
    let head : entry ≡ printed text = cc in
    inl (text, head, refl, Contains-first text texts)
stands (text ∷ texts) entries (x ∷ front) entry behind split =
    let head : x ≡ printed text = cc in
    let tail : map printed texts ++ entries ≡ front ++ entry ∷ behind = cc in
    further text texts entries x front entry behind head (stands texts entries front entry behind tail)

-- ---- what comes first behind an event

pub begun-after : (before after : Before) (line : TextLine) → Declares before line after → before.begun ≡ true → after.begun ≡ true
begun-after before after line (inl x) begun = ap (λ (b : Before). b.begun) x.same ∙ begun
begun-after before after line (inr (inl x)) begun = ap (λ (b : Before). b.begun) x.same ∙ begun
begun-after before after line (inr (inr (inl x))) begun = ap (λ (b : Before). b.begun) x.same ∙ begun
begun-after before after line (inr (inr (inr (inl x)))) begun = ap (λ (b : Before). b.begun) x.same ∙ begun
begun-after before after line (inr (inr (inr (inr (inl x))))) begun = ap (λ (b : Before). b.begun) x.same
begun-after before after line (inr (inr (inr (inr (inr (inl x)))))) begun = ap (λ (b : Before). b.begun) x.same ∙ begun
begun-after before after line (inr (inr (inr (inr (inr (inr x)))))) begun = ap (λ (b : Before). b.begun) x.same ∙ begun

-- Nothing printed comes first behind entries that are parts behind an event, where nothing does behind them.
quiet-first : {before last : Before} {entries : List Entry} {parts : List TracePart} → AreParts before entries parts last → before.begun ≡ true → (rest : List Entry)
    → (last.begun ≡ true → printed_first rest ≡ []) → printed_first (entries ++ rest) ≡ []
quiet-first (none before) begun rest quiet = quiet begun
quiet-first (declaration before after last line entries parts declares behind) begun rest quiet = refl
quiet-first (event before last line texts entries e lines parts is whole forms behind) begun rest quiet = refl

-- ---- no causes

declared-clean : (before after : Before) (line : TextLine) (behind : List Entry) (cause : LineCause) → Declares before line after → HasEntryCause before (said line) behind cause → ⊥
declared-clean before after line behind cause declares (inl first) = no-cause-declared cause declares first.has
declared-clean before after line behind cause declares (inr cut) = not-both cut.1.is declares

pub event-clean : (before : Before) (line : TextLine) (e : Event) (behind : List Entry) (cause : LineCause) → IsEvent before line e → IsWhole (declared_by before) e (printed_first behind)
    → HasEntryCause before (said line) behind cause → ⊥
event-clean before line e behind cause is whole (inl first) = no-cause-event cause is first.has
event-clean before line e behind cause is whole (inr cut) =
    cut.1.short (subst (λ (x : Event). IsWhole (declared_by before) x (printed_first behind)) (one-event is cut.1.is) whole)

pub printed-clean : (before : Before) (text : TextLine) (behind : List Entry) (cause : LineCause) → before.begun ≡ true → IsPrintedForm (declared_by before) text
    → HasEntryCause before (printed text) behind cause → ⊥
printed-clean before text behind cause begun form (same, inl early) = both_ways before.begun early begun
printed-clean before text behind cause begun form (same, inr isnt) = isnt form

-- No entry of a trace has a cause, where nothing printed comes behind the last event.
pub no-cause : {start last : Before} {entries : List Entry} {parts : List TracePart} → AreParts start entries parts last → (rest : List Entry)
    → (last.begun ≡ true → printed_first rest ≡ []) → (front : List Entry) (entry : Entry) (behind : List Entry) → entries ≡ front ++ entry ∷ behind
    → (events : List Event) (before : Before) → AreLines start (said_in front) events before → (cause : LineCause) → HasEntryCause before entry (behind ++ rest) cause → ⊥
no-cause (none start) rest quiet [] entry behind split events before are cause has = let never : ⊥ = cc in never
no-cause (none start) rest quiet (x ∷ front) entry behind split events before are cause has = let never : ⊥ = cc in never
no-cause (declaration start after last line entries parts declares more) rest quiet [] entry behind split events before are cause has =
    let head : entry ≡ said line = cc in
    let here : before ≡ start = sym (stays are) in
    declared-clean start after line (behind ++ rest) cause declares
    (subst (λ (b : Before). HasEntryCause b (said line) (behind ++ rest) cause) here (subst (λ (x : Entry). HasEntryCause before x (behind ++ rest) cause) head has))
no-cause (declaration start after last line entries parts declares more) rest quiet (x ∷ front) entry behind split events before are cause has =
    let head : x ≡ said line = cc in
    let tail : entries ≡ front ++ entry ∷ behind = cc in
    let gone = goes (subst (λ (y : Entry). AreLines start (said_in (y ∷ front)) events before) head are) in
    let same : gone.0 ≡ after = one-step start line gone.0 after gone.2 (inr declares) in
    no-cause more rest quiet front entry behind tail gone.1 before (subst (λ (b : Before). AreLines b (said_in front) gone.1 before) same gone.3) cause has
no-cause (event start last line texts entries e lines parts is whole forms more) rest quiet [] entry behind split events before are cause has =
    let head : entry ≡ said line = cc in
    let tail : behind ≡ map printed texts ++ entries = cc in
    let here : before ≡ start = sym (stays are) in
    let below : printed_first (behind ++ rest) ≡ texts =
    ap (λ (l : List Entry). printed_first (l ++ rest)) tail ∙ ap printed_first (append_assoc (map printed texts) entries rest)
    ∙ first-printed texts (entries ++ rest) (quiet-first more refl rest quiet) in
    event-clean start line e (behind ++ rest) cause is (subst (λ (l : List TextLine). IsWhole (declared_by start) e l) (sym below) whole)
    (subst (λ (b : Before). HasEntryCause b (said line) (behind ++ rest) cause) here (subst (λ (x : Entry). HasEntryCause before x (behind ++ rest) cause) head has))
no-cause (event start last line texts entries e lines parts is whole forms more) rest quiet (x ∷ front) entry behind split events before are cause has =
    let head : x ≡ said line = cc in
    let tail : map printed texts ++ entries ≡ front ++ entry ∷ behind = cc in
    let gone = goes (subst (λ (y : Entry). AreLines start (said_in (y ∷ front)) events before) head are) in
    let same : gone.0 ≡ with_event start = one-step start line gone.0 (with_event start) gone.2 (inl (e, is, refl)) in
    let now : AreLines (with_event start) (said_in front) gone.1 before = subst (λ (b : Before). AreLines b (said_in front) gone.1 before) same gone.3 in
    ⊎_elim
    (λ among.
    let here : with_event start ≡ before = stays (subst (λ (l : List TextLine). AreLines (with_event start) l gone.1 before) among.2 now) in
    printed-clean (with_event start) among.0 (behind ++ rest) cause refl (form-at forms among.0 among.3)
    (subst (λ (b : Before). HasEntryCause b (printed among.0) (behind ++ rest) cause) (sym here) (subst (λ (y : Entry). HasEntryCause before y (behind ++ rest) cause) among.1 has)))
    (λ later. no-cause more rest quiet later.0 entry behind later.2 gone.1 before (subst (λ (l : List TextLine). AreLines (with_event start) l gone.1 before) later.1 now) cause has)
    (stands texts entries front entry behind tail)

-- Where there is no entry, nothing is said.
pub nothing-said : {start last : Before} {parts : List TracePart} → AreParts start [] parts last → start ≡ last
nothing-said (none start) = refl

-- The lines of the schedule among the parts of a trace are lines.
pub lines-of : {start last : Before} {entries : List Entry} {parts : List TracePart} → AreParts start entries parts last
    → AreLines start (said_in entries) (map (λ part. part.event) parts) last
lines-of (none start) = lines.none start
lines-of (declaration start after last line entries parts declares more) =
    lines.declaration start after last line (said_in entries) (map (λ part. part.event) parts) declares (lines-of more)
lines-of (event start last line texts entries e printed_lines parts is whole forms more) =
    lines.event start last line (said_in (map printed texts ++ entries)) e (map (λ part. part.event) parts) is
    (subst (λ (l : List TextLine). AreLines (with_event start) l (map (λ part. part.event) parts) last) (sym (said-printed texts entries)) (lines-of more))

-- Parts behind parts are parts.
pub parts-append : {start middle last : Before} {entries others : List Entry} {parts more_parts : List TracePart} → AreParts start entries parts middle
    → AreParts middle others more_parts last → AreParts start (entries ++ others) (parts ++ more_parts) last
parts-append (none start) more = more
parts-append {last = last} {others = others} {more_parts = more_parts} (declaration start after middle line entries parts declares behind) more =
    declaration start after last line (entries ++ others) (parts ++ more_parts) declares (parts-append behind more)
parts-append {last = last} {others = others} {more_parts = more_parts} (event start middle line texts entries e printed_lines parts is whole forms behind) more =
    subst (λ (l : List Entry). AreParts start (said line ∷ l) (record { event = e; lines = printed_lines } ∷ (parts ++ more_parts)) last)
    (sym (append_assoc (map printed texts) entries others))
    (event start last line texts (entries ++ others) e printed_lines (parts ++ more_parts) is whole forms (parts-append behind more))
