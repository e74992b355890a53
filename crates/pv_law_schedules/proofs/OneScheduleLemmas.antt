-- A text is one schedule at most, or has one first line at fault.
use Rattle.std.proofs.Common.{◌≡◌, ◌⊎◌, ⊎_elim, ℕ, Some, List, [], ◌∷◌, ◌++◌, inl, inr, refl, sym, ap, subst, ◌∙◌}
use Rattle.pv_model.specs.LineCauses.{Before, at_first, declared_by, LineCause, HasLineCause, IsFirstCause}
use Rattle.pv_model.specs.Events.{Event, Schedule}
use Rattle.pv_model.specs.FirstMisplaced.{without_numbers}
use Rattle.pv_model.specs.LineForms.{Script, scheduled, live}
use Rattle.pv_model.specs.LiveScript.{LiveScript}
use Rattle.pv_model.specs.Schedule.{IsEvent, Declares, with_event, AreLines, none, declaration, event, significant, live_script_by, IsSchedule, IsLiveScript, IsMalformed, IsMalformedSchedule, IsMalformedLiveScript}
use Rattle.pv_model.specs.Text.{TextLine, numbered}
use Rattle.pv_law_schedules.proofs.LineFormLemmas.{none-some-sites}
use Rattle.pv_law_schedules.proofs.LineLawLemmas.{no-cause-event, no-cause-declared}
use Rattle.pv_law_schedules.proofs.OneEventLemmas.{one-event, one-declared, not-both}
use Rattle.pv_law_schedules.proofs.OneCauseLemmas.{one-cause}

-- A good line, with what is said behind it.

abbrev pub Steps : Before → TextLine → Before → Type 0
Steps before line after = ((e : Event) × IsEvent before line e × (after ≡ with_event before)) ⊎ Declares before line after

pub one-step : (before : Before) (line : TextLine) (a b : Before) → Steps before line a → Steps before line b → a ≡ b
one-step before line a b (inl x) (inl y) = x.2 ∙ sym y.2
one-step before line a b (inl x) (inr y) = absurd (not-both x.1 y)
one-step before line a b (inr x) (inl y) = absurd (not-both y.1 x)
one-step before line a b (inr x) (inr y) = one-declared x y

no-step : (before : Before) (line : TextLine) (after : Before) (cause : LineCause) → Steps before line after → HasLineCause before line cause → ⊥
no-step before line after cause steps has = ⊎_elim (λ x. no-cause-event cause x.1 has) (λ y. no-cause-declared cause y has) steps

-- lines of which the first is good
abbrev pub Goes : Before → TextLine → List TextLine → Before → Type 0
Goes before line rest last = (after : Before) × (events : List Event) × Steps before line after × AreLines after rest events last

pub goes : {before last : Before} {line : TextLine} {rest : List TextLine} {events : List Event} → AreLines before (line ∷ rest) events last → Goes before line rest last
goes (declaration before after last line rest events d more) = (after, events, inr d, more)
goes (event before last line rest e events d more) = (with_event before, events, inl (e, d, refl), more)

pub stays : {before last : Before} {events : List Event} → AreLines before [] events last → before ≡ last
stays (none before) = refl

pub one-lines : {before last other : Before} {rest : List TextLine} {events others : List Event} → AreLines before rest events last → AreLines before rest others other → (events ≡ others) × (last ≡ other)
one-lines (none b) (none b2) = (refl, refl)
one-lines (declaration b a l line ls es d more) (declaration b2 a2 l2 line2 ls2 es2 d2 more2) =
    one-lines more (subst (λ (x : Before). AreLines x ls es2 l2) (one-declared d2 d) more2)
one-lines (declaration b a l line ls es d more) (event b2 l2 line2 ls2 e2 es2 d2 more2) = absurd (not-both d2 d)
one-lines (event b l line ls e es d more) (declaration b2 a2 l2 line2 ls2 es2 d2 more2) = absurd (not-both d d2)
one-lines (event b l line ls e es d more) (event b2 l2 line2 ls2 e2 es2 d2 more2) =
    let first : e ≡ e2 = one-event d d2 in
    let rest = one-lines more more2 in
    ((λ i. first i ∷ rest.0 i), rest.1)

pub one_schedule : (text : List ℕ) (s t : Schedule) → IsSchedule text s → IsSchedule text t → s ≡ t
one_schedule text s t is also =
    let same = one-lines is.are also.are in
    let catalog : s.catalog ≡ t.catalog = is.catalog ∙ ap declared_by same.1 ∙ sym also.catalog in
    λ i. record { catalog = catalog i; events = same.0 i }

pub one_live_script : (text : List ℕ) (s t : LiveScript) → IsLiveScript text s → IsLiveScript text t → s ≡ t
one_live_script text s t is also = let same = one-lines is.are also.are in is.is ∙ ap live_script_by same.1 ∙ sym also.is

-- Two faults are at one place.

abbrev Numbered : Type 0
Numbered = List (ℕ × TextLine)

-- lines that are good up to one that has a cause
abbrev Faults : Before → Numbered → ℕ → TextLine → LineCause → Type 0
Faults before front number line cause = (events : List Event) × (last : Before) × AreLines before (without_numbers front) events last × IsFirstCause last line cause

-- what has a cause at once
at-once : (before : Before) (number : ℕ) (line : TextLine) (cause : LineCause) → Faults before [] number line cause → IsFirstCause before line cause
at-once before number line cause is = subst (λ (b : Before). IsFirstCause b line cause) (sym (stays is.2)) is.3

-- and what has one later
later : (before after : Before) (x : ℕ × TextLine) (front : Numbered) (number : ℕ) (line : TextLine) (cause : LineCause) → Steps before x.1 after → Faults before (x ∷ front) number line cause → Faults after front number line cause
later before after x front number line cause steps is =
    let gone = goes is.2 in
    (gone.1, is.1, subst (λ (b : Before). AreLines b (without_numbers front) gone.1 is.1) (one-step before x.1 gone.0 after gone.2 steps) gone.3, is.3)

head-of : (x y : ℕ × TextLine) (xs ys : Numbered) → x ∷ xs ≡ y ∷ ys → x ≡ y
head-of x y xs ys e = cc

tail-of : (x y : ℕ × TextLine) (xs ys : Numbered) → x ∷ xs ≡ y ∷ ys → xs ≡ ys
tail-of x y xs ys e = cc

-- a line that has a cause isn't good
no-good : (before : Before) (x : ℕ × TextLine) (front : Numbered) (m n : ℕ) (line other : TextLine) (c d : LineCause) → line ≡ x.1 → Faults before [] m line c → Faults before (x ∷ front) n other d → ⊥
no-good before x front m n line other c d same is also =
    let first = at-once before m line c is in
    let gone = goes also.2 in
    no-step before x.1 gone.0 c gone.2 (subst (λ (l : TextLine). HasLineCause before l c) same first.has)

one-place : (before : Before) (front others : Numbered) (m n : ℕ) (line other : TextLine) (rest more : Numbered) (c d : LineCause)
    → front ++ (m, line) ∷ rest ≡ others ++ (n, other) ∷ more → Faults before front m line c → Faults before others n other d → (m ≡ n) × (c ≡ d)
one-place before [] [] m n line other rest more c d e is also =
    let same = head-of (m, line) (n, other) rest more e in
    let l : line ≡ other = ap (λ (x : ℕ × TextLine). x.1) same in
    (ap (λ (x : ℕ × TextLine). x.0) same, one-cause (subst (λ (l : TextLine). IsFirstCause before l c) l (at-once before m line c is)) (at-once before n other d also))
one-place before [] (y ∷ others) m n line other rest more c d e is also =
    absurd (no-good before y others m n line other c d (ap (λ (x : ℕ × TextLine). x.1) (head-of (m, line) y rest (others ++ (n, other) ∷ more) e)) is also)
one-place before (x ∷ front) [] m n line other rest more c d e is also =
    absurd (no-good before x front n m other line d c (sym (ap (λ (x : ℕ × TextLine). x.1) (head-of x (n, other) (front ++ (m, line) ∷ rest) more e))) also is)
one-place before (x ∷ front) (y ∷ others) m n line other rest more c d e is also =
    let same : x ≡ y = head-of x y (front ++ (m, line) ∷ rest) (others ++ (n, other) ∷ more) e in
    let gone = goes is.2 in
    let steps : Steps before y.1 gone.0 = subst (λ (z : ℕ × TextLine). Steps before z.1 gone.0) same gone.2 in
    one-place gone.0 front others m n line other rest more c d (tail-of x y (front ++ (m, line) ∷ rest) (others ++ (n, other) ∷ more) e)
    (gone.1, is.1, gone.3, is.3) (later before gone.0 y others n other d steps also)

nothing-split : (all front : Numbered) (x : ℕ × TextLine) (rest : Numbered) → all ≡ [] → all ≡ front ++ x ∷ rest → ⊥
nothing-split all [] x rest e split = let never : ⊥ = cc in never
nothing-split all (y ∷ front) x rest e split = let never : ⊥ = cc in never

pub one_fault : (kind : Script) (text : List ℕ) (m n : ℕ) (c d : LineCause) → IsMalformed kind text m c → IsMalformed kind text n d → (m ≡ n) × (c ≡ d)
one_fault kind text m n c d (inl x) (inl y) =
    one-place (at_first kind) x.front y.front m n x.line y.line x.rest y.rest c d (sym x.split ∙ y.split) (x.events, x.before, x.are, x.first) (y.events, y.before, y.are, y.first)
one_fault kind text m n c d (inl x) (inr y) = absurd (nothing-split (numbered text) x.front (m, x.line) x.rest y.empty x.split)
one_fault kind text m n c d (inr x) (inl y) = absurd (nothing-split (numbered text) y.front (n, y.line) y.rest x.empty y.split)
one_fault kind text m n c d (inr x) (inr y) = (x.place ∙ sym y.place, x.is ∙ sym y.is)

-- A schedule has no line at fault.

all-good : (before : Before) (front : Numbered) (number : ℕ) (line : TextLine) (rest : Numbered) (cause : LineCause) (events : List Event) (last : Before)
    → AreLines before (without_numbers (front ++ (number, line) ∷ rest)) events last → Faults before front number line cause → ⊥
all-good before [] number line rest cause events last are is =
    let gone = goes are in
    no-step before line gone.0 cause gone.2 ((at-once before number line cause is).has)
all-good before (x ∷ front) number line rest cause events last are is =
    let gone = goes are in
    all-good gone.0 front number line rest cause gone.1 last gone.3 (later before gone.0 x front number line cause gone.2 is)

no-fault : (kind : Script) (text : List ℕ) (events : List Event) (last : Before) (sites n : ℕ) (c : LineCause) → AreLines (at_first kind) (significant text) events last
    → last.sites ≡ Some sites → IsMalformed kind text n c → ⊥
no-fault kind text events last sites n c are said (inl x) =
    all-good (at_first kind) x.front n x.line x.rest c events last
    (subst (λ (all : Numbered). AreLines (at_first kind) (without_numbers all) events last) x.split are) (x.events, x.before, x.are, x.first)
no-fault kind text events last sites n c are said (inr x) =
    let nothing : AreLines (at_first kind) [] events last = subst (λ (all : Numbered). AreLines (at_first kind) (without_numbers all) events last) x.empty are in
    none-some-sites last.sites sites said (ap (λ (b : Before). b.sites) (sym (stays nothing)))

pub no_fault : (text : List ℕ) (s : Schedule) (n : ℕ) (c : LineCause) → IsSchedule text s → IsMalformedSchedule text n c → ⊥
no_fault text s n c is fault = no-fault scheduled text s.events is.last is.sites n c is.are is.said fault

pub no_live_fault : (text : List ℕ) (s : LiveScript) (n : ℕ) (c : LineCause) → IsLiveScript text s → IsMalformedLiveScript text n c → ⊥
no_live_fault text s n c is fault = no-fault live text [] is.last is.sites n c is.are is.said fault
