-- Each text is a schedule or is malformed, and is a live script or is malformed as one.
use Rattle.std.proofs.Common.{◌≡◌, ◌⊎◌, ⊎_elim, ℕ, ◌+◌, Some, List, [], ◌∷◌, ◌++◌, length, inl, inr, refl, sym, ap, subst, ◌∙◌}
use Rattle.pv_model.specs.LineCauses as causes
use Rattle.pv_model.specs.LineCauses.{Before, at_first, declared_by, LineCause, IsFirstCause}
use Rattle.pv_model.specs.Events.{Event, Schedule}
use Rattle.pv_model.specs.FirstMisplaced.{without_numbers}
use Rattle.pv_model.specs.LineForms.{scheduled, live}
use Rattle.pv_model.specs.LiveScript.{LiveScript}
use Rattle.pv_model.specs.Schedule.{IsEvent, Declares, with_event, AreLines, none, declaration, event, significant, live_script_by, IsSchedule, IsLiveScript, IsMalformedSchedule, IsMalformedLiveScript}
use Rattle.pv_model.specs.Text.{TextLine, lines, numbered}
use Rattle.pv_law_schedules.proofs.LineFormLemmas.{kinds-differ}
use Rattle.pv_law_schedules.proofs.SomeLineLemmas.{some_line}

-- Numbered lines are all good, or one of them is the first at fault.

abbrev pub SitesIn : Before → Type 0
SitesIn before = (n : ℕ) × (before.sites ≡ Some n)

abbrev AllGood : Before → List (ℕ × TextLine) → Type 0
AllGood before all = (events : List Event) × (last : Before) × AreLines before (without_numbers all) events last

record FirstAt (before : Before) (all : List (ℕ × TextLine)) : Type 0 where
  pub number : ℕ
  pub cause : LineCause
  pub front : List (ℕ × TextLine)
  pub line : TextLine
  pub rest : List (ℕ × TextLine)
  pub split : all ≡ front ++ (number, line) ∷ rest
  pub events : List Event
  pub last : Before
  pub are : AreLines before (without_numbers front) events last
  pub first : IsFirstCause last line cause

abbrev Walked : Before → List (ℕ × TextLine) → Type 0
Walked before all = AllGood before all ⊎ FirstAt before all

with_declaration : (before after : Before) (x : ℕ × TextLine) (all : List (ℕ × TextLine)) → Declares before x.1 after → Walked after all → Walked before (x ∷ all)
with_declaration before after x all declares (inl good) = inl (good.0, good.1, declaration before after good.1 x.1 (without_numbers all) good.0 declares good.2)
with_declaration before after x all declares (inr at) = inr (record {
  number = at.number;
  cause = at.cause;
  front = x ∷ at.front;
  line = at.line;
  rest = at.rest;
  split = ap (λ (l : List (ℕ × TextLine)). x ∷ l) at.split;
  events = at.events;
  last = at.last;
  are = declaration before after at.last x.1 (without_numbers at.front) at.events declares at.are;
  first = at.first;
})

with_an_event : (before : Before) (x : ℕ × TextLine) (all : List (ℕ × TextLine)) (e : Event) → IsEvent before x.1 e → Walked (with_event before) all → Walked before (x ∷ all)
with_an_event before x all e is (inl good) = inl (e ∷ good.0, good.1, event before good.1 x.1 (without_numbers all) e good.0 is good.2)
with_an_event before x all e is (inr at) = inr (record {
  number = at.number;
  cause = at.cause;
  front = x ∷ at.front;
  line = at.line;
  rest = at.rest;
  split = ap (λ (l : List (ℕ × TextLine)). x ∷ l) at.split;
  events = e ∷ at.events;
  last = at.last;
  are = event before at.last x.1 (without_numbers at.front) e at.events is at.are;
  first = at.first;
})

walk : (before : Before) (all : List (ℕ × TextLine)) → Walked before all
walk before [] = inl ([], before, none before)
walk before (x ∷ all) =
    ⊎_elim
    (λ e. with_an_event before x all e.0 e.1 (walk (with_event before) all))
    (⊎_elim
    (λ d. with_declaration before d.0 x all d.1 (walk d.0 all))
    (λ c. inr (record {
      number = x.0;
      cause = c.0;
      front = [];
      line = x.1;
      rest = all;
      split = refl;
      events = [];
      last = before;
      are = none before;
      first = c.1;
    })))
    (some_line before x.1)

-- Behind a line the count of sites has been said.

pub keeps : (before after : Before) (line : TextLine) → Declares before line after → SitesIn after
keeps before after line (inl x) = (x.count, ap (λ (b : Before). b.sites) x.same)
keeps before after line (inr (inl x)) = (x.sites, ap (λ (b : Before). b.sites) x.same ∙ x.said)
keeps before after line (inr (inr (inl x))) = (x.sites, ap (λ (b : Before). b.sites) x.same ∙ x.said)
keeps before after line (inr (inr (inr (inl x)))) = (x.sites, ap (λ (b : Before). b.sites) x.same ∙ x.said)
keeps before after line (inr (inr (inr (inr (inl x))))) = (x.sites, ap (λ (b : Before). b.sites) x.same ∙ x.said)
keeps before after line (inr (inr (inr (inr (inr (inl x)))))) = (x.sites, ap (λ (b : Before). b.sites) x.same ∙ x.said)
keeps before after line (inr (inr (inr (inr (inr (inr x)))))) = (x.sites, ap (λ (b : Before). b.sites) x.same ∙ x.said)

said-from : {before last : Before} {ls : List TextLine} {es : List Event} → SitesIn before → AreLines before ls es last → SitesIn last
said-from said (none before) = said
said-from said (declaration before after last line ls es d more) = said-from (keeps before after line d) more
said-from said (event before last line ls e es is more) = said-from (is.sites, is.said) more

said-behind : {before last : Before} {line : TextLine} {ls : List TextLine} {es : List Event} → AreLines before (line ∷ ls) es last → SitesIn last
said-behind (declaration before after last line ls es d more) = said-from (keeps before after line d) more
said-behind (event before last line ls e es is more) = said-from (is.sites, is.said) more

-- A live script has no events.

pub keeps-script : (before after : Before) (line : TextLine) → Declares before line after → after.script ≡ before.script
keeps-script before after line (inl x) = ap (λ (b : Before). b.script) x.same
keeps-script before after line (inr (inl x)) = ap (λ (b : Before). b.script) x.same
keeps-script before after line (inr (inr (inl x))) = ap (λ (b : Before). b.script) x.same
keeps-script before after line (inr (inr (inr (inl x)))) = ap (λ (b : Before). b.script) x.same
keeps-script before after line (inr (inr (inr (inr (inl x))))) = ap (λ (b : Before). b.script) x.same
keeps-script before after line (inr (inr (inr (inr (inr (inl x)))))) = ap (λ (b : Before). b.script) x.same
keeps-script before after line (inr (inr (inr (inr (inr (inr x)))))) = ap (λ (b : Before). b.script) x.same

no-events : {before last : Before} {ls : List TextLine} {es : List Event} → before.script ≡ live → AreLines before ls es last → es ≡ []
no-events kind (none before) = refl
no-events kind (declaration before after last line ls es d more) = no-events (keeps-script before after line d ∙ kind) more
no-events kind (event before last line ls e es is more) = absurd (kinds-differ (sym is.kind ∙ kind))

-- Texts.

abbrev Answer : List ℕ → Type 0
Answer text = ((schedule : Schedule) × IsSchedule text schedule) ⊎ ((number : ℕ) × (cause : LineCause) × IsMalformedSchedule text number cause)

by-lines : (text : List ℕ) (all : List (ℕ × TextLine)) → numbered text ≡ all → AllGood (at_first scheduled) all → Answer text
by-lines text [] empty good = inr (length (lines text) + 1, causes.sites_expected, inr (record { empty = empty; place = refl; is = refl }))
by-lines text (x ∷ all) whole good =
    let said = said-behind good.2 in
    inl (
      record { catalog = declared_by good.1; events = good.0 },
      record {
        last = good.1;
        are = subst (λ (l : List (ℕ × TextLine)). AreLines (at_first scheduled) (without_numbers l) good.0 good.1) (sym whole) good.2;
        sites = said.0;
        said = said.1;
        catalog = refl;
      },
    )

pub some_schedule_or_fault : (text : List ℕ) → ((schedule : Schedule) × IsSchedule text schedule) ⊎ ((number : ℕ) × (cause : LineCause) × IsMalformedSchedule text number cause)
some_schedule_or_fault text =
    ⊎_elim (by-lines text (numbered text) refl)
    (λ at. inr (
      at.number,
      at.cause,
      inl (record {
        front = at.front;
        line = at.line;
        rest = at.rest;
        split = at.split;
        events = at.events;
        before = at.last;
        are = at.are;
        first = at.first;
      }),
    ))
    (walk (at_first scheduled) (numbered text))

abbrev LiveAnswer : List ℕ → Type 0
LiveAnswer text = ((script : LiveScript) × IsLiveScript text script) ⊎ ((number : ℕ) × (cause : LineCause) × IsMalformedLiveScript text number cause)

by-live-lines : (text : List ℕ) (all : List (ℕ × TextLine)) → numbered text ≡ all → AllGood (at_first live) all → LiveAnswer text
by-live-lines text [] empty good = inr (length (lines text) + 1, causes.sites_expected, inr (record { empty = empty; place = refl; is = refl }))
by-live-lines text (x ∷ all) whole good =
    let said = said-behind good.2 in
    let are : AreLines (at_first live) (significant text) good.0 good.1 = subst (λ (l : List (ℕ × TextLine)). AreLines (at_first live) (without_numbers l) good.0 good.1) (sym whole) good.2 in
    inl (
      live_script_by good.1,
      record {
        last = good.1;
        are = subst (λ (es : List Event). AreLines (at_first live) (significant text) es good.1) (no-events refl are) are;
        sites = said.0;
        said = said.1;
        is = refl;
      },
    )

pub some_live_script_or_fault : (text : List ℕ) → ((script : LiveScript) × IsLiveScript text script) ⊎ ((number : ℕ) × (cause : LineCause) × IsMalformedLiveScript text number cause)
some_live_script_or_fault text =
    ⊎_elim (by-live-lines text (numbered text) refl)
    (λ at. inr (
      at.number,
      at.cause,
      inl (record {
        front = at.front;
        line = at.line;
        rest = at.rest;
        split = at.split;
        events = at.events;
        before = at.last;
        are = at.are;
        first = at.first;
      }),
    ))
    (walk (at_first live) (numbered text))
