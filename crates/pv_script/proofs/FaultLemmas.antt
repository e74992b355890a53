-- Lines taken one by one: what they say so far, and the first one at fault.
use Rattle.std.proofs.Common.{◌≡◌, ℕ, List, [], ◌∷◌, ◌++◌, ◌+◌, length, map, inl, inr, IfSome, refl, sym, ap, subst}
use Rattle.pv_base.specs.Catalog.{Declared}
use Rattle.pv_model.specs.LineCauses.{Before, at_first, LineCause, sites_expected, IsFirstCause}
use Rattle.pv_model.specs.Events as model
use Rattle.pv_model.specs.FirstMisplaced.{without_numbers}
use Rattle.pv_model.specs.LineForms.{Script, scheduled}
use Rattle.pv_model.specs.Schedule.{Declares, IsEvent, with_event, AreLines, none, declaration, event, IsAtFault, IsMalformed}
use Rattle.pv_model.specs.Text.{TextLine, lines, numbered}
use Rattle.pv_script.specs.ScriptErrors.{IsMalformedIn, line_cause_of, refused_line}
use Rattle.pv_script.specs.LineFaults.{error_at, IsErrorAt, IsLineFault}
use Rattle.pv_script.specs.TakesLine.{TakesLine, declared, happened}
use Rattle.pv_script.specs.ScheduleView.{event_of}
use Rattle.pv_script.specs.declared.fault.Fault.{Fault}
use Rattle.pv_script.specs.declared.fault.Fault.TheVariants.{At, NoMemory}
use Rattle.pv_script.specs.declared.schedule.Event.{Event}
use Rattle.pv_script.specs.declared.schedule.ScriptError.{ScriptError}
use Rattle.pv_script.specs.declared.schedule.ScriptError.TheVariants as error

-- Lines behind what was said are first at fault at this number, for this cause.
pub record IsAtFaultFrom (start : Before) (all : List (ℕ × TextLine)) (number : ℕ) (cause : LineCause) : Type 0 where
  pub front : List (ℕ × TextLine)
  pub line : TextLine
  pub rest : List (ℕ × TextLine)
  pub split : all ≡ front ++ (number, line) ∷ rest
  pub events : List model.Event
  pub before : Before
  pub are : AreLines start (without_numbers front) events before
  pub first : IsFirstCause before line cause

pub fault-whole : (kind : Script) (text : List ℕ) (number : ℕ) (cause : LineCause) → IsAtFaultFrom (at_first kind) (numbered text) number cause
    → IsAtFault kind text number cause
fault-whole kind text number cause is =
    record { front = is.front; line = is.line; rest = is.rest; split = is.split; events = is.events; before = is.before; are = is.are; first = is.first }

pub fault-here : (before : Before) (number : ℕ) (line : TextLine) (rest : List (ℕ × TextLine)) (cause : LineCause) → IsFirstCause before line cause
    → IsAtFaultFrom before ((number, line) ∷ rest) number cause
fault-here before number line rest cause first =
    record { front = []; line = line; rest = rest; split = refl; events = []; before = before; are = none before; first = first }

pub fault-declares : (before after : Before) (k : ℕ) (line : TextLine) (left : List (ℕ × TextLine)) (number : ℕ) (cause : LineCause) → Declares before line after
    → IsAtFaultFrom after left number cause → IsAtFaultFrom before ((k, line) ∷ left) number cause
fault-declares before after k line left number cause declares is = record {
  front = (k, line) ∷ is.front;
  line = is.line;
  rest = is.rest;
  split = ap (λ (all : List (ℕ × TextLine)). (k, line) ∷ all) is.split;
  events = is.events;
  before = is.before;
  are = declaration before after is.before line (without_numbers is.front) is.events declares is.are;
  first = is.first;
}

fault-event : (before : Before) (e : model.Event) (k : ℕ) (line : TextLine) (left : List (ℕ × TextLine)) (number : ℕ) (cause : LineCause) → IsEvent before line e
    → IsAtFaultFrom (with_event before) left number cause → IsAtFaultFrom before ((k, line) ∷ left) number cause
fault-event before e k line left number cause says is = record {
  front = (k, line) ∷ is.front;
  line = is.line;
  rest = is.rest;
  split = ap (λ (all : List (ℕ × TextLine)). (k, line) ∷ all) is.split;
  events = e ∷ is.events;
  before = is.before;
  are = event before is.before line (without_numbers is.front) e is.events says is.are;
  first = is.first;
}

-- What is first at fault behind a line is so from the line on.
pub fault-takes : (before after : Before) (catalog : Declared) (old new : List Event) (k : ℕ) (line : TextLine) (left : List (ℕ × TextLine)) (number : ℕ) (cause : LineCause)
    → TakesLine before line after catalog old new → IsAtFaultFrom after left number cause → IsAtFaultFrom before ((k, line) ∷ left) number cause
fault-takes before after catalog old new k line left number cause (declared declares same) is = fault-declares before after k line left number cause declares is
fault-takes before after catalog old new k line left number cause (happened e says then plan more) is =
    fault-event before (event_of e) k line left number cause says (subst (λ (b : Before). IsAtFaultFrom b left number cause) then is)

map-snoc : (old : List Event) (e : Event) (more : List model.Event) → map event_of (old ++ e ∷ []) ++ more ≡ map event_of old ++ event_of e ∷ more
map-snoc [] e more = refl
map-snoc (x ∷ old) e more = ap (λ (es : List model.Event). event_of x ∷ es) (map-snoc old e more)

-- Whatever is read behind a line is read from the line on.
pub lines-takes : (before after : Before) (catalog : Declared) (old new : List Event) (line : TextLine) (left whole : List TextLine) (more : List model.Event) (last : Before)
    → TakesLine before line after catalog old new
    → ((more : List model.Event) (last : Before) → AreLines before (line ∷ left) more last → AreLines (at_first scheduled) whole (map event_of old ++ more) last)
    → AreLines after left more last → AreLines (at_first scheduled) whole (map event_of new ++ more) last
lines-takes before after catalog old new line left whole more last (declared declares same) so are =
    subst (λ (es : List Event). AreLines (at_first scheduled) whole (map event_of es ++ more) last) (sym same)
    (so more last (declaration before after last line left more declares are))
lines-takes before after catalog old new line left whole more last (happened e says then plan appended) so are =
    subst (λ (es : List Event). AreLines (at_first scheduled) whole (map event_of es ++ more) last) (sym appended)
    (subst (λ (es : List model.Event). AreLines (at_first scheduled) whole es last) (sym (map-snoc old e more))
    (so (event_of e ∷ more) last (event before last line left (event_of e) more says (subst (λ (b : Before). AreLines b left more last) then are))))

-- ---- refusals

pub refuses-first : (kind : Script) (text : List ℕ) (number : ℕ) (line : TextLine) (rest : List (ℕ × TextLine)) (fault : Fault) → numbered text ≡ (number, line) ∷ rest
    → IsLineFault (at_first kind) line fault → IfSome (refused_line (error_at number fault)) (IsMalformedIn kind text)
refuses-first kind text number line rest (At reported) split fault =
    let cause = line_cause_of reported in
    inl (fault-whole kind text number cause (subst (λ (all : List (ℕ × TextLine)). IsAtFaultFrom (at_first kind) all number cause) (sym split) (fault-here (at_first kind) number line rest cause fault)))
refuses-first kind text number line rest NoMemory split fault = tt

pub error-fault : (before : Before) (number : ℕ) (line : TextLine) (fault : Fault) → IsLineFault before line fault → IsErrorAt before number line (error_at number fault)
error-fault before number line (At reported) fault = (refl, fault)
error-fault before number line NoMemory fault = tt

-- An error of a line of the text refuses the text.
pub refuses-line : (kind : Script) (text : List ℕ) (before : Before) (number : ℕ) (line : TextLine) (rest : List (ℕ × TextLine)) (e : ScriptError)
    → ((n : ℕ) (cause : LineCause) → IsAtFaultFrom before ((number, line) ∷ rest) n cause → IsAtFault kind text n cause)
    → IsErrorAt before number line e → IfSome (refused_line e) (IsMalformedIn kind text)
refuses-line kind text before number line rest (error.Malformed place reported) so is =
    let cause = line_cause_of reported in
    inl (subst (λ (n : ℕ). IsAtFault kind text n cause) (sym is.0) (so number cause (fault-here before number line rest cause is.1)))
refuses-line kind text before number line rest error.NoMemory so is = tt

-- A text without lines lacks the sites.
pub lacks-sites : (kind : Script) (text : List ℕ) (place : ℕ) → numbered text ≡ [] → place ≡ length (lines text) + 1 → IsMalformed kind text place sites_expected
lacks-sites kind text place empty at = inr (record { empty = empty; place = at; is = refl })
