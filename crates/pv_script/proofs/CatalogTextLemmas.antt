-- What is read of a text with a line behind it, whichever way.
use Rattle.std.proofs.Common.{◌≡◌, ◌∙◌, ℕ, ◌+◌, ◌≤◌, ◌==◌, Bool, true, false, eqb, Option, Some, None, is_some, IfNone, IfSome, List, [], ◌∷◌, length, map, All, refl, sym, ap, subst, arith, length-append}
use Rattle.std.specs.List.{slice_split}
use Rattle.std.proofs.lemmas.Bool.{false≢true}
use Rattle.pv_base.specs.Catalog.{Declared}
use Rattle.pv_model.specs.Events.{Event, Schedule}
use Rattle.pv_model.specs.Schedule.{IsSchedule}
use Rattle.pv_model.specs.Text.{TextLine, lines, significant_from}
use Rattle.pv_script.specs.Behind.{Declaring, schedule_over, with_line, IsNoEventBehind}
use Rattle.pv_script.specs.LinesLeft.{LinesLeft}
use Rattle.pv_script.specs.ScheduleView.{event_of, schedule_of, HasPlan}
use Rattle.pv_script.specs.declared.schedule.Event as code
use Rattle.pv_script.specs.declared.schedule.Schedule as read
use Rattle.pv_script.proofs.BehindLemmas.{few-parts, left}

-- A vector that isn't empty has an event.
pub some-events : (items : List code.Event) (len : ℕ) (empty : Bool) → len ≡ length items → empty ≡ eqb len 0 → empty ≡ false → map event_of items ≡ [] → ⊥
some-events [] len empty is said more none = false≢true (sym more ∙ said ∙ ap (λ (n : ℕ). eqb n 0) is)
some-events (e ∷ items) len empty is said more none = cc

-- The lines behind the text have numbers.
pub room-behind : (text line : List ℕ) (n most : ℕ) → n ≡ length (slice_split (λ b. b == 10) text) → length (with_line text line) ≤ most → n + length line ≤ most
room-behind text line n most count short = omega (arith, few-parts text, length-append text (10 ∷ line), count, short)

-- What is found behind the text is what is left there.
pub left-is : (text line : List ℕ) (n : ℕ) (found : LinesLeft) (rest : List (ℕ × TextLine)) → n ≡ length (slice_split (λ b. b == 10) text)
    → found ≡ record { numbered = significant_from (n + 1) (lines line); after_last = n + length (lines line) + 1 } → found.numbered ≡ rest → left text line ≡ rest
left-is text line n found rest count made is =
    sym (ap (λ (k : ℕ). significant_from (k + 1) (lines line)) count) ∙ sym (ap (λ (l : LinesLeft). l.numbered) made) ∙ is

-- What was not found isn't there.
pub was-none : {X P : Type 0} (o : Option X) → is_some o ≡ false → IfNone o P → P
was-none None nothing holds = holds
was-none (Some x) nothing holds = absurd (false≢true (sym nothing))

-- A text that is as it was says no event.
pub no-event : (behind : Declaring) (line : List ℕ) → IsSchedule (with_line behind.text line) (schedule_over behind.catalog []) → IsNoEventBehind behind line
no-event behind line is = (
  schedule_over behind.catalog [],
  is,
  λ event same. let none : [] ≡ event ∷ [] = ap (λ (s : Schedule). s.events) same in let no : ⊥ = cc in no,
)

-- The one event that was read has its plan.
pub plan-only : (o : Option code.Event) (items : List code.Event) (declared catalog : Declared) → declared ≡ catalog → IfSome o (λ event. items ≡ event ∷ [])
    → All (HasPlan declared) items → IfSome o (HasPlan catalog)
plan-only None items declared catalog same only plans = tt
plan-only (Some event) items declared catalog same only plans =
    subst (λ (d : Declared). HasPlan d event) same ((subst (All (HasPlan declared)) only plans) 0 event (omega arith))

-- What is one event to the definitions is one event.
one-read : (items : List code.Event) (event : Event) → map event_of items ≡ event ∷ [] → (found : code.Event) × (items ≡ found ∷ [])
one-read [] event is = cc
one-read (first ∷ []) event is = (first, refl)
one-read (first ∷ second ∷ more) event is = cc

-- Where none or several were read, the line says no event.
pub none-only : (o : Option code.Event) (schedule : read.Schedule) (behind : Declaring) (joined line : List ℕ) → IsSchedule joined (schedule_of schedule)
    → joined ≡ with_line behind.text line → IfNone o ((event : code.Event) → schedule.events.items ≡ event ∷ [] → ⊥) → IfNone o (IsNoEventBehind behind line)
none-only (Some event) schedule behind joined line says is none = tt
none-only None schedule behind joined line says is none = (
  schedule_of schedule,
  subst (λ (t : List ℕ). IsSchedule t (schedule_of schedule)) is says,
  λ event same. let one = one-read schedule.events.items event (ap (λ (s : Schedule). s.events) same) in none one.0 one.1,
)
