-- Scripts read line by line, and why a text is none.
use Rattle.std.proofs.Common.{◌≡◌, ℕ, zero, suc, false, Some, None, List, [], ◌∷◌, ◌++◌, All, refl, sym, ap, ◌∙◌, subst, arith, ⊎_elim, inl, inr}
use Rattle.std.proofs.lemmas.Bool.{both_ways}
use Rattle.pv_base.specs.Catalog.{Item, Declared}
use Rattle.pv_model.specs.LineCauses.{Before, at_first, LineCause, declared_by}
use Rattle.pv_model.specs.Check.{IsPlan}
use Rattle.pv_model.specs.Events as model
use Rattle.pv_model.specs.FirstMisplaced.{without_numbers}
use Rattle.pv_model.specs.LineForms.{Script, scheduled, live}
use Rattle.pv_model.specs.LiveScript.{LiveScript}
use Rattle.pv_model.specs.Schedule.{Declares, DeclaresSites, DeclaresJournal, DeclaresItem, AreLines, none, declaration, significant, live_script_by, IsSchedule, IsLiveScript, IsAtFault}
use Rattle.pv_model.specs.Text.{TextLine, numbered}
use Rattle.pv_base.specs.Answer.{HasOneAnswer}
use Rattle.pv_script.specs.ScriptErrors.{RefusedLine, IsMalformedAt, IsMalformedLiveAt}
use Rattle.pv_script.specs.Said.{before_of, IsLimited}
use Rattle.pv_script.specs.TakesLine.{TakesLine, declared, happened}
use Rattle.pv_script.specs.ScheduleView.{HasPlan}
use Rattle.pv_script.specs.LiveSaid.{before_of_live}
use Rattle.pv_script.specs.declared.live_said.LiveSaid.{LiveSaid}
use Rattle.pv_script.specs.declared.said.Said.{Said}
use Rattle.pv_script.specs.declared.schedule.Event.{Event}
use Rattle.pv_script.specs.declared.schedule.Event.TheVariants.{Submit}
use Rattle.pv_script.proofs.FaultLemmas.{IsAtFaultFrom, fault-whole, fault-declares}
use Rattle.pv_law_schedules.proofs.LineFormLemmas.{kinds-differ}
use Rattle.pv_law_schedules.proofs.OneScheduleLemmas.{one_schedule, one_live_script, one_fault, no_fault, no_live_fault}
use Rattle.pv_law_schedules.proofs.SomeScheduleLemmas.{some_schedule_or_fault, some_live_script_or_fault}

-- The catalog is what was declared.
pub limited : (said : Said) → IsLimited said → declared_by (before_of said) ≡ said.catalog
limited said is = λ i. record { sites = said.catalog.sites; journal = sym is i; items = said.catalog.items }

-- ---- the first line

pub lines-first : (kind : Script) (text : List ℕ) (k : ℕ) (line : TextLine) (left : List (ℕ × TextLine)) (after last : Before) (more : List model.Event)
    → numbered text ≡ (k, line) ∷ left → Declares (at_first kind) line after → AreLines after (without_numbers left) more last
    → AreLines (at_first kind) (significant text) more last
lines-first kind text k line left after last more split declares are =
    subst (λ (all : List (ℕ × TextLine)). AreLines (at_first kind) (without_numbers all) more last) (sym split)
    (declaration (at_first kind) after last line (without_numbers left) more declares are)

pub fault-first : (kind : Script) (text : List ℕ) (k : ℕ) (line : TextLine) (left : List (ℕ × TextLine)) (after : Before) (number : ℕ) (cause : LineCause) → numbered text ≡ (k, line) ∷ left
    → Declares (at_first kind) line after → IsAtFaultFrom after left number cause → IsAtFault kind text number cause
fault-first kind text k line left after number cause split declares is =
    fault-whole kind text number cause
    (subst (λ (all : List (ℕ × TextLine)). IsAtFaultFrom (at_first kind) all number cause) (sym split) (fault-declares (at_first kind) after k line left number cause declares is))

-- ---- plans

HasPlan-items : (e : Event) (a b : Declared) → a.items ≡ b.items → HasPlan a e → HasPlan b e
HasPlan-items (Submit site query text program plan) a b same has = subst (λ (items : List Item). IsPlan program items plan.parts.items) same has
HasPlan-items other a b same has = tt

All-one_more : (P : Event → Type 0) (old : List Event) (e : Event) → All P old → P e → All P (old ++ e ∷ [])
All-one_more P [] e each last zero d below = last
All-one_more P [] e each last (suc k) d below = absurd (omega arith)
All-one_more P (x ∷ old) e each last zero d below = each 0 d (omega arith)
All-one_more P (x ∷ old) e each last (suc k) d below = All-one_more P old e (λ j f h. each (suc j) f (omega arith)) last k d (omega arith)

-- Whoever declares in a schedule has no event before.
early : (before after : Before) (line : TextLine) (sites : ℕ) → before.script ≡ scheduled → before.sites ≡ Some sites → Declares before line after → before.begun ≡ false
early before after line sites kind said =
    ⊎_elim (λ (is : DeclaresSites before line after). absurd (let first = is.first in let never : None ≡ Some sites = sym first ∙ said in cc))
    (⊎_elim (λ (is : DeclaresJournal before line after). is.early)
    (⊎_elim (λ (is : DeclaresItem before line after). is.early)
    (⊎_elim (λ is. absurd (kinds-differ (sym kind ∙ is.kind)))
    (⊎_elim (λ is. absurd (kinds-differ (sym kind ∙ is.kind)))
    (⊎_elim (λ is. absurd (kinds-differ (sym kind ∙ is.kind))) (λ is. absurd (kinds-differ (sym kind ∙ is.kind))))))))

pub plans-takes : (before after : Before) (line : TextLine) (catalog now : Declared) (old new : List Event) (sites : ℕ) → before.script ≡ scheduled → before.sites ≡ Some sites
    → before.items ≡ catalog.items → after.items ≡ now.items → (before.begun ≡ false → old ≡ []) → All (HasPlan catalog) old → TakesLine before line after now old new
    → All (HasPlan now) new
plans-takes before after line catalog now old new sites kind said same same_now begun plans (declared declares kept) =
    subst (λ (es : List Event). All (HasPlan now) es) (sym (kept ∙ begun (early before after line sites kind said declares))) (λ k d below. absurd (omega arith))
plans-takes before after line catalog now old new sites kind said same same_now begun plans (happened e says then plan appended) =
    let items : catalog.items ≡ now.items = sym same ∙ sym (ap (λ (b : Before). b.items) then) ∙ same_now in
    subst (λ (es : List Event). All (HasPlan now) es) (sym appended)
    (All-one_more (HasPlan now) old e (λ k d below. HasPlan-items _ catalog now items (plans k d below)) plan)

pub begun-takes : (before after : Before) (line : TextLine) (now : Declared) (old new : List Event) (sites : ℕ) → before.script ≡ scheduled → before.sites ≡ Some sites
    → (before.begun ≡ false → old ≡ []) → TakesLine before line after now old new → after.begun ≡ false → new ≡ []
begun-takes before after line now old new sites kind said begun (declared declares kept) quiet = kept ∙ begun (early before after line sites kind said declares)
begun-takes before after line now old new sites kind said begun (happened e says then plan appended) quiet =
    absurd (both_ways after.begun quiet (ap (λ (b : Before). b.begun) then))

-- ---- the end

append-nil : (es : List model.Event) → es ++ [] ≡ es
append-nil [] = refl
append-nil (e ∷ es) = ap (λ (more : List model.Event). e ∷ more) (append-nil es)

-- All lines are read.
pub lines-read : (text : List ℕ) (said : Said) (events : List model.Event) (left : List (ℕ × TextLine)) → left ≡ []
    → ((more : List model.Event) (last : Before) → AreLines (before_of said) (without_numbers left) more last → AreLines (at_first scheduled) (significant text) (events ++ more) last)
    → AreLines (at_first scheduled) (significant text) events (before_of said)
lines-read text said events left empty so =
    subst (λ (es : List model.Event). AreLines (at_first scheduled) (significant text) es (before_of said)) (append-nil events)
    (so [] (before_of said) (subst (λ (all : List (ℕ × TextLine)). AreLines (before_of said) (without_numbers all) [] (before_of said)) (sym empty) (none (before_of said))))

pub IsSchedule-read : (text : List ℕ) (said : Said) (events : List model.Event) → IsLimited said → AreLines (at_first scheduled) (significant text) events (before_of said)
    → IsSchedule text (record { catalog = said.catalog; events = events })
IsSchedule-read text said events is are = record { last = before_of said; are = are; sites = said.catalog.sites; said = refl; catalog = sym (limited said is) }

-- A live script of which all lines are read.
pub IsLiveScript-read : (text : List ℕ) (said : LiveSaid) (script : LiveScript) (left : List (ℕ × TextLine)) → left ≡ []
    → ((last : Before) → AreLines (before_of_live said) (without_numbers left) [] last → AreLines (at_first live) (significant text) [] last)
    → script ≡ live_script_by (before_of_live said) → IsLiveScript text script
IsLiveScript-read text said script left empty so same = record {
  last = before_of_live said;
  are = so (before_of_live said) (subst (λ (all : List (ℕ × TextLine)). AreLines (before_of_live said) (without_numbers all) [] (before_of_live said)) (sym empty) (none (before_of_live said)));
  sites = said.said.catalog.sites;
  said = refl;
  is = same;
}

-- ---- one answer

refused_at : (a b : RefusedLine) → a.number ≡ b.number → a.cause ≡ b.cause → a ≡ b
refused_at a b number cause = λ i. record { number = number i; cause = cause i }

-- Each text has exactly one answer.
pub one : (text : List ℕ) → HasOneAnswer (IsSchedule text) (IsMalformedAt text)
one text = record {
  some = ⊎_elim inl (λ at. inr (record { number = at.0; cause = at.1 }, at.2)) (some_schedule_or_fault text);
  one_value = one_schedule text;
  one_fault = λ a b is also. let same = one_fault scheduled text a.number b.number a.cause b.cause is also in refused_at a b same.0 same.1;
  not_both = λ schedule a is fault. no_fault text schedule a.number a.cause is fault;
}

pub one-live : (text : List ℕ) → HasOneAnswer (IsLiveScript text) (IsMalformedLiveAt text)
one-live text = record {
  some = ⊎_elim inl (λ at. inr (record { number = at.0; cause = at.1 }, at.2)) (some_live_script_or_fault text);
  one_value = one_live_script text;
  one_fault = λ a b is also. let same = one_fault live text a.number b.number a.cause b.cause is also in refused_at a b same.0 same.1;
  not_both = λ script a is fault. no_live_fault text script a.number a.cause is fault;
}
