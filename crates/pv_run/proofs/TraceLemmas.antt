-- The trace of a schedule has each of its lines, and below each event what that prints.
use Rattle.std.proofs.Common.{◌≡◌, ℕ, ◌≤◌, suc, true, Some, inl, inr, List, [], ◌∷◌, ◌++◌, drop, length, take, refl, sym, ap, ◌∙◌, subst, arith}
use Rattle.std.proofs.lemmas.Bool.{false≢true}
use Rattle.std.proofs.lemmas.List.{append_assoc}
use Rattle.std.proofs.lemmas.Option.{none-some}
use Rattle.pv_model.specs.Events.{Event, Schedule}
use Rattle.pv_model.specs.LineCauses.{Before}
use Rattle.pv_model.specs.LineForms.{scheduled, live}
use Rattle.pv_model.specs.Schedule.{AreLines, Declares, IsSchedule, none, declaration, event}
use Rattle.pv_model.specs.Text.{TextLine}
use Rattle.pv_protocol.specs.Run.{lines_of_transitions, transitions_of, world_after}
use Rattle.pv_protocol.specs.State.{Setup}
use Rattle.pv_protocol.specs.World.{World, opening}
use Rattle.pv_run.specs.Traced as traced
use Rattle.pv_run.specs.Traced.{IsTraced, IsTracedFrom, declaring, event_text, said_text, said_texts, text_from, trace_of}
use Rattle.pv_run.specs.declared.form.Form.TheVariants.{Trace}
use Rattle.pv_site.specs.SiteState.{setup_of}

-- Nothing is declared behind an event.
not-behind : (before after : Before) (line : TextLine) (sites : ℕ) → before.script ≡ scheduled → before.sites ≡ Some sites → before.begun ≡ true → Declares before line after → ⊥
not-behind before after line sites kind said begun (inl first) = none-some sites (sym first.first ∙ said)
not-behind before after line sites kind said begun (inr (inl journal)) = false≢true (sym journal.early ∙ begun)
not-behind before after line sites kind said begun (inr (inr (inl item))) = false≢true (sym item.early ∙ begun)
not-behind before after line sites kind said begun (inr (inr (inr (inl plan)))) = false≢true (sym plan.early ∙ begun)
not-behind before after line sites kind said begun (inr (inr (inr (inr (inl client))))) = let same : live ≡ scheduled = sym client.kind ∙ kind in let wrong : ⊥ = cc in wrong
not-behind before after line sites kind said begun (inr (inr (inr (inr (inr (inl request)))))) = let same : live ≡ scheduled = sym request.kind ∙ kind in let wrong : ⊥ = cc in wrong
not-behind before after line sites kind said begun (inr (inr (inr (inr (inr (inr peek)))))) = let same : live ≡ scheduled = sym peek.kind ∙ kind in let wrong : ⊥ = cc in wrong

-- So each line behind an event is one.
all-events : {before last : Before} {lines : List TextLine} {events : List Event} → AreLines before lines events last → (sites : ℕ) → before.script ≡ scheduled
    → before.sites ≡ Some sites → before.begun ≡ true → length lines ≡ length events
all-events (none before) sites kind said begun = refl
all-events (declaration before after last line lines events d more) sites kind said begun = absurd (not-behind before after line sites kind said begun d)
all-events (event before last line lines e events is more) sites kind said begun = ap suc (all-events more sites kind said refl)

no-more-events : {before last : Before} {lines : List TextLine} {events : List Event} → AreLines before lines events last → length events ≤ length lines
no-more-events (none before) = omega arith
no-more-events (declaration before after last line lines events d more) = let fewer = no-more-events more in omega (arith, fewer)
no-more-events (event before last line lines e events is more) = let fewer = no-more-events more in omega (arith, fewer)

-- the trace of these lines, of which so many declare something
abbrev text_of_lines : Setup → World → List TextLine → List Event → ℕ → List ℕ
text_of_lines setup world said events front = said_texts (take front said) ++ text_from Trace setup world (drop front said) events

from-lines : (setup : Setup) (world : World) {before last : Before} {lines : List TextLine} {events : List Event} → AreLines before lines events last
    → IsTracedFrom setup world before lines (text_of_lines setup world lines events (declaring lines events))
from-lines setup world (none before) = traced.none world before
from-lines setup world (declaration before after last line lines events d more) =
    let fewer = no-more-events more in
    let front : suc (declaring lines events) ≡ declaring (line ∷ lines) events = omega (arith, fewer) in
    subst (λ (n : ℕ). IsTracedFrom setup world before (line ∷ lines) (text_of_lines setup world (line ∷ lines) events n)) front
    (subst (IsTracedFrom setup world before (line ∷ lines))
    (sym (append_assoc (said_text line) (said_texts (take (declaring lines events) lines)) (text_from Trace setup world (drop (declaring lines events) lines) events)))
    (traced.declaration world before after line lines (text_of_lines setup world lines events (declaring lines events)) d (from-lines setup world more)))
from-lines setup world (event before last line lines e events is more) =
    let now = transitions_of setup world e in
    let next = world_after world now in
    let same = all-events more is.sites is.kind is.said refl in
    let rest : declaring lines events ≡ 0 = omega (arith, same) in
    let front : 0 ≡ declaring (line ∷ lines) (e ∷ events) = omega (arith, same) in
    subst (λ (n : ℕ). IsTracedFrom setup world before (line ∷ lines) (text_of_lines setup world (line ∷ lines) (e ∷ events) n)) front
    (subst (λ (n : ℕ). IsTracedFrom setup world before (line ∷ lines) (event_text Trace setup.catalog (line ∷ []) (lines_of_transitions now) ++ text_of_lines setup next lines events n)) rest
    (traced.event world before line e lines (text_of_lines setup next lines events (declaring lines events)) is (from-lines setup next more)))

pub trace-is : (input : List ℕ) (schedule : Schedule) → IsSchedule input schedule → IsTraced (setup_of schedule.catalog) input (trace_of input schedule)
unfolding trace_of
trace-is input schedule is = let setup = setup_of schedule.catalog in from-lines setup (opening setup) is.are
