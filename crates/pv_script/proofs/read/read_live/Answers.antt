-- Each line is taken in turn, and what refuses one refuses the text.
use Rattle.std.proofs.Common.{ℕ, List, [], Err, None, IfSome, sym, ap, ◌∙◌, refl, subst}
use Rattle.std.proofs.lemmas.Result.{err_from_is_err_and}
use Rattle.pv_base.specs.Answer.{Answers}
use Rattle.pv_base.proofs.AnswerLemmas.{answered}
use Rattle.pv_model.specs.FirstMisplaced.{without_numbers}
use Rattle.pv_model.specs.LineCauses.{at_first}
use Rattle.pv_model.specs.LineForms.{live}
use Rattle.pv_model.specs.Schedule.{AreLines, declaration, Declares, IsLiveScript}
use Rattle.pv_model.specs.Text.{TextLine}
use Rattle.pv_script.specs.LinesLeft.{LinesLeft}
use Rattle.pv_script.specs.LiveSaid.{before_of_live}
use Rattle.pv_script.specs.LiveView.{live_script_of}
use Rattle.pv_script.specs.ScriptErrors.{IsMalformedLiveAt, refused_line}
use Rattle.pv_script.specs.declared.live_said.LiveSaid.{LiveSaid}
use Rattle.pv_script.specs.declared.schedule.ScriptError.{ScriptError}
use Rattle.pv_script.proofs.FaultLemmas.{IsAtFaultFrom, fault-declares, refuses-line}
use Rattle.pv_script.proofs.LiveSaidLemmas.{sound-none, before-first}
use Rattle.pv_script.proofs.ScheduleLemmas.{lines-first, fault-first, IsLiveScript-read, one-live}
use Rattle.pv_script.proofs.read.read_live.Goals as goal

-- What is refused for the line at fault answers the text.
refused-so : (text : List ℕ) (e : ScriptError) → IfSome (refused_line e) (IsMalformedLiveAt text)
    → Answers (IsLiveScript text) (IsMalformedLiveAt text) live_script_of refused_line (Err e)
refused-so text e fault = answered (IsLiveScript text) (IsMalformedLiveAt text) (one-live text) live_script_of refused_line (Err e) tt fault

pub returns-in_err-said-clause-answer : goal.returns-in_err-said-clause-answer
returns-in_err-said-clause-answer c =
    let p = err_from_is_err_and c.from_residual.result c.from_residual.ensures.1 in
    rw (p.1, p.2) (refused-so c.args.text.now c.in_err-said.field-0.0 (c.in_err-said.ensures.fault c.args.text.now c.new-lines.ensures))

pub loop-line-init : goal.loop-line-init
loop-line-init c =
    let declares = c.in_ok-said.ensures.declares in
    let split = sym (ap (λ (left : LinesLeft). left.numbered) c.new-lines.ensures) ∙ declares.2 in
    let said : LiveSaid = record { said = c.in_ok-said.said; fault_plan = None; clients = c.new.result } in
    let first : Declares (at_first live) declares.1 (before_of_live said) =
    subst (Declares (at_first live) declares.1) (before-first said refl c.new.ensures.items) declares.3 in (
      sound-none said c.in_ok-said.ensures.limited c.new.ensures.items,
      λ last are. lines-first live c.args.text.now declares.0 declares.1 c.read_first.new.lines.numbered (before_of_live said) last [] split first are,
      λ number cause is. fault-first live c.args.text.now declares.0 declares.1 c.read_first.new.lines.numbered (before_of_live said) number cause split first is,
    )

pub loop-line-preserved : goal.loop-line-preserved
loop-line-preserved c =
    let now = before_of_live c.read_live_line.new.live in (
      c.in_ok-read_live_line.ensures.sound,
      λ last are.
          c.loop-line.invariant.1 last
          (subst (λ (all : List (ℕ × TextLine)). AreLines (before_of_live c.loop-line.live) (without_numbers all) [] last) (sym c.in-Some.ensures.some)
          (declaration (before_of_live c.loop-line.live) now last c.in-Some.line.text.now (without_numbers c.next.new.self.numbered) [] c.in_ok-read_live_line.ensures.declares are)),
      λ number cause is.
          c.loop-line.invariant.2 number cause
          (subst (λ (all : List (ℕ × TextLine)). IsAtFaultFrom (before_of_live c.loop-line.live) all number cause) (sym c.in-Some.ensures.some)
          (fault-declares (before_of_live c.loop-line.live) now c.in-Some.line.number c.in-Some.line.text.now c.next.new.self.numbered number cause c.in_ok-read_live_line.ensures.declares is)),
    )

pub returns-in_err-read_live_line-clause-answer : goal.returns-in_err-read_live_line-clause-answer
returns-in_err-read_live_line-clause-answer c =
    let p = err_from_is_err_and c.from_residual-in_err-read_live_line.result c.from_residual-in_err-read_live_line.ensures.1 in
    rw (p.1, p.2)
    (refused-so c.args.text.now c.in_err-read_live_line.field-0.0
    (refuses-line live c.args.text.now (before_of_live c.loop-line.live) c.in-Some.line.number c.in-Some.line.text.now c.next.new.self.numbered c.in_err-read_live_line.field-0.0
    (λ n cause is. c.loop-line.invariant.2 n cause (subst (λ (all : List (ℕ × TextLine)). IsAtFaultFrom (before_of_live c.loop-line.live) all n cause) (sym c.in-Some.ensures.some) is))
    c.in_err-read_live_line.ensures.fault))

-- What was read is the live script that the text is.
pub returns-clause-answer : goal.returns-clause-answer
returns-clause-answer c =
    answered (IsLiveScript c.args.text.now) (IsMalformedLiveAt c.args.text.now) (one-live c.args.text.now) live_script_of refused_line _
    (IsLiveScript-read c.args.text.now c.loop-line.live _ c.loop-line.lines.numbered c.in_default.ensures.none c.loop-line.invariant.1 c.into_script.ensures.script) tt

pub returns-clause-plans : goal.returns-clause-plans
returns-clause-plans c = rw (c.into_script.ensures.catalog, c.into_script.ensures.clients) c.loop-line.invariant.0.plans
