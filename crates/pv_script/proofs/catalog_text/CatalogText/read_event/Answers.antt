-- One line that counts behind the text is an event, or at fault there.
use Rattle.std.proofs.Common.{◌∙◌, ◌≡◌, ◌≤◌, ℕ, List, [], ◌∷◌, length, IfSome, sym, ap, subst}
use Rattle.pv_model.specs.Text.{TextLine}
use Rattle.pv_script.specs.Behind.{Declaring, with_line, IsEventBehind, IsNoEventBehind}
use Rattle.pv_script.specs.BehindView.{declaring_of}
use Rattle.pv_script.specs.LineFaults.{error_at}
use Rattle.pv_script.specs.ScheduleView.{event_of}
use Rattle.pv_script.specs.ScriptErrors.{IsMalformedAt, refused_line}
use Rattle.pv_script.specs.declared.lines.TheConstants.{MAX_SCHEDULE}
use Rattle.pv_script.specs.declared.schedule.ScriptError.{ScriptError}
use Rattle.pv_script.proofs.BehindLemmas.{event-behind, fault-behind, nothing-behind}
use Rattle.pv_script.proofs.CatalogTextLemmas.{left-is, no-event, room-behind, was-none}
use Rattle.pv_script.proofs.catalog_text.CatalogText.read_event.Goals as goal

pub behind-lines-requires : goal.behind-lines-requires
behind-lines-requires c =
    let inside = c.self.inside in
    let line = c.args.line.now in
    room-behind inside.text.items line inside.lines MAX_SCHEDULE c.self.invariant.lines
    (subst (λ (d : Declaring). length (with_line d.text line) ≤ MAX_SCHEDULE) (sym c.self.view_is) c.requires)

pub returns-in_default-clause-none : goal.returns-in_default-clause-none
returns-in_default-clause-none c =
    let inside = c.self.inside in
    let line = c.args.line.now in
    let empty = left-is inside.text.items line inside.lines c.behind-lines.result [] c.self.invariant.lines c.behind-lines.ensures c.in_default.ensures.none in
    subst (λ (d : Declaring). IsNoEventBehind d line) c.self.view_is
    (no-event (declaring_of inside) line (nothing-behind inside.text.items line inside.said c.self.invariant.limited c.self.invariant.are empty))

pub returns-in-Ok-Some-clause-event : goal.returns-in-Ok-Some-clause-event
returns-in-Ok-Some-clause-event c =
    let inside = c.self.inside in
    let line = c.args.line.now in
    let number = c.in-Some.first.number in
    let first = c.in-Some.first.text.now in
    let e = event_of c.in-Ok-Some.event in
    let last = was-none c.next-2.result (sym c.is_some.ensures ∙ c.if-is_some.false) c.next-2.ensures.none in
    let one =
    left-is inside.text.items line inside.lines c.behind-lines.result ((number, first) ∷ []) c.self.invariant.lines c.behind-lines.ensures
    (c.in-Some.ensures.some ∙ ap (λ (rest : List (ℕ × TextLine)). (number, first) ∷ rest) last) in
    let says = rw c.in-Ok-Some.field-0-is at c.in-Ok-Some.ensures.event in
    rw c.in-Ok-Some.field-0-is
    (subst (λ (d : Declaring). IsEventBehind d line e) c.self.view_is
    (event-behind inside.text.items line inside.said c.self.invariant.limited c.self.invariant.are number first e one says))

pub returns-in-Err-clause-fault : goal.returns-in-Err-clause-fault
returns-in-Err-clause-fault c =
    let inside = c.self.inside in
    let line = c.args.line.now in
    let number = c.in-Some.first.number in
    let first = c.in-Some.first.text.now in
    let rest = c.next.new.self.numbered in
    let fault = c.in-Err.fault in
    let found = left-is inside.text.items line inside.lines c.behind-lines.result ((number, first) ∷ rest) c.self.invariant.lines c.behind-lines.ensures c.in-Some.ensures.some in
    subst (λ (e : ScriptError). IfSome (refused_line e) (IsMalformedAt (with_line c.args.self.now.text line))) (sym c.at.ensures)
    (subst (λ (d : Declaring). IfSome (refused_line (error_at number fault)) (IsMalformedAt (with_line d.text line))) c.self.view_is
    (fault-behind inside.text.items line inside.said c.self.invariant.limited c.self.invariant.are number first rest fault found c.in-Err.ensures.fault))
