-- Each line is taken in turn, and what refuses one refuses the text.
use Rattle.std.proofs.Common.{ℕ, List, sym, ap, ◌∙◌, refl, subst, map, arith}
use Rattle.std.proofs.lemmas.Result.{err_from_is_err_and}
use Rattle.pv_model.specs.FirstMisplaced.{without_numbers}
use Rattle.pv_model.specs.LineForms.{scheduled}
use Rattle.pv_model.specs.Schedule.{AreLines, significant}
use Rattle.pv_model.specs.Text.{TextLine}
use Rattle.pv_script.specs.LinesLeft.{LinesLeft}
use Rattle.pv_script.specs.Said.{before_of}
use Rattle.pv_script.specs.ScheduleView.{event_of}
use Rattle.pv_script.proofs.FaultLemmas.{IsAtFaultFrom, fault-takes, lines-takes, refuses-line}
use Rattle.pv_script.proofs.ScheduleLemmas.{lines-first, fault-first, plans-takes, begun-takes, lines-read}
use Rattle.pv_script.proofs.read.read_lines.Goals as goal

pub returns-in_err-said-clause-fault : goal.returns-in_err-said-clause-fault
returns-in_err-said-clause-fault c =
    let p = err_from_is_err_and c.from_residual.result c.from_residual.ensures.1 in
    rw (p.1, p.2) (c.in_err-said.ensures.fault c.args.text.now c.new-lines.ensures)

pub loop-line-init : goal.loop-line-init
loop-line-init c =
    let declares = c.in_ok-said.ensures.declares in
    let split = sym (ap (λ (left : LinesLeft). left.numbered) c.new-lines.ensures) ∙ declares.2 in (
      c.in_ok-said.ensures.limited,
      rw c.new-events.ensures.items (λ more last are. lines-first scheduled c.args.text.now declares.0 declares.1 c.read_first.new.lines.numbered (before_of c.in_ok-said.said) last more split declares.3 are),
      λ number cause is. fault-first scheduled c.args.text.now declares.0 declares.1 c.read_first.new.lines.numbered (before_of c.in_ok-said.said) number cause split declares.3 is,
      rw c.new-events.ensures.items (λ k d below. absurd (omega arith)),
      λ quiet. c.new-events.ensures.items,
    )

pub loop-line-preserved : goal.loop-line-preserved
loop-line-preserved c = (
  c.in_ok-read_line.ensures.limited,
  λ more last are.
      lines-takes (before_of c.loop-line.said) (before_of c.read_line.new.said) c.read_line.new.said.catalog c.loop-line.events.items c.read_line.new.events.items c.in-Some.line.text.now
      (without_numbers c.next.new.self.numbered) (significant c.args.text.now) more last c.in_ok-read_line.ensures.takes
      (λ more last are. c.loop-line.invariant.1 more last (subst (λ (all : List (ℕ × TextLine)). AreLines (before_of c.loop-line.said) (without_numbers all) more last) (sym c.in-Some.ensures.some) are)) are,
  λ number cause is.
      c.loop-line.invariant.2 number cause
      (subst (λ (all : List (ℕ × TextLine)). IsAtFaultFrom (before_of c.loop-line.said) all number cause) (sym c.in-Some.ensures.some)
      (fault-takes (before_of c.loop-line.said) (before_of c.read_line.new.said) c.read_line.new.said.catalog c.loop-line.events.items c.read_line.new.events.items c.in-Some.line.number c.in-Some.line.text.now
      c.next.new.self.numbered number cause c.in_ok-read_line.ensures.takes is)),
  plans-takes (before_of c.loop-line.said) (before_of c.read_line.new.said) c.in-Some.line.text.now c.loop-line.said.catalog c.read_line.new.said.catalog c.loop-line.events.items c.read_line.new.events.items
      c.loop-line.said.catalog.sites refl refl refl refl c.loop-line.invariant.4 c.loop-line.invariant.3 c.in_ok-read_line.ensures.takes,
  begun-takes (before_of c.loop-line.said) (before_of c.read_line.new.said) c.in-Some.line.text.now c.read_line.new.said.catalog c.loop-line.events.items c.read_line.new.events.items
      c.loop-line.said.catalog.sites refl refl c.loop-line.invariant.4 c.in_ok-read_line.ensures.takes,
)

pub returns-in_err-read_line-clause-fault : goal.returns-in_err-read_line-clause-fault
returns-in_err-read_line-clause-fault c =
    let p = err_from_is_err_and c.from_residual-in_err-read_line.result c.from_residual-in_err-read_line.ensures.1 in
    rw (p.1, p.2)
    (refuses-line scheduled c.args.text.now (before_of c.loop-line.said) c.in-Some.line.number c.in-Some.line.text.now c.next.new.self.numbered c.in_err-read_line.field-0.0
    (λ n cause is. c.loop-line.invariant.2 n cause (subst (λ (all : List (ℕ × TextLine)). IsAtFaultFrom (before_of c.loop-line.said) all n cause) (sym c.in-Some.ensures.some) is))
    c.in_err-read_line.ensures.fault)

pub returns-clause-are : goal.returns-clause-are
returns-clause-are c =
    lines-read c.args.text.now c.loop-line.said (map event_of c.loop-line.events.items) c.loop-line.lines.numbered c.in_default.ensures.none c.loop-line.invariant.1
