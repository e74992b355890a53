-- A line behind a broken one only counts; another one is read.
use Rattle.std.proofs.Common.{List, [], ◌∷◌, ◌++◌, sym, ap, subst, ◌∙◌, map}
use Rattle.pv_script.specs.LineView.{line_of}
use Rattle.pv_audit.proofs.BelowLemmas.{map-push, take-behind, take-form}
use Rattle.pv_audit.specs.Reading.{AreRead}
use Rattle.pv_protocol.specs.Lines.{Line}
use Rattle.pv_audit.proofs.below.Below.take.Goals as goal

pub returns-then-is_some : goal.returns-then-is_some
returns-then-is_some c = λ lines are.
    take-behind c.args.catalog.now lines (map line_of c.args.self.now.lines.items) c.args.self.now.broken c.args.self.now.more (c.args.line.number, c.args.line.text.now)
    (sym c.is_some.ensures ∙ c.if-is_some.true) are

pub returns-in_ok-push-in-Some : goal.returns-in_ok-push-in-Some
returns-in_ok-push-in-Some c = λ lines are.
    subst (λ (read : List Line). AreRead c.args.catalog.now (lines ++ (c.args.line.number, c.args.line.text.now) ∷ []) read c.args.self.now.broken c.args.self.now.more)
    (sym (ap (map line_of) c.in_ok-push-in-Some.ensures.items ∙ map-push line_of c.args.self.now.lines.items c.in-Some.read))
    (take-form c.args.catalog.now lines (map line_of c.args.self.now.lines.items) c.args.self.now.broken c.args.self.now.more c.args.line.number c.args.line.text.now
    (line_of c.in-Some.read) (sym c.is_some.ensures ∙ c.if-is_some.false) are (rw c.in-Some.is at c.in_ok-read.ensures))
