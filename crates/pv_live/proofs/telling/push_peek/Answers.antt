-- What was found is said by its own line.
use Rattle.std.proofs.Common.{◌≡◌, ◌++◌, List, OnOk, sym, subst}
use Rattle.std.specs.Prelude.{ℤ}
use Rattle.pv_base.specs.Polyvalue.{Case}
use Rattle.pv_closing.specs.Lines.{reading_of}
use Rattle.pv_protocol.specs.Report.{cases}
use Rattle.pv_shelf.specs.declared.face.Face.{Face}
use Rattle.pv_transcript.specs.Heard.{heard_line, peeked}
use Rattle.pv_live.proofs.telling.push_peek.Goals as goal

pub returns-in-Cases : goal.returns-in-Cases
returns-in-Cases c catalog =
    subst (λ (face : Face). OnOk c.push_peeked.result
    (c.push_peeked.new.text.items ≡ c.args.text.now.items ++ heard_line catalog c.args.client c.args.request (peeked c.args.peek.now.steps (reading_of c.args.site.0 face))))
    (sym c.in-Cases.is)
    (subst (λ (value : List (Case ℤ)). OnOk c.push_peeked.result
    (c.push_peeked.new.text.items ≡ c.args.text.now.items ++ heard_line catalog c.args.client c.args.request (peeked c.args.peek.now.steps (cases value))))
    c.cases.ensures.cases (c.push_peeked.ensures.text catalog))

pub returns-in-Locked : goal.returns-in-Locked
returns-in-Locked c catalog =
    subst (λ (face : Face). OnOk c.push_peeked_locked.result
    (c.push_peeked_locked.new.text.items ≡ c.args.text.now.items ++ heard_line catalog c.args.client c.args.request (peeked c.args.peek.now.steps (reading_of c.args.site.0 face))))
    (sym c.in-Locked.is) (c.push_peeked_locked.ensures.text catalog)

pub returns-in-Down : goal.returns-in-Down
returns-in-Down c catalog =
    subst (λ (face : Face). OnOk c.push_peeked_down.result
    (c.push_peeked_down.new.text.items ≡ c.args.text.now.items ++ heard_line catalog c.args.client c.args.request (peeked c.args.peek.now.steps (reading_of c.args.site.0 face))))
    (sym c.in-Down.is) (c.push_peeked_down.ensures.text catalog)
