-- What each form has.
use Rattle.std.proofs.Common.{IfOk, sym, subst}
use Rattle.pv_format.specs.Form.{SpellsIn}
use Rattle.pv_format.specs.Layout.{polyvalue_then}
use Rattle.pv_fields.specs.Decoding.{Passes}
use Rattle.pv_replay.specs.Values.{form_of}
use Rattle.pv_replay.specs.declared.form.Form.{Form}
use Rattle.pv_replay.proofs.reads.take_formed.Goals as goal

pub returns-in-Tree-clause-passes : goal.returns-in-Tree-clause-passes
returns-in-Tree-clause-passes c =
    subst (λ (form : Form). IfOk c.take_poly.result (λ poly. Passes (SpellsIn (form_of form) poly) (polyvalue_then (form_of form)) c.args.take.now c.take_poly.new.take)) (sym c.in-Tree.is)
    c.take_poly.ensures.passes

pub returns-in-SureTree-clause-passes : goal.returns-in-SureTree-clause-passes
returns-in-SureTree-clause-passes c =
    subst (λ (form : Form). IfOk c.take_sure_poly.result (λ poly. Passes (SpellsIn (form_of form) poly) (polyvalue_then (form_of form)) c.args.take.now c.take_sure_poly.new.take)) (sym c.in-SureTree.is)
    c.take_sure_poly.ensures.passes

pub returns-in-Cases-clause-passes : goal.returns-in-Cases-clause-passes
returns-in-Cases-clause-passes c =
    subst (λ (form : Form). IfOk c.take_cases_poly.result (λ poly. Passes (SpellsIn (form_of form) poly) (polyvalue_then (form_of form)) c.args.take.now c.take_cases_poly.new.take)) (sym c.in-Cases.is)
    c.take_cases_poly.ensures.passes
