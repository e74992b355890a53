-- What the text and the line say together, read as one.
use Rattle.std.proofs.Common.{◌∙◌, ℕ, List, ap}
use Rattle.pv_script.specs.Behind.{Declaring, with_line}
use Rattle.pv_script.proofs.CatalogTextLemmas.{none-only, plan-only}
use Rattle.pv_script.proofs.catalog_text.CatalogText.read_again.Goals as goal

pub returns-clause-plan : goal.returns-clause-plan
returns-clause-plan c =
    let schedule = c.in_ok-schedule.schedule in
    plan-only c.only.result schedule.events.items schedule.catalog c.args.self.now.catalog
    (c.is_same.ensures.0 c.if-not-is_same.false ∙ ap (λ (d : Declaring). d.catalog) c.self.view_is) c.only.ensures.only c.in_ok-schedule.ensures.plans

pub returns-clause-none : goal.returns-clause-none
returns-clause-none c =
    let line = c.args.line.now in
    let joined =
    c.deref-2.ensures.value ∙ c.in_ok-joined.ensures ∙ ap (λ (text : List ℕ). with_line text line) c.deref.ensures.value
    ∙ ap (λ (d : Declaring). with_line d.text line) c.self.view_is in
    none-only c.only.result c.in_ok-schedule.schedule c.args.self.now c.deref-2.result.now line c.in_ok-schedule.ensures.answer.given joined c.only.ensures.none
