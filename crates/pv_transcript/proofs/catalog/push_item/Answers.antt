-- What was declared of the item are its name, its site and its value.
use Rattle.std.proofs.Common.{rules, ◌≡◌, ◌++◌, List, ℕ, FitsSigned, OnOk, w64, sym, ◌∙◌, subst}
use Rattle.std.proofs.lemmas.Int.{to_z-of_z}
use Rattle.pv_base.specs.Catalog.{Item}
use Rattle.pv_transcript.specs.ScheduleText.{item_line}
use Rattle.pv_transcript.proofs.ItemLemmas.{same-field}
use Rattle.pv_transcript.proofs.catalog.push_item.Goals as goal

pub returns-clause-text : goal.returns-clause-text
returns-clause-text c = λ declared at.
    let items = c.args.catalog.now.items in
    let n = c.args.item.0 in
    let name : declared.name ≡ c.name.result.now = same-field (λ (item : Item). item.name) items n declared c.name.result.now at c.name.ensures.name in
    let site : declared.site ≡ c.site_of.result.0 = same-field (λ (item : Item). item.site) items n declared c.site_of.result.0 at c.site_of.ensures in
    let value : declared.value ≡ c.declared.result = same-field (λ (item : Item). item.value) items n declared c.declared.result at c.declared.ensures in
    let fits : FitsSigned w64 c.declared.result = search rules in
    subst (λ (line : List ℕ). OnOk c.push_declared.result (c.push_declared.new.text.items ≡ c.args.text.now.items ++ line))
    (λ i. item_line (record { name = sym name i; site = sym site i; value = (to_z-of_z w64 c.declared.result fits ∙ sym value) i })) c.push_declared.ensures.text
