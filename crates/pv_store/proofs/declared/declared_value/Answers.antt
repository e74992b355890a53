-- The item's site, and its value at every assignment.
use Rattle.std.proofs.Common.{◌≡◌, ◌∙◌, ◌==◌, Bool, true, false, not, List, [], Some, None, FitsSigned, w64, rules, sym, ap}
use Rattle.std.specs.Prelude.{if◌then◌else◌}
use Rattle.std.proofs.lemmas.Int.{to_z-of_z}
use Rattle.pv_base.specs.declared.txn.TxnId.{TxnId}
use Rattle.pv_base.specs.Polyvalue.{value_at}
use Rattle.pv_protocol.specs.Shown.{shown_within}
use Rattle.pv_store.proofs.SettlingLemmas.{declared-home, declared-shown}
use Rattle.pv_store.proofs.declared.declared_value.Goals as goal

not-not : (b : Bool) → false ≡ not b → b ≡ true
not-not true h = let k : true ≡ true = sym (ap not h) in k
not-not false h = h

pub returns : goal.returns
returns c =
    let home = declared-home c.args.catalog.now c.args.site.0 c.args.item.0 c.site_of.result.0 c.site_of.ensures ∙ not-not (c.site_of.result.0 == c.args.site.0) c.if-ne.ensures in
    let fits : FitsSigned w64 c.declared.result = search rules in
    let values : (a : List TxnId) → value_at c.in_ok-value.value a ≡ Some c.declared.result =
    λ a. c.in_ok-value.ensures.value a ∙ ap Some (to_z-of_z w64 c.declared.result fits) in
    let shown = declared-shown c.args.catalog.now c.args.item.0 c.declared.result c.declared.ensures c.in_ok-value.value c.in_ok-value.ensures.polyvalue values in
    ap Some (c.in_ok-named.ensures ∙ shown)
    ∙ ap (λ (test : Bool). if test then Some (shown_within c.args.catalog.now [] [] c.args.item.0) else None) (sym home)
