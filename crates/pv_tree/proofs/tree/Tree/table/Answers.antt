-- Where no outcome is put in, the values are those of the cases.
use Rattle.std.proofs.Common.{List, ◌++◌, sym, ap, subst, ◌∙◌}
use Rattle.pv_base.specs.Polyvalue.{AreValues}
use Rattle.pv_tree.proofs.SettleLemmas.{unsettled-values}
use Rattle.pv_tree.proofs.tree.Tree.table.Goals as goal

pub returns-in_ok-push_table-in-One : goal.returns-in_ok-push_table-in-One
returns-in_ok-push_table-in-One g c =
    let pushed = c.in_ok-push_table-in-One.ensures in
    subst (λ (values : List g.row.V.Denot). AreValues c.args.self.now c.args.txns.now values)
    (sym (pushed.1 ∙ ap (λ (old : List g.row.V.Denot). old ++ pushed.0) c.in_ok-values-in-One.ensures.items))
    (unsettled-values c.args.self.now c.settle.new.target c.in_ok-root-in-One.root c.args.txns.now pushed.0 c.in_ok-root-in-One.ensures.settled pushed.2)
