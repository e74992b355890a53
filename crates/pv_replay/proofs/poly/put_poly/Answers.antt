-- The count of the cases, and the leaves with the tests before them, which are the tree.
use Rattle.std.proofs.Common.{ℤ, List, ◌++◌, length, ◌∙◌, ap, sym}
use Rattle.std.proofs.lemmas.Result.{on_ok_weaker}
use Rattle.pv_base.specs.BigEndian.{big_endian}
use Rattle.pv_base.specs.Polyvalue.{Case}
use Rattle.pv_base.specs.declared.limits.TheConstants.{HELD_NAMES}
use Rattle.pv_fields.proofs.PartLemmas.{appended_both}
use Rattle.pv_replay.specs.Nodes.{leaves_bytes}
use Rattle.pv_replay.proofs.LeafLemmas.{node_leaves}
use Rattle.pv_replay.proofs.poly.put_poly.Goals as goal

pub returns-clause-written : goal.returns-clause-written
returns-clause-written c = λ bytes polyvalue.
    let spelled = polyvalue.spelled in
    let leaves = ap leaves_bytes (c.cases-cases.ensures.cases ∙ sym polyvalue.is) ∙ node_leaves HELD_NAMES polyvalue.tree spelled.back spelled.second in
    on_ok_weaker c.put_leaves.result
    (λ last.
    appended_both c.args.put.now.bytes c.u16.new.self.bytes c.put_leaves.new.put.bytes spelled.front spelled.back bytes spelled.whole
    (c.in_ok-u16.ensures.written ∙ ap (λ (cases : List (Case ℤ)). c.args.put.now.bytes ++ big_endian 2 (length cases)) c.cases-cases.ensures.cases
    ∙ ap (λ front. c.args.put.now.bytes ++ front) (sym spelled.first.spelled))
    (last ∙ ap (λ back. c.u16.new.self.bytes ++ back) leaves))
    c.put_leaves.ensures.written
