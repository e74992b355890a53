-- What is written is the leaf.
use Rattle.std.proofs.Common.{◌≡◌, ◌∙◌, ◌++◌, ℕ, ℤ, List, FitsSigned, w64, ap, rules, subst}
use Rattle.std.proofs.lemmas.Int.{to_z-of_z}
use Rattle.std.specs.Prelude.{OnOk}
use Rattle.pv_replay.specs.Nodes.{leaf_bytes}
use Rattle.pv_replay.proofs.poly.put_leaf.Goals as goal

pub returns-clause-written : goal.returns-clause-written
returns-clause-written c =
    let fits : FitsSigned w64 c.args.value = search rules in
    subst (λ (written : List ℕ). OnOk c.bytes.result (c.bytes.new.self.bytes ≡ c.args.put.now.bytes ++ written))
    (c.leaf_bytes.ensures ∙ ap (λ (value : ℤ). leaf_bytes value) (to_z-of_z w64 c.args.value fits)) c.bytes.ensures.written
