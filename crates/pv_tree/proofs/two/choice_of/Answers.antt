-- What is read is what two canonical cases are.
use Rattle.std.proofs.Common.{refl, ap, arith}
use Rattle.pv_base.specs.Polyvalue.{Case}
use Rattle.pv_tree.proofs.TwoLemmas.{two-read, two-when}
use Rattle.pv_tree.proofs.two.choice_of.Goals as goal

pub index-requires : goal.index-requires
index-requires g c =
    let one =
    two-when c.args.cases.now c.index-cases-0.result c.before-2.inside.when.items c.requires.canonical c.requires.two c.index-cases-0.is
    (ap (λ (k : Case g.row.V.Denot). k.when) c.before-2.view_is) in
    omega (arith, c.before-2.inside.when.ok.0, one)

pub returns-clause-cases : goal.returns-clause-cases
returns-clause-cases g c =
    (two-read c.args.cases.now c.index-cases-0.result c.index-cases-1.result c.before-2.inside.when.items c.index.result.now c.index.result.now.txn c.before-2.inside.value c.after.inside.value
    c.requires.canonical c.requires.two c.index-cases-0.is c.index-cases-1.is (ap (λ (k : Case g.row.V.Denot). k.when) c.before-2.view_is) c.index.ensures refl
    (ap (λ (k : Case g.row.V.Denot). k.value) c.before-2.view_is) (ap (λ (k : Case g.row.V.Denot). k.value) c.after.view_is)).is

pub returns-clause-sides : goal.returns-clause-sides
returns-clause-sides g c =
    (two-read c.args.cases.now c.index-cases-0.result c.index-cases-1.result c.before-2.inside.when.items c.index.result.now c.index.result.now.txn c.before-2.inside.value c.after.inside.value
    c.requires.canonical c.requires.two c.index-cases-0.is c.index-cases-1.is (ap (λ (k : Case g.row.V.Denot). k.when) c.before-2.view_is) c.index.ensures refl
    (ap (λ (k : Case g.row.V.Denot). k.value) c.before-2.view_is) (ap (λ (k : Case g.row.V.Denot). k.value) c.after.view_is)).sides
