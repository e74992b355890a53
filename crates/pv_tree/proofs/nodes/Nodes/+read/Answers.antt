-- A leaf is a case whose literals are those of the way, and a test has what its sides have.
use Rattle.std.proofs.Common.{◌≡◌, ◌∙◌, ◌++◌, ◌∷◌, [], true, false, IfSome, List, sym, ap, subst}
use Rattle.pv_base.specs.declared.literal.Literal.{Literal}
use Rattle.pv_base.specs.Polyvalue.{Case}
use Rattle.pv_cases.proofs.PushedCases.{popped-way}
use Rattle.pv_tree.specs.Meanings.{IsRead}
use Rattle.pv_tree.proofs.KeptLemmas.{keeps-trans}
use Rattle.pv_tree.proofs.ReadLemmas.{read-leaf, read-test}
use Rattle.pv_tree.proofs.nodes.Nodes.+read.Goals as goal

pub returns-in_default-get-clause-read : goal.returns-in_default-get-clause-read
returns-in_default-get-clause-read g t c =
    let case : Case g.row.V.Denot = record { when = c.case.inside.when.items; value = c.case.inside.value } in
    read-leaf c.args.way.now.items case c.args.cases.now c.in-Some.rest.now c.leaf.new.self c.in_ok-leaf.leaf
    (c.in-Some.ensures.cases.0 ∙ ap (λ (k : Case g.row.V.Denot). k ∷ c.in-Some.rest.now) (sym c.case.view_is))
    (sym c.deref-in_default-get.ensures.value ∙ c.is_way.ensures c.if-not-is_way.false ∙ c.deref-in_default-get-2.ensures.value)
    c.in_ok-leaf.ensures.leaf

pub returns-clause-kept : goal.returns-clause-kept
returns-clause-kept g t c =
    keeps-trans c.args.self.now c.read.new.self c.tested.new.self c.in_ok-aborted.ensures.kept
    (keeps-trans c.read.new.self c.read-2.new.self c.tested.new.self c.in_ok-committed.ensures.kept c.in_ok-test.ensures.kept)

pub returns-clause-read : goal.returns-clause-read
returns-clause-read g t c =
    let txn = c.in-Some-get.literal.now.txn in
    let way = c.args.way.now.items in
    let first = c.push.new.self.items in
    let second = c.push-2.new.self.items in
    let front : IsRead first c.args.cases.now c.read.new.self c.in-Some-2.aborted c.in-Some-2.others.now =
    subst (λ read. IfSome read (λ found. IsRead first c.args.cases.now c.read.new.self found.0 found.1.now)) c.in-Some-2.is c.in_ok-aborted.ensures.read in
    let back : IsRead second c.in-Some-2.others.now c.read-2.new.self c.in-Some-3.committed c.in-Some-3.others.now =
    subst (λ read. IfSome read (λ found. IsRead second c.in-Some-2.others.now c.read-2.new.self found.0 found.1.now)) c.in-Some-3.is c.in_ok-committed.ensures.read in
    let as-before : c.read.new.way.items ≡ first = subst (λ read. IfSome read (λ found. c.read.new.way.items ≡ first)) c.in-Some-2.is c.in_ok-aborted.ensures.way in
    let popped =
    popped-way way c.read.new.way.items c.pop.new.self.items (record { txn = txn; commits = false }) _
    (as-before ∙ c.in_ok-push.ensures.items) c.read.new.way.ok.0 c.pop.ensures.rest in
    read-test way first second txn c.args.cases.now c.in-Some-2.others.now c.in-Some-3.others.now c.read.new.self c.read-2.new.self c.tested.new.self
    c.in-Some-2.aborted c.in-Some-3.committed c.in_ok-test.test
    c.in_ok-push.ensures.items
    (c.in_ok-push-2.ensures.items ∙ ap (λ (w : List Literal). w ++ record { txn = txn; commits = true } ∷ []) popped)
    front c.in_ok-committed.ensures.kept back (c.are_sides.ensures c.if-not-are_sides.false) c.in_ok-test.ensures.test
