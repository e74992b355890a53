-- One message more.
use Rattle.std.proofs.Common.{◌≡◌, ◌∙◌, ◌+◌, ℕ, suc, subst, Bool, true, false, List, Ok, sym, ap, arith}
use Rattle.std.specs.Prelude.{position}
use Rattle.pv_law_decisions.specs.Scene.{delivered}
use Rattle.pv_quorum_run.proofs.HappenLemmas.{Pumping, pumped-end, pumping-more, pumping-none}
use Rattle.pv_quorum_run.specs.Happening.{HasPumped}
use Rattle.pv_quorum_run.specs.Stands.{Becomes, StandsFor, setup_for}
use Rattle.pv_quorum_run.specs.declared.table.Table.{Table}
use Rattle.pv_quorum_run.proofs.table.Table.pump_some.Goals as goal

pub loop-init : goal.loop-init
loop-init c = λ scene stands. pumping-none c.args.self.now c.args.text.now.items scene stands

pub deliver-requires : goal.deliver-requires
deliver-requires c =
    let pumping = c.loop.invariant c.requires.0 c.requires.1 in
    let same = ap (λ mail. record c.loop.self { mail = mail }) c.next_fresh.ensures.unchanged in
    (pumping.last, subst (λ (table : Table). StandsFor table pumping.last) (sym same) pumping.stands)

pub loop-preserved : goal.loop-preserved
loop-preserved c = λ scene stands.
    let pumping = c.loop.invariant scene stands in
    let same = ap (λ mail. record c.loop.self { mail = mail }) c.next_fresh.ensures.unchanged in
    let before = subst (λ (table : Table). StandsFor table pumping.last) (sym same) pumping.stands in
    let more : suc c.loop.counter ≡ c.loop.counter + 1 = omega arith in
    subst (λ (k : ℕ). Pumping c.args.self.now c.deliver.new.self c.args.text.now.items c.deliver.new.text.items scene k) more
    (pumping-more c.args.self.now c.loop.self c.deliver.new.self c.args.text.now.items c.loop.text.items c.deliver.new.text.items scene c.loop.counter c.in-Some.number pumping
    (ap (λ (marks : List Bool). position (λ mark. mark) marks) (sym pumping.stands.fresh) ∙ sym c.next_fresh.ensures.found ∙ c.in-Some.is)
    (subst (λ (table : Table). Becomes {X = Unit {0}} {E = Unit {0}} table c.deliver.new.self c.loop.text.items c.deliver.new.text.items (delivered (setup_for table) pumping.last c.in-Some.number) (Ok tt))
    same (c.in_ok-deliver.ensures pumping.last before)))

pub returns-in_default : goal.returns-in_default
returns-in_default c = λ scene stands.
    let pumping = c.loop.invariant scene stands in
    let same = ap (λ mail. record c.loop.self { mail = mail }) c.next_fresh.ensures.unchanged in
    subst (λ (table : Table). HasPumped c.args.self.now table c.args.text.now.items c.loop.text.items scene c.args.most true) (sym same)
    (pumped-end c.args.self.now c.loop.self c.args.text.now.items c.loop.text.items scene c.args.most c.loop.counter true pumping (omega (arith, c.loop-test.true))
    (ap (λ (marks : List Bool). position (λ mark. mark) marks) (sym pumping.stands.fresh) ∙ sym c.next_fresh.ensures.found ∙ c.in_default.is))

pub returns : goal.returns
returns c = λ scene stands.
    let pumping = c.loop.invariant scene stands in
    pumped-end c.args.self.now c.loop.self c.args.text.now.items c.loop.text.items scene c.args.most c.loop.counter false pumping (omega (arith, c.loop.auto))
    (omega (arith, c.loop.auto, c.loop-test.false))
