use Rattle.std.proofs.Common.{arith, [], ◌∷◌, Some, None, Ok, Err, sym, subst}
use Rattle.pv_world.proofs.EventLemmas.{made-delivery}
use Rattle.pv_world.proofs.PumpSteps.{HasPumped, few-sites, fuel_of, going-on, makes-result, over-pumped, over-zero, next-less, none-pumped, one-pumped, pump-deliveries, pumped-fresh, pumped-most, stands-marked, stands-next, stands-weight}
use Rattle.pv_protocol.specs.Run.{transitions_of}
use Rattle.pv_site.specs.SiteState.{setup_of}
use Rattle.pv_model.specs.Events.{deliver, pump}
use Rattle.pv_protocol.specs.Pump.{deliveries}
use Rattle.pv_protocol.specs.WorldStep.{transition_of}
use Rattle.pv_world.specs.Stands.{StandsFor}
use Rattle.pv_world.specs.Steps.{MakesTransitions}
use Rattle.pv_world.proofs.world.World.pump.Goals as goal

pub loop-left-init : goal.loop-left-init
loop-left-init c is stands = none-pumped c.args.self.now c.args.lines.now.items c.args.most is stands

pub deliver-requires : goal.deliver-requires
deliver-requires c =
    let pumped = c.loop-left.invariant c.requires.0 c.requires.1 in
    let moved = subst (λ mail. HasPumped c.args.self.now (record c.loop-left.self { mail = mail }) c.args.lines.now.items c.loop-left.lines.items c.args.most c.loop-left.left c.requires.0)
    (sym c.next_fresh.ensures.unchanged) pumped in
    (moved.now_is, moved.stands)

pub loop-left-preserved : goal.loop-left-preserved
loop-left-preserved c is stands =
    let pumped = c.loop-left.invariant is stands in
    let entry = c.args.self.now in
    let next = stands-next c.loop-left.self pumped.now_is (Some c.in-Some.number) pumped.stands.stands c.in-Some.ensures.found in
    let before = subst (λ mail. StandsFor (record c.loop-left.self { mail = mail }) pumped.now_is) (sym c.next_fresh.ensures.unchanged) pumped.stands in
    let sent = c.in_ok-deliver.ensures pumped.now_is before in
    let makes = made-delivery (record c.loop-left.self { mail = c.next_fresh.new.self }) c.deliver.new.self c.loop-left.lines.items c.deliver.new.lines.items pumped.now_is before
    c.in-Some.number (Ok c.in_ok-deliver.field-0) sent in
    let there = subst (λ mail. MakesTransitions (record c.loop-left.self { mail = mail }) c.deliver.new.self c.loop-left.lines.items c.deliver.new.lines.items pumped.now_is
    (transition_of (setup_of c.loop-left.self.catalog) pumped.now_is (deliver c.in-Some.number) ∷ []) (Ok c.in_ok-deliver.field-0)) c.next_fresh.ensures.unchanged makes in
    subst (λ left. HasPumped entry c.deliver.new.self c.args.lines.now.items c.deliver.new.lines.items c.args.most left is) (sym c.one_less-left.ensures)
    (one-pumped entry c.loop-left.self c.deliver.new.self c.args.lines.now.items c.loop-left.lines.items c.deliver.new.lines.items c.args.most c.loop-left.left is
    (few-sites entry is stands) pumped c.in-Some.number next (going-on c.loop-left.left (let same = c.is_over.ensures in let test = c.loop-left-test.true in cc)) c.in_ok-deliver.field-0 there)

pub loop-left-smaller : goal.loop-left-smaller
loop-left-smaller c =
    let stands = c.requires.1 in
    let pumped = c.loop-left.invariant c.requires.0 stands in
    let next = stands-next c.loop-left.self pumped.now_is (Some c.in-Some.number) pumped.stands.stands c.in-Some.ensures.found in
    let before = subst (λ mail. StandsFor (record c.loop-left.self { mail = mail }) pumped.now_is) (sym c.next_fresh.ensures.unchanged) pumped.stands in
    let makes = made-delivery (record c.loop-left.self { mail = c.next_fresh.new.self }) c.deliver.new.self c.loop-left.lines.items c.deliver.new.lines.items pumped.now_is before
    c.in-Some.number (Ok c.in_ok-deliver.field-0) (c.in_ok-deliver.ensures pumped.now_is before) in
    omega (
      arith,
      stands-weight c.deliver.new.self _ makes.0.stands,
      stands-weight c.loop-left.self pumped.now_is pumped.stands.stands,
      next-less (setup_of c.loop-left.self.catalog) (few-sites c.loop-left.self pumped.now_is pumped.stands) pumped.now_is
          (stands-marked c.loop-left.self pumped.now_is pumped.stands.stands) c.in-Some.number next,
    )

pub returns : goal.returns
returns c is stands =
    let entry = c.args.self.now in
    let pumped = c.loop-left.invariant is stands in
    subst (λ transitions. MakesTransitions entry c.loop-left.self c.args.lines.now.items c.loop-left.lines.items is transitions (Ok (tt {0})))
    (sym (pump-deliveries (setup_of entry.catalog) is c.args.most))
    (pumped-most entry c.loop-left.self c.args.lines.now.items c.loop-left.lines.items c.args.most c.loop-left.left is pumped (tt {0}) (over-zero c.loop-left.left (let same = c.is_over.ensures in let test = c.loop-left-test.false in cc)))

pub returns-in_default : goal.returns-in_default
returns-in_default c is stands =
    let entry = c.args.self.now in
    let pumped = c.loop-left.invariant is stands in
    let none = stands-next c.loop-left.self pumped.now_is None pumped.stands.stands c.in_default.ensures.found in
    subst (λ transitions. MakesTransitions entry (record c.loop-left.self { mail = c.next_fresh.new.self }) c.args.lines.now.items c.loop-left.lines.items is transitions (Ok (tt {0})))
    (sym (pump-deliveries (setup_of entry.catalog) is c.args.most))
    (subst (λ mail. MakesTransitions entry (record c.loop-left.self { mail = mail }) c.args.lines.now.items c.loop-left.lines.items is
    (deliveries (fuel_of is c.args.most) (setup_of entry.catalog) is) (Ok (tt {0}))) (sym c.next_fresh.ensures.unchanged)
    (pumped-fresh entry c.loop-left.self c.args.lines.now.items c.loop-left.lines.items c.args.most c.loop-left.left is pumped (tt {0}) none))

pub returns-in_err-deliver : goal.returns-in_err-deliver
returns-in_err-deliver c is stands =
    let entry = c.args.self.now in
    let pumped = c.loop-left.invariant is stands in
    let next = stands-next c.loop-left.self pumped.now_is (Some c.in-Some.number) pumped.stands.stands c.in-Some.ensures.found in
    let before = subst (λ mail. StandsFor (record c.loop-left.self { mail = mail }) pumped.now_is) (sym c.next_fresh.ensures.unchanged) pumped.stands in
    let error = c.in_err-deliver.field-0.0 in
    let makes = made-delivery (record c.loop-left.self { mail = c.next_fresh.new.self }) c.deliver.new.self c.loop-left.lines.items c.deliver.new.lines.items pumped.now_is before {X = Unit {0}}
    c.in-Some.number (Err error) (c.in_err-deliver.ensures pumped.now_is before) in
    let there = subst (λ mail. MakesTransitions {X = Unit {0}} (record c.loop-left.self { mail = mail }) c.deliver.new.self c.loop-left.lines.items c.deliver.new.lines.items pumped.now_is
    (transition_of (setup_of c.loop-left.self.catalog) pumped.now_is (deliver c.in-Some.number) ∷ []) (Err error)) c.next_fresh.ensures.unchanged makes in
    makes-result (Unit {0}) entry c.deliver.new.self c.args.lines.now.items c.deliver.new.lines.items is (transitions_of (setup_of entry.catalog) is (pump c.args.most))
    c.from_residual.result error c.from_residual.ensures.1
    (subst (λ transitions. MakesTransitions {X = Unit {0}} entry c.deliver.new.self c.args.lines.now.items c.deliver.new.lines.items is transitions (Err error))
    (sym (pump-deliveries (setup_of entry.catalog) is c.args.most))
    (over-pumped entry c.loop-left.self c.deliver.new.self c.args.lines.now.items c.loop-left.lines.items c.deliver.new.lines.items c.args.most c.loop-left.left is
    (few-sites entry is stands) pumped c.in-Some.number next (going-on c.loop-left.left (let same = c.is_over.ensures in let test = c.loop-left-test.true in cc)) (Unit {0}) error there))
