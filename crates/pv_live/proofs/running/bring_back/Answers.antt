-- One more disk is back.
use Rattle.std.proofs.Common.{rules, ◌++◌, ◌∷◌, [], length, map, sym, subst, ap, ◌∙◌, arith}
use Rattle.std.proofs.lemmas.Iterator.Adapters.{YieldsList-from_vec}
use Rattle.std.proofs.lemmas.Iterator.Consumers.{YieldsList-end, YieldsList-turn}
use Rattle.std.proofs.lemmas.List.{length-map, length_push, map-append, map-id}
use Rattle.pv_disk.specs.BayModel.{Berth}
use Rattle.pv_live.specs.Brought.{AreBroughtBack}
use Rattle.pv_live.proofs.ServedLemmas.{brought-none, brought-more}
use Rattle.pv_live.proofs.running.bring_back.Goals as goal

pub loop-one-init : goal.loop-one-init
loop-one-init g c = record {
  back = brought-none g.B.Bay.model g.B.D.Disk.model c.args.bay.now;
  histories = c.requires.none;
  count = search rules;
  room = c.requires.room;
}

pub back-requires : goal.back-requires
back-requires g c =
    let turn = YieldsList-turn (YieldsList-from_vec {s = c.into_iter-one-iterator.result} c.args.boxes.items (search rules) (search rules)) c.loop-one.yielded
    c.loop-one.one-iterator c.loop-one.yielded_by c.next.result c.next.new.self c.in-Some.one c.in-Some.is c.next.ensures.steps in
    let so = c.loop-one.invariant in
    ap (λ (b : Berth). b.is_out) (so.back.beyond c.loop-one.number (omega (arith, so.count))) ∙ c.requires.out c.loop-one.number (omega (arith, so.count, turn.0))

pub overflow_add-number : goal.overflow_add-number
overflow_add-number g c =
    let turn = YieldsList-turn (YieldsList-from_vec {s = c.into_iter-one-iterator.result} c.args.boxes.items (search rules) (search rules)) c.loop-one.yielded
    c.loop-one.one-iterator c.loop-one.yielded_by c.next.result c.next.new.self c.in-Some.one c.in-Some.is c.next.ensures.steps in
    let so = c.loop-one.invariant in
    omega (arith, so.count, turn.0, c.requires.few)

pub push_reserved-requires : goal.push_reserved-requires
push_reserved-requires g c =
    let turn = YieldsList-turn (YieldsList-from_vec {s = c.into_iter-one-iterator.result} c.args.boxes.items (search rules) (search rules)) c.loop-one.yielded
    c.loop-one.one-iterator c.loop-one.yielded_by c.next.result c.next.new.self c.in-Some.one c.in-Some.is c.next.ensures.steps in
    let so = c.loop-one.invariant in
    let many = length-map c.loop-one.yielded (λ box. box.history) in
    omega (arith, turn.0, ap length so.histories, many, so.room)

pub loop-one-preserved : goal.loop-one-preserved
loop-one-preserved g c =
    let M = g.B.Bay.model in
    let D = g.B.D.Disk.model in
    let so = c.loop-one.invariant in
    let done = c.loop-one.yielded in
    let one = c.in-Some.one in
    record {
      back = brought-more M D c.args.bay.now c.loop-one.bay c.back.new.self done one c.loop-one.number _ so.back so.count (search rules) c.back.ensures.effect;
      histories = c.push_reserved.ensures.items ∙ (λ i. so.histories i ++ c.into_parts-site.ensures.1 i ∷ []) ∙ sym (map-append (λ box. box.history) done (one ∷ []));
      count = let long = length_push done one in omega (arith, so.count, long);
      room = omega (arith, c.push_reserved.ensures.capacity, so.room);
    }

pub returns : goal.returns
returns g c =
    let end = YieldsList-end (YieldsList-from_vec {s = c.into_iter-one-iterator.result} c.args.boxes.items (search rules) (search rules)) c.loop-one.yielded
    c.loop-one.one-iterator c.loop-one.yielded_by c.next.result c.next.new.self c.in-None.is c.next.ensures.steps in
    let all = sym (map-id c.loop-one.yielded) ∙ end.0 in
    record {
      back = subst (AreBroughtBack g.B.Bay.model g.B.D.Disk.model c.args.bay.now c.loop-one.bay) all c.loop-one.invariant.back;
      histories = c.loop-one.invariant.histories ∙ ap (map (λ box. box.history)) all;
    }
