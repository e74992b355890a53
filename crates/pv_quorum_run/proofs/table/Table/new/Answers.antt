-- One decider more.
use Rattle.std.proofs.Common.{rules, ◌≡◌, ◌∙◌, ℕ, ◌+◌, length, sym, ap, subst, arith}
use Rattle.pv_quorum_run.proofs.NewLemmas.{AreFirst, first-more, first-stands}
use Rattle.pv_quorum_run.proofs.table.Table.new.Goals as goal

pub loop-me-init : goal.loop-me-init
loop-me-init c = record {
  count = search rules;
  room = omega (arith, c.in_ok-cells.ensures);
  stand = λ k none small. absurd (omega (arith, small));
}

pub push_reserved-requires : goal.push_reserved-requires
push_reserved-requires c = omega (arith, c.loop-me.invariant.count, c.loop-me.invariant.room, c.loop-me-test.true)

pub loop-me-preserved : goal.loop-me-preserved
loop-me-preserved c =
    let me = c.loop-me.me in
    let cell = c.in_ok-open.field-0 in
    let long : length c.loop-me.cells.items ≡ me = omega (arith, c.loop-me.invariant.count, c.loop-me.cells.ok) in
    record {
      count = c.push_reserved.ensures.len ∙ ap (λ (n : ℕ). n + 1) c.loop-me.invariant.count;
      room = omega (arith, c.push_reserved.ensures.capacity, c.loop-me.invariant.room);
      stand = subst (AreFirst c.args.count (me + 1)) (sym c.push_reserved.ensures.items)
          (first-more c.args.count me c.loop-me.cells.items cell long c.loop-me.invariant.stand c.in_ok-open.ensures);
    }

pub returns-clause-stands : goal.returns-clause-stands
returns-clause-stands c =
    let all : c.loop-me.me ≡ c.args.count = omega (arith, c.loop-me-test.false, c.loop-me.auto) in
    let long : length c.loop-me.cells.items ≡ c.args.count = omega (arith, c.loop-me.invariant.count, c.loop-me.cells.ok, all) in
    first-stands (record { alloc = c.args.alloc; count = c.args.count; cells = c.loop-me.cells; mail = c.new.result }) c.requires.fewest c.requires.most long
    (subst (λ (n : ℕ). AreFirst c.args.count n c.loop-me.cells.items) all c.loop-me.invariant.stand) c.new.ensures
