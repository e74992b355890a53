-- One more cell gives its disk, for which there is room.
use Rattle.std.proofs.Common.{rules, ◌≡◌, ℕ, suc, ◌+◌, List, ◌++◌, length, drop, get_or, [], ◌∷◌, sym, ap, subst, ◌∙◌, arith}
use Rattle.std.proofs.lemmas.Iterator.Adapters.{YieldsList-from_vec}
use Rattle.std.proofs.lemmas.Iterator.Consumers.{YieldsList-end, YieldsList-turn}
use Rattle.pv_world.proofs.CloseLemmas.{cell-is, held-all, hold-next, one-longer}
use Rattle.pv_disk.specs.MemDisk.{MemState}
use Rattle.pv_protocol.specs.State.{Site}
use Rattle.pv_protocol.specs.World.{no_site}
use Rattle.pv_base.specs.Catalog.{Declared}
use Rattle.pv_world.specs.Disks.{HoldSites, IsLogOfSite}
use Rattle.pv_world.specs.Stands.{IsSomeSite, StandForSites, StandsForSite}
use Rattle.pv_world.specs.declared.cell.Cell.{Cell}
use Rattle.pv_world.proofs.room.Room.fill.Goals as goal

pub close-requires : goal.close-requires
close-requires c =
    let stands = c.requires.stand in
    let turn = YieldsList-turn (YieldsList-from_vec {s = c.into_iter-cell-iterator.result} c.args.cells.items (search rules) (search rules)) c.loop-cell.yielded
    c.loop-cell.cell-iterator c.loop-cell.yielded_by c.next.result c.next.new.self c.in-Some.cell c.in-Some.is c.next.ensures.steps in
    subst IsSomeSite (sym turn.1)
    (stands.0, length c.loop-cell.yielded, _, cell-is stands.0 c.args.cells.items stands.1 (length c.loop-cell.yielded) c.in-Some.cell stands.2 turn.0)

pub push_reserved-requires : goal.push_reserved-requires
push_reserved-requires c =
    let turn = YieldsList-turn (YieldsList-from_vec {s = c.into_iter-cell-iterator.result} c.args.cells.items (search rules) (search rules)) c.loop-cell.yielded
    c.loop-cell.cell-iterator c.loop-cell.yielded_by c.next.result c.next.new.self c.in-Some.cell c.in-Some.is c.next.ensures.steps in
    omega (arith, turn.0, c.requires.few, c.loop-cell.invariant.count, c.loop-cell.invariant.room)

pub loop-cell-init : goal.loop-cell-init
loop-cell-init c = record {
  count = search rules;
  room = search rules;
  hold = λ catalog sites more stands rest. subst (λ (d : List MemState). HoldSites (d ++ more) sites) (sym c.self.invariant.0) rest;
}

pub loop-cell-preserved : goal.loop-cell-preserved
loop-cell-preserved c =
    let before = c.loop-cell.invariant in
    let cells = c.args.cells.items in
    let n = length c.loop-cell.yielded in
    let turn = YieldsList-turn (YieldsList-from_vec {s = c.into_iter-cell-iterator.result} cells (search rules) (search rules)) c.loop-cell.yielded
    c.loop-cell.cell-iterator c.loop-cell.yielded_by c.next.result c.next.new.self c.in-Some.cell c.in-Some.is c.next.ensures.steps in
    let next = one-longer c.loop-cell.yielded c.in-Some.cell in
    record {
      count = omega (arith, c.push_reserved.ensures.len, before.count, next);
      room = omega (arith, c.push_reserved.ensures.capacity, before.room);
      hold = λ catalog sites more stands rest.
          let here = subst (λ (cell : Cell). StandsForSite catalog n cell (get_or sites n no_site)) (sym turn.1) (cell-is catalog cells sites n c.in-Some.cell stands turn.0) in
          subst (λ (d : List MemState). HoldSites (d ++ more) sites) (sym c.push_reserved.ensures.items)
          (hold-next catalog cells sites n c.loop-cell.disks.items more c.close.result stands turn.0 (c.close.ensures catalog n (get_or sites n no_site) here)
          (λ left holds. before.hold catalog sites left stands holds)
          (subst (λ (k : ℕ). HoldSites more (drop k sites)) next rest));
    }

pub returns : goal.returns
returns c = λ catalog sites stands.
    let cells = c.args.cells.items in
    let end = YieldsList-end (YieldsList-from_vec {s = c.into_iter-cell-iterator.result} cells (search rules) (search rules)) c.loop-cell.yielded
    c.loop-cell.cell-iterator c.loop-cell.yielded_by c.next.result c.next.new.self c.in-None.is c.next.ensures.steps in
    held-all catalog cells sites (length c.loop-cell.yielded) c.loop-cell.disks.items stands (omega (arith, end.1))
    (λ rest holds. c.loop-cell.invariant.hold catalog sites rest stands holds)
