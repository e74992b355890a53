-- One more disk is kept, of the site after those so far.
use Rattle.std.proofs.Common.{rules, ◌≡◌, ℕ, List, sym, subst, ◌∙◌, arith}
use Rattle.std.proofs.lemmas.Iterator.Adapters.{YieldsList-from_vec}
use Rattle.std.proofs.lemmas.Iterator.Consumers.{YieldsList-end, YieldsList-turn}
use Rattle.std.proofs.lemmas.List.{map-id}
use Rattle.pv_disk.specs.BayAnswers.{KeepsDisk}
use Rattle.pv_disk.specs.MemDisk.{MemState}
use Rattle.pv_run.proofs.KeepLemmas.{hold-count, hold-split, keeps-next, keeps-none, one-longer}
use Rattle.pv_run.specs.KeptDisks.{KeepsSites}
use Rattle.pv_world.specs.Disks.{HoldSites}
use Rattle.pv_run.proofs.running.keep_all.Goals as goal

pub loop-disk-init : goal.loop-disk-init
loop-disk-init g c = record { count = search rules; keeps = λ sites hold. keeps-none g.B.Bay.model c.args.bay.now sites hold }

pub keep-requires : goal.keep-requires
keep-requires g c =
    let turn = YieldsList-turn (YieldsList-from_vec {s = c.into_iter-disk-iterator.result} c.args.disks.items (search rules) (search rules)) c.loop-disk.yielded
    c.loop-disk.disk-iterator c.loop-disk.yielded_by c.next.result c.next.new.self c.in-Some.disk c.in-Some.is c.next.ensures.steps in
    omega (arith, turn.0, c.requires, c.loop-disk.invariant.count)

pub loop-disk-preserved : goal.loop-disk-preserved
loop-disk-preserved g c =
    let before = c.loop-disk.invariant in
    record {
      count = omega (arith, before.count, one-longer c.loop-disk.yielded c.in-Some.disk);
      keeps = λ sites hold.
          let ends = hold-split c.loop-disk.yielded c.in-Some.disk sites hold in
          let place = before.count ∙ hold-count c.loop-disk.yielded ends.before ends.hold in
          subst (KeepsSites g.B.Bay.model c.args.bay.now c.keep.new.self) (sym ends.is)
          (keeps-next g.B.Bay.model c.args.bay.now c.loop-disk.bay c.keep.new.self ends.before ends.last c.in-Some.disk.image.content (before.keeps ends.before ends.hold)
          (subst (λ (n : ℕ). KeepsDisk g.B.Bay.model c.loop-disk.bay c.keep.new.self n c.in-Some.disk.image.content) place c.keep.ensures.effect) ends.journal);
    }

pub returns : goal.returns
returns g c = λ sites hold.
    let end = YieldsList-end (YieldsList-from_vec {s = c.into_iter-disk-iterator.result} c.args.disks.items (search rules) (search rules)) c.loop-disk.yielded
    c.loop-disk.disk-iterator c.loop-disk.yielded_by c.next.result c.next.new.self c.in-None.is c.next.ensures.steps in
    let all : c.loop-disk.yielded ≡ c.args.disks.items = sym (map-id c.loop-disk.yielded) ∙ end.0 in
    c.loop-disk.invariant.keeps sites (subst (λ (disks : List MemState). HoldSites disks sites) (sym all) hold)
