-- One more disk is out.
use Rattle.std.proofs.Common.{Err, length, sym, ap, subst, ◌∙◌, arith}
use Rattle.std.proofs.lemmas.List.{length_push}
use Rattle.pv_base.specs.Fault.{risen}
use Rattle.pv_disk.specs.BayAnswers.{Asks, HandsOut}
use Rattle.pv_disk.specs.BayModel.{Berth}
use Rattle.pv_disk.specs.declared.bay_error.BayError.{BayError}
use Rattle.pv_launch.proofs.BayLemmas.{taken-more, taken-still}
use Rattle.pv_launch.specs.Launching.{AreTaken}
use Rattle.pv_launch.proofs.launching.take_all.Goals as goal

pub disk-requires : goal.disk-requires
disk-requires g c =
    let so = c.loop-site.invariant in
    ap (λ (b : Berth). b.is_out) (so.taken.beyond c.loop-site.site (omega (arith, so.count))) ∙ c.requires.rest c.loop-site.site c.loop-site-test.true

pub loop-site-preserved : goal.loop-site-preserved
loop-site-preserved g c =
    let M = g.B.Bay.model in
    let D = g.B.D.Disk.model in
    let so = c.loop-site.invariant in
    let disks = c.loop-site.disks.items in
    let disk = c.in-Ok-disk.disk in
    let pushed = c.push_reserved.ensures in
    record {
      taken = subst (λ l. AreTaken M D c.args.bay.now c.disk.new.self l) (sym pushed.items)
          (taken-more M D c.args.bay.now c.loop-site.bay c.disk.new.self disks disk so.taken
          (subst (λ n. HandsOut M D c.loop-site.bay c.disk.new.self n disk) (sym so.count) c.in-Ok-disk.ensures.effect));
      count = omega (arith, ap length pushed.items, length_push disks disk, so.count);
      within = let less = c.loop-site-test.true in omega arith;
      faults = c.in-Ok-disk.ensures.effect.stays.faults ∙ so.faults;
      room = omega (arith, pushed.capacity, so.room);
    }

pub returns-in-Err-Failed : goal.returns-in-Err-Failed
returns-in-Err-Failed g c =
    let M = g.B.Bay.model in
    let D = g.B.D.Disk.model in
    let so = c.loop-site.invariant in
    let asked = subst (λ (e : BayError). Asks M D c.loop-site.bay c.disk.new.self c.loop-site.site (Err e)) c.in-Err-Failed.field-0-is c.in-Err-Failed.ensures.effect in (
      taken-still M D c.args.bay.now c.loop-site.bay c.disk.new.self c.loop-site.disks.items so.taken asked.0,
      omega (arith, so.count, so.within),
      asked.1 ∙ ap (λ n. risen n) so.faults,
    )

pub returns-in-Err-NoMemory : goal.returns-in-Err-NoMemory
returns-in-Err-NoMemory g c =
    let M = g.B.Bay.model in
    let D = g.B.D.Disk.model in
    let so = c.loop-site.invariant in
    let asked = subst (λ (e : BayError). Asks M D c.loop-site.bay c.disk.new.self c.loop-site.site (Err e)) c.in-Err-NoMemory.field-0-is c.in-Err-NoMemory.ensures.effect in (
      taken-still M D c.args.bay.now c.loop-site.bay c.disk.new.self c.loop-site.disks.items so.taken asked.0,
      omega (arith, so.count, so.within),
      asked.1 ∙ so.faults,
    )

pub returns : goal.returns
returns g c =
    let so = c.loop-site.invariant in
    (so.taken, (let end = c.loop-site-test.false in omega (arith, so.count, so.within, end)), so.faults)
