-- One more disk is asked.
use Rattle.std.proofs.Common.{◌≡◌, ◌≢◌, ◌∷◌, [], ◌++◌, option_to_list, length, sym, ap, subst, ◌∙◌, arith}
use Rattle.std.proofs.lemmas.Bool.Decides.{nat_tests}
use Rattle.std.proofs.lemmas.List.{length_push}
use Rattle.pv_law_calls.specs.Reading.{LooksOn}
use Rattle.pv_launch.proofs.DiskLemmas.{all-same, asked-so, empty-so, same-left, some-so, stop-failed, stop-not_empty, unanswered}
use Rattle.pv_launch.proofs.OrderedLemmas.{IsUnderWay, way-count, way-end, way-more, way-none}
use Rattle.pv_launch.specs.Disks.{IsEmpty}
use Rattle.pv_launch.specs.Ordered.{Paired}
use Rattle.pv_launch.specs.declared.not_launched.NotLaunched.TheVariants.{NoMemory}
use Rattle.pv_launch.proofs.asking.ask_all.Goals as goal

pub returns-in_default : goal.returns-in_default
returns-in_default g c = λ catalog. (all-same g.D.Disk.model catalog NoMemory c.args.disks.items (λ n disk. same-left g.D.Disk.model disk), tt)

pub loop-disk-init : goal.loop-disk-init
loop-disk-init g c =
    let M = g.D.Disk.model in
    record {
      way = way-none (λ n old new. LooksOn M old new × IsEmpty M new) c.args.disks.items c.in-Ok.asked.items c.in-Ok.ensures.items;
      kept = omega (arith, c.args.disks.ok.0, c.args.disks.ok.1);
      room = omega (arith, c.in-Ok.ensures.capacity, c.len.ensures, c.args.disks.ok.0);
    }

pub rejoined-requires : goal.rejoined-requires
rejoined-requires g c =
    let M = g.D.Disk.model in
    let before = c.loop-disk.disks.items in
    let after = c.pop.new.self.items in
    let so = c.loop-disk.invariant in
    let is : before ≡ after ++ c.in-Some.disk ∷ [] = c.pop.ensures.items ∙ ap (λ r. after ++ option_to_list r) c.in-Some.is in
    let count = way-count (λ n old new. LooksOn M old new × IsEmpty M new) c.args.disks.items before c.loop-disk.asked.items so.way in
    omega (arith, count, ap length is, length_push after c.in-Some.disk, c.pop.ensures.capacity, so.kept)

pub returns-in_default-len : goal.returns-in_default-len
returns-in_default-len g c = λ catalog.
    let M = g.D.Disk.model in
    let before = c.loop-disk.disks.items in
    let after = c.pop.new.self.items in
    let is : before ≡ after ++ c.in-Some.disk ∷ [] = c.pop.ensures.items ∙ ap (λ r. after ++ option_to_list r) c.in-Some.is in
    stop-failed M catalog c.args.disks.items before after c.in-Some.disk is c.loop-disk.asked.items c.loop-disk.invariant.way _ (sym (c.len-in-Some.ensures ∙ c.pop.new.self.ok.0)) c.len-in-Some-2.new.self
    c.rejoined.result.items c.rejoined.ensures
    (unanswered M c.in-Some.disk c.len-in-Some-2.new.self c.len-in-Some-2.result c.in_default-len.not-Ok c.len-in-Some-2.ensures.effect)

pub rejoined-requires-then-not-empty : goal.rejoined-requires-then-not-empty
rejoined-requires-then-not-empty g c =
    let M = g.D.Disk.model in
    let before = c.loop-disk.disks.items in
    let after = c.pop.new.self.items in
    let so = c.loop-disk.invariant in
    let is : before ≡ after ++ c.in-Some.disk ∷ [] = c.pop.ensures.items ∙ ap (λ r. after ++ option_to_list r) c.in-Some.is in
    let count = way-count (λ n old new. LooksOn M old new × IsEmpty M new) c.args.disks.items before c.loop-disk.asked.items so.way in
    omega (arith, count, ap length is, length_push after c.in-Some.disk, c.pop.ensures.capacity, so.kept)

pub returns-then-not-empty : goal.returns-then-not-empty
returns-then-not-empty g c = λ catalog.
    let M = g.D.Disk.model in
    let before = c.loop-disk.disks.items in
    let after = c.pop.new.self.items in
    let disk = c.in-Some.disk in
    let new = c.len-in-Some-2.new.self in
    let told = c.in-Ok-len.ensures in
    let is : before ≡ after ++ disk ∷ [] = c.pop.ensures.items ∙ ap (λ r. after ++ option_to_list r) c.in-Some.is in
    let some : c.in-Ok-len.length ≢ 0 = let test = c.if-not-empty.true in grind (arith, nat_tests) in
    stop-not_empty M catalog c.args.disks.items before after disk is c.loop-disk.asked.items c.loop-disk.invariant.way _ (sym (c.len-in-Some.ensures ∙ c.pop.new.self.ok.0)) new
    c.rejoined-then-not-empty.result.items c.rejoined-then-not-empty.ensures (asked-so M disk new c.in-Ok-len.length told.goes told.effect)
    (some-so M disk new c.in-Ok-len.length told.goes told.effect told.len some)

pub push_reserved-requires : goal.push_reserved-requires
push_reserved-requires g c =
    let M = g.D.Disk.model in
    let before = c.loop-disk.disks.items in
    let after = c.pop.new.self.items in
    let so = c.loop-disk.invariant in
    let is : before ≡ after ++ c.in-Some.disk ∷ [] = c.pop.ensures.items ∙ ap (λ r. after ++ option_to_list r) c.in-Some.is in
    let count = way-count (λ n old new. LooksOn M old new × IsEmpty M new) c.args.disks.items before c.loop-disk.asked.items so.way in
    omega (arith, count, ap length is, length_push after c.in-Some.disk, c.loop-disk.asked.ok.0, so.room)

pub loop-disk-preserved : goal.loop-disk-preserved
loop-disk-preserved g c =
    let M = g.D.Disk.model in
    let all = c.args.disks.items in
    let before = c.loop-disk.disks.items in
    let after = c.pop.new.self.items in
    let disk = c.in-Some.disk in
    let done = c.loop-disk.asked.items in
    let new = c.len-in-Some-2.new.self in
    let so = c.loop-disk.invariant in
    let told = c.in-Ok-len.ensures in
    let is : before ≡ after ++ disk ∷ [] = c.pop.ensures.items ∙ ap (λ r. after ++ option_to_list r) c.in-Some.is in
    let none : c.in-Ok-len.length ≡ 0 = let test = c.if-not-empty.false in grind (arith, nat_tests) in
    record {
      way = subst (λ l. IsUnderWay (λ n old new. LooksOn M old new × IsEmpty M new) all after l) (sym c.push_reserved.ensures.items)
          (way-more (λ n old new. LooksOn M old new × IsEmpty M new) all before after disk done is so.way new
          (asked-so M disk new c.in-Ok-len.length told.goes told.effect, empty-so M disk new c.in-Ok-len.length told.goes told.effect told.len none));
      kept = omega (arith, c.pop.ensures.capacity, so.kept);
      room = omega (arith, c.push_reserved.ensures.capacity, so.room);
    }

pub returns : goal.returns
returns g c = λ catalog.
    let M = g.D.Disk.model in
    subst (λ l. Paired (λ n old new. LooksOn M old new × IsEmpty M new) 0 c.args.disks.items l) (sym c.reverse.ensures.items)
    (way-end (λ n old new. LooksOn M old new × IsEmpty M new) c.args.disks.items c.loop-disk.disks.items c.loop-disk.asked.items
    (sym c.loop-disk.disks.ok.0 ∙ c.in_default-pop.ensures.cases.0) c.loop-disk.invariant.way)
