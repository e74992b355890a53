-- One more site is started.
use Rattle.std.proofs.Common.{◌≡◌, ◌∷◌, [], ◌++◌, Some, Ok, option_to_list, length, sym, ap, subst, ◌∙◌, arith}
use Rattle.std.proofs.lemmas.List.{length_push}
use Rattle.std.proofs.lemmas.List.Elements.{All-pop}
use Rattle.pv_launch.proofs.DiskLemmas.{all-same, fails-left, same-left, starts-begun}
use Rattle.pv_launch.proofs.OrderedLemmas.{IsUnderWay, way-count, way-end, way-more, way-none}
use Rattle.pv_launch.specs.Disks.{IsBegunOn, IsEmpty}
use Rattle.pv_launch.specs.Ordered.{Paired}
use Rattle.pv_launch.specs.Starting.{Starts}
use Rattle.pv_launch.specs.declared.not_launched.NotLaunched.TheVariants.{NoMemory}
use Rattle.pv_launch.proofs.beginning.begin_all.Goals as goal

pub returns-in_default : goal.returns-in_default
returns-in_default g c = (all-same g.D.Disk.model c.args.catalog.now NoMemory c.args.disks.items (λ n disk. same-left g.D.Disk.model disk), tt)

pub loop-disk-init : goal.loop-disk-init
loop-disk-init g c = record {
  way = way-none (IsBegunOn g.D.Disk.model c.args.catalog.now) c.args.disks.items c.in-Ok.sites.items c.in-Ok.ensures.items;
  empty = c.requires.empty;
  kept = omega (arith, c.args.disks.ok.0, c.args.disks.ok.1);
  room = omega (arith, c.in-Ok.ensures.capacity, c.len.ensures, c.args.disks.ok.0);
}

pub start-requires-clause-empty : goal.start-requires-clause-empty
start-requires-clause-empty g c =
    let after = c.pop.new.self.items in
    let is : c.loop-disk.disks.items ≡ after ++ c.in-Some.disk ∷ [] = c.pop.ensures.items ∙ ap (λ r. after ++ option_to_list r) c.in-Some.is in
    (All-pop (IsEmpty g.D.Disk.model) c.loop-disk.disks.items after (Some c.in-Some.disk) is c.loop-disk.invariant.empty).1

pub push_reserved-requires : goal.push_reserved-requires
push_reserved-requires g c =
    let before = c.loop-disk.disks.items in
    let after = c.pop.new.self.items in
    let so = c.loop-disk.invariant in
    let is : before ≡ after ++ c.in-Some.disk ∷ [] = c.pop.ensures.items ∙ ap (λ r. after ++ option_to_list r) c.in-Some.is in
    let count = way-count (IsBegunOn g.D.Disk.model c.args.catalog.now) c.args.disks.items before c.loop-disk.sites.items so.way in
    omega (arith, count, ap length is, length_push after c.in-Some.disk, c.loop-disk.sites.ok.0, so.room)

pub given_up-requires : goal.given_up-requires
given_up-requires g c =
    let before = c.loop-disk.disks.items in
    let after = c.pop.new.self.items in
    let so = c.loop-disk.invariant in
    let is : before ≡ after ++ c.in-Some.disk ∷ [] = c.pop.ensures.items ∙ ap (λ r. after ++ option_to_list r) c.in-Some.is in
    let count = way-count (IsBegunOn g.D.Disk.model c.args.catalog.now) c.args.disks.items before c.loop-disk.sites.items so.way in
    omega (arith, count, ap length is, length_push after c.in-Some.disk, c.pop.ensures.capacity, so.kept)

pub overflow_cast-number : goal.overflow_cast-number
overflow_cast-number g c =
    let before = c.loop-disk.disks.items in
    let after = c.pop.new.self.items in
    let is : before ≡ after ++ c.in-Some.disk ∷ [] = c.pop.ensures.items ∙ ap (λ r. after ++ option_to_list r) c.in-Some.is in
    let count = way-count (IsBegunOn g.D.Disk.model c.args.catalog.now) c.args.disks.items before c.loop-disk.sites.items c.loop-disk.invariant.way in
    omega (arith, count, ap length is, length_push after c.in-Some.disk, c.len-in-Some.ensures, c.pop.new.self.ok.0, c.requires.few)

pub loop-disk-preserved : goal.loop-disk-preserved
loop-disk-preserved g c =
    let M = g.D.Disk.model in
    let catalog = c.args.catalog.now in
    let all = c.args.disks.items in
    let before = c.loop-disk.disks.items in
    let after = c.pop.new.self.items in
    let disk = c.in-Some.disk in
    let done = c.loop-disk.sites.items in
    let site = c.in-Ok-start.site in
    let so = c.loop-disk.invariant in
    let is : before ≡ after ++ disk ∷ [] = c.pop.ensures.items ∙ ap (λ r. after ++ option_to_list r) c.in-Some.is in
    let last : c.len-in-Some.result ≡ length after = c.len-in-Some.ensures ∙ c.pop.new.self.ok.0 in
    let left = All-pop (IsEmpty M) before after (Some disk) is so.empty in
    record {
      way = subst (λ l. IsUnderWay (IsBegunOn M catalog) all after l) (sym c.push_reserved.ensures.items)
          (way-more (IsBegunOn M catalog) all before after disk done is so.way site
          (starts-begun M catalog (length after) disk site left.1 (subst (λ n. Starts M n catalog disk (Ok site)) last c.in-Ok-start.ensures)));
      empty = left.0;
      kept = omega (arith, c.pop.ensures.capacity, so.kept);
      room = omega (arith, c.push_reserved.ensures.capacity, so.room);
    }

pub returns-in-Err : goal.returns-in-Err
returns-in-Err g c =
    let before = c.loop-disk.disks.items in
    let after = c.pop.new.self.items in
    let is : before ≡ after ++ c.in-Some.disk ∷ [] = c.pop.ensures.items ∙ ap (λ r. after ++ option_to_list r) c.in-Some.is in
    fails-left g.D.Disk.model c.args.catalog.now c.args.disks.items before after c.in-Some.disk is c.loop-disk.sites.items c.loop-disk.invariant.way _
    (sym (c.len-in-Some.ensures ∙ c.pop.new.self.ok.0)) c.in-Err.why
    (All-pop (IsEmpty g.D.Disk.model) before after (Some c.in-Some.disk) is c.loop-disk.invariant.empty).1 c.in-Err.ensures c.given_up.result c.given_up.ensures.disks c.given_up.ensures.why

pub returns : goal.returns
returns g c =
    subst (λ l. Paired (IsBegunOn g.D.Disk.model c.args.catalog.now) 0 c.args.disks.items l) (sym c.reverse.ensures.items)
    (way-end (IsBegunOn g.D.Disk.model c.args.catalog.now) c.args.disks.items c.loop-disk.disks.items c.loop-disk.sites.items
    (sym c.loop-disk.disks.ok.0 ∙ c.in_default-pop.ensures.cases.0) c.loop-disk.invariant.way)
