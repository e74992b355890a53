-- One more is closed.
use Rattle.std.proofs.Common.{◌≡◌, ◌∷◌, [], ◌++◌, option_to_list, length, map, reverse, sym, ap, ◌∙◌, arith, append_assoc, append-nil}
use Rattle.std.proofs.lemmas.List.{length_push, nil_from_length}
use Rattle.pv_launch.proofs.OrderedLemmas.{moved-into}
use Rattle.pv_launch.specs.Disks.{disk_of}
use Rattle.pv_launch.proofs.beginning.closed.Goals as goal

pub loop-site-init : goal.loop-site-init
loop-site-init g c =
    let front = c.args.disks.items in
    let pushed = c.push_reserved.ensures.items in
    let rest = map disk_of (reverse c.args.sites.items) in
    record {
      is = ap (λ l. l ++ rest) pushed ∙ append_assoc front (c.args.disk ∷ []) rest;
      room = omega (arith, ap length pushed, length_push front c.args.disk, c.requires.room, c.push_reserved.ensures.capacity);
    }

pub loop-site-preserved : goal.loop-site-preserved
loop-site-preserved g c =
    let front = c.loop-site.disks.items in
    let before = c.loop-site.sites.items in
    let after = c.pop.new.self.items in
    let site = c.in-Some.site in
    let is : before ≡ after ++ site ∷ [] = c.pop.ensures.items ∙ ap (λ r. after ++ option_to_list r) c.in-Some.is in
    let pushed = c.push_reserved-in-Some.ensures in
    let disk = c.close-in-Some.ensures ∙ ap (λ log. log.disk) c.close.ensures in
    record {
      is = ap (λ l. l ++ map disk_of (reverse after)) (pushed.items ∙ ap (λ d. front ++ d ∷ []) disk) ∙ moved-into front before after site is disk_of ∙ c.loop-site.invariant.is;
      room = omega (arith, ap length pushed.items, length_push front c.close-in-Some.result, ap length is, length_push after site, pushed.capacity, c.loop-site.invariant.room);
    }

pub returns : goal.returns
returns g c =
    let none : c.loop-site.sites.items ≡ [] = nil_from_length c.loop-site.sites.items (sym c.loop-site.sites.ok.0 ∙ c.in_default.ensures.cases.0) in
    sym (append-nil c.loop-site.disks.items) ∙ ap (λ l. c.loop-site.disks.items ++ map disk_of (reverse l)) (sym none) ∙ c.loop-site.invariant.is
