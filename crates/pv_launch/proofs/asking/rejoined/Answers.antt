-- One more is moved.
use Rattle.std.proofs.Common.{◌≡◌, ◌∷◌, [], ◌++◌, option_to_list, length, reverse, sym, ap, ◌∙◌, arith, append_assoc, append-nil}
use Rattle.std.proofs.lemmas.List.{length_push, nil_from_length}
use Rattle.pv_launch.proofs.OrderedLemmas.{moved}
use Rattle.pv_launch.proofs.asking.rejoined.Goals as goal

pub loop-disk-init : goal.loop-disk-init
loop-disk-init g c =
    let front = c.args.disks.items in
    let pushed = c.push_reserved.ensures.items in
    record {
      is = ap (λ l. l ++ reverse c.args.asked.items) pushed ∙ append_assoc front (c.args.disk ∷ []) (reverse c.args.asked.items);
      room = omega (arith, ap length pushed, length_push front c.args.disk, c.requires.room, c.push_reserved.ensures.capacity);
    }

pub loop-disk-preserved : goal.loop-disk-preserved
loop-disk-preserved g c =
    let front = c.loop-disk.disks.items in
    let before = c.loop-disk.asked.items in
    let after = c.pop.new.self.items in
    let disk = c.in-Some.disk in
    let is : before ≡ after ++ disk ∷ [] = c.pop.ensures.items ∙ ap (λ r. after ++ option_to_list r) c.in-Some.is in
    let pushed = c.push_reserved-in-Some.ensures in
    record {
      is = ap (λ l. l ++ reverse after) pushed.items ∙ moved front before after disk is ∙ c.loop-disk.invariant.is;
      room = omega (arith, ap length pushed.items, length_push front disk, ap length is, length_push after disk, pushed.capacity, c.loop-disk.invariant.room);
    }

pub returns : goal.returns
returns g c =
    let none : c.loop-disk.asked.items ≡ [] = nil_from_length c.loop-disk.asked.items (sym c.loop-disk.asked.ok.0 ∙ c.in_default.ensures.cases.0) in
    sym (append-nil c.loop-disk.disks.items) ∙ ap (λ l. c.loop-disk.disks.items ++ reverse l) (sym none) ∙ c.loop-disk.invariant.is
