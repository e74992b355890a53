use Rattle.std.proofs.Common.{rules, arith, ◌≡◌, ◌≤◌, ◌++◌, ◌∷◌, [], ap, length, false}
use Rattle.pv_disk.specs.declared.image.Write.{Write}
use Rattle.pv_disk.proofs.ImageLemmas.{Begins, can_undo_more, now_more, past_more}
use Rattle.pv_disk.proofs.HistoryLemmas.{made_all}
use Rattle.pv_disk_model.proofs.OverlayLemmas.{length-overlaid}
use Rattle.pv_disk.proofs.image.Image.write.Goals as goal

pub invariant_of-self : goal.invariant_of-self
invariant_of-self c =
    let write : Write = record { place = c.args.place; count = length c.args.bytes.now; length = c.len.result; synced = false; before = c.of.result } in
    let begins : Begins write c.self.inside.bytes.items c.args.bytes.now = search rules in
    let pushed : c.push_reserved.new.self.items ≡ c.self.inside.writes.items ++ write ∷ [] = search rules in
    let within : c.args.place ≤ length c.self.inside.bytes.items = search rules in (
      can_undo_more c.self.inside.writes.items c.push_reserved.new.self.items write c.self.inside.bytes.items c.args.bytes.now begins pushed
          c.self.inside.kept.items c.overlay.new.kept.items c.overlay.new.content.items c.self.invariant.0 c.overlay.ensures.kept c.overlay.ensures.content,
      omega (arith, ap length c.overlay.ensures.content, length-overlaid c.self.inside.bytes.items c.args.place c.args.bytes.now within),
    )

pub returns-clause-now : goal.returns-clause-now
returns-clause-now c =
    let write : Write = record { place = c.args.place; count = length c.args.bytes.now; length = c.len.result; synced = false; before = c.of.result } in
    let begins : Begins write c.self.inside.bytes.items c.args.bytes.now = search rules in
    let pushed : c.push_reserved.new.self.items ≡ c.self.inside.writes.items ++ write ∷ [] = search rules in
    rw (← c.self.view_is)
    (now_more c.self.inside.writes.items c.push_reserved.new.self.items write c.self.inside.bytes.items c.args.bytes.now begins pushed c.overlay.new.content.items)

pub returns-clause-past : goal.returns-clause-past
returns-clause-past c =
    let write : Write = record { place = c.args.place; count = length c.args.bytes.now; length = c.len.result; synced = false; before = c.of.result } in
    let begins : Begins write c.self.inside.bytes.items c.args.bytes.now = search rules in
    let pushed : c.push_reserved.new.self.items ≡ c.self.inside.writes.items ++ write ∷ [] = search rules in
    rw (← c.self.view_is) (past_more c.self.inside.writes.items c.push_reserved.new.self.items write c.self.inside.bytes.items c.args.bytes.now begins pushed)

pub returns-clause-made : goal.returns-clause-made
returns-clause-made c = rw (← c.self.view_is) (made_all _ _ _ c.self.invariant.0)
