use Rattle.std.proofs.Common.{rules, List, ℕ, ◌≡◌, ◌-◌, take, drop, ◌∙◌, ap, length}
use Rattle.std.proofs.lemmas.List.{with_items_is}
use Rattle.pv_disk_model.specs.Disk.{overlaid}
use Rattle.pv_disk.specs.MemHistory.{overwritten}
use Rattle.pv_disk.proofs.HistoryLemmas.{undone}
use Rattle.pv_disk.proofs.image.undo.Goals as goal

pub returns-clause-content : goal.returns-clause-content
returns-clause-content c =
    let w = c.args.write.now in
    let from : c.len.result - c.min-over.result ≡ length c.args.kept.now.items - overwritten w = search rules in
    let old : c.split_at.result.1.now ≡ take w.count (drop w.place w.before.value.items) = search rules in
    let put : c.put.new.content ≡ overlaid c.args.content.now.items w.place c.split_at.result.1.now = search rules in
    let cut : c.truncate.new.self.items ≡ take w.length c.put.new.content = c.truncate.ensures.items ∙ ap (take w.length) (with_items_is c.args.content.now c.put.new.content (search rules)) in
    cut ∙ ap (take w.length) put ∙ ap (λ (l : List ℕ). take w.length (overlaid c.args.content.now.items w.place l)) old ∙ undone w c.args.content.now.items c.requires.made
