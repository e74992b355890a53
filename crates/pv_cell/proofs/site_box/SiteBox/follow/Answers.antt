use Rattle.std.proofs.Common.{rules, ◌≡◌, ℕ, ◌+◌, ◌++◌, ◌∷◌, [], List, length, map, refl, sym, ap, subst, ◌∙◌}
use Rattle.pv_base.specs.declared.txn.SiteId.{SiteId}
use Rattle.pv_cell.proofs.site_box.SiteBox.follow.Goals as goal
use Rattle.pv_cell.specs.Follows.{Follows}
use Rattle.pv_cell.specs.declared.site_box.SiteBox.{SiteBox}
use Rattle.pv_history.specs.declared.entry.Seen.TheVariants.{Done}
use Rattle.pv_mail.specs.Answers.{begun_after_all, told_of_all}
use Rattle.pv_mail.specs.Telling.{TellsAll}
use Rattle.pv_site.specs.Values.{note_of}
use Rattle.pv_site.specs.declared.input.Note.{Note}

pub returns-clause-follows : goal.returns-clause-follows
returns-clause-follows g c =
    let old = c.args.self.now in
    let outs = old.ends.clients_out.items in
    let telling = c.telling-telling.result in
    let same : c.deref.result.now ≡ c.args.step.notes.items = search rules in
    let count : c.len-count.result ≡ length c.args.step.sends.items = search rules in
    let hear : TellsAll telling.seen (told_of_all telling.site.0 c.args.asker old.begun.items (map note_of c.args.step.notes.items)) outs c.all.new.outs.items =
    subst (λ (notes : List Note). TellsAll telling.seen (told_of_all telling.site.0 c.args.asker old.begun.items (map note_of notes)) outs c.all.new.outs.items)
    same c.all.ensures.tells in
    let later : TellsAll (length old.history.items + 1) (told_of_all telling.site.0 c.args.asker old.begun.items (map note_of c.args.step.notes.items)) outs c.all.new.outs.items =
    subst (λ (n : ℕ). TellsAll n (told_of_all telling.site.0 c.args.asker old.begun.items (map note_of c.args.step.notes.items)) outs c.all.new.outs.items)
    c.telling-telling.ensures.1 hear in
    let tells : TellsAll (length old.history.items + 1) (told_of_all old.me.0 c.args.asker old.begun.items (map note_of c.args.step.notes.items)) outs c.all.new.outs.items =
    subst (λ (me : SiteId). TellsAll (length old.history.items + 1) (told_of_all me.0 c.args.asker old.begun.items (map note_of c.args.step.notes.items)) outs c.all.new.outs.items)
    c.telling-telling.ensures.0 later in
    subst (λ (n : SiteBox g.row.L.Denot). Follows old n c.args.stamp c.args.taken c.args.asker c.args.step) (sym c.enter.ensures.changed)
    record {
      short = c.post_all-short.result;
      few = c.post_all-short.ensures.short;
      changed = refl;
      history = c.enter.ensures.entry
          ∙ ap (λ (n : ℕ). old.history.items ++ record { stamp = c.args.stamp; input = c.args.taken; sends = n; short = c.post_all-short.result; seen = Done c.args.step.notes } ∷ [])
          count;
      begun = subst (λ (notes : List Note). c.all.new.begun.items ≡ begun_after_all c.args.asker old.begun.items (map note_of notes)) same c.all.ensures.begun;
      posts = c.post_all-short.ensures.posts;
      tells = tells;
    }
