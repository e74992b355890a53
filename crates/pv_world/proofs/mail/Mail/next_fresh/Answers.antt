use Rattle.std.proofs.Common.{◌∙◌, ap, ap₂, sym, arith, position}
use Rattle.std.specs.List.{position_or_len}
use Rattle.pv_world.specs.MailView.{marks_from}
use Rattle.pv_world.proofs.MailLemmas.{first-found, first-missing}
use Rattle.pv_world.proofs.mail.Mail.next_fresh.Goals.{then-self-len, else-self-len}
use Rattle.pv_world.proofs.mail.Mail.next_fresh.Goals as goal

pub returns-clause-found : goal.returns-clause-found
returns-clause-found c =
    let inside = c.self.inside in
    let first = c.first_fresh-self-inside.ensures
    ∙ ap₂ (λ dropped posts. position_or_len (λ mark. mark) (marks_from dropped 0 posts)) c.deref-2.ensures.value c.deref.ensures.value in
    let long = c.len.ensures ∙ inside.posts.ok.0 in
    let seen = ap (λ mail. position (λ post. post.fresh) mail.posts) c.self.view_is in
    elim c.if-self-len.branch [
      | then-self-len w ↦
          w.result-is ∙ sym (first-found inside.bytes.items inside.dropped.items inside.posts.items c.first_fresh-self-inside.result first (omega (arith, w.if-self-len.true, long))) ∙ seen
      | else-self-len w ↦
          w.result-is ∙ sym (first-missing inside.bytes.items inside.dropped.items inside.posts.items c.first_fresh-self-inside.result first (omega (arith, w.if-self-len.false, long))) ∙ seen
    ]
