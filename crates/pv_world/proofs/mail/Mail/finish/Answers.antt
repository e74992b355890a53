use Rattle.std.proofs.Common.{◌≤◌, ◌∙◌, ap, sym, subst, length, set, false}
use Rattle.std.proofs.lemmas.Bool.{ltb-false}
use Rattle.pv_world.specs.Mail.{with_done_post}
use Rattle.pv_world.specs.MailView.{IsMail, posts_from}
use Rattle.pv_world.specs.declared.mail.Post.{Post}
use Rattle.pv_world.proofs.MailLemmas.{posts-finish, IsMail-finish, posts-past}
use Rattle.pv_world.proofs.mail.Mail.finish.Goals.{in-Some, in_default}
use Rattle.pv_world.proofs.mail.Mail.finish.Goals as goal

pub invariant_of-self : goal.invariant_of-self
invariant_of-self c =
    let inside = c.self.inside in
    let bytes = inside.bytes.items in
    let dropped = inside.dropped.items in
    let posts = inside.posts.items in
    elim c.match-get_mut.branch [
      | in-Some w ↦
          subst (λ inside. IsMail inside.bytes.items inside.dropped.items inside.first inside.posts.items) (sym w.self-inside-is)
          (subst (λ (post : Post). IsMail bytes dropped inside.first (set posts c.args.number (record { to = post.to; end = post.end; fresh = false })))
          (sym w.in-Some.ensures.value) (IsMail-finish bytes dropped inside.first c.args.number posts w.in-Some.post.now c.self.invariant))
      | in_default w ↦
          subst (λ inside. IsMail inside.bytes.items inside.dropped.items inside.first inside.posts.items) (sym w.self-inside-is) c.self.invariant
    ]

pub returns : goal.returns
returns c =
    let inside = c.self.inside in
    let bytes = inside.bytes.items in
    let dropped = inside.dropped.items in
    let posts = inside.posts.items in
    let seen = ap (λ mail. record { posts = with_done_post c.args.number mail.posts; limit = mail.limit }) c.self.view_is in
    elim c.match-get_mut.branch [
      | in-Some w ↦
          ap (λ inside. record { posts = posts_from inside.bytes.items inside.dropped.items 0 0 inside.posts.items; limit = inside.limit }) w.self-inside-is
          ∙ ap (λ (post : Post). record { posts = posts_from bytes dropped 0 0 (set posts c.args.number (record { to = post.to; end = post.end; fresh = false })); limit = inside.limit })
          w.in-Some.ensures.value
          ∙ ap (λ posts. record { posts = posts; limit = inside.limit }) (posts-finish bytes dropped 0 0 c.args.number posts w.in-Some.post.now)
          ∙ seen
      | in_default w ↦
          let past : length posts ≤ c.args.number = ltb-false c.args.number (length posts) (sym w.in_default.ensures.item.0) in
          ap (λ inside. record { posts = posts_from inside.bytes.items inside.dropped.items 0 0 inside.posts.items; limit = inside.limit }) w.self-inside-is
          ∙ ap (λ posts. record { posts = posts; limit = inside.limit })
          (sym (posts-past bytes dropped c.args.number posts past))
          ∙ seen
    ]
