use Rattle.std.proofs.Common.{◌≡◌, ◌∙◌, ap, sym, subst, arith, length, set}
use Rattle.pv_world.specs.Mail.{without_posts_to}
use Rattle.pv_world.specs.MailView.{IsMail}
use Rattle.pv_world.proofs.MailLemmas.{posts-drop, IsMail-drop}
use Rattle.pv_world.proofs.mail.Mail.drop_to.Goals as goal

pub invariant_of-self : goal.invariant_of-self
invariant_of-self c =
    let inside = c.self.inside in
    let long : length inside.posts.items ≡ c.len.result = sym (c.len.ensures ∙ inside.posts.ok.0) in
    subst (λ count. IsMail inside.bytes.items (set inside.dropped.items c.args.site.0 count) inside.first inside.posts.items) long
    (IsMail-drop inside.bytes.items inside.dropped.items inside.first c.args.site.0 inside.posts.items (omega (arith, c.self.invariant.sites)) c.self.invariant)

pub returns : goal.returns
returns c =
    let inside = c.self.inside in
    let long : length inside.posts.items ≡ c.len.result = sym (c.len.ensures ∙ inside.posts.ok.0) in
    ap (λ posts. record { posts = posts; limit = inside.limit })
    (posts-drop inside.bytes.items inside.dropped.items 0 0 c.args.site.0 c.len.result inside.posts.items (omega (arith, c.self.invariant.sites)) (omega arith))
    ∙ ap (λ mail. record { posts = without_posts_to c.args.site.0 mail.posts; limit = mail.limit }) c.self.view_is
