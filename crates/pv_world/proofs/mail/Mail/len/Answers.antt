use Rattle.std.proofs.Common.{◌∙◌, sym, ap, length}
use Rattle.pv_world.proofs.MailLemmas.{length-posts}
use Rattle.pv_world.proofs.mail.Mail.len.Goals as goal

pub returns : goal.returns
returns c =
    let inside = c.self.inside in
    c.len.ensures ∙ inside.posts.ok.0 ∙ sym (length-posts inside.bytes.items inside.dropped.items 0 0 inside.posts.items)
    ∙ ap (λ mail. length mail.posts) c.self.view_is
