use Rattle.std.proofs.Common.{◌≡◌, ◌+◌, ◌++◌, ◌∷◌, [], ◌∙◌, ap, ap₂, sym, subst, refl, arith, length, true}
use Rattle.pv_world.specs.Mail.{bytes_sent}
use Rattle.pv_world.specs.MailView.{IsMail, posts_from}
use Rattle.pv_world.specs.declared.mail.Post.{Post}
use Rattle.pv_world.proofs.MailLemmas.{sent-whole, view-push, IsMail-push, total-of}
use Rattle.pv_world.proofs.mail.Mail.post.Goals as goal

pub returns-then-total-self-clause-limit : goal.returns-then-total-self-clause-limit
returns-then-total-self-clause-limit c total is =
    let inside = c.self.inside in
    let sent : bytes_sent c.args.self.now.posts ≡ c.len.result =
    sym (ap (λ mail. bytes_sent mail.posts) c.self.view_is) ∙ sent-whole inside.bytes.items inside.dropped.items inside.posts.items c.self.invariant.ends
    ∙ sym (c.len.ensures ∙ inside.bytes.ok.0) in
    let limit = ap (λ mail. mail.limit) c.self.view_is in
    let same = total-of is in
    (omega arith, omega arith)

pub invariant_of-self-2 : goal.invariant_of-self-2
invariant_of-self-2 c =
    let inside = c.self.inside in
    let post : Post = record { to = c.args.to; end = c.len.result + length c.args.bytes.now; fresh = true } in
    let end : post.end ≡ length inside.bytes.items + length c.args.bytes.now = ap (λ n. n + length c.args.bytes.now) (c.len.ensures ∙ inside.bytes.ok.0) in
    let posts : c.push_reserved.new.self.items ≡ inside.posts.items ++ post ∷ [] =
    c.push_reserved.ensures.items ∙ ap (λ posts. posts ++ post ∷ []) c.reserve.ensures.items in
    subst (λ bytes. IsMail bytes inside.dropped.items inside.first c.push_reserved.new.self.items) (sym c.in_ok-extend_from_slice.ensures.items)
    (subst (λ posts. IsMail (inside.bytes.items ++ c.args.bytes.now) inside.dropped.items inside.first posts) (sym posts)
    (IsMail-push inside.bytes.items c.args.bytes.now inside.dropped.items inside.first inside.posts.items post c.self.invariant end refl))

pub returns-clause-sent : goal.returns-clause-sent
returns-clause-sent c =
    let inside = c.self.inside in
    let post : Post = record { to = c.args.to; end = c.len.result + length c.args.bytes.now; fresh = true } in
    let end : post.end ≡ length inside.bytes.items + length c.args.bytes.now = ap (λ n. n + length c.args.bytes.now) (c.len.ensures ∙ inside.bytes.ok.0) in
    let posts : c.push_reserved.new.self.items ≡ inside.posts.items ++ post ∷ [] =
    c.push_reserved.ensures.items ∙ ap (λ posts. posts ++ post ∷ []) c.reserve.ensures.items in
    ap₂ (λ bytes posts. record { posts = posts_from bytes inside.dropped.items 0 0 posts; limit = inside.limit }) c.in_ok-extend_from_slice.ensures.items posts
    ∙ ap (λ posts. record { posts = posts; limit = inside.limit })
    (view-push inside.bytes.items c.args.bytes.now inside.dropped.items inside.first inside.posts.items post c.self.invariant end refl)
    ∙ ap (λ mail. record { posts = mail.posts ++ (record { to = c.args.to.0; bytes = c.args.bytes.now; fresh = true }) ∷ []; limit = mail.limit }) c.self.view_is

pub returns-clause-within : goal.returns-clause-within
returns-clause-within c =
    let inside = c.self.inside in
    let sent : bytes_sent c.args.self.now.posts ≡ c.len.result =
    sym (ap (λ mail. bytes_sent mail.posts) c.self.view_is) ∙ sent-whole inside.bytes.items inside.dropped.items inside.posts.items c.self.invariant.ends
    ∙ sym (c.len.ensures ∙ inside.bytes.ok.0) in
    let limit = ap (λ mail. mail.limit) c.self.view_is in
    omega arith
