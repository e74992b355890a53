use Rattle.std.proofs.Common.{◌≡◌, ◌-◌, ◌≤◌, ◌<◌, ◌∙◌, ap, ap₂, sym, subst, arith, length, get_or, take, drop, slice_get, Some, List}
use Rattle.std.specs.Option.{option_map}
use Rattle.pv_world.specs.Mail.{Posted}
use Rattle.pv_world.specs.MailView.{begin_at}
use Rattle.pv_world.specs.declared.mail.Post.{Post}
use Rattle.pv_world.proofs.MailLemmas.{bytes-at, bytes-past, bounds-at}
use Rattle.pv_world.proofs.mail.Mail.get.Goals as goal

pub returns-in_err-end : goal.returns-in_err-end
returns-in_err-end c =
    let inside = c.self.inside in
    let past : length inside.posts.items ≤ c.args.number =
    subst (λ (posts : List Post). length posts ≤ c.args.number) c.deref.ensures.value c.in_err-end.ensures.lookup.3 in
    ap (option_map (λ bytes. bytes.now)) c.from_residual.ensures
    ∙ sym (ap (option_map (λ (post : Posted). post.bytes)) (bytes-past inside.bytes.items inside.dropped.items 0 0 c.args.number inside.posts.items past))
    ∙ ap (λ mail. option_map (λ (post : Posted). post.bytes) (slice_get mail.posts c.args.number)) c.self.view_is

pub slice_bounds-result-count : goal.slice_bounds-result-count
slice_bounds-result-count c =
    let inside = c.self.inside in
    let post = c.in_ok-end.field-0.now in
    let within : c.args.number < length inside.posts.items =
    subst (λ (posts : List Post). c.args.number < length posts) c.deref.ensures.value c.in_ok-end.ensures.lookup.3.0 in
    let at : post ≡ get_or inside.posts.items c.args.number post =
    subst (λ (posts : List Post). post ≡ get_or posts c.args.number post) c.deref.ensures.value c.in_ok-end.ensures.lookup.1 in
    let end = ap (λ (post : Post). post.end) at in
    let begin = c.begin_of.ensures ∙ ap (λ posts. begin_at 0 posts c.args.number) c.deref-3.ensures.value in
    let bounds = bounds-at 0 (length inside.bytes.items) c.args.number inside.posts.items post c.self.invariant.ends within in
    omega (arith, bounds)

pub slice_bounds-result-start : goal.slice_bounds-result-start
slice_bounds-result-start c =
    let inside = c.self.inside in
    let post = c.in_ok-end.field-0.now in
    let within : c.args.number < length inside.posts.items =
    subst (λ (posts : List Post). c.args.number < length posts) c.deref.ensures.value c.in_ok-end.ensures.lookup.3.0 in
    let at : post ≡ get_or inside.posts.items c.args.number post =
    subst (λ (posts : List Post). post ≡ get_or posts c.args.number post) c.deref.ensures.value c.in_ok-end.ensures.lookup.1 in
    let end = ap (λ (post : Post). post.end) at in
    let begin = c.begin_of.ensures ∙ ap (λ posts. begin_at 0 posts c.args.number) c.deref-3.ensures.value in
    let bounds = bounds-at 0 (length inside.bytes.items) c.args.number inside.posts.items post c.self.invariant.ends within in
    omega (arith, bounds)

pub slice_bounds-result-end : goal.slice_bounds-result-end
slice_bounds-result-end c =
    let inside = c.self.inside in
    let post = c.in_ok-end.field-0.now in
    let within : c.args.number < length inside.posts.items =
    subst (λ (posts : List Post). c.args.number < length posts) c.deref.ensures.value c.in_ok-end.ensures.lookup.3.0 in
    let at : post ≡ get_or inside.posts.items c.args.number post =
    subst (λ (posts : List Post). post ≡ get_or posts c.args.number post) c.deref.ensures.value c.in_ok-end.ensures.lookup.1 in
    let end = ap (λ (post : Post). post.end) at in
    let begin = c.begin_of.ensures ∙ ap (λ posts. begin_at 0 posts c.args.number) c.deref-3.ensures.value in
    let bounds = bounds-at 0 (length inside.bytes.items) c.args.number inside.posts.items post c.self.invariant.ends within in
    omega (arith, bounds)

pub returns : goal.returns
returns c =
    let inside = c.self.inside in
    let post = c.in_ok-end.field-0.now in
    let within : c.args.number < length inside.posts.items =
    subst (λ (posts : List Post). c.args.number < length posts) c.deref.ensures.value c.in_ok-end.ensures.lookup.3.0 in
    let at : post ≡ get_or inside.posts.items c.args.number post =
    subst (λ (posts : List Post). post ≡ get_or posts c.args.number post) c.deref.ensures.value c.in_ok-end.ensures.lookup.1 in
    let begin = c.begin_of.ensures ∙ ap (λ posts. begin_at 0 posts c.args.number) c.deref-3.ensures.value in
    ap₂ (λ n (bytes : List _). Some (take (post.end - n) (drop n bytes))) begin c.deref-2.ensures.value
    ∙ ap (λ n. Some (take (n - begin_at 0 inside.posts.items c.args.number) (drop (begin_at 0 inside.posts.items c.args.number) inside.bytes.items))) (ap (λ (post : Post). post.end) at)
    ∙ sym (bytes-at inside.bytes.items inside.dropped.items 0 0 c.args.number inside.posts.items post within)
    ∙ ap (λ mail. option_map (λ (post : Posted). post.bytes) (slice_get mail.posts c.args.number)) c.self.view_is
