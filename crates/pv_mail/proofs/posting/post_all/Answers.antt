-- One message after another is posted.
use Rattle.std.proofs.Common.{ℕ, ◌-◌, sym, subst, List, [], ◌∷◌, length, map, take, ◌∙◌}
use Rattle.std.specs.Prelude.{All}
use Rattle.std.proofs.lemmas.List.{nil_from_length}
use Rattle.std.proofs.lemmas.List.Elements.{All-head}
use Rattle.pv_post.specs.declared.outlet.Out.{Out}
use Rattle.pv_site.specs.Inputs.{IsSpelledFrom}
use Rattle.pv_site.specs.Values.{outgoing_of}
use Rattle.pv_site.specs.declared.input.Outgoing.{Outgoing}
use Rattle.pv_mail.specs.Posting.{PostsAll}
use Rattle.pv_mail.specs.declared.ends.Parcel.{Parcel}
use Rattle.pv_mail.proofs.PostingLemmas.{Passes, passes-all, passes-first, passes-next, passes-short, where-ok}
use Rattle.pv_mail.proofs.posting.post_all.Goals as goal

pub loop-outgoing-init : goal.loop-outgoing-init
loop-outgoing-init c =
    subst (λ (rest : List Outgoing). Passes c.args.from.0 c.args.stamp c.args.sends.items rest 0 c.args.outs.now.items c.args.outs.now.items)
    (sym c.into_iter-outgoing-iterator.ensures.into_iter_gives.0)
    (passes-first c.args.from.0 c.args.stamp c.args.sends.items c.args.outs.now.items c.requires.spelled)

pub post-requires : goal.post-requires
post-requires c =
    All-head (IsSpelledFrom c.args.from.0) c.in-Some.outgoing c.next.new.self.rest.items
    (subst (λ (rest : List Outgoing). All (IsSpelledFrom c.args.from.0) rest) c.in-Some.ensures.steps.0 c.loop-outgoing.invariant.spelled)

pub returns-then-is_err-clause-posts : goal.returns-then-is_err-clause-posts
returns-then-is_err-clause-posts c =
    let sends = c.args.sends.items in
    let first = c.args.outs.now.items in
    let place = c.loop-outgoing.place in
    let short = passes-short c.args.from.0 c.args.stamp sends c.loop-outgoing.outgoing-iterator.rest.items place first c.loop-outgoing.outs.items c.loop-outgoing.invariant in
    let kept = subst (λ (outs : List (Out Parcel)). PostsAll c.args.from.0 c.args.stamp 0 (take (length sends - (length sends - place)) (map outgoing_of sends)) first outs)
    (sym (c.post.ensures.lost (sym c.is_err.ensures.value ∙ c.if-is_err.true))) short in
    subst (λ (n : ℕ). PostsAll c.args.from.0 c.args.stamp 0 (take (length sends - (n - place)) (map outgoing_of sends)) first c.post.new.outs.items)
    (sym (c.len-count.ensures ∙ c.args.sends.ok.0)) kept

pub loop-outgoing-preserved : goal.loop-outgoing-preserved
loop-outgoing-preserved c =
    let rest = c.loop-outgoing.outgoing-iterator.rest.items in
    let outs = c.loop-outgoing.outs.items in
    let new = c.post.new.outs.items in
    let one = c.in-Some.outgoing in
    let place = c.loop-outgoing.place in
    passes-next c.args.from.0 c.args.stamp c.args.sends.items rest c.next.new.self.rest.items one place c.args.outs.now.items outs new c.loop-outgoing.invariant
    c.in-Some.ensures.steps.0
    (where-ok (PostsAll c.args.from.0 c.args.stamp place (outgoing_of one ∷ []) outs new) c.post.result (sym c.is_err.ensures.value ∙ c.if-is_err.false) c.post.ensures.posted)

pub returns-clause-posts : goal.returns-clause-posts
returns-clause-posts c =
    let rest = c.loop-outgoing.outgoing-iterator.rest in
    passes-all c.args.from.0 c.args.stamp c.args.sends.items rest.items c.loop-outgoing.place c.args.outs.now.items c.loop-outgoing.outs.items
    c.loop-outgoing.invariant (nil_from_length rest.items (sym rest.ok.0 ∙ c.in-None.ensures.steps.0))
