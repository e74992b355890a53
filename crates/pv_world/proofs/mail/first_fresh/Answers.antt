use Rattle.std.proofs.Common.{◌<◌, ◌∙◌, sym, arith, length}
use Rattle.pv_world.specs.MailView.{marks_from}
use Rattle.pv_world.proofs.MailLemmas.{length-marks, mark-of, first-here, first-past, first-within}
use Rattle.pv_world.proofs.mail.first_fresh.Goals as goal

pub returns-then-is_fresh : goal.returns-then-is_fresh
returns-then-is_fresh c =
    let posts = c.args.posts.now in
    let dropped = c.args.dropped.now in
    let at = c.loop-number.number in
    let within : at < length (marks_from dropped 0 posts) = omega (arith, length-marks dropped 0 posts) in
    first-here (marks_from dropped 0 posts) at c.loop-number.invariant within
    (mark-of dropped at posts _ c.loop-number-test.true ∙ sym c.is_fresh.ensures ∙ c.if-is_fresh.true)

pub loop-number-preserved : goal.loop-number-preserved
loop-number-preserved c =
    let posts = c.args.posts.now in
    let dropped = c.args.dropped.now in
    let at = c.loop-number.number in
    let within : at < length (marks_from dropped 0 posts) = omega (arith, length-marks dropped 0 posts) in
    first-past (marks_from dropped 0 posts) at c.loop-number.invariant within
    (mark-of dropped at posts _ c.loop-number-test.true ∙ sym c.is_fresh.ensures ∙ c.if-is_fresh.false)

pub returns : goal.returns
returns c =
    let posts = c.args.posts.now in
    let dropped = c.args.dropped.now in
    let at = c.loop-number.number in
    let most = first-within (marks_from dropped 0 posts) in
    let long = length-marks dropped 0 posts in
    omega (arith, c.loop-number.invariant)
