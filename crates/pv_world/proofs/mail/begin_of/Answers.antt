use Rattle.std.proofs.Common.{◌≡◌, ◌-◌, ap, ◌∙◌, sym, arith, suc}
use Rattle.pv_world.specs.MailView.{begin_at}
use Rattle.pv_world.proofs.MailLemmas.{begin-after}
use Rattle.pv_world.proofs.mail.begin_of.Goals as goal

pub returns-in_default : goal.returns-in_default
returns-in_default c =
    let next : suc (c.args.number - 1) ≡ c.args.number = omega arith in
    sym (begin-after 0 (c.args.number - 1) c.args.posts.now _ (omega arith)) ∙ ap (begin_at 0 c.args.posts.now) next
