-- An item that is looked at is at home.
use Rattle.std.proofs.Common.{subst}
use Rattle.pv_opening.specs.Opening.{IsHere}
use Rattle.pv_script.specs.declared.live.Wish.{Wish}
use Rattle.pv_closing.proofs.LookLemmas.{home-here}
use Rattle.pv_closing.proofs.lines.put_look.Goals as goal

pub look-requires-clause-item : goal.look-requires-clause-item
look-requires-clause-item g c =
    let site = c.args.of.now.site in
    home-here site.catalog site.me c.in-Peek.item.0 (subst (λ (wish : Wish). IsHere site.catalog.items site.me wish) c.in-Peek.is c.requires.here)

pub first_look-requires-clause-item : goal.first_look-requires-clause-item
first_look-requires-clause-item g c =
    let site = c.args.of.now.site in
    home-here site.catalog site.me c.in-Peek.item.0 (subst (λ (wish : Wish). IsHere site.catalog.items site.me wish) c.in-Peek.is c.requires.here)
