-- Items at the same places are the beginning of the later ones.
use Rattle.std.proofs.Common.{rules, ◌≡◌, ◌≤◌, length}
use Rattle.pv_growth.proofs.FrontLemmas.{front-of, places-of}
use Rattle.pv_growth.proofs.has_grown.Goals as goal

pub returns : goal.returns
returns c =
    let before = c.args.before.now in
    let later = c.args.later.now in
    let sites : later.sites ≡ before.sites = search rules in
    let limit : before.journal ≤ later.journal = search rules in
    let long : length before.items ≤ length later.items = search rules in (
      λ said.
          let more = front-of before.items later.items long (c.has_items_of.ensures.0 said) in
          record { sites = sites; more = more.0; items = more.1; limit = limit },
      λ grown. c.has_items_of.ensures.1 (places-of before.items later.items grown.more grown.items),
    )
