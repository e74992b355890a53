-- The item is wanted exclusively.
use Rattle.std.proofs.Common.{◌++◌, ◌∙◌, ℕ, Bool, [], ◌∷◌, ap, map, sym}
use Rattle.std.specs.Prelude.{if◌then◌else◌}
use Rattle.pv_base.specs.Want.{Want}
use Rattle.pv_site.specs.Shares.{writes_in}
use Rattle.pv_site.proofs.granting.push_wanted.Goals as goal

pub returns-in_ok-push_write : goal.returns-in_ok-push_write
returns-in_ok-push_write c =
    c.in_ok-push_write.ensures
    ∙ ap (λ (n : ℕ). c.args.own.now.items ++ writes_in c.args.writes.now (n ∷ [])) (ap (λ (want : Want). want.item) c.want.view_is)
    ∙ ap (λ (b : Bool). c.args.own.now.items ++ writes_in c.args.writes.now (map (λ (want : Want). want.item) (if b then c.args.want.now ∷ [] else [])))
    (sym c.if-want.true ∙ ap (λ (want : Want). want.exclusive) c.want.view_is)
