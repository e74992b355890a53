-- What the site sends is spelled as from this site.
use Rattle.std.proofs.Common.{ℕ, subst}
use Rattle.std.specs.Prelude.{All, IfOk}
use Rattle.pv_site.specs.Inputs.{IsSpelledFrom}
use Rattle.pv_site_tests.proofs.play_tests.acts.Goals as goal

pub is_made-requires : goal.is_made-requires
is_made-requires c = subst (λ (me : ℕ). IfOk c.step-made.result (λ step. All (IsSpelledFrom me) step.sends.items)) c.requires.me c.step-made.ensures.spelled
