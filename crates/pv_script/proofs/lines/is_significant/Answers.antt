-- The first byte that is no blank decides whether the line is significant.
use Rattle.std.proofs.Common.{◌≡◌, Bool, false, ℕ, Option, None, Some, MatchOption, eqb, not, rules, tests}
use Rattle.std.specs.Option.{option_map, option_map_or}
use Rattle.std.proofs.lemmas.Iterator.{YieldsList-from_slice}
use Rattle.std.proofs.lemmas.Iterator.Consumers.{YieldsList-from_copied, YieldsList-at}
use Rattle.std.proofs.lemmas.Iterator.Search.{find_from_yields_List}
use Rattle.pv_base.specs.Name.{is_blank}
use Rattle.pv_model.specs.Text.{is_significant}
use Rattle.pv_script.proofs.lines.is_significant.Goals as goal

reported : (test : ℕ → Bool) (found first : Option ℕ) (r : Bool) (Post : ℕ → Type 0) → option_map (λ b. b) found ≡ first → MatchOption found (r ≡ false) Post → ((b : ℕ) → Post b → r ≡ test b) → r ≡ option_map_or test first false
reported test None first r Post same is post = rw (← same) is
reported test (Some b) first r Post same is post = rw (← same) (post b is)

pub returns : goal.returns
unfolding is_significant
returns c =
    reported (λ b. not (eqb b 35)) c.find.result _ c.is_some_and.result _ (find_from_yields_List (λ b. not (is_blank b)) _ _ c.find.result c.find.ensures.ran (YieldsList-from_copied (YieldsList-at c.copied.ensures.source (YieldsList-from_slice c.args.line.now cc))) (λ x b q k. search (rules, tests))) c.is_some_and.ensures (λ b p. search (rules, tests))
