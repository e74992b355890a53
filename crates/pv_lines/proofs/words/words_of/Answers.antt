-- The words are the parts between blanks that aren't empty.
use Rattle.std.proofs.Common.{◌==◌, not, length, List, ◌++◌, map, Bor, ℕ, ap, ◌∙◌, rules, tests}
use Rattle.std.proofs.lemmas.Iterator.Consumers.{YieldsList-from_filter, YieldsList-at}
use Rattle.std.proofs.lemmas.Iterator.Splits.{YieldsList-from_slice_split}
use Rattle.pv_base.specs.Name.{is_blank}
use Rattle.pv_model.specs.Text.{words}
use Rattle.pv_lines.proofs.ChainLemmas.{drained}
use Rattle.pv_lines.proofs.words.words_of.Goals as goal

pub returns : goal.returns
unfolding words
returns c =
    let ran = c.in_ok-extend.ensures.ran in
    ap (map (λ (word : Bor (List ℕ)). word.now)) (ran.3.0 ∙ ap (λ (found : List (Bor (List ℕ))). found ++ ran.1) c.in_ok-found.ensures.items)
    ∙ drained ran.1 ran.4
    (YieldsList-at ran.2 (YieldsList-from_filter _ (λ word. not (length word == 0)) (YieldsList-at c.filter.ensures.source (YieldsList-from_slice_split _ is_blank c.args.line.now c.split-parts.ensures.rest c.split-parts.ensures.done c.split-parts.ensures.closure (λ x b q k. search (rules, tests)))) c.filter.ensures.closure (λ x b q k. search (rules, tests))))
