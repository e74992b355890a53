-- The parts are those between dots.
use Rattle.std.proofs.Common.{◌==◌, List, ◌++◌, map, Bor, ℕ, ap, ◌∙◌, rules, tests}
use Rattle.std.proofs.lemmas.Iterator.Consumers.{YieldsList-at}
use Rattle.std.proofs.lemmas.Iterator.Splits.{YieldsList-from_slice_split}
use Rattle.pv_lines.proofs.ChainLemmas.{drained}
use Rattle.pv_lines.proofs.words.parts_of.Goals as goal

pub returns : goal.returns
returns c =
    let ran = c.in_ok-extend.ensures.ran in
    ap (map (λ (word : Bor (List ℕ)). word.now)) (ran.3.0 ∙ ap (λ (found : List (Bor (List ℕ))). found ++ ran.1) c.new-found.ensures.items)
    ∙ drained ran.1 ran.4
    (YieldsList-at ran.2 (YieldsList-from_slice_split _ (λ b. b == 46) c.args.word.now c.split.ensures.rest c.split.ensures.done c.split.ensures.closure (λ x b q k. search (rules, tests))))
