-- The words are the parts between spaces.
use Rattle.std.proofs.Common.{◌≡◌, Option, List, ◌++◌, map, Bor, ℕ, ap, ◌∙◌, rules, tests}
use Rattle.std.specs.Iterator.{Drains}
use Rattle.std.proofs.lemmas.Iterator.{YieldsList, items_from_drains}
use Rattle.std.proofs.lemmas.Iterator.Consumers.{YieldsList-at}
use Rattle.std.proofs.lemmas.Iterator.Splits.{YieldsList-from_slice_split}
use Rattle.pv_audit.proofs.SpaceLemmas.{is_space}
use Rattle.pv_audit.proofs.words.words_of.Goals as goal

-- What a chain gave, to its end, is its list.
drained : {S A B : Type 0} {steps : S → Option A → S → Type 0} {v : A → B} {s : S} {all : List B} (xs : List A)
    → Drains steps s xs → YieldsList steps v s all → map v xs ≡ all
drained xs drains chain = items_from_drains xs (drains.1.0, drains.1.1, λ _. (drains.0, drains.1.2)) chain

pub returns : goal.returns
returns c =
    let ran = c.in_ok-extend.ensures.ran in
    ap (map (λ (word : Bor (List ℕ)). word.now)) (ran.3.0 ∙ ap (λ (found : List (Bor (List ℕ))). found ++ ran.1) c.in_ok-words.ensures.items)
    ∙ drained ran.1 ran.4
    (YieldsList-at ran.2 (YieldsList-from_slice_split _ is_space c.args.line.now c.split.ensures.rest c.split.ensures.done c.split.ensures.closure (λ x b q k. search (rules, tests))))
