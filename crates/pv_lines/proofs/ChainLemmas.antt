-- What a chain of iterators gives.
use Rattle.std.proofs.Common.{◌≡◌, Option, List, map}
use Rattle.std.specs.Iterator.{Drains}
use Rattle.std.proofs.lemmas.Iterator.{YieldsList, items_from_drains}

-- What a chain gave, to its end, is its list.
pub drained : {S A B : Type 0} {steps : S → Option A → S → Type 0} {v : A → B} {s : S} {all : List B} (xs : List A)
    → Drains steps s xs → YieldsList steps v s all → map v xs ≡ all
drained xs drains chain = items_from_drains xs (drains.1.0, drains.1.1, λ _. (drains.0, drains.1.2)) chain
