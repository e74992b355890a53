-- Runs of a script, event by event, and the text of what they print.
use Rattle.std.proofs.Common.{◌≡◌, ℕ, List, [], ◌∷◌, ◌++◌, refl, sym, ap, subst, ◌∙◌}
use Rattle.std.proofs.lemmas.List.{append-nil, append_assoc}
use Rattle.pv_outbox_run.specs.Box.{Box}
use Rattle.pv_outbox_run.specs.Does.{Does, Runs}
use Rattle.pv_outbox_run.specs.ToldText.{told_text, told_texts}
use Rattle.pv_outbox_run.specs.declared.told.Told.{Told}
use Rattle.pv_outbox_script.specs.declared.event.Event.{Event}

-- One event more.
pub runs-more : (events : List Event) (old mid new : Box) (event : Event) (says said : List Told) → Runs old events says mid → Does mid event said new
    → Runs old (events ++ event ∷ []) (says ++ said) new
runs-more [] old mid new event says said runs does = (
  new,
  said,
  [],
  ap (λ (front : List Told). front ++ said) runs.0 ∙ sym (append-nil said),
  subst (λ (box : Box). Does box event said new) runs.1 does,
  (refl, refl),
)
runs-more (first ∷ events) old mid new event says said runs does = (
  runs.0,
  runs.1,
  runs.2 ++ said,
  ap (λ (front : List Told). front ++ said) runs.3 ∙ append_assoc runs.1 runs.2 said,
  runs.4,
  runs-more events runs.0 mid new event runs.2 said runs.5 does,
)

pub told_texts-append : (says more : List Told) → told_texts (says ++ more) ≡ told_texts says ++ told_texts more
told_texts-append [] more = refl
told_texts-append (said ∷ says) more =
    ap (λ (rest : List ℕ). told_text said ++ rest) (told_texts-append says more) ∙ sym (append_assoc (told_text said) (told_texts says) (told_texts more))
