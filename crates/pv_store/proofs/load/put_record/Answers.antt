-- Only a promise changes values.
use Rattle.std.proofs.Common.{◌++◌, ◌∷◌, [], ap, sym, subst}
use Rattle.pv_format.specs.Record as model
use Rattle.pv_replay.specs.Values.{record_of}
use Rattle.pv_store.specs.Held.{ArePlaced, AreShown}
use Rattle.pv_store.proofs.LoadLemmas.{epoch-placed, epoch-shown, outcome-placed, outcome-shown}
use Rattle.pv_store.proofs.load.put_record.Goals as goal

pub returns-in-Epoch-clause-values : goal.returns-in-Epoch-clause-values
returns-in-Epoch-clause-values c = λ catalog site records front is.
    subst (λ (last : model.Record). AreShown catalog site records (front ++ last ∷ []) c.args.values.now) (sym (ap record_of c.in-Epoch.is))
    (epoch-shown catalog site records front c.in-Epoch.field-0 c.args.values.now is.shown)

pub returns-in-Epoch-clause-places : goal.returns-in-Epoch-clause-places
returns-in-Epoch-clause-places c = λ catalog site records front is placed.
    subst (λ (last : model.Record). ArePlaced catalog site records (front ++ last ∷ []) c.args.dependents.now.places) (sym (ap record_of c.in-Epoch.is))
    (epoch-placed catalog site records front c.in-Epoch.field-0 c.args.dependents.now.places placed)

pub returns-in-Outcome-clause-values : goal.returns-in-Outcome-clause-values
returns-in-Outcome-clause-values c = λ catalog site records front is.
    subst (λ (last : model.Record). AreShown catalog site records (front ++ last ∷ []) c.args.values.now) (sym (ap record_of c.in-Outcome.is))
    (outcome-shown catalog site records front c.in-Outcome.txn c.in-Outcome.commits c.args.values.now is.shown)

pub returns-in-Outcome-clause-places : goal.returns-in-Outcome-clause-places
returns-in-Outcome-clause-places c = λ catalog site records front is placed.
    subst (λ (last : model.Record). ArePlaced catalog site records (front ++ last ∷ []) c.args.dependents.now.places) (sym (ap record_of c.in-Outcome.is))
    (outcome-placed catalog site records front c.in-Outcome.txn c.in-Outcome.commits c.args.dependents.now.places placed)
