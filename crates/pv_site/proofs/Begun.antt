-- Transactions that begin.
use Rattle.std.proofs.Common.{arith, ◌≡◌, ℕ, ◌+◌, Bool, true, false, ◌==◌, Some, None, List, [], ◌∷◌, map, IsTrue, refl, sym, ap, subst, ◌∙◌}
use Rattle.std.specs.Prelude.{if◌then◌else◌}
use Rattle.std.proofs.lemmas.List.Elements.{All-nil}
use Rattle.pv_base.specs.Catalog.{Declared}
use Rattle.pv_base.specs.declared.limits.TheConstants.{NEVER_GIVEN}
use Rattle.pv_base.specs.declared.txn.TxnId.{TxnId}
use Rattle.pv_coord.specs.Answers.{refusal_of}
use Rattle.pv_coord.specs.Coordinator as own
use Rattle.pv_coord.specs.Coordinator.{Coordinator, CoordMemory}
use Rattle.pv_coord.specs.Work.{Work, begun}
use Rattle.pv_coord.specs.declared.error.CoordError.TheVariants.{Spent}
use Rattle.pv_format.specs.Record.{Record}
use Rattle.pv_model.specs.Check.{Part}
use Rattle.pv_model.specs.Plan.{plan_of, wants_of}
use Rattle.pv_model.specs.Syntax.{Program}
use Rattle.pv_protocol.specs.Coordinate.{are_values_of}
use Rattle.pv_protocol.specs.Here.{noting, with_entry}
use Rattle.pv_protocol.specs.Lock.{beginning, lock_sends, next_txn, on_submit}
use Rattle.pv_protocol.specs.State as model
use Rattle.pv_protocol.specs.State.{began, spent}
use Rattle.pv_site.proofs.Tied.{here-beginning, stepped, tied-beginning}
use Rattle.pv_site.specs.Answer.{IsAnswer}
use Rattle.pv_site.specs.SiteParts.{AreTied, HaveStepped, IsWorkOf, here_of}
use Rattle.pv_site.specs.Values.{note_of, outgoing_of}
use Rattle.pv_site.specs.declared.input.Step.{Step}
use Rattle.pv_site.specs.declared.parts.SiteParts.{SiteParts}

-- A work that begins is one of the site.
begun-is : (catalog : Declared) (records : List Record) (txn : TxnId) (program : Program) → IsWorkOf catalog records (begun txn program (plan_of program catalog.items))
begun-is catalog records txn program = record {
  plan = refl;
  taken = record {
    ascending = λ i j d low within. absurd (omega (arith, within));
    asked = All-nil (λ (one : model.Taken). IsTrue (are_values_of (wants_of program catalog.items one.site) one.values));
  };
  stage = refl;
  reply = tt;
}

spent-by : {X : Type 0} (b : Bool) (x y : X) → (if b then Some Spent else None) ≡ Some Spent → (if b then x else y) ≡ x
spent-by true x y is = refl
spent-by false x y is = absurd (let no : ⊥ = cc in no)

given-by : {X : Type 0} (b : Bool) (x y : X) → (if b then Some Spent else None) ≡ None → (if b then x else y) ≡ y
given-by true x y is = absurd (let no : ⊥ = cc in no)
given-by false x y is = refl

module _ (parts : SiteParts) (tied : AreTied parts) (program : Program) where
  -- No number is left.
  pub submit-spent : refusal_of parts.coord.contents ≡ Some Spent → on_submit (here_of parts) program ≡ noting (here_of parts) spent
  unfolding on_submit
  submit-spent is =
      spent-by (parts.coord.contents.next == NEVER_GIVEN) (noting (here_of parts) spent) (beginning (here_of parts) program (next_txn (here_of parts))) is

  submit-given : refusal_of parts.coord.contents ≡ None → on_submit (here_of parts) program ≡ beginning (here_of parts) program (next_txn (here_of parts))
  unfolding on_submit
  submit-given is =
      given-by (parts.coord.contents.next == NEVER_GIVEN) (noting (here_of parts) spent) (beginning (here_of parts) program (next_txn (here_of parts))) is

  next-is : own.next_txn parts.coord.contents ≡ next_txn (here_of parts)
  next-is =
      ap (λ (site : ℕ). record { site = record { 0 = site }; epoch = parts.coord.contents.epoch; number = parts.coord.contents.next }) tied.coord_site
      ∙ ap (λ (epoch : ℕ). record { site = record { 0 = parts.me.0 }; epoch = epoch; number = parts.coord.contents.next }) tied.epochs

  -- A transaction begins.
  pub submit-begun : (coord : CoordMemory) (work : Work) (plan : List Part) (answer : Step) → refusal_of parts.coord.contents ≡ None
      → work ≡ begun (own.next_txn parts.coord.contents) program plan → plan ≡ plan_of program parts.catalog.items
      → coord.contents ≡ own.beginning parts.coord.contents work
      → map outgoing_of answer.sends.items ≡ lock_sends work.entry.txn plan → map note_of answer.notes.items ≡ began work.entry.txn ∷ [] → answer.locked ≡ None
      → HaveStepped parts (record parts { coord = coord }) (on_submit (here_of parts) program) × IsAnswer answer (on_submit (here_of parts) program)
  submit-begun coord work plan answer given is planned now sent noted unlocked =
      let is-now : work ≡ begun (next_txn (here_of parts)) program (plan_of program parts.catalog.items) =
      is ∙ ap (λ (txn : TxnId). begun txn program plan) next-is ∙ ap (begun (next_txn (here_of parts)) program) planned in
      let txn-is : work.entry.txn ≡ next_txn (here_of parts) = ap (λ (w : Work). w.entry.txn) is-now in
      subst (λ (step : model.Step). HaveStepped parts (record parts { coord = coord }) step × IsAnswer answer step) (sym (submit-given given)) (
        stepped parts (record parts { coord = coord }) (beginning (here_of parts) program (next_txn (here_of parts))) refl
            (here-beginning parts tied coord work now
            ∙ ap (λ (w : Work). record (here_of parts) { running = with_entry (record (here_of parts).running { next_txn = (here_of parts).running.next_txn + 1 }) w.entry }) is-now)
            (tied-beginning parts tied coord work
            (subst (IsWorkOf parts.catalog parts.store.records) (sym is-now) (begun-is parts.catalog parts.store.records (next_txn (here_of parts)) program)) now),
        record {
          sends = sent ∙ ap (λ (txn : TxnId). lock_sends txn plan) txn-is ∙ ap (lock_sends (next_txn (here_of parts))) planned;
          notes = noted ∙ ap (λ (txn : TxnId). began txn ∷ []) txn-is;
          locked = unlocked;
        },
      )
