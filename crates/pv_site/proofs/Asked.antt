-- Questions for outcomes.
use Rattle.std.proofs.Common.{◌≡◌, ◌⊎◌, ⊎_elim, inl, inr, ℕ, Bool, true, false, ◌&&◌, ◌||◌, ◌==◌, Some, None, Option, refl, sym, ap, ◌∙◌}
use Rattle.std.specs.Prelude.{is_some, nat_lt, if◌then◌else◌}
use Rattle.std.specs.Bool.{beq}
use Rattle.std.specs.Option.{option_eq, option_map}
use Rattle.std.proofs.lemmas.Bool.{false≢true}
use Rattle.pv_base.specs.declared.txn.TxnId.{TxnId}
use Rattle.pv_coord.specs.Coordinator as own
use Rattle.pv_coord.specs.Coordinator.{work_of}
use Rattle.pv_coord.specs.Work.{Work}
use Rattle.pv_format.specs.Message.{outcome_reported}
use Rattle.pv_protocol.specs.Here.{Here, nothing, only_to, sending}
use Rattle.pv_protocol.specs.Outcome.{at_known, is_issued, on_ask, works_on}
use Rattle.pv_protocol.specs.Records.{known}
use Rattle.pv_protocol.specs.State as model
use Rattle.pv_site.proofs.Entries.{entry-of, entry_in}
use Rattle.pv_site.specs.SiteParts.{AreTied, here_of}
use Rattle.pv_site.specs.declared.parts.SiteParts.{SiteParts}

some-map : (found : Option Work) → is_some (option_map entry_in found) ≡ is_some found
some-map None = refl
some-map (Some work) = refl

-- what is answered to a question by what is known, and by whether the site works on the transaction
abbrev answered : Here → ℕ → TxnId → Option Bool → Bool → model.Step
answered here from txn (Some true) works = sending here.running (only_to from (outcome_reported txn true))
answered here from txn other works = if works then nothing here else sending here.running (only_to from (outcome_reported txn false))

answered-is : (here : Here) (from : ℕ) (txn : TxnId) (outcome : Option Bool) → at_known here from txn outcome ≡ answered here from txn outcome (works_on here.running txn)
answered-is here from txn None = refl
answered-is here from txn (Some true) = refl
answered-is here from txn (Some false) = refl

module _ (here : Here) (from : ℕ) (txn : TxnId) where
  working : (outcome : Option Bool) (works : Bool) → option_eq beq outcome (Some true) ≡ false → works ≡ true → answered here from txn outcome works ≡ nothing here
  working None true unknown works-is = refl
  working None false unknown works-is = absurd (false≢true works-is)
  working (Some false) true unknown works-is = refl
  working (Some false) false unknown works-is = absurd (false≢true works-is)
  working (Some true) works unknown works-is = absurd (false≢true (sym unknown))

  told : (outcome : Option Bool) (works : Bool) → (option_eq beq outcome (Some true) ≡ true) ⊎ (works ≡ false)
      → answered here from txn outcome works ≡ sending here.running (only_to from (outcome_reported txn (option_eq beq outcome (Some true))))
  told (Some true) works either = refl
  told None false either = refl
  told None true either = ⊎_elim (λ commits. absurd (false≢true commits)) (λ works-is. absurd (false≢true (sym works-is))) either
  told (Some false) false either = refl
  told (Some false) true either = ⊎_elim (λ commits. absurd (false≢true commits)) (λ works-is. absurd (false≢true (sym works-is))) either

module _ (parts : SiteParts) (tied : AreTied parts) (from : ℕ) (txn : TxnId) where
  issued-is : own.is_issued parts.coord.contents txn ≡ is_issued (here_of parts) txn
  issued-is =
      ap (λ (site : ℕ). (site == txn.site.0) && (nat_lt txn.epoch parts.coord.contents.epoch || ((txn.epoch == parts.coord.contents.epoch) && nat_lt txn.number parts.coord.contents.next))) tied.coord_site
      ∙ ap (λ (epoch : ℕ). (parts.me.0 == txn.site.0) && (nat_lt txn.epoch epoch || ((txn.epoch == epoch) && nat_lt txn.number parts.coord.contents.next))) tied.epochs

  works-are : works_on (here_of parts).running txn ≡ is_some (work_of parts.coord.contents txn)
  works-are = ap (λ (found : Option model.Entry). is_some found) (entry-of parts.locks parts.coord.contents txn) ∙ some-map (work_of parts.coord.contents txn)

  -- The site can't have numbered the transaction.
  pub asked-unissued : own.is_issued parts.coord.contents txn ≡ false → on_ask (here_of parts) from txn ≡ nothing (here_of parts)
  unfolding on_ask
  asked-unissued unissued =
      ap (λ (b : Bool). if b then at_known (here_of parts) from txn (known (here_of parts).records txn) else nothing (here_of parts)) (sym issued-is ∙ unissued)

  asked-issued : own.is_issued parts.coord.contents txn ≡ true
      → on_ask (here_of parts) from txn ≡ answered (here_of parts) from txn (known parts.store.records txn) (is_some (work_of parts.coord.contents txn))
  unfolding on_ask
  asked-issued issued =
      ap (λ (b : Bool). if b then at_known (here_of parts) from txn (known (here_of parts).records txn) else nothing (here_of parts)) (sym issued-is ∙ issued)
      ∙ answered-is (here_of parts) from txn (known parts.store.records txn)
      ∙ ap (answered (here_of parts) from txn (known parts.store.records txn)) works-are

  -- The site works on it, and it hasn't committed.
  pub asked-working : own.is_issued parts.coord.contents txn ≡ true → option_eq beq (known parts.store.records txn) (Some true) ≡ false
      → is_some (work_of parts.coord.contents txn) ≡ true → on_ask (here_of parts) from txn ≡ nothing (here_of parts)
  asked-working issued unknown works =
      asked-issued issued ∙ working (here_of parts) from txn (known parts.store.records txn) (is_some (work_of parts.coord.contents txn)) unknown works

  -- It has committed, or the site doesn't work on it.
  pub asked-told : (commits : Bool) → own.is_issued parts.coord.contents txn ≡ true → commits ≡ option_eq beq (known parts.store.records txn) (Some true)
      → (commits ≡ true) ⊎ (is_some (work_of parts.coord.contents txn) ≡ false)
      → on_ask (here_of parts) from txn ≡ sending (here_of parts).running (only_to from (outcome_reported txn commits))
  asked-told commits issued is either =
      asked-issued issued
      ∙ told (here_of parts) from txn (known parts.store.records txn) (is_some (work_of parts.coord.contents txn)) (⊎_elim (λ yes-is. inl (sym is ∙ yes-is)) (λ none. inr none) either)
      ∙ ap (λ (b : Bool). sending (here_of parts).running (only_to from (outcome_reported txn b))) (sym is)
