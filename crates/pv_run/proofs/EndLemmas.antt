-- What a run answers that wrote nothing.
use Rattle.std.proofs.Common.{◌≡◌, ℕ, ◌<◌, List, [], length, inl, inr, refl, subst}
use Rattle.std.proofs.KnownBytes.{Appends-nil}
use Rattle.pv_base.specs.declared.limits.TheConstants.{MAX_INPUT}
use Rattle.pv_disk.specs.BayModel.{BayModel}
use Rattle.pv_io.specs.declared.read_end.ReadEnd.{ReadEnd}
use Rattle.pv_io.specs.declared.read_end.ReadEnd.TheVariants as why
use Rattle.pv_io.specs.declared.sink.Sink.{Ghosts}
use Rattle.pv_model.specs.Events.{Schedule}
use Rattle.pv_model.specs.Schedule.{IsSchedule}
use Rattle.pv_run.specs.Ends.{AnswersRun}
use Rattle.pv_run.specs.Headline.{KeepsPromises}
use Rattle.pv_run.specs.InputAnswers.{Answers, GivesUp, written_of, written_within}
use Rattle.pv_run.specs.Statuses.{unread_status}
use Rattle.pv_run.specs.declared.form.Form.{Form}
use Rattle.pv_run.specs.declared.status.Status.{Status}
use Rattle.pv_run.specs.declared.status.Status.TheVariants.{ReadFault, WriteFault, TooLong, NoMemory}
use Rattle.pv_run.proofs.AnswerLemmas.{status_of_answer}
use Rattle.pv_site.specs.SiteState.{setup_of}

module _ {W B : Type 0} (sink : Ghosts W) (M : BayModel B) (form : Form) (same : W) (bay : B) (input : List ℕ)
    (promises : (schedule : Schedule) → IsSchedule input schedule → KeepsPromises (setup_of schedule.catalog) schedule.events) where
  -- It gave up, and not for the output.
  given-up : (status : Status) → GivesUp status → (status ≡ WriteFault → ⊥) → AnswersRun sink M form same same bay bay status input
  given-up status gives unfailed = record {
    promises = promises;
    done = λ is. absurd (subst GivesUp is gives);
    prefix = λ schedule says. (0, Appends-nil (sink.held same));
    whole = λ schedule says is. absurd (subst GivesUp is gives);
    limit = λ schedule says is. absurd (subst GivesUp is gives);
    answered = inl gives;
    exact = λ answer output is. (inl gives, (0, Appends-nil (sink.held same)), λ fault. absurd (unfailed fault));
    kept = λ is. absurd (subst GivesUp is gives);
  }

  -- The input is too long.
  too-long : MAX_INPUT < length input → AnswersRun sink M form same same bay bay TooLong input
  too-long long =
      let answered : Answers sink (written_of form input) (written_within form input) input TooLong same same = inr ([], Appends-nil (sink.held same), (long, refl)) in
      record {
        promises = promises;
        done = λ is. absurd (let wrong : ⊥ = cc in wrong);
        prefix = λ schedule says. (0, Appends-nil (sink.held same));
        whole = λ schedule says is. absurd (let wrong : ⊥ = cc in wrong);
        limit = λ schedule says is. absurd (let wrong : ⊥ = cc in wrong);
        answered = answered;
        exact = λ answer output is. (
          status_of_answer (written_of form input) (written_within form input) input TooLong answer (sink.held same) (sink.held same) output answered is,
          (0, Appends-nil (sink.held same)),
          λ fault. absurd (let wrong : ⊥ = cc in wrong),
        );
        kept = λ is. absurd (let wrong : ⊥ = cc in wrong);
      }

  -- The input wasn't read.
  pub unread : (end : ReadEnd) → (end ≡ why.TooLong → MAX_INPUT < length input) → AnswersRun sink M form same same bay bay (unread_status end) input
  unread why.Failed long = given-up ReadFault tt (λ is. let wrong : ⊥ = cc in wrong)
  unread why.TooLong long = too-long (long refl)
  unread why.NoMemory long = given-up NoMemory tt (λ is. let wrong : ⊥ = cc in wrong)
