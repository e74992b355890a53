use Rattle.std.proofs.Common.{◌≡◌, refl, inl, inr, subst, sym}
use Rattle.pv_journal.specs.JournalModel.{journal_model}
use Rattle.pv_format.specs.JournalContents.{contents_of}
use Rattle.pv_law_recovery.proofs.RecoveryLemmas.{contents-recover, kept-left, opening-recovers, up-holds}
use Rattle.pv_law_recovery.proofs.recovery.crashes_are_recovered.Goals as goal
use Rattle.pv_law_recovery.specs.Recovery.{IsBeforeOrAfter}
use Rattle.pv_site.specs.Crashes.{AreContentsOf}

pub returns-clause-at_any_moment : goal.returns-clause-at_any_moment
returns-clause-at_any_moment g c = λ old new running input result left up steps leaves.
    let recover = contents-recover g.D.Disk.model c.crashes_leave_before_or_after.ensures.openings c.one_journal.ensures c.contents_are_those_of_the_journal.ensures left (IsBeforeOrAfter old running input) in
    elim (c.crashes_leave_before_or_after.ensures.steps old new running input result (contents_of left) up steps (left, leaves, refl)) [
      | inl before ↦ recover _ (inl refl) before
      | inr after ↦ recover _ (inr refl) after
    ]

pub returns-clause-without_memory : goal.returns-clause-without_memory
returns-clause-without_memory g c = λ old new running input left up steps leaves.
    let M = journal_model g.D.Disk.model in
    let is = kept-left M old.log up.contents up.ready.intact steps.up.was_up up.known new.log steps.log (contents_of left) (left, leaves, refl) in
    contents-recover g.D.Disk.model c.crashes_leave_before_or_after.ensures.openings c.one_journal.ensures c.contents_are_those_of_the_journal.ensures left (λ records. records ≡ old.records) old.records refl
    (subst (AreContentsOf old.records) (sym is) (up-holds M old running up))

pub returns-clause-while_opening : goal.returns-clause-while_opening
returns-clause-while_opening g c =
    opening-recovers g.D.Disk.model c.crashes_leave_before_or_after.ensures.openings c.one_journal.ensures c.contents_are_those_of_the_journal.ensures

pub returns-clause-once_answered : goal.returns-clause-once_answered
returns-clause-once_answered g c = λ old new running input answer left up steps leaves.
    contents-recover g.D.Disk.model c.crashes_leave_before_or_after.ensures.openings c.one_journal.ensures c.contents_are_those_of_the_journal.ensures left (λ records. records ≡ new.records) _ refl
    (c.crashes_leave_before_or_after.ensures.done old new running input answer (contents_of left) up steps (left, leaves, refl))
