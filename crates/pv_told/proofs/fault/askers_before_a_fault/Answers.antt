-- One entry after another, from the last on.
use Rattle.std.proofs.Common.{◌≡◌, ◌∷◌, ◌+◌, ◌-◌, ◌<◌, ◌&&◌, ◌||◌, ◌∙◌, ℕ, Bool, Option, List, drop, length, ap, sym, arith}
use Rattle.std.proofs.lemmas.List.{drop_more}
use Rattle.pv_history.specs.Entries.{came_of, intake_of, stamps_of}
use Rattle.pv_history.specs.declared.entry.Entry.{Entry}
use Rattle.pv_mail.specs.Answers as mail
use Rattle.pv_mail.specs.declared.asked.Asker.{Asker}
use Rattle.pv_told.specs.Along.{has_fault, has_fault_since, is_asked_by, is_fault}
use Rattle.pv_told.specs.Words.{has_asker}
use Rattle.pv_told.proofs.fault.askers_before_a_fault.Goals as goal

pub loop-at-preserved : goal.loop-at-preserved
loop-at-preserved c =
    let history = c.args.history.now in
    let k = c.loop-at.at - 1 in
    let entry = c.index-history-at.result in
    let left = drop c.loop-at.at history in
    let within : k < length history = omega (arith, c.loop-at-test.true, c.loop-at.invariant.within) in
    let next : k + 1 ≡ c.loop-at.at = omega (arith, c.loop-at-test.true) in
    let first : drop k history ≡ entry ∷ left =
    drop_more history k entry within ∙ (ap (λ (one : Entry). one ∷ drop (k + 1) history) (sym c.index-history-at.is) ∙ ap (λ (n : ℕ). entry ∷ drop n history) next) in
    let fault : c.is_fault_or-fault.result ≡ has_fault (stamps_of (drop k history)) =
    c.is_fault_or-fault.ensures
    ∙ (ap (λ (b : Bool). is_fault (came_of entry.seen) || b) c.loop-at.invariant.fault ∙ sym (ap (λ (es : List Entry). has_fault (stamps_of es)) first)) in
    record {
      within = omega (arith, within);
      fault = fault;
      askers = λ asker. c.in_ok-push_if.ensures asker
          ∙ (ap (λ (o : Option Asker). (is_asked_by asker o && c.is_fault_or-fault.result) || has_asker asker c.loop-at.askers.items) c.asker_of.ensures
          ∙ (ap (λ (b : Bool). (is_asked_by asker (mail.asker_of (intake_of entry.input)) && b) || has_asker asker c.loop-at.askers.items)
          (fault ∙ ap (λ (es : List Entry). has_fault (stamps_of es)) first)
          ∙ (ap (λ (b : Bool). (is_asked_by asker (mail.asker_of (intake_of entry.input)) && has_fault (stamps_of (entry ∷ left))) || b) (c.loop-at.invariant.askers asker)
          ∙ sym (ap (λ (es : List Entry). has_fault_since asker (stamps_of es)) first))));
    }
