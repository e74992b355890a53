-- The course of a site along a history that is cut in two, and what was sent in each part.
use Rattle.std.proofs.Common.{◌≡◌, ◌⊎◌, ℕ, ◌<◌, Option, Some, None, List, [], ◌∷◌, ◌++◌, length, All, sym, refl, inl, inr, ⊎_elim, arith}
use Rattle.std.proofs.lemmas.List.Elements.{All-head, All-tail}
use Rattle.pv_format.specs.Checkpoint.{first_standing}
use Rattle.pv_format.specs.Record.{Record}
use Rattle.pv_law_histories.specs.Course.{left_up, left_at, left_by, sent_up, sent_at, sent_by, IsStepUp, IsStepAt, IsStep, course, AreSteps, Sent}
use Rattle.pv_law_histories.specs.History.{Came, done, fault, down, Stamped}
use Rattle.pv_protocol.specs.State.{Setup, Site, Running, Outgoing}

module _ (setup : Setup) (me : ℕ) where
  pub course-append : (site : Site) (entries more : List Stamped) → course setup me site (entries ++ more) ≡ course setup me (course setup me site entries) more
  course-append site [] more = refl
  course-append site (entry ∷ entries) more = course-append (left_by setup me site entry) entries more

  -- One step more makes steps of all.
  pub steps-append : (site : Site) (entries : List Stamped) (entry : Stamped) → AreSteps setup me site entries
      → IsStep setup me (course setup me site entries) entry → AreSteps setup me site (entries ++ entry ∷ [])
  steps-append site [] entry are is = (is, tt)
  steps-append site (first ∷ entries) entry are is = (are.0, steps-append (left_by setup me site first) entries entry are.1 is)

  -- An entry is a step of the site that those before it leave.
  pub step-within : (site : Site) (entries : List Stamped) (entry : Stamped) (more : List Stamped)
      → AreSteps setup me site (entries ++ entry ∷ more) → IsStep setup me (course setup me site entries) entry
  step-within site [] entry more are = are.0
  step-within site (first ∷ entries) entry more are = step-within (left_by setup me site first) entries entry more are.1

  -- ## No site of a course is armed
  left_up-arm : (records : List Record) (running : Running) (entry : Stamped) (came : Came) → (left_up setup me records running entry came).arm ≡ None
  left_up-arm records running entry (done notes) = refl
  left_up-arm records running entry fault = refl
  left_up-arm records running entry down = refl

  left_at-arm : (records : List Record) (running : Option Running) (entry : Stamped) → (left_at setup me records running entry).arm ≡ None
  left_at-arm records None entry = refl
  left_at-arm records (Some running) entry = left_up-arm records running entry entry.came

  pub course-arm : (site : Site) (entries : List Stamped) → site.arm ≡ None → (course setup me site entries).arm ≡ None
  course-arm site [] unarmed = unarmed
  course-arm site (entry ∷ entries) unarmed = course-arm (left_by setup me site entry) entries (left_at-arm site.records site.running entry)

  -- ## The log of each stands as it was formatted
  left_up-formatted : (records : List Record) (running : Running) (entry : Stamped) (came : Came) → (left_up setup me records running entry came).standing ≡ first_standing
  left_up-formatted records running entry (done notes) = refl
  left_up-formatted records running entry fault = refl
  left_up-formatted records running entry down = refl

  left_at-formatted : (records : List Record) (running : Option Running) (entry : Stamped) → (left_at setup me records running entry).standing ≡ first_standing
  left_at-formatted records None entry = refl
  left_at-formatted records (Some running) entry = left_up-formatted records running entry entry.came

  pub course-formatted : (site : Site) (entries : List Stamped) → site.standing ≡ first_standing → (course setup me site entries).standing ≡ first_standing
  course-formatted site [] formatted = formatted
  course-formatted site (entry ∷ entries) formatted = course-formatted (left_by setup me site entry) entries (left_at-formatted site.records site.running entry)

  -- ## What was sent
  -- An entry counts what it sent.
  sent_up-length : (records : List Record) (running : Running) (entry : Stamped) (came : Came) → IsStepUp setup me records running entry came
      → length (sent_up setup me records running entry came) ≡ entry.sends
  sent_up-length records running entry (done notes) is = sym is.1
  sent_up-length records running entry fault is = sym is.1
  sent_up-length records running entry down is = absurd is

  sent_at-length : (records : List Record) (running : Option Running) (entry : Stamped) → IsStepAt setup me records running entry
      → length (sent_at setup me records running entry) ≡ entry.sends
  sent_at-length records None entry is = sym is.1
  sent_at-length records (Some running) entry is = sent_up-length records running entry entry.came is

  pub sent_by-length : (site : Site) (entry : Stamped) → IsStep setup me site entry → length (sent_by setup me site entry) ≡ entry.sends
  sent_by-length site entry is = sent_at-length site.records site.running entry is

  -- What was sent was sent in one of two parts.
  pub Sent-append : (site : Site) (entries more : List Stamped) (stamp place : ℕ) (outgoing : Outgoing) → Sent setup me site (entries ++ more) stamp place outgoing
      → Sent setup me site entries stamp place outgoing ⊎ Sent setup me (course setup me site entries) more stamp place outgoing
  Sent-append site [] more stamp place outgoing sent = inr sent
  Sent-append site (entry ∷ entries) more stamp place outgoing sent =
      ⊎_elim (λ here. inl (inl here))
      (λ later. ⊎_elim (λ in_rest. inl (inr in_rest)) (λ in_more. inr in_more)
      (Sent-append (left_by setup me site entry) entries more stamp place outgoing later))
      sent

  -- Nothing was sent at a stamp by entries whose stamps are all greater.
  pub Sent-later : (site : Site) (entries : List Stamped) (stamp place : ℕ) (outgoing : Outgoing) → All (λ entry. stamp < entry.stamp) entries
      → Sent setup me site entries stamp place outgoing → ⊥
  Sent-later site [] stamp place outgoing later sent = sent
  Sent-later site (entry ∷ entries) stamp place outgoing later sent =
      let above = All-head (λ (e : Stamped). stamp < e.stamp) entry entries later in
      ⊎_elim (λ here. let same = here.0 in absurd (omega arith))
      (λ in_rest. Sent-later (left_by setup me site entry) entries stamp place outgoing (All-tail (λ (e : Stamped). stamp < e.stamp) entry entries later) in_rest)
      sent
