-- What a site makes of what it takes in is the next step of its history.
use Rattle.std.proofs.lemmas.List.{length-map}
use Rattle.std.proofs.Common.{◌≡◌, Option, None, Some, List, length, map, refl, sym, ap, ◌∙◌, subst, rules}
use Rattle.std.specs.Prelude.{IsSome}
use Rattle.pv_disk_model.specs.LogModel.{LogModel}
use Rattle.pv_law_histories.specs.Course.{IsStepAt, IsStepUp, left_at, left_up, input_of}
use Rattle.pv_law_histories.specs.History.{Came, Stamped, done, fault, down}
use Rattle.pv_protocol.specs.State as state
use Rattle.pv_protocol.specs.State.{Running}
use Rattle.pv_protocol.specs.Step.{site_step}
use Rattle.pv_site.specs.SiteState.{SiteState, setup_of}
use Rattle.pv_site.specs.Steps.{Breaks, HasMade}
use Rattle.pv_site.specs.Values.{note_of, outgoing_of}
use Rattle.pv_site.specs.declared.input.Step.{Step}
use Rattle.pv_cell.specs.Box.{course_site}

module _ {W : Type 0} (M : LogModel W) (old new : SiteState W) (entry : Stamped) where
  -- The entry is a step of the site, and leaves it so.
  abbrev pub Follows : Option Running → Type 0
  Follows running =
      IsStepAt (setup_of old.catalog) old.me old.records running entry × (course_site new ≡ left_at (setup_of old.catalog) old.me old.records running entry)

  -- Of a site that is down nothing comes.
  pub down-follows : new.records ≡ old.records → new.running ≡ None → entry.came ≡ down → entry.sends ≡ 0 → Follows None
  down-follows records running came sends =
      ((came, sends), λ i. record { records = records i; standing = (course_site new).standing; arm = None; running = running i })

  module _ (running : Running) where
    abbrev step : state.Step
    step = site_step (setup_of old.catalog) old.me old.records running (input_of entry.intake)

    -- the same, of what came of it
    abbrev FollowsAs : Came → Type 0
    FollowsAs came =
        IsStepUp (setup_of old.catalog) old.me old.records running entry came
        × (course_site new ≡ left_up (setup_of old.catalog) old.me old.records running entry came)

    -- A step that was made.
    pub made-follows : (answer : Step) → HasMade M old new answer step → entry.came ≡ done (map note_of answer.notes.items) → entry.sends ≡ length answer.sends.items
        → Follows (Some running)
    made-follows answer made came sends =
        let notes = made.answered.notes in
        let count : entry.sends ≡ length step.sends = sends ∙ (sym (length-map answer.sends.items outgoing_of) ∙ ap (λ (all : List state.Outgoing). length all) made.answered.sends) in
        subst FollowsAs (sym (came ∙ ap done notes)) ((refl, count), ap course_site made.site)

    -- A fault in the append of its record.
    pub broken-follows : Breaks M old new step → entry.came ≡ fault → entry.sends ≡ 0 → Follows (Some running)
    broken-follows breaks came sends =
        subst FollowsAs (sym came) ((subst IsSome (sym breaks.log.is) (search rules), sends), ap course_site breaks.site)
