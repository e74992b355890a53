-- What a box makes of what it takes in.
use Rattle.std.specs.Prelude.{◌≡◌, ◌⊎◌, ℕ, ◌+◌, ◌≤◌, max, Option, List, [], ◌∷◌, ◌++◌, length, Result}
use Rattle.pv_disk_model.specs.LogModel.{LogModel}
use Rattle.pv_history.specs.Entries.{stamped_of}
use Rattle.pv_history.specs.declared.entry.Entry.{Entry}
use Rattle.pv_law_histories.specs.Course.{IsStep, left_by, input_of, sent_by}
use Rattle.pv_law_histories.specs.History.{Intake, Came, done, fault, down}
use Rattle.pv_law_histories.specs.Posting.{kept_by, stamp_with}
use Rattle.pv_mail.specs.Answers.{asker_of, begun_by, told_by}
use Rattle.pv_mail.specs.Given.{IsTakenFor}
use Rattle.pv_mail.specs.Looks.{SameInRings}
use Rattle.pv_mail.specs.Posting.{PostsAll}
use Rattle.pv_mail.specs.Telling.{TellsAll, TellsDownTo, TellsLossTo}
use Rattle.pv_mail.specs.declared.answer.Answer.{Answer}
use Rattle.pv_mail.specs.declared.asked.Asker.{Asker}
use Rattle.pv_mail.specs.declared.asked.Begun.{Begun}
use Rattle.pv_mail.specs.declared.ends.Parcel.{Parcel}
use Rattle.pv_post.specs.declared.outlet.Out.{Out}
use Rattle.pv_protocol.specs.State.{Outgoing}
use Rattle.pv_site.specs.SiteState.{SiteState, setup_of}
use Rattle.pv_site.specs.Steps.{Steps, Stays}
use Rattle.pv_site.specs.declared.error.StepError.{StepError}
use Rattle.pv_site.specs.declared.input.Step.{Step}
use Rattle.pv_cell.specs.Box.{course_site}
use Rattle.pv_cell.specs.declared.site_box.SiteBox.{SiteBox}
use Rattle.pv_cell.specs.declared.visit.Visit.{Visit}
use Rattle.pv_cell.specs.declared.visit.Visit.TheVariants.{Took, Lost}

-- What is posted to sites: the messages of a step that was made. Else the rings are as they were.
abbrev pub Posts : (me stamp : ℕ) → Came → List Outgoing → List (Out Parcel) → List (Out Parcel) → Type 0
Posts me stamp (done notes) sends old new = PostsAll me stamp 0 sends old new
Posts me stamp fault sends old new = new ≡ old
Posts me stamp down sends old new = new ≡ old

-- What clients are told, where the history has so many entries: what a step reports, or that the site is down. Of a fault they are told nothing.
abbrev pub TellsOf : (me seen : ℕ) → List Begun → Intake → Came → List (Out Answer) → List (Out Answer) → Type 0
TellsOf me seen begun intake (done notes) old new = TellsAll seen (told_by me begun intake (done notes)) old new
TellsOf me seen begun intake fault old new = new ≡ old
TellsOf me seen begun intake down old new = TellsDownTo me seen (asker_of intake) old new

-- What a box keeps of what it took in: its site, its history with the last stamp, what is begun, and what it handed to rings.
pub record Kept (W : Type 0) : Type 0 where
  pub site : SiteState W
  pub history : List Entry
  pub stamp : ℕ
  pub begun : List Begun
  pub sites_out : List (Out Parcel)
  pub clients_out : List (Out Answer)

abbrev pub kept_of : {W : Type 0} → SiteBox W → Kept W
kept_of box = record {
  site = box.site;
  history = box.history.items;
  stamp = box.stamp;
  begun = box.begun.items;
  sites_out = box.ends.sites_out.items;
  clients_out = box.ends.clients_out.items;
}

-- What is left to take, the visits that found nothing, the ring that is asked first and the rings in are as they were.
abbrev pub LeavesTaken : {W : Type 0} → SiteBox W → SiteBox W → Type 0
LeavesTaken old new = (new.again ≡ old.again) × (new.idle ≡ old.idle) × (new.next ≡ old.next) × SameInRings old.ends new.ends

module _ {W : Type 0} (M : LogModel W) where
  -- The history has one more entry, of what the site made of this intake, with what was posted and heard of it.
  pub record Enters (old new : Kept W) (intake : Intake) : Type 0 where
    pub entry : Entry
    pub answer : Result Step StepError
    pub history : new.history ≡ old.history ++ entry ∷ []
    pub intake_is : (stamped_of entry).intake ≡ intake
    pub planned : IsTakenFor old.site.me old.site.catalog entry.input
    pub stamp : entry.stamp ≡ max old.stamp (stamp_with intake) + 1
    pub new_stamp : new.stamp ≡ entry.stamp
    pub made : Steps M old.site new.site old.site.running (input_of intake) answer
    pub step : IsStep (setup_of old.site.catalog) old.site.me (course_site old.site) (stamped_of entry)
    pub left : course_site new.site ≡ left_by (setup_of old.site.catalog) old.site.me (course_site old.site) (stamped_of entry)
    pub short : entry.short ≤ length (sent_by (setup_of old.site.catalog) old.site.me (course_site old.site) (stamped_of entry))
    pub begun : new.begun ≡ begun_by old.begun intake (stamped_of entry).came
    pub posts : Posts old.site.me entry.stamp (stamped_of entry).came
        (kept_by (setup_of old.site.catalog) old.site.me (course_site old.site) (stamped_of entry)) old.sites_out new.sites_out
    pub tells : TellsOf old.site.me (length new.history) old.begun intake (stamped_of entry).came old.clients_out new.clients_out

  -- What was taken is lost, for want of memory: the site wasn't called, or is as if it hadn't come. A client hears of it.
  pub record Loses (old new : Kept W) (asker : Option Asker) : Type 0 where
    pub changed : new ≡ record old { site = new.site; clients_out = new.clients_out }
    pub site : (new.site ≡ old.site) ⊎ Stays M old.site new.site
    pub tells : TellsLossTo (length old.history) asker old.clients_out new.clients_out

  -- What an input comes to, by the answer.
  abbrev pub TakesIn : SiteBox W → SiteBox W → Intake → Visit → Type 0
  TakesIn old new intake Took = LeavesTaken old new × Enters (kept_of old) (kept_of new) intake
  TakesIn old new intake Lost = LeavesTaken old new × Loses (kept_of old) (kept_of new) (asker_of intake)
  TakesIn old new intake other = ⊥
