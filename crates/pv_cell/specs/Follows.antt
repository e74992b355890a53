-- What follows the site's answer.
use Rattle.std.specs.Prelude.{◌≡◌, ℕ, ◌+◌, ◌-◌, ◌≤◌, true, Option, [], ◌∷◌, ◌++◌, length, map, take}
use Rattle.pv_history.specs.declared.entry.Seen.TheVariants as seen
use Rattle.pv_history.specs.declared.entry.Taken.{Taken}
use Rattle.pv_mail.specs.Answers.{begun_after_all, told_of_all}
use Rattle.pv_mail.specs.Posting.{PostsAll}
use Rattle.pv_mail.specs.Telling.{TellsAll, TellsDownTo, TellsLossTo}
use Rattle.pv_mail.specs.declared.asked.Asker.{Asker}
use Rattle.pv_site.specs.Values.{note_of, outgoing_of}
use Rattle.pv_site.specs.declared.error.StepError.{StepError}
use Rattle.pv_site.specs.declared.error.StepError.TheVariants.{Fault, Down, NoMemory}
use Rattle.pv_site.specs.declared.input.Step.{Step}
use Rattle.pv_cell.specs.declared.site_box.SiteBox.{SiteBox}
use Rattle.pv_cell.specs.declared.visit.Visit.{Visit}
use Rattle.pv_cell.specs.declared.visit.Visit.TheVariants.{Took, Lost}

module _ {W : Type 0} (old new : SiteBox W) (stamp : ℕ) (taken : Taken) (asker : Option Asker) where
  -- The step has its entry at this stamp, what it sends is posted but for the last few that find no memory, and clients hear what it reports.
  pub record Follows (step : Step) : Type 0 where
    pub short : ℕ
    pub few : short ≤ length step.sends.items
    pub changed : new ≡ record old {
      ends = record old.ends { sites_out = new.ends.sites_out; clients_out = new.ends.clients_out };
      history = new.history;
      stamp = stamp;
      begun = new.begun;
    }
    pub history : new.history.items ≡ old.history.items
        ++ record { stamp = stamp; input = taken; sends = length step.sends.items; short = short; seen = seen.Done step.notes } ∷ []
    pub begun : new.begun.items ≡ begun_after_all asker old.begun.items (map note_of step.notes.items)
    pub posts : PostsAll old.me.0 stamp 0 (take (length step.sends.items - short) (map outgoing_of step.sends.items))
        old.ends.sites_out.items new.ends.sites_out.items
    pub tells : TellsAll (length old.history.items + 1) (told_of_all old.me.0 asker old.begun.items (map note_of step.notes.items))
        old.ends.clients_out.items new.ends.clients_out.items

  -- No step was made: there is an entry of the fault, after which the site is down, or that the site was down, of which the client hears; or the input is
  -- lost for want of memory, of which it hears.
  abbrev pub FollowsNo : StepError → Visit → Type 0
  FollowsNo Fault Took =
      (new ≡ record old { history = new.history; stamp = stamp; down = true })
      × (new.history.items ≡ old.history.items ++ record { stamp = stamp; input = taken; sends = 0; short = 0; seen = seen.Fault } ∷ [])
  FollowsNo Down Took =
      (new ≡ record old { ends = record old.ends { clients_out = new.ends.clients_out }; history = new.history; stamp = stamp })
      × (new.history.items ≡ old.history.items ++ record { stamp = stamp; input = taken; sends = 0; short = 0; seen = seen.Down } ∷ [])
      × TellsDownTo old.me.0 (length old.history.items + 1) asker old.ends.clients_out.items new.ends.clients_out.items
  FollowsNo NoMemory Lost =
      (new ≡ record old { ends = record old.ends { clients_out = new.ends.clients_out } })
      × TellsLossTo (length old.history.items) asker old.ends.clients_out.items new.ends.clients_out.items
  FollowsNo error visit = ⊥
