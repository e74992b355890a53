-- What an event of a script makes of the deciders of a run in memory.
use Rattle.std.specs.Prelude.{◌≡◌, ℕ, ◌≤◌, Bool, true, List, ◌++◌, MatchBool, map, None}
use Rattle.pv_law_decisions.specs.Lines.{Line, lines_text, told}
use Rattle.pv_law_decisions.specs.Runs.{Delivers, Happens}
use Rattle.pv_law_decisions.specs.Scene.{Scene, next_fresh}
use Rattle.pv_quorum.specs.Values.{lines_of}
use Rattle.pv_quorum.specs.declared.message.QuorumStep.{QuorumStep}
use Rattle.pv_quorum_run.specs.Mail.{sent_by}
use Rattle.pv_quorum_run.specs.Stands.{StandsFor, setup_for}
use Rattle.pv_quorum_run.specs.declared.table.Table.{Table}
use Rattle.pv_quorum_script.specs.declared.event.QuorumEvent.{QuorumEvent}

module _ (old new : Table) (before after : List ℕ) where
  -- The event has happened: these are the scene after it, and what it prints.
  pub record HasHappened (scene : Scene) (event : QuorumEvent) : Type 0 where
    pub lines : List Line
    pub last : Scene
    pub happens : Happens (setup_for old) scene event lines last
    pub stands : StandsFor new last
    pub count : new.count ≡ old.count
    pub text : after ≡ before ++ lines_text lines

  -- So many fresh messages were delivered, and whether none is left. Else they were as many as this.
  pub record HasPumped (scene : Scene) (most : ℕ) (over : Bool) : Type 0 where
    pub k : ℕ
    pub lines : List Line
    pub last : Scene
    pub delivers : Delivers (setup_for old) scene k lines last
    pub within : k ≤ most
    pub over_is : MatchBool over (next_fresh last ≡ None) (k ≡ most)
    pub stands : StandsFor new last
    pub count : new.count ≡ old.count
    pub text : after ≡ before ++ lines_text lines

  -- What a step sends was sent, and what it reports is printed.
  pub record HasFollowed (decider : ℕ) (step : QuorumStep) : Type 0 where
    pub table : new ≡ record old { mail = record { sent = old.mail.sent ++ map (sent_by decider) step.sends.items; fresh = old.mail.fresh ++ map (λ send. true) step.sends.items } }
    pub text : after ≡ before ++ lines_text (map told (lines_of decider step))
