-- What a process is given, and what its site makes of it.
use Rattle.std.specs.Prelude.{◌≡◌, ℕ, Option, Some, None, List, [], ◌∷◌, ◌++◌, map, ⊤}
use Rattle.std.specs.List.{Contains}
use Rattle.pv_base.specs.declared.txn.TxnId.{TxnId}
use Rattle.pv_format.specs.Record.{Record}
use Rattle.pv_protocol.specs.Records.{journal_bytes}
use Rattle.pv_protocol.specs.Start.{Started, starts, too_long, no_epoch, site_start}
use Rattle.pv_protocol.specs.State.{Setup, Running, Input, Step, submit, receive, tick, began}
use Rattle.pv_protocol.specs.Step.{site_step, records_after}
use Rattle.pv_embed.specs.Held.{Held, Out}
use Rattle.pv_embed.specs.Outputs.{outs}
use Rattle.pv_law_hosted.specs.Asked.{Asked, asked_as}
use Rattle.pv_law_hosted.specs.Deployment.{Deployment}
use Rattle.pv_law_hosted.specs.DeploymentEvents.{MayTake}

-- What a step looks at: the records, and what the site has in memory where it is up.
pub record Content : Type 0 where
  pub records : List Record
  pub running : Option Running

-- A process is given its opening first, and then inputs.
pub data Given : Type 0 where
  opened : Given
  input : Input → Given

-- ## One thing
abbrev pub started_with : Content → Started → Content
started_with content (starts running epoch) = record { records = content.records ++ epoch ∷ []; running = Some running }
started_with content (too_long length) = content
started_with content no_epoch = content

module _ (setup : Setup) (n : ℕ) where
  -- the step that a site makes of an input
  abbrev pub step_with : Content → Running → Input → Step
  step_with content running given = site_step setup n content.records running given

  -- A site that is down is opened; one that is up takes inputs.
  abbrev pub opened_with : Content → Option Running → Content
  opened_with content None = started_with content (site_start setup 0 content.records)
  opened_with content (Some running) = content

  abbrev pub stepped_with : Content → Option Running → Input → Content
  stepped_with content None given = content
  stepped_with content (Some running) given =
      let step = step_with content running given in record { records = records_after content.records step; running = Some step.running }

  -- what is there after it
  abbrev pub with_given : Content → Given → Content
  with_given content opened = opened_with content content.running
  with_given content (input given) = stepped_with content content.running given

  -- what begins by an input was asked for last under its number
  abbrev pub IsAskedFor : List Asked → Content → Option Running → Input → Type 0
  IsAskedFor asked content None given = ⊤
  IsAskedFor asked content (Some running) (submit program) =
      (txn : TxnId) → Contains (step_with content running (submit program)).notes (began txn) → asked_as asked txn ≡ Some program
  IsAskedFor asked content (Some running) (receive from message) = ⊤
  IsAskedFor asked content (Some running) tick = ⊤

  -- An opening may be given at any time; and an input as a site may take it, where what begins by it was asked for.
  abbrev pub MayBeGiven : Deployment → List Asked → Content → Given → Type 0
  MayBeGiven d asked content opened = ⊤
  MayBeGiven d asked content (input given) = MayTake setup.catalog d n given × IsAskedFor asked content content.running given

  abbrev pub outs_with : Content → Option Running → Input → List Out
  outs_with content None given = []
  outs_with content (Some running) given = let step = step_with content running given in outs n step.sends step.notes

  -- what is to be let out of it: nothing of an opening
  abbrev pub outs_of_given : Content → Given → List Out
  outs_of_given content opened = []
  outs_of_given content (input given) = outs_with content content.running given

  -- ## One thing after another
  abbrev pub with_all : Content → List Given → Content
  with_all content [] = content
  with_all content (given ∷ later) = with_all (with_given content given) later

  -- each may be given as it comes
  abbrev pub MayAllBeGiven : Deployment → List Asked → Content → List Given → Type 0
  MayAllBeGiven d asked content [] = ⊤
  MayAllBeGiven d asked content (given ∷ later) = MayBeGiven d asked content given × MayAllBeGiven d asked (with_given content given) later

  -- what is to be let out of them
  abbrev pub outs_of_all : Content → List Given → List Out
  outs_of_all content [] = []
  outs_of_all content (given ∷ later) = outs_of_given content given ++ outs_of_all (with_given content given) later

  -- what is held of one thing, with the length of a journal of the records that are there after it
  abbrev pub held_of_given : Content → Given → List Held
  held_of_given content given =
      map (λ out. record { length = journal_bytes (with_given content given).records; out = out }) (outs_of_given content given)

  abbrev pub held_for : Content → List Given → List Held
  held_for content [] = []
  held_for content (given ∷ later) = held_of_given content given ++ held_for (with_given content given) later

  -- The first of what waits appends a record: else it wouldn't wait.
  abbrev pub WaitsForRecord : Content → List Given → Type 0
  WaitsForRecord content [] = ⊤
  WaitsForRecord content (given ∷ later) = (more : Record) × ((with_given content given).records ≡ content.records ++ more ∷ [])
