-- What a site in bytes does with requests and reports that have tags, by its answers.
use Rattle.std.specs.Prelude.{◌≡◌, ℕ, List, Bool, Result}
use Rattle.pv_embed.specs.Requests.{SubmitsBy}
use Rattle.pv_embed.specs.declared.fault.SubmitFault.{SubmitFault}
use Rattle.pv_handle.specs.ByteSite.{TakesBytes}
use Rattle.pv_handle.specs.ByteState.{ByteState}
use Rattle.pv_handle.specs.Tags.{KeepsTag, TellsTag}
use Rattle.pv_handle.specs.declared.given.Given.{Given}

-- A request with a tag, by its answer.
abbrev pub SubmitsTagged : {X : Type 0} → List ℕ → Bool → ℕ → ByteState → ByteState → Result X SubmitFault → Type 0
SubmitsTagged text query tag old new result =
    SubmitsBy old.hosted new.hosted text query result × (new.taken ≡ old.taken) × KeepsTag old.hosted new.hosted old.tags new.tags tag result

-- A taking of what is let out, and of the tag that goes with it.
abbrev pub TakesTagged : {E : Type 0} → List ℕ → List ℕ → ℕ → ByteState → ByteState → Result Given E → Type 0
TakesTagged room out tag old new result =
    TakesBytes room out old.hosted new.hosted result × (new.taken ≡ old.taken) × TellsTag old.hosted.held old.tags new.tags tag result
