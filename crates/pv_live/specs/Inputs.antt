-- Which inputs can be run live, and why another one is refused.
use Rattle.std.specs.Prelude.{◌≡◌, ◌≢◌, ◌⊎◌, ℕ, ◌+◌, List, [], length}
use Rattle.pv_model.specs.LineCauses.{LineCause, client_expected}
use Rattle.pv_model.specs.LiveScript.{LiveScript}
use Rattle.pv_model.specs.Schedule.{IsLiveScript, IsMalformedLiveScript}
use Rattle.pv_model.specs.Text.{lines}

-- The text is a live script that has a client.
abbrev pub IsScriptOfClients : List ℕ → LiveScript → Type 0
IsScriptOfClients text script = IsLiveScript text script × (script.clients ≢ [])

-- The text is a live script without a client: it lacks one after its last line.
pub record LacksClient (text : List ℕ) (number : ℕ) (cause : LineCause) : Type 0 where
  pub script : LiveScript
  pub is : IsLiveScript text script
  pub none : script.clients ≡ []
  pub place : number ≡ length (lines text) + 1
  pub cause_is : cause ≡ client_expected

-- A text that is to be run live is malformed at the line of this number, for this cause: as live scripts are, or since there is no client.
abbrev pub IsRefusedText : List ℕ → ℕ → LineCause → Type 0
IsRefusedText text number cause = IsMalformedLiveScript text number cause ⊎ LacksClient text number cause
