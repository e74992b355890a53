-- What a program knows of the site that its process has, when it makes a call.
use Rattle.std.specs.Prelude.{◌≡◌, ℕ, ◌<◌, Some, List, [], Result, Ok, Err, drop, length}
use Rattle.pv_base.specs.Catalog.{Declared}
use Rattle.pv_format.specs.Message.{Envelope}
use Rattle.pv_format.specs.MessageSpelling.{SpellsEnvelope}
use Rattle.pv_embed.specs.Hosted.{HostedState}
use Rattle.pv_embed.specs.declared.fault.SubmitFault.{SubmitFault}
use Rattle.pv_law_hosted.specs.Asked.{Asked, begun_of}
use Rattle.pv_law_hosted.specs.Deployment.{Deployment, IsCarried, station_at}
use Rattle.pv_model.specs.ProgramText.{IsProgramText}
use Rattle.pv_model.specs.Syntax.{Program}

-- The process of this number has this site, of this catalog.
pub record HasSite (catalog : Declared) (d : Deployment) (n : ℕ) (site : HostedState) : Type 0 where
  pub known : n < catalog.sites
  pub here : (station_at d n).hosted ≡ Some site
  pub me : site.site.me ≡ n
  pub declared : site.site.catalog ≡ catalog

-- Where the bytes spell a message, one of the sites has let it out.
abbrev pub IsFromASite : Deployment → List ℕ → Type 0
IsFromASite d bytes = (envelope : Envelope) → SpellsEnvelope envelope bytes → IsCarried d envelope

-- What begins by a request, by its answer: the program that its text is, with the number that the site gives to it, if it gives one; and nothing where it is refused.
abbrev pub BeginsAsked : {X : Type 0} → Declared → HostedState → HostedState → List ℕ → Result X SubmitFault → List Asked → Type 0
BeginsAsked catalog old new text (Ok _) asked = (program : Program) × IsProgramText catalog text program × (asked ≡ begun_of program (drop (length old.held) new.held))
BeginsAsked catalog old new text (Err fault) asked = asked ≡ []
