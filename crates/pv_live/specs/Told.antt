-- What clients were told, as the text of a live run has it.
use Rattle.std.specs.Prelude.{◌≡◌, ℕ, ◌<◌, ◌^◌, Vec, List, All, [], ◌∷◌, length, map}
use Rattle.std.specs.declared.alloc.Global.{Global}
use Rattle.pv_closing.specs.Lines.{reading_of}
use Rattle.pv_script.specs.LineView.{line_of}
use Rattle.pv_script.specs.declared.live.Client.{Client}
use Rattle.pv_told.specs.declared.line.ClientLine.{ClientLine}
use Rattle.pv_told.specs.declared.line.ClientWhat.{ClientWhat}
use Rattle.pv_told.specs.declared.line.ClientWhat.TheVariants as what
use Rattle.pv_transcript.specs.Heard.{Heard, line, worn, no_memory, peeked}

-- what a client of this site heard
abbrev pub heard_by : (site : ℕ) → ClientWhat → Heard
heard_by site (what.Line said) = line (line_of said)
heard_by site (what.Peek peek) = peeked peek.steps (reading_of site peek.face)
heard_by site what.Worn = worn site
heard_by site what.NoMemory = no_memory

-- of each of its requests
abbrev pub all_heard_by : (site : ℕ) → List ClientLine → List Heard
all_heard_by site told = map (λ one. heard_by site one.what) told

-- of each of all clients
abbrev pub heard_of : List Client → List (Vec ClientLine Global) → List (List Heard)
heard_of [] told = []
heard_of (client ∷ clients) [] = []
heard_of (client ∷ clients) (told ∷ more) = all_heard_by client.site.0 told.items ∷ heard_of clients more

-- Each of these clients was told something, and they and their lines can be counted.
abbrev pub AreFew : List Client → List (Vec ClientLine Global) → Type 0
AreFew clients told = (length clients ≡ length told) × (length clients < 2 ^ 32) × All (λ lines. length lines.items < 2 ^ 32) told
