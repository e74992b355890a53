-- The clients of a script and their rings, when they are made.
use Rattle.std.specs.Prelude.{◌≡◌, ℕ, Some, Vec, List, [], length, map, take, slice_get, All}
use Rattle.std.specs.declared.alloc.Global.{Global}
use Rattle.pv_crew.specs.Messages.{no_faults}
use Rattle.pv_crew.specs.declared.client.Client.{Client}
use Rattle.pv_links.specs.Links.{IsUnusedIn, IsUnusedOut}
use Rattle.pv_links.specs.Rows.{AddsTo, StandsAt}
use Rattle.pv_mail.specs.declared.answer.Answer.{Answer}
use Rattle.pv_post.specs.Ends.{IsPair, posted}
use Rattle.pv_post.specs.declared.inlet.In.{In}
use Rattle.pv_post.specs.declared.outlet.Out.{Out}
use Rattle.pv_rings.specs.Rings.{Each}
use Rattle.pv_script.specs.LiveView.{request_of, requests_by}
use Rattle.pv_script.specs.declared.live.Client as script
use Rattle.pv_script.specs.declared.live.Request.{Request}
use Rattle.pv_opening.specs.Counts.{count_at}

-- The client has asked for nothing yet, and is to ask for what its script says.
abbrev pub IsToAsk : script.Client → Client Request Answer → Type 0
IsToAsk client met = (map request_of met.script.items ≡ requests_by client) × (posted met.asks ≡ [])

-- It asks by a new ring, whose other end is one more in the row of its site.
abbrev pub IsAsking : script.Client → Client Request Answer → List (Vec (In Request) Global) → List (Vec (In Request) Global) → Type 0
IsAsking client met old new =
    IsToAsk client met × ((inlet : In Request) × AddsTo client.site.0 inlet old new × IsPair met.asks inlet × IsUnusedIn inlet)

-- It hears by a new ring, whose other end is one more in the row of its site.
abbrev pub IsTelling : script.Client → Client Request Answer → List (Vec (Out Answer) Global) → List (Vec (Out Answer) Global) → Type 0
IsTelling client met old new = (out : Out Answer) × AddsTo client.site.0 out old new × IsPair out met.hears × IsUnusedOut no_faults out

-- It is to ask, and to hear, by the rings whose other ends stand at this place in the rows of its site.
abbrev pub IsMet : ℕ → script.Client → Client Request Answer → List (Vec (In Request) Global) → List (Vec (Out Answer) Global) → Type 0
IsMet place client met asked told =
    IsToAsk client met × ((inlet : In Request) × StandsAt asked client.site.0 place inlet × IsPair met.asks inlet)
    × ((out : Out Answer) × StandsAt told client.site.0 place out × IsPair out met.hears)

-- Each client has its rings, and each site has in its rows one new end of each kind for each of its clients, in order.
pub record AreMet (clients : List script.Client) (met : List (Client Request Answer)) (asked : List (Vec (In Request) Global)) (told : List (Vec (Out Answer) Global)) : Type 0 where
  pub each : Each (λ k client one. IsMet (count_at client.site.0 (take k clients)) client one asked told) clients met
  pub asked_are : (n : ℕ) (row : Vec (In Request) Global) → slice_get asked n ≡ Some row → (length row.items ≡ count_at n clients) × All IsUnusedIn row.items
  pub told_are : (n : ℕ) (row : Vec (Out Answer) Global) → slice_get told n ≡ Some row → (length row.items ≡ count_at n clients) × All (IsUnusedOut no_faults) row.items
