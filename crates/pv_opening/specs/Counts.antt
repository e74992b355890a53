-- Places of clients among their site's own.
use Rattle.std.specs.Prelude.{ℕ, ◌+◌, ◌==◌, List, [], ◌∷◌, if◌then◌else◌}
use Rattle.pv_script.specs.declared.live.Client.{Client}

-- how many of these clients are of this site
abbrev pub count_at : ℕ → List Client → ℕ
count_at site [] = 0
count_at site (client ∷ clients) = if client.site.0 == site then count_at site clients + 1 else count_at site clients
