-- What a live script keeps to: few clients, each of a site that is there, that wants few things and looks at items of its site alone.
use Rattle.std.proofs.Common.{◌≡◌, ℕ, zero, suc, ◌<◌, ◌≤◌, List, [], ◌∷◌, ◌++◌, length, get_or, map, All, refl, sym, ap, subst, inl, inr, arith}
use Rattle.std.specs.Prelude.{⊤}
use Rattle.std.proofs.lemmas.List.{get_or-map, length-append, length-map}
use Rattle.pv_base.specs.declared.limits.TheConstants.{MAX_CLIENTS, MAX_REQUESTS}
use Rattle.pv_model.specs.Events.{Event}
use Rattle.pv_law_schedules.proofs.WishLemmas.{wishes-home}
use Rattle.pv_law_schedules.specs.Wishes.{IsLookHome}
use Rattle.pv_model.specs.LineCauses.{Before, last_requests, or_default}
use Rattle.pv_model.specs.LiveScript as model
use Rattle.pv_model.specs.LiveScript.{Wish, to_ask, to_peek}
use Rattle.pv_model.specs.Schedule.{AreLines, Declares, declaration, event, new_client, none, with_wish}
use Rattle.pv_model.specs.Text.{TextLine}
use Rattle.pv_script.specs.LiveView.{client_of, live_script_of, wish_of}
use Rattle.pv_script.specs.declared.live.Client.{Client}
use Rattle.pv_script.specs.declared.live.LiveScript.{LiveScript}
use Rattle.pv_opening.specs.Opening.{IsHere, IsRead}

-- The client is of one of so many sites, and has few requests.
abbrev Fits : ℕ → model.Client → Type 0
Fits sites client = (client.site < sites) × (length client.requests ≤ MAX_REQUESTS)

abbrev AllFit : ℕ → List model.Client → Type 0
AllFit sites [] = ⊤
AllFit sites (client ∷ clients) = Fits sites client × AllFit sites clients

none-fit : (sites : ℕ) (clients : List model.Client) → AllFit 0 clients → AllFit sites clients
none-fit sites [] all = tt
none-fit sites (client ∷ clients) all = absurd (omega (arith, all.0.0))

one-fits : (sites : ℕ) (clients : List model.Client) (client : model.Client) → AllFit sites clients → Fits sites client → AllFit sites (clients ++ client ∷ [])
one-fits sites [] client all fits = (fits, tt)
one-fits sites (first ∷ clients) client all fits = (all.0, one-fits sites clients client all.1 fits)

wish-fits : (sites : ℕ) (clients : List model.Client) (wish : Wish) → last_requests clients < MAX_REQUESTS → AllFit sites clients
    → AllFit sites (with_wish clients wish)
wish-fits sites [] wish less all = tt
wish-fits sites (client ∷ []) wish less all = ((all.0.0, omega (arith, less, length-append client.requests (wish ∷ []))), tt)
wish-fits sites (client ∷ next ∷ clients) wish less all = (all.0, wish-fits sites (next ∷ clients) wish less all.1)

wish-count : (clients : List model.Client) (wish : Wish) → length (with_wish clients wish) ≡ length clients
wish-count [] wish = refl
wish-count (client ∷ []) wish = refl
wish-count (client ∷ next ∷ clients) wish = ap suc (wish-count (next ∷ clients) wish)

-- So it is of all clients so far.
abbrev AreFew : Before → Type 0
AreFew before = AllFit (or_default 0 before.sites) before.clients × (length before.clients ≤ MAX_CLIENTS)

declared-few : (before after : Before) (line : TextLine) → Declares before line after → AreFew before → AreFew after
declared-few before after line (inl d) few =
    subst AreFew (sym d.same) (none-fit d.count before.clients (subst (λ (s : _). AllFit (or_default 0 s) before.clients) d.first few.0), few.1)
declared-few before after line (inr (inl d)) few = subst AreFew (sym d.same) few
declared-few before after line (inr (inr (inl d))) few = subst AreFew (sym d.same) few
declared-few before after line (inr (inr (inr (inl d)))) few = subst AreFew (sym d.same) few
declared-few before after line (inr (inr (inr (inr (inl d))))) few =
    subst AreFew (sym d.same) (
      one-fits (or_default 0 before.sites) before.clients (new_client d.site) few.0 (d.is.2.1, omega arith),
      omega (arith, d.room, length-append before.clients (new_client d.site ∷ [])),
    )
declared-few before after line (inr (inr (inr (inr (inr (inl d)))))) few =
    subst AreFew (sym d.same) (
      wish-fits (or_default 0 before.sites) before.clients (to_ask d.request) d.room few.0,
      subst (λ (n : ℕ). n ≤ MAX_CLIENTS) (sym (wish-count before.clients (to_ask d.request))) few.1,
    )
declared-few before after line (inr (inr (inr (inr (inr (inr d)))))) few =
    let wish = to_peek (last_requests before.clients) d.item in
    subst AreFew (sym d.same) (
      wish-fits (or_default 0 before.sites) before.clients wish d.room few.0,
      subst (λ (n : ℕ). n ≤ MAX_CLIENTS) (sym (wish-count before.clients wish)) few.1,
    )

all-few : {before last : Before} {lines : List TextLine} {events : List Event} → AreLines before lines events last → AreFew before → AreFew last
all-few (none b) few = few
all-few (declaration b after l line rest es declares are) few = all-few are (declared-few b after line declares few)
all-few (event b l line rest e es says are) few = all-few are few

fit-at : (sites : ℕ) (clients : List Client) → AllFit sites (map client_of clients) → (k : ℕ) (any : Client) → k < length clients
    → ((get_or clients k any).site.0 < sites) × (length (get_or clients k any).requests.items ≤ MAX_REQUESTS)
fit-at sites [] all k any less = absurd (omega (arith, less))
fit-at sites (client ∷ clients) all zero any less =
    (all.0.0, subst (λ (n : ℕ). n ≤ MAX_REQUESTS) (length-map client.requests.items wish_of) all.0.1)
fit-at sites (client ∷ clients) all (suc k) any less = fit-at sites clients all.1 k any (omega (arith, less))

module _ (script : LiveScript) (read : IsRead script) where
  -- Each item that a client looks at is at its site.
  pub clients-look : (k : ℕ) (any : Client) → k < length script.clients.items
      → All (IsHere script.catalog.items (get_or script.clients.items k any).site.0) (get_or script.clients.items k any).requests.items
  clients-look k any less j wish within =
      let items = script.catalog.items in
      let clients = script.clients.items in
      let client = get_or clients k any in
      let wishes = client.requests.items in
      let all = wishes-home read.0.0 (live_script_of script) read.0.1 k (client_of any) (subst (λ (n : ℕ). k < n) (sym (length-map clients client_of)) less) in
      let here : All (IsLookHome items client.site.0) (map wish_of wishes) =
      subst (λ (c : model.Client). All (IsLookHome items c.site) c.requests) (get_or-map client_of clients k any (client_of any) less) all in
      subst (IsLookHome items client.site.0) (get_or-map wish_of wishes j wish (wish_of wish) within)
      (here j (wish_of wish) (subst (λ (n : ℕ). j < n) (sym (length-map wishes wish_of)) within))

  few : AllFit script.catalog.sites (map client_of script.clients.items) × (length (map client_of script.clients.items) ≤ MAX_CLIENTS)
  few =
      let live = read.0.1 in
      subst (λ (s : model.LiveScript). AllFit s.catalog.sites s.clients × (length s.clients ≤ MAX_CLIENTS)) (sym live.is)
      (all-few live.are (tt, omega arith))

  pub few-clients : length script.clients.items ≤ MAX_CLIENTS
  few-clients = subst (λ (n : ℕ). n ≤ MAX_CLIENTS) (length-map script.clients.items client_of) few.1

  pub clients-fit : (k : ℕ) (any : Client) → k < length script.clients.items
      → ((get_or script.clients.items k any).site.0 < script.catalog.sites) × (length (get_or script.clients.items k any).requests.items ≤ MAX_REQUESTS)
  clients-fit = fit-at script.catalog.sites script.clients.items few.0
