-- Where a work has the plan of its program, what is said of the plan's parts is what the protocol says of the entry.
use Rattle.std.specs.Prelude.{◌≡◌, ℕ, Bool, true, false, not, ◌||◌, ◌==◌, List, [], ◌∷◌, map, find, Some, refl, if◌then◌else◌}
use Rattle.std.specs.List.{list_all}
use Rattle.std.specs.Option.{unwrap_or}
use Rattle.std.proofs.Common.{sym, ap, ◌∙◌}
use Rattle.std.proofs.lemmas.Bool.{false≢true, true≢false, eqb-true, eq-eqb}
use Rattle.std.proofs.lemmas.List.{map-id}
use Rattle.pv_base.proofs.MapLemmas.{map-map}
use Rattle.pv_base.specs.Catalog.{Item}
use Rattle.pv_base.specs.Want.{Want}
use Rattle.pv_coord.specs.Work as own
use Rattle.pv_coord.specs.Work.{Work, sites_of, wants_in}
use Rattle.pv_model.specs.Check.{Part}
use Rattle.pv_model.specs.Plan.{plan_of, part_of, wants_of, participants_of}
use Rattle.pv_model.specs.Syntax.{Program}
use Rattle.pv_protocol.specs.Coordinate.{has_taken, has_all_grants, has_all_votes, are_values_of}
use Rattle.pv_protocol.specs.Granted.{asked_of, is_unawaited, is_grant_ignored, is_wanted}
use Rattle.pv_protocol.specs.Here.{Here, is_among, participants}
use Rattle.pv_protocol.specs.State.{Taken}
use Rattle.pv_protocol.specs.Tick.{has_answered, awaited}
use Rattle.pv_protocol.specs.Vote.{is_vote_ignored}

-- The work's plan is that of its program.
abbrev pub IsPlanned : Here → Work → Type 0
IsPlanned here work = work.parts ≡ plan_of work.entry.program here.setup.catalog.items

-- the sites of the parts of a plan
sites-plan_of : (program : Program) (items : List Item) → map (λ (part : Part). part.site) (plan_of program items) ≡ participants_of program items
unfolding plan_of
sites-plan_of program items = map-map (λ (part : Part). part.site) (part_of program items) (participants_of program items) ∙ map-id (participants_of program items)

later : (here rest : Bool) → (here || rest) ≡ true → here ≡ false → rest ≡ true
later true rest among apart = absurd (true≢false apart)
later false rest among apart = among

apart : (m n : ℕ) (b : Bool) → (n == m) ≡ b → (m == n) ≡ false → b ≡ false
apart m n true is other = absurd (true≢false (sym (eq-eqb m n (sym (eqb-true n m is))) ∙ other))
apart m n false is other = refl

module _ (program : Program) (items : List Item) where
  wants-by : (b : Bool) (first : ℕ) (rest : List ℕ) (site : ℕ) → (first == site) ≡ b → is_among (first ∷ rest) site ≡ true
      → (is_among rest site ≡ true → wants_in (find (λ (part : Part). part.site == site) (map (part_of program items) rest)) ≡ wants_of program items site)
      → wants_in (if b then Some (part_of program items first) else find (λ (part : Part). part.site == site) (map (part_of program items) rest)) ≡ wants_of program items site
  wants-by true first rest site is among behind = ap (wants_of program items) (eqb-true first site is)
  wants-by false first rest site is among behind =
      behind (later (site == first) (is_among rest site) among (apart first site (site == first) refl is))

  wants-among : (sites : List ℕ) (site : ℕ) → is_among sites site ≡ true
      → wants_in (find (λ (part : Part). part.site == site) (map (part_of program items) sites)) ≡ wants_of program items site
  wants-among [] site among = absurd (false≢true among)
  wants-among (first ∷ rest) site among = wants-by (first == site) first rest site refl among (wants-among rest site)

module _ (here : Here) (work : Work) (planned : IsPlanned here work) where
  -- The participants are those of the protocol.
  pub sites-planned : sites_of work ≡ participants here work.entry
  sites-planned = ap (map (λ (part : Part). part.site)) planned ∙ sites-plan_of work.entry.program here.setup.catalog.items

  -- So is what was asked of each.
  pub asked-planned : (site : ℕ) → is_among (participants here work.entry) site ≡ true → own.asked_of work site ≡ asked_of here work.entry site
  unfolding plan_of
  asked-planned site among =
      ap (λ (parts : List Part). wants_in (find (λ (part : Part). part.site == site) parts)) planned
      ∙ wants-among work.entry.program here.setup.catalog.items (participants here work.entry) site among

  -- So is whether an answer to the locks is awaited.
  pub unawaited-planned : (from : ℕ) → own.is_unawaited work from ≡ is_unawaited here work.entry from
  unawaited-planned from = ap (λ (sites : List ℕ). not (is_among sites from) || has_taken work.entry from) sites-planned

  fits-by : (p : List Want → Bool) (from : ℕ) (among taken : Bool) → is_among (participants here work.entry) from ≡ among
      → ((not among || taken) || p (own.asked_of work from)) ≡ ((not among || taken) || p (asked_of here work.entry from))
  fits-by p from true taken is = ap (λ (wants : List Want). taken || p wants) (asked-planned from is)
  fits-by p from false taken is = refl

  tested : (p : List Want → Bool) (from : ℕ) → (own.is_unawaited work from || p (own.asked_of work from)) ≡ (is_unawaited here work.entry from || p (asked_of here work.entry from))
  tested p from =
      ap (λ (unawaited : Bool). unawaited || p (own.asked_of work from)) (unawaited-planned from)
      ∙ fits-by p from (is_among (participants here work.entry) from) (has_taken work.entry from) refl

  -- So is whether no notice is taken of a grant, of a denial, and of a vote.
  pub grant-planned : (taken : Taken) → own.is_grant_ignored work taken ≡ is_grant_ignored here work.entry taken.site taken.values
  grant-planned taken = tested (λ wants. not (are_values_of wants taken.values)) taken.site

  pub denial-planned : (from item : ℕ) → own.is_denial_ignored work from item ≡ (is_unawaited here work.entry from || not (is_wanted (asked_of here work.entry from) item))
  denial-planned from item = tested (λ wants. not (is_wanted wants item)) from

  pub vote-planned : (from : ℕ) → own.is_vote_ignored work from ≡ is_vote_ignored here work.entry from
  vote-planned from = ap (λ (sites : List ℕ). not (is_among sites from) || is_among work.entry.votes from) sites-planned

  -- So is whether all have granted, and whether all have voted.
  pub grants-planned : own.has_all_grants work ≡ has_all_grants here work.entry
  grants-planned = ap (list_all (has_taken work.entry)) sites-planned

  pub votes-planned : own.has_all_votes work ≡ has_all_votes here work.entry
  votes-planned = ap (list_all (is_among work.entry.votes)) sites-planned

  -- So is for whom it waits.
  pub awaited-planned : own.awaited work ≡ awaited here work.entry
  awaited-planned = ap (λ (sites : List ℕ). unwrap_or (find (λ site. not (has_answered work.entry.stage work.entry site)) sites) 0) sites-planned
