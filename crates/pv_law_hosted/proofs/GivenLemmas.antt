-- What things given make one after another: records only grow, and what is held of a step is held with the length that the journal has after it.
use Rattle.std.proofs.Common.{◌≡◌, ℕ, ◌+◌, ◌≤◌, Option, Some, None, List, [], ◌∷◌, ◌++◌, map, All, append_assoc, refl, sym, ap, ◌∙◌, subst, arith}
use Rattle.std.specs.Prelude.{option_to_list}
use Rattle.std.proofs.lemmas.List.Elements.{All-nil, All-cons, All-append}
use Rattle.std.proofs.lemmas.List.Sums.{sum_by-append, sum_by-cons}
use Rattle.pv_format.specs.Record.{Record}
use Rattle.pv_law_world.proofs.GrowthLemmas.{Extends, same}
use Rattle.pv_protocol.specs.Records.{journal_bytes, record_bytes}
use Rattle.pv_protocol.specs.Start.{Started, starts, too_long, no_epoch, site_start}
use Rattle.pv_protocol.specs.State.{Setup, Running, Input}
use Rattle.pv_embed.specs.Held.{Held, Out}
use Rattle.pv_law_hosted.specs.Given.{Content, Given, opened, input, started_with, opened_with, stepped_with, step_with, with_given, outs_of_given, with_all, held_of_given, held_for, WaitsForRecord}

-- ## Lengths
pub journal-grows : (front more : List Record) → journal_bytes front ≤ journal_bytes (front ++ more)
unfolding journal_bytes
journal-grows front more = omega (arith, sum_by-append record_bytes front more)

pub journal-one : (front : List Record) (one : Record) → journal_bytes front + 1 ≤ journal_bytes (front ++ one ∷ [])
unfolding journal_bytes
journal-one front one = omega (arith, sum_by-append record_bytes front (one ∷ []), sum_by-cons record_bytes one [])

-- what is held with one length
held-long : (low long : ℕ) (outs : List Out) → low ≤ long → All (λ (one : Held). low ≤ one.length) (map (λ out. record { length = long; out = out }) outs)
held-long low long [] le = All-nil (λ (one : Held). low ≤ one.length)
held-long low long (out ∷ outs) le =
    All-cons (λ (one : Held). low ≤ one.length) (record { length = long; out = out }) (map (λ out. record { length = long; out = out }) outs) le (held-long low long outs le)

module _ (setup : Setup) (n : ℕ) where
  -- ## Records grow
  started-grows : (content : Content) (started : Started) → Extends content.records (started_with content started).records
  started-grows content (starts running epoch) = (epoch ∷ [], refl)
  started-grows content (too_long length) = same content.records
  started-grows content no_epoch = same content.records

  opened-grows : (content : Content) (running : Option Running) → Extends content.records (opened_with setup n content running).records
  opened-grows content None = started-grows content (site_start setup 0 content.records)
  opened-grows content (Some running) = same content.records

  stepped-grows : (content : Content) (running : Option Running) (given : Input) → Extends content.records (stepped_with setup n content running given).records
  stepped-grows content None given = same content.records
  stepped-grows content (Some running) given = (option_to_list (step_with setup n content running given).appended, refl)

  pub given-grows : (content : Content) (given : Given) → Extends content.records (with_given setup n content given).records
  given-grows content opened = opened-grows content content.running
  given-grows content (input given) = stepped-grows content content.running given

  pub all-grows : (content : Content) (givens : List Given) → Extends content.records (with_all setup n content givens).records
  all-grows content [] = same content.records
  all-grows content (given ∷ later) =
      let first = given-grows content given in
      let rest = all-grows (with_given setup n content given) later in
      (first.0 ++ rest.0, rest.1 ∙ ap (λ (all : List Record). all ++ rest.0) first.1 ∙ append_assoc content.records first.0 rest.0)

  pub all-longer : (content : Content) (givens : List Given) → journal_bytes content.records ≤ journal_bytes (with_all setup n content givens).records
  all-longer content givens =
      let grown = all-grows content givens in
      subst (λ (records : List Record). journal_bytes content.records ≤ journal_bytes records) (sym grown.1) (journal-grows content.records grown.0)

  -- ## Some and then more
  pub with_all-append : (content : Content) (front back : List Given) → with_all setup n content (front ++ back) ≡ with_all setup n (with_all setup n content front) back
  with_all-append content [] back = refl
  with_all-append content (given ∷ front) back = with_all-append (with_given setup n content given) front back

  pub held_for-append : (content : Content) (front back : List Given)
      → held_for setup n content (front ++ back) ≡ held_for setup n content front ++ held_for setup n (with_all setup n content front) back
  held_for-append content [] back = refl
  held_for-append content (given ∷ front) back =
      let next = with_given setup n content given in
      ap (λ (all : List Held). held_of_given setup n content given ++ all) (held_for-append next front back)
      ∙ sym (append_assoc (held_of_given setup n content given) (held_for setup n next front) (held_for setup n (with_all setup n next front) back))

  -- ## What is held
  pub held-above : (low : ℕ) (content : Content) (givens : List Given) → low ≤ journal_bytes content.records
      → All (λ (one : Held). low ≤ one.length) (held_for setup n content givens)
  held-above low content [] le = All-nil (λ (one : Held). low ≤ one.length)
  held-above low content (given ∷ later) le =
      let next = with_given setup n content given in
      let grown = given-grows content given in
      let longer : journal_bytes content.records ≤ journal_bytes next.records =
      subst (λ (records : List Record). journal_bytes content.records ≤ journal_bytes records) (sym grown.1) (journal-grows content.records grown.0) in
      let le' : low ≤ journal_bytes next.records = omega (arith, le, longer) in
      All-append (λ (one : Held). low ≤ one.length) (held_of_given setup n content given) (held_for setup n next later)
      (held-long low (journal_bytes next.records) (outs_of_given setup n content given) le') (held-above low next later le')

  first-longer : (content : Content) (given : Given) (later : List Given) → WaitsForRecord setup n content (given ∷ later)
      → journal_bytes content.records + 1 ≤ journal_bytes (with_given setup n content given).records
  first-longer content given later waits =
      subst (λ (records : List Record). journal_bytes content.records + 1 ≤ journal_bytes records) (sym waits.1) (journal-one content.records waits.0)

  -- What is held of things that wait for a record needs a longer journal.
  pub held-waits : (content : Content) (waiting : List Given) → WaitsForRecord setup n content waiting
      → All (λ (one : Held). journal_bytes content.records + 1 ≤ one.length) (held_for setup n content waiting)
  held-waits content [] waits = All-nil (λ (one : Held). journal_bytes content.records + 1 ≤ one.length)
  held-waits content (given ∷ later) waits =
      let next = with_given setup n content given in
      let low = journal_bytes content.records + 1 in
      let le = first-longer content given later waits in
      All-append (λ (one : Held). low ≤ one.length) (held_of_given setup n content given) (held_for setup n next later)
      (held-long low (journal_bytes next.records) (outs_of_given setup n content given) le) (held-above low next later le)

  -- Where the journal became no longer nothing waits.
  pub nothing-waits : (content : Content) (waiting : List Given) → WaitsForRecord setup n content waiting
      → journal_bytes (with_all setup n content waiting).records ≤ journal_bytes content.records → waiting ≡ []
  nothing-waits content [] waits le = refl
  nothing-waits content (given ∷ later) waits le =
      absurd (omega (arith, le, first-longer content given later waits, all-longer (with_given setup n content given) later))
