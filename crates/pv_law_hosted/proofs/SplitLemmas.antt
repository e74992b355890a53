-- What waits, cut where a record has come into the file: what is done then, with all that appends nothing after it, and what waits for the next record.
use Rattle.std.proofs.Common.{◌≡◌, ◌⊎◌, inl, inr, ⊎_elim, ℕ, ◌≤◌, Option, Some, None, List, [], ◌∷◌, ◌++◌, length, map, All, append-nil, refl, ap, ap₂, ◌∙◌, arith}
use Rattle.std.specs.Prelude.{option_to_list}
use Rattle.std.proofs.lemmas.List.{map-append}
use Rattle.std.proofs.lemmas.List.Elements.{All-nil, All-cons, All-append}
use Rattle.pv_format.specs.Contents.{AreWritten}
use Rattle.pv_format.specs.Record.{Record}
use Rattle.pv_protocol.specs.Records.{journal_bytes}
use Rattle.pv_protocol.specs.Start.{Started, starts, too_long, no_epoch, site_start}
use Rattle.pv_protocol.specs.State.{Setup, Running, Input}
use Rattle.pv_embed.specs.Held.{Held, Out}
use Rattle.pv_law_hosted.proofs.GivenLemmas.{all-longer}
use Rattle.pv_law_hosted.specs.Given.{Content, Given, opened, input, started_with, opened_with, stepped_with, step_with, with_given, outs_of_given, with_all, outs_of_all, held_of_given, held_for, WaitsForRecord}

-- ## Written records
-- The contents that are as many as the first records are these as they are written.
pub written-front : (records more : List Record) (contents later : List (List ℕ)) → length records ≡ length contents → AreWritten (records ++ more) (contents ++ later)
    → AreWritten records contents
written-front [] more [] later same spelled = tt
written-front [] more (content ∷ contents) later same spelled = absurd (omega (arith, same))
written-front (one ∷ records) more [] later same spelled = absurd (omega (arith, same))
written-front (one ∷ records) more (content ∷ contents) later same spelled = (spelled.0, written-front records more contents later (omega (arith, same)) spelled.1)

pub written-length : (records : List Record) (contents : List (List ℕ)) → AreWritten records contents → length records ≡ length contents
written-length [] [] spelled = refl
written-length [] (content ∷ contents) spelled = absurd spelled
written-length (one ∷ records) [] spelled = absurd spelled
written-length (one ∷ records) (content ∷ contents) spelled = let rest = written-length records contents spelled.1 in omega (arith, rest)

-- ## What is held
held-at : (long : ℕ) (outs : List Out) → map (λ (one : Held). one.out) (map (λ out. record { length = long; out = out }) outs) ≡ outs
held-at long [] = refl
held-at long (out ∷ outs) = ap (λ (l : List Out). out ∷ l) (held-at long outs)

held-up-to : (long most : ℕ) (outs : List Out) → long ≤ most → All (λ (one : Held). one.length ≤ most) (map (λ out. record { length = long; out = out }) outs)
held-up-to long most [] le = All-nil (λ (one : Held). one.length ≤ most)
held-up-to long most (out ∷ outs) le =
    All-cons (λ (one : Held). one.length ≤ most) (record { length = long; out = out }) (map (λ out. record { length = long; out = out }) outs) le (held-up-to long most outs le)

-- The records are the same, or one more, and then the site is up.
abbrev pub IsUp : Content → Type 0
IsUp content = (running : Running) × (content.running ≡ Some running)

abbrev pub GrowsByOne : Content → Content → Type 0
GrowsByOne content after = (more : Record) × (after.records ≡ content.records ++ more ∷ []) × IsUp after

module _ (setup : Setup) (n : ℕ) where
  pub outs-held : (content : Content) (givens : List Given) → map (λ (one : Held). one.out) (held_for setup n content givens) ≡ outs_of_all setup n content givens
  outs-held content [] = refl
  outs-held content (given ∷ later) =
      let next = with_given setup n content given in
      map-append (λ (one : Held). one.out) (held_of_given setup n content given) (held_for setup n next later)
      ∙ ap₂ (λ (a b : List Out). a ++ b) (held-at (journal_bytes next.records) (outs_of_given setup n content given)) (outs-held next later)

  -- What is held of some things is held with no greater length than that of the journal after them.
  pub held-within : (content : Content) (givens : List Given)
      → All (λ (one : Held). one.length ≤ journal_bytes (with_all setup n content givens).records) (held_for setup n content givens)
  held-within content [] = All-nil (λ (one : Held). one.length ≤ journal_bytes content.records)
  held-within content (given ∷ later) =
      let next = with_given setup n content given in
      let most = journal_bytes (with_all setup n next later).records in
      All-append (λ (one : Held). one.length ≤ most) (held_of_given setup n content given) (held_for setup n next later)
      (held-up-to (journal_bytes next.records) most (outs_of_given setup n content given) (all-longer setup n next later)) (held-within next later)

  -- ## One record or none
  started-either : (content : Content) (started : Started)
      → ((started_with content started).records ≡ content.records) ⊎ GrowsByOne content (started_with content started)
  started-either content (starts running epoch) = inr (epoch, refl, (running, refl))
  started-either content (too_long length) = inl refl
  started-either content no_epoch = inl refl

  opened-either : (content : Content) (running : Option Running)
      → ((opened_with setup n content running).records ≡ content.records) ⊎ GrowsByOne content (opened_with setup n content running)
  opened-either content None = started-either content (site_start setup 0 content.records)
  opened-either content (Some running) = inl refl

  appended-either : (records : List Record) (running : Running) (appended : Option Record)
      → (records ++ option_to_list appended ≡ records)
      ⊎ ((more : Record) × (records ++ option_to_list appended ≡ records ++ more ∷ []) × ((later : Running) × (Some running ≡ Some later)))
  appended-either records running None = inl (append-nil records)
  appended-either records running (Some more) = inr (more, refl, (running, refl))

  stepped-either : (content : Content) (running : Option Running) (given : Input)
      → ((stepped_with setup n content running given).records ≡ content.records) ⊎ GrowsByOne content (stepped_with setup n content running given)
  stepped-either content None given = inl refl
  stepped-either content (Some running) given =
      let step = step_with setup n content running given in appended-either content.records step.running step.appended

  pub given-either : (content : Content) (given : Given)
      → ((with_given setup n content given).records ≡ content.records) ⊎ GrowsByOne content (with_given setup n content given)
  given-either content opened = opened-either content content.running
  given-either content (input given) = stepped-either content content.running given

  -- ## A site that is up stays up
  opened-up : (content : Content) (was : Option Running) → content.running ≡ was → (running : Running) → was ≡ Some running → IsUp (opened_with setup n content was)
  opened-up content None is running up = absurd cc
  opened-up content (Some one) is running up = (one, is)

  stepped-up : (content : Content) (was : Option Running) (given : Input) (running : Running) → was ≡ Some running → IsUp (stepped_with setup n content was given)
  stepped-up content None given running up = absurd cc
  stepped-up content (Some one) given running up = ((step_with setup n content one given).running, refl)

  given-up : (content : Content) (given : Given) → IsUp content → IsUp (with_given setup n content given)
  given-up content opened up = opened-up content content.running refl up.0 up.1
  given-up content (input given) up = stepped-up content content.running given up.0 up.1

  pub all-up : (content : Content) (givens : List Given) → IsUp content → IsUp (with_all setup n content givens)
  all-up content [] up = up
  all-up content (given ∷ later) up = all-up (with_given setup n content given) later (given-up content given up)

  -- ## The cut
  -- The first of the things append nothing, and the rest waits for a record.
  pub record Parted (content : Content) (givens : List Given) : Type 0 where
    pub quiet : List Given
    pub left : List Given
    pub split : givens ≡ quiet ++ left
    pub still : (with_all setup n content quiet).records ≡ content.records
    pub waits : WaitsForRecord setup n (with_all setup n content quiet) left

  pub parted : (content : Content) (givens : List Given) → Parted content givens
  parted content [] = record { quiet = []; left = []; split = refl; still = refl; waits = tt }
  parted content (given ∷ later) =
      let next = with_given setup n content given in
      let rest = parted next later in
      ⊎_elim
      (λ same. record {
        quiet = given ∷ rest.quiet;
        left = rest.left;
        split = ap (λ (l : List Given). given ∷ l) rest.split;
        still = rest.still ∙ same;
        waits = rest.waits;
      })
      (λ grows. record { quiet = []; left = given ∷ later; split = refl; still = refl; waits = (grows.0, grows.1) })
      (given-either content given)
