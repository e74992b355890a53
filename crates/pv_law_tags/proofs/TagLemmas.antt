-- Whatever is called on a site in bytes, its tags are those of the reports that it is to let out.
use Rattle.std.proofs.Common.{◌≡◌, ℕ, Bool, true, false, if◌then◌else◌, Option, Some, None, Result, Ok, Err, List, [], ◌∷◌, ◌++◌, map, append_assoc, append-nil, refl, sym, ap, ap₂, ◌∙◌}
use Rattle.std.specs.Prelude.{option_to_list, ⊤}
use Rattle.std.proofs.lemmas.List.{append_cancel_left, map-append}
use Rattle.pv_base.proofs.AssignmentLemmas.{same-from-eq}
use Rattle.pv_base.specs.declared.txn.TxnId.{TxnId}
use Rattle.pv_model.specs.Syntax.{Program}
use Rattle.pv_protocol.specs.State as model
use Rattle.pv_protocol.specs.State.{Note, Outgoing, receive, submit, tick}
use Rattle.pv_protocol.specs.Step.{step_on}
use Rattle.pv_site.specs.SiteState.{here_with}
use Rattle.pv_embed.specs.Held.{Held, Out, note}
use Rattle.pv_embed.specs.Hosted.{Gives, HasStepped, HostedState, Stays, log_length}
use Rattle.pv_embed.specs.Outcomes.{TellsOutcome}
use Rattle.pv_embed.specs.Outputs.{outs}
use Rattle.pv_embed.specs.Requests.{Begins, ReceivesBy, begun_by, begun_first, begun_in}
use Rattle.pv_embed.specs.declared.asked.Outcome.{Outcome}
use Rattle.pv_embed.specs.declared.asked.OutcomeFault.{OutcomeFault}
use Rattle.pv_embed.specs.declared.asked.OutcomeFault.TheVariants as asking
use Rattle.pv_embed.specs.declared.fault.ReceiveFault.{ReceiveFault}
use Rattle.pv_embed.specs.declared.fault.ReceiveFault.TheVariants as receiving
use Rattle.pv_embed.specs.declared.fault.SubmitFault.{SubmitFault}
use Rattle.pv_embed.specs.declared.fault.SubmitFault.TheVariants as submitting
use Rattle.pv_handle.specs.ByteSite.{AcceptsWrite, TakesWrite}
use Rattle.pv_handle.specs.ByteState.{ByteState}
use Rattle.pv_handle.specs.Tagged.{SubmitsTagged}
use Rattle.pv_handle.specs.Tags.{begun_of, is_tag_for, tag_of, tagged, tags_after}
use Rattle.pv_handle.specs.declared.given.Given.{Given}
use Rattle.pv_handle.specs.declared.given.Given.TheVariants as giving
use Rattle.pv_handle.specs.declared.tags.Tag.{Tag}
use Rattle.pv_law_tags.proofs.BegunLemmas.{begun_notes, message-none, submit-begun, tick-none}
use Rattle.pv_law_tags.specs.Tagging.{IsOfReport, IsTagged, Tagging, numbers_of}

-- ## Numbers
numbers-append : (held more : List Held) → numbers_of (held ++ more) ≡ numbers_of held ++ numbers_of more
numbers-append [] more = refl
numbers-append (first ∷ held) more =
    ap (λ (l : List TxnId). option_to_list (begun_of first.out) ++ l) (numbers-append held more)
    ∙ sym (append_assoc (option_to_list (begun_of first.out)) (numbers_of held) (numbers_of more))

-- what is held, of a step with so long a log
abbrev held_as : ℕ → List Out → List Held
held_as size out = map (λ (it : Out). record { length = size; out = it }) out

noted-numbers : (size : ℕ) (notes : List Note) → numbers_of (held_as size (map note notes)) ≡ begun_notes notes
noted-numbers size [] = refl
noted-numbers size (first ∷ notes) = ap (λ (l : List TxnId). option_to_list (begun_by first) ++ l) (noted-numbers size notes)

made-numbers : (me size : ℕ) (sends : List Outgoing) (notes : List Note) → numbers_of (held_as size (outs me sends notes)) ≡ begun_notes notes
made-numbers me size [] notes = noted-numbers size notes
made-numbers me size (sent ∷ sends) notes = made-numbers me size sends notes

-- Where the first report is the only one that may be of a number.
first-number : (me size : ℕ) (sends : List Outgoing) (notes : List Note) → begun_notes notes ≡ option_to_list (begun_first notes)
    → numbers_of (held_as size (outs me sends notes)) ≡ option_to_list (begun_in (held_as size (outs me sends notes)))
first-number me size [] [] is = refl
first-number me size [] (first ∷ notes) is = noted-numbers size (first ∷ notes) ∙ is
first-number me size (sent ∷ sends) notes is = first-number me size sends notes is

-- ## Steps
module _ (old new : HostedState) (input : model.Input) (s : HasStepped old new input) where
  abbrev step : model.Step
  step = step_on (here_with old.site s.running) input

  abbrev made : List Held
  made = held_as (log_length new) (outs new.site.me step.sends step.notes)

  pub stepped-numbers : numbers_of new.held ≡ numbers_of old.held ++ begun_notes step.notes
  stepped-numbers =
      ap numbers_of s.held ∙ numbers-append old.held made
      ∙ ap (λ (l : List TxnId). numbers_of old.held ++ l) (made-numbers new.site.me (log_length new) step.sends step.notes)

  -- No number is new.
  pub none-new : begun_notes step.notes ≡ [] → numbers_of new.held ≡ numbers_of old.held
  none-new none = stepped-numbers ∙ ap (λ (l : List TxnId). numbers_of old.held ++ l) none ∙ append-nil (numbers_of old.held)

pub asked-number : (old new : HostedState) (program : Program) → HasStepped old new (submit program) → (begun : Option TxnId) → Begins old new begun
    → numbers_of new.held ≡ numbers_of old.held ++ option_to_list begun
asked-number old new program s begun begins =
    let step = step_on (here_with old.site s.running) (submit program) in
    let made = held_as (log_length new) (outs new.site.me step.sends step.notes) in
    let same : begins.0 ≡ made = append_cancel_left old.held begins.0 made (sym begins.1 ∙ s.held) in
    ap numbers_of s.held ∙ numbers-append old.held made
    ∙ ap (λ (l : List TxnId). numbers_of old.held ++ l)
    (first-number new.site.me (log_length new) step.sends step.notes (submit-begun (here_with old.site s.running) program)
    ∙ ap (λ (l : List Held). option_to_list (begun_in l)) (sym same) ∙ ap option_to_list (sym begins.2))

-- ## Calls that give and tell no tag
module _ (tagging : Tagging) (old new : ByteState) (is : IsTagged tagging old) where
  pub still-tagged : new.tags ≡ old.tags → numbers_of new.hosted.held ≡ numbers_of old.hosted.held → IsTagged tagging new
  still-tagged tags held = record {
    kept = is.kept ∙ ap (λ (l : List Tag). tagging.told ++ l) (sym tags);
    numbers = ap (map (λ (tag : Tag). tag.txn)) tags ∙ is.numbers ∙ sym held;
  }

  same-held : new.hosted.held ≡ old.hosted.held → new.tags ≡ old.tags → IsTagged tagging new
  same-held held tags = still-tagged tags (ap numbers_of held)

  pub same-hosted : new.hosted ≡ old.hosted → new.tags ≡ old.tags → IsTagged tagging new
  same-hosted same tags = same-held (ap (λ (h : HostedState). h.held) same) tags

  stays-tagged : Stays old.hosted new.hosted → new.tags ≡ old.tags → IsTagged tagging new
  stays-tagged stays tags = same-held (ap (λ (h : HostedState). h.held) stays.1) tags

  as-it-was : new ≡ old → IsTagged tagging new
  as-it-was same = same-hosted (ap (λ (s : ByteState). s.hosted) same) (ap (λ (s : ByteState). s.tags) same)

  pub received-tagged : (bytes : List ℕ) (result : Result ⊤ ReceiveFault) → ReceivesBy old.hosted new.hosted bytes result → new.tags ≡ old.tags → IsTagged tagging new
  received-tagged bytes (Ok done) by tags =
      still-tagged tags (none-new old.hosted new.hosted (receive by.0.from by.0.message) by.4 (message-none (here_with old.hosted.site by.4.running) by.0.from by.0.message))
  received-tagged bytes (Err (receiving.Malformed error)) by tags = same-hosted by.0 tags
  received-tagged bytes (Err receiving.NotForHere) by tags = same-hosted by.0 tags
  received-tagged bytes (Err receiving.NoSender) by tags = same-hosted by.0 tags
  received-tagged bytes (Err receiving.NoMemory) by tags = stays-tagged by tags

  pub ticked-tagged : {E : Type 0} (result : Result ⊤ E) → Gives old.hosted new.hosted tick result → new.tags ≡ old.tags → IsTagged tagging new
  ticked-tagged (Ok done) by tags = still-tagged tags (none-new old.hosted new.hosted tick by (tick-none (here_with old.hosted.site by.running)))
  ticked-tagged (Err error) by tags = stays-tagged by tags

  pub asked-tagged : (room out : List ℕ) (given : Given) → TakesWrite room out old new given → IsTagged tagging new
  asked-tagged room out giving.Nothing by = as-it-was by.1
  asked-tagged room out (giving.Bytes count to) by = same-held (ap (λ (h : HostedState). h.held) by.0.asks.same) by.2
  asked-tagged room out (giving.TooSmall needed) by = as-it-was by.2

  pub written-tagged : {X E : Type 0} (place count : ℕ) (result : Result X E) → AcceptsWrite place count old new result → IsTagged tagging new
  written-tagged place count (Ok done) by = same-held (ap (λ (h : HostedState). h.held) by.2.same) by.4
  written-tagged place count (Err error) by = as-it-was by.1

  pub told-tagged : (txn : TxnId) (result : Result Outcome OutcomeFault) → TellsOutcome old.hosted new.hosted txn result → new.tags ≡ old.tags → IsTagged tagging new
  told-tagged txn (Ok outcome) told tags = same-hosted told.0 tags
  told-tagged txn (Err asking.NotHere) told tags = same-hosted told.0 tags
  told-tagged txn (Err asking.Unwritten) told tags = same-hosted told.0 tags
  told-tagged txn (Err asking.NotBegun) told tags = same-hosted told.0 tags
  told-tagged txn (Err asking.NoMemory) told tags = stays-tagged told tags

  -- ## A request
  pub refused-tagged : (text : List ℕ) (query : Bool) (tag : ℕ) (fault : SubmitFault) → SubmitsTagged {X = ⊤} text query tag old new (Err fault) → IsTagged tagging new
  refused-tagged text query tag (submitting.Text error) by = same-hosted by.0.0 by.2
  refused-tagged text query tag (submitting.Program error) by = same-hosted by.0.0 by.2
  refused-tagged text query tag submitting.NoMemory by = stays-tagged by.0 by.2

  one-tag : (begun : Option TxnId) (tag : ℕ) → map (λ (it : Tag). it.txn) (tagged begun tag) ≡ option_to_list begun
  one-tag None tag = refl
  one-tag (Some txn) tag = refl

  pub submitted-tagged : {X : Type 0} (text : List ℕ) (query : Bool) (tag : ℕ) (done : X) → SubmitsTagged text query tag old new (Ok done)
      → (begun : Option TxnId) × Begins old.hosted new.hosted begun × IsTagged (record tagging { given = tagging.given ++ tagged begun tag }) new
  submitted-tagged text query tag done by =
      let begun = by.2.0 in
      let begins = by.2.1 in
      let tags = by.2.2 in (
        begun,
        begins,
        record {
          kept = ap (λ (l : List Tag). l ++ tagged begun tag) is.kept ∙ append_assoc tagging.told old.tags (tagged begun tag)
              ∙ ap (λ (l : List Tag). tagging.told ++ l) (sym tags);
          numbers = ap (map (λ (it : Tag). it.txn)) tags ∙ map-append (λ (it : Tag). it.txn) old.tags (tagged begun tag)
              ∙ ap₂ (λ (a b : List TxnId). a ++ b) is.numbers (one-tag begun tag)
              ∙ sym (asked-number old.hosted new.hosted by.0.0 by.0.3 begun begins);
        },
      )

-- ## What is let out
if-same : {X : Type 0} (test : Bool) (x y : X) → test ≡ true → (if test then x else y) ≡ x
if-same true x y is = refl
if-same false x y is = absurd cc

-- What goes with a report of no number.
no-tag : (begun : Option TxnId) (tags : List Tag) (out : Out) → begun_of out ≡ begun → begun ≡ None → (tag_of out tags ≡ 0) × (tags_after out tags ≡ tags)
no-tag begun [] out is none = (refl, refl)
no-tag begun (first ∷ tags) out is none =
    let untold : is_tag_for (begun_of out) first ≡ false = ap (λ (b : Option TxnId). is_tag_for b first) (is ∙ none) in
    (ap (λ (b : Bool). if b then first.tag else 0) untold, ap (λ (b : Bool). if b then tags else first ∷ tags) untold)

module _ (tagging : Tagging) (old new : ByteState) (is : IsTagged tagging old) (next : Held) (later : List Held) (tag : ℕ)
    (held : old.hosted.held ≡ next ∷ later) (left : new.hosted.held ≡ later) (with_tag : tag ≡ tag_of next.out old.tags) (after : new.tags ≡ tags_after next.out old.tags) where
  abbrev Told : Option TxnId → Type 0
  Told begun = IsOfReport begun tag × IsTagged (record tagging { told = tagging.told ++ tagged begun tag }) new

  numbers-now : map (λ (it : Tag). it.txn) old.tags ≡ option_to_list (begun_of next.out) ++ numbers_of new.hosted.held
  numbers-now = is.numbers ∙ ap numbers_of held ∙ ap (λ (l : List Held). option_to_list (begun_of next.out) ++ numbers_of l) (sym left)

  -- the first tag is that of the number that is reported
  first-told : (txn : TxnId) (tags : List Tag) → old.tags ≡ tags → begun_of next.out ≡ Some txn → map (λ (it : Tag). it.txn) tags ≡ txn ∷ numbers_of new.hosted.held → Told (Some txn)
  first-told txn [] all begun numbers = absurd cc
  first-told txn (first ∷ rest) all begun numbers =
      let own : first.txn ≡ txn = cc in
      let others : map (λ (it : Tag). it.txn) rest ≡ numbers_of new.hosted.held = cc in
      let is_own : is_tag_for (begun_of next.out) first ≡ true = ap (λ (b : Option TxnId). is_tag_for b first) begun ∙ same-from-eq own in
      let tag_is : tag ≡ first.tag =
      with_tag ∙ ap (tag_of next.out) all ∙ if-same (is_tag_for (begun_of next.out) first) first.tag 0 is_own in
      let tags_are : new.tags ≡ rest =
      after ∙ ap (tags_after next.out) all ∙ if-same (is_tag_for (begun_of next.out) first) rest (first ∷ rest) is_own in
      let one : first ≡ record { txn = txn; tag = tag } = ap₂ (λ (t : TxnId) (n : ℕ). record { txn = t; tag = n }) own (sym tag_is) in (
        tt,
        record {
          kept = is.kept ∙ ap (λ (l : List Tag). tagging.told ++ l) (all ∙ ap₂ (λ (a : Tag) (l : List Tag). a ∷ l) one (sym tags_are))
              ∙ sym (append_assoc tagging.told (record { txn = txn; tag = tag } ∷ []) new.tags);
          numbers = ap (map (λ (it : Tag). it.txn)) tags_are ∙ others;
        },
      )

  told-with : (begun : Option TxnId) → begun_of next.out ≡ begun → Told begun
  told-with None none =
      let nothing = no-tag None old.tags next.out none refl in
      let same : new.tags ≡ old.tags = after ∙ nothing.1 in (
        with_tag ∙ nothing.0,
        record {
          kept = is.kept ∙ ap₂ (λ (a b : List Tag). a ++ b) (sym (append-nil tagging.told)) (sym same);
          numbers = ap (map (λ (it : Tag). it.txn)) same ∙ numbers-now ∙ ap (λ (b : Option TxnId). option_to_list b ++ numbers_of new.hosted.held) none;
        },
      )
  told-with (Some txn) some =
      first-told txn old.tags refl some (numbers-now ∙ ap (λ (b : Option TxnId). option_to_list b ++ numbers_of new.hosted.held) some)

  pub taken-tagged : Told (begun_of next.out)
  taken-tagged = told-with (begun_of next.out) refl
