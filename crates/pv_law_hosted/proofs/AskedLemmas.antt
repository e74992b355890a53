-- What may be given one after another; and that what begins by a request was asked for.
use Rattle.std.proofs.Common.{◌≡◌, ◌⊎◌, inl, inr, ⊎_elim, ℕ, Bool, true, false, if◌then◌else◌, Option, Some, None, List, [], ◌∷◌, ◌++◌, length, map, drop, refl, sym, ap, ap₂, ◌∙◌, subst}
use Rattle.std.specs.List.{Contains}
use Rattle.std.specs.Option.{option_or}
use Rattle.std.proofs.Math.Seq.{drop-append_seam}
use Rattle.std.proofs.lemmas.List.Elements.{Contains-append_left, Contains-append_right}
use Rattle.pv_base.proofs.AssignmentLemmas.{same-eq, same-refl}
use Rattle.pv_base.proofs.ContainsLemmas.{Contains-behind, Contains-cases, Contains-first, Contains-nil}
use Rattle.pv_base.proofs.MapLemmas.{Contains-map}
use Rattle.pv_base.specs.Assignment.{is_same_txn}
use Rattle.pv_base.specs.declared.txn.TxnId.{TxnId}
use Rattle.pv_model.specs.Syntax.{Program}
use Rattle.pv_protocol.specs.State as model
use Rattle.pv_protocol.specs.State.{Setup, Running, Input, Note, submit, receive, tick, began}
use Rattle.pv_protocol.specs.Step.{site_step, step_on}
use Rattle.pv_site.specs.SiteState.{SiteState, here_with, setup_of}
use Rattle.pv_host.specs.HostLog.{HostState}
use Rattle.pv_embed.specs.Held.{Held, Out, message, note}
use Rattle.pv_embed.specs.Hosted.{HasStepped, HostedState, log_length}
use Rattle.pv_embed.specs.Outputs.{outs}
use Rattle.pv_law_hosted.specs.Asked.{Asked, asked_after, asked_as, begun_of, begun_out}
use Rattle.pv_law_hosted.specs.Deployment.{Deployment}
use Rattle.pv_law_hosted.specs.DeploymentEvents.{MayTake}
use Rattle.pv_law_hosted.specs.Given as process
use Rattle.pv_law_hosted.specs.Given.{Content, Given, IsAskedFor, MayAllBeGiven, MayBeGiven, outs_of_all, outs_of_given, outs_with, with_all, with_given}
use Rattle.pv_law_hosted.specs.Mirrored.{FollowsHosted}

-- ## One after another
module _ (setup : Setup) (n : ℕ) where
  pub may-append : (d : Deployment) (asked : List Asked) (content : Content) (earlier later : List Given) → MayAllBeGiven setup n d asked content earlier
      → MayAllBeGiven setup n d asked (with_all setup n content earlier) later → MayAllBeGiven setup n d asked content (earlier ++ later)
  may-append d asked content [] later first then_on = then_on
  may-append d asked content (given ∷ earlier) later first then_on =
      (first.0, may-append d asked (with_given setup n content given) earlier later first.1 then_on)

  pub may-parts : (d : Deployment) (asked : List Asked) (content : Content) (earlier later : List Given) → MayAllBeGiven setup n d asked content (earlier ++ later)
      → MayAllBeGiven setup n d asked content earlier × MayAllBeGiven setup n d asked (with_all setup n content earlier) later
  may-parts d asked content [] later all = (tt, all)
  may-parts d asked content (given ∷ earlier) later all =
      let rest = may-parts d asked (with_given setup n content given) earlier later all.1 in ((all.0, rest.0), rest.1)

  -- ## What more was let out and asked for
  -- What was asked for still was, with the numbers of all that is let out of this.
  module _ (d after : Deployment) (asked more : List Asked) (may : (input : Input) → MayTake setup.catalog d n input → MayTake setup.catalog after n input) (everything : List Out)
      (kept : (txn : TxnId) (program : Program) → Contains everything (note (began txn)) → asked_as asked txn ≡ Some program → asked_as more txn ≡ Some program) where
    asked-more : (content : Content) (running : Option Running) (input : Input) → ((out : Out) → Contains (outs_with setup n content running input) out → Contains everything out)
        → IsAskedFor setup n asked content running input → IsAskedFor setup n more content running input
    asked-more content None input inside is = tt
    asked-more content (Some running) (submit program) inside is =
        let notes = (site_step setup n content.records running (submit program)).notes in
        λ txn there.
        kept txn program (inside (note (began txn)) (Contains-append_right _ (map note notes) (note (began txn)) (Contains-map note notes (began txn) there))) (is txn there)
    asked-more content (Some running) (receive from brought) inside is = tt
    asked-more content (Some running) tick inside is = tt

    given-more : (content : Content) (given : Given) → ((out : Out) → Contains (outs_of_given setup n content given) out → Contains everything out)
        → MayBeGiven setup n d asked content given → MayBeGiven setup n after more content given
    given-more content process.opened inside is = tt
    given-more content (process.input input) inside is = (may input is.0, asked-more content content.running input inside is.1)

    pub all-more : (content : Content) (givens : List Given) → ((out : Out) → Contains (outs_of_all setup n content givens) out → Contains everything out)
        → MayAllBeGiven setup n d asked content givens → MayAllBeGiven setup n after more content givens
    all-more content [] inside all = tt
    all-more content (given ∷ later) inside all =
        let first = outs_of_given setup n content given in
        let rest = outs_of_all setup n (with_given setup n content given) later in (
          given-more content given (λ out there. inside out (Contains-append_left first rest out there)) all.0,
          all-more (with_given setup n content given) later (λ out there. inside out (Contains-append_right first rest out there)) all.1,
        )

-- ## What was asked for
or-nothing : {X : Type 0} (found : Option X) → option_or found None ≡ found
or-nothing None = refl
or-nothing (Some x) = refl

or-later : {X : Type 0} (first second third : Option X) → option_or (option_or first second) third ≡ option_or first (option_or second third)
or-later None second third = refl
or-later (Some x) second third = refl

asked-append : (asked more : List Asked) (txn : TxnId) → asked_as (asked ++ more) txn ≡ option_or (asked_as more txn) (asked_as asked txn)
asked-append [] more txn = sym (or-nothing (asked_as more txn))
asked-append (first ∷ asked) more txn =
    let here : Option Program = if is_same_txn first.txn txn then Some first.program else None in
    ap (λ (found : Option Program). option_or found here) (asked-append asked more txn) ∙ or-later (asked_as more txn) (asked_as asked txn) here

module _ (program : Program) (txn : TxnId) where
  -- Nothing of this number has begun, or this program, and that is said.
  abbrev IsEither : Option Program → Type 0 → Type 0
  IsEither found said = (found ≡ None) ⊎ ((found ≡ Some program) × said)

  same-either : (other : TxnId) (test : Bool) → is_same_txn other txn ≡ test
      → IsEither (if test then Some program else None) (note (began other) ≡ note (began txn))
  same-either other true is = inr (refl, ap (λ (t : TxnId). note (began t)) (same-eq is))
  same-either other false is = inl refl

  out-either : (out : Out) → IsEither (asked_as (begun_out program out) txn) (out ≡ note (began txn))
  out-either (message envelope) = inl refl
  out-either (note (began other)) = same-either other (is_same_txn other txn) refl
  out-either (note (model.committed other replies)) = inl refl
  out-either (note (model.refused other cause)) = inl refl
  out-either (note (model.full length)) = inl refl
  out-either (note model.spent) = inl refl

  -- what is found of two
  both-either : (later first : Option Program) (said told : Type 0) → IsEither later said → IsEither first told → IsEither (option_or later first) (said ⊎ told)
  both-either later first said told (inl none) (inl nothing) = inl (ap₂ (λ (a b : Option Program). option_or a b) none nothing)
  both-either later first said told (inl none) (inr some) = inr (ap₂ (λ (a b : Option Program). option_or a b) none some.0, inr some.1)
  both-either later first said told (inr some) other = inr (ap (λ (a : Option Program). option_or a first) some.0, inl some.1)

  begun-either : (made : List Held) → IsEither (asked_as (begun_of program made) txn) (Contains (map (λ (one : Held). one.out) made) (note (began txn)))
  begun-either [] = inl refl
  begun-either (first ∷ made) =
      let outs = map (λ (one : Held). one.out) made in
      let found = both-either (asked_as (begun_of program made) txn) (asked_as (begun_out program first.out) txn) (Contains outs (note (began txn))) (first.out ≡ note (began txn))
      (begun-either made) (out-either first.out) in
      let is = asked-append (begun_out program first.out) (begun_of program made) txn in
      ⊎_elim
      (λ none. inl (is ∙ none))
      (λ some. inr (
        is ∙ some.0,
        ⊎_elim
            (λ behind. Contains-behind first.out outs (note (began txn)) behind)
            (λ here. subst (λ (out : Out). Contains (out ∷ outs) (note (began txn))) (sym here) (Contains-first (note (began txn)) outs)) some.1,
      ))
      found

  -- What is said to have begun has.
  begun-there : (made : List Held) → Contains (map (λ (one : Held). one.out) made) (note (began txn)) → asked_as (begun_of program made) txn ≡ Some program
  begun-there [] there = absurd (Contains-nil (note (began txn)) there)
  begun-there (first ∷ made) there =
      let outs = map (λ (one : Held). one.out) made in
      let is = asked-append (begun_out program first.out) (begun_of program made) txn in
      let here : Option Program = asked_as (begun_out program first.out) txn in
      is ∙ ⊎_elim
      (λ same.
      let own : here ≡ Some program =
      ap (λ (out : Out). asked_as (begun_out program out) txn) same ∙ ap (λ (b : Bool). if b then Some program else None) (same-refl txn) in
      ⊎_elim
      (λ none. ap₂ (λ (a b : Option Program). option_or a b) none own)
      (λ some. ap (λ (a : Option Program). option_or a here) some.0)
      (begun-either made))
      (λ behind. ap (λ (a : Option Program). option_or a here) (begun-there made behind))
      (Contains-cases first.out outs (note (began txn)) there)

-- What was asked for still was, where its number isn't given anew.
pub asked-kept : (asked : List Asked) (input : Input) (made : List Held) (txn : TxnId) (program : Program)
    → (Contains (map (λ (one : Held). one.out) made) (note (began txn)) → ⊥) → asked_as asked txn ≡ Some program → asked_as (asked_after asked input made) txn ≡ Some program
asked-kept asked (submit other) made txn program fresh is =
    asked-append asked (begun_of other made) txn
    ∙ ⊎_elim (λ none. ap₂ (λ (a b : Option Program). option_or a b) none is) (λ some. absurd (fresh some.1)) (begun-either other txn made)
asked-kept asked (receive from brought) made txn program fresh is = is
asked-kept asked tick made txn program fresh is = is

asked-input : (setup : Setup) (n : ℕ) (asked : List Asked) (content : Content) (running : Running) (input : Input) (made : List Held)
    → ((txn : TxnId) → Contains (site_step setup n content.records running input).notes (began txn) → Contains (map (λ (one : Held). one.out) made) (note (began txn)))
    → IsAskedFor setup n (asked_after asked input made) content (Some running) input
asked-input setup n asked content running (submit program) made out =
    λ txn there.
    asked-append asked (begun_of program made) txn
    ∙ ap (λ (found : Option Program). option_or found (asked_as asked txn)) (begun-there program txn made (out txn there))
asked-input setup n asked content running (receive from brought) made out = tt
asked-input setup n asked content running tick made out = tt

-- what is held, without the lengths
pub outs-of-held : (size : ℕ) (out : List Out) → map (λ (one : Held). one.out) (map (λ (it : Out). record { length = size; out = it }) out) ≡ out
outs-of-held size [] = refl
outs-of-held size (first ∷ out) = ap (λ (l : List Out). first ∷ l) (outs-of-held size out)

-- ## A step
module _ (setup : Setup) (n : ℕ) (site next : HostedState) (me : site.site.me ≡ n) (catalog : setup_of site.site.catalog ≡ setup) (surplus : site.site.surplus ≡ 0)
    (input : Input) (s : HasStepped site next input) where
  abbrev step : model.Step
  step = site_step setup n site.site.records s.running input

  same-step : step_on (here_with site.site s.running) input ≡ step
  same-step = λ i. step_on (record { me = me i; setup = catalog i; records = site.site.records; surplus = surplus i; running = s.running }) input

  same-me : next.site.me ≡ n
  same-me = ap (λ (after : SiteState HostState). after.me) s.steps.site ∙ me

  -- what the site has made
  abbrev pub made : List Held
  made = drop (length site.held) next.held

  pub new-outs : map (λ (one : Held). one.out) made ≡ outs n step.sends step.notes
  new-outs =
      ap (λ (l : List Held). map (λ (one : Held). one.out) (drop (length site.held) l)) s.held
      ∙ ap (map (λ (one : Held). one.out)) (drop-append_seam site.held _)
      ∙ outs-of-held (log_length next) _
      ∙ ap₂ (λ (me : ℕ) (made : model.Step). outs me made.sends made.notes) same-me same-step

  noted-out : (txn : TxnId) → Contains step.notes (began txn) → Contains (map (λ (one : Held). one.out) made) (note (began txn))
  noted-out txn there =
      subst (λ (l : List Out). Contains l (note (began txn))) (sym new-outs)
      (Contains-append_right _ (map note step.notes) (note (began txn)) (Contains-map note step.notes (began txn) there))

  pub asked-now : (asked : List Asked) → IsAskedFor setup n (asked_after asked input made) (record { records = site.site.records; running = Some s.running }) (Some s.running) input
  asked-now asked = asked-input setup n asked (record { records = site.site.records; running = Some s.running }) s.running input made noted-out

-- What begins by what the site takes was asked for then, behind whatever was asked for before.
pub last-asked : (setup : Setup) (d : Deployment) (n : ℕ) (asked : List Asked) (file : List ℕ) (site next : HostedState) (content : Content) (rest : List Out)
    (f : FollowsHosted setup d n asked file site content rest) (input : Input) → HasStepped site next input → (before : List Asked)
    → IsAskedFor setup n (asked_after before input (drop (length site.held) next.held)) (with_all setup n content f.waiting) (with_all setup n content f.waiting).running input
last-asked setup d n asked file site next content rest f input s before =
    let after = asked_after before input (drop (length site.held) next.held) in
    let here : with_all setup n content f.waiting ≡ record { records = site.site.records; running = Some s.running } =
    f.come ∙ ap (λ (running : Option Running). record { records = site.site.records; running = running }) s.was in
    subst (λ (c : Content). IsAskedFor setup n after c c.running input) (sym here) (asked-now setup n site next f.me f.catalog f.surplus input s before)

-- What waits may still be given, and then what the site takes, where what begins by that was asked for.
pub all-taken : (setup : Setup) (d : Deployment) (n : ℕ) (asked : List Asked) (file : List ℕ) (site next : HostedState) (content : Content) (rest : List Out)
    (f : FollowsHosted setup d n asked file site content rest) (input : Input) → MayTake setup.catalog d n input → HasStepped site next input
    → ((txn : TxnId) → Contains (map (λ (one : Held). one.out) (drop (length site.held) next.held)) (note (began txn))
    → Contains (outs_of_all setup n content f.waiting) (note (began txn)) → ⊥)
    → MayAllBeGiven setup n d (asked_after asked input (drop (length site.held) next.held)) content (f.waiting ++ process.input input ∷ [])
all-taken setup d n asked file site next content rest f input may s fresh =
    let made = drop (length site.held) next.held in
    let after = asked_after asked input made in
    may-append setup n d after content f.waiting (process.input input ∷ [])
    (all-more setup n d d asked after (λ given is. is) (outs_of_all setup n content f.waiting)
    (λ txn program there is. asked-kept asked input made txn program (λ given. fresh txn given there) is) content f.waiting (λ out there. there) f.allowed)
    ((may, last-asked setup d n asked file site next content rest f input s asked), tt)
